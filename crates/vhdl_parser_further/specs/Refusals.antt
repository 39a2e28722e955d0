-- What is found in what is left of the tokens of a source.
use Rattle.std.specs.Prelude.{◌≡◌, ◌⊎◌, ℕ, ◌<◌, ◌≤◌, List, [], Some}
use Rattle.vhdl_lexer.specs.declared.language.Language.{Language}
use Rattle.vhdl_lexer.specs.declared.token.Token.{Token}
use Rattle.vhdl_parser_rules.specs.Fault.{IsRefusal, IsTooDeep, IsPlaced, fault_byte}
use Rattle.vhdl_parser_rules.specs.Stuck.{IsStuckIn}
use Rattle.vhdl_parser_rules.specs.declared.fault.SyntaxFault.{SyntaxFault}
use Rattle.vhdl_parser_further.specs.declared.next.Next.{Next}
use Rattle.vhdl_parser_further.specs.declared.next.Next.TheVariants.{Found, Nothing, NoMemory}
use Rattle.vhdl_tree.specs.Levels.{IsDeep, most_open}
use Rattle.vhdl_tree.specs.Lexeme.{lexemes}
use Rattle.vhdl_tree.specs.Pieces.{Spells}
use Rattle.vhdl_tree.specs.Tree.{File}
use Rattle.vhdl_tree.specs.grammar.Units.{spell_file, IsFileIn}

-- the tokens spell this tree, which is well formed in this language
pub record IsTreeOf (language : Language) (source : List ℕ) (tokens : List Token) (file : File) : Type 0 where
  pub spelled : Spells (spell_file file) (lexemes source tokens) []
  pub well_formed : IsFileIn language file

-- The tokens spell no well-formed tree, or open more levels than the limit. Unexpected is told of the first token with
-- which no file goes on, and EndOfFile at the end of a source all of whose tokens begin a file. The fault is told at
-- this byte.
pub record Refuses (language : Language) (source : List ℕ) (tokens : List Token) (fault : SyntaxFault) (at : ℕ) : Type 0
  where
    pub refused : IsRefusal fault → (file : File) → IsTreeOf language source tokens file → ⊥
    pub deep : IsTooDeep fault → IsDeep most_open (lexemes source tokens)
    pub met : IsPlaced source tokens fault
    pub stuck : IsStuckIn language source tokens fault
    pub told : fault_byte fault ≡ Some at

-- a tree spells the tokens, or their fault isn't told behind the byte
abbrev pub HasNoFurther : Language → (source : List ℕ) → (tokens : List Token) → (at : ℕ) → Type 0
HasNoFurther language source tokens at =
    ((file : File) × IsTreeOf language source tokens file)
    ⊎ ((fault : SyntaxFault) × (told : ℕ) × Refuses language source tokens fault told × (told ≤ at))

-- this is found in what is left behind a fault that is told at this byte
abbrev pub Finds : Language → (source : List ℕ) → (left : List Token) → (at : ℕ) → Next → Type 0
Finds language source left at (Found tokens fault told) =
    (tokens.items ≡ left) × Refuses language source left fault told × (at < told)
Finds language source left at Nothing = HasNoFurther language source left at
Finds language source left at NoMemory = Unit {0}
