-- The tree of a source, and why there is none (IEEE 1076-2008, clause 15 and the grammar of clauses 3 to 11).
use Rattle.std.specs.Prelude.{◌≡◌, ℕ, List, [], None}
use Rattle.vhdl_lexer.specs.Cut.{Cuts}
use Rattle.vhdl_lexer.specs.declared.language.Language.{Language}
use Rattle.vhdl_lexer.specs.declared.token.Token.{Token}
use Rattle.vhdl_parser_rules.specs.Fault.{IsRefusal, IsTooDeep, IsPlaced}
use Rattle.vhdl_parser_rules.specs.Stuck.{IsStuckIn}
use Rattle.vhdl_parser_rules.specs.declared.fault.SyntaxFault.{SyntaxFault}
use Rattle.vhdl_tree.specs.Levels.{IsShallow, IsDeep, most_open}
use Rattle.vhdl_tree.specs.Lexeme.{lexemes}
use Rattle.vhdl_tree.specs.Pieces.{Spells}
use Rattle.vhdl_tree.specs.Tree.{File}
use Rattle.vhdl_tree.specs.grammar.Units.{spell_file, IsFileIn}

-- the tree spells the tokens of a source
abbrev pub SpellsTokens : (source : List ℕ) → List Token → File → Type 0
SpellsTokens source tokens file = Spells (spell_file file) (lexemes source tokens) []

-- the source's one list of tokens spells this one tree that is well formed in this language, which opens no more levels
-- than the limit
pub record IsFileOf (language : Language) (source : List ℕ) (file : File) : Type 0 where
  pub tokens : List Token
  pub cut : Cuts None 0 source tokens
  pub only_tokens : (other : List Token) → Cuts None 0 source other → other ≡ tokens
  pub spelled : SpellsTokens source tokens file
  pub well_formed : IsFileIn language file
  pub only_file : (other : File) → IsFileIn language other → SpellsTokens source tokens other → other ≡ file
  pub shallow : IsShallow most_open (lexemes source tokens)

-- No tree that is well formed in this language spells the source's one list of tokens, or the tokens open more levels
-- than the limit. Unexpected is told of the first token with which no file goes on, and EndOfFile at the end of a
-- source all of whose tokens begin a file.
pub record HasSyntaxFault (language : Language) (fault : SyntaxFault) (source : List ℕ) : Type 0 where
  pub tokens : List Token
  pub cut : Cuts None 0 source tokens
  pub only_tokens : (other : List Token) → Cuts None 0 source other → other ≡ tokens
  pub refused : IsRefusal fault
      → (other : File) → IsFileIn language other → SpellsTokens source tokens other → ⊥
  pub deep : IsTooDeep fault → IsDeep most_open (lexemes source tokens)
  pub met : IsPlaced source tokens fault
  pub stuck : IsStuckIn language source tokens fault
