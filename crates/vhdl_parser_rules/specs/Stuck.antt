-- Where the tokens of a source go wrong: at the first one with which no file goes on.
use Rattle.std.specs.Prelude.{◌≡◌, ℕ, ◌≤◌, List, [], ◌∷◌, ◌++◌, length}
use Rattle.vhdl_lexer.specs.declared.language.Language.{Language}
use Rattle.vhdl_lexer.specs.declared.language.Language.TheVariants.{Profile}
use Rattle.vhdl_lexer.specs.declared.token.Token.{Token}
use Rattle.vhdl_tree.specs.Lexeme.{Lexeme, lexemes}
use Rattle.vhdl_tree.specs.Tree.{File}
use Rattle.vhdl_tree.specs.Pieces.{Spells}
use Rattle.vhdl_tree.specs.grammar.Units.{spell_file, IsFileIn}
use Rattle.vhdl_parser_rules.specs.declared.fault.SyntaxFault.{SyntaxFault}
use Rattle.vhdl_parser_rules.specs.declared.fault.SyntaxFault.TheVariants.{Unexpected, EndOfFile, TooDeep, NoMemory}

-- some tokens begin a file of this language: with some tokens behind them they are the spelling of a well-formed tree
pub record BeginsIn (language : Language) (ts : List Lexeme) : Type 0 where
  pub more : List Lexeme
  pub file : File
  pub formed : IsFileIn language file
  pub spelled : Spells (spell_file file) (ts ++ more) []

-- a token starts at this byte, behind so many others
pub record IsNext (tokens : List Token) (n at : ℕ) : Type 0 where
  pub before : List Token
  pub token : Token
  pub after : List Token
  pub split : tokens ≡ before ++ token ∷ after
  pub behind : length before ≡ n
  pub starts : token.start ≡ at

-- a token starts at this byte; those before it begin a file, and with it they begin none
pub record IsFirstWrongIn (language : Language) (source : List ℕ) (tokens : List Token) (at : ℕ) : Type 0 where
  pub n : ℕ
  pub next : IsNext tokens n at
  pub begun : BeginsIn language (lexemes source next.before)
  pub no_further : BeginsIn language (lexemes source (next.before ++ next.token ∷ [])) → ⊥

-- Unexpected is told of the first token with which no file goes on, and EndOfFile where all tokens begin a file.
abbrev pub IsStuckIn : Language → List ℕ → List Token → SyntaxFault → Type 0
IsStuckIn language source tokens (Unexpected at) = IsFirstWrongIn language source tokens at
IsStuckIn language source tokens (EndOfFile at) = BeginsIn language (lexemes source tokens)
IsStuckIn language source tokens (TooDeep at) = Unit {0}
IsStuckIn language source tokens NoMemory = Unit {0}

-- in the language of docs/LANGUAGE.md
abbrev pub IsStuck : List ℕ → List Token → SyntaxFault → Type 0
IsStuck = IsStuckIn Profile

-- Unexpected is told of the token behind so many, and EndOfFile where there is none.
abbrev pub IsMetBehind : List Token → ℕ → SyntaxFault → Type 0
IsMetBehind tokens n (Unexpected at) = IsNext tokens n at
IsMetBehind tokens n (EndOfFile at) = length tokens ≤ n
IsMetBehind tokens n (TooDeep at) = Unit {0}
IsMetBehind tokens n NoMemory = Unit {0}
