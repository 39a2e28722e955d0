-- How many levels are open: parentheses, if and case statements, loops and generates.
use Rattle.std.specs.Prelude.{ℕ, ◌+◌, ◌<◌, ◌≤◌, Bool, false, ◌&&◌, not, if◌then◌else◌, List, [], ◌∷◌, take}
use Rattle.vhdl_lexer.specs.declared.token.TokenKind.{TokenKind}
use Rattle.vhdl_lexer.specs.declared.token.TokenKind.TheVariants as k
use Rattle.vhdl_tree.specs.declared.levels.TheConstants.{MAX_OPEN}
use Rattle.vhdl_lexer.specs.Kinds.{is_one_of}
use Rattle.vhdl_tree.specs.Lexeme.{Lexeme, same_kind}

-- the words that open a level where they don't stand after `end`
abbrev pub begins_level : TokenKind → Bool
begins_level = is_one_of (k.If ∷ k.Case ∷ k.For ∷ [])

-- the words that close a level where they stand after `end`
abbrev pub ends_level : TokenKind → Bool
ends_level = is_one_of (k.If ∷ k.Case ∷ k.Loop ∷ k.Generate ∷ [])

abbrev pub is_end : TokenKind → Bool
is_end kind = same_kind kind k.End

-- 1 for a token that opens a level, by whether it stands after `end`
abbrev pub opening : Bool → TokenKind → ℕ
opening after_end kind = if same_kind kind k.LeftParen then 1 else (if begins_level kind && not after_end then 1 else 0)

-- 1 for one that closes a level
abbrev pub closing : Bool → TokenKind → ℕ
closing after_end kind = if same_kind kind k.RightParen then 1 else (if ends_level kind && after_end then 1 else 0)

abbrev pub opens : Bool → List Lexeme → ℕ
opens after_end [] = 0
opens after_end (l ∷ ts) = opening after_end l.kind + opens (is_end l.kind) ts

abbrev pub closes : Bool → List Lexeme → ℕ
closes after_end [] = 0
closes after_end (l ∷ ts) = closing after_end l.kind + closes (is_end l.kind) ts

-- how many levels may be open in a file
abbrev pub most_open : ℕ
most_open = MAX_OPEN

-- nowhere are more than n levels open
abbrev pub IsShallow : ℕ → List Lexeme → Type 0
IsShallow n ts = (j : ℕ) → opens false (take j ts) ≤ closes false (take j ts) + n

-- somewhere more than n levels are open
abbrev pub IsDeep : ℕ → List Lexeme → Type 0
IsDeep n ts = (j : ℕ) × (closes false (take j ts) + n < opens false (take j ts))
