-- The step of the walk over the tokens: a statement is taken out once, however often the name stands in it.
use Rattle.std.specs.Prelude.{◌≡◌, ℕ, Bool, true, List, Option, Some, None}
use Rattle.vhdl_lexer.specs.Extents.{blanked, taken_from}
use Rattle.vhdl_lexer.specs.declared.extent.Extent.{Extent}
use Rattle.vhdl_lexer.specs.declared.token.Token.{Token}

abbrev pub without_this : Option Extent → (left : List ℕ) → List ℕ
without_this None left = left
without_this (Some extent) left = blanked extent left

-- what is left without the statement with which these tokens begin
abbrev pub without_begun : (here : List Token) → (left : List ℕ) → List ℕ
without_begun here left = without_this (taken_from here) left

-- where it is out, nothing more is taken out with it
abbrev pub IsOut : (is_out : Bool) → (here : List Token) → (left : List ℕ) → Type 0
IsOut is_out here left = is_out ≡ true → without_begun here left ≡ left
