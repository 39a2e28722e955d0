-- What is looked for, by the first of some tokens.
use Rattle.std.proofs.Common.{◌≡◌, ℕ, ◌+◌, ◌-◌, ◌≤◌, Bool, true, false, List, [], ◌∷◌, if◌then◌else◌, length, slice_index_or, sym, ap, refl, ◌∙◌, arith}
use Rattle.vhdl_slips.proofs.Rest.{rest, rest_is, rest_shorter}
use Rattle.vhdl_lexer.specs.Kinds.{is_one_of}
use Rattle.vhdl_lexer.specs.declared.token.Token.{Token}
use Rattle.vhdl_lexer.specs.declared.token.TokenKind.{TokenKind}
use Rattle.vhdl_lexer.specs.declared.token.TokenKind.TheVariants as k
use Rattle.vhdl_places.specs.Uses.{depth_behind, from_here, is_use, opens}
use Rattle.vhdl_places.specs.declared.uses.Use.{Use}

module _ (wanted : Use) (text : List ℕ) (names : List (List ℕ)) (depth : ℕ) (last : TokenKind) where
  pub use_here : (ts : List Token) → 1 ≤ length ts → is_use wanted text names depth last ts ≡ true → ts ≡ from_here wanted text names depth last ts
  use_here [] some so = absurd (omega (arith, some))
  use_here (t ∷ ts) some so = sym (rw so refl)

  pub use_more : (d : Token) (ts : List Token) → 1 ≤ length ts → is_use wanted text names depth last ts ≡ false
      → from_here wanted text names (depth_behind depth last (slice_index_or ts 0 d).kind) (slice_index_or ts 0 d).kind (rest ts)
      ≡ from_here wanted text names depth last ts
  use_more d [] some not_so = absurd (omega (arith, some))
  use_more d (t ∷ ts) some not_so =
      ap (from_here wanted text names (depth_behind depth last t.kind) t.kind) (rest_is t ts) ∙ sym (rw not_so refl)

down_or_up : (a b : Bool) (n : ℕ) → (if a then n - 1 else (if b then n + 1 else n)) ≤ n + 1
down_or_up true b n = omega arith
down_or_up false true n = omega arith
down_or_up false false n = omega arith

-- no more are open than tokens were read
pub depth_room : (depth all : ℕ) (last kind : TokenKind) (ts : List Token) → 1 ≤ length ts → depth + length ts ≤ all
    → depth_behind depth last kind + length (rest ts) ≤ all
depth_room depth all last kind ts some within =
    let step = down_or_up (is_one_of (k.End ∷ k.Elsif ∷ []) kind) (opens last kind) depth in
    let shorter = rest_shorter ts some in
    omega (arith, step, shorter, within)
