-- What stands so deep in the parentheses of names, by the first of some tokens.
use Rattle.std.proofs.Common.{◌≡◌, ℕ, ◌+◌, ◌-◌, ◌≤◌, Bool, true, false, List, [], ◌∷◌, if◌then◌else◌, length, slice_index_or, refl, sym, ap, ◌∙◌, arith}
use Rattle.vhdl_slips.proofs.Rest.{rest, rest_is, rest_shorter}
use Rattle.vhdl_misfits.specs.Places.{from_depth, open_behind, opens, stops_here}
use Rattle.vhdl_lexer.specs.declared.token.Token.{Token}
use Rattle.vhdl_lexer.specs.declared.token.TokenKind.{TokenKind}
use Rattle.vhdl_lexer.specs.declared.token.TokenKind.TheVariants as k
use Rattle.vhdl_tree.specs.Lexeme.{same_kind}

module _ (depth : ℕ) (stops : List TokenKind) (opened : ℕ) (last : TokenKind) (d : Token) where
  pub depth_here : (ts : List Token) → 1 ≤ length ts → stops_here stops depth opened (slice_index_or ts 0 d).kind ≡ true
      → ts ≡ from_depth depth stops opened last ts
  depth_here [] some so = absurd (omega (arith, some))
  depth_here (t ∷ ts) some so = sym (rw so refl)

  pub depth_more : (ts : List Token) → 1 ≤ length ts → stops_here stops depth opened (slice_index_or ts 0 d).kind ≡ false
      → from_depth depth stops (open_behind opened last (slice_index_or ts 0 d).kind) (slice_index_or ts 0 d).kind (rest ts)
      ≡ from_depth depth stops opened last ts
  depth_more [] some not_so = absurd (omega (arith, some))
  depth_more (t ∷ ts) some not_so =
      ap (from_depth depth stops (open_behind opened last t.kind) t.kind) (rest_is t ts) ∙ sym (rw not_so refl)

up_or_down : (a b : Bool) (n : ℕ) → (if a then n + 1 else (if b then n - 1 else n)) ≤ n + 1
up_or_down true b n = omega arith
up_or_down false true n = omega arith
up_or_down false false n = omega arith

-- no more are open than tokens were read
pub depth_room : (opened all : ℕ) (last kind : TokenKind) (ts : List Token) → 1 ≤ length ts → opened + length ts ≤ all
    → open_behind opened last kind + length (rest ts) ≤ all
depth_room opened all last kind ts some within =
    let step = up_or_down (opens opened last kind) (same_kind kind k.RightParen) opened in
    let shorter = rest_shorter ts some in
    omega (arith, step, shorter, within)
