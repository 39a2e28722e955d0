-- What goes on from what was found, and what is found first, by the first of some tokens.
use Rattle.std.proofs.Common.{◌≡◌, ◌≤◌, ℕ, true, false, List, [], ◌∷◌, Some, slice_index_or, length, refl, sym, ap, ◌∙◌, arith}
use Rattle.vhdl_slips.proofs.Rest.{rest, rest_is}
use Rattle.vhdl_hints.specs.Ends.{begun_at, begun_from}
use Rattle.vhdl_slips.specs.Parts.{first_of}
use Rattle.vhdl_hints.specs.Hints.{begins_near, formal_behind, is_reached, near_entity, still_ahead}
use Rattle.vhdl_hints.specs.declared.end_name.Begun.{Begun}
use Rattle.vhdl_lexer.specs.declared.token.Token.{Token}
use Rattle.vhdl_lexer.specs.declared.token.TokenKind.{TokenKind}

pub begun_more : (word : TokenKind) (found : Begun) (ts : List Token) → 1 ≤ length ts
    → begun_from word (begun_at word found ts) (rest ts) ≡ begun_from word found ts
begun_more word found [] some = absurd (omega (arith, some))
begun_more word found (t ∷ ts) some = ap (begun_from word (begun_at word found (t ∷ ts))) (rest_is t ts)

module _ (text word : List ℕ) where
  pub near_here : (ts : List Token) → 1 ≤ length ts → begins_near text word ts ≡ true → first_of (rest ts) ≡ near_entity text word ts
  near_here [] some so = absurd (omega (arith, some))
  near_here (t ∷ ts) some so = ap first_of (rest_is t ts) ∙ sym (rw so refl)

  pub near_more : (ts : List Token) → 1 ≤ length ts → begins_near text word ts ≡ false → near_entity text word (rest ts) ≡ near_entity text word ts
  near_more [] some not_so = absurd (omega (arith, some))
  near_more (t ∷ ts) some not_so = ap (near_entity text word) (rest_is t ts) ∙ sym (rw not_so refl)

module _ (others : ℕ) where
  pub formal_here : (d : Token) (ts : List Token) → 1 ≤ length ts → is_reached others ts ≡ true
      → formal_behind others ts ≡ Some (slice_index_or ts 0 d)
  formal_here d [] some so = absurd (omega (arith, some))
  formal_here d (t ∷ ts) some so = rw so refl

  pub formal_more : (ts : List Token) → 1 ≤ length ts → is_reached others ts ≡ false
      → formal_behind (still_ahead others ts) (rest ts) ≡ formal_behind others ts
  formal_more [] some not_so = absurd (omega (arith, some))
  formal_more (t ∷ ts) some not_so = ap (formal_behind (still_ahead others (t ∷ ts))) (rest_is t ts) ∙ sym (rw not_so refl)
