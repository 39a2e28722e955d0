-- What is looked for, by the first of some tokens.
use Rattle.std.proofs.Common.{◌≡◌, ℕ, ◌≤◌, true, false, List, [], ◌∷◌, length, slice_index_or, Some, refl, sym, ap, ◌∙◌, arith}
use Rattle.vhdl_slips.proofs.Rest.{rest, rest_is}
use Rattle.vhdl_slips.specs.Instances.{first_open, gives, is_given, is_left_open}
use Rattle.vhdl_slips.specs.Interfaces.{begins_entity, interface_of}
use Rattle.vhdl_slips.specs.Parts.{up_to}
use Rattle.vhdl_lexer.specs.declared.token.Token.{Token}
use Rattle.vhdl_lexer.specs.declared.token.TokenKind.TheVariants as k

module _ (text name : List ℕ) where
  pub interface_here : (ts : List Token) → 1 ≤ length ts → begins_entity text name ts ≡ true → up_to k.End (rest ts) ≡ interface_of text name ts
  interface_here [] some so = absurd (omega (arith, some))
  interface_here (t ∷ ts) some so = ap (up_to k.End) (rest_is t ts) ∙ sym (rw so refl)

  pub interface_more : (ts : List Token) → 1 ≤ length ts → begins_entity text name ts ≡ false
      → interface_of text name (rest ts) ≡ interface_of text name ts
  interface_more [] some not_so = absurd (omega (arith, some))
  interface_more (t ∷ ts) some not_so = ap (interface_of text name) (rest_is t ts) ∙ sym (rw not_so refl)

  pub given_here : (ts : List Token) → 1 ≤ length ts → gives text name ts ≡ true → is_given text name ts ≡ true
  given_here [] some so = absurd (omega (arith, some))
  given_here (t ∷ ts) some so = rw so refl

  pub given_more : (ts : List Token) → 1 ≤ length ts → gives text name ts ≡ false → is_given text name (rest ts) ≡ is_given text name ts
  given_more [] some not_so = absurd (omega (arith, some))
  given_more (t ∷ ts) some not_so = ap (is_given text name) (rest_is t ts) ∙ sym (rw not_so refl)

module _ (text : List ℕ) (associations : List Token) where
  pub open_here : (d : Token) (ts : List Token) → 1 ≤ length ts → is_left_open text associations ts ≡ true
      → first_open text associations ts ≡ Some (slice_index_or ts 0 d)
  open_here d [] some so = absurd (omega (arith, some))
  open_here d (t ∷ ts) some so = rw so refl

  pub open_more : (ts : List Token) → 1 ≤ length ts → is_left_open text associations ts ≡ false
      → first_open text associations (rest ts) ≡ first_open text associations ts
  open_more [] some not_so = absurd (omega (arith, some))
  open_more (t ∷ ts) some not_so = ap (first_open text associations) (rest_is t ts) ∙ sym (rw not_so refl)
