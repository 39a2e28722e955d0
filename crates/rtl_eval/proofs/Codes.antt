-- A vector of one element, and its code.
use Rattle.std.proofs.Common.{◌≡◌, ℕ, nat_eq, List, [], ◌∷◌, length, map, slice_get, Some, refl, sym, ap, ◌∙◌, arith, ◌⊎◌, inl, inr}
use Rattle.std.proofs.lemmas.Bool.{cases_eq, ne_eqb}
use Rattle.vhdl_values.specs.declared.scalar.Nine.{Nine}
use Rattle.vhdl_values.specs.Scalar.{code_of}
use Rattle.rtl_model.specs.bodies.Tests.{same}

pub one_element : (vs : List Nine) (v : Nine) → length vs ≡ 1 → slice_get vs 0 ≡ Some v → vs ≡ v ∷ []
one_element [] v l h = absurd (omega arith)
one_element (w ∷ []) v l h = cc
one_element (w ∷ x ∷ vs) v l h = absurd (omega arith)

eq_comm : (a b : ℕ) → nat_eq a b ≡ nat_eq b a
eq_comm a b = go (cases_eq a b)
  where
    go : (a ≡ b) ⊎ (a ≡ b → ⊥) → nat_eq a b ≡ nat_eq b a
    go (inl e) = rw e refl
    go (inr n) = ne_eqb a b n ∙ sym (ne_eqb b a (λ e. n (sym e)))

one_same : (a b : ℕ) → nat_eq a b ≡ same (a ∷ []) (b ∷ [])
one_same a b = grind arith

pub ahead : (vs : List Nine) (v : Nine) (n code : ℕ) → vs ≡ v ∷ [] → n ≡ code_of v → nat_eq n code ≡ same (map code_of vs) (code ∷ [])
ahead vs v n code e is = ap (λ m. nat_eq m code) is ∙ one_same (code_of v) code ∙ ap (λ xs. same (map code_of xs) (code ∷ [])) (sym e)

pub behind : (vs : List Nine) (v : Nine) (n code : ℕ) → vs ≡ v ∷ [] → n ≡ code_of v → nat_eq n code ≡ same (code ∷ []) (map code_of vs)
behind vs v n code e is = eq_comm n code ∙ ap (nat_eq code) is ∙ one_same code (code_of v) ∙ ap (λ xs. same (code ∷ []) (map code_of xs)) (sym e)
