-- The values whose copy is asked for.
use Rattle.std.proofs.Common.{◌≡◌, ℕ, zero, suc, ◌<◌, ◌≤◌, Bool, true, false, ◌==◌, ◌||◌, refl, ap, sym, ◌∙◌, arith, ◌⊎◌, inl, inr, Option}
use Rattle.std.specs.Prelude.{unwrap_or, if◌then◌else◌}
use Rattle.std.proofs.lemmas.Bool.{cases_Bool, eqb-true}
use Rattle.std.proofs.lemmas.Option.{slice_get_past}
use Rattle.vhdl_values.specs.declared.scalar.Nine.{Nine}
use Rattle.vhdl_values.specs.declared.scalar.Nine.TheVariants.{X}
use Rattle.vhdl_values.specs.Logic.{not_of}
use Rattle.vhdl_values.specs.Scalar.{code_of, nines, value_of_code}
use Rattle.rtl_model.specs.bodies.Copies.{passed_on}
use Rattle.rtl_process_kinds.specs.declared.asked.Asked.{Asked}
use Rattle.rtl_process_kinds.specs.declared.asked.Asked.TheVariants as a
use Rattle.rtl_process_kinds.specs.AskedValues.{is_asked, asked_through}

-- nine codes, and all others
each_code : (P : ℕ → Type 0) → P 0 → P 1 → P 2 → P 3 → P 4 → P 5 → P 6 → P 7 → P 8 → ((v : ℕ) → 9 ≤ v → P v) → (v : ℕ) → P v
each_code P a b c d e f g h i more zero = a
each_code P a b c d e f g h i more (suc zero) = b
each_code P a b c d e f g h i more (suc (suc zero)) = c
each_code P a b c d e f g h i more (suc (suc (suc zero))) = d
each_code P a b c d e f g h i more (suc (suc (suc (suc zero)))) = e
each_code P a b c d e f g h i more (suc (suc (suc (suc (suc zero))))) = f
each_code P a b c d e f g h i more (suc (suc (suc (suc (suc (suc zero)))))) = g
each_code P a b c d e f g h i more (suc (suc (suc (suc (suc (suc (suc zero))))))) = h
each_code P a b c d e f g h i more (suc (suc (suc (suc (suc (suc (suc (suc zero)))))))) = i
each_code P a b c d e f g h i more (suc (suc (suc (suc (suc (suc (suc (suc (suc k))))))))) = more (suc (suc (suc (suc (suc (suc (suc (suc (suc k))))))))) (omega arith)

-- no other is asked for, nor is its copy
apart : (v n : ℕ) → 9 ≤ v → n < 9 → (v == n) ≡ false
apart v n far near = go (cases_Bool (v == n))
  where
    go : ((v == n) ≡ true) ⊎ ((v == n) ≡ false) → (v == n) ≡ false
    go (inl t) = let e = eqb-true v n t in absurd (omega arith)
    go (inr f) = f

neither : {x y : Bool} → x ≡ false → y ≡ false → (x || y) ≡ false
neither e f = λ i. e i || f i

far_not_asked : (asked : Asked) (v : ℕ) → 9 ≤ v → is_asked asked v ≡ false
far_not_asked a.Zero v far = apart v 2 far (omega arith)
far_not_asked a.One v far = apart v 3 far (omega arith)
far_not_asked a.Low v far = neither (apart v 2 far (omega arith)) (apart v 6 far (omega arith))
far_not_asked a.High v far = neither (apart v 3 far (omega arith)) (apart v 7 far (omega arith))

far_is_x : (v : ℕ) → 9 ≤ v → value_of_code v ≡ X
far_is_x v far = ap (λ (o : Option Nine). unwrap_or o X) (slice_get_past nines v far)

abbrev Passes : Asked → Bool → ℕ → Type 0
Passes asked inverted value = is_asked asked (passed_on inverted value) ≡ is_asked (asked_through asked inverted) value

x_not_asked : (asked : Asked) (inverted : Bool) → is_asked asked (code_of (if inverted then not_of X else X)) ≡ false
x_not_asked a.Zero true = refl
x_not_asked a.Zero false = refl
x_not_asked a.One true = refl
x_not_asked a.One false = refl
x_not_asked a.Low true = refl
x_not_asked a.Low false = refl
x_not_asked a.High true = refl
x_not_asked a.High false = refl

far_passes : (asked : Asked) (inverted : Bool) (v : ℕ) → 9 ≤ v → Passes asked inverted v
far_passes asked inverted v far =
    ap (λ (x : Nine). is_asked asked (code_of (if inverted then not_of x else x))) (far_is_x v far) ∙ x_not_asked asked inverted ∙ sym (far_not_asked (asked_through asked inverted) v far)

through : (asked : Asked) (inverted : Bool) (value : ℕ) → Passes asked inverted value
through a.Zero true = each_code (Passes a.Zero true) refl refl refl refl refl refl refl refl refl (far_passes a.Zero true)
through a.One true = each_code (Passes a.One true) refl refl refl refl refl refl refl refl refl (far_passes a.One true)
through a.Low true = each_code (Passes a.Low true) refl refl refl refl refl refl refl refl refl (far_passes a.Low true)
through a.High true = each_code (Passes a.High true) refl refl refl refl refl refl refl refl refl (far_passes a.High true)
through a.Zero false = each_code (Passes a.Zero false) refl refl refl refl refl refl refl refl refl (far_passes a.Zero false)
through a.One false = each_code (Passes a.One false) refl refl refl refl refl refl refl refl refl (far_passes a.One false)
through a.Low false = each_code (Passes a.Low false) refl refl refl refl refl refl refl refl refl (far_passes a.Low false)
through a.High false = each_code (Passes a.High false) refl refl refl refl refl refl refl refl refl (far_passes a.High false)

pub through_is : (asked : Asked) (inverted : Bool) → (λ (value : ℕ). is_asked asked (passed_on inverted value)) ≡ is_asked (asked_through asked inverted)
through_is asked inverted = λ i value. through asked inverted value i
