-- Where an input isn't busy, its values stay.
use Rattle.std.proofs.Common.{◌≡◌, ◌≢◌, ℕ, ◌+◌, ◌-◌, ◌*◌, ◌/◌, ◌%◌, ◌<◌, ◌≤◌, true, false, List, [], ◌∷◌, filter, ⊎_elim, refl, sym, ap, ◌∙◌, arith}
use Rattle.std.specs.Prelude.{Contains, nat_lt, nat_le, ◌==◌, if◌then◌else◌}
use Rattle.std.specs.Map.{keys_of}
use Rattle.std.proofs.Math.Nat.{div-zero}
use Rattle.std.proofs.lemmas.Nat.{div-add-mod', div-mul-add, mod-mul-add}
use Rattle.std.proofs.lemmas.Bool.{cases_eq, cases_lt}
use Rattle.std.proofs.lemmas.Bool.Decides.{nat_tests}
use Rattle.std.proofs.lemmas.List.Elements.{Contains-append_right}
use Rattle.vhdl_values.specs.declared.scalar.Nine.{Nine}
use Rattle.vhdl_values.specs.declared.scalar.Nine.TheVariants.{Zero, One}
use Rattle.rtl_stim_lines.specs.Courses.{Course, Sets, Ticks, course_value, clock_value, set_value, last_of, toggles, is_busy}
use Rattle.rtl_stim.proofs.Due.{key_found, only_first, first_toggle}

-- ---- sets

same_sets : (now t : ℕ) → now ≤ t → (es : List (ℕ × List Nine)) → ((k : ℕ) → Contains (keys_of es) k → now < k → k ≤ t → ⊥)
    → filter (λ s. nat_le s.0 t) es ≡ filter (λ s. nat_le s.0 now) es
same_sets now t order [] none = refl
same_sets now t order (e ∷ es) none =
    let rest = same_sets now t order es (λ k there. none k (Contains-append_right (e.0 ∷ []) (keys_of es) k there)) in
    ⊎_elim (λ later.
    let late : t < e.0 = ⊎_elim (λ h. h) (λ h. absurd (none e.0 (0, omega arith, refl) later h)) (cases_lt t e.0) in
    let a : nat_le e.0 t ≡ false = grind (arith, nat_tests) in
    let b : nat_le e.0 now ≡ false = grind (arith, nat_tests) in
    rw (a, b) rest)
    (λ early.
    let a : nat_le e.0 t ≡ true = grind (arith, nat_tests) in
    let b : nat_le e.0 now ≡ true = grind (arith, nat_tests) in
    rw (a, b) (ap (λ r. e ∷ r) rest))
    (cases_lt now e.0)

-- ---- clocks

same_quotient : (first half now t : ℕ) → first ≤ now → now ≤ t → ((b : ℕ) → now < b → b ≤ t → toggles first half b ≡ false) → (t - first) / half ≡ (now - first) / half
same_quotient first half now t after order none = ⊎_elim no_half some_half (cases_eq half 0)
  where
    no_half : half ≡ 0 → (t - first) / half ≡ (now - first) / half
    no_half e = ap (λ h. (t - first) / h) e ∙ div-zero (t - first) ∙ sym (ap (λ h. (now - first) / h) e ∙ div-zero (now - first))

    some_half : half ≢ 0 → (t - first) / half ≡ (now - first) / half
    some_half e =
        let some : 0 < half = omega (arith, e) in
        let m = (t - first) / half * half in
        let r = (t - first) % half in
        let cut : m + r ≡ t - first = div-add-mod' (t - first) half in
        let less : r < half = omega (arith, some) in
        let b = t - r in
        let from_first : b - first ≡ m + 0 = omega arith in
        let toggling : toggles first half b ≡ true = only_first first half b (omega arith) (ap (λ n. n % half) from_first ∙ mod-mul-add ((t - first) / half) half 0 some) in
        let before : b ≤ now = ⊎_elim (λ later. let off = none b later (omega arith) in cc) (λ h. h) (cases_lt now b) in
        let s = (now - first) - m in
        let small : s < half = omega arith in
        let is : now - first ≡ m + s = omega arith in
        sym (ap (λ n. n / half) is ∙ div-mul-add ((t - first) / half) half s small)

-- ---- both

-- a course that isn't busy after now, up to t, has the same values at both
pub same_value : (course : Course) (place : ℕ) (start : Nine) (now t : ℕ) → now ≤ t → ((b : ℕ) → now < b → b ≤ t → is_busy course b ≡ false)
    → course_value course place start t ≡ course_value course place start now
same_value (Sets sets) place start now t order none =
    ap (λ es. set_value (last_of es) place start) (same_sets now t order sets (λ k there later within. let busy = key_found sets k there in let idle = none k later within in cc))
same_value (Ticks first half) place start now t order none = ⊎_elim early late (cases_lt t first)
  where
    early : t < first → clock_value first half t ≡ clock_value first half now
    early h =
        let a : nat_lt t first ≡ true = grind (arith, nat_tests) in
        let b : nat_lt now first ≡ true = grind (arith, nat_tests) in
        rw (a, b) refl

    late : first ≤ t → clock_value first half t ≡ clock_value first half now
    late h =
        ⊎_elim (λ before. let on = (first_toggle first half now before).toggling in let off = none first before h in cc)
        (λ after.
        let a : nat_lt t first ≡ false = grind (arith, nat_tests) in
        let b : nat_lt now first ≡ false = grind (arith, nat_tests) in
        let q = same_quotient first half now t after order none in
        rw (a, b) (ap (λ n. if n % 2 == 0 then One else Zero) q))
        (cases_lt now first)
