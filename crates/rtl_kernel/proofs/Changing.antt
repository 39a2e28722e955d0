-- New values of in ports.
use Rattle.std.proofs.Common.{◌≡◌, ℕ, suc, ◌+◌, ◌<◌, ◌≤◌, true, false, ◌==◌, List, [], ◌∷◌, length, get_or, set, drop, refl, sym, ap, ◌∙◌, arith, ◌⊎◌, inl, inr, Contains, All}
use Rattle.std.specs.Prelude.{if◌then◌else◌}
use Rattle.std.specs.List.{list_any}
use Rattle.std.proofs.lemmas.Bool.{cases_Bool, cases_eq, cases_lt}
use Rattle.std.proofs.lemmas.List.{ext_get_or, get_or-set_same, get_or-set_other, get_or_past, length-set}
use Rattle.std.proofs.lemmas.List.FromFn.{length-map-range_with_len}
use Rattle.std.proofs.Math.Seq.{drop-cons}
use Rattle.rtl_model.specs.simulation.Netlist.{Netlist, IsInput}
use Rattle.rtl_model.specs.simulation.Cycle.{with_changes, with_inputs}
use Rattle.rtl_model.proofs.simulation.Consistent.{each_change_is_made}
use Rattle.rtl_model.proofs.simulation.Order.{get_or-rows}
use Rattle.vhdl_values.specs.declared.scalar.Nine.{Nine}
use Rattle.vhdl_values.specs.Scalar.{code_of}
use Rattle.rtl_model.proofs.basics.Lists.{get_or-map_within}
use Rattle.rtl_kernel.specs.kernel.Simulation.{change_of, changes_of}
use Rattle.rtl_kernel.specs.values.TwoValues.{AreChanged}

-- the change at i is made, and those behind it are left
pub changed_more : (cs : List (ℕ × ℕ)) (i n value : ℕ) (current init : List ℕ) → i < length cs → get_or cs i (0, 0) ≡ (n, value)
    → ((m : ℕ) → with_changes (drop i cs) current m ≡ with_changes cs init m) → (m : ℕ) → with_changes (drop (i + 1) cs) (set current n value) m ≡ with_changes cs init m
changed_more cs i n value current init within is rest m =
    ap (λ (k : ℕ). with_changes (drop k cs) (set current n value) m) (let e : i + 1 ≡ suc i = omega arith in e)
    ∙ sym (ap (λ (xs : List (ℕ × ℕ)). with_changes xs current m) (drop-cons cs i (0, 0) within ∙ ap (λ (c : ℕ × ℕ). c ∷ drop (suc i) cs) is)) ∙ rest m

-- values that are kept below a bound
pub changed_below : (cs : List (ℕ × ℕ)) (old : List ℕ) (n most : ℕ) → All (λ (c : ℕ × ℕ). c.1 < most) cs → get_or old n 0 < most → with_changes cs old n < most
changed_below [] old n most all h = h
changed_below (c ∷ cs) old n most all h = changed_below cs (set old c.0 c.1) n most (λ k d l. all (suc k) d (omega arith)) (by (cases_eq n c.0) (cases_lt c.0 (length old)))
  where
    by : (n ≡ c.0) ⊎ (n ≡ c.0 → ⊥) → (c.0 < length old) ⊎ (length old ≤ c.0) → get_or (set old c.0 c.1) n 0 < most
    by (inl e) (inl l) = rw (e, get_or-set_same old c.0 c.1 0 l) (all 0 c (omega arith))
    by (inl e) (inr l) = let v = all 0 c (omega arith) in rw (e, get_or_past (set old c.0 c.1) c.0 0 (rw length-set l)) (omega arith)
    by (inr n) _ = rw (get_or-set_other old c.0 _ c.1 0 n) h

-- where only in ports change, the values are those with the inputs
pub given_values : (net : Netlist) (cs : List (ℕ × ℕ)) (old new : List ℕ) → length old ≡ length net.start → AreChanged cs old new
    → ((n value : ℕ) → Contains cs (n, value) → IsInput net n) → new ≡ with_inputs net (with_changes cs old) old
given_values net cs old new as_many A inputs =
    ext_get_or 0 new (with_inputs net (with_changes cs old) old) (A.as_many ∙ as_many ∙ sym (length-map-range_with_len _ 0 (length net.start)))
    (λ n l. A.each n ∙ by n (cases_Bool (list_any (λ m. m == n) net.inputs))
    ∙ sym (get_or-rows (λ m. if list_any (λ k. k == m) net.inputs then with_changes cs old m else get_or old m 0) (length net.start) n 0 (omega (arith, l, A.as_many, as_many))))
  where
    by : (n : ℕ) → (list_any (λ m. m == n) net.inputs ≡ true) ⊎ (list_any (λ m. m == n) net.inputs ≡ false)
        → with_changes cs old n ≡ (if list_any (λ m. m == n) net.inputs then with_changes cs old n else get_or old n 0)
    by n (inl e) = rw e refl
    by n (inr e) = rw e ((each_change_is_made cs old).kept n (λ value there. let h = inputs n value there in cc))

-- a change, by its code
pub set_at : (cs : List (ℕ × Nine)) (i code : ℕ) (d : ℕ × Nine) → i < length cs → code ≡ code_of (get_or cs i d).1 → get_or (changes_of cs) i (0, 0) ≡ ((get_or cs i d).0, code)
set_at cs i code d within is = get_or-map_within change_of cs i d (0, 0) within ∙ (λ j. ((get_or cs i d).0, sym is j))
