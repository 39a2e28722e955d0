-- Delta cycles as a function, that there always are some, and the least number after which pend is empty.
use Rattle.std.proofs.Common.{◌≡◌, ℕ, zero, suc, ◌+◌, ◌<◌, ◌≤◌, Bool, true, false, List, [], ◌∷◌, length, get_or, set, refl, sym, ap, ◌∙◌, arith, ◌⊎◌, inl, inr, subst}
use Rattle.std.proofs.lemmas.List.{get_or-set_same, get_or-set_other}
use Rattle.std.proofs.lemmas.Bool.{cases_eq, cases_Bool}
use Rattle.rtl_model.specs.simulation.Netlist.{Netlist}
use Rattle.rtl_model.specs.simulation.Cycle.{is_quiet, IsToRun, after_run, State, after_update}
use Rattle.rtl_model.specs.simulation.Moments.{Deltas, HasDeltas, HasNoneToRun, HasRun, Runs, SettlesIn}
use Rattle.rtl_model.proofs.simulation.Order.{finished, finished_done, Runs-finished, waits, waits_in}

-- after a delta cycle, whatever its order; and after k of them
abbrev pub after_delta : Netlist → State → State
after_delta net s = finished net (after_update net s)

abbrev pub after : Netlist → ℕ → State → State
after net zero s = s
after net (suc k) s = after net k (after_delta net s)

pub Deltas-after : (net : Netlist) (orders : List (List ℕ)) (s t : State) → Deltas net orders s t → t ≡ after net (length orders) s
Deltas-after net [] s t h = h
Deltas-after net (order ∷ orders) s t (mid, one, more) =
    Deltas-after net orders mid t more ∙ ap (λ (u : State). after net (length orders) u) (Runs-finished net order (after_update net s) mid one.1)

pub HasDeltas-after : (net : Netlist) (k : ℕ) (s t : State) → HasDeltas net k s t → t ≡ after net k s
HasDeltas-after net k s t (orders, e, runs) = Deltas-after net orders s t runs ∙ ap (λ (j : ℕ). after net j s) e

-- the processes that wait, from the highest that may
runs_below : (net : Netlist) (k : ℕ) (s : State) → ((p : ℕ) → IsToRun s p → p < k) → (order : List ℕ) × (t : State) × Runs net order s t
runs_below net zero s h = ([], s, ((λ p r. let l = h p r in absurd (omega arith)), refl))
runs_below net (suc k) s h = go (runs_below net k (after_run net k s)) (runs_below net k s) (cases_Bool (waits s k))
  where
    others : waits s k ≡ true → (p : ℕ) → IsToRun (after_run net k s) p → p < k
    others w p r = at (cases_eq p k)
      where
        at : (p ≡ k) ⊎ (p ≡ k → ⊥) → p < k
        at (inl e) =
            let f : get_or (set s.waiting k false) k false ≡ false = get_or-set_same s.waiting k false false (waits_in s.waiting k w) in
            let g : get_or (set s.waiting k false) k false ≡ true = subst (λ (q : ℕ). get_or (set s.waiting k false) q false ≡ true) e r in
            cc
        at (inr n) =
            let l = h p (sym (get_or-set_other s.waiting k p false false n) ∙ r) in
            omega arith

    go : (((p : ℕ) → IsToRun (after_run net k s) p → p < k) → (order : List ℕ) × (t : State) × Runs net order (after_run net k s) t)
        → (((p : ℕ) → IsToRun s p → p < k) → (order : List ℕ) × (t : State) × Runs net order s t)
        → (waits s k ≡ true) ⊎ (waits s k ≡ false) → (order : List ℕ) × (t : State) × Runs net order s t
    go one none (inl w) = let (order, t, r) = one (others w) in (k ∷ order, t, (w, r))
    go one none (inr w) = none (λ p r. at p r (cases_eq p k))
      where
        at : (p : ℕ) → IsToRun s p → (p ≡ k) ⊎ (p ≡ k → ⊥) → p < k
        at p r (inl e) = let g : waits s k ≡ true = subst (λ (q : ℕ). waits s q ≡ true) e r in cc
        at p r (inr n) = let l = h p r in omega arith

pub runs_exist : (net : Netlist) (s : State) → HasRun net s (finished net s)
runs_exist net s =
    let (order, t, r) = runs_below net (length s.waiting) s (λ p w. waits_in s.waiting p w) in
    (order, subst (λ (u : State). Runs net order s u) (Runs-finished net order s t r) r)

pub deltas_exist : (net : Netlist) (k : ℕ) (s : State) → HasNoneToRun s → HasDeltas net k s (after net k s)
deltas_exist net zero s done = ([], refl, refl)
deltas_exist net (suc k) s done =
    let (order, one) = runs_exist net (after_update net s) in
    let (orders, e, more) = deltas_exist net k (after_delta net s) (finished_done net (after_update net s)) in
    (order ∷ orders, ap suc e, (after_delta net s, (done, one), more))

-- the least number that passes, where b does and none below i
abbrev IsLeast : (ℕ → Bool) → ℕ → ℕ → Type 0
IsLeast f b k = (k ≤ b) × (f k ≡ true) × ((j : ℕ) → j < k → f j ≡ true → ⊥)

least_from : (f : ℕ → Bool) (b n i : ℕ) → f b ≡ true → i + n ≡ b → ((j : ℕ) → j < i → f j ≡ true → ⊥) → (k : ℕ) × IsLeast f b k
least_from f b zero i h e none = let k : i ≡ b = omega arith in (i, (omega arith, rw k h, none))
least_from f b (suc n) i h e none = go (λ more. least_from f b n (suc i) h (omega arith) more) (cases_Bool (f i))
  where
    go : (((j : ℕ) → j < suc i → f j ≡ true → ⊥) → (k : ℕ) × IsLeast f b k) → (f i ≡ true) ⊎ (f i ≡ false) → (k : ℕ) × IsLeast f b k
    go more (inl t) = (i, (omega arith, t, none))
    go more (inr t) = more (λ j l u. at j l u (cases_eq j i))
      where
        at : (j : ℕ) → j < suc i → f j ≡ true → (j ≡ i) ⊎ (j ≡ i → ⊥) → ⊥
        at j l u (inl e) = let v : f i ≡ true = subst (λ (k : ℕ). f k ≡ true) e u in cc
        at j l u (inr ne) = none j (omega arith) u

-- what is quiet after b delta cycles settles within b
pub settles_within : (net : Netlist) (s : State) (b : ℕ) → HasNoneToRun s → is_quiet (after net b s) ≡ true → (k : ℕ) × SettlesIn net s k × (k ≤ b)
settles_within net s b done h =
    let (k, (le, quiet, none)) = least_from (λ j. is_quiet (after net j s)) b b 0 h (omega arith) (λ j l. absurd (omega arith)) in (
      k,
      record {
        ready = done;
        goes_on = (after net k s, deltas_exist net k s done);
        settled = λ t r. subst (λ (u : State). is_quiet u ≡ true) (sym (HasDeltas-after net k s t r)) quiet;
        not_before = λ j t l r q. none j l (subst (λ (u : State). is_quiet u ≡ true) (HasDeltas-after net j s t r) q);
      },
      le,
    )
