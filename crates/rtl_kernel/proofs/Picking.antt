-- Runs in a picker's order.
use Rattle.std.proofs.Common.{◌≡◌, ℕ, ◌+◌, add-one, ◌∷◌, Bool, refl, subst}
use Rattle.std.specs.List.{count_by}
use Rattle.rtl_model.specs.simulation.Netlist.{Netlist}
use Rattle.rtl_model.specs.simulation.Cycle.{State, after_run, after_update}
use Rattle.rtl_kernel.specs.kernel.Picked.{IsAt, HasRunAsPicked, HasDeltasAsPicked}

module _ {P : Type 0} (picks : P → (count place : ℕ) → P → Type 0) (net : Netlist) where
  -- the process that the picker answers first, and then the others
  pub run_first : (s s' t : State) (process place : ℕ) (old mid new : P) → IsAt s.waiting place process → s' ≡ after_run net process s
      → picks old (count_by (λ (b : Bool). b) s.waiting) place mid → HasRunAsPicked picks net mid new s' t → HasRunAsPicked picks net old new s t
  run_first s s' t process place old mid new at is picked h =
      let (order, runs, orders) = subst (λ (u : State). HasRunAsPicked picks net mid new u t) is h in
      (process ∷ order, (at.0, runs), (place, mid, picked, at, orders))

  -- no delta cycle, and one more
  pub no_delta : (p : P) (s : State) → HasDeltasAsPicked picks net 0 p p s s
  no_delta p s = (refl, refl)

  pub more_deltas : (k : ℕ) (old mid new : P) (s t u : State) → HasDeltasAsPicked picks net k old mid s t → HasRunAsPicked picks net mid new (after_update net t) u
      → HasDeltasAsPicked picks net (k + 1) old new s u
  more_deltas k old mid new s t u deltas run = rw add-one (mid, t, deltas, run)
