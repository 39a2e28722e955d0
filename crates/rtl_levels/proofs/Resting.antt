-- Clocked processes that run together leave what is settled, or is still to come.
use Rattle.std.proofs.Common.{◌≡◌, ℕ, Bool, true, false, List, get_or, Option, None, refl, sym, ap, subst, ◌∙◌, arith, ◌⊎◌, inl, inr}
use Rattle.std.proofs.lemmas.Bool.{cases_Bool}
use Rattle.rtl_model.specs.simulation.Netlist.{HasPlace, IsCombinational, Netlist, process, target}
use Rattle.rtl_model.specs.simulation.Machine.{entry_or}
use Rattle.rtl_model.proofs.simulation.Levels.{numbered}
use Rattle.rtl_kernel.specs.wakes.Woken.{wakers_of}
use Rattle.rtl_levels.specs.declared.schedule.Schedule.{Schedule}
use Rattle.rtl_levels.specs.Kept.{IsPlanned}
use Rattle.rtl_levels.specs.Running.{AgreeOnLooks, IsDerivedAt, IsSettledAt}
use Rattle.rtl_levels.specs.Marks.{Marks}
use Rattle.rtl_levels.specs.Steps.{AllTakeOver, IsDrivenByMarked}
use Rattle.rtl_levels.specs.Visits.{IsToCome}
use Rattle.rtl_levels.proofs.Coming.{still_to_come, stays_or_comes}
use Rattle.rtl_levels.proofs.Resets.{one_reset, reset_clocks, resets_alike, run_settles}
use Rattle.rtl_levels.proofs.Settling.{each_stays_settled, one_process}

module _ (net : Netlist) (schedule : Schedule) (P : IsPlanned net schedule) (marked : List Bool) (clocked_alone : (p : ℕ) → get_or marked p false ≡ true → IsCombinational net p → ⊥)
    (entries : ℕ → List (Option ℕ)) (before v w : List ℕ) (ran : (p : ℕ) → get_or marked p false ≡ true → entries p ≡ (process net p).effect before v) (T : AllTakeOver net marked entries v w) where
  pub stays_to_come : (nets : ℕ → Type 0) (a b : List Bool) → Marks (wakers_of schedule.readers) nets v w a b → (p place : ℕ) → IsDerivedAt net p place → HasPlace net p place
      → IsSettledAt net v p place ⊎ IsToCome schedule.visits.items a 0 p (get_or P.nets (target net p place) 0)
      → IsSettledAt net w p place ⊎ IsToCome schedule.visits.items b 0 p (get_or P.nets (target net p place) 0)
  stays_to_come nets a b M p place d h was = stays_or_comes net schedule P nets v w a b M 0 (λ n k other l above. omega arith) p place d h (λ agree. by agree (cases_Bool (get_or marked p false)) was)
    where
      unmarked : get_or marked p false ≡ false → IsDrivenByMarked net marked (target net p place) → ⊥
      unmarked none (q, at, m, has, t) = let e = one_process net (numbered net P.elaborated P.accepted) q p at place has h t in let f = rw e at none in cc

      -- a run reads its reset
      settled_by_run : get_or marked p false ≡ true → IsDerivedAt net p place → AgreeOnLooks net p place v w → IsSettledAt net w p place
      settled_by_run m (inl c) agree = absurd (clocked_alone p m c)
      settled_by_run m (inr (n, R)) agree =
          let (clock, edge, is) = reset_clocks net p R.0.0.0 R.0.0.1 in
          run_settles net p P.elaborated clock edge is before v w place (get_or v (target net p place) 0)
          (resets_alike net p (λ k. get_or w k 0) (λ k. get_or v k 0) (λ reset has. subst (λ (k : ℕ). get_or w k 0 ≡ get_or v k 0) (one_reset net p n reset.net R.0.0 (reset, has, refl)) (sym (agree n (inr R)))))
          (T.on_targets p place m h ∙ ap (λ (row : List (Option ℕ)). entry_or (get_or row place None) (get_or v (target net p place) 0)) (ran p m))

      by : AgreeOnLooks net p place v w → (get_or marked p false ≡ true) ⊎ (get_or marked p false ≡ false)
          → IsSettledAt net v p place ⊎ IsToCome schedule.visits.items a 0 p (get_or P.nets (target net p place) 0)
          → IsSettledAt net w p place ⊎ IsToCome schedule.visits.items b 0 p (get_or P.nets (target net p place) 0)
      by agree (inl m) _ = inl (settled_by_run m d agree)
      by agree (inr none) (inl settled) = inl (each_stays_settled net P.elaborated p place v w d h settled agree (T.on_others (target net p place) (unmarked none)))
      by agree (inr none) (inr C) = inr (still_to_come net schedule P nets v w a b M 0 p (get_or P.nets (target net p place) 0) C)
