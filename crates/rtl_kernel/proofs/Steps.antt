-- The steps of a simulation keep what a kernel relies on.
use Rattle.std.proofs.Common.{◌≡◌, ℕ, zero, suc, ◌<◌, ◌≤◌, true, false, List, [], ◌∷◌, length, get_or, set, Option, Some, None, refl, sym, ap, subst, ◌∙◌, arith, ◌⊎◌, inl, inr, IsSome, Contains}
use Rattle.std.specs.Option.{is_some}
use Rattle.std.proofs.lemmas.Bool.{cases_eq, cases_lt}
use Rattle.std.proofs.lemmas.List.{get_or-set_same, get_or-set_other, get_or_past, length-set, length-map}
use Rattle.std.proofs.lemmas.Option.{slice_get_within}
use Rattle.rtl_model.specs.bodies.Types.{KeepsTypes}
use Rattle.rtl_model.specs.nets.FlatNetlist.{FlatNetlist, IsInRange, flat_sources}
use Rattle.rtl_model.specs.nets.CoreNetlist.{core_netlist}
use Rattle.rtl_model.specs.nets.Wiring.{IsConnected}
use Rattle.rtl_model.specs.simulation.Netlist.{Source, Driver, Idle, process}
use Rattle.rtl_model.specs.simulation.Cycle.{State, over, after_update, after_inputs, after_run, is_quiet}
use Rattle.rtl_model.specs.simulation.Elaborated.{IsWired}
use Rattle.rtl_model.specs.simulation.Laws.{StepsKeepRange, StaysConsistent}
use Rattle.rtl_model.specs.simulation.Range.{IsValuation, AreInputs}
use Rattle.rtl_model.proofs.nets.Connected.{connected_is_elaborated}
use Rattle.rtl_model.proofs.nets.InRange.{keeps_range, limit-at}
use Rattle.rtl_model.proofs.nets.Processes.{process-core_net}
use Rattle.rtl_model.proofs.nets.Sources.{source_is_driver}
use Rattle.rtl_model.proofs.nets.SourcesInRange.{sources_keep_range}
use Rattle.rtl_model.proofs.simulation.Consistent.{each_stays_consistent}
use Rattle.rtl_model.proofs.simulation.Rows.{none_pending_at, quiet_at}
use Rattle.rtl_model.proofs.simulation.StatesInRange.{states_in_range}
use Rattle.rtl_kernel.specs.drivers.Rows.{IsSourceThere}
use Rattle.rtl_kernel.specs.drivers.Transactions.{IsActive}
use Rattle.rtl_kernel.specs.kernel.Kept.{IsSound}
use Rattle.rtl_kernel.proofs.Updating.{length-driven_all}

-- over a row without a transaction
pub over_fresh : (as' bs : List (Option ℕ)) → length bs ≤ length as' → ((place : ℕ) → IsSome (get_or bs place None) → ⊥) → over as' bs ≡ as'
over_fresh [] [] l h = refl
over_fresh [] (b ∷ bs) l h = absurd (omega arith)
over_fresh (a ∷ as') [] l h = refl
over_fresh (Some v ∷ as') (b ∷ bs) l h = ap (λ xs. Some v ∷ xs) (over_fresh as' bs (omega arith) (λ place. h (suc place)))
over_fresh (None ∷ as') (None ∷ bs) l h = ap (λ xs. None ∷ xs) (over_fresh as' bs (omega arith) (λ place. h (suc place)))
over_fresh (None ∷ as') (Some v ∷ bs) l h = absurd (h zero refl)

-- a row over which nothing is put
pub over_nothing : (as' bs : List (Option ℕ)) → length as' ≤ length bs → ((place : ℕ) → get_or as' place None ≡ None) → over as' bs ≡ bs
over_nothing [] bs l h = refl
over_nothing (a ∷ as') [] l h = absurd (omega arith)
over_nothing (Some v ∷ as') (b ∷ bs) l h = let f : Some v ≡ None = h zero in absurd cc
over_nothing (None ∷ as') (b ∷ bs) l h = ap (λ xs. b ∷ xs) (over_nothing as' bs (omega arith) (λ place. h (suc place)))

module _ (net : FlatNetlist) (in_range : IsInRange net) (connected : IsConnected net) where
  pub wired : IsWired (core_netlist net)
  wired = (connected_is_elaborated net in_range connected).wiring

  pub keeps : StepsKeepRange (core_netlist net)
  keeps = (states_in_range (core_netlist net) wired (keeps_range net in_range) (sources_keep_range net in_range connected)).0

  pub stays : StaysConsistent (core_netlist net)
  stays = each_stays_consistent (core_netlist net) wired

  -- what a body is given
  pub keeps_types : (v : List ℕ) → IsValuation (core_netlist net) v → KeepsTypes net.types v
  keeps_types v V place t has =
      rw (← limit-at net.types place t has) (V.in_range place (rw (in_range.each_starts) (slice_get_within net.types place t has)))

  -- the sources of nets stand in the rows
  pub sources_there : (s : State) → IsSound net s → (n : ℕ) (source : Source) → Contains (flat_sources net n) source → IsSourceThere s.drivers source
  sources_there s S n (Driver p place) h = rw (S.in_range.each_driver p, process-core_net net p) (source_is_driver net n p place h).0
  sources_there s S n (Idle v) h = tt

  pub sound_ran : (s : State) (p : ℕ) → IsSound net s → IsSound net (after_run (core_netlist net) p s)
  sound_ran s p S = record {
    each_process = length-set s.waiting p false ∙ S.each_process;
    each_row = S.each_row;
    in_range = keeps.runs p s S.in_range;
    consistent = stays.runs p s S.consistent;
    fresh = λ q waits. fresh q waits (cases_eq q p);
  }
    where
      row : List (Option ℕ)
      row = over ((process (core_netlist net) p).effect s.before s.now) (get_or s.pending p [])

      out_of : get_or (set s.waiting p false) p false ≡ true → (p < length s.waiting) ⊎ (length s.waiting ≤ p) → ⊥
      out_of h (inl l) = let e = get_or-set_same s.waiting p false false l in cc
      out_of h (inr l) = let e = get_or_past (set s.waiting p false) p false (rw length-set l) in cc

      fresh : (q : ℕ) → get_or (set s.waiting p false) q false ≡ true → (q ≡ p) ⊎ (q ≡ p → ⊥) → IsActive (set s.pending p row) q → ⊥
      fresh q h (inl e) a = out_of (subst (λ (n : ℕ). get_or (set s.waiting p false) n false ≡ true) e h) (cases_lt p (length s.waiting))
      fresh q h (inr n) (place, some) =
          S.fresh q (sym (get_or-set_other s.waiting p q false false n) ∙ h)
          (place, sym (ap (λ (r : List (Option ℕ)). is_some (get_or r place None)) (get_or-set_other s.pending p q row [] n)) ∙ some)

  pub sound_updated : (s : State) → length s.pending ≡ length s.drivers → IsSound net s → IsSound net (after_update (core_netlist net) s)
  sound_updated s rows S = record {
    each_process = length-map (core_netlist net).processes _ ∙ length-map net.processes _;
    each_row = length-driven_all s.pending s.drivers rows ∙ S.each_row;
    in_range = keeps.updates s S.in_range;
    consistent = stays.updates s;
    fresh = λ p waits (place, some). let e = none_pending_at s.pending p place in let f = ap is_some e in cc;
  }

  pub sound_given : (inputs : ℕ → ℕ) (s : State) → AreInputs (core_netlist net) inputs → is_quiet s ≡ true → IsSound net s → IsSound net (after_inputs (core_netlist net) inputs s)
  sound_given inputs s A quiet S = record {
    each_process = length-map (core_netlist net).processes _ ∙ length-map net.processes _;
    each_row = S.each_row;
    in_range = keeps.gives inputs s A S.in_range;
    consistent = stays.gives inputs s S.consistent;
    fresh = λ p waits (place, some). let f = ap is_some (quiet_at s quiet p place) in cc;
  }
