-- Delta cycles, counted.
use Rattle.std.proofs.Common.{add-one, ◌≡◌, ℕ, ◌+◌, true, false, List}
use Rattle.rtl_model.specs.simulation.Netlist.{Netlist}
use Rattle.rtl_model.specs.simulation.Cycle.{State, is_quiet}
use Rattle.rtl_model.specs.simulation.Moments.{Delta, HasDeltas, HasNoneToRun, IsUnsettled, SettlesTo}
use Rattle.rtl_model.specs.simulation.Laws.{IsBusyBefore}
use Rattle.rtl_model.proofs.simulation.Shown.{each_run_shows}

module _ (net : Netlist) (s : State) where
  pub no_delta : HasDeltas net 0 s s
  no_delta = (each_run_shows net s).none_yet.0

  pub none_before : IsBusyBefore net s 0
  none_before = (each_run_shows net s).none_yet.1

  module _ (k : ℕ) (t : State) (D : HasDeltas net k s t) (B : IsBusyBefore net s k) where
    pub more_deltas : (u : State) → (order : List ℕ) × Delta net order t u → HasDeltas net (k + 1) s u
    more_deltas u (order, delta) = rw add-one ((each_run_shows net s).one_more k order t u D delta)

    pub busy_still : is_quiet t ≡ false → IsBusyBefore net s (k + 1)
    busy_still busy = rw add-one ((each_run_shows net s).still_busy k t B D busy)

    pub settled_here : HasNoneToRun s → is_quiet t ≡ true → SettlesTo net s k t
    settled_here ready quiet = ((each_run_shows net s).settles_by k t ready B D quiet, D)

    pub unsettled_here : HasNoneToRun s → is_quiet t ≡ false → IsUnsettled net s k t
    unsettled_here ready busy = (each_run_shows net s).unsettled_by k t ready B D busy
