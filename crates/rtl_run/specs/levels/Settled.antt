-- What is so of a machine by levels as the engine of a course, moment by moment.
use Rattle.std.specs.Prelude.{◌≡◌, ℕ, List}
use Rattle.rtl_model.specs.simulation.Accepted.{IsAccepted}
use Rattle.rtl_net.specs.Core.{core}
use Rattle.rtl_levels.specs.Machine.{MachineView}
use Rattle.rtl_stim.specs.Stimuli.{inputs_at}
use Rattle.rtl_simulation.specs.Engines.{CourseView, IsCourse}
use Rattle.rtl_run.specs.Synchronous.{IsRaceless, IsSynchronous}

-- a machine of this netlist, which the checker accepts, with the valuation at the moment m of the run
pub record MachineSettled (r : CourseView) (m : ℕ) (machine : MachineView) : Type 0 where
  pub course : IsCourse r
  pub accepted : IsAccepted (core r.net)
  pub raceless : IsRaceless (core r.net) (inputs_at r.stimulus)
  pub run : ℕ → List ℕ
  pub synchronous : IsSynchronous (core r.net) r.limit (inputs_at r.stimulus) run
  pub net : machine.net ≡ r.net
  pub values : machine.values ≡ run m
