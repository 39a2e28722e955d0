-- What is so of an engine, moment by moment.
use Rattle.std.specs.Prelude.{◌≡◌, ℕ, ◌≤◌, List, length, map}
use Rattle.rtl_model.specs.simulation.Moments.{Begun, HasNoneToRun, HasSettled, IsMost}
use Rattle.rtl_net.specs.Core.{core}
use Rattle.rtl_net.specs.Elaborated.{IsNet}
use Rattle.rtl_net.specs.Nets.{NetlistView, SignalView, signal_view}
use Rattle.rtl_net_groups.specs.Touching.{Chunks}
use Rattle.byte_streams.specs.Stands.{Stand}
use Rattle.rtl_agenda.specs.Agenda.{Change}
use Rattle.rtl_kernel.specs.kernel.Simulation.{Simulation}
use Rattle.rtl_stim.specs.Moments.{GivesNext}
use Rattle.rtl_stim.specs.Ports.{HasOwnPorts, inputs_of}
use Rattle.rtl_stim.specs.Stimuli.{StimulusView, inputs_at}
use Rattle.rtl_simulation.specs.declared.course.Course.{Course}
use Rattle.rtl_simulation.specs.declared.summary.RunFault.{RunFault}
use Rattle.rtl_simulation.specs.declared.summary.RunFault.TheVariants.{NoSettling}
use Rattle.rtl_simulation.specs.Simulated.{SettlesAs, NeverSettles}

-- a netlist under a stimulus, with so many delta cycles at most in each moment
pub record CourseView : Type 0 where
  pub net : NetlistView
  pub stimulus : StimulusView
  pub limit : ℕ

abbrev pub course_of : Course → CourseView
course_of c = record { net = c.shown.net.now; stimulus = c.stimulus.now; limit = c.limit }

-- the signals that its trace shows
abbrev pub names_of : Course → List SignalView
names_of c = map signal_view c.shown.signals.now

-- the netlist's parts fit, its top's ports have names of their own, and the stimulus is of its inputs
pub record IsCourse (r : CourseView) : Type 0 where
  pub is_net : IsNet r.net
  pub ports : HasOwnPorts r.net
  pub inputs : r.stimulus.inputs ≡ inputs_of r.net

-- these values are what the moment m settles to, within the limit
pub record ComesTo (r : CourseView) (m : ℕ) (values : List ℕ) : Type 0 where
  pub deltas : ℕ
  pub settles : SettlesAs r.net r.stimulus m (record { deltas = deltas; values = values })
  pub within : deltas ≤ r.limit

-- these values, one for each net, are what the moment m settles to
pub record Shows (r : CourseView) (m : ℕ) (values : List ℕ) : Type 0 where
  pub comes : ComesTo r m values
  pub as_many : length values ≡ length r.net.types

-- behind the moment m comes this time with these changes; there is a value for each net
pub record Follows (r : CourseView) (m time : ℕ) (changes : List Change) (values : List ℕ) : Type 0 where
  pub gives : GivesNext r.stimulus m time changes
  pub as_many : length values ≡ length r.net.types

-- whatever the watch had been told, it is told this of a moment at this time that doesn't settle
abbrev pub TellsStuck : {V : Type 0} → (told : V → List Stand → V → Type 0)
    → (stuck : V → List Stand → (before now : List ℕ) → (time : ℕ) → V → Type 0)
    → (old new : V) → (time : ℕ) → (before now : List ℕ) → Type 0
TellsStuck {V} told stuck old new time before now =
    (first : V) (stands : List Stand) → told first stands old → stuck first stands before now time new

-- The moment m, at this time, doesn't settle, and Tells holds of the values before the last delta
-- cycle allowed and after it.
pub record IsStuck (r : CourseView) (m time : ℕ) (Tells : (before now : List ℕ) → Type 0) (fault : RunFault)
    : Type 0 where
  pub is : fault ≡ NoSettling time
  pub never : NeverSettles r.net r.stimulus r.limit m
  pub tells : Tells never.state.before never.state.now

-- ---- by events

-- a kernel of this netlist, in which no process is to run, with marks of its nets
pub record IsKernelOf (r : CourseView) (kernel : Simulation) (limit : ℕ) (touched : Chunks) : Type 0 where
  pub course : IsCourse r
  pub net : kernel.net ≡ r.net
  pub limit_is : limit ≡ r.limit
  pub ready : HasNoneToRun kernel.state
  pub nets : touched.nets ≡ length r.net.types

-- the first moment is to settle from its state
pub record KernelBegins (r : CourseView) (kernel : Simulation) (limit : ℕ) (touched : Chunks) : Type 0 where
  pub of : IsKernelOf r kernel limit touched
  pub begun : Begun (core r.net) (inputs_at r.stimulus) 0 kernel.state

-- the moment m has settled in its state, and this is the greatest number of delta cycles till then
pub record KernelSettled (r : CourseView) (m : ℕ) (kernel : Simulation) (limit : ℕ) (touched : Chunks) (most : ℕ)
    : Type 0 where
  pub of : IsKernelOf r kernel limit touched
  pub deltas : ℕ
  pub settled : HasSettled (core r.net) (inputs_at r.stimulus) m deltas kernel.state
  pub within : deltas ≤ r.limit
  pub most_is : IsMost (core r.net) (inputs_at r.stimulus) m most
