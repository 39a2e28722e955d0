-- What is printed of a counter (its top named cnt), and lines of other designs.
use Rattle.std.specs.Prelude.{◌≡◌, ℕ, true, false, List, [], ◌∷◌, Some, None, codes}
use Rattle.rtl_model.specs.nets.FlatNetlist.{FlatProcess}
use Rattle.rtl_model.specs.bodies.Types.{nine_valued, enumeration}
use Rattle.rtl_model.specs.simulation.Netlist.{Driver, Idle}
use Rattle.rtl_model.specs.simulation.Accepted.{TwoDrivers, MixedProcess, ClockNotInput, Loop, NetLoop}
use Rattle.rtl_definition_examples.specs.Counter as example
use Rattle.rtl_net.specs.declared.process.Process.{Process}
use Rattle.rtl_net.specs.declared.signal.SignalKind.TheVariants.{One, Vector}
use Rattle.rtl_net.specs.Nets.{NetlistView, ScopeView, process_view}
use Rattle.rtl_check.specs.declared.judging.Judgement.TheVariants.{ByProcesses}
use Rattle.rtl_check.specs.declared.reporting.Report.{Report}
use Rattle.rtlsim_listing.specs.NetText.{net_text, start_text, driven_text}
use Rattle.rtlsim_listing.specs.CheckText.{check_text, from_text, level_of, line_of}

-- a process of the top with no label, in these generates
pub record IsUnlabelled (p : Process) (generates : List ℕ) : Type 0 where
  pub scope : p.scope ≡ 0
  pub generates_are : p.generates.items ≡ generates
  pub no_label : p.label ≡ None

pub record IsBare (p : Process) (view : FlatProcess) : Type 0 where
  pub seen : process_view p ≡ view
  pub unlabelled : IsUnlabelled p []

-- the top of this name alone
abbrev pub top : List ℕ → List ScopeView
top name = record { label = name; parent = None } ∷ []

-- `entity cnt`, with ports clk and y and the signal q
abbrev pub cnt : (counting showing : Process) → NetlistView
cnt counting showing = record {
  types = nine_valued ∷ nine_valued ∷ nine_valued ∷ nine_valued ∷ nine_valued ∷ [];
  starts = 0 ∷ 0 ∷ 0 ∷ 2 ∷ 2 ∷ [];
  idle = [] ∷ [] ∷ [] ∷ [] ∷ [] ∷ [];
  wide = false;
  inputs = 0 ∷ [];
  processes = counting ∷ showing ∷ [];
  scopes = top (codes "cnt");
  signals =
      record { scope = 0; name = codes "clk"; port = true; kind = One; nets = 0 ∷ []; at = 0 }
      ∷ record { scope = 0; name = codes "y"; port = true; kind = Vector 1 0; nets = 1 ∷ 2 ∷ []; at = 0 }
      ∷ record { scope = 0; name = codes "q"; port = false; kind = Vector 1 0; nets = 3 ∷ 4 ∷ []; at = 0 } ∷ [];
}

abbrev pub CounterIsListed : Type 0
CounterIsListed =
    (counting showing : Process) → IsBare counting example.counting → IsBare showing example.showing
    → net_text (cnt counting showing)
    ≡ codes
    "nets 5\nprocesses 2\n0 cnt.clk U in\n1 cnt.y(1) U 1\n2 cnt.y(0) U 1\n3 cnt.q(1) 0 0\n4 cnt.q(0) 0 0\nprocess 0 cnt.#0\nprocess 1 cnt.#1\n"

abbrev pub CounterIsReported : Type 0
CounterIsReported =
    (counting showing : Process) (report : Report) → IsBare counting example.counting → IsBare showing example.showing
    → report.levels.items ≡ None ∷ Some 1 ∷ [] → report.from.items ≡ None ∷ None ∷ [] → report.bound ≡ 2
    → check_text (cnt counting showing) (ByProcesses report) ≡ codes "yes\nlevels 1\nbound 2\nlevel 1 cnt.#1\n"

-- ---- other designs

-- a netlist of the top of this name with these processes and nothing else
abbrev pub of_processes : (name : List ℕ) → List Process → NetlistView
of_processes name processes = record {
  types = [];
  starts = [];
  idle = [];
  wide = false;
  inputs = [];
  processes = processes;
  scopes = top name;
  signals = [];
}

-- a loop of three, from its lowest process on
abbrev pub LoopIsListed : Type 0
LoopIsListed =
    (p q r : Process) → IsUnlabelled p [] → IsUnlabelled q [] → IsUnlabelled r []
    → line_of (of_processes (codes "l3") (p ∷ q ∷ r ∷ [])) (Loop (0 ∷ 2 ∷ 1 ∷ []))
    ≡ codes "fault 8 Loop l3.#0 l3.#2 l3.#1\n"

-- a process in a generate, whose level comes from one outside
abbrev pub LevelIsListed : Type 0
LevelIsListed =
    (p q : Process) → IsUnlabelled p [] → IsUnlabelled q (codes "g(0)")
    → (let net = of_processes (codes "add4") (p ∷ q ∷ []) in level_of net 1 2 (from_text net false (Some 0)))
    ≡ codes "level 2 add4.g(0).#1 from add4.#0\n"

-- Faults of the counter, had it these; what a level by nets comes from; a net without a source, one with two drivers
-- and an idle port, and what an enumeration starts with.
pub record AreListed (net : NetlistView) : Type 0 where
  pub two_drivers : line_of net (TwoDrivers 1 (Driver 1 0) (Idle 0))
      ≡ codes "fault 1 TwoDrivers net cnt.y(1) by cnt.#1 and idle\n"
  pub mixed : line_of net (MixedProcess 0) ≡ codes "fault 2 Mixed cnt.#0\n"
  pub clock : line_of net (ClockNotInput 0 3) ≡ codes "fault 3 ClockNotInput cnt.#0 net cnt.q(1)\n"
  pub nets : line_of net (NetLoop (3 ∷ 4 ∷ [])) ≡ codes "fault 8 Loop nets cnt.q(1) cnt.q(0)\n"
  pub from_net : from_text net true (Some 3) ≡ codes " from cnt.q(1)"
  pub no_source : driven_text [] ≡ codes "none"
  pub sources : driven_text (Driver 2 0 ∷ Driver 10 1 ∷ Idle 0 ∷ []) ≡ codes "2 10 idle"
  pub literal : start_text (enumeration 12) 11 ≡ codes "11"
  pub dash : start_text nine_valued 8 ≡ codes "-"

abbrev pub LinesAreAsSaid : Type 0
LinesAreAsSaid =
    (counting showing : Process) → IsBare counting example.counting
    → IsBare showing example.showing → AreListed (cnt counting showing)
