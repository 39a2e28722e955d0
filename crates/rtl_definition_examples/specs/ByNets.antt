-- Levels by nets of small netlists, loops of nets, and which are judged by nets.
use Rattle.std.specs.Prelude.{◌≡◌, ℕ, true, false, List, [], ◌∷◌, Option, Some, None}
use Rattle.rtl_model.specs.bodies.Body.{Stmts, done, step, assign, elements}
use Rattle.rtl_model.specs.bodies.Types.{nine_valued}
use Rattle.rtl_model.specs.nets.FlatNetlist.{FlatNetlist}
use Rattle.rtl_model.specs.nets.CoreNetlist.{core_netlist}
use Rattle.rtl_model.specs.simulation.Netlist.{Netlist, Process, Clocked, Rising, no_process}
use Rattle.rtl_model.specs.simulation.Accepted.{IsFault, NetLoop, IsNetLoop, HasNoNetLoop, IsByNets}
use Rattle.rtl_model.specs.simulation.NetLevels.{AreLevelsByNets, IsLevelByNets, bound_by_nets}
use Rattle.rtl_definition_examples.specs.Bodies.{one_signal}
use Rattle.rtl_definition_examples.specs.Counter.{driver}
use Rattle.rtl_definition_examples.specs.Nets.{ring}
use Rattle.rtl_definition_examples.specs.Rows.{sibling}

abbrev pub widened : FlatNetlist → FlatNetlist
widened net = record net { wide = true }

-- ---- a ripple through the elements of a signal in one process

-- place k of the process is given net n
abbrev pub given : (k n : ℕ) → Stmts → Stmts
given k n rest = step (assign (k ∷ []) (elements (one_signal n))) rest

-- `v(0) <= a; v(1) <= v(0); v(2) <= v(1); v(3) <= v(2);`, where a is net 0 and v the nets 1 to 4 from the left
abbrev pub ripple : FlatNetlist
ripple = record {
  types = nine_valued ∷ nine_valued ∷ nine_valued ∷ nine_valued ∷ nine_valued ∷ [];
  start = 0 ∷ 0 ∷ 0 ∷ 0 ∷ 0 ∷ [];
  inputs = 0 ∷ [];
  idle = [] ∷ [] ∷ [] ∷ [] ∷ [] ∷ [];
  processes = record {
    drivers = driver 1 0 ∷ driver 2 0 ∷ driver 3 0 ∷ driver 4 0 ∷ [];
    wakes = 0 ∷ 1 ∷ 2 ∷ 3 ∷ 4 ∷ [];
    variables = [];
    body = given 3 0 (given 2 4 (given 1 3 (given 0 2 done)));
  } ∷ [];
  wide = true;
}

-- A process's level is above those of all nets that it is sensitive to, and not of those alone that it reads.
pub record LevelsOfRipple : Type 0 where
  pub levels : AreLevelsByNets (core_netlist ripple) (Some 5 ∷ []) (0 ∷ 4 ∷ 3 ∷ 2 ∷ 1 ∷ []) 5
  pub not_by_reads : IsLevelByNets (core_netlist ripple) 0 (Some 4) → ⊥
  pub judged : IsByNets (core_netlist ripple)

-- ---- loops of nets

-- x looks at z, z at y and y at x, but y not at z; and what has no loop of processes is judged by them
pub record LoopsOfNets : Type 0 where
  pub loop : IsFault (core_netlist (widened ring)) (NetLoop (0 ∷ 2 ∷ 1 ∷ []))
  pub other_way : IsNetLoop (core_netlist (widened ring)) (0 ∷ 1 ∷ 2 ∷ []) → ⊥
  pub by_processes : IsByNets (core_netlist (widened sibling)) → ⊥

-- ---- resets that processes drive

-- a process with one driver or more that is clocked by net 0, and reset where this net is '1'
abbrev pub reset_by : (reset : ℕ) → (drives wakes : List ℕ) → (entries : List (Option ℕ)) → Process
reset_by reset drives wakes entries = record no_process {
  drives = drives;
  wakes = wakes;
  kind = Clocked 0 Rising (Some (record { net = reset; value = 3; entries = entries; gates = true }));
}

-- wide, with so many nets
abbrev pub of_processes : (start : List ℕ) → List Process → Netlist
of_processes start processes = record {
  inputs = 0 ∷ 1 ∷ [];
  start = start;
  limits = [];
  sources = [];
  processes = processes;
  resolve = λ values. 0;
  edge = λ edge old new. false;
  wide = true;
}

-- The nets are clk, rst, a, s, q and p: `a <= rst;`, s is reset by a, and q by s, which leaves out p.
abbrev pub reset_in_turn : Netlist
reset_in_turn = of_processes (0 ∷ 0 ∷ 0 ∷ 0 ∷ 0 ∷ 0 ∷ []) (
    record no_process { drives = 2 ∷ []; wakes = 1 ∷ []; reads = 1 ∷ []; looks = λ place. 1 ∷ [] }
    ∷ reset_by 2 (3 ∷ []) (0 ∷ 2 ∷ []) (Some 3 ∷ [])
    ∷ reset_by 3 (4 ∷ 5 ∷ []) (0 ∷ 3 ∷ []) (Some 2 ∷ None ∷ []) ∷ [])

-- The nets are clk, rst, r and q: r resets q, and is a register of the same process, which the reset leaves out.
abbrev pub own_reset : Netlist
own_reset = of_processes (0 ∷ 0 ∷ 0 ∷ 0 ∷ []) (reset_by 2 (2 ∷ 3 ∷ []) (0 ∷ 2 ∷ []) (None ∷ Some 2 ∷ []) ∷ [])

-- A register is above its reset, but not one that the reset leaves out.
pub record LevelsOfResets : Type 0 where
  pub in_turn : AreLevelsByNets reset_in_turn (Some 1 ∷ Some 2 ∷ Some 3 ∷ []) (0 ∷ 0 ∷ 1 ∷ 2 ∷ 3 ∷ 0 ∷ []) 3
  pub bound_in_turn : bound_by_nets reset_in_turn 3 ≡ 4
  pub own : AreLevelsByNets own_reset (Some 1 ∷ []) (0 ∷ 0 ∷ 0 ∷ 1 ∷ []) 1
  pub no_loop : HasNoNetLoop own_reset
  pub judged : IsByNets own_reset
