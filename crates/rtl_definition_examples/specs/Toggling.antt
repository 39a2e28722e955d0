-- A register that toggles, with and without an asynchronous reset: an accepted netlist, so the laws' premises can be
-- met; its moments take as many delta cycles as the bound says.
--
--     process (clk) begin if rising_edge(clk) then q <= y; end if; end process;
--     y <= not q;
--
-- and with the reset
--
--     process (all) begin if rst = '1' then q <= '0'; elsif rising_edge(clk) then q <= y; end if; end process;
use Rattle.std.specs.Prelude.{ℕ, Bool, true, false, ◌==◌, List, [], ◌∷◌, Some, None, if◌then◌else◌}
use Rattle.vhdl_values.specs.declared.scalar.Nine.TheVariants.{One}
use Rattle.rtl_model.specs.bodies.Body.{inverse, Stmts}
use Rattle.rtl_model.specs.nets.FlatNetlist.{FlatNetlist}
use Rattle.rtl_model.specs.nets.CoreNetlist.{core_netlist}
use Rattle.rtl_model.specs.nets.Laws.{IsSound}
use Rattle.rtl_model.specs.simulation.Netlist.{Rising}
use Rattle.rtl_model.specs.simulation.Moments.{Takes}
use Rattle.rtl_model.specs.simulation.Report.{IsReport}
use Rattle.rtl_model.specs.simulation.Races.{HasNoRace}
use Rattle.rtl_model.specs.simulation.Range.{AreInputs}
use Rattle.rtl_definition_examples.specs.Bodies.{assigned, one_signal, is_at, low, rising_clk, if_only, if_elsif}
use Rattle.rtl_definition_examples.specs.Circuits.{circuit, drives_one}

-- the nets are clk, rst, q and y
abbrev pub register : (with_reset : Bool) → Stmts
register false = if_only rising_clk (assigned (one_signal 3))
register true = if_elsif (is_at 1 One) low rising_clk (assigned (one_signal 3))

abbrev pub sensitivity : (with_reset : Bool) → List ℕ
sensitivity false = 0 ∷ []
sensitivity true = 0 ∷ 1 ∷ 3 ∷ []

-- without the reset q has a starting value
abbrev pub start : (with_reset : Bool) → ℕ
start false = 2
start true = 0

abbrev pub toggling : (with_reset : Bool) → FlatNetlist
toggling with_reset =
    circuit (0 ∷ 1 ∷ []) (0 ∷ 0 ∷ start with_reset ∷ 0 ∷ [])
    (drives_one 2 (start with_reset) (sensitivity with_reset) (register with_reset)
    ∷ drives_one 3 0 (2 ∷ []) (assigned (inverse (one_signal 2))) ∷ [])

-- clk rises at moment 1; rst is '1' where there is a reset
abbrev pub one_edge : (with_reset : Bool) → (m n : ℕ) → ℕ
one_edge with_reset m n = if n == 0 then (if m == 0 then 2 else 3) else (if with_reset then 3 else 2)

abbrev pub bound_of : (with_reset : Bool) → ℕ
bound_of false = 2
bound_of true = 3

-- everything that the laws ask for
pub record MeetsPremises (with_reset : Bool) : Type 0 where
  pub sound : IsSound (toggling with_reset)
  pub inputs : (m : ℕ) → AreInputs (core_netlist (toggling with_reset)) (one_edge with_reset m)
  pub no_race : (last : ℕ) → HasNoRace (core_netlist (toggling with_reset)) (one_edge with_reset) last
  pub report : IsReport (core_netlist (toggling with_reset)) (None ∷ Some 1 ∷ [])
      (None ∷ None ∷ []) ((0, Rising) ∷ []) (bound_of with_reset)

abbrev pub PremisesCanBeMet : Type 0
PremisesCanBeMet = (with_reset : Bool) → MeetsPremises with_reset

-- The start takes the greatest level, the edge the bound; with the reset the start takes the bound.
pub record BoundsAreMet : Type 0 where
  pub start_takes_one : Takes (core_netlist (toggling false)) (one_edge false) 0 1
  pub edge_takes_two : Takes (core_netlist (toggling false)) (one_edge false) 1 2
  pub reset_takes_three : Takes (core_netlist (toggling true)) (one_edge true) 0 3
