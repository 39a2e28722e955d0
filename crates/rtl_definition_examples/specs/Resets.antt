-- Resets that processes drive: which nets they may be, and what their registers do.
use Rattle.std.specs.Prelude.{◌≡◌, ℕ, ◌==◌, true, List, [], ◌∷◌, slice_index, Some, None}
use Rattle.vhdl_values.specs.declared.scalar.Nine.{Nine}
use Rattle.vhdl_values.specs.declared.scalar.Nine.TheVariants.{Zero, One}
use Rattle.vhdl_values.specs.declared.kinds.Logic.TheVariants.{Nand}
use Rattle.rtl_model.specs.bodies.Body.{logical, binary, inverse, if_of, branch, no_else, Stmts, done, step}
use Rattle.rtl_model.specs.bodies.Types.{nine_valued}
use Rattle.rtl_model.specs.nets.FlatNetlist.{FlatNetlist}
use Rattle.rtl_model.specs.nets.CoreNetlist.{core_netlist}
use Rattle.rtl_model.specs.simulation.Netlist.{Netlist, Rising}
use Rattle.rtl_model.specs.simulation.Accepted.{IsFault, MixedProcess}
use Rattle.rtl_model.specs.simulation.Calm.{IsCalm}
use Rattle.rtl_model.specs.simulation.Machine.{register_next}
use Rattle.rtl_model.specs.simulation.NetLevels.{AreLevelsByNets, bound_by_nets}
use Rattle.rtl_definition_examples.specs.Bodies.{one_signal, text, assigned, is_at, low, load, rising_clk, if_only, if_elsif}
use Rattle.rtl_definition_examples.specs.Circuits.{circuit, drives_one}
use Rattle.rtl_definition_examples.specs.Counter.{driver}
use Rattle.rtl_definition_examples.specs.ByNets.{widened, given}

abbrev pub high : Stmts
high = assigned (text (One ∷ []))

-- ---- an inverted copy of a register as a reset; the nets are clk, arst, d, s, n and q

-- s has this starting value, and where arst is '1' this one; `n <= not s;`, and q is reset where n is '0'
abbrev pub inverted : (start : ℕ) → (of_reset : Nine) → FlatNetlist
inverted start of_reset = widened (circuit (0 ∷ 1 ∷ 2 ∷ []) (0 ∷ 0 ∷ 0 ∷ start ∷ 0 ∷ 0 ∷ []) (
    drives_one 3 start (0 ∷ 1 ∷ []) (if_elsif (is_at 1 One) (assigned (text (of_reset ∷ []))) rising_clk low)
    ∷ drives_one 4 0 (3 ∷ []) (assigned (inverse (one_signal 3)))
    ∷ drives_one 5 0 (0 ∷ 4 ∷ []) (if_elsif (is_at 4 Zero) low rising_clk load) ∷ []))

-- A copy may be a reset, but not where what it copies starts so that it holds, and is reset at once so that it doesn't.
pub record CopiesAsResets : Type 0 where
  pub calm : IsCalm (core_netlist (inverted 0 One)) 4 (λ value. value == 2)
  pub held_by_reset : IsCalm (core_netlist (inverted 3 One)) 4 (λ value. value == 2)
  pub released_at_once : IsFault (core_netlist (inverted 3 Zero)) (MixedProcess 2)
  pub levels : AreLevelsByNets (core_netlist (inverted 0 One)) (None ∷ Some 1 ∷ Some 2 ∷ [])
      (0 ∷ 0 ∷ 0 ∷ 0 ∷ 1 ∷ 2 ∷ []) 2
  pub bound_is : bound_by_nets (core_netlist (inverted 0 One)) 2 ≡ 3

-- ---- a register that a register resets, as a reset; the nets are clk, r, x and q

-- at an edge r and x become '1'; x is reset to this value where r is '1', and q to '0' where x is
abbrev pub in_turn : (of_reset : Nine) → FlatNetlist
in_turn of_reset = widened (circuit (0 ∷ []) (0 ∷ 2 ∷ 2 ∷ 3 ∷ []) (
    drives_one 1 2 (0 ∷ []) (if_only rising_clk high)
    ∷ drives_one 2 2 (0 ∷ 1 ∷ []) (if_elsif (is_at 1 One) (assigned (text (of_reset ∷ []))) rising_clk high)
    ∷ drives_one 3 3 (0 ∷ 2 ∷ []) (if_elsif (is_at 2 One) low rising_clk high) ∷ []))

-- r may reset x, since no reset assigns it. With '0' x is '0', '1' and '0' within the edge's moment, so that it may not
-- reset q. With '1', at which q is reset, it may.
pub record RegistersAsResets : Type 0 where
  pub no_reset : IsCalm (core_netlist (in_turn Zero)) 1 (λ value. value == 3)
  pub reset_to_another : IsFault (core_netlist (in_turn Zero)) (MixedProcess 2)
  pub reset_to_it : IsCalm (core_netlist (in_turn One)) 2 (λ value. value == 3)

-- ---- resets made of inputs; the nets are clk, rst, ok, n, s and q

-- n has this value; s is reset to '1' where n is '1', and q to '0' where s is '1'
abbrev pub made_by : (body : Stmts) → (wakes : List ℕ) → FlatNetlist
made_by body wakes = widened (circuit (0 ∷ 1 ∷ 2 ∷ []) (0 ∷ 0 ∷ 0 ∷ 0 ∷ 0 ∷ 0 ∷ []) (
    drives_one 3 0 wakes body
    ∷ drives_one 4 0 (0 ∷ 3 ∷ []) (if_elsif (is_at 3 One) high rising_clk low)
    ∷ drives_one 5 0 (0 ∷ 4 ∷ []) (if_elsif (is_at 4 One) low rising_clk high) ∷ []))

abbrev pub of_inputs : FlatNetlist
of_inputs = made_by (assigned (binary (logical Nand) (one_signal 1) (one_signal 2))) (1 ∷ 2 ∷ [])

abbrev pub of_clock : FlatNetlist
of_clock = made_by (assigned (binary (logical Nand) (one_signal 1) (one_signal 0))) (0 ∷ 1 ∷ [])

pub record InputsAsResets : Type 0 where
  pub calm : IsCalm (core_netlist of_inputs) 4 (λ value. value == 3)
  pub levels : AreLevelsByNets (core_netlist of_inputs) (Some 1 ∷ Some 2 ∷ Some 3 ∷ [])
      (0 ∷ 0 ∷ 0 ∷ 1 ∷ 2 ∷ 3 ∷ []) 3
  pub clock_in_it : IsFault (core_netlist of_clock) (MixedProcess 1)

-- ---- what registers do; the nets are clk, a, d, r, q and p

-- at an edge `r <= a;`, and in a process of these statements `q <= d; p <= d;`; where r is '1' `q <= '0';`
abbrev pub loads : Stmts
loads = given 0 2 (given 1 2 done)

abbrev pub before_edge : Stmts
before_edge = if_elsif (is_at 3 One) low rising_clk loads

abbrev pub behind_edge : Stmts
behind_edge = step (if_of (branch rising_clk loads no_else)) (if_only (is_at 3 One) low)

abbrev pub leaves_out : (body : Stmts) → Netlist
leaves_out body = core_netlist (record {
  types = nine_valued ∷ nine_valued ∷ nine_valued ∷ nine_valued ∷ nine_valued ∷ nine_valued ∷ [];
  start = 0 ∷ 0 ∷ 0 ∷ 2 ∷ 0 ∷ 0 ∷ [];
  inputs = 0 ∷ 1 ∷ 2 ∷ [];
  idle = [] ∷ [] ∷ [] ∷ [] ∷ [] ∷ [] ∷ [];
  wide = true;
  processes = drives_one 3 2 (0 ∷ []) (if_only rising_clk (assigned (one_signal 1)))
      ∷ record { drivers = driver 4 0 ∷ driver 5 0 ∷ []; wakes = 0 ∷ 3 ∷ []; variables = []; body = body } ∷ [];
})

-- a is '1' at the edge and d is, and r becomes '1'
abbrev pub asserted_from : List ℕ
asserted_from = 2 ∷ 3 ∷ 3 ∷ 2 ∷ 3 ∷ 2 ∷ []

abbrev pub asserted_to : List ℕ
asserted_to = 3 ∷ 3 ∷ 3 ∷ 3 ∷ 2 ∷ 3 ∷ []

-- a is '0' at the edge and d is '1', and r becomes '0'
abbrev pub released_from : List ℕ
released_from = 2 ∷ 2 ∷ 3 ∷ 3 ∷ 2 ∷ 2 ∷ []

abbrev pub released_to : (p : ℕ) → List ℕ
released_to p = 3 ∷ 2 ∷ 3 ∷ 2 ∷ 2 ∷ p ∷ []

-- what the driver at this place has next from v to w, where clk rises
abbrev pub next : Netlist → (place : ℕ) → (v w : List ℕ) → ℕ
next net place v w = register_next net 1 place 0 Rising v (slice_index w) w

-- At an edge at which r becomes '1' or '0', q has '0' in the end, by r after or before the edge. p, which the reset
-- leaves out, has d where r becomes '1'; where r becomes '0' it has d if the reset stands behind the edge, and else
-- what it had.
pub record RegistersOfResets : Type 0 where
  pub levels : AreLevelsByNets (leaves_out before_edge) (None ∷ Some 1 ∷ []) (0 ∷ 0 ∷ 0 ∷ 0 ∷ 1 ∷ 0 ∷ []) 1
  pub asserted : next (leaves_out before_edge) 0 asserted_from asserted_to ≡ 2
  pub left_out : next (leaves_out before_edge) 1 asserted_from asserted_to ≡ 3
  pub released : next (leaves_out before_edge) 0 released_from (released_to 2) ≡ 2
  pub held_back : next (leaves_out before_edge) 1 released_from (released_to 2) ≡ 2
  pub released_behind : next (leaves_out behind_edge) 0 released_from (released_to 3) ≡ 2
  pub not_held_back : next (leaves_out behind_edge) 1 released_from (released_to 3) ≡ 3
