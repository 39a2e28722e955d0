-- A counter as a flat netlist: it is in range, connected and accepted, and its simulation counts.
--
--     process (clk) begin if rising_edge(clk) then q <= q + 1; end if; end process;
--     y <= std_logic_vector(q);
--
-- The nets are clk, y(1), y(0), q(1) and q(0), and q starts at "00".
use Rattle.std.specs.Prelude.{ℕ, [], ◌∷◌, slice_index, false}
use Rattle.vhdl_values.specs.declared.scalar.Nine.TheVariants.{Zero, One}
use Rattle.rtl_model.specs.bodies.Body.{plus, Expr, constant, binary, elements, assign, Stmts, done, step}
use Rattle.rtl_model.specs.bodies.Types.{nine_valued}
use Rattle.rtl_model.specs.nets.FlatNetlist.{FlatDriver, FlatProcess, FlatNetlist}
use Rattle.rtl_model.specs.nets.CoreNetlist.{core_netlist}
use Rattle.rtl_model.specs.simulation.Moments.{Takes}
use Rattle.rtl_model.specs.nets.Laws.{IsSound}
use Rattle.rtl_definition_examples.specs.Bodies.{pair, if_only, rising_clk}
use Rattle.rtl_definition_examples.specs.Circuits.{SettlesAs}

abbrev pub assigned_pair : Expr → Stmts
assigned_pair e = step (assign (0 ∷ 1 ∷ []) (elements e)) done

abbrev pub driver : (net start : ℕ) → FlatDriver
driver net start = record { net = net; start = start }

-- the register, and what follows it
abbrev pub counting : FlatProcess
counting = record {
  drivers = driver 3 2 ∷ driver 4 2 ∷ [];
  wakes = 0 ∷ [];
  variables = [];
  body = if_only rising_clk (assigned_pair (binary plus (pair 3 4) (constant (Zero ∷ One ∷ []))));
}

abbrev pub showing : FlatProcess
showing = record {
  drivers = driver 1 0 ∷ driver 2 0 ∷ [];
  wakes = 3 ∷ 4 ∷ [];
  variables = [];
  body = assigned_pair (pair 3 4);
}

abbrev pub counter : FlatNetlist
counter = record {
  types = nine_valued ∷ nine_valued ∷ nine_valued ∷ nine_valued ∷ nine_valued ∷ [];
  start = 0 ∷ 0 ∷ 0 ∷ 2 ∷ 2 ∷ [];
  inputs = 0 ∷ [];
  idle = [] ∷ [] ∷ [] ∷ [] ∷ [] ∷ [];
  wide = false;
  processes = counting ∷ showing ∷ [];
}

-- clk is '0' at moment 0 and then changes at each moment
abbrev pub clock : (m n : ℕ) → ℕ
clock m n = slice_index (2 ∷ 3 ∷ 2 ∷ 3 ∷ []) m

pub record CounterCounts : Type 0 where
  pub sound : IsSound counter
  pub at_start : SettlesAs (core_netlist counter) clock 0 (2 ∷ 2 ∷ 2 ∷ 2 ∷ 2 ∷ [])
  pub first_edge : SettlesAs (core_netlist counter) clock 1 (3 ∷ 2 ∷ 3 ∷ 2 ∷ 3 ∷ [])
  pub no_edge : SettlesAs (core_netlist counter) clock 2 (2 ∷ 2 ∷ 3 ∷ 2 ∷ 3 ∷ [])
  pub second_edge : SettlesAs (core_netlist counter) clock 3 (3 ∷ 3 ∷ 2 ∷ 3 ∷ 2 ∷ [])
  -- one delta cycle for the register, and one for what follows it
  pub edge_takes_two : Takes (core_netlist counter) clock 1 2
