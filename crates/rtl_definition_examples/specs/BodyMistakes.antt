-- Wrong definitions of what bodies do, each with a small body or netlist on which it differs from the right one, and a
-- law that it would break.
use Rattle.std.specs.Prelude.{◌≡◌, ℕ, Bool, true, false, ◌==◌, ◌&&◌, List, [], ◌∷◌, Some, None}
use Rattle.vhdl_values.specs.declared.scalar.Nine.TheVariants.{U, One}
use Rattle.vhdl_values.specs.declared.kinds.Logic.TheVariants.{And}
use Rattle.vhdl_values.specs.declared.kinds.Edge.TheVariants.{Rising, To1}
use Rattle.vhdl_values.specs.Edges.{has_edge}
use Rattle.rtl_model.specs.basics.Valuations.{or_else}
use Rattle.rtl_model.specs.bodies.Body.{Stmts, done, step, Branches, no_else, otherwise, branch, combined, followed_by}
use Rattle.rtl_model.specs.bodies.Values.{Seen}
use Rattle.rtl_model.specs.bodies.Variables.{after_stmt}
use Rattle.rtl_model.specs.bodies.Effect.{Entries, no_entries, later_over, stmt_effect, effect}
use Rattle.rtl_model.specs.bodies.Assigns.{Target, of_drivers, must_assign, branches_must_assign}
use Rattle.rtl_model.specs.bodies.Kinds.{edge_test}
use Rattle.rtl_model.specs.bodies.Types.{nine_valued}
use Rattle.rtl_model.specs.nets.FlatNetlist.{FlatNetlist}
use Rattle.rtl_model.specs.nets.CoreNetlist.{core_netlist}
use Rattle.rtl_model.specs.simulation.Accepted.{Latch, IsFault}
use Rattle.rtl_model.specs.simulation.Machine.{Solves}
use Rattle.rtl_definition_examples.specs.Bodies.{one_signal, text, assigned, low, is_at, if_only, on, clk_event}

-- a run without variables
abbrev pub sees : (before now : List ℕ) → Seen
sees before now = record { before = before; now = now; variables = [] }

-- ---- an if without else counts as assigning

-- wrong
abbrev pub branches_assign_without_else : (these : Target → Bool) → Branches → Bool
branches_assign_without_else these no_else = true
branches_assign_without_else these (otherwise s) = must_assign these s
branches_assign_without_else these (branch t s bs) = must_assign these s && branches_assign_without_else these bs

-- a latch: `process (a, s) begin if s = '1' then y <= a; end if; end process;` with the nets a, s and y
abbrev pub latch_branches : Branches
latch_branches = branch (is_at 1 One) (assigned (one_signal 0)) no_else

abbrev pub latch : FlatNetlist
latch = record {
  types = nine_valued ∷ nine_valued ∷ nine_valued ∷ [];
  start = 0 ∷ 0 ∷ 0 ∷ [];
  inputs = 0 ∷ 1 ∷ [];
  idle = [] ∷ [] ∷ [] ∷ [];
  wide = false;
  processes = record {
    drivers = record { net = 2; start = 0 } ∷ [];
    wakes = 0 ∷ 1 ∷ [];
    variables = [];
    body = if_only (is_at 1 One) (assigned (one_signal 0));
  } ∷
      [];
}

-- The run with s at '0' assigns nothing, and no valuation solves the netlist's equations: what is combinational and
-- accepted would have no value.
pub record LatchWouldPass : Type 0 where
  pub right : branches_must_assign (of_drivers (λ place. place == 0)) latch_branches ≡ false
  pub wrong : branches_assign_without_else (of_drivers (λ place. place == 0)) latch_branches ≡ true
  pub is_fault : IsFault (core_netlist latch) (Latch 0 2)
  pub no_entry : effect (sees (3 ∷ 2 ∷ 0 ∷ []) (3 ∷ 2 ∷ 0 ∷ [])) (if_only (is_at 1 One) (assigned (one_signal 0))) 0
      ≡ None
  pub no_solution : (registers : ℕ → ℕ) (v : List ℕ) → Solves (core_netlist latch) (λ n. 2) registers v → ⊥

-- ---- a later assignment doesn't replace an earlier one

-- wrong
abbrev pub effect_of_first : Seen → Stmts → Entries
effect_of_first seen done = no_entries
effect_of_first seen (step s rest) = later_over (stmt_effect seen s) (effect_of_first (after_stmt seen s) rest)

-- `y <= '0'; y <= '1';`
abbrev pub high : Stmts
high = assigned (text (One ∷ []))

-- the default that an if after it replaces would stay for ever
pub record DefaultWouldStay : Type 0 where
  pub right : effect (sees [] []) (followed_by low high) 0 ≡ Some 3
  pub wrong : effect_of_first (sees [] []) (followed_by low high) 0 ≡ Some 2
  pub law_fails : effect_of_first (sees [] []) (followed_by low high) 0
      ≡ or_else (effect_of_first (sees [] []) high 0) (effect_of_first (sees [] []) low 0) → ⊥

-- ---- a test to '1' is taken as a rising edge

-- `if clk'event and clk = '1' then q <= d; end if;` runs its branch where clk goes from 'U' to '1', which is no
-- rising edge.
abbrev pub at_one : Stmts
at_one = on (combined And clk_event (is_at 0 One))

pub record TestWouldBeRising : Type 0 where
  pub right : edge_test (combined And clk_event (is_at 0 One)) ≡ Some (record { clock = 0; edge = To1 })
  pub holds : has_edge To1 U One ≡ true
  pub wrong_fails : has_edge Rising U One ≡ false
  pub acts : effect (sees (0 ∷ 0 ∷ 3 ∷ []) (3 ∷ 0 ∷ 3 ∷ [])) at_one 0 ≡ Some 3
  -- that a clocked body does nothing but at its edge
  pub law_fails : (has_edge Rising U One ≡ false → effect (sees (0 ∷ 0 ∷ 3 ∷ []) (3 ∷ 0 ∷ 3 ∷ [])) at_one 0 ≡ None) → ⊥
