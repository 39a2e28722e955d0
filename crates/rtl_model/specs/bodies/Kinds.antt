-- Clocked and combinational bodies.
use Rattle.std.specs.Prelude.{◌≡◌, ◌⊎◌, ℕ, Bool, true, false, ◌&&◌, ◌||◌, ◌==◌, if◌then◌else◌, List, [], Contains, Option, Some, None, IsTrue}
use Rattle.std.specs.List.{list_any}
use Rattle.vhdl_values.specs.declared.scalar.Nine.{Nine}
use Rattle.vhdl_values.specs.declared.scalar.Nine.TheVariants.{Zero, One}
use Rattle.vhdl_values.specs.declared.kinds.Logic.TheVariants.{And}
use Rattle.vhdl_values.specs.declared.kinds.Edge.{Edge}
use Rattle.vhdl_values.specs.declared.kinds.Edge.TheVariants.{Rising, Falling, To1, To0}
use Rattle.vhdl_values.specs.Scalar.{code_of}
use Rattle.rtl_model.specs.basics.Lists.{is_empty}
use Rattle.rtl_model.specs.bodies.Body.{Test, level, rising, falling, event, combined}
use Rattle.rtl_model.specs.bodies.Body.{null_of, assign, if_of, Stmts, done, step, no_else, branch}
use Rattle.rtl_model.specs.bodies.Reads.{value_reads, events}
use Rattle.rtl_model.specs.bodies.Leaves.{leaves}

-- ---- edge tests

-- the edge that a plain level makes together with an event: of '1' or '0' (IEEE 1076-2008, 16.2.4)
abbrev pub edge_to : Nine → Option Edge
edge_to One = Some To1
edge_to Zero = Some To0
edge_to _ = None

-- the test t tests this edge of the net clock
pub data IsEdgeTest (t : Test) (clock : ℕ) (edge : Edge) : Type 0 where
  -- `rising_edge(s)` and `falling_edge(s)`
  rising_call : t ≡ rising clock → edge ≡ Rising → IsEdgeTest t clock edge
  falling_call : t ≡ falling clock → edge ≡ Falling → IsEdgeTest t clock edge
  -- `s'event and s = '1'`, and the same with '0'
  event_and_level : (v : Nine) → t ≡ combined And (event clock) (level true clock v)
      → edge_to v ≡ Some edge → IsEdgeTest t clock edge
  -- `s = '1' and s'event`
  level_and_event : (v : Nine) → t ≡ combined And (level true clock v) (event clock)
      → edge_to v ≡ Some edge → IsEdgeTest t clock edge

pub record EdgeTest : Type 0 where
  pub clock : ℕ
  pub edge : Edge

abbrev pub edge_of_net : (same : Bool) → ℕ → Option Edge → Option EdgeTest
edge_of_net true net (Some edge) = Some (record { clock = net; edge = edge })
edge_of_net _ net _ = None

-- the same as a function
abbrev pub edge_test : Test → Option EdgeTest
edge_test (rising net) = Some (record { clock = net; edge = Rising })
edge_test (falling net) = Some (record { clock = net; edge = Falling })
edge_test (combined And (event net) (level true other v)) = edge_of_net (net == other) net (edge_to v)
edge_test (combined And (level true other v) (event net)) = edge_of_net (net == other) net (edge_to v)
edge_test _ = None

-- ---- reset tests

-- The test t is that this net has just this value, '1' or '0', in either order, parentheses aside. The net is an input
-- of the top, or any, where the reading is wide.
pub record IsResetTest (wide : Bool) (inputs : List ℕ) (t : Test) (net value : ℕ) : Type 0 where
  pub plain : Bool
  pub v : Nine
  pub is : t ≡ level plain net v
  pub one_or_zero : (edge : Edge) × (edge_to v ≡ Some edge)
  pub value_is : value ≡ code_of v
  pub may_reset : IsTrue wide ⊎ Contains inputs net

pub record ResetTest : Type 0 where
  pub net : ℕ
  pub value : ℕ

abbrev pub reset_of_level : (may_reset : Bool) → ℕ → Nine → Option Edge → Option ResetTest
reset_of_level true net v (Some edge) = Some (record { net = net; value = code_of v })
reset_of_level _ net v _ = None

-- the same as a function
abbrev pub reset_test : (wide : Bool) → (inputs : List ℕ) → Test → Option ResetTest
reset_test wide inputs (level plain net v) =
    reset_of_level (wide || list_any (λ m. m == net) inputs) net v (edge_to v)
reset_test wide inputs _ = None

-- signal assignments and nulls alone, and no value reads a signal
abbrev pub assigns_constants : Stmts → Bool
assigns_constants done = true
assigns_constants (step null_of rest) = assigns_constants rest
assigns_constants (step (assign places v) rest) = is_empty (value_reads v) && assigns_constants rest
assigns_constants (step _ rest) = false

-- ---- clocked bodies

-- a reset: its test, the branch that runs while it holds, and whether the branch under the edge doesn't run then
pub record ResetPart : Type 0 where
  pub test : ResetTest
  pub branch : Stmts
  pub gates : Bool

-- what a clocked body is made of: its edge, the branch that runs at it, and its reset if it has one
pub record Clocking : Type 0 where
  pub test : EdgeTest
  pub branch : Stmts
  pub reset : Option ResetPart

-- the body is one if, with no elsif and no else, whose condition is one edge test and whose branch has no edge test and
-- no `'event`
pub record IsClockedAlone (body : Stmts) (c : Clocking) : Type 0 where
  pub test : Test
  pub is : body ≡ step (if_of (branch test c.branch no_else)) done
  pub edge : IsEdgeTest test c.test.clock c.test.edge
  pub no_event : events c.branch ≡ []
  pub no_reset : c.reset ≡ None

-- the body is one if, with one elsif and no else: first a reset test and a branch of constants, then as above
pub record IsClockedWithReset (wide : Bool) (inputs : List ℕ) (body : Stmts) (c : Clocking) : Type 0 where
  pub reset : ResetPart
  pub first : Test
  pub test : Test
  pub is : body ≡ step (if_of (branch first reset.branch (branch test c.branch no_else))) done
  pub reset_is : c.reset ≡ Some reset
  pub gating : reset.gates ≡ true
  pub resets : IsResetTest wide inputs first reset.test.net reset.test.value
  pub constants : IsTrue (assigns_constants reset.branch)
  pub edge : IsEdgeTest test c.test.clock c.test.edge
  pub no_event : events c.branch ≡ []

-- Where the reading is wide, the body is two ifs, with no elsif and no else: first as above, then a reset test and a
-- branch of constants, which reads no variable either. So what the reset assigns replaces what the branch does.
pub record IsClockedThenReset (wide : Bool) (inputs : List ℕ) (body : Stmts) (c : Clocking) : Type 0 where
  pub reset : ResetPart
  pub test : Test
  pub second : Test
  pub is : body ≡ step (if_of (branch test c.branch no_else)) (step (if_of (branch second reset.branch no_else)) done)
  pub is_wide : IsTrue wide
  pub reset_is : c.reset ≡ Some reset
  pub not_gating : reset.gates ≡ false
  pub resets : IsResetTest wide inputs second reset.test.net reset.test.value
  pub constants : IsTrue (assigns_constants reset.branch)
  pub reads_nothing : leaves reset.branch ≡ []
  pub edge : IsEdgeTest test c.test.clock c.test.edge
  pub no_event : events c.branch ≡ []

abbrev pub IsClocked : (wide : Bool) → (inputs : List ℕ) → Stmts → Clocking → Type 0
IsClocked wide inputs body c =
    IsClockedAlone body c ⊎ (IsClockedWithReset wide inputs body c ⊎ IsClockedThenReset wide inputs body c)

-- the same as a function
abbrev pub clocking_of : (constants no_event : Bool) → Option EdgeTest → Stmts → Option ResetPart → Option Clocking
clocking_of true true (Some e) s reset = Some (record { test = e; branch = s; reset = reset })
clocking_of _ _ _ s reset = None

abbrev pub with_reset : (gates : Bool) → Option ResetTest → (constants no_event : Bool)
    → Option EdgeTest → (of_reset of_edge : Stmts) → Option Clocking
with_reset gates (Some r) constants no_event e a s =
    clocking_of constants no_event e s (Some (record { test = r; branch = a; gates = gates }))
with_reset gates None constants no_event e a s = None

abbrev pub clocking : (wide : Bool) → (inputs : List ℕ) → Stmts → Option Clocking
clocking wide inputs (step (if_of (branch t s no_else)) done) =
    clocking_of true (is_empty (events s)) (edge_test t) s None
clocking wide inputs (step (if_of (branch r a (branch t s no_else))) done) =
    with_reset true (reset_test wide inputs r) (assigns_constants a) (is_empty (events s)) (edge_test t) a s
clocking wide inputs (step (if_of (branch t s no_else)) (step (if_of (branch r a no_else)) done)) =
    if wide
    then with_reset false (reset_test wide inputs r) (is_empty (leaves a) && assigns_constants a)
    (is_empty (events s)) (edge_test t) a s
    else None
clocking wide inputs _ = None
