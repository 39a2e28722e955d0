-- Processes with variables: what they compute, which variables they store, and two wrong definitions.
--
--     par: process (a) variable v : std_logic; begin v := '0'; for i in 0 to 3 loop v := v xor a(i); end loop; y <= v;
-- end process;
use Rattle.std.specs.Prelude.{◌≡◌, ℕ, true, false, List, [], ◌∷◌, slice_index, Some}
use Rattle.vhdl_values.specs.declared.scalar.Nine.TheVariants.{Zero}
use Rattle.vhdl_values.specs.declared.kinds.Logic.TheVariants.{Xor}
use Rattle.rtl_model.specs.bodies.Body.{logical, binary, elements, assign, Stmt, Stmts, done, step, Branches, no_else, branch, if_of}
use Rattle.rtl_model.specs.bodies.Types.{nine_valued, enumeration}
use Rattle.rtl_model.specs.bodies.Variables.{variables_after}
use Rattle.rtl_model.specs.bodies.Effect.{effect}
use Rattle.rtl_model.specs.bodies.Assigns.{is_element, branches_must_assign}
use Rattle.rtl_model.specs.bodies.Stored.{stores_element}
use Rattle.rtl_model.specs.nets.FlatNetlist.{FlatVariable, VariableInRange, FlatNetlist}
use Rattle.rtl_model.specs.nets.CoreNetlist.{core_netlist, seen_from, element_number}
use Rattle.rtl_model.specs.nets.Laws.{IsSound}
use Rattle.rtl_model.specs.simulation.Accepted.{StoredVariable, IsFault}
use Rattle.rtl_definition_examples.specs.Bodies.{one_signal, one_variable, text, set_one, is_at, zero_it, then_show, with_values}
use Rattle.rtl_definition_examples.specs.BodyMistakes.{branches_assign_without_else}
use Rattle.rtl_definition_examples.specs.Circuits.{SettlesAs}

-- of the nine values, or of an enumeration with so many literals
abbrev pub logic_variable : List ℕ → FlatVariable
logic_variable starts = record { type_of = nine_valued; starts = starts }

abbrev pub literal_variable : (literals : ℕ) → List ℕ → FlatVariable
literal_variable literals starts = record { type_of = enumeration literals; starts = starts }

-- one process that drives y, net 4, and wakes on a(3), a(2), a(1) and a(0), nets 0 to 3
abbrev pub of_process : List FlatVariable → Stmts → FlatNetlist
of_process variables body = record {
  types = nine_valued ∷ nine_valued ∷ nine_valued ∷ nine_valued ∷ nine_valued ∷ [];
  start = 0 ∷ 0 ∷ 0 ∷ 0 ∷ 0 ∷ [];
  inputs = 0 ∷ 1 ∷ 2 ∷ 3 ∷ [];
  idle = [] ∷ [] ∷ [] ∷ [] ∷ [] ∷ [];
  wide = false;
  processes = record {
    drivers = record { net = 4; start = 0 } ∷ [];
    wakes = 0 ∷ 1 ∷ 2 ∷ 3 ∷ [];
    variables = variables;
    body = body;
  } ∷ [];
}

abbrev pub turn : (net : ℕ) → Stmt
turn net = set_one 0 (binary (logical Xor) (one_variable 0) (one_signal net))

abbrev pub turns : Stmts
turns = step (turn 3) (step (turn 2) (step (turn 1) (step (turn 0) (then_show 0))))

abbrev pub par : FlatNetlist
par = of_process (logic_variable (0 ∷ []) ∷ []) (step (set_one 0 (text (Zero ∷ []))) turns)

abbrev pub inputs_of : List ℕ → (m n : ℕ) → ℕ
inputs_of values m n = slice_index values n

-- variables v, w (1 downto 0) and s of an enumeration; `w(1) := a(0); y <= w(0);`
abbrev pub three_variables : List FlatVariable
three_variables = logic_variable (3 ∷ []) ∷ logic_variable (0 ∷ 0 ∷ []) ∷ literal_variable 3 (2 ∷ []) ∷ []

pub record VariablesOfNets : Type 0 where
  -- parity of 1011 is '1', of 10X1 'X'
  pub sound : IsSound par
  pub of_bits : SettlesAs (core_netlist par) (inputs_of (3 ∷ 2 ∷ 3 ∷ 3 ∷ [])) 0 (3 ∷ 2 ∷ 3 ∷ 3 ∷ 3 ∷ [])
  pub of_unknown : SettlesAs (core_netlist par) (inputs_of (3 ∷ 2 ∷ 1 ∷ 3 ∷ [])) 0 (3 ∷ 2 ∷ 1 ∷ 3 ∷ 1 ∷ [])
  -- without `v := '0';`, and with an if in its place
  pub without_first : IsFault (core_netlist (of_process (logic_variable (0 ∷ []) ∷ []) turns)) (StoredVariable 0 0 0)
  pub with_if : IsFault (core_netlist
      (of_process (logic_variable (0 ∷ []) ∷ []) (step (if_of (branch (is_at 3 Zero) zero_it no_else)) turns)))
      (StoredVariable 0 0 0)
  -- `w(0) := a(0); y <= w(1);`
  pub of_vector : IsFault (core_netlist (of_process (logic_variable (0 ∷ 0 ∷ []) ∷ [])
      (step (set_one 1 (one_signal 3)) (then_show 0)))) (StoredVariable 0 0 0)
  -- elements are numbered through the variables, from the left
  pub numbers : (element_number three_variables 0 0 ≡ Some 0) × (element_number three_variables 1 0 ≡ Some 1)
      × (element_number three_variables 1 1 ≡ Some 2) × (element_number three_variables 2 0 ≡ Some 3)
  pub of_second : IsFault (core_netlist (of_process three_variables (step (set_one 1 (one_signal 3)) (then_show 2))))
      (StoredVariable 0 1 1)
  pub not_of_first : IsFault (core_netlist (of_process three_variables (step (set_one 1 (one_signal 3)) (then_show 2))))
      (StoredVariable 0 1 0) → ⊥
  -- each run begins with the initial values
  pub starts_with : effect (seen_from (record { drivers = []; wakes = []; variables = three_variables; body = done })
      [] []) (then_show 0) 0 ≡ Some 3
  -- a variable of an enumeration has one element, of the nine values one at least, and starts with values of its type
  pub two_literals : VariableInRange (literal_variable 3 (0 ∷ 0 ∷ [])) → ⊥
  pub no_element : VariableInRange (logic_variable []) → ⊥
  pub literal_past : VariableInRange (literal_variable 3 (3 ∷ [])) → ⊥

-- ---- a variable keeps its value from run to run

-- `y <= v; v := a(0);` stores v: from the value that the run before left it assigns that run's a(0)
abbrev pub show_then_set : Stmts
show_then_set = step (assign (0 ∷ []) (elements (one_variable 0))) (step (set_one 0 (one_signal 2)) done)

-- The second of two runs assigns the initial value 'U' as every run does; it would assign the first run's '1'.
pub record VariableWouldBeKept : Type 0 where
  pub is_fault : IsFault (core_netlist (of_process (logic_variable (0 ∷ []) ∷ []) show_then_set)) (StoredVariable 0 0 0)
  pub right : effect (with_values (0 ∷ [])) show_then_set 0 ≡ Some 0
  pub wrong : effect (with_values (variables_after (with_values (0 ∷ [])) show_then_set)) show_then_set 0 ≡ Some 3

-- ---- an if without else counts as assigning a variable

abbrev pub zero_if : Branches
zero_if = branch (is_at 2 Zero) zero_it no_else

abbrev pub show_after_if : Stmts
show_after_if = step (if_of zero_if) (then_show 0)

-- v would not be stored, and yet what the run assigns is what v had before it
pub record StoredWouldPass : Type 0 where
  pub right : branches_must_assign (is_element 0) zero_if ≡ false
  pub wrong : branches_assign_without_else (is_element 0) zero_if ≡ true
  pub is_stored : stores_element 0 show_after_if ≡ true
  pub from_one : effect (with_values (3 ∷ [])) show_after_if 0 ≡ Some 3
  pub from_other : effect (with_values (6 ∷ [])) show_after_if 0 ≡ Some 6
