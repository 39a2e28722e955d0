-- Small bodies: their kinds, and what runs of them assign, read and store. Places stand for drivers: in each process
-- the driver at place 0 is that of the target.
use Rattle.std.specs.Prelude.{◌≡◌, ℕ, Bool, true, false, List, [], ◌∷◌, map, Option, Some, None}
use Rattle.vhdl_values.specs.declared.scalar.Nine.{Nine}
use Rattle.vhdl_values.specs.declared.scalar.Nine.TheVariants.{X, Zero, One}
use Rattle.vhdl_values.specs.declared.kinds.Cmp.TheVariants.{Eq, Ne, Lt}
use Rattle.vhdl_values.specs.declared.kinds.Counted.TheVariants.{Resize, Shift}
use Rattle.vhdl_values.specs.declared.kinds.Shift.TheVariants.{Left, Right}
use Rattle.vhdl_values.specs.declared.kinds.Logic.TheVariants.{And, Or, Nand, Nor, Xor, Xnor}
use Rattle.vhdl_values.specs.declared.kinds.Logic.{Logic}
use Rattle.vhdl_values.specs.declared.kinds.Edge.TheVariants as v
use Rattle.rtl_model.specs.bodies.Body.{logical, joined, plus, minus, times, Expr, signal, variable, constant}
use Rattle.rtl_model.specs.bodies.Body.{inverse, filled, binary, counted, elements, position, position_of, position_in}
use Rattle.rtl_model.specs.bodies.Body.{Test, condition, decided, equal, unequal, level, compared, compared_to, rising, falling, event}
use Rattle.rtl_model.specs.bodies.Body.{negated, combined, Stmt, null_of, assign, set, if_of, case_of, Stmts, done, step}
use Rattle.rtl_model.specs.bodies.Body.{no_else, otherwise, branch, others, alternative}
use Rattle.rtl_model.specs.bodies.Values.{Seen, elements_of}
use Rattle.rtl_model.specs.bodies.Tests.{is_met}
use Rattle.rtl_model.specs.bodies.Effect.{effect}
use Rattle.rtl_model.specs.bodies.Reads.{reads, events}
use Rattle.rtl_model.specs.bodies.Assigns.{of_drivers, must_assign}
use Rattle.rtl_model.specs.bodies.Stored.{stores_element}
use Rattle.rtl_model.specs.nets.CoreNetlist.{drives_net, core_process}
use Rattle.rtl_model.specs.simulation.Netlist.{ProcessKind, Combinational, Clocked, Mixed, Reset}

-- ---- words to write bodies with

abbrev pub one_signal : (net : ℕ) → Expr
one_signal net = signal (net ∷ [])

abbrev pub one_variable : (element : ℕ) → Expr
one_variable element = variable (element ∷ [])

abbrev pub text : List Nine → Expr
text values = constant values

-- the assignment `y <= e` to the driver at place 0
abbrev pub assigned : Expr → Stmts
assigned e = step (assign (0 ∷ []) (elements e)) done

-- `v := e` to one element
abbrev pub set_one : (element : ℕ) → Expr → Stmt
set_one element e = set (element ∷ []) (elements e)

-- s = '1', or another character
abbrev pub is_at : (net : ℕ) → Nine → Test
is_at net v = level true net v

-- `if t then .. end if`
abbrev pub if_only : Test → Stmts → Stmts
if_only t s = step (if_of (branch t s no_else)) done

-- `if t then .. elsif u then .. end if`
abbrev pub if_elsif : Test → Stmts → Test → Stmts → Stmts
if_elsif t s u r = step (if_of (branch t s (branch u r no_else))) done

-- ---- what is clocked: here clk is net 0, rst net 1, both inputs, d net 2

abbrev pub load : Stmts
load = assigned (one_signal 2)

abbrev pub low : Stmts
low = assigned (text (Zero ∷ []))

abbrev pub on : Test → Stmts
on t = if_only t load

abbrev pub clk_event : Test
clk_event = event 0

abbrev pub rising_clk : Test
rising_clk = rising 0

-- the kind of a process with one driver
abbrev pub kind_of : Stmts → ProcessKind
kind_of body =
    (core_process false (0 ∷ 1 ∷ [])
    (record { drivers = record { net = 5; start = 0 } ∷ []; wakes = []; variables = []; body = body })).kind

pub record KindsOfBodies : Type 0 where
  -- `if rising_edge(clk) then q <= d; end if;`, and falling_edge
  pub by_call : kind_of (on rising_clk) ≡ Clocked 0 v.Rising None
  pub by_other_call : kind_of (on (falling 0)) ≡ Clocked 0 v.Falling None
  -- `clk'event and clk = '1'`, and with the sides exchanged and '0'
  pub by_event : kind_of (on (combined And clk_event (is_at 0 One))) ≡ Clocked 0 v.To1 None
  pub by_event_last : kind_of (on (combined And (is_at 0 Zero) clk_event)) ≡ Clocked 0 v.To0 None
  -- an enable within the branch
  pub with_enable : kind_of (if_only rising_clk (on (is_at 1 One))) ≡ Clocked 0 v.Rising None
  -- no edge test: combinational, also where it isn't assigned on every path
  pub without_edge : kind_of (on (is_at 1 One)) ≡ Combinational
  -- `clk = '1' and rising_edge(clk)`, `clk'event or clk = '1'` and `not (not rising_edge(clk))` are no edge tests
  pub edge_and_level : kind_of (on (combined And (is_at 0 One) rising_clk)) ≡ Mixed
  pub event_or_level : kind_of (on (combined Or clk_event (is_at 0 One))) ≡ Mixed
  pub negated_twice : kind_of (on (negated (negated rising_clk))) ≡ Mixed
  -- the level of another net, and a level of 'X'
  pub other_level : kind_of (on (combined And clk_event (is_at 1 One))) ≡ Mixed
  pub level_of_x : kind_of (on (combined And clk_event (is_at 0 X))) ≡ Mixed
  -- a declared constant with the value '1'; `'1' = clk` and `clk = ('1')`
  pub named_constant : kind_of
      (on (combined And clk_event (equal (elements (one_signal 0)) (elements (text (One ∷ [])))))) ≡ Mixed
  pub level_reversed : kind_of (on (combined And clk_event (level false 0 One))) ≡ Mixed
  -- `else null;`, an elsif, a second statement, and an edge test within the branch
  pub with_else : kind_of (step (if_of (branch rising_clk load (otherwise (step null_of done)))) done) ≡ Mixed
  pub with_elsif : kind_of (if_elsif rising_clk load (is_at 1 One) load) ≡ Mixed
  pub with_more : kind_of (step (if_of (branch rising_clk load no_else)) (step null_of done)) ≡ Mixed
  pub with_event : kind_of (if_only rising_clk (on clk_event)) ≡ Mixed

-- a reset that holds at this value, with these entries
abbrev pub reset_at : (value : ℕ) → List (Option ℕ) → Option Reset
reset_at value entries = Some (record { net = 1; value = value; entries = entries; gates = true })

pub record KindsOfResets : Type 0 where
  -- `if rst = '1' then q <= '0'; elsif rising_edge(clk) then q <= d; end if;`
  pub by_level : kind_of (if_elsif (is_at 1 One) low rising_clk load) ≡ Clocked 0 v.Rising (reset_at 3 (Some 2 ∷ []))
  -- `'0' = rst`, or a side in parentheses
  pub turned_round : kind_of (if_elsif (level false 1 Zero) low rising_clk load)
      ≡ Clocked 0 v.Rising (reset_at 2 (Some 2 ∷ []))
  -- `null; q <= (others => '0');`, and nothing
  pub with_null : kind_of
      (if_elsif (is_at 1 One) (step null_of (assigned (filled 1 (text (Zero ∷ []))))) rising_clk load)
      ≡ Clocked 0 v.Rising (reset_at 3 (Some 2 ∷ []))
  pub of_nothing : kind_of (if_elsif (is_at 1 One) done rising_clk load) ≡ Clocked 0 v.Rising (reset_at 3 (None ∷ []))
  -- a net that is no input, a level of 'X', a declared constant, another test
  pub no_input : kind_of (if_elsif (is_at 2 One) low rising_clk load) ≡ Mixed
  pub other_level : kind_of (if_elsif (is_at 1 X) low rising_clk load) ≡ Mixed
  pub named_constant : kind_of
      (if_elsif (equal (elements (one_signal 1)) (elements (text (One ∷ [])))) low rising_clk load) ≡ Mixed
  pub other_test : kind_of (if_elsif (condition (one_signal 1)) low rising_clk load) ≡ Mixed
  -- the reset's branch reads a signal, assigns a variable, or has an if
  pub reads_signal : kind_of (if_elsif (is_at 1 One) load rising_clk load) ≡ Mixed
  pub sets_variable : kind_of (if_elsif (is_at 1 One) (step (set_one 0 (text (Zero ∷ []))) low) rising_clk load) ≡ Mixed
  pub has_if : kind_of (if_elsif (is_at 1 One) (if_only (decided true) low) rising_clk load) ≡ Mixed
  -- an else, no edge, and the reset last
  pub with_else : kind_of (step (if_of (branch (is_at 1 One) low (branch rising_clk load (otherwise low)))) done)
      ≡ Mixed
  pub without_edge : kind_of (if_elsif (is_at 1 One) low (is_at 0 One) load) ≡ Combinational
  pub reset_last : kind_of (if_elsif rising_clk load (is_at 1 One) low) ≡ Mixed

-- ---- what runs assign, where net 0 has 'H', net 1 'X', net 2 '1' and net 3, of an enumeration, its last literal of 3

abbrev pub now : List ℕ
now = 7 ∷ 1 ∷ 3 ∷ 2 ∷ []

-- with variables of these values
abbrev pub with_values : List ℕ → Seen
with_values values = record { before = now; now = now; variables = values }

abbrev pub seen : Seen
seen = with_values []

abbrev pub pair : (left right : ℕ) → Expr
pair left right = signal (left ∷ right ∷ [])

abbrev pub runs : Stmts → (place : ℕ) → Option ℕ
runs body place = effect seen body place

abbrev pub met : Test → Bool
met t = is_met seen t

abbrev pub value : Expr → List Nine
value e = elements_of seen e

-- an operator of two truth values, at true and true, true and false, false and true, false and false
abbrev pub truth_table : Logic → List Bool
truth_table op =
    met (combined op (decided true) (decided true)) ∷ met (combined op (decided true) (decided false)) ∷ met
    (combined op (decided false) (decided true)) ∷ met (combined op (decided false) (decided false)) ∷ []

pub record RunsOfBodies : Type 0 where
  -- `1X` as std_logic_vector equals itself, and as unsigned doesn't
  pub alike_unknown : met (equal (elements (pair 2 1)) (elements (text (One ∷ X ∷ [])))) ≡ true
  pub unlike_unknown : met (unequal (elements (pair 2 1)) (elements (text (One ∷ X ∷ [])))) ≡ false
  pub equal_unknown : met (compared Eq (pair 2 1) (text (One ∷ X ∷ []))) ≡ false
  pub differ_unknown : met (compared Ne (pair 2 1) (text (One ∷ X ∷ []))) ≡ true
  -- 'H' isn't '1', and stands for 1 in a number; a condition holds for it
  pub high_unequal : met (is_at 0 One) ≡ false
  pub high_number : met (compared_to Eq (pair 0 2) 3) ≡ true
  pub high_holds : met (condition (one_signal 0)) ≡ true
  -- vectors of different lengths are unlike, and compare by number
  pub longer_unequal : met (equal (elements (pair 2 2)) (elements (text (Zero ∷ One ∷ One ∷ [])))) ≡ false
  pub longer_equal : met (compared Eq (pair 2 2) (text (Zero ∷ One ∷ One ∷ []))) ≡ true
  -- "01" is less than "10" and not the other way round, and than 2
  pub less : met (compared Lt (text (Zero ∷ One ∷ [])) (text (One ∷ Zero ∷ []))) ≡ true
  pub not_less : met (compared Lt (text (One ∷ Zero ∷ [])) (text (Zero ∷ One ∷ []))) ≡ false
  pub less_number : met (compared_to Lt (text (Zero ∷ One ∷ [])) 2) ≡ true
  -- the logical operators on truth values
  pub truths : map truth_table (And ∷ Or ∷ Nand ∷ Nor ∷ Xor ∷ Xnor ∷ [])
      ≡ (true ∷ false ∷ false ∷ false ∷ []) ∷ (true ∷ true ∷ true ∷ false ∷ []) ∷ (false ∷ true ∷ true ∷ true ∷ []) ∷
      (false ∷ false ∷ false ∷ true ∷ []) ∷ (false ∷ true ∷ true ∷ false ∷ []) ∷ (true ∷ false ∷ false ∷ true ∷ []) ∷ []
  pub negation : met (negated (decided true)) ≡ false
  -- the leftmost element goes to the first place, and the left operand of `&` stands first
  pub in_order : runs (step (assign (5 ∷ 4 ∷ []) (elements (binary joined (one_signal 2) (one_signal 1)))) done) 5
      ≡ Some 3
  pub in_order' : runs (step (assign (5 ∷ 4 ∷ []) (elements (binary joined (one_signal 2) (one_signal 1)))) done) 4
      ≡ Some 1
  -- "1H" + "0001" is "0100", and "1X" + "01" is "XX"
  pub sums : value (binary plus (pair 2 0) (text (Zero ∷ Zero ∷ Zero ∷ One ∷ []))) ≡ Zero ∷ One ∷ Zero ∷ Zero ∷ []
  pub sums_unknown : value (binary plus (pair 2 1) (text (Zero ∷ One ∷ []))) ≡ X ∷ X ∷ []
  -- "0000" - "0001" is "1111", and "11" * "10" is "0110"
  pub differs : value (binary minus (text (Zero ∷ Zero ∷ Zero ∷ Zero ∷ [])) (text (Zero ∷ Zero ∷ Zero ∷ One ∷ [])))
      ≡ One ∷ One ∷ One ∷ One ∷ []
  pub multiplies : value (binary times (text (One ∷ One ∷ [])) (text (One ∷ Zero ∷ []))) ≡ Zero ∷ One ∷ One ∷ Zero ∷ []
  -- "1H" and "10" is "10", and not "1H" is "00"
  pub ands : value (binary (logical And) (pair 2 0) (text (One ∷ Zero ∷ []))) ≡ One ∷ Zero ∷ []
  pub nots : value (inverse (pair 2 0)) ≡ Zero ∷ Zero ∷ []
  -- "1X01" resized to 2 is "01", to 6 "001X01"; shifted by 1 to the left it is "X010", by 4 to the right "0000"
  pub shrinks : value (counted Resize 2 (text (One ∷ X ∷ Zero ∷ One ∷ []))) ≡ Zero ∷ One ∷ []
  pub grows : value (counted Resize 6 (text (One ∷ X ∷ Zero ∷ One ∷ []))) ≡ Zero ∷ Zero ∷ One ∷ X ∷ Zero ∷ One ∷ []
  pub to_left : value (counted (Shift Left) 1 (text (One ∷ X ∷ Zero ∷ One ∷ []))) ≡ X ∷ Zero ∷ One ∷ Zero ∷ []
  pub to_right : value (counted (Shift Right) 4 (text (One ∷ X ∷ Zero ∷ One ∷ []))) ≡ Zero ∷ Zero ∷ Zero ∷ Zero ∷ []
  pub to_right_by_one : value (counted (Shift Right) 1 (text (One ∷ X ∷ Zero ∷ One ∷ []))) ≡ Zero ∷ One ∷ X ∷ Zero ∷ []
  -- `(others => s)` and `(others => '1')`
  pub fills : value (filled 3 (one_signal 1)) ≡ X ∷ X ∷ X ∷ []
  pub fills_ones : value (filled 2 (text (One ∷ []))) ≡ One ∷ One ∷ []
  -- the first branch that holds is taken, later ones aren't, and the else only where none holds
  pub first_branch : runs
      (step
      (if_of (branch (is_at 0 One) (assigned (text (Zero ∷ []))) (branch (is_at 2 One) (assigned (text (One ∷ [])))
      (branch (decided true) (assigned (text (X ∷ []))) no_else)))) done) 0 ≡ Some 3
  pub the_else : runs (step (if_of
      (branch (is_at 0 One) (assigned (text (Zero ∷ []))) (otherwise (assigned (text (X ∷ [])))))) done) 0 ≡ Some 1
  pub no_branch : runs (if_only (is_at 0 One) (assigned (text (Zero ∷ [])))) 0 ≡ None
  -- a case matches the values as they are: 'H' isn't '1'
  pub case_others : runs
      (step (case_of (elements (one_signal 0))
      (alternative ((3 ∷ []) ∷ []) (assigned (text (One ∷ []))) (others (assigned (text (X ∷ [])))))) done) 0
      ≡ Some 1
  pub case_choice : runs
      (step (case_of (elements (pair 2 1)) (alternative ((2 ∷ 2 ∷ []) ∷ (3 ∷ 1 ∷ []) ∷ []) (assigned (text (One ∷ [])))
      (others (assigned (text (X ∷ [])))))) done) 0 ≡ Some 3
  -- a case that names every literal: the last alternative stands as others
  pub case_literal : runs
      (step (case_of (position_of 3) (alternative ((0 ∷ []) ∷ []) (assigned (text (Zero ∷ [])))
      (alternative ((1 ∷ []) ∷ []) (assigned (text (X ∷ []))) (others (assigned (text (One ∷ []))))))) done) 0 ≡ Some 3
  pub literal : runs (step (assign (0 ∷ []) (position 2)) done) 0 ≡ Some 2
  pub copied : runs (step (assign (0 ∷ []) (position_of 3)) done) 0 ≡ Some 2

-- ---- what is assigned on every path: the drivers at places 0 and 1 are of net 5, the one at place 2 is of net 6

abbrev pub to_place : (place : ℕ) → Stmt
to_place place = assign (place ∷ []) (elements (one_signal 0))

abbrev pub one_stmt : Stmt → Stmts
one_stmt s = step s done

-- `if s = '1' then .. else .. end if`
abbrev pub if_else : Stmt → Stmt → Stmt
if_else s t = if_of (branch (is_at 1 One) (one_stmt s) (otherwise (one_stmt t)))

abbrev pub assigns : (net : ℕ) → Stmts → Bool
assigns net body = must_assign (of_drivers (drives_net (5 ∷ 5 ∷ 6 ∷ []) net)) body

pub record AssignsOfBodies : Type 0 where
  -- `if s = '1' then y <= a; end if;`, and with `y <= '0';` before it
  pub without_else : assigns 6 (if_only (is_at 1 One) (one_stmt (to_place 2))) ≡ false
  pub with_default : assigns 6 (step (to_place 2) (if_only (is_at 1 One) (one_stmt (to_place 2)))) ≡ true
  pub with_else : assigns 6 (one_stmt (if_else (to_place 2) (to_place 2))) ≡ true
  pub with_null : assigns 6 (one_stmt (if_else (to_place 2) null_of)) ≡ false
  -- an else doesn't help where an elsif is left out
  pub elsif_left_out : assigns 6
      (one_stmt (if_of (branch (is_at 1 One) (one_stmt (to_place 2))
      (branch (is_at 0 One) (one_stmt null_of) (otherwise (one_stmt (to_place 2)))))))
      ≡ false
  -- one net under two names, each assigned in one branch
  pub two_names : assigns 5 (one_stmt (if_else (to_place 0) (to_place 1))) ≡ true
  pub two_nets : assigns 6 (one_stmt (if_else (to_place 0) (to_place 2))) ≡ false
  -- each alternative of a case, and one that doesn't
  pub each_alternative : assigns 6
      (one_stmt (case_of (elements (one_signal 1))
      (alternative ((3 ∷ []) ∷ []) (one_stmt (to_place 2)) (others (one_stmt (to_place 2)))))) ≡ true
  pub no_alternative : assigns 6
      (one_stmt (case_of (elements (one_signal 1))
      (alternative ((3 ∷ []) ∷ []) (one_stmt (to_place 2)) (others (one_stmt null_of))))) ≡ false

-- ---- variables: a is net 2, which has '1'; b net 1, which has 'X'; elements 0 and 1

-- the entry of place 0, from variables of these values
abbrev pub entry : List ℕ → Stmts → Option ℕ
entry values body = effect (with_values values) body 0

abbrev pub then_show : (element : ℕ) → Stmts
then_show element = assigned (one_variable element)

pub record VariablesOfBodies : Type 0 where
  -- `y <= v;` shows the initial value; `v := a; y <= v;` the one just assigned; `y <= v; v := a;` the initial one
  pub initial : entry (7 ∷ []) (then_show 0) ≡ Some 7
  pub at_once : entry (7 ∷ []) (step (set_one 0 (one_signal 2)) (then_show 0)) ≡ Some 3
  pub too_late : entry (7 ∷ [])
      (step (assign (0 ∷ []) (elements (one_variable 0))) (step (set_one 0 (one_signal 2)) done)) ≡ Some 7
  -- `v := v xor a;` twice reads the old value each time
  pub twice : entry (2 ∷ [])
      (step (set_one 0 (binary (logical Xor) (one_variable 0) (one_signal 2)))
      (step (set_one 0 (binary (logical Xor) (one_variable 0) (one_signal 2)))
      (then_show 0))) ≡ Some 2
  -- `w := a & b;`: the left element gets the left value
  pub in_order : entry (0 ∷ 0 ∷ [])
      (step (set (0 ∷ 1 ∷ []) (elements (binary joined (one_signal 2) (one_signal 1)))) (then_show 0)) ≡ Some 3
  pub in_order' : entry (0 ∷ 0 ∷ [])
      (step (set (0 ∷ 1 ∷ []) (elements (binary joined (one_signal 2) (one_signal 1)))) (then_show 1)) ≡ Some 1
  -- what the branch taken leaves, and what stays where none is
  pub of_branch : entry (2 ∷ [])
      (step (if_of (branch (is_at 2 One) (step (set_one 0 (one_signal 1)) done)
      (otherwise (step (set_one 0 (one_signal 2)) done)))) (then_show 0))
      ≡ Some 1
  pub of_else : entry (2 ∷ [])
      (step (if_of (branch (is_at 2 Zero) (step (set_one 0 (one_signal 1)) done)
      (otherwise (step (set_one 0 (one_signal 2)) done)))) (then_show 0))
      ≡ Some 3
  pub of_none : entry (2 ∷ [])
      (step (if_of (branch (is_at 2 Zero) (step (set_one 0 (one_signal 1)) done) no_else)) (then_show 0)) ≡ Some 2
  pub of_others : entry (2 ∷ [])
      (step (case_of (elements (one_signal 2))
      (alternative ((2 ∷ []) ∷ []) done (others (step (set_one 0 (one_signal 1)) done)))) (then_show 0))
      ≡ Some 1
  -- a test and a case look at variables too
  pub tested : entry (3 ∷ []) (if_only (condition (one_variable 0)) load) ≡ Some 3
  pub cased : entry (6 ∷ []) (step (case_of (position_in 0) (alternative ((6 ∷ []) ∷ []) load (others done))) done)
      ≡ Some 3

-- ---- what is stored

-- whether element 0 is read where it isn't assigned on every path before
abbrev pub stored : Stmts → Bool
stored body = stores_element 0 body

abbrev pub zero_it : Stmts
zero_it = step (set_one 0 (text (Zero ∷ []))) done

pub record StoresOfBodies : Type 0 where
  pub unassigned : stored (then_show 0) ≡ true
  pub assigned_before : stored (step (set_one 0 (one_signal 2)) (then_show 0)) ≡ false
  pub assigned_after : stored (step (assign (0 ∷ []) (elements (one_variable 0))) zero_it) ≡ true
  -- an if without else doesn't assign it, one with an else does, and so does a case
  pub by_if : stored (step (if_of (branch (is_at 2 One) zero_it no_else)) (then_show 0)) ≡ true
  pub by_if_else : stored (step (if_of (branch (is_at 2 One) zero_it (otherwise zero_it))) (then_show 0)) ≡ false
  pub by_case : stored (step (case_of (elements (one_signal 2)) (alternative ((3 ∷ []) ∷ []) zero_it (others zero_it)))
      (then_show 0)) ≡ false
  pub by_one_alternative : stored (step
      (case_of (elements (one_signal 2)) (alternative ((3 ∷ []) ∷ []) zero_it (others done))) (then_show 0)) ≡ true
  -- what stands before the if counts within it, and one branch doesn't count in another
  pub before_branch : stored (step (set_one 0 (one_signal 2)) (if_only (is_at 2 One) (then_show 0))) ≡ false
  pub other_branch : stored (step (if_of (branch (is_at 2 One) zero_it (otherwise (then_show 0)))) done) ≡ true
  -- `v := v xor a`, a condition, an elsif's condition, a case's value, and one of two elements
  pub in_its_value : stored (step (set_one 0 (binary (logical Xor) (one_variable 0) (one_signal 2))) done) ≡ true
  pub in_condition : stored (if_only (condition (one_variable 0)) done) ≡ true
  pub in_elsif : stored
      (if_elsif (decided false) zero_it (equal (elements (one_variable 0)) (elements (one_signal 2))) done) ≡ true
  pub in_case : stored (step (case_of (position_in 0) (others done)) done) ≡ true
  pub in_slice : stored
      (step (set_one 1 (one_signal 2)) (step (assign (0 ∷ 1 ∷ []) (elements (variable (1 ∷ 0 ∷ [])))) done)) ≡ true
  pub of_other_element : stored (step (set_one 1 (one_signal 2)) (then_show 0)) ≡ true
  -- nothing else reads it: a net or a literal of its number, or another element
  pub not_a_net : stored (assigned (one_signal 0)) ≡ false
  pub not_a_literal : stored (step (assign (0 ∷ []) (position 0)) done) ≡ false
  pub not_another : stored (then_show 1) ≡ false

-- ---- what is read

-- a body with every form of expression, test and statement, which reads the nets 1 to 20 in this order
abbrev pub of_each_form : Stmts
of_each_form =
    step (if_of (
    branch (condition (inverse (one_signal 1))) (assigned (filled 2 (one_signal 2))) (
    branch
    (combined Or (equal (elements (one_signal 3)) (position_of 4)) (unequal (position 0) (elements (one_signal 5))))
    (assigned (counted Resize 3 (one_signal 6))) (
    branch (combined And (event 7) (level true 8 One)) (assigned (counted (Shift Left) 1 (one_signal 9))) (
    branch (compared Lt (one_signal 10) (one_signal 11)) (assigned (counted (Shift Right) 1 (one_signal 12))) (
    branch (negated (compared_to Eq (one_signal 13) 7)) (step (set_one 0 (one_signal 14)) done) (
    otherwise (step null_of done)))))))) (
    step (case_of (position_of 15) (alternative ((1 ∷ []) ∷ []) (on (rising 16)) (others (on (falling 17))))) (
    step (assign (0 ∷ 1 ∷ [])
    (elements (binary joined (binary plus (one_signal 18) (text (One ∷ []))) (signal (19 ∷ 20 ∷ []))))) (
    step (if_of (branch (combined And (decided true) (equal (position_in 0) (elements (variable (0 ∷ 1 ∷ [])))))
    done no_else)) done)))

pub record ReadsOfBodies : Type 0 where
  pub nets_read : reads of_each_form
      ≡ 1 ∷ 2 ∷ 3 ∷ 4 ∷ 5 ∷ 6 ∷ 7 ∷ 8 ∷ 9 ∷ 10 ∷ 11 ∷ 12 ∷ 13 ∷ 14 ∷ 15 ∷ 16 ∷ 2 ∷ 17 ∷ 2 ∷ 18 ∷ 19 ∷ 20 ∷ []
  pub events_of : events of_each_form ≡ 7 ∷ 16 ∷ 17 ∷ []
