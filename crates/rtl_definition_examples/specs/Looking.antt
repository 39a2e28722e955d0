-- What drivers look at in small bodies, and that they look at no less.
use Rattle.std.specs.Prelude.{◌≡◌, ℕ, false, List, [], ◌∷◌}
use Rattle.vhdl_values.specs.declared.scalar.Nine.TheVariants.{Zero, One}
use Rattle.vhdl_values.specs.declared.kinds.Counted.TheVariants.{Shift}
use Rattle.vhdl_values.specs.declared.kinds.Shift.TheVariants.{Right}
use Rattle.vhdl_values.specs.declared.kinds.Logic.TheVariants.{And, Xor}
use Rattle.vhdl_numbers.specs.declared.kinds.Conversion.TheVariants.{Cleaned}
use Rattle.rtl_model.specs.bodies.Rows.{Spacing}
use Rattle.rtl_model.specs.bodies.Body.{logical, joined, plus, Expr, signal, filled, binary, counted, shifted, converted}
use Rattle.rtl_model.specs.bodies.Body.{chosen, elements, decided, rising}
use Rattle.rtl_model.specs.bodies.Body.{assign, assign_at, if_of, case_of, Stmts, done, step, no_else, otherwise, branch}
use Rattle.rtl_model.specs.bodies.Body.{others, alternative}
use Rattle.rtl_model.specs.bodies.Values.{Seen}
use Rattle.rtl_model.specs.bodies.Effect.{effect}
use Rattle.rtl_model.specs.bodies.Looks.{net_now, net_before, element_kept, looks_of, looked_nets}
use Rattle.rtl_definition_examples.specs.Bodies.{one_signal, one_variable, text, assigned, set_one, is_at, if_only, if_elsif}

-- `v := a; x <= v; v := b; z <= v and x;`, where a, b and x are the nets 0, 1 and 2, x is driven at place 0 and z at 1
abbrev pub used_twice : Stmts
used_twice =
    step (set_one 0 (one_signal 0)) (step (assign (0 ∷ []) (elements (one_variable 0)))
    (step (set_one 0 (one_signal 1))
    (step (assign (1 ∷ []) (elements (binary (logical And) (one_variable 0) (one_signal 2)))) done)))

-- `b(2 downto 0) <= b(3 downto 1) xor g(2 downto 0);`, from Gray code, where g is the nets 0 to 3 and b 4 to 7
abbrev pub from_gray : Stmts
from_gray =
    step (assign (0 ∷ 1 ∷ 2 ∷ [])
    (elements (binary (logical Xor) (signal (4 ∷ 5 ∷ 6 ∷ [])) (signal (1 ∷ 2 ∷ 3 ∷ []))))) done

-- `s <= s + "01";`
abbrev pub counting : Stmts
counting = step (assign (0 ∷ 1 ∷ []) (elements (binary plus (signal (0 ∷ 1 ∷ [])) (text (Zero ∷ One ∷ []))))) done

-- `y <= a & b;`
abbrev pub joined_pair : Stmts
joined_pair = step (assign (0 ∷ 1 ∷ []) (elements (binary joined (one_signal 0) (one_signal 1)))) done

-- `if s = '1' then y <= a; else y <= b; end if;`, where a, b and s are the nets 0, 1 and 2
abbrev pub either : Stmts
either = step (if_of (branch (is_at 2 One) (assigned (one_signal 0)) (otherwise (assigned (one_signal 1))))) done

-- `y <= a; if s = '1' then y <= b; end if;`
abbrev pub with_default : Stmts
with_default = step (assign (0 ∷ []) (elements (one_signal 0))) (if_only (is_at 2 One) (assigned (one_signal 1)))

-- the assignment of a net to the driver at place 1
abbrev pub assigned_other : (net : ℕ) → Stmts
assigned_other net = step (assign (1 ∷ []) (elements (one_signal net))) done

-- `x <= a; x <= b;`
abbrev pub assigned_twice : Stmts
assigned_twice = step (assign (0 ∷ []) (elements (one_signal 0))) (assigned (one_signal 1))

-- `x <= a; if s = '1' then y <= b; end if;`
abbrev pub beside_if : Stmts
beside_if = step (assign (0 ∷ []) (elements (one_signal 0))) (if_only (is_at 2 One) (assigned_other 1))

-- `if s = '1' then x <= a; elsif t = '1' then y <= b; end if;`, where t is net 3
abbrev pub with_elsif : Stmts
with_elsif = if_elsif (is_at 2 One) (assigned (one_signal 0)) (is_at 3 One) (assigned_other 1)

-- `case s is when '1' => x <= a; when others => x <= b; end case;`
abbrev pub by_case : Stmts
by_case =
    step (case_of (elements (one_signal 2))
    (alternative ((3 ∷ []) ∷ []) (assigned (one_signal 0)) (others (assigned (one_signal 1))))) done

-- `y <= (others => a);`, of two elements
abbrev pub all_alike : Stmts
all_alike = step (assign (0 ∷ 1 ∷ []) (elements (filled 2 (one_signal 0)))) done

-- `b <= g xor shift_right(b, 1);`, from Gray code too, where g is the nets 0 to 3 and b 4 to 7
abbrev pub from_gray_shifted : Stmts
from_gray_shifted =
    step (assign (0 ∷ 1 ∷ 2 ∷ 3 ∷ [])
    (elements (binary (logical Xor) (signal (0 ∷ 1 ∷ 2 ∷ 3 ∷ []))
    (counted (Shift Right) 1 (signal (4 ∷ 5 ∷ 6 ∷ 7 ∷ [])))))) done

-- `v := a; if s = '1' then v := b; end if; x <= v;`
abbrev pub set_under_if : Stmts
set_under_if =
    step (set_one 0 (one_signal 0)) (step (if_of (branch (is_at 2 One) (step (set_one 0 (one_signal 1)) done) no_else))
    (assigned (one_variable 0)))

-- `if 0 = 1 then x <= a; else x <= b; end if;`
abbrev pub static_test : Stmts
static_test = step (if_of (branch (decided false) (assigned (one_signal 0)) (otherwise (assigned (one_signal 1))))) done

-- the number that net 0 is, which has no sign, as an index
abbrev pub by_first : Expr
by_first = binary joined (text (Zero ∷ [])) (one_signal 0)

-- single elements side by side, and rows of two
abbrev pub elements_alone : Spacing
elements_alone = record { len = 1; step = 1 }

abbrev pub pairs : Spacing
pairs = record { len = 2; step = 2 }

-- `y <= m(i);`, where m has two rows: the nets 1 and 2, and 3 and 4
abbrev pub row_of_two : Stmts
row_of_two = step (assign (0 ∷ 1 ∷ []) (elements (chosen by_first pairs (signal (1 ∷ 2 ∷ 3 ∷ 4 ∷ []))))) done

-- `x <= a; x(i) <= b;`, where a is the nets 1 and 2, and b 3
abbrev pub given_at_index : Stmts
given_at_index =
    step (assign (0 ∷ 1 ∷ []) (elements (signal (1 ∷ 2 ∷ []))))
    (step (assign_at by_first elements_alone (0 ∷ 1 ∷ []) (one_signal 3)) done)

-- `y <= shift_right(a, i);` and the value of `to_integer(a)`, where a is the nets 1 and 2
abbrev pub shifted_by_first : Stmts
shifted_by_first = step (assign (0 ∷ 1 ∷ []) (elements (shifted Right by_first (signal (1 ∷ 2 ∷ []))))) done

abbrev pub as_number : Stmts
as_number = step (assign (0 ∷ 1 ∷ []) (elements (converted Cleaned (signal (1 ∷ 2 ∷ []))))) done

pub record LooksOfBodies : Type 0 where
  pub first_use : looks_of used_twice 0 ≡ net_now 0 ∷ []
  pub second_use : looks_of used_twice 1 ≡ net_now 1 ∷ net_now 2 ∷ []
  -- b(0) looks at b(1) and g(0) alone, and so no element at itself
  pub last_of_gray : looks_of from_gray 2 ≡ net_now 6 ∷ net_now 3 ∷ []
  -- a sum's element looks at all of both operands, so at itself here
  pub sum : looked_nets counting 0 ≡ 0 ∷ 1 ∷ []
  pub right_of_joined : looks_of joined_pair 1 ≡ net_now 1 ∷ []
  pub in_both_branches : looks_of either 0 ≡ net_now 2 ∷ net_now 0 ∷ net_now 2 ∷ net_now 1 ∷ []
  pub behind_if : looks_of with_default 0 ≡ net_now 2 ∷ net_now 1 ∷ net_now 0 ∷ []
  -- a variable that is read before it is assigned
  pub stored : looks_of (assigned (one_variable 0)) 0 ≡ element_kept 0 ∷ []
  pub replaced : looks_of assigned_twice 0 ≡ net_now 1 ∷ []
  -- x looks at a alone, by either way through the if, and y where the test fails at nothing
  pub in_no_branch : looks_of beside_if 0 ≡ net_now 0 ∷ net_now 0 ∷ []
  pub in_one_branch : looks_of beside_if 1 ≡ net_now 2 ∷ net_now 1 ∷ []
  -- the first branch doesn't look at the test of the second, but the second at both
  pub first_branch : looks_of with_elsif 0 ≡ net_now 2 ∷ net_now 0 ∷ []
  pub second_branch : looks_of with_elsif 1 ≡ net_now 2 ∷ net_now 3 ∷ net_now 1 ∷ []
  pub case : looks_of by_case 0 ≡ net_now 2 ∷ net_now 0 ∷ net_now 2 ∷ net_now 1 ∷ []
  pub filled_place : looks_of all_alike 1 ≡ net_now 0 ∷ []
  -- b(3) looks at g(3) alone, since a 0 comes in, and b(2) at g(2) and b(3)
  pub first_of_shifted : looks_of from_gray_shifted 0 ≡ net_now 0 ∷ []
  pub second_of_shifted : looks_of from_gray_shifted 1 ≡ net_now 1 ∷ net_now 4 ∷ []
  pub variable_under_if : looks_of set_under_if 0 ≡ net_now 2 ∷ net_now 1 ∷ net_now 0 ∷ []
  -- a branch that never runs
  pub never_run : looks_of static_test 0 ≡ net_now 1 ∷ []
  -- `if rising_edge(clk) then q <= d; end if;`, where clk and d are the nets 0 and 1
  pub edge : looks_of (if_only (rising 0) (assigned (one_signal 1))) 0
      ≡ net_before 0 ∷ net_now 0 ∷ net_now 1 ∷ []
  -- an element of the row that an index chooses: at its place in every row, and at the index
  pub second_of_row : looks_of row_of_two 1 ≡ net_now 2 ∷ net_now 4 ∷ net_now 0 ∷ []
  -- behind an assignment at an index: at what was before, at the index, where all are X, at what the row was given, and
  -- where another row was given it again at what was before
  pub behind_index : looks_of given_at_index 0 ≡ net_now 1 ∷ net_now 0 ∷ net_now 0 ∷ net_now 3 ∷ net_now 1 ∷ []
  -- by a count that a run computes each element moves anywhere, and a vector's number hangs on all of it
  pub first_of_moved : looks_of shifted_by_first 0 ≡ net_now 0 ∷ net_now 1 ∷ net_now 2 ∷ []
  pub last_of_number : looks_of as_number 1 ≡ net_now 1 ∷ net_now 2 ∷ []

-- a run without variables that sees these values now
abbrev pub sees_now : (now : List ℕ) → Seen
sees_now now = record { before = now; now = now; variables = [] }

-- A driver that didn't look at the condition round an assignment, at what it had before an if without else, at the
-- right operand of `&`, at the index or another row of what an index chooses, or at what it had before an assignment at
-- an index, would have another entry where only that differs.
pub record LooksAtNoLess : Type 0 where
  pub condition : effect (sees_now (3 ∷ 2 ∷ 3 ∷ [])) either 0 ≡ effect (sees_now (3 ∷ 2 ∷ 2 ∷ [])) either 0 → ⊥
  pub default : effect (sees_now (3 ∷ 2 ∷ 2 ∷ [])) with_default 0
      ≡ effect (sees_now (2 ∷ 2 ∷ 2 ∷ [])) with_default 0 → ⊥
  pub right_operand : effect (sees_now (3 ∷ 2 ∷ [])) joined_pair 1 ≡ effect (sees_now (3 ∷ 3 ∷ [])) joined_pair 1 → ⊥
  pub index : effect (sees_now (2 ∷ 2 ∷ 3 ∷ 2 ∷ 2 ∷ [])) row_of_two 1
      ≡ effect (sees_now (3 ∷ 2 ∷ 3 ∷ 2 ∷ 2 ∷ [])) row_of_two 1 → ⊥
  pub other_row : effect (sees_now (3 ∷ 2 ∷ 3 ∷ 2 ∷ 2 ∷ [])) row_of_two 1
      ≡ effect (sees_now (3 ∷ 2 ∷ 3 ∷ 2 ∷ 3 ∷ [])) row_of_two 1 → ⊥
  pub before_index : effect (sees_now (3 ∷ 2 ∷ 2 ∷ 2 ∷ [])) given_at_index 0
      ≡ effect (sees_now (3 ∷ 3 ∷ 2 ∷ 2 ∷ [])) given_at_index 0 → ⊥
