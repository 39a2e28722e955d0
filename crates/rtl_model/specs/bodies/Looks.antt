-- What a driver looks at: the places of what a run sees that may decide its entry, by the values that are assigned to
-- it and by the conditions round its assignments (IEEE 1076-2008, 10.5, 10.6 and 10.8 to 10.10). Vectors are told
-- element by element, from the left.
use Rattle.std.specs.Prelude.{ℕ, if◌then◌else◌, List, [], ◌∷◌, ◌++◌, length, drop, map, replicate}
use Rattle.std.specs.Prelude.{flat_map, slice_index, slice_index_or}
use Rattle.vhdl_values.specs.Logic.{zip_with}
use Rattle.vhdl_values.specs.Shifts.{counted_of}
use Rattle.rtl_model.specs.bodies.Body.{Operator, logical, joined, Expr, signal, variable, constant}
use Rattle.rtl_model.specs.bodies.Body.{inverse, filled, binary, counted, shifted, converted, chosen}
use Rattle.rtl_model.specs.bodies.Body.{Value, elements, position, position_of, position_in}
use Rattle.rtl_model.specs.bodies.Rows.{Spacing, all_rows}
use Rattle.rtl_model.specs.bodies.Body.{Test, condition, decided, equal, unequal, level, compared, compared_to}
use Rattle.rtl_model.specs.bodies.Body.{rising, falling, event, negated, combined}
use Rattle.rtl_model.specs.bodies.Body.{Stmt, null_of, assign, set, assign_at, set_at, if_of, case_of, Stmts, done, step}
use Rattle.rtl_model.specs.bodies.Body.{Branches, no_else, otherwise, branch, Alternatives, others, alternative}
use Rattle.rtl_model.specs.bodies.Values.{Seen}
use Rattle.rtl_model.specs.bodies.Assigns.{Target, driver, element, is_target}
use Rattle.rtl_model.specs.bodies.Fits.{operated_width}

-- A place of what a run sees: a net's value now or before, or what a variable's element had when the run began. Of a
-- combinational process only the first decides an entry, since its body asks for no event and its variables begin each
-- run anew; with all three the laws are those of every body.
pub data Sight : Type 0 where
  net_now : (net : ℕ) → Sight
  net_before : (net : ℕ) → Sight
  element_kept : (element : ℕ) → Sight

abbrev pub seen_at : Seen → Sight → ℕ
seen_at seen (net_now n) = slice_index seen.now n
seen_at seen (net_before n) = slice_index seen.before n
seen_at seen (element_kept e) = slice_index seen.variables e

-- what each target looks at, so far in a run
abbrev pub Looks : Type 0
Looks = Target → List Sight

-- before the first statement a variable's element has what it began with, and no driver has an entry
abbrev pub first_looks : Looks
first_looks (driver place) = []
first_looks (element e) = element_kept e ∷ []

-- all that the elements look at
abbrev pub whole : List (List Sight) → List Sight
whole = flat_map (λ sights. sights)

-- ---- values: what each of their elements looks at

-- Each element of a logical operator's result looks at both operands' elements at its place, of `&` at the one element
-- that stands there (9.2.2, 9.2.5), and of an operator on numbers at all of both operands.
abbrev pub operation_looks : Operator → List (List Sight) → List (List Sight) → List (List Sight)
operation_looks (logical op) ls rs = zip_with (λ l r. l ++ r) ls rs
operation_looks joined ls rs = ls ++ rs
operation_looks op ls rs = replicate (operated_width op (length ls) (length rs)) (whole ls ++ whole rs)

-- each element of a row that an index chooses looks at the index, and at the element at its place of every row
abbrev pub chosen_looks : (index : List Sight) → (len : ℕ) → (rows : List (List (List Sight))) → List (List Sight)
chosen_looks index len [] = replicate len index
chosen_looks index len (row ∷ rows) = zip_with (λ l r. l ++ r) row (chosen_looks index len rows)

-- ---- expressions and values

-- What a shift or `resize` lets in looks at nothing, or, where it is the sign, at the sign. Where a run computes the
-- count, and where a vector counts by its number, each element looks at all.
abbrev pub expr_looks : Looks → Expr → List (List Sight)
expr_looks so_far (signal nets) = map (λ n. net_now n ∷ []) nets
expr_looks so_far (variable es) = map (λ e. so_far (element e)) es
expr_looks so_far (constant values) = map (λ v. []) values
expr_looks so_far (inverse e) = expr_looks so_far e
expr_looks so_far (filled len e) = replicate len (slice_index_or (expr_looks so_far e) 0 [])
expr_looks so_far (binary op d e) = operation_looks op (expr_looks so_far d) (expr_looks so_far e)
expr_looks so_far (counted op count e) = counted_of [] op count (expr_looks so_far e)
expr_looks so_far (shifted by count e) =
    replicate (length (expr_looks so_far e)) (whole (expr_looks so_far count) ++ whole (expr_looks so_far e))
expr_looks so_far (converted by e) = replicate (length (expr_looks so_far e)) (whole (expr_looks so_far e))
expr_looks so_far (chosen index spacing rows) =
    chosen_looks (whole (expr_looks so_far index)) spacing.len (all_rows spacing (expr_looks so_far rows))

abbrev pub value_looks : Looks → Value → List (List Sight)
value_looks so_far (elements e) = expr_looks so_far e
value_looks so_far (position n) = [] ∷ []
value_looks so_far (position_of net) = (net_now net ∷ []) ∷ []
value_looks so_far (position_in e) = so_far (element e) ∷ []

-- ---- tests look at all of what they compare

abbrev pub test_looks : Looks → Test → List Sight
test_looks so_far (condition e) = whole (expr_looks so_far e)
test_looks so_far (decided b) = []
test_looks so_far (equal v w) = whole (value_looks so_far v) ++ whole (value_looks so_far w)
test_looks so_far (unequal v w) = whole (value_looks so_far v) ++ whole (value_looks so_far w)
test_looks so_far (level plain net v) = net_now net ∷ []
test_looks so_far (compared op d e) = whole (expr_looks so_far d) ++ whole (expr_looks so_far e)
test_looks so_far (compared_to op e n) = whole (expr_looks so_far e)
test_looks so_far (rising net) = net_before net ∷ net_now net ∷ []
test_looks so_far (falling net) = net_before net ∷ net_now net ∷ []
test_looks so_far (event net) = net_before net ∷ net_now net ∷ []
test_looks so_far (negated t) = test_looks so_far t
test_looks so_far (combined op s t) = test_looks so_far s ++ test_looks so_far t

-- ---- statements: `round` is what the conditions round them look at

-- an assignment replaces what its target looked at
abbrev pub replaced : Target → List Sight → Looks → Looks
replaced target sights so_far other = if is_target target other then sights else so_far other

-- The targets from the left: each looks at what the value's element at its place does, and at the conditions round the
-- assignment.
abbrev pub put : (at : ℕ → Target) → (round : List Sight) → List ℕ → List (List Sight) → Looks → Looks
put at round [] values so_far = so_far
put at round (k ∷ ks) values so_far =
    put at round ks (drop 1 values) (replaced (at k) (round ++ slice_index_or values 0 []) so_far)

-- Behind an assignment to the row at an index a target looks at what it did before, and at all that it would look at
-- behind an assignment of X to all that the rows lie in, or of the value to any row; what the index looks at is among
-- `round`.
abbrev pub put_rows : (at : ℕ → Target) → List Sight → Spacing → (rows : List ℕ) → List (List Sight) → Looks → Looks
put_rows at round spacing rows values so_far target =
    so_far target ++ (put at round rows (replicate (length rows) []) so_far target
    ++ flat_map (λ row. put at round row values so_far target) (all_rows spacing rows))

abbrev mutual
  pub stmt_looks : (round : List Sight) → Looks → Stmt → Looks
  stmt_looks round so_far null_of = so_far
  stmt_looks round so_far (assign places v) = put driver round places (value_looks so_far v) so_far
  stmt_looks round so_far (set es v) = put element round es (value_looks so_far v) so_far
  stmt_looks round so_far (assign_at index spacing places e) =
      put_rows driver (round ++ whole (expr_looks so_far index)) spacing places (expr_looks so_far e) so_far
  stmt_looks round so_far (set_at index spacing es e) =
      put_rows element (round ++ whole (expr_looks so_far index)) spacing es (expr_looks so_far e) so_far
  stmt_looks round so_far (if_of bs) = branches_look round so_far bs
  stmt_looks round so_far (case_of v alts) = alternatives_look (round ++ whole (value_looks so_far v)) so_far alts

  pub body_looks : (round : List Sight) → Looks → Stmts → Looks
  body_looks round so_far done = so_far
  body_looks round so_far (step s rest) = body_looks round (stmt_looks round so_far s) rest

  -- Behind an if a target looks at all that it looks at behind one of its branches, without an else also at what it
  -- looked at before. Of a static test it is known which way it goes: the other way is never run (10.8).
  pub branches_look : (round : List Sight) → Looks → Branches → Looks
  branches_look round so_far no_else target = so_far target
  branches_look round so_far (otherwise s) target = body_looks round so_far s target
  branches_look round so_far (branch (decided b) s bs) target =
      if b then body_looks round so_far s target else branches_look round so_far bs target
  branches_look round so_far (branch t s bs) target =
      body_looks (round ++ test_looks so_far t) so_far s target
      ++ branches_look (round ++ test_looks so_far t) so_far bs target

  pub alternatives_look : (round : List Sight) → Looks → Alternatives → Looks
  alternatives_look round so_far (others s) target = body_looks round so_far s target
  alternatives_look round so_far (alternative choices s alts) target =
      body_looks round so_far s target ++ alternatives_look round so_far alts target

-- what the driver at a place looks at, and the nets whose values now are among that
abbrev pub looks_of : Stmts → (place : ℕ) → List Sight
looks_of body place = body_looks [] first_looks body (driver place)

abbrev pub now_of : Sight → List ℕ
now_of (net_now n) = n ∷ []
now_of _ = []

abbrev pub looked_nets : Stmts → (place : ℕ) → List ℕ
looked_nets body place = flat_map now_of (looks_of body place)
