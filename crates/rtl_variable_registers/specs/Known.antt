-- What the variables are known to have in the branch of a process's reset, whatever run it is: one that the branch has
-- set has the value that it was set to (IEEE 1076-2008, 10.6.2), and one that no statement of the process sets has its
-- initial value (6.4.2.4).
use Rattle.std.specs.Prelude.{ℕ, Bool, true, false, not, ◌&&◌, ◌||◌, ◌==◌, if◌then◌else◌, List, [], slice_index}
use Rattle.std.specs.List.{list_any, list_all}
use Rattle.rtl_model.specs.basics.Lists.{is_empty}
use Rattle.rtl_model.specs.bodies.Assigns.{is_element, stmts_assign}
use Rattle.rtl_model.specs.bodies.Body.{constant, Value, elements, position, position_of, position_in}
use Rattle.rtl_model.specs.bodies.Body.{Stmt, null_of, assign, set, Stmts, done, step}
use Rattle.rtl_model.specs.bodies.Leaves.{Leaf, of_elements, value_leaves}
use Rattle.rtl_model.specs.bodies.Values.{Seen, elements_of}
use Rattle.rtl_model.specs.bodies.Variables.{after_stmt}

-- ---- what is known

-- A value looks at no signal, and at those elements of variables alone that are known.
abbrev pub leaf_is_known : (known : ℕ → Bool) → Leaf → Bool
leaf_is_known known (of_elements es) = list_all known es
leaf_is_known known _ = false

abbrev pub is_known : (known : ℕ → Bool) → Value → Bool
is_known known v = list_all (leaf_is_known known) (value_leaves v)

-- Assignments to signals and variables and nulls alone, whose values are known. What is assigned to a variable is known
-- from then on.
abbrev pub gives_constants : (known : ℕ → Bool) → Stmts → Bool
gives_constants known done = true
gives_constants known (step null_of rest) = gives_constants known rest
gives_constants known (step (assign places v) rest) = is_known known v && gives_constants known rest
gives_constants known (step (set es v) rest) =
    is_known known v && gives_constants (λ e. known e || list_any (λ d. d == e) es) rest
gives_constants known (step _ rest) = false

-- what no statement of the body sets
abbrev pub never_set : Stmts → (e : ℕ) → Bool
never_set body e = not (stmts_assign (is_element e) body)

-- ---- constants in the place of what is known

-- what is seen where the variables have their initial values
abbrev pub at_start : (starts : List ℕ) → Seen
at_start starts = record { before = []; now = []; variables = starts }

-- the constant that a value is, which looks at no net
abbrev pub constant_of : Seen → Value → Value
constant_of seen (elements e) = elements (constant (elements_of seen e))
constant_of seen (position n) = position n
constant_of seen (position_of net) = position (slice_index seen.now net)
constant_of seen (position_in e) = position (slice_index seen.variables e)

-- it stands in the place of a value that looks at something
abbrev pub as_constant : Seen → Value → Value
as_constant seen v = if is_empty (value_leaves v) then v else constant_of seen v

-- Neither an if nor a case gives constants, nor an assignment at an index: these stay.
abbrev pub with_constant : Seen → Stmt → Stmt
with_constant seen (assign places v) = assign places (as_constant seen v)
with_constant seen (set es v) = set es (as_constant seen v)
with_constant seen s = s

-- each statement sees the variables as those before it leave them
abbrev pub with_constants : Seen → Stmts → Stmts
with_constants seen done = done
with_constants seen (step s rest) = step (with_constant seen s) (with_constants (after_stmt seen s) rest)
