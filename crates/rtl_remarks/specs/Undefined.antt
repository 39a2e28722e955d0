-- What stays undefined, `U` or `X`, while a net is (std_logic_1164's tables, numeric_std's results and relations of
-- operands with such an element), and which assignments to the net may run meanwhile.
use Rattle.std.specs.Prelude.{ℕ, Bool, true, false, not, ◌&&◌, ◌||◌, List, [], ◌∷◌}
use Rattle.std.specs.List.{list_any}
use Rattle.vhdl_values.specs.declared.kinds.Cmp.{Cmp}
use Rattle.vhdl_values.specs.declared.kinds.Cmp.TheVariants as relation
use Rattle.vhdl_values.specs.declared.kinds.Logic.{Logic}
use Rattle.vhdl_values.specs.declared.kinds.Logic.TheVariants.{And, Xor, Xnor}
use Rattle.rtl_model.specs.bodies.Body.{Operator, logical, joined}
use Rattle.rtl_model.specs.bodies.Body.{Expr, signal, inverse, filled, binary}
use Rattle.rtl_model.specs.bodies.Body.{Value, elements, Test, compared, compared_to, combined}
use Rattle.rtl_model.specs.bodies.Body.{Stmt, assign, assign_at, if_of, case_of, Stmts, done, step}
use Rattle.rtl_model.specs.bodies.Body.{Branches, no_else, otherwise, branch, Alternatives, others, alternative}
use Rattle.rtl_net.specs.declared.process.Driver.{Driver}
use Rattle.rtl_body_facts.specs.Paths.{covers}
use Rattle.rtl_body_facts.specs.Reading.{is_in}

-- ---- values

-- `'0' and x`, say, is 0 whatever x is
abbrev pub is_exclusive : Logic → Bool
is_exclusive Xor = true
is_exclusive Xnor = true
is_exclusive _ = false

-- what it makes has an undefined element where an operand has one
abbrev pub passes : Operator → Bool
passes (logical op) = is_exclusive op
passes _ = true

-- while the net n is undefined, some element of the expression is
abbrev pub some_is : (n : ℕ) → Expr → Bool
some_is n (signal nets) = is_in n nets
some_is n (inverse e) = some_is n e
some_is n (filled len e) = some_is n e
some_is n (binary op d e) = passes op && (some_is n d || some_is n e)
some_is n _ = false

abbrev pub is_single : List ℕ → Bool
is_single (n ∷ []) = true
is_single _ = false

-- with operands of which this is known: an undefined element makes all of a sum so
abbrev pub whole_of : Operator → (left right : Bool) → Bool
whole_of (logical op) left right = left && right
whole_of joined left right = false
whole_of _ left right = true

-- where some element is undefined by that, each is
abbrev pub is_whole : Expr → Bool
is_whole (signal nets) = is_single nets
is_whole (inverse e) = is_whole e
is_whole (binary op d e) = whole_of op (is_whole d) (is_whole e)
is_whole _ = true

-- while the net n is undefined, each element of the value is
abbrev pub keeps : (n : ℕ) → Value → Bool
keeps n (elements e) = is_whole e && some_is n e
keeps n _ = false

-- ---- tests

abbrev pub is_inequality : Cmp → Bool
is_inequality relation.Ne = true
is_inequality _ = false

abbrev pub is_and : Logic → Bool
is_and And = true
is_and _ = false

-- while the net n is undefined, the test fails
abbrev pub fails : (n : ℕ) → Test → Bool
fails n (compared op d e) = not (is_inequality op) && (some_is n d || some_is n e)
fails n (compared_to op e k) = not (is_inequality op) && some_is n e
fails n (combined op s t) = is_and op && (fails n s || fails n t)
fails n _ = false

-- ---- statements

abbrev pub is_same : (wanted b : Bool) → Bool
is_same true b = b
is_same false b = not b

-- the statements under the test count: those that may run while the net n is undefined, or all of them
abbrev pub counts : (all : Bool) → (n : ℕ) → Test → Bool
counts all n t = all || not (fails n t)

-- Some assignment to the net n keeps it undefined (`kept`), on whatever path; or one that may run while it is
-- undefined doesn't. A branch doesn't run whose own test fails.
abbrev mutual
  pub stmt_may : List Driver → (kept : Bool) → (n : ℕ) → Stmt → Bool
  stmt_may drives kept n (assign places v) = list_any (covers drives n) places && is_same kept (keeps n v)
  stmt_may drives kept n (assign_at index spacing places e) =
      list_any (covers drives n) places && is_same kept (keeps n (elements e))
  stmt_may drives kept n (if_of bs) = branches_may drives kept n bs
  stmt_may drives kept n (case_of v alts) = alternatives_may drives kept n alts
  stmt_may drives kept n _ = false

  pub may_assign : List Driver → (kept : Bool) → (n : ℕ) → Stmts → Bool
  may_assign drives kept n done = false
  may_assign drives kept n (step s rest) = stmt_may drives kept n s || may_assign drives kept n rest

  pub branches_may : List Driver → (kept : Bool) → (n : ℕ) → Branches → Bool
  branches_may drives kept n no_else = false
  branches_may drives kept n (otherwise s) = may_assign drives kept n s
  branches_may drives kept n (branch t s bs) =
      (counts kept n t && may_assign drives kept n s) || branches_may drives kept n bs

  pub alternatives_may : List Driver → (kept : Bool) → (n : ℕ) → Alternatives → Bool
  alternatives_may drives kept n (others s) = may_assign drives kept n s
  alternatives_may drives kept n (alternative choices s alts) =
      may_assign drives kept n s || alternatives_may drives kept n alts
