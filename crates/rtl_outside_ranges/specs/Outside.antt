-- Numbers that may lie outside the range of the integer that they are given to. Elaboration finds by the text between
-- which bounds each number lies; where these don't lie in the range of the target, the value asks in the run whether
-- the number does (`Within`), and is X where it doesn't (IEEE 1076-2008, 5.2.3.1, 10.5.2.1: an error there). What a
-- condition guards isn't told, right or wrong: one that looks at what the number is made of, at a variable, or at a net
-- that logic makes, of whatever it does. Neither is what is made of variables.
use Rattle.std.specs.Prelude.{ℕ, Bool, true, false, not, ◌&&◌, ◌||◌, List}
use Rattle.std.specs.List.{list_any, list_all}
use Rattle.vhdl_numbers.specs.declared.kinds.Conversion.{Conversion}
use Rattle.vhdl_numbers.specs.declared.kinds.Conversion.TheVariants.{Within}
use Rattle.rtl_model.specs.bodies.Body.{Expr, counted, converted, Value, elements}
use Rattle.rtl_model.specs.bodies.Body.{Stmt, assign, if_of, case_of, Stmts, done, step}
use Rattle.rtl_model.specs.bodies.Body.{Branches, no_else, otherwise, branch, Alternatives, others, alternative}
use Rattle.rtl_model.specs.bodies.Leaves.{Leaf, of_nets, of_event, of_elements, expr_leaves, value_leaves, test_leaves, read_of}
use Rattle.rtl_net.specs.Nets.{SignalView}
use Rattle.rtl_net.specs.declared.process.Driver.{Driver}
use Rattle.rtl_net.specs.declared.signal.SignalKind.{SignalKind}
use Rattle.rtl_net.specs.declared.signal.SignalKind.TheVariants.{Integer}
use Rattle.rtl_body_facts.specs.Paths.{covers}
use Rattle.rtl_body_facts.specs.Reading.{is_in}

-- ---- integers

abbrev pub is_of_integers : SignalKind → Bool
is_of_integers (Integer least greatest) = true
is_of_integers _ = false

abbrev pub is_integer : SignalView → Bool
is_integer s = is_of_integers s.kind

-- ---- values

abbrev pub is_within : Conversion → Bool
is_within (Within least greatest) = true
is_within _ = false

-- the value asks at last; it may be cut or lengthened behind that
abbrev pub asks : Expr → Bool
asks (converted conversion e) = is_within conversion
asks (counted op count e) = asks e
asks _ = false

-- it looks at no variable, and at none of these nets
abbrev pub is_apart : (nets : ℕ → Bool) → Leaf → Bool
is_apart nets (of_nets ns) = not (list_any nets ns)
is_apart nets (of_event n) = not (nets n)
is_apart nets (of_elements es) = false

abbrev pub may_leave : (looked : ℕ → Bool) → Value → Bool
may_leave looked (elements e) = asks e && list_all (is_apart looked) (expr_leaves e)
may_leave looked _ = false

-- ---- statements

-- nets that were looked at, and those that these leaves look at
abbrev pub also : (looked : ℕ → Bool) → List Leaf → (n : ℕ) → Bool
also looked leaves n = looked n || list_any (λ leaf. is_in n (read_of leaf)) leaves

-- Some assignment gives the net n, as a digit, a number that may lie outside. Round it, the conditions of ifs that are
-- asked before it and the selectors of cases look at no variable, at no net of logic, and at none that the number is
-- made of; outside of these statements, they look at the nets `looked`.
abbrev mutual
  pub stmt_gives : List Driver → (logic looked : ℕ → Bool) → (n : ℕ) → Stmt → Bool
  stmt_gives drives logic looked n (assign places v) = list_any (covers drives n) places && may_leave looked v
  stmt_gives drives logic looked n (if_of bs) = branches_give drives logic looked n bs
  stmt_gives drives logic looked n (case_of v alts) =
      list_all (is_apart logic) (value_leaves v)
      && alternatives_give drives logic (also looked (value_leaves v)) n alts
  stmt_gives drives logic looked n _ = false

  pub gives : List Driver → (logic looked : ℕ → Bool) → (n : ℕ) → Stmts → Bool
  gives drives logic looked n done = false
  gives drives logic looked n (step s rest) = stmt_gives drives logic looked n s || gives drives logic looked n rest

  pub branches_give : List Driver → (logic looked : ℕ → Bool) → (n : ℕ) → Branches → Bool
  branches_give drives logic looked n no_else = false
  branches_give drives logic looked n (otherwise s) = gives drives logic looked n s
  branches_give drives logic looked n (branch t s bs) =
      list_all (is_apart logic) (test_leaves t)
      && (gives drives logic (also looked (test_leaves t)) n s
      || branches_give drives logic (also looked (test_leaves t)) n bs)

  pub alternatives_give : List Driver → (logic looked : ℕ → Bool) → (n : ℕ) → Alternatives → Bool
  alternatives_give drives logic looked n (others s) = gives drives logic looked n s
  alternatives_give drives logic looked n (alternative choices s alts) =
      gives drives logic looked n s || alternatives_give drives logic looked n alts
