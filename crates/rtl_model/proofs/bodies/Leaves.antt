-- What a body reads, asks for an event and looks at, by its leaves.
use Rattle.std.proofs.Common.{◌≡◌, ℕ, Bool, true, false, ◌||◌, ◌==◌, List, [], ◌++◌, refl, sym, ap, ◌∙◌, append-nil}
use Rattle.std.specs.Prelude.{flat_map}
use Rattle.std.specs.List.{list_any}
use Rattle.std.proofs.lemmas.Grind.{flat_map-append}
use Rattle.std.proofs.lemmas.List.Folds.{list_any-append}
use Rattle.rtl_model.specs.bodies.Body.{Expr, signal, variable, inverse, filled, binary, counted, shifted, converted, chosen}
use Rattle.rtl_model.specs.bodies.Body.{Value, elements, position_in}
use Rattle.rtl_model.specs.bodies.Body.{Test, condition, equal, unequal, compared, compared_to}
use Rattle.rtl_model.specs.bodies.Body.{negated, combined}
use Rattle.rtl_model.specs.bodies.Body.{Stmt, null_of, assign, set, assign_at, set_at, if_of, case_of, Stmts, done, step}
use Rattle.rtl_model.specs.bodies.Body.{Branches, no_else, otherwise, branch, Alternatives, others, alternative}
use Rattle.rtl_model.specs.bodies.Reads.{expr_reads, value_reads, test_reads, stmt_reads, reads, branches_reads, alternatives_reads}
use Rattle.rtl_model.specs.bodies.Reads.{test_events, stmt_events, events, branches_events, alternatives_events}
use Rattle.rtl_model.specs.bodies.Stored.{expr_looks_at, value_looks_at, test_looks_at}
use Rattle.rtl_model.specs.bodies.Leaves.{Leaf, expr_leaves, value_leaves, test_leaves, stmt_leaves, leaves, branches_leaves, alternatives_leaves}
use Rattle.rtl_model.specs.bodies.Leaves.{read_of, event_of, leaf_looks_at}
use Rattle.rtl_model.specs.bodies.Laws.{LeavesTell}

-- two parts, one behind the other
both : (f : Leaf → List ℕ) (ls ms : List Leaf) (xs ys : List ℕ) → xs ≡ flat_map f ls → ys ≡ flat_map f ms → xs ++ ys ≡ flat_map f (ls ++ ms)
both f ls ms xs ys h k = ap (λ zs. zs ++ ys) h ∙ ap (λ zs. flat_map f ls ++ zs) k ∙ sym (flat_map-append f ls ms)

either : (f : Leaf → Bool) (ls ms : List Leaf) (a b : Bool) → a ≡ list_any f ls → b ≡ list_any f ms → a || b ≡ list_any f (ls ++ ms)
either f ls ms a b h k = ap (λ c. c || b) h ∙ ap (λ c. list_any f ls || c) k ∙ sym (list_any-append f ls ms)

or_none : (a : Bool) → (a || false) ≡ a
or_none true = refl
or_none false = refl

-- ---- what is read

expr_reads_are : (e : Expr) → expr_reads e ≡ flat_map read_of (expr_leaves e)
expr_reads_are (signal nets) = sym (append-nil nets)
expr_reads_are (inverse e) = expr_reads_are e
expr_reads_are (filled len e) = expr_reads_are e
expr_reads_are (binary op d e) = both read_of (expr_leaves d) (expr_leaves e) _ _ (expr_reads_are d) (expr_reads_are e)
expr_reads_are (counted op count e) = expr_reads_are e
expr_reads_are (shifted by count e) = both read_of (expr_leaves count) (expr_leaves e) _ _ (expr_reads_are count) (expr_reads_are e)
expr_reads_are (converted by e) = expr_reads_are e
expr_reads_are (chosen index spacing rows) = both read_of (expr_leaves index) (expr_leaves rows) _ _ (expr_reads_are index) (expr_reads_are rows)
expr_reads_are _ = refl

value_reads_are : (v : Value) → value_reads v ≡ flat_map read_of (value_leaves v)
value_reads_are (elements e) = expr_reads_are e
value_reads_are _ = refl

test_reads_are : (t : Test) → test_reads t ≡ flat_map read_of (test_leaves t)
test_reads_are (condition e) = expr_reads_are e
test_reads_are (equal v w) = both read_of (value_leaves v) (value_leaves w) _ _ (value_reads_are v) (value_reads_are w)
test_reads_are (unequal v w) = both read_of (value_leaves v) (value_leaves w) _ _ (value_reads_are v) (value_reads_are w)
test_reads_are (compared op d e) = both read_of (expr_leaves d) (expr_leaves e) _ _ (expr_reads_are d) (expr_reads_are e)
test_reads_are (compared_to op e n) = expr_reads_are e
test_reads_are (negated t) = test_reads_are t
test_reads_are (combined op s t) = both read_of (test_leaves s) (test_leaves t) _ _ (test_reads_are s) (test_reads_are t)
test_reads_are _ = refl

mutual
  stmt_reads_are : (s : Stmt) → stmt_reads s ≡ flat_map read_of (stmt_leaves s)
  stmt_reads_are null_of = refl
  stmt_reads_are (assign places v) = value_reads_are v
  stmt_reads_are (set es v) = value_reads_are v
  stmt_reads_are (assign_at index spacing places e) = both read_of (expr_leaves index) (expr_leaves e) _ _ (expr_reads_are index) (expr_reads_are e)
  stmt_reads_are (set_at index spacing es e) = both read_of (expr_leaves index) (expr_leaves e) _ _ (expr_reads_are index) (expr_reads_are e)
  stmt_reads_are (if_of bs) = branches_reads_are bs
  stmt_reads_are (case_of v alts) = both read_of (value_leaves v) (alternatives_leaves alts) _ _ (value_reads_are v) (alternatives_reads_are alts)

  reads_are : (s : Stmts) → reads s ≡ flat_map read_of (leaves s)
  reads_are done = refl
  reads_are (step s rest) = both read_of (stmt_leaves s) (leaves rest) _ _ (stmt_reads_are s) (reads_are rest)

  branches_reads_are : (bs : Branches) → branches_reads bs ≡ flat_map read_of (branches_leaves bs)
  branches_reads_are no_else = refl
  branches_reads_are (otherwise s) = reads_are s
  branches_reads_are (branch t s bs) =
      both read_of (test_leaves t) (leaves s ++ branches_leaves bs) _ _ (test_reads_are t)
      (both read_of (leaves s) (branches_leaves bs) _ _ (reads_are s) (branches_reads_are bs))

  alternatives_reads_are : (alts : Alternatives) → alternatives_reads alts ≡ flat_map read_of (alternatives_leaves alts)
  alternatives_reads_are (others s) = reads_are s
  alternatives_reads_are (alternative choices s alts) = both read_of (leaves s) (alternatives_leaves alts) _ _ (reads_are s) (alternatives_reads_are alts)

-- ---- edge tests and `'event`

expr_events_are : (e : Expr) → [] ≡ flat_map event_of (expr_leaves e)
expr_events_are (inverse e) = expr_events_are e
expr_events_are (filled len e) = expr_events_are e
expr_events_are (binary op d e) = both event_of (expr_leaves d) (expr_leaves e) [] [] (expr_events_are d) (expr_events_are e)
expr_events_are (counted op count e) = expr_events_are e
expr_events_are (shifted by count e) = both event_of (expr_leaves count) (expr_leaves e) [] [] (expr_events_are count) (expr_events_are e)
expr_events_are (converted by e) = expr_events_are e
expr_events_are (chosen index spacing rows) = both event_of (expr_leaves index) (expr_leaves rows) [] [] (expr_events_are index) (expr_events_are rows)
expr_events_are _ = refl

value_events_are : (v : Value) → [] ≡ flat_map event_of (value_leaves v)
value_events_are (elements e) = expr_events_are e
value_events_are _ = refl

test_events_are : (t : Test) → test_events t ≡ flat_map event_of (test_leaves t)
test_events_are (condition e) = expr_events_are e
test_events_are (equal v w) = both event_of (value_leaves v) (value_leaves w) [] [] (value_events_are v) (value_events_are w)
test_events_are (unequal v w) = both event_of (value_leaves v) (value_leaves w) [] [] (value_events_are v) (value_events_are w)
test_events_are (compared op d e) = both event_of (expr_leaves d) (expr_leaves e) [] [] (expr_events_are d) (expr_events_are e)
test_events_are (compared_to op e n) = expr_events_are e
test_events_are (negated t) = test_events_are t
test_events_are (combined op s t) = both event_of (test_leaves s) (test_leaves t) _ _ (test_events_are s) (test_events_are t)
test_events_are _ = refl

mutual
  stmt_events_are : (s : Stmt) → stmt_events s ≡ flat_map event_of (stmt_leaves s)
  stmt_events_are null_of = refl
  stmt_events_are (assign places v) = value_events_are v
  stmt_events_are (set es v) = value_events_are v
  stmt_events_are (assign_at index spacing places e) = both event_of (expr_leaves index) (expr_leaves e) [] [] (expr_events_are index) (expr_events_are e)
  stmt_events_are (set_at index spacing es e) = both event_of (expr_leaves index) (expr_leaves e) [] [] (expr_events_are index) (expr_events_are e)
  stmt_events_are (if_of bs) = branches_events_are bs
  stmt_events_are (case_of v alts) = both event_of (value_leaves v) (alternatives_leaves alts) [] _ (value_events_are v) (alternatives_events_are alts)

  events_are : (s : Stmts) → events s ≡ flat_map event_of (leaves s)
  events_are done = refl
  events_are (step s rest) = both event_of (stmt_leaves s) (leaves rest) _ _ (stmt_events_are s) (events_are rest)

  branches_events_are : (bs : Branches) → branches_events bs ≡ flat_map event_of (branches_leaves bs)
  branches_events_are no_else = refl
  branches_events_are (otherwise s) = events_are s
  branches_events_are (branch t s bs) =
      both event_of (test_leaves t) (leaves s ++ branches_leaves bs) _ _ (test_events_are t)
      (both event_of (leaves s) (branches_leaves bs) _ _ (events_are s) (branches_events_are bs))

  alternatives_events_are : (alts : Alternatives) → alternatives_events alts ≡ flat_map event_of (alternatives_leaves alts)
  alternatives_events_are (others s) = events_are s
  alternatives_events_are (alternative choices s alts) = both event_of (leaves s) (alternatives_leaves alts) _ _ (events_are s) (alternatives_events_are alts)

-- ---- elements

module _ (k : ℕ) where
  expr_looks_are : (e : Expr) → expr_looks_at k e ≡ list_any (leaf_looks_at k) (expr_leaves e)
  expr_looks_are (variable es) = sym (or_none (list_any (λ d. d == k) es))
  expr_looks_are (inverse e) = expr_looks_are e
  expr_looks_are (filled len e) = expr_looks_are e
  expr_looks_are (binary op d e) = either (leaf_looks_at k) (expr_leaves d) (expr_leaves e) _ _ (expr_looks_are d) (expr_looks_are e)
  expr_looks_are (counted op count e) = expr_looks_are e
  expr_looks_are (shifted by count e) = either (leaf_looks_at k) (expr_leaves count) (expr_leaves e) _ _ (expr_looks_are count) (expr_looks_are e)
  expr_looks_are (converted by e) = expr_looks_are e
  expr_looks_are (chosen index spacing rows) = either (leaf_looks_at k) (expr_leaves index) (expr_leaves rows) _ _ (expr_looks_are index) (expr_looks_are rows)
  expr_looks_are _ = refl

  value_looks_are : (v : Value) → value_looks_at k v ≡ list_any (leaf_looks_at k) (value_leaves v)
  value_looks_are (elements e) = expr_looks_are e
  value_looks_are (position_in element) = sym (or_none ((element == k) || false) ∙ or_none (element == k))
  value_looks_are _ = refl

  test_looks_are : (t : Test) → test_looks_at k t ≡ list_any (leaf_looks_at k) (test_leaves t)
  test_looks_are (condition e) = expr_looks_are e
  test_looks_are (equal v w) = either (leaf_looks_at k) (value_leaves v) (value_leaves w) _ _ (value_looks_are v) (value_looks_are w)
  test_looks_are (unequal v w) = either (leaf_looks_at k) (value_leaves v) (value_leaves w) _ _ (value_looks_are v) (value_looks_are w)
  test_looks_are (compared op d e) = either (leaf_looks_at k) (expr_leaves d) (expr_leaves e) _ _ (expr_looks_are d) (expr_looks_are e)
  test_looks_are (compared_to op e n) = expr_looks_are e
  test_looks_are (negated t) = test_looks_are t
  test_looks_are (combined op s t) = either (leaf_looks_at k) (test_leaves s) (test_leaves t) _ _ (test_looks_are s) (test_looks_are t)
  test_looks_are _ = refl

pub leaves_tell : LeavesTell
leaves_tell = record { reads_are = reads_are; events_are = events_are; value_reads_are = value_reads_are; value_looks_are = value_looks_are; test_looks_are = test_looks_are }
