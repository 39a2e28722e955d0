-- A process of which no variable is kept, and that stores none, stays as it is.
use Rattle.std.proofs.Common.{◌≡◌, ℕ, ◌+◌, ◌<◌, ◌≤◌, Bool, true, false, cond, not, ◌&&◌, ◌||◌, ◌==◌, List, [], ◌∷◌, ◌++◌, length, map, slice_index, refl, sym, ap, ◌∙◌, subst, arith, Contains}
use Rattle.std.specs.List.{list_any, list_all, range_with_len}
use Rattle.std.proofs.lemmas.Bool.{and_parts, eq-eqb}
use Rattle.std.proofs.lemmas.List.{append-nil, length-append}
use Rattle.std.proofs.lemmas.List.FromFn.{length-range_with_len, get_or-range_with_len}
use Rattle.rtl_model.specs.basics.Lists.{is_empty}
use Rattle.rtl_model.specs.bodies.Assigns.{is_element, must_assign}
use Rattle.rtl_model.specs.bodies.Body.{null_of, assign, set, assign_at, set_at, if_of, case_of, Stmts, done, step, no_else, branch, followed_by}
use Rattle.rtl_model.specs.bodies.Body.{Expr, signal, variable, constant, inverse, filled, binary, counted, shifted, converted, chosen, Value, elements, position, position_of, position_in}
use Rattle.rtl_model.specs.bodies.Fits.{Scope, HoldsRows, Fits, FitsExpr, FitsAs, width, value_width}
use Rattle.rtl_model.specs.bodies.Kinds.{assigns_constants}
use Rattle.rtl_model.specs.bodies.Leaves.{Leaf, expr_leaves, value_leaves, leaves}
use Rattle.rtl_model.specs.bodies.Reads.{value_reads}
use Rattle.rtl_model.specs.bodies.Stored.{expr_looks_at, value_looks_at, test_looks_at, stores_element}
use Rattle.rtl_model.specs.bodies.Types.{ElementType, nine_valued}
use Rattle.rtl_model.specs.bodies.Values.{Seen}
use Rattle.rtl_model.specs.nets.FlatNetlist.{FlatVariable, FlatProcess, element_starts, scope_of}
use Rattle.rtl_model.proofs.basics.Lists.{Contains-none, all_none}
use Rattle.rtl_model.proofs.bodies.Widths.{has_its_width}
use Rattle.rtl_variable_registers.specs.Bodies.{reset_branch, with_branches, is_register, keeps_element, at_edge, at_reset, kept_body}
use Rattle.rtl_variable_registers.specs.Known.{leaf_is_known, is_known, gives_constants, never_set, at_start}
use Rattle.rtl_variable_registers.specs.Laws.{WhatIsNoRegisterStays, WhatKeepsNoneStays}
use Rattle.rtl_variable_registers.specs.Processes.{kept_among, kept_variables, kept_elements, kept_starts, rank_in, drivers_from, with_nets, kept_process}
use Rattle.rtl_variable_registers.proofs.Alike.{constants, covered, reset_fits}
use Rattle.rtl_variable_registers.proofs.Known.{reads_none, bare_stays}
use Rattle.rtl_variable_registers.proofs.Recalling.{all_elements}
use Rattle.rtl_variable_registers.proofs.Resetting.{told, or_left, or_right}
use Rattle.rtl_variable_registers.proofs.Straight.{unmarked}
use Rattle.rtl_variable_registers.proofs.Timing.{reset_same}
use Rattle.rtl_variable_registers.proofs.Values.{on_both, parts_known}

-- ---- variables

pub none_among : (keeps : ℕ → Bool) (first : ℕ) (vs : List FlatVariable) → ((e : ℕ) → first ≤ e → e < first + length (element_starts vs) → keeps e ≡ false) → kept_among keeps first vs ≡ []
none_among keeps first [] h = refl
none_among keeps first (v ∷ vs) h =
    rw none (none_among keeps (first + length v.starts) vs (λ e l m. h e (omega arith) (omega (arith, length-append v.starts (element_starts vs)))))
  where
    none : list_any keeps (range_with_len first (length v.starts)) ≡ false
    none = all_none keeps (range_with_len first (length v.starts)) 0 (λ k l.
        let m : k < length v.starts = omega (arith, length-range_with_len first (length v.starts)) in
        rw (get_or-range_with_len first (length v.starts) k 0 m) (h (first + k) (omega arith) (omega (arith, length-append v.starts (element_starts vs)))))

pub no_register_stays : WhatIsNoRegisterStays
no_register_stays first p h = (none_among (keeps_element p.body) 0 p.variables (λ e l m. rw h refl), ap (λ (b : Bool). cond b (with_nets first p) p) h)

-- ---- the branch of a reset that sets no element, and looks at none

-- a value that fits has an element
has_element : (scope : Scope) (t : ElementType) (v : Value) → FitsAs scope t v → 1 ≤ value_width v
has_element scope nine_valued (elements e) h = (has_its_width scope e (record { before = []; now = []; variables = [] }) h).1.0
has_element scope t (position n) h = omega arith
has_element scope t (position_of n) h = omega arith
has_element scope t (position_in e) h = omega arith
has_element scope t (elements e) h = absurd h

module _ (scope : Scope) where
  sets_none : (known : ℕ → Bool) (a : Stmts) → Fits scope a → gives_constants known a ≡ true → ((e : ℕ) → must_assign (is_element e) a ≡ true → ⊥) → assigns_constants a ≡ true
  sets_none known done f g h = refl
  sets_none known (step null_of rest) f g h = sets_none known rest f.1 g h
  sets_none known (step (assign ps v) rest) f g h =
      let (c, d) = and_parts (is_known known v) (gives_constants known rest) g in
      rw (ap is_empty (reads_none known v c))
      (sets_none known rest f.1 d (λ e k. h e (or_right (list_any (λ q. false) ps) (must_assign (is_element e) rest) k)))
  sets_none known (step (set [] v) rest) f g h = absurd (let l = has_element scope f.0.0 v f.0.1 in let m : 0 ≡ value_width v = f.0.2 in omega arith)
  sets_none known (step (set (e ∷ es) v) rest) f g h =
      absurd (h e (or_left ((e == e) || list_any (λ j. j == e) es) (must_assign (is_element e) rest) (or_left (e == e) (list_any (λ j. j == e) es) (eq-eqb e e refl))))
  sets_none known (step (assign_at index spacing ps v) rest) f g h = absurd cc
  sets_none known (step (set_at index spacing es v) rest) f g h = absurd cc
  sets_none known (step (if_of bs) rest) f g h = absurd cc
  sets_none known (step (case_of v alts) rest) f g h = absurd cc

  rows_bare : (known : ℕ → Bool) (rows : Expr) → HoldsRows scope rows → 1 ≤ width rows → list_all (leaf_is_known known) (expr_leaves rows) ≡ true
      → ((k : ℕ) → expr_looks_at k rows ≡ true → ⊥) → expr_leaves rows ≡ []
  rows_bare known (signal nets) f some c n = absurd cc
  rows_bare known (variable []) f some c n = absurd (omega (arith, some))
  rows_bare known (variable (k ∷ ks)) f some c n = absurd (n k (or_left (k == k) (list_any (λ j. j == k) ks) (eq-eqb k k refl)))
  rows_bare known (constant vs) f some c n = refl
  rows_bare known _ f some c n = absurd f

  expr_bare : (known : ℕ → Bool) (e : Expr) → FitsExpr scope e → list_all (leaf_is_known known) (expr_leaves e) ≡ true → ((k : ℕ) → expr_looks_at k e ≡ true → ⊥) → expr_leaves e ≡ []
  expr_bare known (signal nets) f c n = absurd cc
  expr_bare known (variable []) f c n = absurd (let l = f.0.0 in omega arith)
  expr_bare known (variable (k ∷ ks)) f c n = absurd (n k (or_left (k == k) (list_any (λ j. j == k) ks) (eq-eqb k k refl)))
  expr_bare known (constant vs) f c n = refl
  expr_bare known (inverse e) f c n = expr_bare known e f c n
  expr_bare known (filled len e) f c n = expr_bare known e f.1 c n
  expr_bare known (binary op d e) f c n =
      let (x, y) = parts_known known d e c in
      on_both (λ (ls ms : List Leaf). ls ++ ms) (expr_bare known d f.1 x (λ k i. n k (or_left (expr_looks_at k d) (expr_looks_at k e) i)))
      (expr_bare known e f.2 y (λ k i. n k (or_right (expr_looks_at k d) (expr_looks_at k e) i)))
  expr_bare known (counted op count e) f c n = expr_bare known e f.1 c n
  expr_bare known (shifted by count e) f c n =
      let (x, y) = parts_known known count e c in
      on_both (λ (ls ms : List Leaf). ls ++ ms) (expr_bare known count f.0 x (λ k i. n k (or_left (expr_looks_at k count) (expr_looks_at k e) i)))
      (expr_bare known e f.1 y (λ k i. n k (or_right (expr_looks_at k count) (expr_looks_at k e) i)))
  expr_bare known (converted by e) f c n = expr_bare known e f c n
  expr_bare known (chosen index spacing rows) f c n =
      let (x, y) = parts_known known index rows c in
      on_both (λ (ls ms : List Leaf). ls ++ ms) (expr_bare known index f.1 x (λ k i. n k (or_left (expr_looks_at k index) (expr_looks_at k rows) i)))
      (rows_bare known rows f.2 (let l = f.0.0.0 in let m = f.3 in omega arith) y (λ k i. n k (or_right (expr_looks_at k index) (expr_looks_at k rows) i)))

  value_bare : (known : ℕ → Bool) (t : ElementType) (v : Value) → FitsAs scope t v → is_known known v ≡ true → ((k : ℕ) → value_looks_at k v ≡ true → ⊥) → value_leaves v ≡ []
  value_bare known nine_valued (elements e) f c n = expr_bare known e f c n
  value_bare known t (position k) f c n = refl
  value_bare known t (position_of net) f c n = absurd cc
  value_bare known t (position_in e) f c n = absurd (n e (eq-eqb e e refl))
  value_bare known t (elements e) f c n = absurd f

  looks_none : (known : ℕ → Bool) (a : Stmts) → Fits scope a → gives_constants known a ≡ true → assigns_constants a ≡ true → ((e : ℕ) → stores_element e a ≡ true → ⊥) → leaves a ≡ []
  looks_none known done f g h n = refl
  looks_none known (step null_of rest) f g h n = looks_none known rest f.1 g h n
  looks_none known (step (assign ps v) rest) f g h n =
      let (c, d) = and_parts (is_known known v) (gives_constants known rest) g in
      on_both (λ (ls ms : List Leaf). ls ++ ms) (value_bare known f.0.0 v f.0.1 c (λ e k. n e (or_left (value_looks_at e v) _ k)))
      (looks_none known rest f.1 d (and_parts (is_empty (value_reads v)) (assigns_constants rest) h).1
      (λ e k. n e (or_right (value_looks_at e v) _ (unmarked ps (stores_element e rest) k))))
  looks_none known (step _ rest) f g h n = absurd cc

-- ---- bodies

followed_done : (s : Stmts) → followed_by s done ≡ s
followed_done done = refl
followed_done (step x rest) = ap (step x) (followed_done rest)

none_told : (net place : ℕ → ℕ) (seen : Seen) (a : Stmts) → assigns_constants a ≡ true → leaves a ≡ [] → told net place seen a ≡ a
none_told net place seen a h n = ap (at_reset net place) (bare_stays seen a n) ∙ reset_same net place a h

none_kept : (net place : ℕ → ℕ) (seen : Seen) (body : Stmts) → assigns_constants (reset_branch body) ≡ true → leaves (reset_branch body) ≡ []
    → with_branches (told net place seen) (at_edge net place []) body ≡ body
none_kept net place seen (step (if_of (branch t s no_else)) done) h n = ap (λ x. step (if_of (branch t x no_else)) done) (followed_done s)
none_kept net place seen (step (if_of (branch r a (branch t s no_else))) done) h n =
    λ i. step (if_of (branch r (none_told net place seen a h n i) (branch t (followed_done s i) no_else))) done
none_kept net place seen (step (if_of (branch t s no_else)) (step (if_of (branch r a no_else)) done)) h n =
    λ i. step (if_of (branch t (followed_done s i) no_else)) (step (if_of (branch r (none_told net place seen a h n i) no_else)) done)
none_kept net place seen body h n = refl

-- what the reset's branch stores, the body does
reset_stores : (body : Stmts) (e : ℕ) → stores_element e (reset_branch body) ≡ true → stores_element e body ≡ true
reset_stores (step (if_of (branch r a (branch t s no_else))) done) e h =
    or_left (test_looks_at e r || (stores_element e a || (test_looks_at e t || (stores_element e s || false)))) _
    (or_right (test_looks_at e r) _ (or_left (stores_element e a) _ h))
reset_stores (step (if_of (branch t s no_else)) (step (if_of (branch r a no_else)) done)) e h =
    or_right (test_looks_at e t || (stores_element e s || false)) _
    (left_open (must_assign (is_element e) s) _ (or_left (test_looks_at e r || (stores_element e a || false)) _ (or_right (test_looks_at e r) _ (or_left (stores_element e a) false h))))
  where
    left_open : (b c : Bool) → c ≡ true → not (b && false) && c ≡ true
    left_open true c k = k
    left_open false c k = k
reset_stores body e h = absurd cc

-- ---- processes

pub keeps_none_stays : WhatKeepsNoneStays
keeps_none_stays types first p in_range none bare = go (is_register p.body) refl
  where
    net : ℕ → ℕ
    net e = first + rank_in (kept_elements p) e

    place : ℕ → ℕ
    place e = length p.drivers + rank_in (kept_elements p) e

    no_elements : kept_elements p ≡ []
    no_elements = ap all_elements none

    drivers : p.drivers ++ drivers_from first (kept_starts p) ≡ p.drivers
    drivers = ap (λ es. p.drivers ++ drivers_from first (map (slice_index (element_starts p.variables)) es)) no_elements ∙ append-nil p.drivers

    nothing : (e : ℕ) → Contains (kept_elements p) e → ⊥
    nothing e c = Contains-none e (subst (λ (es : List ℕ). Contains es e) no_elements c)

    body : is_register p.body ≡ true → kept_body net place (element_starts p.variables) (kept_variables p) p.body ≡ p.body
    body h =
        let scope = scope_of types p in
        let fits = reset_fits scope p.body in_range.body in
        let given = constants types p in_range h in
        let assigns = sets_none scope (never_set p.body) (reset_branch p.body) fits given (λ e k. nothing e ((covered types p in_range h).1 e k)) in
        ap (λ vs. kept_body net place (element_starts p.variables) vs p.body) none
        ∙ none_kept net place (at_start (element_starts p.variables)) p.body assigns
        (looks_none scope (never_set p.body) (reset_branch p.body) fits given assigns (λ e k. let f : true ≡ false = sym (reset_stores p.body e k) ∙ bare e in cc))

    go : (register : Bool) → is_register p.body ≡ register → cond register (with_nets first p) p ≡ p
    go true h = λ i. record { drivers = drivers i; wakes = p.wakes; variables = p.variables; body = body h i }
    go false h = refl

-- the drivers of any process, its wakes and variables
pub drivers_are : (first : ℕ) (p : FlatProcess) → (kept_process first p).drivers ≡ p.drivers ++ drivers_from first (kept_starts p)
drivers_are first p = go (is_register p.body) refl
  where
    none : is_register p.body ≡ false → kept_starts p ≡ []
    none h = ap (λ vs. map (slice_index (element_starts p.variables)) (all_elements vs)) (no_register_stays first p h).0

    go : (register : Bool) → is_register p.body ≡ register → (cond register (with_nets first p) p).drivers ≡ p.drivers ++ drivers_from first (kept_starts p)
    go true h = refl
    go false h = sym (ap (λ vs. p.drivers ++ drivers_from first vs) (none h) ∙ append-nil p.drivers)

pub wakes_stay : (first : ℕ) (p : FlatProcess) → (kept_process first p).wakes ≡ p.wakes
wakes_stay first p = go (is_register p.body)
  where
    go : (register : Bool) → (cond register (with_nets first p) p).wakes ≡ p.wakes
    go true = refl
    go false = refl

pub variables_stay : (first : ℕ) (p : FlatProcess) → (kept_process first p).variables ≡ p.variables
variables_stay first p = go (is_register p.body)
  where
    go : (register : Bool) → (cond register (with_nets first p) p).variables ≡ p.variables
    go true = refl
    go false = refl

-- what keeps an element is a register
pub keeps_if_register : (p : FlatProcess) (e : ℕ) → Contains (kept_elements p) e → is_register p.body ≡ true
keeps_if_register p e c = go (is_register p.body) refl
  where
    go : (register : Bool) → is_register p.body ≡ register → is_register p.body ≡ true
    go true h = h
    go false h = absurd (Contains-none e (subst (λ (es : List ℕ). Contains es e) (ap all_elements (no_register_stays 0 p h).0) c))
