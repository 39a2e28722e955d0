-- No variable is kept that isn't needed.
use Rattle.std.proofs.Common.{◌≡◌, ℕ, ◌+◌, Bool, true, false, not, cond, ◌&&◌, ◌||◌, List, [], ◌∷◌, length, Contains, refl, sym, ap, subst, ◌∙◌, ◌⊎◌, inl, inr}
use Rattle.std.specs.List.{list_any}
use Rattle.std.proofs.lemmas.Bool.{and_parts, or_cases}
use Rattle.std.proofs.lemmas.List.Elements.{Contains-append_cases}
use Rattle.rtl_model.specs.bodies.Assigns.{is_element, stmt_must_assign, must_assign, stmts_assign}
use Rattle.rtl_model.specs.bodies.Body.{Test, if_of, Stmts, done, no_else, branch}
use Rattle.rtl_model.specs.bodies.Stored.{test_looks_at, stores_element}
use Rattle.rtl_model.specs.nets.FlatNetlist.{FlatVariable}
use Rattle.rtl_model.proofs.basics.Lists.{Contains-none, Contains-one, Contains-first}
use Rattle.rtl_variable_registers.specs.Bodies.{is_register, keeps_element, KeptVariable}
use Rattle.rtl_variable_registers.specs.Laws.{alone_body, first_body, behind_body, IsNeeded, EachKeptIsNeeded}
use Rattle.rtl_variable_registers.specs.Processes.{kept_among}
use Rattle.rtl_variable_registers.proofs.Putting.{Contains-more}
use Rattle.rtl_variable_registers.proofs.Shapes.{ByReset, edge_alone, reset_first, reset_behind}
use Rattle.rtl_variable_registers.proofs.Stored.{edge_looks_none}
use Rattle.rtl_variable_registers.proofs.Straight.{gives_straight, straight_sets}
use Rattle.rtl_variable_registers.proofs.Tables.{of_variable}

-- one of a list of which one is so
one_of : (f : ℕ → Bool) (es : List ℕ) → list_any f es ≡ true → (e : ℕ) × Contains es e × (f e ≡ true)
one_of f [] h = absurd cc
one_of f (e ∷ es) h = go (λ k. one_of f es k) (or_cases (f e) (list_any f es) h)
  where
    go : (list_any f es ≡ true → (d : ℕ) × Contains es d × (f d ≡ true)) → (f e ≡ true) ⊎ (list_any f es ≡ true) → (d : ℕ) × Contains (e ∷ es) d × (f d ≡ true)
    go rest (inl k) = (e, Contains-first e es, k)
    go rest (inr k) = let (d, c, g) = rest k in (d, Contains-more e es d c, g)

-- a variable that is kept has an element that is
has_kept : (keeps : ℕ → Bool) (first : ℕ) (vs : List FlatVariable) (v : KeptVariable) → Contains (kept_among keeps first vs) v → list_any keeps v.elements ≡ true
has_kept keeps first [] v c = absurd (Contains-none v c)
has_kept keeps first (w ∷ ws) v c = go (λ k. has_kept keeps (first + length w.starts) ws v k) (list_any keeps (of_variable first w).elements) refl c
  where
    among : List KeptVariable
    among = kept_among keeps (first + length w.starts) ws

    go : (Contains among v → list_any keeps v.elements ≡ true) → (b : Bool) → list_any keeps (of_variable first w).elements ≡ b
        → Contains (cond b (of_variable first w ∷ among) among) v → list_any keeps v.elements ≡ true
    go rest true h k = either h rest (Contains-append_cases (of_variable first w ∷ []) among v k)
      where
        either : list_any keeps (of_variable first w).elements ≡ true → (Contains among v → list_any keeps v.elements ≡ true) → Contains (of_variable first w ∷ []) v ⊎ Contains among v
            → list_any keeps v.elements ≡ true
        either h rest (inl k) = subst (λ (u : KeptVariable). list_any keeps u.elements ≡ true) (Contains-one (of_variable first w) v k) h
        either h rest (inr k) = rest k
    go rest false h k = rest k

-- ---- what a body stores, its reset's branch aside

of_alone : (t s m x : Bool) → t ≡ false → ((t || (s || false)) || (not m && false)) || x ≡ true → s || x ≡ true
of_alone true s m x h k = absurd cc
of_alone false true m x h k = refl
of_alone false false true x h k = k
of_alone false false false x h k = k

of_first : (r t s m x : Bool) → r ≡ false → t ≡ false → ((r || (t || (s || false))) || (not m && false)) || x ≡ true → s || x ≡ true
of_first true t s m x g h k = absurd cc
of_first false t s m x g h k = of_alone t s m x h k

of_behind : (t s m r n x : Bool) → t ≡ false → r ≡ false → ((t || (s || false)) || (not m && ((r || false) || (not n && false)))) || x ≡ true → s || x ≡ true
of_behind true s m r n x g h k = absurd cc
of_behind false s m true n x g h k = absurd cc
of_behind false true m false n x g h k = refl
of_behind false false true false n x g h k = k
of_behind false false false false true x g h k = k
of_behind false false false false false x g h k = k

-- ---- the three bodies

-- the reset sets on some path just what it sets on every path
assigned : {known : ℕ → Bool} (r : Test) (a s : Stmts) (e : ℕ) → ByReset known r a → stores_element e s || must_assign (is_element e) a ≡ true
    → stores_element e s || stmts_assign (is_element e) a ≡ true
assigned {known} r a s e x h =
    ap (λ (b : Bool). stores_element e s || b) (straight_sets (is_element e) a (gives_straight known a x.constants)) ∙ h

needed_alone : (t : Test) (s : Stmts) (e : ℕ) → keeps_element (alone_body t s) e ≡ true → stores_element e s || false ≡ true
needed_alone t s e h =
    let (register, k) = and_parts (is_register (alone_body t s)) (stores_element e (alone_body t s) || false) h in
    of_alone (test_looks_at e t) (stores_element e s) (stmt_must_assign (is_element e) (if_of (branch t s no_else))) false (edge_looks_none t s (edge_alone t s register) e) k

needed_first : (r : Test) (a : Stmts) (t : Test) (s : Stmts) (e : ℕ) → keeps_element (first_body r a t s) e ≡ true → stores_element e s || stmts_assign (is_element e) a ≡ true
needed_first r a t s e h =
    let (register, k) = and_parts (is_register (first_body r a t s)) (stores_element e (first_body r done t s) || must_assign (is_element e) a) h in
    let (x, y) = reset_first r a t s register in
    assigned r a s e x
    (of_first (test_looks_at e r) (test_looks_at e t) (stores_element e s) (stmt_must_assign (is_element e) (if_of (branch r done (branch t s no_else)))) (must_assign (is_element e) a)
    (ap (test_looks_at e) x.is) (edge_looks_none t s y e) k)

needed_behind : (t : Test) (s : Stmts) (r : Test) (a : Stmts) (e : ℕ) → keeps_element (behind_body t s r a) e ≡ true → stores_element e s || stmts_assign (is_element e) a ≡ true
needed_behind t s r a e h =
    let (register, k) = and_parts (is_register (behind_body t s r a)) (stores_element e (behind_body t s r done) || must_assign (is_element e) a) h in
    let (x, y) = reset_behind t s r a register in
    assigned r a s e x
    (of_behind (test_looks_at e t) (stores_element e s) (stmt_must_assign (is_element e) (if_of (branch t s no_else))) (test_looks_at e r)
    (stmt_must_assign (is_element e) (if_of (branch r done no_else))) (must_assign (is_element e) a) (edge_looks_none t s y e) (ap (test_looks_at e) x.is) k)

pub kept_is_needed : EachKeptIsNeeded
kept_is_needed p v c r t a s = (
  λ (is : p.body ≡ alone_body t s). shown (alone_body t s) s done is (needed_alone t s),
  λ (is : p.body ≡ first_body r a t s). shown (first_body r a t s) s a is (needed_first r a t s),
  λ (is : p.body ≡ behind_body t s r a). shown (behind_body t s r a) s a is (needed_behind t s r a),
)
  where
    shown : (body edge reset : Stmts) → p.body ≡ body → ((e : ℕ) → keeps_element body e ≡ true → stores_element e edge || stmts_assign (is_element e) reset ≡ true) → IsNeeded edge reset v.elements
    shown body edge reset is needed =
        let (e, there, keeps) = one_of (keeps_element body) v.elements
        (ap (λ (b : Stmts). list_any (keeps_element b) v.elements) (sym is) ∙ has_kept (keeps_element p.body) 0 p.variables v c) in
        (e, there, needed e keeps)
