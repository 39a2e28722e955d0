-- What a process assigns, by a list of those nets.
use Rattle.std.proofs.Common.{◌≡◌, ℕ, ◌<◌, ◌==◌, Bool, true, false, not, ◌&&◌, ◌||◌, List, [], ◌∷◌, length, get_or, Some, None, refl, sym, ap, ◌∙◌, ◌⊎◌, inl, inr, arith}
use Rattle.std.specs.Prelude.{is_some, is_none, cond, find}
use Rattle.std.specs.List.{list_any, list_all}
use Rattle.std.proofs.lemmas.Bool.{cases_Bool, ltb-true, eqb-true, eq-eqb, ne_eqb, and_parts, and_right, or_cases}
use Rattle.std.proofs.lemmas.List.{get_or_default}
use Rattle.rtl_model.specs.basics.Lists.{is_empty}
use Rattle.rtl_model.specs.bodies.Assigns.{Target, driver, element, stmt_assigns, stmts_assign, branches_assign, alternatives_assign}
use Rattle.rtl_model.specs.bodies.Body.{Stmt, null_of, assign, set, assign_at, set_at, if_of, case_of, Stmts, done, step, Branches, no_else, otherwise, branch, Alternatives, others, alternative}
use Rattle.rtl_model.specs.nets.CoreNetlist.{drives_net}
use Rattle.rtl_net.specs.declared.process.Process.{Process}
use Rattle.rtl_body_facts.specs.Paths.{driven, to_net}
use Rattle.rtl_body_facts.specs.Reading.{is_in}
use Rattle.rtl_body_facts.proofs.Members.{has_in}
use Rattle.rtl_mixed_reasons.specs.Reasons.{assigns, first_net, assigns_alike}

-- ---- a net that isn't driven isn't assigned

module _ {X : Type 0} (f : X → Bool) (none : (x : X) → f x ≡ false) where
  never : (xs : List X) → list_any f xs ≡ false
  never [] = refl
  never (x ∷ xs) = λ i. none x i || never xs i

module _ (these : Target → Bool) (none : (t : Target) → these t ≡ false) where
  mutual
    stmt-never : (s : Stmt) → stmt_assigns these s ≡ false
    stmt-never null_of = refl
    stmt-never (assign places v) = never (λ place. these (driver place)) (λ place. none (driver place)) places
    stmt-never (set es v) = never (λ e. these (element e)) (λ e. none (element e)) es
    stmt-never (assign_at index spacing places e) = never (λ place. these (driver place)) (λ place. none (driver place)) places
    stmt-never (set_at index spacing es e) = never (λ k. these (element k)) (λ k. none (element k)) es
    stmt-never (if_of bs) = branches-never bs
    stmt-never (case_of v alts) = alternatives-never alts

    stmts-never : (s : Stmts) → stmts_assign these s ≡ false
    stmts-never done = refl
    stmts-never (step s rest) = λ i. stmt-never s i || stmts-never rest i

    branches-never : (bs : Branches) → branches_assign these bs ≡ false
    branches-never no_else = refl
    branches-never (otherwise s) = stmts-never s
    branches-never (branch t s bs) = λ i. stmts-never s i || branches-never bs i

    alternatives-never : (alts : Alternatives) → alternatives_assign these alts ≡ false
    alternatives-never (others s) = stmts-never s
    alternatives-never (alternative choices s alts) = λ i. stmts-never s i || alternatives-never alts i

covered : (ds : List ℕ) (n place : ℕ) → drives_net ds n place ≡ true → is_in n ds ≡ true
covered ds n place h =
    let (l, e) = and_parts _ _ h in
    let within : place < length ds = ltb-true place (length ds) l in
    has_in ds n (place, within, get_or_default ds place n 0 within ∙ eqb-true (get_or ds place 0) n e)

uncovered : (ds : List ℕ) (n place : ℕ) → is_in n ds ≡ false → drives_net ds n place ≡ false
uncovered ds n place none = go (cases_Bool (drives_net ds n place))
  where
    go : (drives_net ds n place ≡ true) ⊎ (drives_net ds n place ≡ false) → drives_net ds n place ≡ false
    go (inl h) = absurd (let k : true ≡ false = sym (covered ds n place h) ∙ none in cc)
    go (inr h) = h

pub assigned-driven : (p : Process) (s : Stmts) (n : ℕ) → assigns p s n ≡ true → is_in n (driven p.drives.items) ≡ true
assigned-driven p s n h = go (cases_Bool (is_in n (driven p.drives.items)))
  where
    go : (is_in n (driven p.drives.items) ≡ true) ⊎ (is_in n (driven p.drives.items) ≡ false) → is_in n (driven p.drives.items) ≡ true
    go (inl e) = e
    go (inr e) = absurd (let k : true ≡ false = sym h ∙ stmts-never (to_net p.drives.items n) none s in cc)
      where
        none : (t : Target) → to_net p.drives.items n t ≡ false
        none (driver place) = uncovered (driven p.drives.items) n place e
        none (element k) = refl

-- ---- the first net such

pub find-none : (f : ℕ → Bool) (ns : List ℕ) → ((n : ℕ) → f n ≡ false) → find f ns ≡ None
find-none f [] none = refl
find-none f (n ∷ ns) none = ap (λ (b : Bool). cond b (Some n) (find f ns)) (none n) ∙ find-none f ns none

find-some : (f : ℕ → Bool) (ns : List ℕ) (n : ℕ) → is_in n ns ≡ true → f n ≡ true → is_some (find f ns) ≡ true
find-some f [] n there so = absurd cc
find-some f (m ∷ ns) n there so = go (f m) refl (or_cases (m == n) (is_in n ns) there) (λ h. find-some f ns n h so)
  where
    go : (b : Bool) → f m ≡ b → ((m == n) ≡ true) ⊎ (is_in n ns ≡ true) → (is_in n ns ≡ true → is_some (find f ns) ≡ true) → is_some (cond b (Some m) (find f ns)) ≡ true
    go true e h more = refl
    go false e (inl h) more = absurd (let k : true ≡ false = sym so ∙ (ap f (sym (eqb-true m n h)) ∙ e) in cc)
    go false e (inr h) more = more h

all-in : (f : ℕ → Bool) (ns : List ℕ) (n : ℕ) → list_all f ns ≡ true → is_in n ns ≡ true → f n ≡ true
all-in f [] n h there = absurd cc
all-in f (m ∷ ns) n h there = go (and_parts (f m) (list_all f ns) h) (or_cases (m == n) (is_in n ns) there) (λ b e. all-in f ns n b e)
  where
    go : (f m ≡ true) × (list_all f ns ≡ true) → ((m == n) ≡ true) ⊎ (is_in n ns ≡ true) → (list_all f ns ≡ true → is_in n ns ≡ true → f n ≡ true) → f n ≡ true
    go (a, b) (inl e) more = ap f (sym (eqb-true m n e)) ∙ a
    go (a, b) (inr e) more = more b e

not-all : (f : ℕ → Bool) (ns : List ℕ) → list_all f ns ≡ false → (n : ℕ) × (is_in n ns ≡ true) × (f n ≡ false)
not-all f [] h = absurd cc
not-all f (m ∷ ns) h = go (f m) refl (λ e. not-all f ns e) h
  where
    go : (b : Bool) → f m ≡ b → (list_all f ns ≡ false → (n : ℕ) × (is_in n ns ≡ true) × (f n ≡ false)) → (b && list_all f ns) ≡ false → (n : ℕ) × (is_in n (m ∷ ns) ≡ true) × (f n ≡ false)
    go false e more h = (m, ap (λ (c : Bool). c || is_in m ns) (eq-eqb m m refl), e)
    go true e more h = let (n, i, k) = more h in (n, ap (λ (c : Bool). (m == n) || c) i ∙ or-true (m == n), k)
      where
        or-true : (c : Bool) → (c || true) ≡ true
        or-true true = refl
        or-true false = refl

pub no-length : (xs : List ℕ) → (length xs == 0) ≡ true → xs ≡ []
no-length [] e = refl
no-length (x ∷ xs) e = let k = eqb-true (length (x ∷ xs)) 0 e in absurd (omega arith)

empty-is : (xs : List ℕ) → (length xs == 0) ≡ is_empty xs
empty-is [] = refl
empty-is (x ∷ xs) = ne_eqb (length (x ∷ xs)) 0 (λ e. absurd (omega arith))

-- ---- a list that has the nets that are assigned

module _ (p : Process) (s : Stmts) (nets : List ℕ) (are : (n : ℕ) → is_in n nets ≡ assigns p s n) where
  some-net : is_some (first_net p (assigns p s)) ≡ not (is_empty nets)
  some-net = go nets are
    where
      go : (ns : List ℕ) → ((n : ℕ) → is_in n ns ≡ assigns p s n) → is_some (first_net p (assigns p s)) ≡ not (is_empty ns)
      go [] so = ap is_some (find-none (assigns p s) (driven p.drives.items) (λ n. sym (so n)))
      go (m ∷ ns) so =
          let here : assigns p s m ≡ true = sym (so m) ∙ ap (λ (c : Bool). c || is_in m ns) (eq-eqb m m refl) in
          find-some (assigns p s) (driven p.drives.items) m (assigned-driven p s m here) here

  no-other : (edge : ℕ → Bool) → is_none (first_net p (λ n. assigns p s n && not (edge n))) ≡ list_all edge nets
  no-other edge = go (cases_Bool (list_all edge nets))
    where
      go : (list_all edge nets ≡ true) ⊎ (list_all edge nets ≡ false) → is_none (first_net p (λ n. assigns p s n && not (edge n))) ≡ list_all edge nets
      go (inl e) = ap is_none (find-none (λ n. assigns p s n && not (edge n)) (driven p.drives.items) (λ n. none n (cases_Bool (assigns p s n)))) ∙ sym e
        where
          none : (n : ℕ) → (assigns p s n ≡ true) ⊎ (assigns p s n ≡ false) → (assigns p s n && not (edge n)) ≡ false
          none n (inl a) = and_right (assigns p s n) (not (edge n)) (ap not (all-in edge nets n e (are n ∙ a)))
          none n (inr a) = ap (λ (b : Bool). b && not (edge n)) a
      go (inr e) =
          let (n, there, out) = not-all edge nets e in
          let a : assigns p s n ≡ true = sym (are n) ∙ there in
          ap not (find-some (λ n. assigns p s n && not (edge n)) (driven p.drives.items) n (assigned-driven p s n a) (λ i. a i && not (out i))) ∙ sym e

  alike-is : (edge : ℕ → Bool) → (not (is_empty nets) && list_all edge nets) ≡ assigns_alike p edge s
  alike-is edge = λ i. sym some-net i && sym (no-other edge) i

  pub alike-none : (edge : ℕ → Bool) → (length nets == 0) ≡ true → false ≡ assigns_alike p edge s
  alike-none edge e = sym (ap (λ (b : Bool). not b && list_all edge nets) (sym (empty-is nets) ∙ e)) ∙ alike-is edge

  pub alike-some : (edge : ℕ → Bool) → (length nets == 0) ≡ false → list_all edge nets ≡ assigns_alike p edge s
  alike-some edge e = sym (ap (λ (b : Bool). not b && list_all edge nets) (sym (empty-is nets) ∙ e)) ∙ alike-is edge

-- the first net such, by another test that says the same
pub net-is : (p : Process) (f g : ℕ → Bool) → ((n : ℕ) → f n ≡ g n) → first_net p f ≡ first_net p g
net-is p f g same = λ i. first_net p (λ n. same n i)
