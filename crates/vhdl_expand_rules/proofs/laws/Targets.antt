-- What a body assigns is among the elements of the longest static prefixes of its targets.
use Rattle.std.proofs.Common.{◌≡◌, ℕ, zero, suc, ◌+◌, ◌<◌, Bool, true, false, cond, ◌&&◌, ◌==◌, List, [], ◌∷◌, ◌++◌, length, map, take, Option, Some, None, Ok, All, sym, ap, ◌∙◌, subst, arith, ◌⊎◌, inl, inr}
use Rattle.std.specs.Prelude.{ℤ, Contains, filter, slice_get, slice_index_or}
use Rattle.std.specs.List.{list_any, list_all, range_with_len}
use Rattle.std.proofs.lemmas.Bool.{eqb-true, eq-eqb, or_cases, or_left, or_right, and_parts}
use Rattle.std.proofs.lemmas.List.Elements.{All-cons, All-nil, All-head, All-tail, All-append, All-weaker, All-contains, All-contains_itself, Contains-append_left, Contains-append_right, filter_passes}
use Rattle.std.proofs.lemmas.List.FromFn.{length-range_with_len, get_or-range_with_len}
use Rattle.rtl_model.specs.bodies.Body as bodies
use Rattle.vhdl_names_rules.specs.units.Expressions as u
use Rattle.vhdl_names_rules.specs.units.Expressions.{Signal, SignalPart}
use Rattle.vhdl_names_rules.specs.units.Statements as s
use Rattle.vhdl_names_rules.specs.sound.Expressions.{Inside, Shape, signal_form, place_shape, has_vector, chosen_shape, chosen_fits, value_shape, range_fits, test_fits}
use Rattle.vhdl_names_rules.specs.sound.Statements.{given_fits, given_fits_target, is_driven, within_loop, choice_fits, selector_fits, statement_fits, statements_fit, branches_fit, alternatives_fit}
use Rattle.vhdl_expand_rules.specs.declared.fault.ElabProblem.TheVariants.{Index}
use Rattle.vhdl_expand_rules.specs.Elab.{Elab, ◌>>=◌, item_or, each}
use Rattle.vhdl_expand_rules.specs.Integers.{Integers, turns}
use Rattle.vhdl_expand_rules.specs.Kinds.{ObjectKind, places}
use Rattle.vhdl_expand_rules.specs.Site.{Site, in_loop, elements_count, part_elements, signal_elements, place_elements, variable_elements, signal_kind, signal_bounds, variable_bounds}
use Rattle.vhdl_expand_rules.specs.Expressions as x
use Rattle.vhdl_expand_rules.specs.Statements.{given_to, elements_given, choice, may_choose, choices_serve, spread, joined_bodies, one, statement, statements, branches, alternatives}
use Rattle.vhdl_expand_rules.specs.declared.prefix.Sought.TheVariants.{Assigned}
use Rattle.vhdl_expand_rules.specs.Prefixes.{prefix, whole_of, statement_names, targets, branches_names, alternatives_names, concatenation_of, is_among, in_order}
use Rattle.vhdl_expand_rules.specs.laws.Trees.{StmtAssigns, Assigns, BranchesAssign, AlternativesAssign}
use Rattle.vhdl_expand_rules.proofs.Steps.{given, ok, bound, each-all}
use Rattle.vhdl_expand_rules.proofs.laws.Prefixes.{within, name_in_prefix}
use Rattle.rtl_model.specs.bodies.Fits.{value_width}

-- ---- lists

pub all_left : {A : Type 0} (P : A → Type 0) (xs ys : List A) → All P (xs ++ ys) → All P xs
all_left P [] ys h = All-nil P
all_left P (x ∷ xs) ys h = All-cons P x xs (All-head P x (xs ++ ys) h) (all_left P xs ys (All-tail P x (xs ++ ys) h))

pub all_right : {A : Type 0} (P : A → Type 0) (xs ys : List A) → All P (xs ++ ys) → All P ys
all_right P [] ys h = h
all_right P (x ∷ xs) ys h = all_right P xs ys (All-tail P x (xs ++ ys) h)

contains-cons : (y x : ℕ) (xs : List ℕ) → Contains xs x → Contains (y ∷ xs) x
contains-cons y x xs h = let l : h.0 < length xs = h.1 in (suc h.0, omega (arith, l), h.2)

contains-cond : (t : Bool) (y x : ℕ) (xs : List ℕ) → Contains xs x → Contains (cond t (y ∷ xs) xs) x
contains-cond true y x xs h = contains-cons y x xs h
contains-cond false y x xs h = h

pub contains_filter : (p : ℕ → Bool) (xs : List ℕ) (x : ℕ) → Contains xs x → p x ≡ true → Contains (filter p xs) x
contains_filter p [] x h e = absurd (let l : h.0 < 0 = h.1 in omega (arith, l))
contains_filter p (y ∷ xs) x (zero, l, is) e =
    subst (λ (t : Bool). Contains (cond t (y ∷ filter p xs) (filter p xs)) x) (sym (ap p is ∙ e)) (zero, omega arith, is)
contains_filter p (y ∷ xs) x (suc k, l, is) e = contains-cond (p y) y x (filter p xs) (contains_filter p xs x (k, omega (arith, l), is) e)

among-from : (ns : List ℕ) (k e : ℕ) → k < length ns → slice_index_or ns k e ≡ e → is_among ns e ≡ true
among-from [] k e l h = absurd (omega (arith, l))
among-from (n ∷ ns) zero e l h = or_left (n == e) (list_any (λ m. m == e) ns) (eq-eqb n e h)
among-from (n ∷ ns) (suc k) e l h = or_right (n == e) (list_any (λ m. m == e) ns) (among-from ns k e (omega (arith, l)) h)

among-all : (P : ℕ → Type 0) (ns : List ℕ) (e : ℕ) → All P ns → is_among ns e ≡ true → P e
among-all P [] e h k = absurd cc
among-all P (n ∷ ns) e h k = by (λ later. among-all P ns e (All-tail P n ns h) later) (or_cases (n == e) (list_any (λ m. m == e) ns) k)
  where
    by : (is_among ns e ≡ true → P e) → ((n == e) ≡ true) ⊎ (is_among ns e ≡ true) → P e
    by go (inl same) = subst P (eqb-true n e same) (All-head P n ns h)
    by go (inr later) = go later

-- what is among these numbers is in order there, where it is below the bound
pub in_order_has : (below : ℕ) (ns : List ℕ) (e : ℕ) → e < below → Contains ns e → Contains (in_order below ns) e
unfolding in_order
in_order_has below ns e l h =
    contains_filter (is_among ns) (range_with_len 0 below) e
    (e, subst (λ n. e < n) (sym (length-range_with_len 0 below)) l, get_or-range_with_len 0 below e e l ∙ (let z : 0 + e ≡ e = omega arith in z))
    (among-from ns h.0 e h.1 h.2)

pub in_order_all : (P : ℕ → Type 0) (below : ℕ) (ns : List ℕ) → All P ns → All P (in_order below ns)
unfolding in_order
in_order_all P below ns h =
    All-weaker (λ e. is_among ns e ≡ true) P (λ e k. among-all P ns e h k) (filter (is_among ns) (range_with_len 0 below)) (filter_passes (is_among ns) (range_with_len 0 below))

pub all_concatenated : (P : ℕ → Type 0) (xss : List (List ℕ)) → All (All P) xss → All P (concatenation_of xss)
all_concatenated P [] h = All-nil P
all_concatenated P (xs ∷ xss) h = All-append P xs (concatenation_of xss) (All-head (All P) xs xss h) (all_concatenated P xss (All-tail (All P) xs xss h))

-- ---- what each of several names gave

pub each_with : {A B : Type 0} (Q : A → Type 0) (P : B → Type 0) (f : A → Elab B) (xs : List A) (ys : List B)
    → ((x : A) (y : B) → Q x → f x ≡ Ok y → P y) → All Q xs → each f xs ≡ Ok ys → All P ys
each_with {A} {B} Q P f [] ys go h e = subst (λ (zs : List B). All P zs) (ok [] ys e) (All-nil P)
each_with {A} {B} Q P f (x ∷ xs) ys go h e =
    let y = bound (f x) _ ys e in
    let zs = bound (each f xs) _ ys y.then_gave in
    subst (λ (ws : List B). All P ws) (ok (y.x ∷ zs.x) ys zs.then_gave)
    (All-cons P y.x zs.x (go x y.x (All-head Q x xs h) y.gave) (each_with Q P f xs zs.x go (All-tail Q x xs h) zs.gave))

-- what a name gave is among what all gave
abbrev GaveAmong : {A : Type 0} → (A → Elab (List ℕ)) → List ℕ → A → Type 0
GaveAmong f all x = (es : List ℕ) × (f x ≡ Ok es) × All (Contains all) es

each-among : {A : Type 0} (f : A → Elab (List ℕ)) (xs : List A) (ess : List (List ℕ)) → each f xs ≡ Ok ess → All (GaveAmong f (concatenation_of ess)) xs
each-among {A} f [] ess h = All-nil (GaveAmong f (concatenation_of ess))
each-among {A} f (x ∷ xs) ess h =
    let es = bound (f x) _ ess h in
    let rest = bound (each f xs) _ ess es.then_gave in
    let all : List ℕ = es.x ++ concatenation_of rest.x in
    subst (λ (zs : List (List ℕ)). All (GaveAmong f (concatenation_of zs)) (x ∷ xs)) (ok (es.x ∷ rest.x) ess rest.then_gave)
    (All-cons (GaveAmong f all) x xs
    (es.x, es.gave, All-weaker (Contains es.x) (Contains all) (λ e c. Contains-append_left es.x (concatenation_of rest.x) e c) es.x (All-contains_itself es.x))
    (All-weaker (GaveAmong f (concatenation_of rest.x)) (GaveAmong f all)
    (λ y g. (g.0, g.1, All-weaker (Contains (concatenation_of rest.x)) (Contains all) (λ e c. Contains-append_right es.x (concatenation_of rest.x) e c) g.0 g.2)) xs (each-among f xs rest.x rest.gave)))

pub among_prefixes : (here : Site) (ps : List SignalPart) (ess : List (List ℕ)) → each (λ p. place_elements here (prefix p)) ps ≡ Ok ess
    → All (GaveAmong (λ p. place_elements here (prefix p)) (concatenation_of ess)) ps
among_prefixes here ps ess h = each-among (λ p. place_elements here (prefix p)) ps ess h

-- the whole of a signal is the same, at whatever byte it would be refused
part-at : (here : Integers) (at from : ℕ) (kinds : List ObjectKind) (n : ℕ) (es : List ℕ) → part_elements here at from kinds n u.whole ≡ Ok es → part_elements here 0 from kinds n u.whole ≡ Ok es
unfolding places
part-at here at from kinds n es h = by (slice_get kinds n) h
  where
    f : ℕ → ℕ
    f p = from + elements_count (take n kinds) + p

    by : (o : Option ObjectKind) → (item_or Index at o >>= λ k. places here at k u.whole >>= λ ps. given (map f ps)) ≡ Ok es
        → (item_or Index 0 o >>= λ k. places here 0 k u.whole >>= λ ps. given (map f ps)) ≡ Ok es
    by (Some k) g = g
    by None g = absurd cc

whole-at : (here : Site) (at : ℕ) (y : Signal) (es : List ℕ) → signal_elements here at y u.whole ≡ Ok es → place_elements here (whole_of y) ≡ Ok es
unfolding signal_elements
whole-at here at (u.port n) es h = part-at here.integers at 0 here.ports n es h
whole-at here at (u.Signal.signal n) es h = part-at here.integers at (elements_count here.ports) here.signals n es h

-- ---- what a body assigns

module _ (here : Site) (vs : List ObjectKind) (P : ℕ → Type 0) where
  -- the longest static prefix of a name has only such elements
  abbrev Driven : SignalPart → Type 0
  Driven p = (ds : List ℕ) × (place_elements here (prefix p) ≡ Ok ds) × All P ds

  name-assigned : (loops : List ℤ) (p : SignalPart) (es : List ℕ) → Driven p → place_elements (within here loops vs) p ≡ Ok es → All P es
  name-assigned loops p es h g = All-weaker (Contains h.0) P (λ e c. All-contains P h.0 e h.2 c) es (name_in_prefix here loops vs p es h.0 g h.1)

  single-assigns : (y : bodies.Stmt) (body : bodies.Stmts) → one y ≡ body → StmtAssigns P y → Assigns P body
  single-assigns y body e h = subst (Assigns P) e (h, tt)

  followed-assigns : (a c : bodies.Stmts) → Assigns P a → Assigns P c → Assigns P (bodies.followed_by a c)
  followed-assigns bodies.done c h k = k
  followed-assigns (bodies.step y a) c h k = (h.0, followed-assigns a c h.1 k)

  joined-assigns : (ss : List bodies.Stmts) → All (Assigns P) ss → Assigns P (joined_bodies ss)
  joined-assigns [] h = tt
  joined-assigns (y ∷ ss) h = followed-assigns y (joined_bodies ss) (All-head (Assigns P) y ss h) (joined-assigns ss (All-tail (Assigns P) y ss h))

  mutual
    unfolding statement

    statement-assigns : (y : s.Statement) (loops : List ℤ) (body : bodies.Stmts) → All Driven (statement_names Assigned y) → statement (within here loops vs) y ≡ Ok body → Assigns P body
    statement-assigns s.null_of loops body h m = subst (Assigns P) (ok (one bodies.null_of) body m) (tt, tt)
    statement-assigns (s.assign p g) loops body h m =
        let es = bound (place_elements (within here loops vs) p) _ body m in
        let v = bound (given_to (within here loops vs) p.at (signal_kind (within here loops vs) p.signal) (length es.x) g) _ body es.then_gave in
        subst (Assigns P) (ok (one (bodies.assign es.x v.x)) body v.then_gave) (name-assigned loops p es.x (All-head Driven p [] h) es.gave, tt)
    statement-assigns (s.set at n part g) loops body h m =
        let es = bound (variable_elements (within here loops vs) at n part) _ body m in
        let v = bound (given_to (within here loops vs) at (slice_get (within here loops vs).variables n) (length es.x) g) _ body es.then_gave in
        subst (Assigns P) (ok (one (bodies.set es.x v.x)) body v.then_gave) (tt, tt)
    statement-assigns (s.assign_in at y c g) loops body h m =
        let es = bound (signal_elements (within here loops vs) at y u.whole) _ body m in
        let b = bound (signal_bounds (within here loops vs) at y) _ body es.then_gave in
        let r = bound (x.chosen_row (within here loops vs) at b.x c) _ body b.then_gave in
        let v = bound (elements_given (within here loops vs) at r.x.spacing.len g) _ body r.then_gave in
        single-assigns (bodies.assign_at r.x.index r.x.spacing es.x v.x) body (ok (one (bodies.assign_at r.x.index r.x.spacing es.x v.x)) body v.then_gave)
        (name-assigned loops (whole_of y) es.x (All-head Driven (whole_of y) [] h) (whole-at (within here loops vs) at y es.x es.gave))
    statement-assigns (s.set_in at n c g) loops body h m =
        let es = bound (variable_elements (within here loops vs) at n u.whole) _ body m in
        let b = bound (variable_bounds (within here loops vs) at n) _ body es.then_gave in
        let r = bound (x.chosen_row (within here loops vs) at b.x c) _ body b.then_gave in
        let v = bound (elements_given (within here loops vs) at r.x.spacing.len g) _ body r.then_gave in
        single-assigns (bodies.set_at r.x.index r.x.spacing es.x v.x) body (ok (one (bodies.set_at r.x.index r.x.spacing es.x v.x)) body v.then_gave) tt
    statement-assigns (s.if_of at bs) loops body h m =
        let cs = bound (branches (within here loops vs) bs) _ body m in
        subst (Assigns P) (ok (one (bodies.if_of cs.x)) body cs.then_gave) (branches-assign bs loops cs.x h cs.gave, tt)
    statement-assigns (s.case_of at (u.Value.computed c) alts) loops body h m =
        let n = bound (x.computed (within here loops vs) at c) _ body m in
        let served = bound (choices_serve (within here loops vs).integers at (may_choose c n.x) n.x alts) _ body n.then_gave in
        let codes : List s.Choice → Elab (List (List ℕ)) = spread (within here loops vs).integers (may_choose c n.x) n.x in
        let cs = bound (alternatives (within here loops vs) codes alts) _ body served.then_gave in
        subst (Assigns P) (ok (one (bodies.case_of (bodies.elements n.x.digits) cs.x)) body cs.then_gave) (alternatives-assign alts loops codes cs.x h cs.gave, tt)
    statement-assigns (s.case_of at v alts) loops body h m =
        let e = bound (x.value (within here loops vs) at v) _ body m in
        let codes : List s.Choice → Elab (List (List ℕ)) = each (choice at (value_width e.x)) in
        let cs = bound (alternatives (within here loops vs) codes alts) _ body e.then_gave in
        subst (Assigns P) (ok (one (bodies.case_of e.x cs.x)) body cs.then_gave) (alternatives-assign alts loops codes cs.x h cs.gave, tt)
    statement-assigns (s.for_of at r inner) loops body h m =
        let is = bound (turns (within here loops vs).integers at r) _ body m in
        let ss = bound (each (λ j. statements (in_loop (within here loops vs) j) inner) is.x) _ body is.then_gave in
        subst (Assigns P) (ok (joined_bodies ss.x) body ss.then_gave)
        (joined-assigns ss.x (each-all (Assigns P) (λ j. statements (in_loop (within here loops vs) j) inner) is.x ss.x
        (λ j y e. statements-assign inner (loops ++ j ∷ []) y h e) ss.gave))

    statements-assign : (ys : s.Statements) (loops : List ℤ) (body : bodies.Stmts) → All Driven (targets ys) → statements (within here loops vs) ys ≡ Ok body → Assigns P body
    statements-assign s.done loops body h m = subst (Assigns P) (ok bodies.done body m) tt
    statements-assign (s.step y ys) loops body h m =
        let a = bound (statement (within here loops vs) y) _ body m in
        let c = bound (statements (within here loops vs) ys) _ body a.then_gave in
        subst (Assigns P) (ok (bodies.followed_by a.x c.x) body c.then_gave)
        (followed-assigns a.x c.x (statement-assigns y loops a.x (all_left Driven (statement_names Assigned y) (targets ys) h) a.gave)
        (statements-assign ys loops c.x (all_right Driven (statement_names Assigned y) (targets ys) h) c.gave))

    branches-assign : (bs : s.Branches) (loops : List ℤ) (cs : bodies.Branches) → All Driven (branches_names Assigned bs) → branches (within here loops vs) bs ≡ Ok cs → BranchesAssign P cs
    branches-assign s.no_else loops cs h m = subst (BranchesAssign P) (ok bodies.no_else cs m) tt
    branches-assign (s.otherwise ys) loops cs h m =
        let a = bound (statements (within here loops vs) ys) _ cs m in
        subst (BranchesAssign P) (ok (bodies.otherwise a.x) cs a.then_gave) (statements-assign ys loops a.x h a.gave)
    branches-assign (s.branch t ys bs) loops cs h m =
        let c = bound (x.test (within here loops vs) t) _ cs m in
        let a = bound (statements (within here loops vs) ys) _ cs c.then_gave in
        let rest = bound (branches (within here loops vs) bs) _ cs a.then_gave in
        subst (BranchesAssign P) (ok (bodies.branch c.x a.x rest.x) cs rest.then_gave)
        (statements-assign ys loops a.x (all_left Driven (targets ys) (branches_names Assigned bs) h) a.gave, branches-assign bs loops rest.x (all_right Driven (targets ys) (branches_names Assigned bs) h) rest.gave)

    alternatives-assign : (alts : s.Alternatives) (loops : List ℤ) (codes : List s.Choice → Elab (List (List ℕ))) (cs : bodies.Alternatives) → All Driven (alternatives_names Assigned alts)
        → alternatives (within here loops vs) codes alts ≡ Ok cs → AlternativesAssign P cs
    alternatives-assign (s.others ys) loops codes cs h m =
        let a = bound (statements (within here loops vs) ys) _ cs m in
        subst (AlternativesAssign P) (ok (bodies.others a.x) cs a.then_gave) (statements-assign ys loops a.x h a.gave)
    alternatives-assign (s.complete choices ys) loops codes cs h m =
        let a = bound (statements (within here loops vs) ys) _ cs m in
        subst (AlternativesAssign P) (ok (bodies.others a.x) cs a.then_gave) (statements-assign ys loops a.x h a.gave)
    alternatives-assign (s.alternative choices ys alts) loops codes cs h m =
        let c = bound (codes choices) _ cs m in
        let a = bound (statements (within here loops vs) ys) _ cs c.then_gave in
        let rest = bound (alternatives (within here loops vs) codes alts) _ cs a.then_gave in
        subst (AlternativesAssign P) (ok (bodies.alternative c.x a.x rest.x) cs rest.then_gave)
        (statements-assign ys loops a.x (all_left Driven (targets ys) (alternatives_names Assigned alts) h) a.gave, alternatives-assign alts loops codes rest.x (all_right Driven (targets ys) (alternatives_names Assigned alts) h) rest.gave)

pub body_assigns : (here : Site) (vs : List ObjectKind) (P : ℕ → Type 0) (ys : s.Statements) (loops : List ℤ) (body : bodies.Stmts)
    → All (λ (p : SignalPart). (ds : List ℕ) × (place_elements here (prefix p) ≡ Ok ds) × All P ds) (targets ys) → statements (within here loops vs) ys ≡ Ok body → Assigns P body
body_assigns here vs P ys loops body h m = statements-assign here vs P ys loops body h m

-- ---- no target is an in port

abbrev IsDriven : Inside → SignalPart → Type 0
IsDriven i p = is_driven i p.signal ≡ true

mutual
  unfolding statement_fits

  statement-targets : (y : s.Statement) (i : Inside) → statement_fits i y ≡ true → All (IsDriven i) (statement_names Assigned y)
  statement-targets (s.assign p g) i k = All-cons (IsDriven i) p [] (and_parts (is_driven i p.signal) (given_fits_target i (place_shape i p) g) k).0 (All-nil (IsDriven i))
  statement-targets (s.assign_in at y c g) i k =
      let both = and_parts (is_driven i y && has_vector (signal_form i y) && chosen_fits i c) (given_fits i (chosen_shape c) g) k in
      let first = and_parts (is_driven i y && has_vector (signal_form i y)) (chosen_fits i c) both.0 in
      All-cons (IsDriven i) (whole_of y) [] (and_parts (is_driven i y) (has_vector (signal_form i y)) first.0).0 (All-nil (IsDriven i))
  statement-targets (s.if_of at bs) i k = branches-targets bs i k
  statement-targets (s.case_of at v alts) i k = alternatives-targets alts i (value_shape i v) (and_parts (selector_fits i v) (alternatives_fit i (value_shape i v) alts) k).1
  statement-targets (s.for_of at r inner) i k = statements-targets inner (within_loop i) (and_parts (range_fits i r) (statements_fit (within_loop i) inner) k).1
  statement-targets _ i k = All-nil (IsDriven i)

  statements-targets : (ys : s.Statements) (i : Inside) → statements_fit i ys ≡ true → All (IsDriven i) (targets ys)
  statements-targets s.done i k = All-nil (IsDriven i)
  statements-targets (s.step y ys) i k =
      let both = and_parts (statement_fits i y) (statements_fit i ys) k in
      All-append (IsDriven i) (statement_names Assigned y) (targets ys) (statement-targets y i both.0) (statements-targets ys i both.1)

  branches-targets : (bs : s.Branches) (i : Inside) → branches_fit i bs ≡ true → All (IsDriven i) (branches_names Assigned bs)
  branches-targets s.no_else i k = All-nil (IsDriven i)
  branches-targets (s.otherwise ys) i k = statements-targets ys i k
  branches-targets (s.branch t ys bs) i k =
      let both = and_parts (test_fits i t && statements_fit i ys) (branches_fit i bs) k in
      All-append (IsDriven i) (targets ys) (branches_names Assigned bs) (statements-targets ys i (and_parts (test_fits i t) (statements_fit i ys) both.0).1) (branches-targets bs i both.1)

  alternatives-targets : (alts : s.Alternatives) (i : Inside) (o : Option Shape) → alternatives_fit i o alts ≡ true → All (IsDriven i) (alternatives_names Assigned alts)
  alternatives-targets (s.others ys) i o k = statements-targets ys i k
  alternatives-targets (s.complete cs ys) i o k = statements-targets ys i (and_parts (list_all (choice_fits i o) cs) (statements_fit i ys) k).1
  alternatives-targets (s.alternative cs ys alts) i o k =
      let both = and_parts (list_all (choice_fits i o) cs && statements_fit i ys) (alternatives_fit i o alts) k in
      All-append (IsDriven i) (targets ys) (alternatives_names Assigned alts) (statements-targets ys i (and_parts (list_all (choice_fits i o) cs) (statements_fit i ys) both.0).1) (alternatives-targets alts i o both.1)

pub targets_are_driven : (ys : s.Statements) (i : Inside) → statements_fit i ys ≡ true → All (λ (p : SignalPart). is_driven i p.signal ≡ true) (targets ys)
targets_are_driven ys i k = statements-targets ys i k
