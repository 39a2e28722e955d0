-- A process whose variables are kept is in range, among the nets of these.
use Rattle.std.proofs.Common.{◌≡◌, ℕ, zero, suc, ◌+◌, ◌<◌, ◌≤◌, Bool, true, false, ◌==◌, List, [], ◌∷◌, ◌++◌, Option, Some, None, length, map, replicate, flat_map, slice_get, slice_index, slice_index_or, ◌-◌}
use Rattle.std.proofs.Common.{refl, sym, ap, ◌∙◌, subst, arith, ◌⊎◌, inl, inr, All, Contains}
use Rattle.std.specs.Option.{option_map}
use Rattle.std.proofs.lemmas.Bool.{and_parts, cases_Bool, cases_eq, cases_lt, eq-eqb}
use Rattle.std.specs.List.{list_any}
use Rattle.std.proofs.lemmas.List.{length-map, length-append, length-replicate, map-append, get_or_append_left, get_or-append_right, get_or_past}
use Rattle.std.proofs.lemmas.List.Elements.{All-map, All-append, All-weaker, All-contains, All-nil, All-cons, All-head, All-tail, All-replicate, Contains-get_or, Contains-append_left, Contains-append_right, Contains-append_cases}
use Rattle.std.proofs.lemmas.Option.{slice_get-map, slice_get_within, slice_get-get_or, get_or_from_slice_get}
use Rattle.rtl_model.specs.basics.Lists.{is_empty}
use Rattle.rtl_model.specs.bodies.Body.{Test, null_of, assign, set, assign_at, set_at, if_of, case_of, Stmts, done, step, no_else, branch, followed_by}
use Rattle.rtl_model.specs.bodies.Assigns.{is_element, must_assign}
use Rattle.rtl_model.specs.bodies.Fits.{Scope, DrivesType, FitsStmt, Fits}
use Rattle.rtl_model.specs.bodies.Leaves.{value_leaves}
use Rattle.rtl_model.specs.bodies.Types.{ElementType, nine_valued, enumeration, limit_of, IsByte, HasType, KeepsTypes}
use Rattle.rtl_model.specs.bodies.Values.{Seen}
use Rattle.rtl_model.specs.nets.FlatNetlist.{FlatDriver, FlatVariable, FlatProcess, ProcessInRange, DriverInRange, VariableInRange, element_starts, element_types, targets, scope_of, FlatNetlist, IsInRange}
use Rattle.rtl_model.proofs.basics.Lists.{Contains-none, Contains-one, Contains-first, contains_in}
use Rattle.rtl_model.proofs.bodies.Sequences.{sequences_add_up}
use Rattle.rtl_variable_registers.specs.Bodies.{KeptVariable, of_nets, variable_value, reset_branch, with_branches, is_register, keeps_element, recalled, remembered, at_edge, at_reset}
use Rattle.rtl_variable_registers.specs.Known.{at_start, with_constants}
use Rattle.rtl_variable_registers.specs.Nets.{kept_processes, kept_flat}
use Rattle.rtl_variable_registers.specs.Processes.{kept_variables, kept_elements, kept_starts, kept_types, rank_in, drivers_from, with_nets, kept_process}
use Rattle.rtl_variable_registers.proofs.Alike.{covered, kept_is}
use Rattle.rtl_variable_registers.proofs.Fitting.{Extends, test_fits, body_fits, stmt_fits, value_fits}
use Rattle.rtl_variable_registers.proofs.Putting.{eqb_other}
use Rattle.rtl_variable_registers.proofs.Known.{are_constants, made_constants, assigns_same, constants_fit}
use Rattle.rtl_variable_registers.proofs.Recalling.{all_elements}
use Rattle.rtl_variable_registers.proofs.Resetting.{told, or_left, or_right}
use Rattle.rtl_variable_registers.proofs.Running.{IsTyped, AreTyped, typed_within}
use Rattle.rtl_variable_registers.proofs.Shapes.{ByReset, reset_first, reset_behind}
use Rattle.rtl_variable_registers.proofs.Staying.{no_register_stays}
use Rattle.rtl_variable_registers.proofs.Tables.{typed_among, place_within}

-- ---- lists

pub all_of : {X : Type 0} (P : X → Type 0) (xs : List X) → ((x : X) → Contains xs x → P x) → All P xs
all_of P xs h k d l = h (slice_index_or xs k d) (Contains-get_or xs k d l)

pub get_left : {X : Type 0} (xs ys : List X) (k : ℕ) (x : X) → slice_get xs k ≡ Some x → slice_get (xs ++ ys) k ≡ Some x
get_left [] ys k x h = absurd cc
get_left (y ∷ xs) ys zero x h = h
get_left (y ∷ xs) ys (suc k) x h = get_left xs ys k x h

pub get_right : {X : Type 0} (xs ys : List X) (k : ℕ) → slice_get (xs ++ ys) (length xs + k) ≡ slice_get ys k
get_right [] ys k = let s : 0 + k ≡ k = omega arith in ap (slice_get ys) s
get_right (x ∷ xs) ys k =
    let s : suc (length xs) + k ≡ suc (length xs + k) = omega arith in
    ap (slice_get (x ∷ (xs ++ ys))) s ∙ get_right xs ys k

pub at_place : (ks : List ℕ) (e : ℕ) → Contains ks e → slice_get ks (rank_in ks e) ≡ Some e
at_place [] e c = absurd (Contains-none e c)
at_place (k ∷ ks) e c = go (λ x. at_place ks e x) (cases_eq k e)
  where
    by : (k ≡ e → ⊥) → Contains (k ∷ []) e ⊎ Contains ks e → Contains ks e
    by n (inl i) = absurd (n (Contains-one k e i))
    by n (inr i) = i

    go : (Contains ks e → slice_get ks (rank_in ks e) ≡ Some e) → (k ≡ e) ⊎ (k ≡ e → ⊥) → slice_get (k ∷ ks) (rank_in (k ∷ ks) e) ≡ Some e
    go rest (inl p) = rw (eq-eqb k e p) (ap (λ (n : ℕ). Some n) p)
    go rest (inr p) = rw (eqb_other k e p) (rest (by p (Contains-append_cases (k ∷ []) ks e c)))

-- the drivers of nets in a row
pub nets_from : (first : ℕ) (vs : List ℕ) (k : ℕ) → k < length vs → slice_get (map (λ (d : FlatDriver). d.net) (drivers_from first vs)) k ≡ Some (first + k)
nets_from first [] k l = absurd (omega arith)
nets_from first (v ∷ vs) zero l = let s : first ≡ first + 0 = omega arith in ap (λ (n : ℕ). Some n) s
nets_from first (v ∷ vs) (suc k) l = let s : suc first + k ≡ first + suc k = omega arith in nets_from (suc first) vs k (omega arith) ∙ ap (λ (n : ℕ). Some n) s

-- ---- types of lists, side by side

pub get_left_back : {X : Type 0} (xs ys : List X) (k : ℕ) → k < length xs → slice_get (xs ++ ys) k ≡ slice_get xs k
get_left_back [] ys k l = absurd (omega arith)
get_left_back (x ∷ xs) ys zero l = refl
get_left_back (x ∷ xs) ys (suc k) l = get_left_back xs ys k (omega arith)

keeps_append : (xs us : List ElementType) (ys ws : List ℕ) → KeepsTypes xs ys → KeepsTypes us ws → length xs ≡ length ys → KeepsTypes (xs ++ us) (ys ++ ws)
keeps_append xs us ys ws h k s place t g = go (cases_lt place (length xs))
  where
    go : (place < length xs) ⊎ (length xs ≤ place) → slice_index (ys ++ ws) place < limit_of t
    go (inl l) = rw (get_or_append_left ys ws 0 place (omega arith)) (h place t (sym (get_left_back xs us place l) ∙ g))
    go (inr l) =
        let j : place ≡ length xs + (place - length xs) = omega arith in
        rw (get_or-append_right ys ws (length xs) place 0 (sym s) l)
        (k (place - length xs) t (sym (get_right xs us (place - length xs)) ∙ sym (ap (slice_get (xs ++ us)) j) ∙ g))

replicated : (n : ℕ) (t : ElementType) (k : ℕ) (u : ElementType) → slice_get (replicate n t) k ≡ Some u → (k < n) × (t ≡ u)
replicated zero t k u h = absurd cc
replicated (suc n) t zero u h = (omega arith, let s : t ≡ u = cc in s)
replicated (suc n) t (suc k) u h = let r = replicated n t k u h in (omega (arith, r.0), r.1)

keeps_replicate : (t : ElementType) (xs : List ℕ) → All (λ x. x < limit_of t) xs → KeepsTypes (replicate (length xs) t) xs
keeps_replicate t xs h place u g = let r = replicated (length xs) t place u g in subst (λ (w : ElementType). slice_index xs place < limit_of w) r.1 (h place 0 r.0)

pub variables_typed : (vs : List FlatVariable) → All VariableInRange vs → KeepsTypes (element_types vs) (element_starts vs)
variables_typed [] h = λ place t g. absurd cc
variables_typed (v ∷ vs) h =
    keeps_append (replicate (length v.starts) v.type_of) (element_types vs) v.starts (element_starts vs)
    (keeps_replicate v.type_of v.starts (All-head VariableInRange v vs h).starts) (variables_typed vs (All-tail VariableInRange v vs h)) (length-replicate (length v.starts) v.type_of)

bytes_typed : (vs : List FlatVariable) → All VariableInRange vs → All IsByte (element_types vs)
bytes_typed [] h = All-nil IsByte
bytes_typed (v ∷ vs) h =
    All-append IsByte (replicate (length v.starts) v.type_of) (element_types vs) (All-replicate IsByte (length v.starts) v.type_of (All-head VariableInRange v vs h).type_fits) (bytes_typed vs (All-tail VariableInRange v vs h))

nine_byte : IsByte nine_valued
nine_byte = omega arith

pub no_idle : (n k : ℕ) → slice_index_or (replicate {A = List ℕ} n []) k [] ≡ []
no_idle zero k = refl
no_idle (suc n) zero = refl
no_idle (suc n) (suc k) = no_idle n k

got : {X : Type 0} (xs : List X) (k : ℕ) (x : X) → slice_get xs k ≡ Some x → Contains xs x
got xs k x h = (k, slice_get_within xs k x h, get_or_from_slice_get xs k x x h)

mapped : (f : ℕ → ElementType) (o : Option ℕ) (t : ElementType) → option_map f o ≡ Some t → (e : ℕ) × (o ≡ Some e) × (f e ≡ t)
mapped f None t h = absurd cc
mapped f (Some e) t h = (e, refl, (let s : f e ≡ t = cc in s))

drivers_in_range : (all : List ElementType) (first : ℕ) (vs : List ℕ)
    → ((k : ℕ) → k < length vs → (t : ElementType) × (slice_get all (first + k) ≡ Some t) × (slice_index vs k < limit_of t)) → All (DriverInRange all) (drivers_from first vs)
drivers_in_range all first [] h = All-nil (DriverInRange all)
drivers_in_range all first (v ∷ vs) h =
    let a = h 0 (omega arith) in
    let s : first ≡ first + 0 = omega arith in
    All-cons (DriverInRange all) (record { net = first; start = v }) (drivers_from (suc first) vs) (a.0, ap (slice_get all) s ∙ a.1, a.2)
    (drivers_in_range all (suc first) vs (λ k l. let b = h (suc k) (omega arith) in let z : suc first + k ≡ first + suc k = omega arith in (b.0, ap (slice_get all) z ∙ b.1, b.2)))

-- ---- a process

module _ (types all : List ElementType) (more : (t : ElementType) (n : ℕ) → HasType types t n → HasType all t n) (first : ℕ) (p : FlatProcess)
    (in_range : ProcessInRange types p) (own : (k : ℕ) (t : ElementType) → slice_get (kept_types p) k ≡ Some t → slice_get all (first + k) ≡ Some t) where
  abbrev ks : List ℕ
  ks = kept_elements p

  abbrev vtypes : List ElementType
  vtypes = element_types p.variables

  abbrev net : ℕ → ℕ
  net e = first + rank_in (kept_elements p) e

  abbrev place : ℕ → ℕ
  place e = length p.drivers + rank_in (kept_elements p) e

  abbrev kept : FlatProcess
  kept = with_nets first p

  abbrev large : Scope
  large = scope_of all kept

  pub typed : AreTyped (element_types p.variables) (kept_variables p)
  typed = typed_among (element_types p.variables) (keeps_element p.body) 0 p.variables in_range.variables (λ k. let s : 0 + k ≡ k = omega arith in ap (slice_get (element_types p.variables)) s)

  length_starts : length (kept_starts p) ≡ length (kept_elements p)
  length_starts = length-map (kept_elements p) (slice_index (element_starts p.variables))

  targets_are : targets kept ≡ targets p ++ map (λ (d : FlatDriver). d.net) (drivers_from first (kept_starts p))
  targets_are = map-append (λ (d : FlatDriver). d.net) p.drivers (drivers_from first (kept_starts p))

  extends : Extends (scope_of types p) large
  extends = record {
    nets = more;
    variables = λ t e h. h;
    targets = λ q n h. subst (λ (ns : List ℕ). slice_get ns q ≡ Some n) (sym targets_are) (get_left (targets p) (map (λ (d : FlatDriver). d.net) (drivers_from first (kept_starts p))) q n h);
  }

  net_typed : (t : ElementType) (e : ℕ) → Contains (kept_elements p) e → HasType vtypes t e → HasType all t (net e)
  net_typed t e c h =
      own (rank_in (kept_elements p) e) t
      (slice_get-map (λ d. slice_index_or vtypes d nine_valued) (kept_elements p) (rank_in (kept_elements p) e)
      ∙ ap (option_map (λ d. slice_index_or vtypes d nine_valued)) (at_place (kept_elements p) e c)
      ∙ ap (λ (u : ElementType). Some u) (get_or_from_slice_get vtypes e t nine_valued h))

  drives : (t : ElementType) (e : ℕ) → Contains (kept_elements p) e → HasType vtypes t e → DrivesType large t (place e)
  drives t e c h =
      let k = rank_in (kept_elements p) e in
      let s : length p.drivers + k ≡ length (targets p) + k = omega (arith, length-map p.drivers (λ (d : FlatDriver). d.net)) in (
        net e,
        ap (slice_get (targets kept)) s ∙ ap (λ (ns : List ℕ). slice_get ns (length (targets p) + k)) targets_are
            ∙ get_right (targets p) (map (λ (d : FlatDriver). d.net) (drivers_from first (kept_starts p))) k
            ∙ nets_from first (kept_starts p) k (let l = place_within (kept_elements p) e c in let m = length_starts in omega arith),
        net_typed t e c h,
      )

  recalled_fits : (vs : List KeptVariable) → AreTyped vtypes vs → ((e : ℕ) → Contains (all_elements vs) e → Contains (kept_elements p) e) → Fits large (recalled net place vs)
  recalled_fits [] h c = tt
  recalled_fits (v ∷ vs) h c =
      (go v.type_of v.elements (h.0) (λ e k. c e (Contains-append_left v.elements (all_elements vs) e k)), recalled_fits vs h.1 (λ e k. c e (Contains-append_right v.elements (all_elements vs) e k)))
    where
      go : (t : ElementType) (es : List ℕ) → IsTyped vtypes (record { type_of = t; elements = es }) → ((e : ℕ) → Contains es e → Contains (kept_elements p) e) → FitsStmt large (set es (of_nets t (map net es)))
      go nine_valued es h c = (
        nine_valued,
        (rw length-map h.width, All-map (HasType all nine_valued) net es (all_of (λ e. HasType all nine_valued (net e)) es (λ e k. net_typed nine_valued e (c e k) (h.has e k)))),
        sym (length-map es net),
        all_of (HasType vtypes nine_valued) es h.has,
      )
      go (enumeration n) [] h c = absurd (let w = h.width.0 in omega arith)
      go (enumeration n) (e ∷ es) h c =
          (enumeration n, net_typed (enumeration n) e (c e (Contains-first e es)) (h.has e (Contains-first e es)), h.fit.one n refl, all_of (HasType vtypes (enumeration n)) (e ∷ es) h.has)

  remembered_fits : (vs : List KeptVariable) → AreTyped vtypes vs → ((e : ℕ) → Contains (all_elements vs) e → Contains (kept_elements p) e) → Fits large (remembered net place vs)
  remembered_fits [] h c = tt
  remembered_fits (v ∷ vs) h c =
      (go v.type_of v.elements (h.0) (λ e k. c e (Contains-append_left v.elements (all_elements vs) e k)), remembered_fits vs h.1 (λ e k. c e (Contains-append_right v.elements (all_elements vs) e k)))
    where
      go : (t : ElementType) (es : List ℕ) → IsTyped vtypes (record { type_of = t; elements = es }) → ((e : ℕ) → Contains es e → Contains (kept_elements p) e) → FitsStmt large (assign (map place es) (variable_value t es))
      go nine_valued es h c = (
        nine_valued,
        (h.width, all_of (HasType vtypes nine_valued) es h.has),
        length-map es place,
        All-map (DrivesType large nine_valued) place es (all_of (λ e. DrivesType large nine_valued (place e)) es (λ e k. drives nine_valued e (c e k) (h.has e k))),
      )
      go (enumeration n) [] h c = absurd (let w = h.width.0 in omega arith)
      go (enumeration n) (e ∷ es) h c = (
        enumeration n,
        h.has e (Contains-first e es),
        length-map (e ∷ es) place ∙ h.fit.one n refl,
        All-map (DrivesType large (enumeration n)) place (e ∷ es) (all_of (λ d. DrivesType large (enumeration n) (place d)) (e ∷ es) (λ d k. drives (enumeration n) d (c d k) (h.has d k))),
      )

  edge_fits : (s : Stmts) → Fits (scope_of types p) s → Fits large (at_edge net place (kept_variables p) s)
  edge_fits s h =
      ((sequences_add_up (recalled net place (kept_variables p)) (followed_by s (remembered net place (kept_variables p)))).fits large).1
      (recalled_fits (kept_variables p) typed (λ e c. c), ((sequences_add_up s (remembered net place (kept_variables p))).fits large).1 (body_fits (scope_of types p) large extends s h, remembered_fits (kept_variables p) typed (λ e c. c)))

  reset_fits : (a : Stmts) → are_constants a ≡ true → ((e : ℕ) → must_assign (is_element e) a ≡ true → Contains (kept_elements p) e) → Fits (scope_of types p) a → Fits large (at_reset net place a)
  reset_fits done g k h = tt
  reset_fits (step null_of rest) g k h = (tt, reset_fits rest g k h.1)
  reset_fits (step (assign ps v) rest) g k h =
      (stmt_fits (scope_of types p) large extends (assign ps v) h.0, reset_fits rest (and_parts (is_empty (value_leaves v)) (are_constants rest) g).1 (λ e c. k e (or_right (list_any (λ q. false) ps) (must_assign (is_element e) rest) c)) h.1)
  reset_fits (step (set es v) rest) g k h =
      let c = and_parts (is_empty (value_leaves v)) (are_constants rest) g in (
        (
          h.0.0,
          value_fits (scope_of types p) large extends h.0.0 v h.0.1,
          length-map es place ∙ h.0.2,
          All-map (DrivesType large h.0.0) place es (all_of (λ e. DrivesType large h.0.0 (place e)) es
              (λ e i. drives h.0.0 e (k e (or_left (list_any (λ j. j == e) es) (must_assign (is_element e) rest) (contains_in es e i))) (All-contains (HasType vtypes h.0.0) es e h.0.3 i))),
        ),
        reset_fits rest c.1 (λ e i. k e (or_right (list_any (λ j. j == e) es) (must_assign (is_element e) rest) i)) h.1,
      )
  reset_fits (step (assign_at index spacing ps v) rest) g k h = absurd cc
  reset_fits (step (set_at index spacing es v) rest) g k h = absurd cc
  reset_fits (step (if_of bs) rest) g k h = absurd cc
  reset_fits (step (case_of v alts) rest) g k h = absurd cc

  abbrev seen : Seen
  seen = at_start (element_starts p.variables)

  told_fits : {known : ℕ → Bool} (r : Test) (a : Stmts) → ByReset known r a → ((e : ℕ) → must_assign (is_element e) a ≡ true → Contains (kept_elements p) e) → Fits (scope_of types p) a
      → Fits large (told net place seen a)
  told_fits {known} r a x k f =
      reset_fits (with_constants seen a) (made_constants known seen a x.constants) (λ e i. k e (sym (assigns_same (is_element e) seen a) ∙ i))
      (constants_fit (scope_of types p) known seen a (variables_typed p.variables in_range.variables) x.constants f)

  branches_fit : (body : Stmts) → is_register body ≡ true → ((e : ℕ) → must_assign (is_element e) (reset_branch body) ≡ true → Contains (kept_elements p) e) → Fits (scope_of types p) body
      → Fits large (with_branches (told net place seen) (at_edge net place (kept_variables p)) body)
  branches_fit (step (if_of (branch t s no_else)) done) h k f = ((test_fits (scope_of types p) large extends t f.0.0, edge_fits s f.0.1, tt), tt)
  branches_fit (step (if_of (branch r a (branch t s no_else))) done) h k f =
      ((test_fits (scope_of types p) large extends r f.0.0, told_fits r a (reset_first r a t s h).0 k f.0.1, (test_fits (scope_of types p) large extends t f.0.2.0, edge_fits s f.0.2.1, tt)), tt)
  branches_fit (step (if_of (branch t s no_else)) (step (if_of (branch r a no_else)) done)) h k f = (
    (test_fits (scope_of types p) large extends t f.0.0, edge_fits s f.0.1, tt),
    ((test_fits (scope_of types p) large extends r f.1.0.0, told_fits r a (reset_behind t s r a h).0 k f.1.0.1, tt), tt),
  )
  branches_fit body h k f = absurd cc

  -- what a kept element starts with is of its type
  pub starts_typed : KeepsTypes (kept_types p) (kept_starts p)
  starts_typed k t h =
      let (e, g, f) = mapped (λ d. slice_index_or vtypes d nine_valued) (slice_get (kept_elements p) k) t (sym (slice_get-map (λ d. slice_index_or vtypes d nine_valued) (kept_elements p) k) ∙ h) in
      let there : e < length vtypes = typed_within vtypes (kept_variables p) typed e (got (kept_elements p) k e g) in
      let type_is : slice_get vtypes e ≡ Some t = slice_get-get_or vtypes e nine_valued there ∙ ap (λ (u : ElementType). Some u) f in
      let start_is : slice_index (kept_starts p) k ≡ slice_index (element_starts p.variables) e =
      get_or_from_slice_get (kept_starts p) k (slice_index (element_starts p.variables) e) 0
      (slice_get-map (slice_index (element_starts p.variables)) (kept_elements p) k ∙ ap (option_map (slice_index (element_starts p.variables))) g) in
      rw start_is (variables_typed p.variables in_range.variables e t type_is)

  length_kept : length (kept_types p) ≡ length (kept_elements p)
  length_kept = length-map (kept_elements p) (λ e. slice_index_or vtypes e nine_valued)

  new_drivers : All (DriverInRange all) (drivers_from first (kept_starts p))
  new_drivers = drivers_in_range all first (kept_starts p) (λ k l.
      let t = slice_index_or (kept_types p) k nine_valued in
      let h : slice_get (kept_types p) k ≡ Some (slice_index_or (kept_types p) k nine_valued) = slice_get-get_or (kept_types p) k nine_valued (let m = length_kept in let n = length_starts in omega arith) in
      (t, own k t h, starts_typed k t h))

  pub process_in_range : length types ≤ length all → ProcessInRange all (kept_process first p)
  process_in_range longer = go (cases_Bool (is_register p.body))
    where
      old_drivers : All (DriverInRange all) p.drivers
      old_drivers = All-weaker (DriverInRange types) (DriverInRange all) (λ d h. (h.0, more h.0 d.net h.1, h.2)) p.drivers in_range.drivers

      wakes : All (λ n. n < length all) p.wakes
      wakes = All-weaker (λ n. n < length types) (λ n. n < length all) (λ n h. omega arith) p.wakes in_range.wakes

      go : (is_register p.body ≡ true) ⊎ (is_register p.body ≡ false) → ProcessInRange all (kept_process first p)
      go (inl h) = subst (ProcessInRange all) (sym (kept_is first p h)) (record {
        drivers = All-append (DriverInRange all) p.drivers (drivers_from first (kept_starts p)) old_drivers new_drivers;
        wakes = wakes;
        wakes_rise = in_range.wakes_rise;
        variables = in_range.variables;
        body = branches_fit p.body h (covered types p in_range h).1 in_range.body;
      })
      go (inr h) = subst (ProcessInRange all) (sym (no_register_stays first p h).1) (record {
        drivers = old_drivers;
        wakes = wakes;
        wakes_rise = in_range.wakes_rise;
        variables = in_range.variables;
        body = body_fits (scope_of types p) (scope_of all p) (record { nets = more; variables = λ t e i. i; targets = λ q n i. i }) p.body in_range.body;
      })

-- ---- the netlist

pub length_kept_types : (p : FlatProcess) → length (kept_types p) ≡ length (kept_elements p)
length_kept_types p = length-map (kept_elements p) (λ e. slice_index_or (element_types p.variables) e nine_valued)

pub length_kept_starts : (p : FlatProcess) → length (kept_starts p) ≡ length (kept_elements p)
length_kept_starts p = length-map (kept_elements p) (slice_index (element_starts p.variables))

pub all_types : (ps : List FlatProcess) → length (flat_map kept_types ps) ≡ length (flat_map kept_elements ps)
all_types [] = refl
all_types (p ∷ ps) = omega (arith, length-append (kept_types p) (flat_map kept_types ps), length-append (kept_elements p) (flat_map kept_elements ps), all_types ps, length_kept_types p)

pub all_starts : (ps : List FlatProcess) → length (flat_map kept_starts ps) ≡ length (flat_map kept_elements ps)
all_starts [] = refl
all_starts (p ∷ ps) = omega (arith, length-append (kept_starts p) (flat_map kept_starts ps), length-append (kept_elements p) (flat_map kept_elements ps), all_starts ps, length_kept_starts p)

processes_in_range : (types all : List ElementType) → ((t : ElementType) (n : ℕ) → HasType types t n → HasType all t n) → length types ≤ length all
    → (first : ℕ) (ps : List FlatProcess) → All (ProcessInRange types) ps → ((k : ℕ) (t : ElementType) → slice_get (flat_map kept_types ps) k ≡ Some t → slice_get all (first + k) ≡ Some t)
    → All (ProcessInRange all) (kept_processes first ps)
processes_in_range types all more longer first [] h own = All-nil (ProcessInRange all)
processes_in_range types all more longer first (p ∷ ps) h own =
    All-cons (ProcessInRange all) (kept_process first p) (kept_processes (first + length (kept_elements p)) ps)
    (process_in_range types all more first p (All-head (ProcessInRange types) p ps h) (λ k t g. own k t (get_left (kept_types p) (flat_map kept_types ps) k t g)) longer)
    (processes_in_range types all more longer (first + length (kept_elements p)) ps (All-tail (ProcessInRange types) p ps h) (λ k t g. later k t g))
  where
    later : (k : ℕ) (t : ElementType) → slice_get (flat_map kept_types ps) k ≡ Some t → slice_get all (first + length (kept_elements p) + k) ≡ Some t
    later k t g =
        let s : first + length (kept_elements p) + k ≡ first + (length (kept_types p) + k) = omega (arith, length_kept_types p) in
        ap (slice_get all) s ∙ own (length (kept_types p) + k) t (get_right (kept_types p) (flat_map kept_types ps) k ∙ g)

kept_typed : (types : List ElementType) (ps : List FlatProcess) → All (ProcessInRange types) ps → KeepsTypes (flat_map kept_types ps) (flat_map kept_starts ps)
kept_typed types [] h = λ k t g. absurd cc
kept_typed types (p ∷ ps) h =
    keeps_append (kept_types p) (flat_map kept_types ps) (kept_starts p) (flat_map kept_starts ps)
    (starts_typed types (types ++ kept_types p) (λ t n g. get_left types (kept_types p) n t g) (length types) p (All-head (ProcessInRange types) p ps h) (λ k t g. get_right types (kept_types p) k ∙ g)) (kept_typed types ps (All-tail (ProcessInRange types) p ps h))
    (length_kept_types p ∙ sym (length_kept_starts p))

kept_bytes : (types : List ElementType) (ps : List FlatProcess) → All (ProcessInRange types) ps → All IsByte (flat_map kept_types ps)
kept_bytes types [] h = All-nil IsByte
kept_bytes types (p ∷ ps) h =
    All-append IsByte (kept_types p) (flat_map kept_types ps)
    (All-map IsByte (λ e. slice_index_or (element_types p.variables) e nine_valued) (kept_elements p) (λ k d l. at (slice_index_or (kept_elements p) k d)))
    (kept_bytes types ps (All-tail (ProcessInRange types) p ps h))
  where
    at : (e : ℕ) → IsByte (slice_index_or (element_types p.variables) e nine_valued)
    at e = by (cases_lt e (length (element_types p.variables)))
      where
        by : (e < length (element_types p.variables)) ⊎ (length (element_types p.variables) ≤ e) → IsByte (slice_index_or (element_types p.variables) e nine_valued)
        by (inl l) = bytes_typed p.variables (All-head (ProcessInRange types) p ps h).variables e nine_valued l
        by (inr l) = subst IsByte (sym (get_or_past (element_types p.variables) e nine_valued l)) nine_byte

pub kept_in_range : (net : FlatNetlist) → IsInRange net → IsInRange (kept_flat net)
kept_in_range net h = record {
  types_fit = All-append IsByte net.types (flat_map kept_types net.processes) h.types_fit (kept_bytes net.types net.processes h.processes);
  each_starts = omega (arith, length-append net.start (flat_map kept_starts net.processes), length-append net.types (flat_map kept_types net.processes), h.each_starts, all_types net.processes, all_starts net.processes);
  each_has_idle = omega (arith, length-append net.idle (replicate {A = List ℕ} (length (flat_map kept_elements net.processes)) []), length-replicate {A = List ℕ} (length (flat_map kept_elements net.processes)) [], length-append net.types (flat_map kept_types net.processes), h.each_has_idle, all_types net.processes);
  starts = keeps_append net.types (flat_map kept_types net.processes) net.start (flat_map kept_starts net.processes) h.starts (kept_typed net.types net.processes h.processes) (sym h.each_starts);
  idle = idle;
  inputs_rise = h.inputs_rise;
  inputs = All-weaker (HasType net.types nine_valued) (HasType (net.types ++ flat_map kept_types net.processes) nine_valued) (more nine_valued) net.inputs h.inputs;
  processes = processes_in_range net.types (net.types ++ flat_map kept_types net.processes) more (omega (arith, length-append net.types (flat_map kept_types net.processes))) (length net.types) net.processes h.processes
      (λ k t g. get_right net.types (flat_map kept_types net.processes) k ∙ g);
}
  where
    more : (t : ElementType) (n : ℕ) → HasType net.types t n → HasType (net.types ++ flat_map kept_types net.processes) t n
    more t n g = get_left net.types (flat_map kept_types net.processes) n t g

    idle : (n : ℕ) (t : ElementType) → HasType (net.types ++ flat_map kept_types net.processes) t n
        → All (λ v. v < limit_of t) (slice_index_or (net.idle ++ replicate (length (flat_map kept_elements net.processes)) []) n [])
    idle n t g = by (cases_lt n (length net.types))
      where
        by : (n < length net.types) ⊎ (length net.types ≤ n) → All (λ v. v < limit_of t) (slice_index_or (net.idle ++ replicate (length (flat_map kept_elements net.processes)) []) n [])
        by (inl l) =
            subst (λ (vs : List ℕ). All (λ v. v < limit_of t) vs) (sym (get_or_append_left net.idle (replicate (length (flat_map kept_elements net.processes)) []) [] n (omega (arith, h.each_has_idle))))
            (h.idle n t (sym (get_left_back net.types (flat_map kept_types net.processes) n l) ∙ g))
        by (inr l) =
            subst (λ (vs : List ℕ). All (λ v. v < limit_of t) vs)
            (sym (get_or-append_right net.idle (replicate (length (flat_map kept_elements net.processes)) []) (length net.idle) n [] refl (omega (arith, h.each_has_idle)) ∙ no_idle (length (flat_map kept_elements net.processes)) (n - length net.idle)))
            (All-nil (λ v. v < limit_of t))
