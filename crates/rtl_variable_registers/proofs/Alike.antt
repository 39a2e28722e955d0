-- Each run of a register does what it does where its variables keep their values.
use Rattle.std.proofs.Common.{◌≡◌, ℕ, ◌+◌, ◌<◌, Bool, true, false, cond, not, ◌&&◌, ◌||◌, ◌==◌, List, [], ◌∷◌, ◌++◌, length, slice_get, slice_index, unwrap_or, ◌⊎◌, inl, inr}
use Rattle.std.proofs.Common.{refl, sym, ap, ◌∙◌, arith, Contains}
use Rattle.std.specs.List.{list_any}
use Rattle.std.proofs.lemmas.Bool.{and_parts, or_cases}
use Rattle.std.proofs.lemmas.List.{length-map}
use Rattle.std.proofs.lemmas.List.Elements.{All-contains}
use Rattle.std.proofs.lemmas.Option.{slice_get_within}
use Rattle.rtl_model.specs.basics.Valuations.{AgreeOn}
use Rattle.rtl_model.specs.bodies.Assigns.{is_element, must_assign, stmts_assign}
use Rattle.rtl_model.specs.bodies.Body.{null_of, assign, set, assign_at, set_at, if_of, case_of, Stmts, done, step, no_else, branch}
use Rattle.rtl_model.specs.bodies.Effect.{effect}
use Rattle.rtl_model.specs.bodies.Fits.{Scope, DrivesType, Fits}
use Rattle.rtl_model.specs.bodies.Laws.{SeesTypes}
use Rattle.rtl_model.specs.bodies.Leaves.{Leaf, leaves}
use Rattle.rtl_model.specs.bodies.Reads.{reads, events, test_reads, test_events}
use Rattle.rtl_model.specs.bodies.Stored.{test_looks_at, stores_element}
use Rattle.rtl_model.specs.bodies.Types.{ElementType, HasType}
use Rattle.rtl_model.specs.bodies.Values.{Seen}
use Rattle.rtl_model.specs.bodies.Variables.{after_stmt}
use Rattle.rtl_model.specs.nets.FlatNetlist.{FlatDriver, FlatProcess, ProcessInRange, element_types, element_starts, scope_of}
use Rattle.rtl_model.proofs.basics.Lists.{in_contains}
use Rattle.rtl_model.proofs.bodies.There.{each_read_is_there}
use Rattle.rtl_variable_registers.specs.Bodies.{KeptVariable, reset_branch, with_branches, without_reset, is_register, keeps_element, at_edge}
use Rattle.rtl_variable_registers.specs.Known.{is_known, gives_constants, never_set, at_start, with_constants}
use Rattle.rtl_variable_registers.specs.Laws.{SeesKept, RunsAlike, EachRunsAlike}
use Rattle.rtl_variable_registers.specs.Processes.{kept_variables, kept_elements, rank_in, with_nets, kept_process}
use Rattle.rtl_variable_registers.proofs.Known.{body_unset, not_set, unset_first, knows_more, gives_bare}
use Rattle.rtl_variable_registers.proofs.Recalling.{all_elements}
use Rattle.rtl_variable_registers.proofs.Resetting.{told, AreBelow, or_left, or_right}
use Rattle.rtl_variable_registers.proofs.Running.{Runs, BodiesAlike, none_alike, branch_alike, if_alike, edge_met, reset_met, edge_alike, reset_alike, behind_alike, agree_left, agree_right}
use Rattle.rtl_variable_registers.proofs.Shapes.{ByReset, edge_alone, reset_first, reset_behind}
use Rattle.rtl_variable_registers.proofs.Tables.{typed_among, length_types, covers_among, place_apart}
use Rattle.rtl_variable_registers.proofs.Values.{Agree}

-- ---- what fits

pub places_below : (scope : Scope) (known : ℕ → Bool) (seen : Seen) (a : Stmts) → Fits scope a → gives_constants known a ≡ true → AreBelow (length scope.targets) (with_constants seen a)
places_below scope known seen done f g = tt
places_below scope known seen (step null_of rest) f g = places_below scope known seen rest f.1 g
places_below scope known seen (step (assign ps v) rest) f g = (
  λ q c. let d = All-contains (DrivesType scope f.0.0) ps q f.0.3 c in slice_get_within scope.targets q d.0 d.1,
  places_below scope known seen rest f.1 (and_parts (is_known known v) (gives_constants known rest) g).1,
)
places_below scope known seen (step (set es v) rest) f g =
    places_below scope (knows_more known es) (after_stmt seen (set es v)) rest f.1 (and_parts (is_known known v) (gives_constants (knows_more known es) rest) g).1
places_below scope known seen (step (assign_at index spacing ps v) rest) f g = absurd cc
places_below scope known seen (step (set_at index spacing es v) rest) f g = absurd cc
places_below scope known seen (step (if_of bs) rest) f g = absurd cc
places_below scope known seen (step (case_of v alts) rest) f g = absurd cc

pub sets_within : (scope : Scope) (known : ℕ → Bool) (a : Stmts) → Fits scope a → gives_constants known a ≡ true → (e : ℕ) → must_assign (is_element e) a ≡ true → e < length scope.variables
sets_within scope known done f g e h = absurd cc
sets_within scope known (step null_of rest) f g e h = sets_within scope known rest f.1 g e h
sets_within scope known (step (assign ps v) rest) f g e h =
    go (λ k. sets_within scope known rest f.1 (and_parts (is_known known v) (gives_constants known rest) g).1 e k) (or_cases (list_any (λ place. false) ps) (must_assign (is_element e) rest) h)
  where
    never : (qs : List ℕ) → list_any (λ place. false) qs ≡ true → ⊥
    never [] k = cc
    never (q ∷ qs) k = never qs k

    go : (must_assign (is_element e) rest ≡ true → e < length scope.variables) → (list_any (λ place. false) ps ≡ true) ⊎ (must_assign (is_element e) rest ≡ true) → e < length scope.variables
    go k (inl n) = absurd (never ps n)
    go k (inr n) = k n
sets_within scope known (step (set es v) rest) f g e h =
    go (λ k. sets_within scope (knows_more known es) rest f.1 (and_parts (is_known known v) (gives_constants (knows_more known es) rest) g).1 e k)
    (or_cases (list_any (λ k. k == e) es) (must_assign (is_element e) rest) h)
  where
    go : (must_assign (is_element e) rest ≡ true → e < length scope.variables) → (list_any (λ k. k == e) es ≡ true) ⊎ (must_assign (is_element e) rest ≡ true) → e < length scope.variables
    go k (inl n) = slice_get_within scope.variables e f.0.0 (All-contains (HasType scope.variables f.0.0) es e f.0.3 (in_contains es e n))
    go k (inr n) = k n
sets_within scope known (step (assign_at index spacing ps v) rest) f g e h = absurd cc
sets_within scope known (step (set_at index spacing es v) rest) f g e h = absurd cc
sets_within scope known (step (if_of bs) rest) f g e h = absurd cc
sets_within scope known (step (case_of v alts) rest) f g e h = absurd cc

pub reset_fits : (scope : Scope) (body : Stmts) → Fits scope body → Fits scope (reset_branch body)
reset_fits scope (step (if_of (branch r a (branch t s no_else))) done) f = f.0.1
reset_fits scope (step (if_of (branch t s no_else)) (step (if_of (branch r a no_else)) done)) f = f.1.0.1
reset_fits scope body f = tt

-- ---- bodies

first_wider : (x y z c : Bool) → (x || z) || false ≡ true → (x || (y || z)) || c ≡ true
first_wider true y z c k = refl
first_wider false true z c k = refl
first_wider false false true c k = refl
first_wider false false false c k = absurd cc

behind_wider : (x m y z c : Bool) → x || (not m && ((y || false) || false)) ≡ true → x || (not m && ((y || z) || c)) ≡ true
behind_wider true m y z c k = refl
behind_wider false true y z c k = absurd cc
behind_wider false false true z c k = refl
behind_wider false false false z c k = absurd cc

-- what a body stores without its reset's branch, it stores
pub without_stores : (body : Stmts) (e : ℕ) → stores_element e (without_reset body) ≡ true → stores_element e body ≡ true
without_stores (step (if_of (branch r a (branch t s no_else))) done) e h =
    first_wider (test_looks_at e r) (stores_element e a) (test_looks_at e t || (stores_element e s || false)) _ h
without_stores (step (if_of (branch t s no_else)) (step (if_of (branch r a no_else)) done)) e h =
    behind_wider (test_looks_at e t || (stores_element e s || false)) (must_assign (is_element e) s && false) (test_looks_at e r) (stores_element e a || false) _ h
without_stores body e h = h

pub kept_is : (first : ℕ) (p : FlatProcess) → is_register p.body ≡ true → kept_process first p ≡ with_nets first p
kept_is first p h = ap (λ (b : Bool). cond b (with_nets first p) p) h

abbrev pub Covered : List KeptVariable → Stmts → Type 0
Covered vs body = ((e : ℕ) → stores_element e (without_reset body) ≡ true → Contains (all_elements vs) e) × ((e : ℕ) → must_assign (is_element e) (reset_branch body) ≡ true → Contains (all_elements vs) e)

-- Elements that no statement of a body sets are seen to have their initial values, and by these the reset's branch gives
-- constants.
pub record SeesUnset (starts : List ℕ) (body : Stmts) (seen : Seen) : Type 0 where
  pub as_many : length seen.variables ≡ length starts
  pub known : ℕ → Bool
  pub unset : (e : ℕ) → known e ≡ true → never_set body e ≡ true
  pub same : Agree known seen (at_start starts)
  pub gives : gives_constants known (reset_branch body) ≡ true

body_alike : (scope : Scope) (net place : ℕ → ℕ) (vs : List KeptVariable) (left other : Seen) (runs : Runs scope net place vs left other) (starts : List ℕ) (body : Stmts)
    → is_register body ≡ true → Fits scope body → Covered vs body → SeesUnset starts body left → AgreeOn (reads body) left.now other.now → AgreeOn (events body) left.before other.before
    → BodiesAlike scope net place vs left other runs (with_branches (told net place (at_start starts)) (at_edge net place vs) body) body
body_alike scope net place vs left other runs starts (step (if_of (branch t s no_else)) done) h f c u now before =
    let a = edge_alone t s h in
    let n = agree_left (test_reads t ++ (reads s ++ [])) [] left.now other.now now in
    let b = agree_left (test_events t ++ (events s ++ [])) [] left.before other.before before in
    if_alike scope net place vs left other runs (branch t (at_edge net place vs s) no_else) (branch t s no_else)
    (branch_alike scope net place vs left other runs t (at_edge net place vs s) s no_else no_else
    (edge_met scope net place vs left other runs t s a (agree_left (test_reads t) (reads s ++ []) left.now other.now n) (agree_left (test_events t) (events s ++ []) left.before other.before b))
    (edge_alike scope net place vs left other runs s f.0.1 (λ e k. c.0 e (or_left (test_looks_at e t || (stores_element e s || false)) _ (or_right (test_looks_at e t) (stores_element e s || false) (or_left (stores_element e s) false k))))
    (agree_left (reads s) [] left.now other.now (agree_right (test_reads t) (reads s ++ []) left.now other.now n))
    (agree_left (events s) [] left.before other.before (agree_right (test_events t) (events s ++ []) left.before other.before b)))
    (none_alike scope net place vs left other runs))
body_alike scope net place vs left other runs starts (step (if_of (branch r a (branch t s no_else))) done) h f c u now before =
    let (x, y) = reset_first r a t s h in
    let z : ByReset u.known r a = record { plain = x.plain; net = x.net; v = x.v; is = x.is; constants = u.gives } in
    let n = agree_left (test_reads r ++ (reads a ++ (test_reads t ++ (reads s ++ [])))) [] left.now other.now now in
    let b = agree_left (test_events r ++ (events a ++ (test_events t ++ (events s ++ [])))) [] left.before other.before before in
    let n1 = agree_right (reads a) (test_reads t ++ (reads s ++ [])) left.now other.now (agree_right (test_reads r) (reads a ++ (test_reads t ++ (reads s ++ []))) left.now other.now n) in
    let b1 = agree_right (events a) (test_events t ++ (events s ++ [])) left.before other.before (agree_right (test_events r) (events a ++ (test_events t ++ (events s ++ []))) left.before other.before b) in
    if_alike scope net place vs left other runs (branch r (told net place (at_start starts) a) (branch t (at_edge net place vs s) no_else)) (branch r a (branch t s no_else))
    (branch_alike scope net place vs left other runs r (told net place (at_start starts) a) a (branch t (at_edge net place vs s) no_else) (branch t s no_else)
    (reset_met scope net place vs left other runs u.known r a z (agree_left (test_reads r) (reads a ++ (test_reads t ++ (reads s ++ []))) left.now other.now n) other.variables left.variables)
    (reset_alike scope net place vs left other runs u.known (at_start starts) r a z u.same u.as_many c.1 (places_below scope u.known (at_start starts) a f.0.1 u.gives))
    (branch_alike scope net place vs left other runs t (at_edge net place vs s) s no_else no_else
    (edge_met scope net place vs left other runs t s y (agree_left (test_reads t) (reads s ++ []) left.now other.now n1) (agree_left (test_events t) (events s ++ []) left.before other.before b1))
    (edge_alike scope net place vs left other runs s f.0.2.1
    (λ e k. c.0 e (or_left (test_looks_at e r || (test_looks_at e t || (stores_element e s || false))) _
    (or_right (test_looks_at e r) _ (or_right (test_looks_at e t) _ (or_left (stores_element e s) false k)))))
    (agree_left (reads s) [] left.now other.now (agree_right (test_reads t) (reads s ++ []) left.now other.now n1))
    (agree_left (events s) [] left.before other.before (agree_right (test_events t) (events s ++ []) left.before other.before b1)))
    (none_alike scope net place vs left other runs)))
body_alike scope net place vs left other runs starts (step (if_of (branch t s no_else)) (step (if_of (branch r a no_else)) done)) h f c u now before =
    let (x, y) = reset_behind t s r a h in
    let rest = step (if_of (branch r a no_else)) done in
    let z : ByReset u.known r a = record { plain = x.plain; net = x.net; v = x.v; is = x.is; constants = u.gives } in
    let behind : Agree u.known (after_stmt left (if_of (branch t s no_else))) (at_start starts) =
    λ e k. body_unset e (step (if_of (branch t s no_else)) done) left (unset_first (if_of (branch t s no_else)) rest e (u.unset e k)) ∙ u.same e k in
    let ns = (test_reads r ++ (reads a ++ [])) ++ [] in
    let bs = (test_events r ++ (events a ++ [])) ++ [] in
    let n = agree_left (test_reads t ++ (reads s ++ [])) ns left.now other.now now in
    let b = agree_left (test_events t ++ (events s ++ [])) bs left.before other.before before in
    let m = agree_left (test_reads r ++ (reads a ++ [])) [] left.now other.now (agree_right (test_reads t ++ (reads s ++ [])) ns left.now other.now now) in
    behind_alike scope net place vs left other runs (branch t (at_edge net place vs s) no_else) (branch t s no_else)
    (branch_alike scope net place vs left other runs t (at_edge net place vs s) s no_else no_else
    (edge_met scope net place vs left other runs t s y (agree_left (test_reads t) (reads s ++ []) left.now other.now n) (agree_left (test_events t) (events s ++ []) left.before other.before b))
    (edge_alike scope net place vs left other runs s f.0.1 (λ e k. c.0 e (or_left (test_looks_at e t || (stores_element e s || false)) _ (or_right (test_looks_at e t) (stores_element e s || false) (or_left (stores_element e s) false k))))
    (agree_left (reads s) [] left.now other.now (agree_right (test_reads t) (reads s ++ []) left.now other.now n))
    (agree_left (events s) [] left.before other.before (agree_right (test_events t) (events s ++ []) left.before other.before b)))
    (none_alike scope net place vs left other runs))
    u.known (at_start starts) r a z (agree_left (test_reads r) (reads a ++ []) left.now other.now m) behind u.as_many c.1 (places_below scope u.known (at_start starts) a f.1.0.1 u.gives)
body_alike scope net place vs left other runs starts body h f c u now before = absurd cc

-- ---- processes

module _ (types : List ElementType) (p : FlatProcess) (in_range : ProcessInRange types p) (register : is_register p.body ≡ true) where
  within : (e : ℕ) → e < length (element_types p.variables) → stores_element e (without_reset p.body) || must_assign (is_element e) (reset_branch p.body) ≡ true → Contains (kept_elements p) e
  within e l h =
      covers_among (keeps_element p.body) 0 p.variables e (omega arith) (omega (arith, length_types p.variables))
      (ap (λ (b : Bool). b && (stores_element e (without_reset p.body) || must_assign (is_element e) (reset_branch p.body))) register ∙ h)

  pub constants : gives_constants (never_set p.body) (reset_branch p.body) ≡ true
  constants = (and_parts _ (gives_constants (never_set p.body) (reset_branch p.body)) register).1

  pub covered : Covered (kept_variables p) p.body
  covered = (
    λ e h. within e ((each_read_is_there (scope_of types p) p.body in_range.body).elements e (without_stores p.body e h)) (or_left (stores_element e (without_reset p.body)) (must_assign (is_element e) (reset_branch p.body)) h),
    λ e h. within e (sets_within (scope_of types p) (never_set p.body) (reset_branch p.body) (reset_fits (scope_of types p) p.body in_range.body) constants e h) (or_right (stores_element e (without_reset p.body)) (must_assign (is_element e) (reset_branch p.body)) h),
  )

  module _ (first : ℕ) (left other : Seen) (sees : SeesTypes (scope_of types p) left) (kept : SeesKept first p left other) where
    runs : Runs (scope_of types p) (λ e. first + rank_in (kept_elements p) e) (λ e. length p.drivers + rank_in (kept_elements p) e) (kept_variables p) left other
    runs = record {
      typed = typed_among (element_types p.variables) (keeps_element p.body) 0 p.variables in_range.variables (λ k. let s : 0 + k ≡ k = omega arith in ap (slice_get (element_types p.variables)) s);
      above = λ e c. omega (arith, length-map p.drivers (λ (d : FlatDriver). d.net));
      apart = λ d e c k h. place_apart (kept_elements p) d e c k (omega arith);
      sees = sees;
      as_many = kept.as_many ∙ sym (length_types p.variables);
      other_many = kept.net_many ∙ sym (length_types p.variables);
      held = kept.kept;
    }

    unset : SeesUnset (element_starts p.variables) p.body left
    unset = go (leaves (reset_branch p.body)) refl
      where
        go : (ls : List Leaf) → leaves (reset_branch p.body) ≡ ls → SeesUnset (element_starts p.variables) p.body left
        go [] h = record {
          as_many = kept.as_many;
          known = λ e. false;
          unset = λ e k. absurd cc;
          same = λ e k. absurd cc;
          gives = gives_bare (never_set p.body) (λ e. false) (reset_branch p.body) constants h;
        }
        go (l ∷ ls) h = record {
          as_many = kept.as_many;
          known = never_set p.body;
          unset = λ e k. k;
          same = kept.unset (λ n. let m = sym n ∙ h in cc);
          gives = constants;
        }

    pub process_alike : RunsAlike first p left other
    process_alike =
        let net = λ (e : ℕ). first + rank_in (kept_elements p) e in
        let place = λ (e : ℕ). length p.drivers + rank_in (kept_elements p) e in
        let h = body_alike (scope_of types p) net place (kept_variables p) left other runs (element_starts p.variables) p.body register in_range.body covered unset kept.now kept.before in
        let is = kept_is first p register in
        record {
          entries = λ q l. ap (λ (k : FlatProcess). effect other k.body q) is ∙ h.entries q (omega (arith, length-map p.drivers (λ (d : FlatDriver). d.net)));
          kept = λ e c. ap (λ (k : FlatProcess). unwrap_or (effect other k.body (place e)) (slice_index left.variables e)) is ∙ h.kept e c;
          unset = λ e k. body_unset e p.body left (not_set (stmts_assign (is_element e) p.body) k);
        }

pub each_runs_alike : EachRunsAlike
each_runs_alike types first p left other in_range register sees kept = process_alike types p in_range register first left other sees kept
