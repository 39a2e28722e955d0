-- A register whose variables are kept reads no variable that it hasn't assigned.
use Rattle.std.proofs.Common.{◌≡◌, ℕ, ◌+◌, Bool, true, false, not, ◌&&◌, ◌||◌, ◌==◌, List, [], ◌∷◌, length, map, slice_get}
use Rattle.std.proofs.Common.{refl, sym, ap, ◌∙◌, arith, ◌⊎◌, inl, inr, Contains}
use Rattle.std.specs.List.{list_any}
use Rattle.std.proofs.lemmas.Bool.{cases_Bool, and_parts}
use Rattle.std.proofs.lemmas.List.Elements.{Contains-append_cases}
use Rattle.rtl_model.specs.basics.Lists.{is_empty}
use Rattle.rtl_model.specs.bodies.Assigns.{is_element, must_assign}
use Rattle.rtl_model.specs.bodies.Body.{Test, null_of, assign, set, assign_at, set_at, if_of, case_of, Stmts, done, step, no_else, branch, followed_by, Value}
use Rattle.rtl_model.specs.bodies.Kinds.{IsEdgeTest, rising_call, falling_call, event_and_level, level_and_event}
use Rattle.rtl_model.specs.bodies.Leaves.{value_leaves, leaf_looks_at}
use Rattle.rtl_model.specs.bodies.Stored.{value_looks_at, test_looks_at, stores_element}
use Rattle.rtl_model.specs.bodies.Types.{ElementType, nine_valued, enumeration}
use Rattle.rtl_model.specs.bodies.Values.{Seen}
use Rattle.rtl_model.specs.nets.FlatNetlist.{FlatProcess, element_types, element_starts}
use Rattle.rtl_model.proofs.basics.Lists.{is_in, in_contains, contains_in, Contains-none, is_nil}
use Rattle.rtl_model.proofs.bodies.Leaves.{leaves_tell}
use Rattle.rtl_model.proofs.bodies.Sequences.{sequences_add_up}
use Rattle.rtl_variable_registers.specs.Bodies.{KeptVariable, of_nets, with_branches, is_register, keeps_element, recalled, remembered, at_edge, at_reset}
use Rattle.rtl_variable_registers.specs.Known.{at_start, with_constants}
use Rattle.rtl_variable_registers.specs.Laws.{NothingIsStored}
use Rattle.rtl_variable_registers.specs.Processes.{kept_variables, kept_elements, rank_in}
use Rattle.rtl_variable_registers.proofs.Alike.{Covered, covered, kept_is}
use Rattle.rtl_variable_registers.proofs.Known.{are_constants, made_constants}
use Rattle.rtl_variable_registers.proofs.Recalling.{all_elements}
use Rattle.rtl_variable_registers.proofs.Resetting.{told, or_left, or_right}
use Rattle.rtl_variable_registers.proofs.Running.{AreTyped, remembered_stores}
use Rattle.rtl_variable_registers.proofs.Shapes.{AtEdge, ByReset, edge_alone, reset_first, reset_behind}
use Rattle.rtl_variable_registers.proofs.Tables.{typed_among}

and_none : (a b : Bool) → b ≡ false → a && b ≡ false
and_none true b h = h
and_none false b h = refl

pub or_none : (a b : Bool) → a ≡ false → b ≡ false → a || b ≡ false
or_none a b h k = rw h k

-- what follows from it isn't so
not_so : {A : Type 0} (b : Bool) → (b ≡ true → A) → (A → ⊥) → b ≡ false
not_so true f n = absurd (n (f refl))
not_so false f n = refl

-- ---- the parts

pub edge_looks_none : (t : Test) (s : Stmts) → AtEdge t s → (e : ℕ) → test_looks_at e t ≡ false
edge_looks_none t s h e = go h.tests
  where
    go : IsEdgeTest t h.clock h.edge → test_looks_at e t ≡ false
    go (rising_call p q) = ap (test_looks_at e) p
    go (falling_call p q) = ap (test_looks_at e) p
    go (event_and_level v p q) = ap (test_looks_at e) p
    go (level_and_event v p q) = ap (test_looks_at e) p

constant_looks_none : (v : Value) → is_empty (value_leaves v) ≡ true → (e : ℕ) → value_looks_at e v ≡ false
constant_looks_none v h e = leaves_tell.value_looks_are e v ∙ ap (list_any (leaf_looks_at e)) (is_nil (value_leaves v) h)

reset_stores_none : (net place : ℕ → ℕ) (a : Stmts) → are_constants a ≡ true → (e : ℕ) → stores_element e (at_reset net place a) ≡ false
reset_stores_none net place done g e = refl
reset_stores_none net place (step null_of rest) g e = reset_stores_none net place rest g e
reset_stores_none net place (step (assign ps v) rest) g e =
    let (c, d) = and_parts (is_empty (value_leaves v)) (are_constants rest) g in
    or_none (value_looks_at e v) _ (constant_looks_none v c e) (and_none _ (stores_element e (at_reset net place rest)) (reset_stores_none net place rest d e))
reset_stores_none net place (step (set es v) rest) g e =
    let (c, d) = and_parts (is_empty (value_leaves v)) (are_constants rest) g in
    or_none (value_looks_at e v) _ (constant_looks_none v c e) (and_none _ (stores_element e (at_reset net place rest)) (reset_stores_none net place rest d e))
reset_stores_none net place (step (assign_at index spacing ps v) rest) g e = absurd cc
reset_stores_none net place (step (set_at index spacing es v) rest) g e = absurd cc
reset_stores_none net place (step (if_of bs) rest) g e = absurd cc
reset_stores_none net place (step (case_of v alts) rest) g e = absurd cc

nets_look_none : (t : ElementType) (ns : List ℕ) (e : ℕ) → value_looks_at e (of_nets t ns) ≡ false
nets_look_none nine_valued ns e = refl
nets_look_none (enumeration n) ns e = refl

recalled_stores_none : (net place : ℕ → ℕ) (vs : List KeptVariable) (e : ℕ) → stores_element e (recalled net place vs) ≡ false
recalled_stores_none net place [] e = refl
recalled_stores_none net place (v ∷ vs) e =
    or_none (value_looks_at e (of_nets v.type_of (map net v.elements))) _ (nets_look_none v.type_of (map net v.elements) e)
    (and_none _ (stores_element e (recalled net place vs)) (recalled_stores_none net place vs e))

recalled_assigns : (net place : ℕ → ℕ) (vs : List KeptVariable) (e : ℕ) → Contains (all_elements vs) e → must_assign (is_element e) (recalled net place vs) ≡ true
recalled_assigns net place [] e c = absurd (Contains-none e c)
recalled_assigns net place (v ∷ vs) e c = go (λ k. recalled_assigns net place vs e k) (Contains-append_cases v.elements (all_elements vs) e c)
  where
    go : (Contains (all_elements vs) e → must_assign (is_element e) (recalled net place vs) ≡ true) → Contains v.elements e ⊎ Contains (all_elements vs) e
        → must_assign (is_element e) (recalled net place (v ∷ vs)) ≡ true
    go rest (inl k) = or_left (list_any (λ j. j == e) v.elements) (must_assign (is_element e) (recalled net place vs)) (contains_in v.elements e k)
    go rest (inr k) = or_right (list_any (λ j. j == e) v.elements) (must_assign (is_element e) (recalled net place vs)) (rest k)

-- ---- the branch at the edge

edge_stores_none : (net place : ℕ → ℕ) (types : List ElementType) (vs : List KeptVariable) (s : Stmts) → AreTyped types vs → ((e : ℕ) → stores_element e s ≡ true → Contains (all_elements vs) e)
    → (e : ℕ) → stores_element e (at_edge net place vs s) ≡ false
edge_stores_none net place types vs s typed stored e =
    (sequences_add_up (recalled net place vs) (followed_by s (remembered net place vs))).stores_either e
    ∙ or_none (stores_element e (recalled net place vs)) _ (recalled_stores_none net place vs e) (go (cases_Bool (is_in (all_elements vs) e)))
  where
    go : (is_in (all_elements vs) e ≡ true) ⊎ (is_in (all_elements vs) e ≡ false)
        → not (must_assign (is_element e) (recalled net place vs)) && stores_element e (followed_by s (remembered net place vs)) ≡ false
    go (inl h) = ap (λ (b : Bool). not b && stores_element e (followed_by s (remembered net place vs))) (recalled_assigns net place vs e (in_contains (all_elements vs) e h))
    go (inr h) =
        let none = λ (c : Contains (all_elements vs) e). let k = contains_in (all_elements vs) e c in let f : true ≡ false = sym k ∙ h in absurd {A = ⊥} cc in
        and_none _ (stores_element e (followed_by s (remembered net place vs)))
        ((sequences_add_up s (remembered net place vs)).stores_either e
        ∙ or_none (stores_element e s) _ (not_so (stores_element e s) (stored e) none)
        (and_none _ (stores_element e (remembered net place vs)) (not_so (stores_element e (remembered net place vs)) (remembered_stores net place types vs typed e) none)))

-- ---- bodies

told_stores_none : (net place : ℕ → ℕ) {known : ℕ → Bool} (seen : Seen) (r : Test) (a : Stmts) → ByReset known r a → (e : ℕ) → stores_element e (told net place seen a) ≡ false
told_stores_none net place {known} seen r a x e = reset_stores_none net place (with_constants seen a) (made_constants known seen a x.constants) e

body_stores_none : (net place : ℕ → ℕ) (seen : Seen) (types : List ElementType) (vs : List KeptVariable) (body : Stmts) → AreTyped types vs → is_register body ≡ true → Covered vs body
    → (e : ℕ) → stores_element e (with_branches (told net place seen) (at_edge net place vs) body) ≡ false
body_stores_none net place seen types vs (step (if_of (branch t s no_else)) done) typed h c e =
    let stored = λ (d : ℕ) (k : stores_element d s ≡ true). c.0 d (or_left (test_looks_at d t || (stores_element d s || false)) _ (or_right (test_looks_at d t) (stores_element d s || false) (or_left (stores_element d s) false k))) in
    or_none (test_looks_at e t || (stores_element e (at_edge net place vs s) || false)) _
    (or_none (test_looks_at e t) _ (edge_looks_none t s (edge_alone t s h) e) (or_none (stores_element e (at_edge net place vs s)) false (edge_stores_none net place types vs s typed stored e) refl))
    (and_none _ false refl)
body_stores_none net place seen types vs (step (if_of (branch r a (branch t s no_else))) done) typed h c e =
    let (x, y) = reset_first r a t s h in
    let stored = λ (d : ℕ) (k : stores_element d s ≡ true). c.0 d (or_left (test_looks_at d r || (test_looks_at d t || (stores_element d s || false))) _
    (or_right (test_looks_at d r) _ (or_right (test_looks_at d t) _ (or_left (stores_element d s) false k)))) in
    or_none (test_looks_at e r || (stores_element e (told net place seen a) || (test_looks_at e t || (stores_element e (at_edge net place vs s) || false)))) _
    (or_none (test_looks_at e r) _ (ap (test_looks_at e) x.is)
    (or_none (stores_element e (told net place seen a)) _ (told_stores_none net place seen r a x e)
    (or_none (test_looks_at e t) _ (edge_looks_none t s y e) (or_none (stores_element e (at_edge net place vs s)) false (edge_stores_none net place types vs s typed stored e) refl))))
    (and_none _ false refl)
body_stores_none net place seen types vs (step (if_of (branch t s no_else)) (step (if_of (branch r a no_else)) done)) typed h c e =
    let (x, y) = reset_behind t s r a h in
    let stored = λ (d : ℕ) (k : stores_element d s ≡ true). c.0 d (or_left (test_looks_at d t || (stores_element d s || false)) _ (or_right (test_looks_at d t) (stores_element d s || false) (or_left (stores_element d s) false k))) in
    or_none (test_looks_at e t || (stores_element e (at_edge net place vs s) || false)) _
    (or_none (test_looks_at e t) _ (edge_looks_none t s y e) (or_none (stores_element e (at_edge net place vs s)) false (edge_stores_none net place types vs s typed stored e) refl))
    (and_none _ _ (or_none (test_looks_at e r || (stores_element e (told net place seen a) || false)) _
    (or_none (test_looks_at e r) _ (ap (test_looks_at e) x.is) (or_none (stores_element e (told net place seen a)) false (told_stores_none net place seen r a x e) refl)) (and_none _ false refl)))
body_stores_none net place seen types vs body typed h c e = absurd cc

pub nothing_is_stored : NothingIsStored
nothing_is_stored types first p in_range register e =
    let net = λ (d : ℕ). first + rank_in (kept_elements p) d in
    let place = λ (d : ℕ). length p.drivers + rank_in (kept_elements p) d in
    ap (λ (k : FlatProcess). stores_element e k.body) (kept_is first p register)
    ∙ body_stores_none net place (at_start (element_starts p.variables)) (element_types p.variables) (kept_variables p) p.body
    (typed_among (element_types p.variables) (keeps_element p.body) 0 p.variables in_range.variables (λ k. let s : 0 + k ≡ k = omega arith in ap (slice_get (element_types p.variables)) s))
    register (covered types p in_range register) e
