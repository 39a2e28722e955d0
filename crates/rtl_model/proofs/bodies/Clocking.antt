-- A body is clocked just where it is said to be, and then does what its reset's branch does where its reset holds, else what
-- its branch does at its edge, and else nothing.
use Rattle.std.proofs.Common.{◌≡◌, ℕ, Bool, true, false, not, ◌&&◌, ◌||◌, cond, List, [], ◌++◌, Option, Some, None, refl, sym, ap, ◌∙◌, subst, inl, inr, IsTrue}
use Rattle.std.specs.List.{list_any}
use Rattle.std.proofs.lemmas.Bool.{and_from, and_parts}
use Rattle.rtl_model.specs.basics.Valuations.{clocked_entry, or_else}
use Rattle.rtl_model.specs.basics.Lists.{is_empty}
use Rattle.rtl_model.specs.bodies.Body.{Test, null_of, assign, if_of, Stmts, done, step, Branches, no_else, branch}
use Rattle.rtl_model.specs.bodies.Values.{Seen}
use Rattle.rtl_model.specs.bodies.Tests.{edge_at, is_met}
use Rattle.rtl_model.specs.bodies.Variables.{variables_after}
use Rattle.rtl_model.specs.bodies.Effect.{effect}
use Rattle.rtl_model.specs.bodies.Reads.{reads, value_reads, events, test_events}
use Rattle.rtl_model.specs.bodies.Stored.{value_looks_at, stores_element}
use Rattle.rtl_model.specs.bodies.Leaves.{leaf_looks_at, leaves, value_leaves}
use Rattle.rtl_model.specs.bodies.Kinds.{EdgeTest, edge_test, IsEdgeTest, ResetTest, reset_test, ResetPart, Clocking, assigns_constants}
use Rattle.rtl_model.specs.bodies.Kinds.{IsClocked, clocking_of, with_reset, clocking}
use Rattle.rtl_model.specs.bodies.Laws.{EachKindIsAsSaid, reset_holds, reset_holds_back, entry_of_reset, FollowsItsEdge, ResetsReadNothing}
use Rattle.rtl_model.proofs.basics.Lists.{nil_parts, is_nil}
use Rattle.rtl_model.proofs.bodies.EdgeTests.{is_edge_test, has_edge_test, edge_test_event, is_reset_test, has_reset_test, reset_meets, edge_meets}
use Rattle.rtl_model.proofs.bodies.Leaves.{leaves_tell}
use Rattle.rtl_model.proofs.bodies.Looking.{as_many_after}
use Rattle.rtl_model.proofs.bodies.LooksRead.{nothing_is_kept}

-- ---- what is clocked

record MadeOf (constants no_event : Bool) (o : Option EdgeTest) (s : Stmts) (reset : Option ResetPart) (c : Clocking) : Type 0 where
  constants_are : constants ≡ true
  none : no_event ≡ true
  test_is : o ≡ Some c.test
  branch_is : s ≡ c.branch
  reset_is : reset ≡ c.reset

made_of : (constants no_event : Bool) (o : Option EdgeTest) (s : Stmts) (reset : Option ResetPart) (c : Clocking)
    → clocking_of constants no_event o s reset ≡ Some c → MadeOf constants no_event o s reset c
made_of true true (Some e) s reset c h =
    let k : record { test = e; branch = s; reset = reset } ≡ c = cc in
    record {
      constants_are = refl;
      none = refl;
      test_is = ap (λ (x : Clocking). Some x.test) k;
      branch_is = ap (λ (x : Clocking). x.branch) k;
      reset_is = ap (λ (x : Clocking). x.reset) k;
    }
made_of constants no_event o s reset c h = absurd cc

pub clocked_is : (wide : Bool) (inputs : List ℕ) (body : Stmts) (c : Clocking) → clocking wide inputs body ≡ Some c → IsClocked wide inputs body c
clocked_is wide inputs (step (if_of (branch t s no_else)) done) c h =
    let m = made_of true (is_empty (events s)) (edge_test t) s None c h in
    inl (record {
      test = t;
      is = ap (λ x. step (if_of (branch t x no_else)) done) m.branch_is;
      edge = is_edge_test t c.test m.test_is;
      no_event = subst (λ (x : Stmts). events x ≡ []) m.branch_is (is_nil (events s) m.none);
      no_reset = sym m.reset_is;
    })
clocked_is wide inputs (step (if_of (branch r a (branch t s no_else))) done) c h = go (reset_test wide inputs r) refl h
  where
    go : (o : Option ResetTest) → reset_test wide inputs r ≡ o → with_reset true o (assigns_constants a) (is_empty (events s)) (edge_test t) a s ≡ Some c
        → IsClocked wide inputs (step (if_of (branch r a (branch t s no_else))) done) c
    go None e g = absurd cc
    go (Some x) e g =
        let m = made_of (assigns_constants a) (is_empty (events s)) (edge_test t) s (Some (record { test = x; branch = a; gates = true })) c g in
        inr (inl (record {
          reset = record { test = x; branch = a; gates = true };
          first = r;
          test = t;
          is = ap (λ y. step (if_of (branch r a (branch t y no_else))) done) m.branch_is;
          reset_is = sym m.reset_is;
          gating = refl;
          resets = is_reset_test wide inputs r x e;
          constants = m.constants_are;
          edge = is_edge_test t c.test m.test_is;
          no_event = subst (λ (y : Stmts). events y ≡ []) m.branch_is (is_nil (events s) m.none);
        }))
clocked_is wide inputs (step (if_of (branch t s no_else)) (step (if_of (branch r a no_else)) done)) c h = in_wide wide refl h
  where
    go : wide ≡ true → (o : Option ResetTest) → reset_test wide inputs r ≡ o → with_reset false o (is_empty (leaves a) && assigns_constants a) (is_empty (events s)) (edge_test t) a s ≡ Some c
        → IsClocked wide inputs (step (if_of (branch t s no_else)) (step (if_of (branch r a no_else)) done)) c
    go w None e g = absurd cc
    go w (Some x) e g =
        let m = made_of (is_empty (leaves a) && assigns_constants a) (is_empty (events s)) (edge_test t) s (Some (record { test = x; branch = a; gates = false })) c g in
        let (none, constants) = and_parts (is_empty (leaves a)) (assigns_constants a) m.constants_are in
        inr (inr (record {
          reset = record { test = x; branch = a; gates = false };
          test = t;
          second = r;
          is = ap (λ y. step (if_of (branch t y no_else)) (step (if_of (branch r a no_else)) done)) m.branch_is;
          is_wide = w;
          reset_is = sym m.reset_is;
          not_gating = refl;
          resets = is_reset_test wide inputs r x e;
          constants = constants;
          reads_nothing = is_nil (leaves a) none;
          edge = is_edge_test t c.test m.test_is;
          no_event = subst (λ (y : Stmts). events y ≡ []) m.branch_is (is_nil (events s) m.none);
        }))

    in_wide : (w : Bool) → wide ≡ w → cond w (with_reset false (reset_test wide inputs r) (is_empty (leaves a) && assigns_constants a) (is_empty (events s)) (edge_test t) a s) None ≡ Some c
        → IsClocked wide inputs (step (if_of (branch t s no_else)) (step (if_of (branch r a no_else)) done)) c
    in_wide true e g = go e (reset_test wide inputs r) refl g
    in_wide false e g = absurd cc
clocked_is wide inputs body c h = absurd cc

-- a reset's parts are its record
reset_part : (c : Clocking) (r : ResetPart) (gates : Bool) → c.reset ≡ Some r → r.gates ≡ gates → Some (record { test = r.test; branch = r.branch; gates = gates }) ≡ c.reset
reset_part c r gates e g = ap (λ (b : Bool). Some (record { test = r.test; branch = r.branch; gates = b })) (sym g) ∙ sym e

has_clocking : (wide : Bool) (inputs : List ℕ) (body : Stmts) (c : Clocking) → IsClocked wide inputs body c → clocking wide inputs body ≡ Some c
has_clocking wide inputs body c (inl a) =
    ap (clocking wide inputs) a.is
    ∙ rw (ap is_empty a.no_event, has_edge_test a.test c.test.clock c.test.edge a.edge)
    (ap (λ (x : Option ResetPart). Some (record { test = c.test; branch = c.branch; reset = x })) (sym a.no_reset))
has_clocking wide inputs body c (inr (inl a)) =
    ap (clocking wide inputs) a.is
    ∙ rw (has_reset_test wide inputs a.first a.reset.test.net a.reset.test.value a.resets, ap is_empty a.no_event, has_edge_test a.test c.test.clock c.test.edge a.edge, a.constants)
    (ap (λ (x : Option ResetPart). Some (record { test = c.test; branch = c.branch; reset = x })) (reset_part c a.reset true a.reset_is a.gating))
has_clocking wide inputs body c (inr (inr a)) =
    ap (clocking wide inputs) a.is
    ∙ (λ i. cond (a.is_wide i) (with_reset false (found i) (constant i) (is_empty (a.no_event i)) (has_edge_test a.test c.test.clock c.test.edge a.edge i) a.reset.branch c.branch) None)
    ∙ ap (λ (x : Option ResetPart). Some (record { test = c.test; branch = c.branch; reset = x })) (reset_part c a.reset false a.reset_is a.not_gating)
  where
    found : reset_test wide inputs a.second ≡ Some (record { net = a.reset.test.net; value = a.reset.test.value })
    found = has_reset_test wide inputs a.second a.reset.test.net a.reset.test.value a.resets

    constant : (is_empty (leaves a.reset.branch) && assigns_constants a.reset.branch) ≡ true
    constant = and_from (is_empty (leaves a.reset.branch)) _ (ap is_empty a.reads_nothing) a.constants

-- an if on an edge asks for its event
edge_if_event : (t : Test) (c : Clocking) (rest : List ℕ) → IsEdgeTest t c.test.clock c.test.edge → (test_events t ++ (events c.branch ++ [])) ++ rest ≡ [] → ⊥
edge_if_event t c rest edge e =
    let f = (nil_parts (test_events t) (events c.branch ++ []) (nil_parts (test_events t ++ (events c.branch ++ [])) rest e).0).0 in
    let g = edge_test_event t c.test.clock c.test.edge edge in
    cc

has_event : (wide : Bool) (inputs : List ℕ) (body : Stmts) (c : Clocking) → IsClocked wide inputs body c → events body ≡ [] → ⊥
has_event wide inputs body c (inl a) h = edge_if_event a.test c [] a.edge (sym (ap events a.is) ∙ h)
has_event wide inputs body c (inr (inl a)) h =
    let e : (test_events a.first ++ (events a.reset.branch ++ (test_events a.test ++ (events c.branch ++ [])))) ++ [] ≡ [] = sym (ap events a.is) ∙ h in
    let e1 = (nil_parts (test_events a.first ++ (events a.reset.branch ++ (test_events a.test ++ (events c.branch ++ [])))) [] e).0 in
    let e2 = (nil_parts (test_events a.first) (events a.reset.branch ++ (test_events a.test ++ (events c.branch ++ []))) e1).1 in
    let e3 = (nil_parts (events a.reset.branch) (test_events a.test ++ (events c.branch ++ [])) e2).1 in
    let f = (nil_parts (test_events a.test) (events c.branch ++ []) e3).0 in
    let g = edge_test_event a.test c.test.clock c.test.edge a.edge in
    cc
has_event wide inputs body c (inr (inr a)) h = edge_if_event a.test c _ a.edge (sym (ap events a.is) ∙ h)

pub each_kind_is_as_said : EachKindIsAsSaid
each_kind_is_as_said wide inputs = record {
  edge_tests = λ t clock edge. (is_edge_test t (record { clock = clock; edge = edge }), has_edge_test t clock edge);
  reset_tests = λ t net value. (is_reset_test wide inputs t (record { net = net; value = value }), has_reset_test wide inputs t net value);
  clocked = λ body c. (clocked_is wide inputs body c, has_clocking wide inputs body c);
  has_event = λ body c h. has_event wide inputs body c (clocked_is wide inputs body c h);
}

-- ---- what it does

no_part : (x y z : Bool) → x ≡ false → z ≡ false → x || (y && z) ≡ false
no_part false true z a b = b
no_part false false z a b = refl
no_part true y z a b = absurd cc

constants_store_none : (s : Stmts) → assigns_constants s ≡ true → leaves s ≡ [] → (e : ℕ) → stores_element e s ≡ false
constants_store_none done h none e = refl
constants_store_none (step null_of rest) h none e = constants_store_none rest h none e
constants_store_none (step (assign places v) rest) h none e =
    let (a, b) = and_parts (is_empty (value_reads v)) (assigns_constants rest) h in
    let (p, q) = nil_parts (value_leaves v) (leaves rest) none in
    no_part (value_looks_at e v) _ (stores_element e rest) (leaves_tell.value_looks_are e v ∙ ap (list_any (leaf_looks_at e)) p) (constants_store_none rest b q e)
constants_store_none (step s rest) h none e = absurd cc

at_edge : (t : Bool) (x : Option ℕ) → cond t x None ≡ clocked_entry false (t && true) None x
at_edge true x = refl
at_edge false x = refl

at_reset : (r t : Bool) (x y : Option ℕ) → cond r x (cond t y None) ≡ clocked_entry r (t && not (true && r)) x y
at_reset true true None y = refl
at_reset true true (Some v) y = refl
at_reset true false None y = refl
at_reset true false (Some v) y = refl
at_reset false true x y = refl
at_reset false false x y = refl

behind : (r t : Bool) (x y : Option ℕ) → or_else (cond r x None) (cond t y None) ≡ clocked_entry r (t && not (false && r)) x y
behind true true x y = refl
behind true false x y = refl
behind false true x y = refl
behind false false x y = refl

-- what a clocked body does with a reset
abbrev acts_with : Seen → Clocking → (place : ℕ) → Option ResetPart → Option ℕ
acts_with seen c place o = clocked_entry (reset_holds seen o) (edge_at seen c.test.edge c.test.clock && not (reset_holds_back seen o)) (entry_of_reset seen o place) (effect seen c.branch place)

-- what is seen behind an if
abbrev behind_if : Seen → Branches → Seen
behind_if seen bs = record seen { variables = variables_after seen (step (if_of bs) done) }

pub follows_its_edge : FollowsItsEdge
follows_its_edge wide inputs body c h seen place = go (clocked_is wide inputs body c h)
  where
    go : IsClocked wide inputs body c → effect seen body place ≡ acts_with seen c place c.reset
    go (inl a) =
        ap (λ (x : Stmts). effect seen x place) a.is
        ∙ at_edge (is_met seen a.test) (effect seen c.branch place)
        ∙ ap (λ (t : Bool). clocked_entry false (t && true) None (effect seen c.branch place)) (edge_meets a.test c.test.clock c.test.edge seen a.edge)
        ∙ ap (acts_with seen c place) (sym a.no_reset)
    go (inr (inl a)) =
        ap (λ (x : Stmts). effect seen x place) a.is
        ∙ at_reset (is_met seen a.first) (is_met seen a.test) (effect seen a.reset.branch place) (effect seen c.branch place)
        ∙ (λ i.
        let r = reset_meets wide inputs a.first a.reset.test.net a.reset.test.value seen a.resets i in
        clocked_entry r (edge_meets a.test c.test.clock c.test.edge seen a.edge i && not (sym a.gating i && r)) (effect seen a.reset.branch place) (effect seen c.branch place))
        ∙ ap (acts_with seen c place) (sym a.reset_is)
    go (inr (inr a)) =
        ap (λ (x : Stmts). effect seen x place) a.is
        ∙ (λ i. or_else (cond (is_met (behind_if seen (branch a.test c.branch no_else)) a.second) (constants_alike i) None) (cond (is_met seen a.test) (effect seen c.branch place) None))
        ∙ behind (is_met (behind_if seen (branch a.test c.branch no_else)) a.second) (is_met seen a.test) (effect seen a.reset.branch place) (effect seen c.branch place)
        ∙ (λ i.
        let r = reset_meets wide inputs a.second a.reset.test.net a.reset.test.value (behind_if seen (branch a.test c.branch no_else)) a.resets i in
        clocked_entry r (edge_meets a.test c.test.clock c.test.edge seen a.edge i && not (sym a.not_gating i && r)) (effect seen a.reset.branch place) (effect seen c.branch place))
        ∙ ap (acts_with seen c place) (sym a.reset_is)
      where
        constants_alike : effect (behind_if seen (branch a.test c.branch no_else)) a.reset.branch place ≡ effect seen a.reset.branch place
        constants_alike = nothing_is_kept a.reset.branch (constants_store_none a.reset.branch a.constants a.reads_nothing) seen (variables_after seen (step (if_of (branch a.test c.branch no_else)) done)) (as_many_after seen (step (if_of (branch a.test c.branch no_else)) done)) place

-- ---- a reset's branch

constants_read_nothing : (s : Stmts) → assigns_constants s ≡ true → (reads s ≡ []) × (events s ≡ [])
constants_read_nothing done h = (refl, refl)
constants_read_nothing (step null_of rest) h = constants_read_nothing rest h
constants_read_nothing (step (assign places v) rest) h =
    let (a, b) = and_parts (is_empty (value_reads v)) (assigns_constants rest) h in
    let (p, q) = constants_read_nothing rest b in
    ((λ i. is_nil (value_reads v) a i ++ p i), q)
constants_read_nothing (step s rest) h = absurd cc

pub resets_read_nothing : ResetsReadNothing
resets_read_nothing wide inputs body c reset h e = go (clocked_is wide inputs body c h)
  where
    by_constants : (x : ResetPart) → c.reset ≡ Some x → IsTrue (assigns_constants x.branch) → (reads reset.branch ≡ []) × (events reset.branch ≡ [])
    by_constants x is constants =
        let f : x ≡ reset = cc in
        constants_read_nothing reset.branch (subst (λ (r : ResetPart). IsTrue (assigns_constants r.branch)) f constants)

    go : IsClocked wide inputs body c → (reads reset.branch ≡ []) × (events reset.branch ≡ [])
    go (inl a) = let f = a.no_reset in absurd cc
    go (inr (inl a)) = by_constants a.reset a.reset_is a.constants
    go (inr (inr a)) = by_constants a.reset a.reset_is a.constants
