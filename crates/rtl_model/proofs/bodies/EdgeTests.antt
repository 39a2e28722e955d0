-- Edge tests and reset tests are as they are said, and are met where their net has the edge, or the value.
use Rattle.std.proofs.Common.{◌≡◌, ℕ, suc, ◌<◌, Bool, true, false, not, ◌&&◌, ◌||◌, ◌==◌, List, [], ◌∷◌, slice_index}
use Rattle.std.proofs.Common.{Option, Some, refl, sym, ap, ◌∙◌, subst, arith, ◌⊎◌, inl, inr, Contains}
use Rattle.std.proofs.lemmas.Bool.{eqb-true, eq-eqb, ne_eqb, or_cases}
use Rattle.vhdl_values.specs.declared.scalar.Nine.{Nine}
use Rattle.vhdl_values.specs.declared.scalar.Nine.TheVariants.{Zero, One}
use Rattle.vhdl_values.specs.declared.kinds.Logic.TheVariants.{And}
use Rattle.vhdl_values.specs.declared.kinds.Edge.{Edge}
use Rattle.vhdl_values.specs.declared.kinds.Edge.TheVariants.{Rising, Falling, To1, To0}
use Rattle.vhdl_values.specs.Scalar.{code_of, value_of_code}
use Rattle.rtl_model.specs.basics.Valuations.{has_event}
use Rattle.rtl_model.specs.bodies.Body.{Test, level, rising, falling, event, combined}
use Rattle.rtl_model.specs.bodies.Values.{Seen}
use Rattle.rtl_model.specs.bodies.Tests.{edge_at, is_met}
use Rattle.rtl_model.specs.bodies.Reads.{test_events}
use Rattle.rtl_model.specs.bodies.Kinds.{edge_to, IsEdgeTest, rising_call, falling_call, event_and_level, level_and_event}
use Rattle.rtl_model.specs.bodies.Kinds.{EdgeTest, edge_of_net, edge_test, IsResetTest, ResetTest, reset_of_level, reset_test}
use Rattle.rtl_model.proofs.basics.Lists.{is_in, in_contains, contains_in}

-- ---- the tests are as they are said

record Made (same : Bool) (net : ℕ) (o : Option Edge) (e : EdgeTest) : Type 0 where
  same_is : same ≡ true
  edge_is : o ≡ Some e.edge
  clock_is : net ≡ e.clock

made : (same : Bool) (net : ℕ) (o : Option Edge) (e : EdgeTest) → edge_of_net same net o ≡ Some e → Made same net o e
made true net (Some edge) e h =
    let k : record { clock = net; edge = edge } ≡ e = cc in
    record { same_is = refl; edge_is = ap (λ (x : EdgeTest). Some x.edge) k; clock_is = ap (λ (x : EdgeTest). x.clock) k }
made same net o e h = absurd cc

-- `s'event` and a level of net other
event_level : (net other : ℕ) (v : Nine) (e : EdgeTest) → edge_of_net (net == other) net (edge_to v) ≡ Some e
    → (event net ≡ event e.clock) × (level true other v ≡ level true e.clock v) × (edge_to v ≡ Some e.edge)
event_level net other v e h =
    let m = made (net == other) net (edge_to v) e h in
    (ap event m.clock_is, ap (λ (n : ℕ). level true n v) (sym (eqb-true net other m.same_is) ∙ m.clock_is), m.edge_is)

pub is_edge_test : (t : Test) (e : EdgeTest) → edge_test t ≡ Some e → IsEdgeTest t e.clock e.edge
is_edge_test (rising net) e h =
    let k : record { clock = net; edge = Rising } ≡ e = cc in
    rising_call (ap (λ (x : EdgeTest). rising x.clock) k) (sym (ap (λ (x : EdgeTest). x.edge) k))
is_edge_test (falling net) e h =
    let k : record { clock = net; edge = Falling } ≡ e = cc in
    falling_call (ap (λ (x : EdgeTest). falling x.clock) k) (sym (ap (λ (x : EdgeTest). x.edge) k))
is_edge_test (combined And (event net) (level true other v)) e h =
    let (a, b, c) = event_level net other v e h in
    event_and_level v (λ i. combined And (a i) (b i)) c
is_edge_test (combined And (level true other v) (event net)) e h =
    let (a, b, c) = event_level net other v e h in
    level_and_event v (λ i. combined And (b i) (a i)) c
is_edge_test t e h = absurd cc

edge_found : (clock : ℕ) (o : Option Edge) (edge : Edge) → o ≡ Some edge → edge_of_net (clock == clock) clock o ≡ Some (record { clock = clock; edge = edge })
edge_found clock o edge h = rw (eq-eqb clock clock refl, h) refl

pub has_edge_test : (t : Test) (clock : ℕ) (edge : Edge) → IsEdgeTest t clock edge → edge_test t ≡ Some (record { clock = clock; edge = edge })
has_edge_test t clock edge (rising_call p q) = ap edge_test p ∙ ap (λ (x : Edge). Some (record { clock = clock; edge = x })) (sym q)
has_edge_test t clock edge (falling_call p q) = ap edge_test p ∙ ap (λ (x : Edge). Some (record { clock = clock; edge = x })) (sym q)
has_edge_test t clock edge (event_and_level v p q) = ap edge_test p ∙ edge_found clock (edge_to v) edge q
has_edge_test t clock edge (level_and_event v p q) = ap edge_test p ∙ edge_found clock (edge_to v) edge q

-- the net of an edge test is one whose events are looked at
pub edge_test_event : (t : Test) (clock : ℕ) (edge : Edge) → IsEdgeTest t clock edge → test_events t ≡ clock ∷ []
edge_test_event t clock edge (rising_call p q) = ap test_events p
edge_test_event t clock edge (falling_call p q) = ap test_events p
edge_test_event t clock edge (event_and_level v p q) = ap test_events p
edge_test_event t clock edge (level_and_event v p q) = ap test_events p

-- ---- reset tests

or_from : (a b : Bool) → (a ≡ true) ⊎ (b ≡ true) → a || b ≡ true
or_from true b h = refl
or_from false b (inl h) = absurd cc
or_from false b (inr h) = h

pub is_reset_test : (wide : Bool) (inputs : List ℕ) (t : Test) (r : ResetTest) → reset_test wide inputs t ≡ Some r → IsResetTest wide inputs t r.net r.value
is_reset_test wide inputs (level plain net v) r h = go (wide || is_in inputs net) (edge_to v) refl refl h
  where
    may : (wide ≡ true) ⊎ (is_in inputs net ≡ true) → (wide ≡ true) ⊎ Contains inputs net
    may (inl w) = inl w
    may (inr i) = inr (in_contains inputs net i)

    go : (input : Bool) (o : Option Edge) → wide || is_in inputs net ≡ input → edge_to v ≡ o → reset_of_level input net v o ≡ Some r → IsResetTest wide inputs (level plain net v) r.net r.value
    go true (Some edge) a b g =
        let k : record { net = net; value = code_of v } ≡ r = cc in
        let n : net ≡ r.net = ap (λ (x : ResetTest). x.net) k in
        record {
          plain = plain;
          v = v;
          is = ap (λ (m : ℕ). level plain m v) n;
          one_or_zero = (edge, b);
          value_is = sym (ap (λ (x : ResetTest). x.value) k);
          may_reset = subst (λ (m : ℕ). (wide ≡ true) ⊎ Contains inputs m) n (may (or_cases wide (is_in inputs net) a));
        }
    go input o a b g = absurd cc
is_reset_test wide inputs t r h = absurd cc

pub has_reset_test : (wide : Bool) (inputs : List ℕ) (t : Test) (net value : ℕ) → IsResetTest wide inputs t net value → reset_test wide inputs t ≡ Some (record { net = net; value = value })
has_reset_test wide inputs t net value h = ap (reset_test wide inputs) h.is ∙ found (or_from wide (is_in inputs net) (may h.may_reset)) h.one_or_zero
  where
    may : (wide ≡ true) ⊎ Contains inputs net → (wide ≡ true) ⊎ (is_in inputs net ≡ true)
    may (inl w) = inl w
    may (inr c) = inr (contains_in inputs net c)

    found : wide || is_in inputs net ≡ true → ((edge : Edge) × (edge_to h.v ≡ Some edge)) → reset_of_level (wide || is_in inputs net) net h.v (edge_to h.v) ≡ Some (record { net = net; value = value })
    found a (edge, b) = rw (a, b) (ap (λ (x : ℕ). Some (record { net = net; value = x })) (sym h.value_is))

-- ---- '0' and '1' are what only their own numbers stand for

abbrev number : ℕ → ℕ
number c = code_of (value_of_code c)

abbrev IsExact : ℕ → Type 0
IsExact v = (c : ℕ) → (number c == v) ≡ (c == v)

past : (c v : ℕ) → v < 4 → false ≡ (suc (suc (suc (suc (suc (suc (suc (suc (suc c)))))))) == v)
past c v l = sym (ne_eqb (suc (suc (suc (suc (suc (suc (suc (suc (suc c))))))))) v (λ h. omega arith))

exact_zero : IsExact 2
exact_zero (suc (suc (suc (suc (suc (suc (suc (suc (suc c))))))))) = past c 2 (omega arith)
exact_zero _ = refl

exact_one : IsExact 3
exact_one (suc (suc (suc (suc (suc (suc (suc (suc (suc c))))))))) = past c 3 (omega arith)
exact_one _ = refl

exact : (v : Nine) (edge : Edge) → edge_to v ≡ Some edge → IsExact (code_of v)
exact Zero edge h = exact_zero
exact One edge h = exact_one
exact v edge h = absurd cc

pub reset_meets : (wide : Bool) (inputs : List ℕ) (t : Test) (net value : ℕ) (seen : Seen) → IsResetTest wide inputs t net value → is_met seen t ≡ (slice_index seen.now net == value)
reset_meets wide inputs t net value seen h =
    ap (is_met seen) h.is
    ∙ exact h.v h.one_or_zero.0 h.one_or_zero.1 (slice_index seen.now net)
    ∙ ap (λ (x : ℕ). slice_index seen.now net == x) (sym h.value_is)

-- ---- an event, and the net being '0' or '1' now

and_false : (a b : Bool) → a && false ≡ b && false
and_false true true = refl
and_false true false = refl
and_false false true = refl
and_false false false = refl

and_swap : (a b : Bool) → b && a ≡ a && b
and_swap true true = refl
and_swap true false = refl
and_swap false true = refl
and_swap false false = refl

event_to : (v x y : ℕ) → IsExact v → not (x == y) && (number y == v) ≡ not (number x == number y) && (number y == v)
event_to v x y h = go (number y == v) refl
  where
    go : (t : Bool) → (number y == v) ≡ t → not (x == y) && t ≡ not (number x == number y) && t
    go true e =
        let at : number y ≡ v = eqb-true (number y) v e in
        let at' : y ≡ v = eqb-true y v (sym (h y) ∙ e) in
        ap (λ (b : Bool). not b && true) (ap (λ (z : ℕ). x == z) at' ∙ sym (h x) ∙ ap (λ (z : ℕ). number x == z) (sym at))
    go false e = and_false (not (x == y)) (not (number x == number y))

level_edge : (v : Nine) (edge : Edge) (net : ℕ) (seen : Seen) → edge_to v ≡ Some edge
    → has_event seen.before seen.now net && is_met seen (level true net v) ≡ edge_at seen edge net
level_edge One To1 net seen h = event_to 3 (slice_index seen.before net) (slice_index seen.now net) exact_one
level_edge Zero To0 net seen h = event_to 2 (slice_index seen.before net) (slice_index seen.now net) exact_zero
level_edge v edge net seen h = absurd cc

-- an edge test is met where its net has the edge
pub edge_meets : (t : Test) (clock : ℕ) (edge : Edge) (seen : Seen) → IsEdgeTest t clock edge → is_met seen t ≡ edge_at seen edge clock
edge_meets t clock edge seen (rising_call p q) = ap (is_met seen) p ∙ ap (λ (x : Edge). edge_at seen x clock) (sym q)
edge_meets t clock edge seen (falling_call p q) = ap (is_met seen) p ∙ ap (λ (x : Edge). edge_at seen x clock) (sym q)
edge_meets t clock edge seen (event_and_level v p q) = ap (is_met seen) p ∙ level_edge v edge clock seen q
edge_meets t clock edge seen (level_and_event v p q) =
    ap (is_met seen) p ∙ and_swap (has_event seen.before seen.now clock) (is_met seen (level true clock v)) ∙ level_edge v edge clock seen q
