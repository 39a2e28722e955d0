-- The edges without which processes assign nothing.
use Rattle.std.proofs.Common.{◌≡◌, ℕ, zero, suc, ◌+◌, ◌<◌, ◌≤◌, Bool, false, List, [], ◌∷◌, ◌++◌, length, get_or, map, Option, Some, None, refl, sym, ap, subst, ◌∙◌, arith, ◌⊎◌, inl, inr, true, not, ◌&&◌}
use Rattle.std.specs.Prelude.{option_map, Contains, IfSome}
use Rattle.std.proofs.lemmas.Bool.{cases_lt}
use Rattle.std.proofs.lemmas.List.{get_or_past, length-map}
use Rattle.std.proofs.lemmas.List.Elements.{All-contains, Contains-append_left, Contains-append_right, Contains-push}
use Rattle.rtl_model.specs.simulation.Netlist.{Netlist, Edge, process, Clocked}
use Rattle.rtl_model.specs.simulation.Elaborated.{IsElaborated}
use Rattle.rtl_model.specs.basics.Valuations.{clocked_entry}
use Rattle.rtl_model.specs.simulation.Netlist as m
use Rattle.rtl_model.specs.bodies.Kinds as k
use Rattle.rtl_model.specs.bodies.Body.{Stmts, branch, no_else}
use Rattle.rtl_model.specs.bodies.Reads.{events, branches_events, test_events}
use Rattle.rtl_model.specs.nets.CoreNetlist.{core_kind, core_netlist, core_process, core_reset}
use Rattle.rtl_model.specs.nets.FlatNetlist.{FlatNetlist, FlatProcess, IsInRange, no_flat_process, process_at, scope_of}
use Rattle.rtl_model.proofs.basics.Lists.{get_or-map_within}
use Rattle.rtl_model.proofs.bodies.Clocking.{clocked_is}
use Rattle.rtl_model.proofs.bodies.EdgeTests.{edge_test_event}
use Rattle.rtl_model.proofs.bodies.There.{each_read_is_there}
use Rattle.rtl_model.proofs.nets.InRange.{process_in_range}
use Rattle.rtl_model.proofs.nets.Processes.{is_at_edge, process-core_net}
use Rattle.rtl_net.specs.Core.{core}
use Rattle.rtl_net.specs.Nets.{NetlistView, body_of, flat, process_view}
use Rattle.rtl_net.specs.declared.process.Process.{Process}
use Rattle.rtl_body_facts.specs.Timing.{kind_view, part_net}
use Rattle.rtl_awaited_edges.specs.declared.awaited.ClockEdge.{ClockEdge}
use Rattle.rtl_awaited_edges.specs.Awaiting.{AreEdges, IsAsleep, awaited_edge, edge_alone, edge_of_kind, unless_reset}
use Rattle.rtl_awaited_edges.specs.Laws.{EachAsleepAssignsNothing}

pub processes_many : (net : NetlistView) → length (core net).processes ≡ length net.processes
processes_many net = length-map (flat net).processes (core_process net.wide net.inputs) ∙ length-map net.processes process_view

-- ---- edges

-- what is kept of a process is the edge of its kind
alone : (p : FlatProcess) (o : Option k.Clocking) (ns : List ℕ) → edge_alone (kind_view o ns) ≡ edge_of_kind (core_kind p o ns)
alone p None [] = refl
alone p None (n ∷ ns) = refl
alone p (Some c) ns = by c.reset refl
  where
    here : ClockEdge
    here = record { clock = c.test.clock; edge = c.test.edge }

    by : (o : Option k.ResetPart) → c.reset ≡ o → unless_reset (option_map part_net c.reset) here ≡ edge_of_kind (Clocked c.test.clock c.test.edge (core_reset p c.reset))
    by None none = rw none refl
    by (Some r) some = rw some refl

pub kind_alone : (net : NetlistView) (p : ℕ) (x : Process) → p < length net.processes → x ≡ get_or net.processes p x
    → edge_alone (kind_view (k.clocking net.wide net.inputs (body_of x)) (events (body_of x))) ≡ awaited_edge (core net) p
kind_alone net p x l is =
    let there : p < length (map process_view net.processes) = rw (length-map net.processes process_view) l in
    alone (process_view x) (k.clocking net.wide net.inputs (body_of x)) (events (body_of x))
    ∙ sym (ap (λ (q : m.Process). edge_of_kind q.kind) (get_or-map_within (core_process net.wide net.inputs) (map process_view net.processes) p (process_view x) m.no_process there
    ∙ ap (core_process net.wide net.inputs) (get_or-map_within process_view net.processes p x (process_view x) l ∙ ap process_view (sym is))))

pub get_or-push : {X : Type 0} (xs : List X) (x d : X) → get_or (xs ++ x ∷ []) (length xs) d ≡ x
get_or-push [] x d = refl
get_or-push (y ∷ ys) x d = get_or-push ys x d

pub get_or-push_below : {X : Type 0} (xs : List X) (x : X) (p : ℕ) (d : X) → p < length xs → get_or (xs ++ x ∷ []) p d ≡ get_or xs p d
get_or-push_below [] x p d l = absurd (omega arith)
get_or-push_below (y ∷ ys) x zero d l = refl
get_or-push_below (y ∷ ys) x (suc p) d l = get_or-push_below ys x p d (omega arith)

-- what holds of each that is there and of the one that is put behind them holds of all
pub each_more : {X : Type 0} (d : X) (P : ℕ → X → Type 0) (old new : List X) (x : X) (i : ℕ) → length old ≡ i → new ≡ old ++ x ∷ [] → ((p : ℕ) → p < i → P p (get_or old p d)) → P i x
    → (p : ℕ) → p < i + 1 → P p (get_or new p d)
each_more {X} d P old new x i many is so_far now p l = by (cases_lt p i)
  where
    by : (p < i) ⊎ (i ≤ p) → P p (get_or new p d)
    by (inl less) = subst (P p) (sym (ap (λ (xs : List X). get_or xs p d) is ∙ get_or-push_below old x p d (omega (arith, less, many)))) (so_far p less)
    by (inr low) =
        let at : i ≡ p = omega (arith, low, l) in
        let told : x ≡ get_or new i d = sym (get_or-push old x d) ∙ sym (ap (λ (xs : List X). get_or xs (length old) d) is) ∙ ap (λ (k : ℕ). get_or new k d) many in
        subst (λ (q : ℕ). P q (get_or new q d)) at (subst (P i) told now)

-- the edges of all processes, and of no other
pub all_edges : (net : Netlist) (edges : List (Option ClockEdge)) → length edges ≡ length net.processes → ((p : ℕ) → p < length net.processes → get_or edges p None ≡ awaited_edge net p) → AreEdges net edges
all_edges net edges many each = record {
  each_process = many;
  each = λ p. by p (cases_lt p (length net.processes));
}
  where
    by : (p : ℕ) → (p < length net.processes) ⊎ (length net.processes ≤ p) → get_or edges p None ≡ awaited_edge net p
    by p (inl l) = each p l
    by p (inr past) = get_or_past edges p None (omega (arith, past, many)) ∙ sym (ap (λ (q : m.Process). edge_of_kind q.kind) (get_or_past net.processes p m.no_process past))

-- ---- what is asleep

-- a clocked process without a reset leaves nothing without its edge
pub leaves_nothing : (net : Netlist) → IsElaborated net → (p clock : ℕ) (edge : Edge) → (process net p).kind ≡ Clocked clock edge None → (before v : List ℕ)
    → net.edge edge (get_or before clock 0) (get_or v clock 0) ≡ false → (place : ℕ) → get_or ((process net p).effect before v) place None ≡ None
leaves_nothing net E p clock edge is before v none place =
    E.bodies.clocked_acts p clock place edge before v (None, is)
    ∙ ap (λ (k : m.ProcessKind). clocked_entry (m.resets (m.kind_reset k) (λ n. get_or v n 0)) (net.edge edge (get_or before clock 0) (get_or v clock 0) && not (m.holds_back (m.kind_reset k) (λ n. get_or v n 0))) (m.reset_entry (m.kind_reset k) place) (get_or ((process net p).acting_effect v) place None)) is
    ∙ ap (λ (b : Bool). clocked_entry false (b && true) None (get_or ((process net p).acting_effect v) place None)) none

-- the clock of a clocked process is a net
clock_tested : (wide : Bool) (inputs : List ℕ) (body : Stmts) (c : k.Clocking) → k.IsClocked wide inputs body c → Contains (events body) c.test.clock
clock_tested wide inputs body c (inl a) =
    let tested = subst (λ (ns : List ℕ). Contains ns c.test.clock) (sym (edge_test_event a.test c.test.clock c.test.edge a.edge)) (Contains-push [] c.test.clock) in
    subst (λ (s : Stmts). Contains (events s) c.test.clock) (sym a.is)
    (Contains-append_left (branches_events (branch a.test c.branch no_else)) [] c.test.clock (Contains-append_left (test_events a.test) (events c.branch ++ []) c.test.clock tested))
clock_tested wide inputs body c (inr (inr a)) =
    let tested = subst (λ (ns : List ℕ). Contains ns c.test.clock) (sym (edge_test_event a.test c.test.clock c.test.edge a.edge)) (Contains-push [] c.test.clock) in
    subst (λ (s : Stmts). Contains (events s) c.test.clock) (sym a.is)
    (Contains-append_left (branches_events (branch a.test c.branch no_else)) _ c.test.clock (Contains-append_left (test_events a.test) (events c.branch ++ []) c.test.clock tested))
clock_tested wide inputs body c (inr (inl a)) =
    let tested = subst (λ (ns : List ℕ). Contains ns c.test.clock) (sym (edge_test_event a.test c.test.clock c.test.edge a.edge)) (Contains-push [] c.test.clock) in
    let inner = branches_events (branch a.test c.branch no_else) in
    subst (λ (s : Stmts). Contains (events s) c.test.clock) (sym a.is)
    (Contains-append_left (branches_events (branch a.first a.reset.branch (branch a.test c.branch no_else))) [] c.test.clock
    (Contains-append_right (test_events a.first) (events a.reset.branch ++ inner) c.test.clock
    (Contains-append_right (events a.reset.branch) inner c.test.clock (Contains-append_left (test_events a.test) (events c.branch ++ []) c.test.clock tested))))

pub clock_is_net : (net : FlatNetlist) → IsInRange net → (p clock : ℕ) (edge : Edge) (reset : Option m.Reset) → (process (core_netlist net) p).kind ≡ Clocked clock edge reset
    → clock < length net.types
clock_is_net net R p clock edge reset is = by (cases_lt p (length net.processes))
  where
    kind_is : (core_process net.wide net.inputs (process_at net p)).kind ≡ Clocked clock edge reset
    kind_is = sym (ap (λ (q : m.Process). q.kind) (process-core_net net p)) ∙ is

    by : (p < length net.processes) ⊎ (length net.processes ≤ p) → clock < length net.types
    by (inl l) =
        let q = process_at net p in
        let a = is_at_edge net.wide net.inputs q clock edge reset kind_is in
        let there = (each_read_is_there (scope_of net.types q) q.body (process_in_range net R p l).body).events_too in
        subst (λ (n : ℕ). n < length net.types) a.clock_is
        (All-contains (λ n. n < length net.types) (events q.body) a.parts.test.clock there (clock_tested net.wide net.inputs q.body a.parts (clocked_is net.wide net.inputs q.body a.parts a.is)))
    by (inr past) =
        let f : m.Combinational ≡ Clocked clock edge reset = sym (ap (λ (q : FlatProcess). (core_process net.wide net.inputs q).kind) (get_or_past net.processes p no_flat_process past)) ∙ kind_is in
        absurd cc

-- a process that awaits an edge is clocked without a reset
pub awaits : (kind : m.ProcessKind) (e : ClockEdge) → edge_of_kind kind ≡ Some e → kind ≡ Clocked e.clock e.edge None
awaits (m.Clocked clock edge None) e is =
    let same : record { clock = clock; edge = edge } ≡ e = cc in
    ap (λ (x : ClockEdge). Clocked x.clock x.edge None) same
awaits _ e is = absurd cc

-- the clock whose edge a process awaits is a net
pub clock_there : (net : NetlistView) → IsInRange (flat net) → (edges : List (Option ClockEdge)) → AreEdges (core net) edges → (v : List ℕ) → length v ≡ length (flat net).start
    → (p : ℕ) → IfSome (get_or edges p None) (λ (e : ClockEdge). e.clock < length v)
clock_there net R edges A v many p = by (get_or edges p None) refl
  where
    by : (o : Option ClockEdge) → get_or edges p None ≡ o → IfSome o (λ (e : ClockEdge). e.clock < length v)
    by None is = tt
    by (Some e) is = rw (many, R.each_starts) (clock_is_net (flat net) R p e.clock e.edge None (awaits (process (core net) p).kind e (sym (A.each p) ∙ is)))

pub each_asleep_assigns_nothing : EachAsleepAssignsNothing
each_asleep_assigns_nothing net E before v p asleep place = by (awaited_edge (core net) p) refl asleep
  where
    by : (o : Option ClockEdge) → awaited_edge (core net) p ≡ o → IsAsleep o before v → get_or ((process (core net) p).effect before v) place None ≡ None
    by None is h = absurd h
    by (Some e) is h = leaves_nothing (core net) E p e.clock e.edge (awaits (process (core net) p).kind e is) before v h place

pub nothing_left : (net : NetlistView) → IsElaborated (core net) → (edges : List (Option ClockEdge)) → AreEdges (core net) edges → (before v : List ℕ) (p : ℕ)
    → IsAsleep (get_or edges p None) before v → (place : ℕ) → get_or ((process (core net) p).effect before v) place None ≡ None
nothing_left net E edges A before v p asleep = each_asleep_assigns_nothing net E before v p (subst (λ (o : Option ClockEdge). IsAsleep o before v) (A.each p) asleep)
