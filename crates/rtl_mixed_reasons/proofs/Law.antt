-- A process that is neither clocked nor combinational has a reason; where the netlist isn't wide, no other has.
use Rattle.std.proofs.Common.{◌≡◌, ℕ, zero, suc, Bool, true, false, ◌&&◌, ◌||◌, ◌↔◌, List, [], ◌∷◌, ◌++◌, map, Option, Some, None, inl, inr, refl, sym, ◌∙◌}
use Rattle.std.specs.Prelude.{is_some, is_none, IsSome, if◌then◌else◌, slice_get, slice_index_or}
use Rattle.std.proofs.lemmas.Bool.{and_parts}
use Rattle.rtl_model.specs.bodies.Kinds.{Clocking, clocking}
use Rattle.rtl_model.specs.bodies.Reads.{stmt_events, events}
use Rattle.rtl_model.specs.nets.CoreNetlist.{core_process, core_kind}
use Rattle.rtl_model.specs.nets.FlatNetlist.{FlatProcess}
use Rattle.rtl_model.specs.simulation.Netlist as core
use Rattle.rtl_model.specs.simulation.Accepted.{MixedProcess, IsFault}
use Rattle.rtl_net.specs.declared.body.Statement.{Statement}
use Rattle.rtl_net.specs.declared.process.Process.{Process}
use Rattle.rtl_net.specs.Bodies.{statement_view, statements_of}
use Rattle.rtl_net.specs.Core.{core as core_of}
use Rattle.rtl_net.specs.Nets.{NetlistView, process_view, body_of}
use Rattle.rtl_body_facts.specs.Reading.{some}
use Rattle.rtl_mixed_reasons.specs.declared.reason.Reason.{Reason}
use Rattle.rtl_mixed_reasons.specs.Reasons.{first_in, gated_edge, edge_reason, first_edge, elsewhere, told_elsewhere, first_that_fits, is_mixed, reason_of_body}
use Rattle.rtl_mixed_reasons.specs.Unsteady.{unsteady_of, unsteady, reason_at, reason_of}
use Rattle.rtl_mixed_reasons.specs.Laws.{EachMixedHasAReason}

-- ---- a body with an edge or `'event` has a reason

some-append : (xs ys : List ℕ) → some (xs ++ ys) ≡ (some xs || some ys)
some-append [] ys = refl
some-append (x ∷ xs) ys = refl

elsewhere-there : (xs : List Statement) → some (events (statements_of xs)) ≡ true → is_some (first_in elsewhere xs) ≡ true
elsewhere-there [] h = absurd (let e : false ≡ true = h in cc)
elsewhere-there (x ∷ xs) h =
    go (some (stmt_events (statement_view x) ++ [])) (sym (some-append (stmt_events (statement_view x)) (events (statements_of xs))) ∙ h)
    (some-append (stmt_events (statement_view x)) []) (elsewhere-there xs)
  where
    go : (b : Bool) → (some (stmt_events (statement_view x)) || some (events (statements_of xs))) ≡ true → b ≡ (some (stmt_events (statement_view x)) || false)
        → (some (events (statements_of xs)) ≡ true → is_some (first_in elsewhere xs) ≡ true)
        → is_some (if is_some (if b then Some (told_elsewhere x) else None) then (if b then Some (told_elsewhere x) else None) else first_in elsewhere xs) ≡ true
    go true k e behind = refl
    go false k e behind = behind (rest (some (stmt_events (statement_view x))) (some (events (statements_of xs))) k (sym e))
      where
        rest : (a r : Bool) → (a || r) ≡ true → (a || false) ≡ false → r ≡ true
        rest true r k e = absurd cc
        rest false r k e = k

last-fits : (a b d : Option Reason) → is_some d ≡ true → is_some (first_that_fits (a ∷ b ∷ d ∷ [])) ≡ true
last-fits (Some x) b d h = refl
last-fits None (Some x) d h = refl
last-fits None None (Some x) h = refl
last-fits None None None h = absurd (let e : false ≡ true = h in cc)

body-has : (net : NetlistView) (p : Process) → some (events (body_of p)) ≡ true → is_some (reason_of_body net p) ≡ true
body-has net p h = last-fits (first_in (gated_edge net.wide) p.body.items) (edge_reason net p (first_edge 0 p.body.items)) (first_in elsewhere p.body.items) (elsewhere-there p.body.items h)

-- ---- one process

mixed-kind : (p : FlatProcess) (o : Option Clocking) (ns : List ℕ) → (core_kind p o ns ≡ core.Mixed) ↔ ((is_none o && some ns) ≡ true)
mixed-kind p (Some c) ns = (λ e. absurd cc, λ e. absurd cc)
mixed-kind p None [] = (λ e. absurd cc, λ e. absurd cc)
mixed-kind p None (n ∷ ns) = (λ e. refl, λ e. refl)

abbrev mixed-at : NetlistView → Option Process → Bool
mixed-at net None = false
mixed-at net (Some q) = is_mixed net q

is-mixed : (net : NetlistView) (ps : List Process) (p : ℕ)
    → ((slice_index_or (map (core_process net.wide net.inputs) (map process_view ps)) p core.no_process).kind ≡ core.Mixed) ↔ (mixed-at net (slice_get ps p) ≡ true)
is-mixed net [] p = (λ e. absurd cc, λ e. absurd cc)
is-mixed net (q ∷ qs) zero = mixed-kind (process_view q) (clocking net.wide net.inputs (body_of q)) (events (body_of q))
is-mixed net (q ∷ qs) (suc p) = is-mixed net qs p

there : (net : NetlistView) (o : Option Process) → mixed-at net o ≡ true → IsSome (reason_at net o)
there net None e = absurd cc
there net (Some q) e = go (is_mixed net q) e (body-has net q (and_parts (is_none (clocking net.wide net.inputs (body_of q))) (some (events (body_of q))) e).1)
  where
    go : (b : Bool) → b ≡ true → is_some (reason_of_body net q) ≡ true → IsSome (if b then reason_of_body net q else unsteady net q)
    go true e has = has
    go false e has = absurd cc

-- where the netlist isn't wide, nothing is told of a reset
narrow : (net : NetlistView) → net.wide ≡ false → (o : Option Process) → IsSome (reason_at net o) → mixed-at net o ≡ true
narrow net n None s = absurd (let e : false ≡ true = s in cc)
narrow net n (Some q) s = go (is_mixed net q) net.wide n s
  where
    go : (b wide : Bool) → wide ≡ false → IsSome (if b then reason_of_body net q else (if wide then unsteady_of net q else None)) → b ≡ true
    go true wide n s = refl
    go false true n s = absurd cc
    go false false n s = absurd (let e : false ≡ true = s in cc)

pub each-mixed : EachMixedHasAReason
each-mixed net p = (reason, λ n. (of-fault n, λ s. inl (of-mixed (narrow net n (slice_get net.processes p) s))))
  where
    of-mixed : mixed-at net (slice_get net.processes p) ≡ true → (core.process (core_of net) p).kind ≡ core.Mixed
    of-mixed = (is-mixed net net.processes p).1

    reason : (core.process (core_of net) p).kind ≡ core.Mixed → IsSome (reason_of net p)
    reason e = there net (slice_get net.processes p) ((is-mixed net net.processes p).0 e)

    of-fault : net.wide ≡ false → IsFault (core_of net) (MixedProcess p) → IsSome (reason_of net p)
    of-fault n (inl e) = reason e
    of-fault n (inr reset) = let e : false ≡ true = sym n ∙ reset.is_wide in absurd cc
