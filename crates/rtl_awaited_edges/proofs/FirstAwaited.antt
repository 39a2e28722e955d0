-- Processes that await the first edge that one awaits.
use Rattle.std.proofs.Common.{◌≡◌, ℕ, suc, ◌+◌, ◌<◌, ◌≤◌, Bool, true, false, List, [], ◌∷◌, ◌++◌, Option, Some, None, length, get_or, take, refl, sym, ap, subst, ◌∙◌, IsSome, arith, ◌⊎◌, inl, inr}
use Rattle.std.specs.Prelude.{IfSome}
use Rattle.std.specs.Option.{option_or}
use Rattle.std.proofs.lemmas.Bool.{cases_lt}
use Rattle.std.proofs.lemmas.List.{get_or_past, take_all, take_more}
use Rattle.rtl_model.specs.nets.FlatNetlist.{IsInRange}
use Rattle.rtl_model.specs.simulation.Elaborated.{IsElaborated}
use Rattle.rtl_model.specs.simulation.Netlist.{Netlist, Process, no_process, process}
use Rattle.rtl_net.specs.Core.{core}
use Rattle.rtl_net.specs.Nets.{NetlistView, flat}
use Rattle.rtl_awaited_edges.specs.declared.awaited.ClockEdge.{ClockEdge}
use Rattle.rtl_awaited_edges.specs.Awaiting.{AwaitFirst, IsAsleep, awaited_edge, edge_of_kind, first_edge}
use Rattle.rtl_awaited_edges.proofs.Edges.{awaits, clock_is_net, each_asleep_assigns_nothing}

or_none : (o : Option ClockEdge) → o ≡ option_or o None
or_none (Some e) = refl
or_none None = refl

or_assoc : (o p q : Option ClockEdge) → option_or o (option_or p q) ≡ option_or (option_or o p) q
or_assoc (Some e) p q = refl
or_assoc None p q = refl

first_push : (ps : List Process) (p : Process) → first_edge (ps ++ p ∷ []) ≡ option_or (first_edge ps) (edge_of_kind p.kind)
first_push [] p = sym (or_none (edge_of_kind p.kind))
first_push (q ∷ ps) p = ap (option_or (edge_of_kind q.kind)) (first_push ps p) ∙ or_assoc (edge_of_kind q.kind) (first_edge ps) (edge_of_kind p.kind)

-- one process more
pub first_more : (net : Netlist) (i : ℕ) → i < length net.processes → (awaited edge : Option ClockEdge) → awaited ≡ first_edge (take i net.processes) → edge ≡ awaited_edge net i
    → option_or awaited edge ≡ first_edge (take (i + 1) net.processes)
first_more net i there awaited edge first is =
    ap (λ (o : Option ClockEdge). option_or o edge) first ∙ ap (option_or (first_edge (take i net.processes))) is
    ∙ sym (ap first_edge (take_more net.processes i no_process there) ∙ first_push (take i net.processes) (get_or net.processes i no_process))

pub stays_first : (o other : Option ClockEdge) → IsSome o → option_or o other ≡ o
stays_first (Some e) other some = refl
stays_first None other some = absurd cc

pub all_await : (net : Netlist) (i : ℕ) (awaited : Option ClockEdge) (await_it : List Bool) → i ≡ length net.processes → length await_it ≡ i → awaited ≡ first_edge (take i net.processes)
    → ((p : ℕ) → p < i → get_or await_it p false ≡ true → (awaited_edge net p ≡ awaited) × IsSome awaited) → AwaitFirst net awaited await_it
all_await net i awaited await_it all many first each = record {
  first = first ∙ ap first_edge (take_all i net.processes (omega (arith, all)));
  each_process = many ∙ all;
  each = λ p b. by p b (cases_lt p i);
}
  where
    by : (p : ℕ) → get_or await_it p false ≡ true → (p < i) ⊎ (i ≤ p) → awaited_edge net p ≡ awaited
    by p b (inl l) = (each p l b).0
    by p b (inr past) = let f = get_or_past await_it p false (omega (arith, past, many)) in absurd cc

-- ---- what is asleep

found : (ps : List Process) (e : ClockEdge) → first_edge ps ≡ Some e → (p : ℕ) × (edge_of_kind (get_or ps p no_process).kind ≡ Some e)
found [] e is = absurd cc
found (q ∷ ps) e is = by (edge_of_kind q.kind) refl is (found ps e)
  where
    by : (o : Option ClockEdge) → edge_of_kind q.kind ≡ o → option_or o (first_edge ps) ≡ Some e → (first_edge ps ≡ Some e → (p : ℕ) × (edge_of_kind (get_or ps p no_process).kind ≡ Some e))
        → (p : ℕ) × (edge_of_kind (get_or (q ∷ ps) p no_process).kind ≡ Some e)
    by (Some d) at is rest = (0, at ∙ is)
    by None at is rest = let (p, told) = rest is in (suc p, told)

-- the clock of the first edge is there
pub first_there : (net : NetlistView) → IsInRange (flat net) → (v : List ℕ) → length v ≡ length (flat net).start → (awaited : Option ClockEdge) → awaited ≡ first_edge (core net).processes
    → IfSome awaited (λ (e : ClockEdge). e.clock < length v)
first_there net R v many None is = tt
first_there net R v many (Some e) is =
    let (p, told) = found (core net).processes e (sym is) in
    rw (many, R.each_starts) (clock_is_net (flat net) R p e.clock e.edge None (awaits (process (core net) p).kind e told))

-- a process that awaits the first edge leaves nothing where that isn't there
pub asleep_left : (net : NetlistView) → IsElaborated (core net) → (awaited : Option ClockEdge) (await_it : List Bool) → AwaitFirst (core net) awaited await_it → (before v : List ℕ) (p : ℕ)
    → get_or await_it p false ≡ true → IsAsleep awaited before v → (place : ℕ) → get_or ((process (core net) p).effect before v) place None ≡ None
asleep_left net E awaited await_it F before v p follows asleep =
    each_asleep_assigns_nothing net E before v p (subst (λ (o : Option ClockEdge). IsAsleep o before v) (sym (F.each p follows)) asleep)
