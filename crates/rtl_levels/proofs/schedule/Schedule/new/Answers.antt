use Rattle.std.proofs.Common.{◌≡◌, ◌<◌, ℕ, List, [], Option, All, length, map, ap, sym, subst, ◌∙◌}
use Rattle.std.specs.List.Sorted.{IsNonDecreasingBy}
use Rattle.std.proofs.lemmas.List.Elements.{All-from_get_or}
use Rattle.std.proofs.lemmas.List.{get_or_default, length-map}
use Rattle.std.proofs.lemmas.Result.{IfOk-from_err}
use Rattle.rtl_model.specs.simulation.Netlist.{Process}
use Rattle.rtl_model.proofs.nets.Connected.{connected_is_elaborated}
use Rattle.rtl_kernel.specs.drivers.Transactions.{all_targets}
use Rattle.rtl_kernel.specs.wakes.Woken.{wakers_of}
use Rattle.rtl_kernel.proofs.Grouped.{groups_index}
use Rattle.rtl_net_groups.specs.Cuts.{AreCutsOf}
use Rattle.rtl_net.specs.Core.{core}
use Rattle.rtl_net.specs.Nets.{flat}
use Rattle.rtl_awaited_edges.specs.declared.awaited.ClockEdge.{ClockEdge}
use Rattle.rtl_awaited_edges.specs.Awaiting.{AreLeaders}
use Rattle.rtl_levels.specs.declared.order.Visit.{Visit}
use Rattle.rtl_levels.specs.Scheduled.{AreMarking}
use Rattle.rtl_levels.specs.Visits.{no_visit}
use Rattle.rtl_levels.proofs.FirstVisits.{has_first_visits, marking_there}
use Rattle.rtl_levels.proofs.Ordering.{visited_there}
use Rattle.rtl_levels.proofs.Wired.{all_targets_there, clocked_there, drives_of_all, wakes_there}
use Rattle.rtl_levels.proofs.schedule.Schedule.new.Goals as goal

pub marking_nets-requires-clause-processes : goal.marking_nets-requires-clause-processes
marking_nets-requires-clause-processes c =
    let net = core c.args.net.now in
    let visits = c.in_ok-visits.visits.items in
    let all = c.in_ok-moving.moving in
    subst (λ (xs : List Visit). All (λ visit. visit.process < length all) xs) (sym c.deref.ensures.value)
    (λ k d l. subst (λ (x : Visit). x.process < length all) (get_or_default visits k no_visit d l)
    (rw (c.in_ok-moving.ensures.each_process) (visited_there net c.args.nets.now visits c.in_ok-visits.ensures.visits k l)))

pub marking_nets-requires-clause-in_order : goal.marking_nets-requires-clause-in_order
marking_nets-requires-clause-in_order c =
    All-from_get_or (IsNonDecreasingBy (λ (m : ℕ × ℕ). m.0)) c.in_ok-moving.moving [] (λ p l. (c.in_ok-moving.ensures.each p l).in_order)

pub moving_nets-requires-clause-nets : goal.moving_nets-requires-clause-nets
moving_nets-requires-clause-nets c = c.requires.nets.each_net ∙ c.nets.ensures.elaborated.in_range.each_starts

pub visits_of-requires : goal.visits_of-requires
visits_of-requires c = c.requires.nets.each_net ∙ c.nets.ensures.elaborated.in_range.each_starts

pub new-requires : goal.new-requires
new-requires c =
    let net = c.args.net.now in
    let many : length c.deref-2.result.now ≡ length net.types = c.deref-2.ensures.len ∙ c.in_ok-together.ensures.len ∙ c.nets.ensures.count in
    let visits = c.in_ok-visits.visits.items in
    rw many
    (marking_there (core net) c.args.nets.now visits c.in_ok-visits.ensures.visits c.in_ok-moving.moving c.in_ok-moving.ensures c.in_ok-by_rank.by_rank
    (subst (λ (xs : List Visit). AreMarking c.in_ok-moving.moving xs c.in_ok-by_rank.by_rank) c.deref.ensures.value c.in_ok-by_rank.ensures)
    (length net.types) (wakes_there net c.nets.ensures.elaborated.in_range))

pub new-requires-2 : goal.new-requires-2
new-requires-2 c =
    let net = c.args.net.now in
    let many : length c.deref-3.result.now ≡ length net.types = c.deref-3.ensures.len ∙ c.in_ok-together.ensures.len ∙ c.nets.ensures.count in
    rw (c.in_ok-by_process.ensures, many) (clocked_there net c.nets.ensures.elaborated.in_range)

pub new-requires-3 : goal.new-requires-3
new-requires-3 c =
    let net = c.args.net.now in
    let R = c.nets.ensures.elaborated.in_range in
    let many : length c.deref-2.result.now ≡ length net.types = c.deref-2.ensures.len ∙ c.in_ok-together.ensures.len ∙ c.nets.ensures.count in
    let each = c.in_ok-readers.ensures.each_net ∙ many in
    rw (c.in_ok-targets.ensures, c.of_net.ensures.value, each, c.processes.ensures) (all_targets_there net R)

pub wholes_of-requires : goal.wholes_of-requires
wholes_of-requires c = c.count.ensures ∙ sym c.in_ok-cuts.ensures.each_process

pub wakes_of_clocked-requires : goal.wakes_of_clocked-requires
wakes_of_clocked-requires c = c.requires.clocked

pub returns : goal.returns
returns c =
    let net = c.args.net.now in
    let R = c.nets.ensures.elaborated.in_range in
    let nets = c.args.nets.now in
    let visits = c.in_ok-visits.visits.items in
    let V = c.in_ok-visits.ensures.visits in
    let all = c.in_ok-moving.moving in
    let by_rank = c.in_ok-by_rank.by_rank in
    let marking = subst (λ (xs : List Visit). AreMarking all xs by_rank) c.deref.ensures.value c.in_ok-by_rank.ensures in
    let many : length c.deref-2.result.now ≡ length net.types = c.deref-2.ensures.len ∙ c.in_ok-together.ensures.len ∙ c.nets.ensures.count in
    let many' : length c.deref-3.result.now ≡ length net.types = c.deref-3.ensures.len ∙ c.in_ok-together.ensures.len ∙ c.nets.ensures.count in
    record {
      elaborated = connected_is_elaborated (flat net) R c.nets.ensures.elaborated.connected;
      accepted = c.requires.accepted;
      nets = nets;
      nets_are = c.requires.nets;
      schedule = record {
        visits_are = V;
        firsts_are = c.in_ok-visits.ensures.first;
        readers_are = has_first_visits (core net) nets visits V all c.in_ok-moving.ensures by_rank marking (wakers_of c.in_ok-readers.readers)
            (groups_index c.in_ok-readers.readers c.deref-2.result.now by_rank
            (rw many (marking_there (core net) nets visits V all c.in_ok-moving.ensures by_rank marking (length net.types) (wakes_there net R))) c.in_ok-readers.ensures);
        clocked_are = rw (← c.in_ok-by_process.ensures) (groups_index c.in_ok-clocked.clocked c.deref-3.result.now c.in_ok-by_process.by_process (rw (c.in_ok-by_process.ensures, many') (clocked_there net R)) c.in_ok-clocked.ensures);
      };
      each_reader = length-map c.in_ok-readers.readers.of_net _ ∙ c.in_ok-readers.ensures.each_net ∙ many ∙ sym R.each_starts;
      each_clocked = length-map c.in_ok-clocked.clocked.of_net _ ∙ c.in_ok-clocked.ensures.each_net ∙ many' ∙ sym R.each_starts;
      cuts = subst (λ (ns : List ℕ). AreCutsOf ns (map (λ (p : Process). p.drives) (core net).processes) c.in_ok-cuts.cuts) c.of_net.ensures.value
          (subst (λ (ts : List (List ℕ)). AreCutsOf c.of_net.result.now ts c.in_ok-cuts.cuts) (c.in_ok-targets.ensures ∙ ap all_targets c.processes.ensures ∙ drives_of_all net) c.in_ok-cuts.ensures);
      wholes = c.in_ok-wholes.ensures;
      edges = c.in_ok-edges.ensures;
      leaders = subst (λ (es : List (Option ClockEdge)). AreLeaders es c.in_ok-leaders.leaders.items) c.deref-4.ensures.value c.in_ok-leaders.ensures;
    }

pub returns-in_err-visits : goal.returns-in_err-visits
returns-in_err-visits c = IfOk-from_err c.from_residual-in_err-visits.result _ c.from_residual-in_err-visits.ensures.0

pub returns-in_err-together : goal.returns-in_err-together
returns-in_err-together c = IfOk-from_err c.from_residual.result _ c.from_residual.ensures.0

pub returns-in_err-moving : goal.returns-in_err-moving
returns-in_err-moving c = IfOk-from_err c.from_residual-in_err-moving.result _ c.from_residual-in_err-moving.ensures.0

pub returns-in_err-by_rank : goal.returns-in_err-by_rank
returns-in_err-by_rank c = IfOk-from_err c.from_residual-in_err-by_rank.result _ c.from_residual-in_err-by_rank.ensures.0

pub returns-in_err-by_process : goal.returns-in_err-by_process
returns-in_err-by_process c = IfOk-from_err c.from_residual-in_err-by_process.result _ c.from_residual-in_err-by_process.ensures.0

pub returns-in_err-readers : goal.returns-in_err-readers
returns-in_err-readers c = IfOk-from_err c.from_residual-in_err-readers.result _ c.from_residual-in_err-readers.ensures.0

pub returns-in_err-clocked : goal.returns-in_err-clocked
returns-in_err-clocked c = IfOk-from_err c.from_residual-in_err-clocked.result _ c.from_residual-in_err-clocked.ensures.0

pub returns-in_err-targets : goal.returns-in_err-targets
returns-in_err-targets c = IfOk-from_err c.from_residual-in_err-targets.result _ c.from_residual-in_err-targets.ensures.0

pub returns-in_err-cuts : goal.returns-in_err-cuts
returns-in_err-cuts c = IfOk-from_err c.from_residual-in_err-cuts.result _ c.from_residual-in_err-cuts.ensures.0

pub returns-in_err-wholes : goal.returns-in_err-wholes
returns-in_err-wholes c = IfOk-from_err c.from_residual-in_err-wholes.result _ c.from_residual-in_err-wholes.ensures.0

pub returns-in_err-edges : goal.returns-in_err-edges
returns-in_err-edges c = IfOk-from_err c.from_residual-in_err-edges.result _ c.from_residual-in_err-edges.ensures.0

pub returns-in_err-leaders : goal.returns-in_err-leaders
returns-in_err-leaders c = IfOk-from_err c.from_residual-in_err-leaders.result _ c.from_residual-in_err-leaders.ensures.0
