use Rattle.std.proofs.Common.{◌++◌, ℕ, List, get_or, take, sym, ap, subst, ◌∙◌}
use Rattle.std.proofs.lemmas.List.{take_more, take_all}
use Rattle.rtl_model.specs.simulation.Netlist.{Edge, Rising, Falling, To1, To0}
use Rattle.rtl_model.specs.simulation.Report.{AreClocks}
use Rattle.rtl_net.specs.Core.{core}
use Rattle.rtl_check.specs.ClockEdges.{nets_by, edges_at, pairs_of}
use Rattle.rtl_check.proofs.ClockPairs.{pairs_push, clocks_listed}
use Rattle.rtl_check.proofs.clock_edges.clock_edges.Goals as goal

pub push_edges-requires-clause-rising : goal.push_edges-requires-clause-rising
push_edges-requires-clause-rising c = (c.in_ok-nets.ensures Rising).rise

pub push_edges-requires-clause-falling : goal.push_edges-requires-clause-falling
push_edges-requires-clause-falling c = (c.in_ok-nets.ensures Falling).rise

pub push_edges-requires-clause-to_one : goal.push_edges-requires-clause-to_one
push_edges-requires-clause-to_one c = (c.in_ok-nets.ensures To1).rise

pub push_edges-requires-clause-to_zero : goal.push_edges-requires-clause-to_zero
push_edges-requires-clause-to_zero c = (c.in_ok-nets.ensures To0).rise

pub loop-clock-preserved : goal.loop-clock-preserved
loop-clock-preserved c =
    let clocks = c.args.clocks.now in
    let nets = nets_by c.in_ok-nets.nets in
    let i = c.loop-clock.clock-index in
    let x = get_or clocks i 0 in
    c.in_ok-push_edges.ensures ∙ (ap (λ (ps : List (ℕ × Edge)). ps ++ edges_at nets x) c.loop-clock.invariant
    ∙ (sym (pairs_push nets (take i clocks) x) ∙ ap (pairs_of nets) (sym (take_more clocks i 0 c.loop-clock-test.true))))

pub returns : goal.returns
returns c =
    let clocks = c.args.clocks.now in
    let nets = nets_by c.in_ok-nets.nets in
    subst (AreClocks (core c.args.net.now)) (sym (c.loop-clock.invariant ∙ ap (pairs_of nets) (take_all c.loop-clock.clock-index clocks c.loop-clock-test.false)))
    (clocks_listed (core c.args.net.now) nets clocks c.requires.clocks c.in_ok-nets.ensures)
