use Rattle.std.proofs.Common.{◌+◌, refl, sym, ap, ◌∙◌}
use Rattle.rtl_net.specs.declared.body.Branch.{Branch}
use Rattle.rtl_net.specs.Bodies.{test_view}
use Rattle.rtl_model.specs.bodies.Body.{Test}
use Rattle.rtl_mixed_reasons.specs.Edges.{edge_of}
use Rattle.rtl_mixed_reasons.specs.Reasons.{edge_in, tests_of}
use Rattle.rtl_mixed_reasons.proofs.Searches.{found, passed, ended, edge-one, edge-step}
use Rattle.rtl_mixed_reasons.proofs.Branching.{test-at, test-there, tests-end}
use Rattle.rtl_mixed_reasons.proofs.ifs.edge_in.Goals as goal

pub returns-in-Some : goal.returns-in-Some
returns-in-Some c =
    let l = c.loop-before in
    let n = c.args.number in
    let at = c.args.at in
    let b = c.index-branches-before.result in
    found (λ (t : Test). edge-one n at l.before (edge_of t)) (edge_in n at l.before) (edge_in n at (l.before + 1)) (tests_of c.args.branches.now) l.before (edge-step n at l.before) (test_view b.test) _ _
    (test-there c.args.branches.now l.before c.loop-before-test.true) (test-at c.args.branches.now l.before b c.loop-before-test.true c.index-branches-before.is) l.invariant
    (ap (edge-one n at l.before) (ap (λ (x : Branch). edge_of (test_view x.test)) c.index-branches-before.is ∙ sym c.edge_of.ensures ∙ c.in-Some.is))

pub loop-before-preserved : goal.loop-before-preserved
loop-before-preserved c =
    let l = c.loop-before in
    let n = c.args.number in
    let at = c.args.at in
    let b = c.index-branches-before.result in
    passed (λ (t : Test). edge-one n at l.before (edge_of t)) (edge_in n at l.before) (edge_in n at (l.before + 1)) (tests_of c.args.branches.now) l.before (edge-step n at l.before) (test_view b.test) _
    (test-there c.args.branches.now l.before c.loop-before-test.true) (test-at c.args.branches.now l.before b c.loop-before-test.true c.index-branches-before.is) l.invariant
    (ap (edge-one n at l.before) (ap (λ (x : Branch). edge_of (test_view x.test)) c.index-branches-before.is ∙ sym c.edge_of.ensures ∙ c.in_default.is))

pub returns : goal.returns
returns c = let l = c.loop-before in
    ended (edge_in c.args.number c.args.at l.before) (tests_of c.args.branches.now) l.before _ (tests-end c.args.branches.now l.before c.loop-before-test.false) refl l.invariant
