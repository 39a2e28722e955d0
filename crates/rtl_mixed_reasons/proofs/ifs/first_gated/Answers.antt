use Rattle.std.proofs.Common.{◌+◌, Bool, Some, None, refl, sym, ap, ◌∙◌}
use Rattle.std.specs.Prelude.{if◌then◌else◌}
use Rattle.rtl_net.specs.declared.body.Branch.{Branch}
use Rattle.rtl_net.specs.Bodies.{test_view}
use Rattle.rtl_mixed_reasons.specs.Edges.{is_gated}
use Rattle.rtl_mixed_reasons.specs.Reasons.{first_gated, tests_of}
use Rattle.rtl_mixed_reasons.proofs.Searches.{found, passed, ended, gated-one, gated-step}
use Rattle.rtl_mixed_reasons.proofs.Branching.{test-at, test-there, tests-end}
use Rattle.rtl_mixed_reasons.proofs.ifs.first_gated.Goals as goal

pub returns-then-is_gated : goal.returns-then-is_gated
returns-then-is_gated c =
    let l = c.loop-before in
    let b = c.index-branches-before.result in
    found (gated-one l.before) (first_gated l.before) (first_gated (l.before + 1)) (tests_of c.args.branches.now) l.before (gated-step l.before) (test_view b.test) _ _
    (test-there c.args.branches.now l.before c.loop-before-test.true) (test-at c.args.branches.now l.before b c.loop-before-test.true c.index-branches-before.is) l.invariant
    (ap (λ (s : Bool). if s then Some l.before else None) (ap (λ (x : Branch). is_gated (test_view x.test)) c.index-branches-before.is ∙ (sym c.is_gated.ensures ∙ c.if-is_gated.true)))

pub loop-before-preserved : goal.loop-before-preserved
loop-before-preserved c =
    let l = c.loop-before in
    let b = c.index-branches-before.result in
    passed (gated-one l.before) (first_gated l.before) (first_gated (l.before + 1)) (tests_of c.args.branches.now) l.before (gated-step l.before) (test_view b.test) _
    (test-there c.args.branches.now l.before c.loop-before-test.true) (test-at c.args.branches.now l.before b c.loop-before-test.true c.index-branches-before.is) l.invariant
    (ap (λ (s : Bool). if s then Some l.before else None) (ap (λ (x : Branch). is_gated (test_view x.test)) c.index-branches-before.is ∙ (sym c.is_gated.ensures ∙ c.if-is_gated.false)))

pub returns : goal.returns
returns c = let l = c.loop-before in
    ended (first_gated l.before) (tests_of c.args.branches.now) l.before _ (tests-end c.args.branches.now l.before c.loop-before-test.false) refl l.invariant
