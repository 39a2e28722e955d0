use Rattle.std.proofs.Common.{◌+◌, refl, sym, ◌∙◌}
use Rattle.rtl_mixed_reasons.specs.Reasons.{first_edge, edge_if}
use Rattle.rtl_mixed_reasons.proofs.Searches.{found, passed, ended}
use Rattle.rtl_mixed_reasons.proofs.ifs.first_edge.Goals as goal

pub returns-in-Some : goal.returns-in-Some
returns-in-Some c =
    let l = c.loop-number in
    found (edge_if l.number) (first_edge l.number) (first_edge (l.number + 1)) c.args.statements.now l.number (λ x rest. refl) c.index-statements-number.result _ _
    c.loop-number-test.true c.index-statements-number.is l.invariant (sym c.edge_if.ensures ∙ c.in-Some.is)

pub loop-number-preserved : goal.loop-number-preserved
loop-number-preserved c =
    let l = c.loop-number in
    passed (edge_if l.number) (first_edge l.number) (first_edge (l.number + 1)) c.args.statements.now l.number (λ x rest. refl) c.index-statements-number.result _
    c.loop-number-test.true c.index-statements-number.is l.invariant (sym c.edge_if.ensures ∙ c.in_default.is)

pub returns : goal.returns
returns c = let l = c.loop-number in
    ended (first_edge l.number) c.args.statements.now l.number _ c.loop-number-test.false refl l.invariant
