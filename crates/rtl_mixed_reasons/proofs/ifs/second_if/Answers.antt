use Rattle.std.proofs.Common.{true, false, Some, ap, sym, ◌∙◌}
use Rattle.rtl_mixed_reasons.specs.Reasons.{other_edge}
use Rattle.rtl_mixed_reasons.proofs.Searches.{no-second, second-is}
use Rattle.rtl_mixed_reasons.proofs.ifs.second_if.Goals as goal

pub returns-in_default : goal.returns-in_default
returns-in_default c = no-second c.args.wide c.args.process.now c.args.first.now c.args.statement.now c.args.found (sym c.edge_if.ensures ∙ c.in_default.is)

pub returns-then-is_same_edge : goal.returns-then-is_same_edge
returns-then-is_same_edge c =
    let j = c.in-Some.second in
    c.same_again.ensures ∙ second-is c.args.wide c.args.process.now c.args.first.now c.args.statement.now c.args.found j true (sym c.edge_if.ensures ∙ c.in-Some.is) (sym c.is_same_edge.ensures ∙ c.if-is_same_edge.true)

pub returns : goal.returns
returns c =
    let j = c.in-Some.second in
    ap Some (c.other_edge.ensures ∙ ap (other_edge j.at) c.in_ok-net.ensures)
    ∙ second-is c.args.wide c.args.process.now c.args.first.now c.args.statement.now c.args.found j false (sym c.edge_if.ensures ∙ c.in-Some.is) (sym c.is_same_edge.ensures ∙ c.if-is_same_edge.false)
