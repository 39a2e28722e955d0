use Rattle.std.proofs.Common.{◌+◌, ◌<◌, length, ap, sym, ◌∙◌, arith}
use Rattle.rtl_mixed_reasons.specs.Reasons.{first_edge}
use Rattle.rtl_mixed_reasons.proofs.Searches.{edge-there}
use Rattle.rtl_mixed_reasons.proofs.body.reason_of_body.Goals as goal

pub edge_reason-requires : goal.edge_reason-requires
edge_reason-requires c =
    let xs = c.args.process.now.body.items in
    let i = c.in-Some-first_edge.found in
    let k : i.number < 0 + length xs = edge-there 0 xs i (sym (c.first_edge.ensures ∙ ap (first_edge 0) c.deref-2.ensures.value) ∙ c.in-Some-first_edge.is) in
    omega arith
