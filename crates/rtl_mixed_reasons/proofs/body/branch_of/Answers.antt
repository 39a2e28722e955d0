use Rattle.std.proofs.Common.{◌≤◌, ◌<◌, length, ap, sym, ◌∙◌, arith}
use Rattle.rtl_net.specs.Bodies.{statements_of}
use Rattle.rtl_mixed_reasons.proofs.Branching.{edge-branch, no-edge-branch}
use Rattle.rtl_mixed_reasons.proofs.body.branch_of.Goals as goal

pub returns-then-before-len : goal.returns-then-before-len
returns-then-before-len c =
    let i = c.in-If in
    let past : length i.branches.items ≤ c.args.before = omega (arith, c.if-before-len.true, c.len.ensures, i.branches.ok.0) in
    sym (no-edge-branch c.args.statement.now i.at i.branches i.otherwise i.is c.args.before past)

pub returns-else-before-len : goal.returns-else-before-len
returns-else-before-len c =
    let i = c.in-If in
    let there : c.args.before < length i.branches.items = omega (arith, c.if-before-len.false, c.len.ensures, i.branches.ok.0) in
    ap statements_of c.deref.ensures.value ∙ sym (edge-branch c.args.statement.now i.at i.branches i.otherwise i.is c.args.before c.index.result.now there c.index.ensures)
