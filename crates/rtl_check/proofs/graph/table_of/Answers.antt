use Rattle.std.proofs.Common.{◌≡◌, length, arith, ◌∙◌}
use Rattle.rtl_net.specs.Core.{core}
use Rattle.rtl_check.proofs.Rows.{table_is}
use Rattle.rtl_check.proofs.graph.table_of.Goals as goal

pub returns : goal.returns
returns c =
    let net = core c.args.net.now in
    let l = c.loop-process in
    let all : l.process ≡ length net.processes = omega (arith, c.loop-process-test.false, l.auto.process-end, c.requires.each_process) in
    table_is net l.table.items (l.invariant.so_many ∙ all) (λ q h. l.invariant.so_far q (omega (arith, all, h)))
