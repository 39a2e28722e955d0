use Rattle.std.proofs.Common.{rules, arith, []}
use Rattle.std.proofs.lemmas.Grind.{common_steps}
use Rattle.vhdl_tree.specs.View.{concurrents_view}
use Rattle.vhdl_parser_expressions.specs.reader.Input.{many_from}
use Rattle.vhdl_parser.specs.reader.Concurrent as read
use Rattle.vhdl_parser.specs.reader.Concurrent.{for_generate, if_generate}
use Rattle.vhdl_parser_expressions.proofs.Turns.{one_more}
use Rattle.vhdl_parser.proofs.Deeper.{concurrents_below}
use Rattle.vhdl_parser.proofs.concurrent.+concurrent.Goals as goal

pub concurrents-loop-turn-preserved : goal.concurrents-loop-turn-preserved
unfolding many_from
concurrents-loop-turn-preserved t c =
    let e = one_more (λ n. many_from (read.begins_concurrent c.args.language) (read.concurrent c.args.language c.args.levels (read.deeper_concurrents c.args.language c.args.levels)) n (concurrents_view c.loop-turn.found) c.loop-turn.parser) _ c.loop-turn._turn c.loop-turn-test.true c.loop-turn.invariant in
    first_of (search rules, grind (arith, common_steps))

pub for_generate-returns : goal.for_generate-returns
unfolding for_generate
for_generate-returns t c =
    let e = concurrents_below c.args.language c.args.levels c.in_ok-inner.inner [] (c.in_ok-inner.ensures.value []) in
    first_of (search rules, grind (arith, common_steps))

pub if_generate-returns : goal.if_generate-returns
unfolding if_generate
if_generate-returns t c =
    let e = concurrents_below c.args.language c.args.levels c.in_ok-inner.inner [] (c.in_ok-inner.ensures.value []) in
    first_of (search rules, grind (arith, common_steps))
