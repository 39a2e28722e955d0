use Rattle.std.proofs.Common.{rules, arith}
use Rattle.std.proofs.lemmas.Grind.{common_steps}
use Rattle.vhdl_tree.specs.View.{text_view}
use Rattle.vhdl_parser_statements.specs.reader.Texts.{text_tokens, text_from}
use Rattle.vhdl_parser_expressions.proofs.Turns.{one_more, no_more}
use Rattle.vhdl_parser_statements.proofs.texts.text_tokens.Goals as goal

pub loop-turn-init : goal.loop-turn-init
unfolding text_tokens
loop-turn-init c = first_of (search rules, grind (arith, common_steps))

pub returns-in_err-kind : goal.returns-in_err-kind
unfolding text_from
returns-in_err-kind c =
    let e = one_more (λ n. text_from c.args.levels n c.loop-turn.room c.loop-turn.last (text_view c.loop-turn.found) c.loop-turn.parser) _ c.loop-turn._turn c.loop-turn-test.true c.loop-turn.invariant in
    first_of (search rules, grind (arith, common_steps))

pub returns-in_default : goal.returns-in_default
unfolding text_from
returns-in_default c =
    let e = one_more (λ n. text_from c.args.levels n c.loop-turn.room c.loop-turn.last (text_view c.loop-turn.found) c.loop-turn.parser) _ c.loop-turn._turn c.loop-turn-test.true c.loop-turn.invariant in
    first_of (search rules, grind (arith, common_steps))

pub loop-turn-preserved : goal.loop-turn-preserved
unfolding text_from
loop-turn-preserved c =
    let e = one_more (λ n. text_from c.args.levels n c.loop-turn.room c.loop-turn.last (text_view c.loop-turn.found) c.loop-turn.parser) _ c.loop-turn._turn c.loop-turn-test.true c.loop-turn.invariant in
    first_of (search rules, grind (arith, common_steps))

pub returns : goal.returns
unfolding text_from
returns c =
    let e = no_more (λ n. text_from c.args.levels n c.loop-turn.room c.loop-turn.last (text_view c.loop-turn.found) c.loop-turn.parser) _ c.loop-turn._turn c.loop-turn-test.false c.loop-turn.invariant in
    first_of (search rules, grind (arith, common_steps))
