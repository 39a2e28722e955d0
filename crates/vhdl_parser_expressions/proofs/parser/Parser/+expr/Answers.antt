use Rattle.std.proofs.Common.{rules, arith}
use Rattle.std.proofs.lemmas.Grind.{common_steps}
use Rattle.vhdl_lexer.specs.declared.language.Language.TheVariants.{Wide}
use Rattle.vhdl_lexer.specs.declared.token.TokenKind.TheVariants as k
use Rattle.vhdl_tree.specs.View.{exprs_view, pairs_view, choices_view, elements_view}
use Rattle.vhdl_parser_expressions.specs.reader.Input.{is_kind, many_from}
use Rattle.vhdl_tree.specs.Tree.{all_joined}
use Rattle.vhdl_parser_expressions.specs.reader.Expressions.{inside, inner, argument, next_element, next_choice, operand_of, more, more_from}
use Rattle.vhdl_tree.proofs.Rows.{pairs-push}
use Rattle.vhdl_parser_expressions.proofs.Turns.{one_more, no_more, inside_more}
use Rattle.vhdl_parser_expressions.proofs.parser.Parser.+expr.Goals as goal

pub inside-returns : goal.inside-returns
inside-returns t c = rw (inside_more c.args.language c.args.levels (omega arith)) c.expr.ensures

pub arguments-loop-turn-init : goal.arguments-loop-turn-init
arguments-loop-turn-init t c = first_of (search rules, grind (arith, common_steps))

pub arguments-returns-then-not-sees : goal.arguments-returns-then-not-sees
unfolding many_from
arguments-returns-then-not-sees t c =
    let e = one_more (λ n. many_from (is_kind k.Comma) (argument (inner c.args.language c.args.levels)) n (exprs_view c.loop-turn.found) c.loop-turn.self) _ c.loop-turn._turn c.loop-turn-test.true c.loop-turn.invariant in
    first_of (search rules, grind (arith, common_steps))

pub arguments-returns-in_err-argument : goal.arguments-returns-in_err-argument
unfolding many_from
arguments-returns-in_err-argument t c =
    let e = one_more (λ n. many_from (is_kind k.Comma) (argument (inner c.args.language c.args.levels)) n (exprs_view c.loop-turn.found) c.loop-turn.self) _ c.loop-turn._turn c.loop-turn-test.true c.loop-turn.invariant in
    first_of (search rules, grind (arith, common_steps))

pub arguments-loop-turn-preserved : goal.arguments-loop-turn-preserved
unfolding many_from
arguments-loop-turn-preserved t c =
    let e = one_more (λ n. many_from (is_kind k.Comma) (argument (inner c.args.language c.args.levels)) n (exprs_view c.loop-turn.found) c.loop-turn.self) _ c.loop-turn._turn c.loop-turn-test.true c.loop-turn.invariant in
    first_of (grind (arith, common_steps), search rules)

pub arguments-returns : goal.arguments-returns
unfolding many_from
arguments-returns t c =
    let e = no_more (λ n. many_from (is_kind k.Comma) (argument (inner c.args.language c.args.levels)) n (exprs_view c.loop-turn.found) c.loop-turn.self) _ c.loop-turn._turn c.loop-turn-test.false c.loop-turn.invariant in
    first_of (search rules, grind (arith, common_steps))

pub more_elements-loop-turn-init : goal.more_elements-loop-turn-init
more_elements-loop-turn-init t c = first_of (search rules, grind (arith, common_steps))

pub more_elements-returns-then-not-sees : goal.more_elements-returns-then-not-sees
unfolding many_from
more_elements-returns-then-not-sees t c =
    let e = one_more (λ n. many_from (is_kind k.Comma) (next_element (inside Wide c.args.levels)) n (elements_view c.loop-turn.found) c.loop-turn.self) _ c.loop-turn._turn c.loop-turn-test.true c.loop-turn.invariant in
    first_of (search rules, grind (arith, common_steps))

pub more_elements-returns-in_err-next_element : goal.more_elements-returns-in_err-next_element
unfolding many_from
more_elements-returns-in_err-next_element t c =
    let e = one_more (λ n. many_from (is_kind k.Comma) (next_element (inside Wide c.args.levels)) n (elements_view c.loop-turn.found) c.loop-turn.self) _ c.loop-turn._turn c.loop-turn-test.true c.loop-turn.invariant in
    first_of (search rules, grind (arith, common_steps))

pub more_elements-loop-turn-preserved : goal.more_elements-loop-turn-preserved
unfolding many_from
more_elements-loop-turn-preserved t c =
    let e = one_more (λ n. many_from (is_kind k.Comma) (next_element (inside Wide c.args.levels)) n (elements_view c.loop-turn.found) c.loop-turn.self) _ c.loop-turn._turn c.loop-turn-test.true c.loop-turn.invariant in
    first_of (grind (arith, common_steps), search rules)

pub more_elements-returns : goal.more_elements-returns
unfolding many_from
more_elements-returns t c =
    let e = no_more (λ n. many_from (is_kind k.Comma) (next_element (inside Wide c.args.levels)) n (elements_view c.loop-turn.found) c.loop-turn.self) _ c.loop-turn._turn c.loop-turn-test.false c.loop-turn.invariant in
    first_of (search rules, grind (arith, common_steps))

pub more_choices-loop-turn-init : goal.more_choices-loop-turn-init
more_choices-loop-turn-init t c = first_of (search rules, grind (arith, common_steps))

pub more_choices-returns-then-not-sees : goal.more_choices-returns-then-not-sees
unfolding many_from
more_choices-returns-then-not-sees t c =
    let e = one_more (λ n. many_from (is_kind k.Bar) (next_choice (inside Wide c.args.levels)) n (choices_view c.loop-turn.found) c.loop-turn.self) _ c.loop-turn._turn c.loop-turn-test.true c.loop-turn.invariant in
    first_of (search rules, grind (arith, common_steps))

pub more_choices-returns-in_err-next_choice : goal.more_choices-returns-in_err-next_choice
unfolding many_from
more_choices-returns-in_err-next_choice t c =
    let e = one_more (λ n. many_from (is_kind k.Bar) (next_choice (inside Wide c.args.levels)) n (choices_view c.loop-turn.found) c.loop-turn.self) _ c.loop-turn._turn c.loop-turn-test.true c.loop-turn.invariant in
    first_of (search rules, grind (arith, common_steps))

pub more_choices-loop-turn-preserved : goal.more_choices-loop-turn-preserved
unfolding many_from
more_choices-loop-turn-preserved t c =
    let e = one_more (λ n. many_from (is_kind k.Bar) (next_choice (inside Wide c.args.levels)) n (choices_view c.loop-turn.found) c.loop-turn.self) _ c.loop-turn._turn c.loop-turn-test.true c.loop-turn.invariant in
    first_of (grind (arith, common_steps), search rules)

pub more_choices-returns : goal.more_choices-returns
unfolding many_from
more_choices-returns t c =
    let e = no_more (λ n. many_from (is_kind k.Bar) (next_choice (inside Wide c.args.levels)) n (choices_view c.loop-turn.found) c.loop-turn.self) _ c.loop-turn._turn c.loop-turn-test.false c.loop-turn.invariant in
    first_of (search rules, grind (arith, common_steps))

pub links-loop-turn-init : goal.links-loop-turn-init
unfolding more
links-loop-turn-init t c left = first_of (search rules, grind (arith, common_steps))

pub links-returns-in_default : goal.links-returns-in_default
unfolding more_from
links-returns-in_default t c left =
    let e = one_more (λ n. more_from (operand_of (inner c.args.language c.args.levels) c.args.level) n c.args.level c.loop-turn.last (all_joined left (pairs_view c.loop-turn.found)) c.loop-turn.self) _ c.loop-turn._turn c.loop-turn-test.true (c.loop-turn.invariant left) in
    first_of (search rules, grind (arith, common_steps))

pub links-returns-in_err-link : goal.links-returns-in_err-link
unfolding more_from
links-returns-in_err-link t c left =
    let e = one_more (λ n. more_from (operand_of (inner c.args.language c.args.levels) c.args.level) n c.args.level c.loop-turn.last (all_joined left (pairs_view c.loop-turn.found)) c.loop-turn.self) _ c.loop-turn._turn c.loop-turn-test.true (c.loop-turn.invariant left) in
    first_of (search rules, grind (arith, common_steps))

pub links-loop-turn-preserved : goal.links-loop-turn-preserved
unfolding more_from
links-loop-turn-preserved t c left =
    let e = one_more (λ n. more_from (operand_of (inner c.args.language c.args.levels) c.args.level) n c.args.level c.loop-turn.last (all_joined left (pairs_view c.loop-turn.found)) c.loop-turn.self) _ c.loop-turn._turn c.loop-turn-test.true (c.loop-turn.invariant left) in
    let p = pairs-push left c.loop-turn.found c.push.new.self c.in_ok-link.field-0 c.in_ok-push.ensures.items in
    first_of (grind (arith, common_steps), search rules)

pub links-returns : goal.links-returns
unfolding more_from
links-returns t c left =
    let e = no_more (λ n. more_from (operand_of (inner c.args.language c.args.levels) c.args.level) n c.args.level c.loop-turn.last (all_joined left (pairs_view c.loop-turn.found)) c.loop-turn.self) _ c.loop-turn._turn c.loop-turn-test.false (c.loop-turn.invariant left) in
    first_of (search rules, grind (arith, common_steps))
