use Rattle.std.proofs.Common.{◌≡◌, ◌-◌, true, false, length, Err, refl, ap, ◌∙◌, rules, arith}
use Rattle.std.proofs.lemmas.Result.{err_from_is_err_and}
use Rattle.std.specs.Fn.{FnReturnsAt}
use Rattle.vhdl_parser_expressions.specs.reader.Lists.{FnReturnsAtMut, no_turn, none_begins, one_refused, one_more, no_memory}
use Rattle.vhdl_parser_expressions.proofs.Turns.{this_turn, last_turn}
use Rattle.vhdl_parser_expressions.proofs.list.many.Goals as goal

pub loop-turn-init : goal.loop-turn-init
loop-turn-init g c =
    let e : c.left-turn-end.result - 0 ≡ length c.args.parser.now = omega (arith, c.left-turn-end.ensures) in
    λ r rest k. rw e at k

pub returns-then-not-begins : goal.returns-then-not-begins
returns-then-not-begins g c =
    let none : FnReturnsAt g.B.Fn c.args.begins c.loop-turn.parser false = search rules in
    c.loop-turn.invariant _ _ (rw (this_turn _ c.loop-turn._turn c.loop-turn-test.true) (none_begins none refl))

pub returns-in_err-item : goal.returns-in_err-item
returns-in_err-item g c =
    let one : FnReturnsAt g.B.Fn c.args.begins c.loop-turn.parser true = search rules in
    let read : FnReturnsAtMut g.I.Fn c.args.item c.loop-turn.parser c.item.result c.item.new.arg2 = search rules in
    let w = err_from_is_err_and c.from_residual.result c.from_residual.ensures.1 in
    let e : c.from_residual.result ≡ Err c.in_err-item.field-0.0 = w.1 ∙ ap (λ x. Err x) w.2 in
    c.loop-turn.invariant _ _ (rw (this_turn _ c.loop-turn._turn c.loop-turn-test.true, e) (one_refused one (rw c.in_err-item.was at read)))

pub returns-in_err-push : goal.returns-in_err-push
returns-in_err-push g c =
    let w = err_from_is_err_and c.from_residual-in_err-push.result c.from_residual-in_err-push.ensures.1 in
    c.loop-turn.invariant _ _ (rw (w.1, w.2) no_memory)

pub loop-turn-preserved : goal.loop-turn-preserved
loop-turn-preserved g c =
    let one : FnReturnsAt g.B.Fn c.args.begins c.loop-turn.parser true = search rules in
    let read : FnReturnsAtMut g.I.Fn c.args.item c.loop-turn.parser c.item.result c.item.new.arg2 = search rules in
    let pushed = c.in_ok-push.ensures.items in
    λ r rest k. c.loop-turn.invariant _ _ (rw (this_turn _ c.loop-turn._turn c.loop-turn-test.true) (one_more one (rw c.in_ok-item.was at read) (rw pushed at k)))

pub returns : goal.returns
returns g c =
    c.loop-turn.invariant _ _ (rw (last_turn _ c.loop-turn._turn c.loop-turn-test.false) (no_turn refl))
