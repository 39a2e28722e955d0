use Rattle.std.proofs.Common.{◌≡◌, ◌-◌, true, false, [], ◌∷◌, ◌++◌, length, Ok, Err, refl, sym, ap, ◌∙◌, rules, arith}
use Rattle.std.proofs.lemmas.Result.{err_from_is_err_and}
use Rattle.vhdl_parser_expressions.specs.reader.Input.{sees, expect}
use Rattle.vhdl_parser_expressions.specs.reader.Lists.{FnReturnsAtMut, no_turn, none_begins, one_refused, one_more, no_memory, item_follows, none_follows, first_refused, first_read, no_memory_first}
use Rattle.vhdl_parser_expressions.proofs.Turns.{this_turn, last_turn}
use Rattle.vhdl_parser_expressions.proofs.list.separated.Goals as goal

pub returns-in_err-item : goal.returns-in_err-item
returns-in_err-item g c =
    let read : FnReturnsAtMut g.I.Fn c.args.item c.args.parser.now c.item.result c.item.new.arg2 = search rules in
    let w = err_from_is_err_and c.from_residual.result c.from_residual.ensures.1 in
    let e : c.from_residual.result ≡ Err c.in_err-item.field-0.0 = w.1 ∙ ap (λ x. Err x) w.2 in
    rw e (first_refused (rw c.in_err-item.was at read))

pub returns-in_err-push : goal.returns-in_err-push
returns-in_err-push g c =
    let w = err_from_is_err_and c.from_residual-in_err-push.result c.from_residual-in_err-push.ensures.1 in
    rw (w.1, w.2) no_memory_first

pub loop-turn-init : goal.loop-turn-init
loop-turn-init g c =
    let read : FnReturnsAtMut g.I.Fn c.args.item c.args.parser.now c.item.result c.item.new.arg2 = search rules in
    let e : c.left-turn-end.result - 0 ≡ length c.item.new.arg2 = omega (arith, c.left-turn-end.ensures) in
    let pushed : c.push.new.self.items ≡ c.in_ok-item.field-0 ∷ [] =
    c.in_ok-push.ensures.items ∙ ap (λ xs. xs ++ c.in_ok-item.field-0 ∷ []) c.new-found.ensures.items in
    λ r rest k. let m = rw e at k in let n = rw pushed at m in first_read (rw c.in_ok-item.was at read) n

pub returns-then-not-sees : goal.returns-then-not-sees
returns-then-not-sees g c =
    let none : false ≡ sees c.args.separator c.loop-turn.parser = sym c.if-not-sees.true ∙ c.sees.ensures in
    c.loop-turn.invariant _ _ (rw (this_turn _ c.loop-turn._turn c.loop-turn-test.true) (none_begins none refl))

pub returns-in_err-expect : goal.returns-in_err-expect
returns-in_err-expect g c =
    let one : true ≡ sees c.args.separator c.loop-turn.parser = sym c.if-not-sees.false ∙ c.sees.ensures in
    let w = err_from_is_err_and c.from_residual-in_err-expect.result c.from_residual-in_err-expect.ensures.1 in
    let e : c.from_residual-in_err-expect.result ≡ Err c.in_err-expect.field-0.0 = w.1 ∙ ap (λ x. Err x) w.2 in
    c.loop-turn.invariant _ _ (rw (this_turn _ c.loop-turn._turn c.loop-turn-test.true, e) (one_refused one (none_follows {ts = c.loop-turn.parser} {rest = c.expect.new.self} {e = c.in_err-expect.field-0.0} (search rules))))

pub returns-in_err-item-2 : goal.returns-in_err-item-2
returns-in_err-item-2 g c =
    let one : true ≡ sees c.args.separator c.loop-turn.parser = sym c.if-not-sees.false ∙ c.sees.ensures in
    let token : expect c.args.separator c.loop-turn.parser ≡ Ok (c.in_ok-expect.field-0, c.expect.new.self) = search rules in
    let read : FnReturnsAtMut g.I.Fn c.args.item c.expect.new.self c.item-in-loop-turn.result c.item-in-loop-turn.new.arg2 = search rules in
    let w = err_from_is_err_and c.from_residual-in_err-item-2.result c.from_residual-in_err-item-2.ensures.1 in
    let e : c.from_residual-in_err-item-2.result ≡ Err c.in_err-item-2.field-0.0 = w.1 ∙ ap (λ x. Err x) w.2 in
    c.loop-turn.invariant _ _ (rw (this_turn _ c.loop-turn._turn c.loop-turn-test.true, e) (one_refused one (item_follows token (rw c.in_err-item-2.was at read))))

pub returns-in_err-push-2 : goal.returns-in_err-push-2
returns-in_err-push-2 g c =
    let w = err_from_is_err_and c.from_residual-in_err-push-2.result c.from_residual-in_err-push-2.ensures.1 in
    c.loop-turn.invariant _ _ (rw (w.1, w.2) no_memory)

pub loop-turn-preserved : goal.loop-turn-preserved
loop-turn-preserved g c =
    let one : true ≡ sees c.args.separator c.loop-turn.parser = sym c.if-not-sees.false ∙ c.sees.ensures in
    let token : expect c.args.separator c.loop-turn.parser ≡ Ok (c.in_ok-expect.field-0, c.expect.new.self) = search rules in
    let read : FnReturnsAtMut g.I.Fn c.args.item c.expect.new.self c.item-in-loop-turn.result c.item-in-loop-turn.new.arg2 = search rules in
    let pushed = c.in_ok-push-2.ensures.items in
    λ r rest k. c.loop-turn.invariant _ _ (rw (this_turn _ c.loop-turn._turn c.loop-turn-test.true) (one_more one (item_follows token (rw c.in_ok-item-2.was at read)) (rw pushed at k)))

pub returns : goal.returns
returns g c =
    c.loop-turn.invariant _ _ (rw (last_turn _ c.loop-turn._turn c.loop-turn-test.false) (no_turn refl))
