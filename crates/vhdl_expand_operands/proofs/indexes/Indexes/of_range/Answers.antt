use Rattle.std.proofs.Common.{ℤ, ◌+◌, [], ◌∷◌, ◌++◌, length, drop, Ok, sym, ap, ◌∙◌, arith, rules}
use Rattle.vhdl_expand_rules.specs.Integers.{numbers_from}
use Rattle.vhdl_expand_rules.specs.views.Integers.{range_view}
use Rattle.vhdl_expand_rules.proofs.laws.Aggregates.{few-indexes}
use Rattle.vhdl_expand_rules.proofs.Modulus.{same_word}
use Rattle.vhdl_expand_operands.proofs.IndexSteps.{turn_added, turns_done}
use Rattle.vhdl_expand_operands.proofs.indexes.Indexes.of_range.Goals as goal

pub loop-turn-init : goal.loop-turn-init
loop-turn-init c =
    let turns = c.in_ok-turns.turns in
    ap (λ xs. xs ++ numbers_from turns.direction turns.first turns.count) c.new-numbers.ensures.items

pub loop-turn-preserved : goal.loop-turn-preserved
loop-turn-preserved c =
    let turns = c.in_ok-turns.turns in
    let k = c.loop-turn.turn in
    let fixed = same_word c.parameter.result (search rules) in
    ap (λ xs. xs ++ drop (k + 1) (numbers_from turns.direction turns.first turns.count)) c.in_ok-push.ensures.items
    ∙ ap (λ (x : ℤ). (c.loop-turn.numbers.items ++ x ∷ []) ++ drop (k + 1) (numbers_from turns.direction turns.first turns.count)) fixed
    ∙ turn_added turns.direction turns.first turns.count k c.loop-turn.numbers.items c.parameter.result c.loop-turn-test.true c.loop-turn.invariant c.parameter.ensures

pub invariant_of-result : goal.invariant_of-result
invariant_of-result c =
    let turns = c.in_ok-turns.turns in
    let all = turns_done turns.direction turns.first turns.count c.loop-turn.turn c.loop-turn.numbers.items (omega arith) c.loop-turn.invariant in
    let few = few-indexes c.args.at (range_view c.args.range) _ c.in_ok-turns.ensures in
    record { few = omega (arith, few, ap length all) }

pub returns : goal.returns
returns c =
    let turns = c.in_ok-turns.turns in
    c.in_ok-turns.ensures ∙ ap Ok (sym (turns_done turns.direction turns.first turns.count c.loop-turn.turn c.loop-turn.numbers.items (omega arith) c.loop-turn.invariant))
