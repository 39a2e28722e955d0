use Rattle.std.proofs.Common.{◌≡◌, [], ◌∷◌, ◌++◌, map, ap, sym, ◌∙◌, subst, arith, rules, to_z, of_z, w32, w64}
use Rattle.std.specs.Prelude.{ℤ, pos, ◌+ℤ◌, FitsSigned}
use Rattle.std.proofs.lemmas.Int.{ints}
use Rattle.std.proofs.lemmas.List.{map-append}
use Rattle.rtl_net.specs.Bodies.{choice_view}
use Rattle.rtl_net.specs.declared.body.Choice.TheVariants as choices
use Rattle.vhdl_values.specs.Scalar.{code_of}
use Rattle.vhdl_expand_rules.specs.Computed.{held_in}
use Rattle.vhdl_expand_rules.specs.Statements.{count_in}
use Rattle.vhdl_expand_rules.proofs.Modulus.{same_word}
use Rattle.vhdl_expand_numbers.specs.Views.{limits_view}
use Rattle.vhdl_expand_choices.proofs.Turning.{held_fits, number_fits, turn_goes, turn_ends}
use Rattle.vhdl_expand_choices.proofs.spread.add_digits.Goals as goal

pub overflow_cast-number-in-loop-turn : goal.overflow_cast-number-in-loop-turn
overflow_cast-number-in-loop-turn c =
    let all = limits_view c.args.all in
    let numbers = limits_view c.args.numbers in
    let low : FitsSigned w32 c.args.all.least = search rules in
    let high : FitsSigned w32 c.args.all.greatest = search rules in
    let least : FitsSigned w32 c.args.numbers.least = search rules in
    let greatest : FitsSigned w32 c.args.numbers.greatest = search rules in
    let held : FitsSigned w32 c.held.result = search rules in
    let begins = held_fits all numbers.least low high least in
    let ends = held_fits all numbers.greatest low high greatest in
    let is : c.held.result ≡ held_in all numbers.least = c.held.ensures ∙ ap (held_in all) (same_word c.args.numbers.least least) in
    let first : c.from-first.result ≡ held_in all numbers.least = c.from-first.ensures ∙ same_word c.held.result held ∙ is in
    let few = c.count_in-turn-end.ensures.few in
    let below = c.loop-turn-test.true in
    let sum : to_z w64 (of_z w64 (to_z w64 (of_z w64 c.from-first.result) +ℤ to_z w64 c.loop-turn.turn)) ≡ held_in all numbers.least +ℤ pos c.loop-turn.turn = omega (arith, ints, begins, first, few, below) in
    subst (λ (z : ℤ). FitsSigned w32 z) (sym sum) (number_fits all numbers c.loop-turn.turn begins ends (omega (arith, c.count_in-turn-end.ensures.given, below)))

pub loop-turn-preserved : goal.loop-turn-preserved
loop-turn-preserved c =
    let all = limits_view c.args.all in
    let numbers = limits_view c.args.numbers in
    let low : FitsSigned w32 c.args.all.least = search rules in
    let high : FitsSigned w32 c.args.all.greatest = search rules in
    let least : FitsSigned w32 c.args.numbers.least = search rules in
    let greatest : FitsSigned w32 c.args.numbers.greatest = search rules in
    let held : FitsSigned w32 c.held.result = search rules in
    let begins = held_fits all numbers.least low high least in
    let ends = held_fits all numbers.greatest low high greatest in
    let is : c.held.result ≡ held_in all numbers.least = c.held.ensures ∙ ap (held_in all) (same_word c.args.numbers.least least) in
    let first : c.from-first.result ≡ held_in all numbers.least = c.from-first.ensures ∙ same_word c.held.result held ∙ is in
    let few = c.count_in-turn-end.ensures.few in
    let below = c.loop-turn-test.true in
    let counted = number_fits all numbers c.loop-turn.turn begins ends (omega (arith, c.count_in-turn-end.ensures.given, below)) in
    let number : to_z w32 (of_z w32 (to_z w64 (of_z w64 (to_z w64 (of_z w64 c.from-first.result) +ℤ to_z w64 c.loop-turn.turn)))) ≡ held_in all numbers.least +ℤ pos c.loop-turn.turn
    = omega (arith, ints, begins, first, few, below, counted) in
    turn_goes c.args.len.len (held_in all numbers.least) (count_in all numbers) c.loop-turn.turn _ (map choice_view c.loop-turn.codes.items) c.loop-turn.invariant (map choice_view c.push.new.self.items) _
    (omega (arith, c.count_in-turn-end.ensures.given, below)) number
    (ap (map choice_view) c.in_ok-push.ensures.items ∙ map-append choice_view c.loop-turn.codes.items (choices.Elements c.digits_of.result ∷ [])
    ∙ ap (λ vs. map choice_view c.loop-turn.codes.items ++ map code_of vs ∷ []) c.digits_of.ensures.list)

pub returns : goal.returns
returns c =
    turn_ends c.args.len.len (held_in (limits_view c.args.all) (limits_view c.args.numbers).least) (count_in (limits_view c.args.all) (limits_view c.args.numbers)) c.loop-turn.turn _
    (map choice_view c.loop-turn.codes.items) c.loop-turn.invariant (omega arith)
