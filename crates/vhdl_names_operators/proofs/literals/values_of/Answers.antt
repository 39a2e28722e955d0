use Rattle.std.proofs.Common.{sym, ◌∙◌, refl}
use Rattle.vhdl_names_rules.specs.Rules.{each}
use Rattle.vhdl_names_rules.specs.Literals as rules
use Rattle.vhdl_names_operators.proofs.Characters.{none_in_front, one_value, no_value}
use Rattle.vhdl_names_operators.proofs.Quotations.{at_end, some_character}
use Rattle.vhdl_names_operators.proofs.literals.values_of.Goals as goal

pub loop-b-init : goal.loop-b-init
loop-b-init c = none_in_front _ (each rules.nine_of c.args.characters.now) c.new-values.ensures.items

pub loop-b-preserved : goal.loop-b-preserved
loop-b-preserved c =
    one_value _ c.loop-b.values.items c.args.characters.now c.loop-b.b-index c.loop-b-test.true c.loop-b.invariant _ c.in-Some.value (sym c.nine_of.ensures ∙ c.in-Some.is) c.in_ok-push-in-Some.ensures.items

pub returns-clause-given : goal.returns-clause-given
returns-clause-given c = at_end _ c.loop-b.values.items c.args.characters.now c.loop-b.b-index c.loop-b.invariant c.loop-b-test.false

pub returns-in-None-clause-given : goal.returns-in-None-clause-given
returns-in-None-clause-given c =
    λ n. no_value _ c.loop-b.values.items c.args.characters.now c.loop-b.b-index c.loop-b-test.true c.loop-b.invariant (sym c.nine_of.ensures ∙ c.in-None.is)

pub returns-in-None-clause-told : goal.returns-in-None-clause-told
returns-in-None-clause-told c = rw (some_character c.args.characters.now c.loop-b.b-index c.loop-b-test.true, c.at.ensures) refl
