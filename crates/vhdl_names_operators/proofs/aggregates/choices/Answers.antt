use Rattle.std.proofs.Common.{◌≡◌, ℕ, not, map, IfOk, IfErr, sym, ap, subst, ◌∙◌}
use Rattle.vhdl_names_rules.specs.declared.fault.NameProblem.TheVariants.{WrongKind}
use Rattle.vhdl_names_trees.specs.views.Expressions.{choice_view}
use Rattle.vhdl_names_rules.specs.problems.Broken.{Tells, nothing, ◌▸◌, unless, any_of}
use Rattle.vhdl_names_rules.specs.problems.Aggregates as broken
use Rattle.vhdl_names_rules.proofs.Telling.{told_same, unless_kept}
use Rattle.vhdl_names_operators.proofs.Arranging.{lone_choices, first_choices, no_choices, tells_only}
use Rattle.vhdl_names_operators.proofs.aggregates.choices.Goals as goal

pub returns-in-Some : goal.returns-in-Some
returns-in-Some c =
    let form = c.args.form in
    let same = lone_choices form.is_ranged form.is_named form.is_only c.args.is_last (map choice_view c.args.choices.now) c.args.at c.in-Some.place (sym c.lone_others.ensures ∙ c.in-Some.is) in
    record {
      kept = subst (λ b. IfOk c.others.result (λ _. b ≡ nothing)) (sym same) c.others.ensures.kept;
      told = subst (λ b. IfErr c.others.result (Tells b)) (sym same) c.others.ensures.told;
    }

-- what the choices break, where others doesn't stand alone
pub returns-in-Some-first : goal.returns-in-Some-first
returns-in-Some-first c =
    let form = c.args.form in
    let cs = c.args.choices.now in
    let same =
    first_choices form.is_ranged form.is_named form.is_only c.args.is_last cs c.in-Some-first.first.now c.args.at (sym c.in_default.ensures) (sym c.in-Some-first.ensures.value)
    ∙ ap (λ (p : ℕ). unless WrongKind p form.is_named ▸ any_of (broken.choice form.is_only) (map choice_view cs)) (sym c.choice_start.ensures) in
    record {
      kept = subst (λ b. IfOk c.chosen.result (λ _. b ≡ nothing)) (sym same) c.chosen.ensures.kept;
      told = subst (λ b. IfErr c.chosen.result (Tells b)) (sym same) c.chosen.ensures.told;
    }

pub returns-then-form-clause-told : goal.returns-then-form-clause-told
returns-then-form-clause-told c =
    let form = c.args.form in
    told_same _ _ _ (sym (no_choices form.is_ranged form.is_named form.is_only c.args.is_last c.args.choices.now c.args.at (sym c.in-None.ensures.value)))
    (tells_only WrongKind c.args.at (not form.is_named) _ (ap not c.if-form.true) c.at.ensures)

pub returns-else-form-clause-kept : goal.returns-else-form-clause-kept
returns-else-form-clause-kept c =
    let form = c.args.form in
    no_choices form.is_ranged form.is_named form.is_only c.args.is_last c.args.choices.now c.args.at (sym c.in-None.ensures.value)
    ∙ unless_kept WrongKind c.args.at (not form.is_named) (ap not c.if-form.false)
