use Rattle.std.proofs.Common.{Some, [], ◌∷◌, map, ap, sym, ◌∙◌}
use Rattle.std.proofs.lemmas.List.{map-append}
use Rattle.vhdl_names_rules.specs.Choices.{last_by}
use Rattle.vhdl_names_units.specs.views.Answers.{choices_view}
use Rattle.vhdl_names_units.specs.views.Sequential.{alternative_view, alternatives_view, alternatives_of, body_view}
use Rattle.vhdl_names_statements.specs.steps.Cases.{arranged}
use Rattle.vhdl_names_statements.proofs.steps.Cases.{arranged-push}
use Rattle.vhdl_names_statements.proofs.choices.arranged.Goals as goal

pub returns-in-Some-clause-given : goal.returns-in-Some-clause-given
returns-in-Some-clause-given c =
    let rest = alternatives_view c.pop.new.self in
    ap (λ xs. arranged (map alternative_view xs)) c.in-Some.ensures.items
    ∙ ap arranged (map-append alternative_view c.pop.new.self.items (c.in-Some.last ∷ []))
    ∙ arranged-push rest (alternative_view c.in-Some.last)
    ∙ ap (λ cs. Some (alternatives_of rest (last_by (choices_view cs) (body_view c.in-Some.last.statements)))) (sym c.parted-choices.ensures.choices)
    ∙ ap (λ ss. Some (alternatives_of rest (last_by (choices_view c.parted-choices.result.0) (body_view ss)))) (sym c.parted-choices.ensures.statements)
    ∙ ap (λ l. Some (alternatives_of rest l)) (sym (c.last_numbers.ensures (body_view c.parted-choices.result.1)))
