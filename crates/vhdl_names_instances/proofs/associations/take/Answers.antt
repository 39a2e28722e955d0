use Rattle.std.proofs.Common.{rules, arith, ◌≡◌, true, not, ◌||◌, ap, sym, ◌∙◌, subst}
use Rattle.std.proofs.lemmas.Grind.{common_steps}
use Rattle.vhdl_tree.specs.View.{association_view}
use Rattle.vhdl_names_rules.specs.declared.fault.NameProblem.TheVariants.{Undeclared, Twice, WrongKind}
use Rattle.vhdl_names_rules.specs.Visibility.{is_among}
use Rattle.vhdl_names_rules.specs.Instances.{is_named}
use Rattle.vhdl_names_units.specs.Once.{names_view}
use Rattle.vhdl_names_rules.specs.problems.Broken.{Tells, refused, unless}
use Rattle.vhdl_names_rules.specs.problems.Places.{association_place}
use Rattle.vhdl_names_rules.proofs.Telling.{told_on}
use Rattle.vhdl_names_rules.proofs.Passing.{told_by}
use Rattle.vhdl_names_instances.specs.Breaking.{one_association}
use Rattle.vhdl_names_instances.proofs.Taking.{behind_told, no_formal_told, unknown_told, twice_told}
use Rattle.vhdl_names_instances.proofs.associations.take.Goals as goal

pub returns-in_err-name-clause-told : goal.returns-in_err-name-clause-told
returns-in_err-name-clause-told c =
    let fs = names_view c.args.formals.now in
    let ts = names_view c.args.taken.now in
    let a = association_view c.args.association.now in
    let p : (not c.args.is_behind_named || is_named a) ≡ true = first_of (search rules, grind (arith, common_steps)) in
    told_by (one_association fs c.args.index c.args.is_behind_named ts a) c.in_err-name.field-0.0 _ c.from_residual.result c.from_residual.ensures.1 (λ e p. p)
    (no_formal_told fs c.args.index c.args.is_behind_named ts a c.in_err-name.field-0.0 p c.in_err-name.ensures.told)

pub returns-then-not-is_named-clause-told : goal.returns-then-not-is_named-clause-told
returns-then-not-is_named-clause-told c =
    let fs = names_view c.args.formals.now in
    let ts = names_view c.args.taken.now in
    let a = association_view c.args.association.now in
    behind_told fs c.args.index c.args.is_behind_named ts a c.at.result (ap (λ b. not b || is_named a) c.if-is_behind_named.true ∙ sym c.is_named.ensures ∙ c.if-not-is_named.true)
    (subst (Tells (refused WrongKind (association_place a))) (sym c.at.ensures) (ap (refused WrongKind) (sym c.place.ensures)))

pub returns-then-not-has_name-clause-told : goal.returns-then-not-has_name-clause-told
returns-then-not-has_name-clause-told c =
    let fs = names_view c.args.formals.now in
    let ts = names_view c.args.taken.now in
    let a = association_view c.args.association.now in
    let p : (not c.args.is_behind_named || is_named a) ≡ true = first_of (search rules, grind (arith, common_steps)) in
    unknown_told fs c.args.index c.args.is_behind_named ts a c.at-then-not-has_name.result p c.in_ok-name.name.now c.in_ok-name.ensures.given (sym c.has_name.ensures ∙ c.if-not-has_name.true)
    (subst (Tells (refused Undeclared (association_place a))) (sym c.at-then-not-has_name.ensures) (ap (refused Undeclared) (sym c.place-then-not-has_name.ensures)))

pub returns-clause-told : goal.returns-clause-told
returns-clause-told c =
    let fs = names_view c.args.formals.now in
    let ts = names_view c.args.taken.now in
    let a = association_view c.args.association.now in
    let p : (not c.args.is_behind_named || is_named a) ≡ true = first_of (search rules, grind (arith, common_steps)) in
    told_on (unless Twice c.place-2.result (not (is_among c.in_ok-name.name.now ts))) (one_association fs c.args.index c.args.is_behind_named ts a) c.add_name.result
    (λ f w. twice_told fs c.args.index c.args.is_behind_named ts a f p c.in_ok-name.name.now c.in_ok-name.ensures.given (sym c.has_name.ensures ∙ c.if-not-has_name.false)
    (subst (λ at. Tells (unless Twice at (not (is_among c.in_ok-name.name.now ts))) f) c.place-2.ensures w)) c.add_name.ensures.told
