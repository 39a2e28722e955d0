use Rattle.std.proofs.Common.{Some, None, sym, ap, ◌∙◌}
use Rattle.vhdl_tree.specs.View.{name_view, ident_view}
use Rattle.vhdl_names_rules.specs.declared.fault.NameFault.TheVariants.{At}
use Rattle.vhdl_names_rules.specs.Visibility.{Sight}
use Rattle.vhdl_names_rules.specs.Rules.{wider}
use Rattle.vhdl_names_rules.specs.Ranges.{named_range}
use Rattle.vhdl_names_trees.specs.views.Integers.{range_view}
use Rattle.vhdl_names_trees.specs.views.Expressions.{typed_suffix_view}
use Rattle.vhdl_names_sight.specs.Views.{entry_of}
use Rattle.vhdl_names_rules.specs.problems.Broken.{refused}
use Rattle.vhdl_names_rules.proofs.Telling.{told_left}
use Rattle.vhdl_names_rules.proofs.Passing.{told_first, told_second}
use Rattle.vhdl_names_rules.proofs.kept.Expressions.{declared_kept}
use Rattle.vhdl_names_expressions.proofs.Breaking.{told_fault}
use Rattle.vhdl_names_asked.proofs.RangeNames.{subtype_range_by, subtype_range_told}
use Rattle.vhdl_names_asked.proofs.ranges.subtype_range.Goals as goal

pub returns-in_err-entry-clause-told : goal.returns-in_err-entry-clause-told
returns-in_err-entry-clause-told c = told_first _ _ _ _ c.from_residual.result c.from_residual.ensures.1 (λ e p. p) c.in_err-entry.ensures.told

pub returns-in_err-suffix-clause-told : goal.returns-in_err-suffix-clause-told
returns-in_err-suffix-clause-told c =
    told_second _ _ _ _ c.from_residual-in_err-suffix.result c.from_residual-in_err-suffix.ensures.1 (λ e p. p)
    (declared_kept c.args.sight.now (ident_view c.args.name.now.identifier) (entry_of c.args.name.now.identifier.text.items c.in_ok-entry.entry.now) c.in_ok-entry.ensures.declared)
    (told_left _ _ _ c.in_err-suffix.ensures.told)

pub returns-in-Some-clause-given : goal.returns-in-Some-clause-given
returns-in-Some-clause-given c =
    subtype_range_by c.args.sight.now (name_view c.args.name.now) (entry_of c.args.name.now.identifier.text.items c.in_ok-entry.entry.now) (typed_suffix_view c.in_ok-suffix.suffix) (Some (range_view c.in-Some.range)) c.in_ok-entry.ensures.declared c.in_ok-suffix.ensures.given
    (ap (λ l. wider l (named_range None (entry_of c.args.name.now.identifier.text.items c.in_ok-entry.entry.now) (typed_suffix_view c.in_ok-suffix.suffix))) (sym (ap (λ (x : Sight). x.language) c.sight.view_is)) ∙ sym (c.in-Some.ensures c.args.name.now.identifier.text.items))

pub returns-in-None-clause-given : goal.returns-in-None-clause-given
returns-in-None-clause-given c =
    λ w. subtype_range_by c.args.sight.now (name_view c.args.name.now) (entry_of c.args.name.now.identifier.text.items c.in_ok-entry.entry.now) (typed_suffix_view c.in_ok-suffix.suffix) None c.in_ok-entry.ensures.declared c.in_ok-suffix.ensures.given
    (ap (λ l. wider l (named_range None (entry_of c.args.name.now.identifier.text.items c.in_ok-entry.entry.now) (typed_suffix_view c.in_ok-suffix.suffix))) (sym (ap (λ (x : Sight). x.language) c.sight.view_is)) ∙ sym (c.in-None.ensures c.args.name.now.identifier.text.items))

pub returns-in-None-clause-told : goal.returns-in-None-clause-told
returns-in-None-clause-told c =
    subtype_range_told c.args.sight.now (name_view c.args.name.now) (entry_of c.args.name.now.identifier.text.items c.in_ok-entry.entry.now) (typed_suffix_view c.in_ok-suffix.suffix) None c.in_ok-entry.ensures.declared c.in_ok-suffix.ensures.given _
    (ap (λ l. wider l (named_range None (entry_of c.args.name.now.identifier.text.items c.in_ok-entry.entry.now) (typed_suffix_view c.in_ok-suffix.suffix))) (sym (ap (λ (x : Sight). x.language) c.sight.view_is)) ∙ sym (c.in-None.ensures c.args.name.now.identifier.text.items))
    (told_fault _ (At c.no_range-problem.result c.args.name.now.identifier.at) _ (c.without.ensures ∙ c.at.ensures)
    (ap (λ p. refused p c.args.name.now.identifier.at) (sym c.no_range-problem.ensures)))
