use Rattle.std.proofs.Common.{arith, ◌≡◌, ◌≢◌, ◌+◌, ◌<◌, length, drop, None, refl, ap, sym, ◌∙◌}
use Rattle.vhdl_names_rules.specs.declared.fault.NameFault.TheVariants.{NoMemory}
use Rattle.vhdl_names_rules.specs.Rules.{◌>>=◌}
use Rattle.vhdl_names_rules.specs.Files.{labelled}
use Rattle.vhdl_names_sight.specs.Views.{region_view}
use Rattle.vhdl_names_declarations.specs.Entered.{more}
use Rattle.vhdl_names_rules.specs.problems.Broken.{Tells}
use Rattle.vhdl_names_rules.specs.problems.Declarations.{standing_twice}
use Rattle.vhdl_names_rules.proofs.Telling.{told_same}
use Rattle.vhdl_names_declarations.proofs.Labelling.{label_names_of, labels_in, label_told, label_behind, next_label, no_labels}
use Rattle.vhdl_names_rules.proofs.Passing.{passed_on, told_by}
use Rattle.vhdl_names_declarations.proofs.labels.declare_labels.Goals as goal

pub returns-in_err-declare_label-clause-given : goal.returns-in_err-declare_label-clause-given
returns-in_err-declare_label-clause-given c =
    let cs = c.args.statements.now in
    let i = c.loop-statement.statement-index in
    let lt : c.loop-statement.statement-index < length c.args.statements.now = omega arith in
    let f : c.in_err-declare_label.field-0.0 ≢ NoMemory → more (region_view c.args.region.now) (labelled (label_names_of c.args.statements.now)) ≡ None =
    λ n. c.loop-statement.invariant.0
    ∙ next_label cs i c.statement-item.result lt c.statement-item.is (region_view c.loop-statement.region)
    ∙ ap (λ o. o >>= λ r. more r (labelled (label_names_of (drop (i + 1) cs)))) (c.in_err-declare_label.ensures.given n) in
    passed_on _ _ c.in_err-declare_label.field-0.0 _ c.from_residual.result c.from_residual.ensures.1 (λ e p. p) f

pub loop-statement-init : goal.loop-statement-init
loop-statement-init c = (refl, refl)

pub loop-statement-preserved : goal.loop-statement-preserved
loop-statement-preserved c =
    let cs = c.args.statements.now in
    let i = c.loop-statement.statement-index in
    let lt : c.loop-statement.statement-index < length c.args.statements.now = omega arith in
    let r = region_view c.loop-statement.region in (
      c.loop-statement.invariant.0
          ∙ next_label cs i c.statement-item.result lt c.statement-item.is r
          ∙ ap (λ o. o >>= λ r. more r (labelled (label_names_of (drop (i + 1) cs)))) c.in_ok-declare_label.ensures.given,
      c.loop-statement.invariant.1 ∙ label_behind cs i c.statement-item.result lt c.statement-item.is r (region_view c.declare_label.new.region) c.in_ok-declare_label.ensures.given,
    )

pub returns-clause-given : goal.returns-clause-given
returns-clause-given c =
    c.loop-statement.invariant.0 ∙ no_labels c.loop-statement.region.entries c.args.statements.now c.loop-statement.statement-index (omega arith) c.names_are_apart-2.ensures

pub returns-in_err-declare_label-clause-told : goal.returns-in_err-declare_label-clause-told
returns-in_err-declare_label-clause-told c =
    let cs = c.args.statements.now in
    let i = c.loop-statement.statement-index in
    let lt : c.loop-statement.statement-index < length c.args.statements.now = omega arith in
    let old = region_view c.args.region.now in
    let r = region_view c.loop-statement.region in
    let f : Tells (standing_twice (region_view c.args.region.now) (labels_in c.args.statements.now)) c.in_err-declare_label.field-0.0 =
    told_same (standing_twice r (labels_in (drop i cs))) (standing_twice old (labels_in cs)) c.in_err-declare_label.field-0.0 (sym c.loop-statement.invariant.1)
    (label_told cs i c.statement-item.result lt c.statement-item.is r c.in_err-declare_label.field-0.0 c.in_err-declare_label.ensures.told) in
    told_by _ c.in_err-declare_label.field-0.0 _ c.from_residual.result c.from_residual.ensures.1 (λ e p. p) f
