use Rattle.std.proofs.Common.{arith, ◌≡◌, ◌≢◌, ◌+◌, ◌<◌, length, drop, None, refl, ap, sym, ◌∙◌}
use Rattle.vhdl_names_rules.specs.declared.fault.NameFault.TheVariants.{NoMemory}
use Rattle.vhdl_names_rules.specs.Rules.{◌>>=◌}
use Rattle.vhdl_names_rules.specs.Files.{labelled}
use Rattle.vhdl_names_sight.specs.Views.{region_view}
use Rattle.vhdl_names_declarations.specs.Entered.{more}
use Rattle.vhdl_names_rules.specs.problems.Broken.{Tells}
use Rattle.vhdl_names_rules.specs.problems.Declarations.{standing_twice}
use Rattle.vhdl_names_rules.proofs.Telling.{told_same}
use Rattle.vhdl_names_interfaces.proofs.Asserting.{names_of_these, labels_of_these, label_told, label_behind, next_label, no_labels}
use Rattle.vhdl_names_rules.proofs.Passing.{passed_on, told_by}
use Rattle.vhdl_names_interfaces.proofs.interface.labels_in.Goals as goal

pub loop-assertion-init : goal.loop-assertion-init
loop-assertion-init c = (refl, refl)

pub returns-in_err-declare_if_any-clause-given : goal.returns-in_err-declare_if_any-clause-given
returns-in_err-declare_if_any-clause-given c =
    let xs = c.args.assertions.now in
    let i = c.loop-assertion.assertion-index in
    let lt : c.loop-assertion.assertion-index < length c.args.assertions.now = omega arith in
    let f : c.in_err-declare_if_any.field-0.0 ≢ NoMemory → more (region_view c.args.region.now) (labelled (names_of_these c.args.assertions.now)) ≡ None =
    λ n. c.loop-assertion.invariant.0
    ∙ next_label xs i c.assertion-item.result lt c.assertion-item.is (region_view c.loop-assertion.region)
    ∙ ap (λ o. o >>= λ r. more r (labelled (names_of_these (drop (i + 1) xs)))) (c.in_err-declare_if_any.ensures.given n) in
    passed_on _ _ c.in_err-declare_if_any.field-0.0 _ c.from_residual.result c.from_residual.ensures.1 (λ e p. p) f

pub loop-assertion-preserved : goal.loop-assertion-preserved
loop-assertion-preserved c =
    let xs = c.args.assertions.now in
    let i = c.loop-assertion.assertion-index in
    let lt : c.loop-assertion.assertion-index < length c.args.assertions.now = omega arith in
    let r = region_view c.loop-assertion.region in (
      c.loop-assertion.invariant.0
          ∙ next_label xs i c.assertion-item.result lt c.assertion-item.is r
          ∙ ap (λ o. o >>= λ r. more r (labelled (names_of_these (drop (i + 1) xs)))) c.in_ok-declare_if_any.ensures.given,
      c.loop-assertion.invariant.1 ∙ label_behind xs i c.assertion-item.result lt c.assertion-item.is r (region_view c.declare_if_any.new.region) c.in_ok-declare_if_any.ensures.given,
    )

pub returns-clause-given : goal.returns-clause-given
returns-clause-given c =
    c.loop-assertion.invariant.0 ∙ no_labels c.loop-assertion.region.entries c.args.assertions.now c.loop-assertion.assertion-index (omega arith) c.names_are_apart-2.ensures

pub returns-in_err-declare_if_any-clause-told : goal.returns-in_err-declare_if_any-clause-told
returns-in_err-declare_if_any-clause-told c =
    let xs = c.args.assertions.now in
    let i = c.loop-assertion.assertion-index in
    let lt : c.loop-assertion.assertion-index < length c.args.assertions.now = omega arith in
    let old = region_view c.args.region.now in
    let r = region_view c.loop-assertion.region in
    let f : Tells (standing_twice (region_view c.args.region.now) (labels_of_these c.args.assertions.now)) c.in_err-declare_if_any.field-0.0 =
    told_same (standing_twice r (labels_of_these (drop i xs))) (standing_twice old (labels_of_these xs)) c.in_err-declare_if_any.field-0.0 (sym c.loop-assertion.invariant.1)
    (label_told xs i c.assertion-item.result lt c.assertion-item.is r c.in_err-declare_if_any.field-0.0 c.in_err-declare_if_any.ensures.told) in
    told_by _ c.in_err-declare_if_any.field-0.0 _ c.from_residual.result c.from_residual.ensures.1 (λ e p. p) f
