use Rattle.std.proofs.Common.{arith, ◌≡◌, ◌≢◌, ◌<◌, map, length, None, refl, ap, ◌∙◌}
use Rattle.std.proofs.lemmas.List.{drop_all}
use Rattle.vhdl_names_rules.specs.declared.fault.NameFault.TheVariants.{NoMemory}
use Rattle.vhdl_names_rules.specs.Packages as rules
use Rattle.vhdl_tree.specs.View as tree
use Rattle.vhdl_names_rules.specs.problems.Broken.{Tells}
use Rattle.vhdl_names_rules.specs.problems.Declarations as broken
use Rattle.vhdl_names_packages.specs.Contexts.{context_view}
use Rattle.vhdl_names_packages.proofs.Clauses.{item_fails, item_goes, item_told, items_told}
use Rattle.vhdl_names_rules.proofs.Passing.{passed_on, told_by}
use Rattle.vhdl_names_packages.proofs.context.context_after.Goals as goal

pub loop-item-init : goal.loop-item-init
loop-item-init c = (refl, λ f h. h)

pub returns-in_err-now-clause-given : goal.returns-in_err-now-clause-given
returns-in_err-now-clause-given c =
    let lt : c.loop-item.item-index < length c.args.items.now = omega arith in
    let f : c.in_err-now.field-0.0 ≢ NoMemory → rules.context (context_view c.args.before) (map tree.context_view c.args.items.now) ≡ None =
    λ n. c.loop-item.invariant.0 ∙ item_fails tree.context_view c.args.items.now c.loop-item.item-index c.item-item.result lt c.item-item.is (context_view c.loop-item.now) (c.in_err-now.ensures.given n) in
    passed_on _ _ c.in_err-now.field-0.0 _ c.from_residual.result c.from_residual.ensures.1 (λ e p. p) f

pub returns-in_err-now-clause-told : goal.returns-in_err-now-clause-told
returns-in_err-now-clause-told c =
    let lt : c.loop-item.item-index < length c.args.items.now = omega arith in
    let f : Tells (broken.context (context_view c.args.before) (map tree.context_view c.args.items.now)) c.in_err-now.field-0.0 =
    c.loop-item.invariant.1 c.in_err-now.field-0.0
    (item_told tree.context_view c.args.items.now c.loop-item.item-index c.item-item.result lt c.item-item.is (context_view c.loop-item.now) c.in_err-now.field-0.0 c.in_err-now.ensures.told) in
    told_by _ c.in_err-now.field-0.0 _ c.from_residual.result c.from_residual.ensures.1 (λ e p. p) f

pub loop-item-preserved : goal.loop-item-preserved
loop-item-preserved c =
    let lt : c.loop-item.item-index < length c.args.items.now = omega arith in (
      c.loop-item.invariant.0
          ∙ item_goes tree.context_view c.args.items.now c.loop-item.item-index c.item-item.result lt c.item-item.is (context_view c.loop-item.now) (context_view c.in_ok-now.now) c.in_ok-now.ensures.given,
      λ f h. c.loop-item.invariant.1 f
          (items_told tree.context_view c.args.items.now c.loop-item.item-index c.item-item.result lt c.item-item.is (context_view c.loop-item.now) (context_view c.in_ok-now.now) f c.in_ok-now.ensures.given h),
    )

pub returns-clause-given : goal.returns-clause-given
returns-clause-given c =
    c.loop-item.invariant.0 ∙ ap (λ l. rules.context (context_view c.loop-item.now) (map tree.context_view l)) (drop_all c.loop-item.item-index c.args.items.now (omega arith))
