use Rattle.std.proofs.Common.{arith, ◌≡◌, ◌≢◌, suc, ◌+◌, ◌<◌, ◌∷◌, [], map, length, drop, None, refl, ap, sym, ◌∙◌}
use Rattle.std.proofs.lemmas.List.{map-append}
use Rattle.vhdl_names_rules.specs.declared.fault.NameFault.TheVariants.{NoMemory}
use Rattle.vhdl_names_rules.specs.Choices.{choice}
use Rattle.vhdl_names_rules.specs.Rules.{each}
use Rattle.vhdl_tree.specs.View.{choice_view as tree_choice_view}
use Rattle.vhdl_names_rules.proofs.Memory.{memory_gives, memory_told}
use Rattle.vhdl_names_units.specs.views.Answers.{choice_view, choices_view}
use Rattle.vhdl_names_expressions.proofs.Each.{behind, none_behind, each_fails, each_goes, each_ends}
use Rattle.vhdl_names_rules.specs.problems.Broken.{Tells, any_of}
use Rattle.vhdl_names_rules.specs.problems.Choices as broken
use Rattle.vhdl_names_rules.proofs.Telling.{told_same}
use Rattle.vhdl_names_rules.proofs.kept.Choices.{choice_kept}
use Rattle.vhdl_names_values.proofs.BreakingChoices.{next_told, any_left}
use Rattle.vhdl_names_rules.proofs.Passing.{passed_on, told_by}
use Rattle.vhdl_names_values.proofs.alternatives.each_choice.Goals as goal

pub returns-in_err-next-clause-given : goal.returns-in_err-next-clause-given
returns-in_err-next-clause-given c =
    let f = choice c.args.sight.now c.args.object_type in
    let lt : c.loop-one.one-index < length c.args.all.now = omega arith in
    let n : c.in_err-next.field-0.0 ≢ NoMemory → each f (map tree_choice_view c.args.all.now) ≡ None =
    λ n. each_fails f tree_choice_view _ (choices_view c.loop-one.done) c.args.all.now c.loop-one.one-index c.one-item.result c.loop-one.invariant.0 lt c.one-item.is
    (c.in_err-next.ensures.given n) in
    passed_on _ _ c.in_err-next.field-0.0 _ c.from_residual.result c.from_residual.ensures.1 (λ e p. p) n

pub returns-in_err-push : goal.returns-in_err-push
returns-in_err-push c = record { given = memory_gives _ _ _ c.from_residual-in_err-push.result c.from_residual-in_err-push.ensures.1 (λ e p. p); told = memory_told _ _ c.from_residual-in_err-push.result c.from_residual-in_err-push.ensures.1 (λ e p. p) }

pub loop-one-init : goal.loop-one-init
loop-one-init c =
    let all = each (choice c.args.sight.now c.args.object_type) (map tree_choice_view c.args.all.now) in
    (none_behind all ∙ ap (λ xs. behind (map choice_view xs) all) (sym c.new-done.ensures.items), refl)

pub loop-one-preserved : goal.loop-one-preserved
loop-one-preserved c =
    let f = choice c.args.sight.now c.args.object_type in
    let i = c.loop-one.one-index in
    let lt : c.loop-one.one-index < length c.args.all.now = omega arith in
    let next : suc c.loop-one.one-index ≡ c.loop-one.one-index + 1 = omega arith in (
      each_goes f tree_choice_view _ (choices_view c.loop-one.done) c.args.all.now i c.one-item.result (choice_view c.in_ok-next.next) c.loop-one.invariant.0 lt c.one-item.is
          c.in_ok-next.ensures.given
          ∙ ap (λ xs. behind xs (each f (map tree_choice_view (drop (suc i) c.args.all.now))))
          (sym (ap (map choice_view) c.in_ok-push.ensures.items ∙ map-append choice_view c.loop-one.done.items (c.in_ok-next.next ∷ [])))
          ∙ ap (λ k. behind (choices_view c.push.new.self) (each f (map tree_choice_view (drop k c.args.all.now)))) next,
      c.loop-one.invariant.1
          ∙ any_left (broken.choice c.args.sight.now c.args.object_type) tree_choice_view c.args.all.now i (c.loop-one.one-index + 1) c.one-item.result lt c.one-item.is next
          (choice_kept c.args.sight.now c.args.object_type (tree_choice_view c.one-item.result) (choice_view c.in_ok-next.next) c.in_ok-next.ensures.given),
    )

pub returns-clause-given : goal.returns-clause-given
returns-clause-given c =
    each_ends (choice c.args.sight.now c.args.object_type) tree_choice_view _ (choices_view c.loop-one.done) c.args.all.now c.loop-one.one-index c.loop-one.invariant.0 (omega arith)

pub returns-in_err-next-clause-told : goal.returns-in_err-next-clause-told
returns-in_err-next-clause-told c =
    let b = broken.choice c.args.sight.now c.args.object_type in
    let lt : c.loop-one.one-index < length c.args.all.now = omega arith in
    let f : Tells (any_of b (map tree_choice_view c.args.all.now)) c.in_err-next.field-0.0 =
    told_same _ _ c.in_err-next.field-0.0 (sym c.loop-one.invariant.1)
    (next_told b tree_choice_view c.args.all.now c.loop-one.one-index c.one-item.result c.in_err-next.field-0.0 lt c.one-item.is c.in_err-next.ensures.told) in
    told_by _ c.in_err-next.field-0.0 _ c.from_residual.result c.from_residual.ensures.1 (λ e p. p) f
