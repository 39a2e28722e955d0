use Rattle.std.proofs.Common.{rules, arith, ◌≡◌, ◌≤◌, ◌<◌, true, false, ◌&&◌, ◌||◌, map, length, ⊎_elim, refl, sym, ap, subst, ◌∙◌}
use Rattle.std.proofs.lemmas.Grind.{common_steps}
use Rattle.std.proofs.lemmas.List.{drop_all}
use Rattle.vhdl_tree.specs.View.{selected_view}
use Rattle.vhdl_names_rules.specs.declared.fault.NameFault.TheVariants.{At}
use Rattle.vhdl_names_rules.specs.declared.fault.NameProblem.TheVariants.{Undeclared}
use Rattle.vhdl_names_rules.specs.Packages.{is_logic, is_numbers}
use Rattle.vhdl_names_rules.proofs.laws.Rules.{not_true}
use Rattle.vhdl_names_rules.specs.problems.Broken.{Tells, unless, any_of}
use Rattle.vhdl_names_rules.specs.problems.Declarations.{package_used, packages_used}
use Rattle.vhdl_names_rules.proofs.Telling.{told_left, told_right}
use Rattle.vhdl_names_packages.specs.Contexts.{context_view}
use Rattle.vhdl_names_packages.proofs.Clauses.{is_offered, neither_offered, package_kept, one_told, one_behind, one_passes}
use Rattle.vhdl_names_packages.proofs.context.uses.Goals as goal

pub loop-selected-init : goal.loop-selected-init
loop-selected-init c = (refl, refl)

pub loop-selected-preserved : goal.loop-selected-preserved
loop-selected-preserved c =
    let b = context_view c.args.before in
    let xs = c.args.all.now in
    let i = c.loop-selected.selected-index in
    let x = c.selected-item.result in
    let lt : c.loop-selected.selected-index < length c.args.all.now = omega arith in
    let has : c.args.before.has_ieee ≡ true = grind (arith, common_steps) in
    let test : c.either-is_offered.result ≡ true = grind (arith, common_steps) in
    let offered : (is_logic (selected_view c.selected-item.result) || is_numbers (selected_view c.selected-item.result)) ≡ true =
    ap (λ b. b || is_numbers (selected_view x)) (sym c.is_logic.ensures) ∙ ap (λ b. c.is_logic.result || b) (sym c.is_numbers.ensures) ∙ sym c.either-is_offered.ensures ∙ test in (
      c.loop-selected.invariant.0 ∙ one_passes (package_used b) selected_view xs i x lt c.selected-item.is is_offered offered,
      c.loop-selected.invariant.1 ∙ one_behind (package_used b) selected_view xs i x lt c.selected-item.is (package_kept b (selected_view x) has offered),
    )

pub returns-then-not-before-clause-told : goal.returns-then-not-before-clause-told
returns-then-not-before-clause-told c =
    let lt : c.loop-selected.selected-index < length c.args.all.now = omega arith in
    let has = c.args.before.has_ieee in
    let b = context_view c.args.before in
    let s = selected_view c.selected-item.result in
    let offered : (is_logic (selected_view c.selected-item.result) || is_numbers (selected_view c.selected-item.result)) ≡ c.either-is_offered.result =
    ap (λ b. b || is_numbers s) (sym c.is_logic.ensures) ∙ ap (λ b. c.is_logic.result || b) (sym c.is_numbers.ensures) ∙ sym c.either-is_offered.ensures in
    let refused : (c.args.before.has_ieee && (is_logic (selected_view c.selected-item.result) || is_numbers (selected_view c.selected-item.result))) ≡ false =
    ⊎_elim (λ h. ap (λ b. b && (is_logic s || is_numbers s)) (not_true has h)) (λ h. let gone : c.either-is_offered.result ≡ false = first_of (search (rules, h.1), grind (arith, h.1)) in neither_offered has (is_logic s || is_numbers s) (offered ∙ gone)) c.then-not-before.either in
    told_left (any_of (package_used b) (map selected_view c.args.all.now)) (unless Undeclared 0 b.has_ieee) c.use_fault.result
    (one_told (package_used b) selected_view c.args.all.now c.loop-selected.selected-index c.selected-item.result lt c.selected-item.is c.use_fault.result c.loop-selected.invariant.1 (c.use_fault.ensures.told refused))

pub returns-then-not-before-2-clause-told : goal.returns-then-not-before-2-clause-told
returns-then-not-before-2-clause-told c =
    let b = context_view c.args.before in
    let xs = c.args.all.now in
    let le : length c.args.all.now ≤ c.loop-selected.selected-index = omega arith in
    let none = c.loop-selected.invariant.1 ∙ ap (λ l. any_of (package_used b) (map selected_view l)) (drop_all c.loop-selected.selected-index xs le) in
    subst (Tells (packages_used b (map selected_view xs))) (sym c.at.ensures)
    (told_right (any_of (package_used b) (map selected_view xs)) (unless Undeclared 0 b.has_ieee) (At Undeclared 0) none (ap (unless Undeclared 0) (not_true c.args.before.has_ieee c.if-not-before-2.true)))
