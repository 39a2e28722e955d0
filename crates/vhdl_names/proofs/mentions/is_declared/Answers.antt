use Rattle.std.proofs.Common.{arith, length, ◌<◌, refl, sym, ◌∙◌}
use Rattle.vhdl_tree.specs.View.{declaration_view}
use Rattle.vhdl_names_rules.specs.problems.Files.{of_declaration}
use Rattle.vhdl_names.proofs.Mentioning.{declared_in, passed_by, stopped_at, none_past}
use Rattle.vhdl_names.proofs.mentions.is_declared.Goals as goal

pub loop-declaration-preserved : goal.loop-declaration-preserved
loop-declaration-preserved c =
    let lt : c.loop-declaration.declaration-index < length c.args.declarations.now = omega arith in
    c.loop-declaration.invariant
    ∙ passed_by c.args.given.now c.args.at (λ d. of_declaration (declaration_view d)) declared_in (λ d ds. refl) c.args.declarations.now c.loop-declaration.declaration-index c.declaration-item.result lt c.declaration-item.is (sym c.is_component.ensures ∙ c.if-is_component.false)

pub returns-then-is_component : goal.returns-then-is_component
returns-then-is_component c =
    let lt : c.loop-declaration.declaration-index < length c.args.declarations.now = omega arith in
    sym (c.loop-declaration.invariant
    ∙ stopped_at c.args.given.now c.args.at (λ d. of_declaration (declaration_view d)) declared_in (λ d ds. refl) c.args.declarations.now c.loop-declaration.declaration-index c.declaration-item.result lt c.declaration-item.is (sym c.is_component.ensures ∙ c.if-is_component.true))

pub returns : goal.returns
returns c = sym (c.loop-declaration.invariant
    ∙ none_past c.args.given.now c.args.at (λ d. of_declaration (declaration_view d)) declared_in (λ d ds. refl) refl c.args.declarations.now c.loop-declaration.declaration-index (omega arith))
