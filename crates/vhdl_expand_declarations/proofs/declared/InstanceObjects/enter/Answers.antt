use Rattle.std.proofs.Common.{ap, sym, ◌∙◌}
use Rattle.vhdl_names_units.specs.views.Declarations.{declaration_view}
use Rattle.vhdl_expand_rules.specs.Declarations as definition
use Rattle.vhdl_expand_rules.proofs.Steps.{given}
use Rattle.vhdl_expand_declarations.specs.Regions.{entered_at, with_region}
use Rattle.vhdl_expand_declarations.specs.Stepwise.{stepwise}
use Rattle.vhdl_expand_declarations.specs.Views.{declared_view}
use Rattle.vhdl_expand_declarations.proofs.declared.InstanceObjects.enter.Goals as goal

pub returns-clause-site : goal.returns-clause-site
returns-clause-site c =
    let old = (declared_view c.args.self.now).site in
    ap (λ s. stepwise definition.declared s (declaration_view c.args.declaration.now)) (sym c.site-site.ensures.seen) ∙ c.in_ok-made.ensures
    ∙ ap (λ s. given (entered_at s c.in_ok-made.field-0)) c.site-site.ensures.seen ∙ ap (λ r. given (with_region old r)) (sym c.in_ok-enter.ensures)
