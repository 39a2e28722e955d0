use Rattle.std.proofs.Common.{◌≡◌, [], true, false, map, option_map, sym, ap, ◌∙◌, subst}
use Rattle.std.specs.Prelude.{flat_map}
use Rattle.std.specs.List.{list_all}
use Rattle.vhdl_names_units.specs.views.Answers.{fixed_view}
use Rattle.vhdl_names_units.specs.views.Declarations.{generics_view}
use Rattle.vhdl_names_units.specs.views.Units.{entity_view}
use Rattle.vhdl_expand_rules.specs.Declarations.{InstanceObjects, interface}
use Rattle.vhdl_expand_rules.specs.Site.{no_site}
use Rattle.vhdl_expand_rules.specs.Tops.{actuals_of, is_generic}
use Rattle.vhdl_expand_rules.specs.views.Tops.{top_view}
use Rattle.vhdl_expand_operands.specs.Results.{Expands}
use Rattle.vhdl_expand_bodies.specs.Sites.{site_view}
use Rattle.vhdl_expand_declarations.specs.Generics.{actuals_view}
use Rattle.vhdl_expand_declarations.specs.Views.{declared_view, within_generates}
use Rattle.vhdl_expand.proofs.SetGenerics.{all_known, one_unknown}
use Rattle.vhdl_expand_declarations.proofs.Told.{same_at}
use Rattle.vhdl_expand.proofs.expansion.outermost.Goals as goal

pub returns-then-not-are_generics : goal.returns-then-not-are_generics
returns-then-not-are_generics c =
    let top = top_view c.args.top in
    let e = entity_view c.args.unit.now in
    let unknown : list_all (is_generic e.generics) top.generics ≡ false =
    ap (λ ds. list_all (is_generic (flat_map generics_view ds)) top.generics) (sym c.deref.ensures.value) ∙ sym c.are_generics.ensures ∙ c.if-not-are_generics.true in
    λ _. same_at c.at.ensures (one_unknown top e unknown)

pub returns : goal.returns
returns c =
    let top = top_view c.args.top in
    let e = entity_view c.args.unit.now in
    let each : list_all (is_generic e.generics) top.generics ≡ true =
    ap (λ ds. list_all (is_generic (flat_map generics_view ds)) top.generics) (sym c.deref.ensures.value) ∙ sym c.are_generics.ensures ∙ c.if-not-are_generics.false in
    let seen : actuals_view c.deref-4.result.now ≡ actuals_of top.generics e.generics =
    ap actuals_view c.deref-4.ensures.value ∙ c.in_ok-actuals.ensures ∙ ap (map (option_map fixed_view)) c.deref-3.ensures.value ∙ c.in_ok-set.ensures
    ∙ ap (λ ds. actuals_of top.generics (flat_map generics_view ds)) c.deref-2.ensures.value in
    let outside : site_view c.site-above.result ≡ no_site = c.site-above.ensures.seen ∙ ap (λ (d : InstanceObjects). within_generates d.site []) c.new-nothing.ensures in
    subst (λ r. Expands declared_view r c.interface_with-declared.result)
    (ap (λ s. interface s (actuals_view c.deref-4.result.now) e) outside ∙ ap (λ xs. interface no_site xs e) seen ∙ sym (all_known top e each)) c.interface_with-declared.ensures
