use Rattle.std.proofs.Common.{◌≡◌, suc, Bor, map, option_map, Err, refl, sym, ap, ◌∙◌, arith, rules}
use Rattle.std.specs.Prelude.{◌≢◌}
use Rattle.std.proofs.lemmas.Grind.{common_steps}
use Rattle.vhdl_tree.specs.declared.expression.Identifier.{Identifier}
use Rattle.vhdl_tree.specs.View.{ident_view}
use Rattle.vhdl_names_rules.specs.units.Units.{Generic}
use Rattle.vhdl_names_units.specs.declared.answers.Fixed.{Fixed}
use Rattle.vhdl_names_units.specs.declared.declaration.Generics.{Generics}
use Rattle.vhdl_names_units.specs.views.Answers.{fixed_view}
use Rattle.vhdl_names_units.specs.views.Declarations.{generics_view}
use Rattle.vhdl_expand_rules.specs.declared.fault.ElabFault.TheVariants.{NoMemory}
use Rattle.vhdl_expand_rules.specs.Elab.{fault_told}
use Rattle.vhdl_expand_rules.specs.Declarations as definition
use Rattle.vhdl_expand_rules.proofs.Steps.{given}
use Rattle.vhdl_expand_bodies.specs.Sites.{site_view}
use Rattle.vhdl_expand_operands.proofs.Passing.{passed_on}
use Rattle.vhdl_expand_declarations.specs.Generics.{actuals_view, further_view, generic_view, next_generic, valued_at}
use Rattle.vhdl_expand_declarations.specs.Stepwise.{stepwise}
use Rattle.vhdl_expand_declarations.proofs.Names.{named, actual_seen}
use Rattle.vhdl_expand_declarations.proofs.Walks.{one_goes, one_stops, one_ends}
use Rattle.vhdl_expand_declarations.proofs.Given.{generic_stepped, generic_stopped}
use Rattle.vhdl_expand_declarations.proofs.generics.add_generics.Goals as goal

-- the generic of a name
abbrev generic_of : Generics → Identifier → Generic
generic_of g n = generic_view (ident_view n) g

pub loop-name-init : goal.loop-name-init
loop-name-init c =
    let step = next_generic (site_view c.args.above.now) (actuals_view c.args.actuals.now) in
    let declaration = c.args.declaration.now in
    record {
      rest = ap (stepwise step (further_view c.args.before c.args.declared.now))
          (named (λ n. generic_view n declaration) declaration.names.items ∙ ap (map (generic_of declaration)) (sym c.deref-name-items.ensures.value));
      signals = refl;
    }

pub loop-name-preserved : goal.loop-name-preserved
loop-name-preserved c =
    let above = site_view c.args.above.now in
    let actuals = actuals_view c.args.actuals.now in
    let s = further_view c.loop-name.count c.loop-name.declared in
    let g = generic_of c.args.declaration.now c.name-item.result in
    let actual = option_map (λ (x : Bor Fixed). fixed_view x.now) c.actual_of-actual.result in
    let value = c.in_ok-value.field-0 in
    let seen = c.site-own.ensures.seen in
    let next : c.in-Some.next ≡ suc c.loop-name.count = first_of (search rules, omega arith, grind (arith, common_steps)) in
    let h = ap (λ here. definition.generic above here actual g) (sym seen) ∙ c.in_ok-value.ensures ∙ ap (λ here. given (valued_at here value)) seen in
    record {
      rest = one_goes (next_generic above actuals) (generic_of c.args.declaration.now) _ s _ c.deref-name-items.result.now c.loop-name.name-index c.name-item.result
          c.loop-name-test.true c.name-item.is c.loop-name.invariant.rest
          (generic_stepped above actuals s (further_view c.in-Some.next c.add_value.new.self) actual g (valued_at s.known.site value)
          (actual_seen (λ (x : Bor Fixed). fixed_view x.now) c.loop-name.count c.args.actuals.now c.actual_of-actual.result c.actual_of-actual.ensures) h
          (λ i. record { count = next i; known = record { site = c.in_ok-add_value.ensures.site i; objects = c.in_ok-add_value.ensures.objects i } }));
      signals = c.in_ok-add_value.ensures.signals ∙ c.loop-name.invariant.signals;
    }

pub returns-in_err-value-clause-given : goal.returns-in_err-value-clause-given
returns-in_err-value-clause-given c =
    let above = site_view c.args.above.now in
    let actuals = actuals_view c.args.actuals.now in
    let s = further_view c.loop-name.count c.loop-name.declared in
    let g = generic_of c.args.declaration.now c.name-item.result in
    let actual = option_map (λ (x : Bor Fixed). fixed_view x.now) c.actual_of-actual.result in
    let fault = c.in_err-value.field-0.0 in
    let stopped : fault ≢ NoMemory → stepwise (next_generic above actuals) (further_view c.args.before c.args.declared.now) (generics_view c.args.declaration.now) ≡ Err (fault_told fault) =
    λ n. one_stops (next_generic above actuals) (generic_of c.args.declaration.now) _ s c.deref-name-items.result.now c.loop-name.name-index c.name-item.result
    c.loop-name-test.true c.name-item.is c.loop-name.invariant.rest
    (generic_stopped above actuals s actual g
    (actual_seen (λ (x : Bor Fixed). fixed_view x.now) c.loop-name.count c.args.actuals.now c.actual_of-actual.result c.actual_of-actual.ensures)
    (ap (λ here. definition.generic above here actual g) (sym c.site-own.ensures.seen) ∙ c.in_err-value.ensures n)) in
    passed_on _ _ fault _ c.from_residual.result c.from_residual.ensures.1 (λ e p. p) stopped

pub returns-clause-given : goal.returns-clause-given
returns-clause-given c =
    one_ends (next_generic (site_view c.args.above.now) (actuals_view c.args.actuals.now)) (generic_of c.args.declaration.now) _
    (further_view c.loop-name.count c.loop-name.declared) c.deref-name-items.result.now c.loop-name.name-index c.loop-name-test.false c.loop-name.invariant.rest
