use Rattle.std.proofs.Common.{◌≡◌, Err, ◌<◌, ◌≤◌, length, map, rules, arith, refl, sym, ap, ◌∙◌}
use Rattle.std.specs.Prelude.{◌≢◌}
use Rattle.std.proofs.lemmas.List.{length-set}
use Rattle.vhdl_tree.specs.declared.expression.Identifier.{Identifier}
use Rattle.vhdl_names_trees.specs.views.Vectors.{place_view}
use Rattle.vhdl_names_units.specs.views.Declarations.{ports_view}
use Rattle.vhdl_expand_rules.specs.declared.fault.ElabFault.TheVariants.{NoMemory}
use Rattle.vhdl_expand_bodies.specs.Sites.{site_view}
use Rattle.vhdl_expand_declarations.specs.Associations.{any_port, associated_to, next_associated, places_view}
use Rattle.vhdl_expand_declarations.specs.Stepwise.{stepwise}
use Rattle.vhdl_expand_declarations.proofs.Associating.{nameless, next_given, next_refused, all_associated}
use Rattle.vhdl_expand_declarations.proofs.Names.{actual_seen}
use Rattle.vhdl_expand_declarations.proofs.Walks.{same_goes, same_stops}
use Rattle.vhdl_expand_rules.specs.Elab.{fault_told}
use Rattle.vhdl_expand_operands.proofs.Passing.{passed_on}
use Rattle.vhdl_expand_declarations.proofs.actuals.associate_all.Goals as goal

pub loop-name-init : goal.loop-name-init
loop-name-init c =
    let above = site_view c.args.above.now in
    let actuals = places_view c.args.actuals.now in
    let s = associated_to c.args.before c.args.ports.now.items in
    record {
      rest = nameless above c.args.at actuals c.args.declaration.now s
          ∙ ap (λ ns. stepwise (next_associated above c.args.at actuals) s (map (λ (n : Identifier). any_port c.args.declaration.now) ns)) (sym c.as_slice-names.ensures.value);
      within = c.requires.there;
    }

pub loop-name-preserved : goal.loop-name-preserved
loop-name-preserved c =
    let above = site_view c.args.above.now in
    let actuals = places_view c.args.actuals.now in
    let os = c.loop-name.ports.items in
    let n = c.loop-name.count in
    let below : n < length os = first_of (search rules, omega arith) in
    let actual = actual_seen (λ x. place_view x.now) n c.args.actuals.now c.actual_of-actual.result c.actual_of-actual.ensures in
    record {
      rest = same_goes (next_associated above c.args.at actuals) (any_port c.args.declaration.now) _ (associated_to n os) _ c.as_slice-names.result.now c.loop-name._name-index c.loop-name-test.true c.loop-name.invariant.rest
          (next_given above c.args.at actuals os _ n c.index_mut.result.now c.associate.new.port (any_port c.args.declaration.now) _ below c.index_mut.ensures.value actual c.in_ok-associate.ensures refl);
      within = omega (arith, below, length-set os n c.associate.new.port);
    }

pub returns-then-count-len-clause-given : goal.returns-then-count-len-clause-given
returns-then-count-len-clause-given c =
    let os = c.loop-name.ports.items in
    let all : length os ≤ c.loop-name.count = first_of (search rules, omega arith) in
    c.loop-name.invariant.rest ∙ all_associated (site_view c.args.above.now) c.args.at (places_view c.args.actuals.now) os c.loop-name.count _ all

pub returns-in_err-associate-clause-given : goal.returns-in_err-associate-clause-given
returns-in_err-associate-clause-given c =
    let above = site_view c.args.above.now in
    let actuals = places_view c.args.actuals.now in
    let os = c.loop-name.ports.items in
    let n = c.loop-name.count in
    let actual = actual_seen (λ x. place_view x.now) n c.args.actuals.now c.actual_of-actual.result c.actual_of-actual.ensures in
    let stopped : c.in_err-associate.field-0.0 ≢ NoMemory
    → (stepwise (next_associated above c.args.at actuals) (associated_to c.args.before c.args.ports.now.items) (ports_view c.args.declaration.now)) ≡ Err (fault_told c.in_err-associate.field-0.0) =
    λ m. same_stops (next_associated above c.args.at actuals) (any_port c.args.declaration.now) _ (associated_to n os) c.as_slice-names.result.now c.loop-name._name-index c.loop-name-test.true c.loop-name.invariant.rest
    (next_refused above c.args.at actuals os n c.index_mut.result.now (any_port c.args.declaration.now) _ (first_of (search rules, omega arith)) c.index_mut.ensures.value actual (c.in_err-associate.ensures m)) in
    passed_on _ _ c.in_err-associate.field-0.0 _ c.from_residual.result c.from_residual.ensures.1 (λ e p. p) stopped
