use Rattle.std.proofs.Common.{arith, ◌≡◌, ◌≢◌, ◌+◌, [], ◌∷◌, map, drop, Some, None, refl, sym, ap, ◌∙◌}
use Rattle.std.specs.Prelude.{option_map}
use Rattle.std.specs.Map.Iter.{deref_pair}
use Rattle.vhdl_names_rules.specs.declared.fault.NameFault.TheVariants.{NoMemory}
use Rattle.vhdl_names_rules.specs.Rules.{◌>>=◌}
use Rattle.vhdl_names_sight.specs.Views.{entry_of, region_view, entry_view}
use Rattle.vhdl_names_declarations.specs.Entered.{more}
use Rattle.vhdl_names_rules.specs.problems.Broken.{nothing}
use Rattle.vhdl_names_declarations.proofs.Breaking.{told_never}
use Rattle.vhdl_names_rules.proofs.Passing.{passed_on, told_by}
use Rattle.vhdl_names_interfaces.proofs.Copying.{next_entry, more_whole, no_entries}
use Rattle.vhdl_names_interfaces.proofs.sights.copied_region.Goals as goal

pub returns-in_err-copy_one : goal.returns-in_err-copy_one
returns-in_err-copy_one c =
    let es = c.args.region.now.entries in
    let i = c.loop-place.place in
    let at = sym c.get_index.ensures.entry ∙ ap (option_map deref_pair) c.unwrap.ensures in
    let f : c.in_err-copy_one.field-0.0 ≢ NoMemory → Some (region_view c.args.region.now) ≡ None =
    λ n. sym (more_whole es c.names_are_apart.ensures) ∙ c.loop-place.invariant
    ∙ next_entry (region_view c.loop-place.copy) es i c.unwrap.result.0.now c.unwrap.result.1.now at
    ∙ ap (λ o. o >>= λ r. more r (drop (i + 1) (map entry_view es)))
    (ap (λ t. more (region_view c.loop-place.copy) (entry_of t c.unwrap.result.1.now ∷ [])) (sym c.as_slice.ensures.value) ∙ c.in_err-copy_one.ensures.given n) in
    record {
      given = passed_on region_view _ c.in_err-copy_one.field-0.0 _ c.from_residual.result c.from_residual.ensures.1 (λ e p. p) f;
      told = told_by nothing c.in_err-copy_one.field-0.0 _ c.from_residual.result c.from_residual.ensures.1 (λ e p. p) (told_never nothing (Some (region_view c.args.region.now)) (region_view c.args.region.now) c.in_err-copy_one.field-0.0 refl f);
    }

pub loop-place-init : goal.loop-place-init
loop-place-init c = ap (λ es. more (map entry_view es) (region_view c.args.region.now)) (sym c.new-copy.ensures.empty)

pub loop-place-preserved : goal.loop-place-preserved
loop-place-preserved c =
    let es = c.args.region.now.entries in
    let i = c.loop-place.place in
    let at = sym c.get_index.ensures.entry ∙ ap (option_map deref_pair) c.unwrap.ensures in
    c.loop-place.invariant
    ∙ next_entry (region_view c.loop-place.copy) es i c.unwrap.result.0.now c.unwrap.result.1.now at
    ∙ ap (λ o. o >>= λ r. more r (drop (i + 1) (map entry_view es)))
    (ap (λ t. more (region_view c.loop-place.copy) (entry_of t c.unwrap.result.1.now ∷ [])) (sym c.as_slice.ensures.value) ∙ c.in_ok-copy_one.ensures.given)

pub returns-clause-given : goal.returns-clause-given
returns-clause-given c =
    sym (more_whole c.args.region.now.entries c.names_are_apart.ensures) ∙ c.loop-place.invariant
    ∙ no_entries c.args.region.now.entries c.loop-place.copy.entries c.loop-place.place (omega arith) c.names_are_apart-2.ensures
