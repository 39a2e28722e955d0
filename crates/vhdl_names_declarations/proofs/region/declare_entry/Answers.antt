use Rattle.std.proofs.Common.{◌≡◌, false, [], ◌∷◌, None, sym, ap, subst, ◌∙◌}
use Rattle.std.specs.Prelude.{bytes_eq, is_some}
use Rattle.std.specs.Map.{lookup}
use Rattle.indexmap.proofs.CallerLemmas.{insert_entry-new}
use Rattle.vhdl_names_sight.specs.Views.{entry_of, region_view}
use Rattle.vhdl_names_rules.specs.Interfaces.{declared_names}
use Rattle.vhdl_names_rules.specs.problems.Broken.{Tells}
use Rattle.vhdl_names_rules.specs.problems.Declarations.{standing_twice}
use Rattle.vhdl_names_declarations.specs.Entered.{ident}
use Rattle.vhdl_names_declarations.proofs.Breaking.{twice_here}
use Rattle.vhdl_names_declarations.proofs.Regions.{refused, grown, among_keys}
use Rattle.vhdl_names_declarations.proofs.Keyed.{absent}
use Rattle.vhdl_names_declarations.proofs.region.declare_entry.Goals as goal

pub returns-then-contains_key-clause-given : goal.returns-then-contains_key-clause-given
returns-then-contains_key-clause-given c = λ n.
    refused c.args.region.now.entries (entry_of c.args.name.now c.args.entry) c.names_are_apart.ensures (sym c.contains_key.ensures ∙ c.if-contains_key.true)

pub returns-clause-given : goal.returns-clause-given
returns-clause-given c =
    let es = c.args.region.now.entries in
    let new : is_some (lookup (λ k. bytes_eq c.args.name.now k.items) es) ≡ false = sym c.contains_key.ensures ∙ c.if-contains_key.false in
    let same = c.in_ok-key.ensures.items in
    let gone : lookup (λ m. bytes_eq c.in_ok-key.key.items m.items) es ≡ None = ap (λ x. lookup (λ m. bytes_eq x m.items) es) same ∙ absent es c.args.name.now new in
    grown es _ c.args.name.now c.in_ok-key.key c.args.entry c.names_are_apart.ensures new same
    (c.in_ok-insert.ensures.entries ∙ insert_entry-new _ c.args.region.now c.in_ok-key.key c.args.entry gone)

pub returns-then-contains_key-clause-told : goal.returns-then-contains_key-clause-told
returns-then-contains_key-clause-told c =
    let ds = region_view c.args.region.now in
    let i = ident c.args.at c.args.name.now in
    subst (Tells (standing_twice ds (i ∷ []))) (sym c.at.ensures)
    (twice_here (declared_names ds) i [] (sym (among_keys c.args.name.now c.args.region.now.entries) ∙ (sym c.contains_key.ensures ∙ c.if-contains_key.true)))
