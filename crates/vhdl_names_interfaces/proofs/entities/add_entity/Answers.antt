use Rattle.std.proofs.Common.{◌≡◌, false, None, sym, ap, ◌∙◌}
use Rattle.std.specs.Prelude.{bytes_eq, is_some}
use Rattle.std.specs.Map.{lookup}
use Rattle.indexmap.proofs.CallerLemmas.{insert_entry-new}
use Rattle.vhdl_names_interfaces.specs.Views.{entity_view}
use Rattle.vhdl_names_interfaces.proofs.Named.{refused, grown}
use Rattle.vhdl_names_declarations.proofs.Keyed.{absent}
use Rattle.vhdl_names_interfaces.proofs.entities.add_entity.Goals as goal

pub returns-then-contains_key-clause-given : goal.returns-then-contains_key-clause-given
returns-then-contains_key-clause-given c = λ n.
    let es = c.args.entities.now.entries in
    refused es (entity_view c.args.entity)
    (ap (λ x. is_some (lookup (λ k. bytes_eq x k.items) es)) (sym c.as_slice.ensures.value) ∙ sym c.contains_key.ensures ∙ c.if-contains_key.true)

pub returns-clause-given : goal.returns-clause-given
returns-clause-given c =
    let es = c.args.entities.now.entries in
    let new : is_some (lookup (λ k. bytes_eq c.args.entity.tree.now.name.text.items k.items) es) ≡ false =
    ap (λ x. is_some (lookup (λ k. bytes_eq x k.items) es)) (sym c.as_slice.ensures.value) ∙ sym c.contains_key.ensures ∙ c.if-contains_key.false in
    let same : c.in_ok-key.key.items ≡ c.args.entity.tree.now.name.text.items = c.in_ok-key.ensures.items ∙ c.deref.ensures.value in
    let gone : lookup (λ m. bytes_eq c.in_ok-key.key.items m.items) es ≡ None = ap (λ x. lookup (λ m. bytes_eq x m.items) es) same ∙ absent es c.args.entity.tree.now.name.text.items new in
    grown es _ c.in_ok-key.key c.args.entity new same
    (c.in_ok-insert.ensures.entries ∙ insert_entry-new _ c.args.entities.now c.in_ok-key.key c.args.entity gone)
