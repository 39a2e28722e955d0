use Rattle.std.proofs.Common.{◌≡◌, true, false, not, None, sym, ap, ◌∙◌}
use Rattle.vhdl_names_rules.specs.declared.fault.NameProblem.TheVariants.{SecondArchitecture}
use Rattle.vhdl_names_rules.specs.Visibility.{is_among}
use Rattle.vhdl_names_rules.proofs.Telling.{told_unless}
use Rattle.vhdl_names.specs.steps.Outlines.{names_of}
use Rattle.std.specs.Prelude.{bytes_eq, is_some}
use Rattle.std.specs.Map.{lookup}
use Rattle.indexmap.proofs.CallerLemmas.{insert_entry-new}
use Rattle.vhdl_names.specs.Views.{described_view, architectures_view}
use Rattle.vhdl_names.proofs.Describing.{among, refused as there, grown}
use Rattle.vhdl_names_declarations.proofs.Keyed.{absent}
use Rattle.vhdl_names.proofs.Finding.{tells_at}
use Rattle.vhdl_names.proofs.outline.add_described.Goals as goal

pub returns-then-contains_key-clause-given : goal.returns-then-contains_key-clause-given
returns-then-contains_key-clause-given c = λ n.
    let es = c.args.architectures.now.entries in
    there es (described_view c.args.described)
    (ap (λ x. is_some (lookup (λ k. bytes_eq x k.items) es)) (sym c.as_slice.ensures.value) ∙ sym c.contains_key.ensures ∙ c.if-contains_key.true)

pub returns-clause-given : goal.returns-clause-given
returns-clause-given c =
    let es = c.args.architectures.now.entries in
    let n = c.args.described.tree.now.entity.text.items in
    let new : is_some (lookup (λ k. bytes_eq c.args.described.tree.now.entity.text.items k.items) es) ≡ false =
    ap (λ x. is_some (lookup (λ k. bytes_eq x k.items) es)) (sym c.as_slice.ensures.value) ∙ sym c.contains_key.ensures ∙ c.if-contains_key.false in
    let same : c.in_ok-key.key.items ≡ c.args.described.tree.now.entity.text.items = c.in_ok-key.ensures.items ∙ c.deref.ensures.value in
    let gone : lookup (λ m. bytes_eq c.in_ok-key.key.items m.items) es ≡ None = ap (λ x. lookup (λ m. bytes_eq x m.items) es) same ∙ absent es n new in
    grown es _ c.in_ok-key.key c.args.described new same
    (c.in_ok-insert.ensures.entries ∙ insert_entry-new _ c.args.architectures.now c.in_ok-key.key c.args.described gone)

pub returns-then-contains_key-clause-told : goal.returns-then-contains_key-clause-told
returns-then-contains_key-clause-told c =
    let es = c.args.architectures.now.entries in
    let n = c.args.described.tree.now.entity.text.items in
    let at = c.args.described.tree.now.entity.at in
    let has : is_among c.args.described.tree.now.entity.text.items (names_of (architectures_view c.args.architectures.now)) ≡ true =
    sym (among n es) ∙ ap (λ x. is_some (lookup (λ k. bytes_eq x k.items) es)) (sym c.as_slice.ensures.value) ∙ sym c.contains_key.ensures ∙ c.if-contains_key.true in
    told_unless SecondArchitecture at (not (is_among n (names_of (architectures_view c.args.architectures.now)))) c.at.result (λ _. ap not has)
    (tells_at SecondArchitecture at c.at.result c.at.ensures)
