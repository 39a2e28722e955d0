use Rattle.std.proofs.Common.{Some, sym, ap, ◌∙◌, zero-add}
use Rattle.std.specs.Prelude.{bytes_eq}
use Rattle.std.specs.Map.{lookup, keys_of}
use Rattle.std.proofs.Common.{position}
use Rattle.vhdl_names_interfaces.specs.Views.{named_view}
use Rattle.vhdl_names_interfaces.proofs.Named.{joined, found, found_pair}
use Rattle.vhdl_names_interfaces.proofs.entities.entity_named.Goals as goal

pub returns-in-None-clause-given : goal.returns-in-None-clause-given
returns-in-None-clause-given c = λ m.
    let n = c.args.name.now.text.items in
    let es = c.args.entities.now.entries in
    found n 0 es
    ∙ ap (λ o. joined n 0 o (lookup (λ m. bytes_eq n m.items) es)) (ap (λ x. position (λ m. bytes_eq x m.items) (keys_of es)) (sym c.as_slice.ensures.value) ∙ sym c.in-None.ensures.index)

pub returns-in-Some-clause-given : goal.returns-in-Some-clause-given
returns-in-Some-clause-given c =
    let n = c.args.name.now.text.items in
    let es = c.args.entities.now.entries in
    let index = ap (λ x. position (λ m. bytes_eq x m.items) (keys_of es)) (sym c.as_slice.ensures.value) ∙ sym c.in-Some.ensures.index in
    let value = ap (λ x. lookup (λ m. bytes_eq x m.items) es) (sym c.as_slice.ensures.value) ∙ sym c.in-Some.ensures.value in
    found n 0 es ∙ ap (λ o. joined n 0 o (lookup (λ m. bytes_eq n m.items) es)) index
    ∙ ap (joined n 0 (Some c.in-Some.number)) value
    ∙ ap (λ k. Some (found_pair k (named_view n c.in-Some.entity.now))) (zero-add c.in-Some.number)
