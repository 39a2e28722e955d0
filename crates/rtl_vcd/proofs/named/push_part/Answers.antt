use Rattle.std.proofs.Common.{length, ap, sym, ◌∙◌}
use Rattle.std.specs.Prelude.{◌==◌}
use Rattle.std.proofs.lemmas.Bool.{false≢true}
use Rattle.rtl_vcd.proofs.Changes.{none_more, some_more, text_of_none, open_of_none, printed_of_none, text_of_some}
use Rattle.rtl_vcd.proofs.named.push_part.Goals as goal

pub returns-then-is_empty-clause-opened : goal.returns-then-is_empty-clause-opened
returns-then-is_empty-clause-opened g c =
    open_of_none c.args.is_printed c.args.step.now.time c.args.page.now c.append_changes-many.new.page _ c.requires.opened c.append_changes-many.ensures.text
    (none_more c.args.is_printed c.args.step.now.time c.args.page.now c.append_changes-many.new.page _ c.requires.opened c.append_changes-many.ensures.text (ap (λ xs. length xs == 0) (sym c.text.ensures) ∙ sym c.is_empty.ensures ∙ c.if-is_empty.true))

pub returns-then-is_empty-clause-text : goal.returns-then-is_empty-clause-text
returns-then-is_empty-clause-text g c =
    text_of_none c.args.is_printed c.args.step.now.time c.args.page.now c.append_changes-many.new.page _ c.requires.opened c.append_changes-many.ensures.text
    (g.W.Sink.state c.args.out.now)
    (none_more c.args.is_printed c.args.step.now.time c.args.page.now c.append_changes-many.new.page _ c.requires.opened c.append_changes-many.ensures.text (ap (λ xs. length xs == 0) (sym c.text.ensures) ∙ sym c.is_empty.ensures ∙ c.if-is_empty.true))

pub returns-then-is_empty-clause-printed : goal.returns-then-is_empty-clause-printed
returns-then-is_empty-clause-printed g c =
    printed_of_none c.args.is_printed c.args.step.now.time c.args.page.now c.append_changes-many.new.page _ c.requires.opened c.append_changes-many.ensures.text
    (none_more c.args.is_printed c.args.step.now.time c.args.page.now c.append_changes-many.new.page _ c.requires.opened c.append_changes-many.ensures.text (ap (λ xs. length xs == 0) (sym c.text.ensures) ∙ sym c.is_empty.ensures ∙ c.if-is_empty.true))

pub returns-clause-opened : goal.returns-clause-opened
returns-clause-opened g c = record { room = c.turn.ensures.room; empty = λ e. absurd (false≢true (sym e)) }

pub returns-clause-text : goal.returns-clause-text
returns-clause-text g c =
    text_of_some c.args.is_printed c.args.step.now.time c.args.page.now c.append_changes-many.new.page _ c.requires.opened c.append_changes-many.ensures.text
    (g.W.Sink.state c.args.out.now) (g.W.Sink.state c.put_time.new.out) (g.W.Sink.state c.turn.new.out) c.turn.new.page
    (some_more c.args.is_printed c.args.step.now.time c.args.page.now c.append_changes-many.new.page _ c.requires.opened c.append_changes-many.ensures.text (ap (λ xs. length xs == 0) (sym c.text.ensures) ∙ sym c.is_empty.ensures ∙ c.if-is_empty.false))
    c.put_time.ensures c.turn.ensures.text

pub returns-clause-printed : goal.returns-clause-printed
returns-clause-printed g c =
    some_more c.args.is_printed c.args.step.now.time c.args.page.now c.append_changes-many.new.page _ c.requires.opened c.append_changes-many.ensures.text (ap (λ xs. length xs == 0) (sym c.text.ensures) ∙ sym c.is_empty.ensures ∙ c.if-is_empty.false)

pub append_changes-many-requires-clause-room : goal.append_changes-many-requires-clause-room
append_changes-many-requires-clause-room g c = c.requires.opened.room
