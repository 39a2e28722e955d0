use Rattle.std.proofs.Common.{◌≡◌, false, map, ap, sym, ◌∙◌}
use Rattle.rtl_stim_lines.specs.Lines.{says_nothing}
use Rattle.rtl_stim_lines.specs.View.{inputs_view, said_view}
use Rattle.rtl_stim_lines.proofs.Saying.{line_leads}
use Rattle.rtl_stim_lines.proofs.reading.Said.read_line.Goals as goal

pub returns-clause-said : goal.returns-clause-said
returns-clause-said c =
    let words = map (λ w. w.now) c.in_ok-words.words.items in
    let nothing : says_nothing words ≡ false =
    ap (λ ws. says_nothing (map (λ w. w.now) ws)) (sym c.deref.ensures.value) ∙ sym c.says_nothing.ensures ∙ c.if-says_nothing.false in
    let form = rw (c.deref-2.ensures.value, c.in-Some.is) at c.form_of.ensures in
    line_leads (inputs_view c.args.inputs.now) (said_view c.args.self.now) c.args.line.now words c.args.number
    (said_view c.read_form.new.self) c.read_form.result c.in-Some.form c.in_ok-words.ensures nothing form c.read_form.ensures.said
