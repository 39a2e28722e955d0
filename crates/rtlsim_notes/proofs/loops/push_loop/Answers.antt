use Rattle.std.proofs.Common.{sym, ap, ◌∙◌}
use Rattle.rtlsim_notes.specs.Loops.{loop_of}
use Rattle.vhdl_slips.specs.Words.{with_tokens}
use Rattle.rtlsim_notes.proofs.loops.push_loop.Goals as goal

pub returns : goal.returns
returns c =
    let text = c.args.source.text.now in
    let cause = c.args.finding.now.cause in
    let found = sym (c.loop_of.ensures ∙ ap (λ ts. loop_of (with_tokens text ts) cause.omission) c.tokens_from.ensures) ∙ c.in-Some.is in
    rw found (rw c.in_ok-text.ensures at c.push_note.ensures)
