use Rattle.std.proofs.Common.{sym, ap, ◌∙◌}
use Rattle.rtlsim_notes.specs.Loops.{loop_of, open_loop}
use Rattle.vhdl_slips.specs.Words as words
use Rattle.vhdl_slips.specs.Words.{Read, read_of}
use Rattle.rtlsim_notes.proofs.loops.loop_of.Goals as goal

pub returns : goal.returns
returns c =
    let process = read_of c.args.process in
    c.open_loop.ensures ∙ ap (λ (r : Read). open_loop r.tokens) c.split_at.ensures.before ∙ ap (λ at. open_loop (words.before at process).tokens) c.at.ensures
    ∙ sym (ap (loop_of process) c.in_ok-omission.was)
