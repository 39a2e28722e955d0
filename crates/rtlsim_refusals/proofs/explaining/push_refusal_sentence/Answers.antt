use Rattle.std.proofs.Common.{subst}
use Rattle.byte_streams.specs.Written.{Goes}
use Rattle.byte_streams.proofs.Writing.{Goes-append}
use Rattle.vhdl_slips.specs.Forms.{Said}
use Rattle.rtlsim_refusals.proofs.explaining.push_refusal_sentence.Goals as goal

pub returns : goal.returns
returns g c =
    let state = g.S.Sink.state in
    let word = rw c.halves.ensures.after at c.push_refused.ensures in
    let sentence = rw c.as_bytes.ensures.value at c.push_text.ensures in
    let said = subst (λ (s : Said). Goes (state c.push_refused.new.sink) (state c.push_text.new.sink) s.0) c.refusal_said.ensures sentence in
    Goes-append _ _ _ _ _ word said
