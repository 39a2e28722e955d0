use Rattle.std.proofs.Common.{subst}
use Rattle.byte_streams.specs.Written.{Goes}
use Rattle.rtlsim_refusals.specs.Explained.{paragraph, refusal_told}
use Rattle.vhdl_source_files.specs.Files.{Spot}
use Rattle.rtlsim_refusals.proofs.explaining.explain_refusal.Goals as goal

pub returns-in-Byte : goal.returns-in-Byte
returns-in-Byte g c =
    let state = g.S.Sink.state in
    let told = subst (λ (s : Spot). Goes (state c.args.sink.now) (state c.push_refusal.new.sink) (paragraph (refusal_told s c.args.report.rule))) c.place_in.ensures c.push_refusal.ensures in
    rw c.in-Byte.is told
