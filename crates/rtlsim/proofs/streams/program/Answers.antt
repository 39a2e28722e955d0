use Rattle.std.proofs.Common.{◌≡◌, inr, refl, subst}
use Rattle.std.specs.Io.KnownBytes.{append_known}
use Rattle.rtlsim_command_faults.specs.declared.status.Status.{Status}
use Rattle.byte_streams.specs.Written.{SinkState}
use Rattle.rtlsim.specs.Inputs.{GivesNamed}
use Rattle.rtlsim.specs.Sinks.{Sinks}
use Rattle.rtlsim.specs.Streams.{GoesToWriters, ServesArguments, fresh}
use Rattle.rtlsim.proofs.Buffers.{is_fresh}
use Rattle.rtlsim.proofs.streams.program.Goals as goal

pub returns : goal.returns
returns g c =
    let Does : Status → Sinks → Type 0 = ServesArguments (GivesNamed g.T.File.Read.remaining) c.run_arguments.ensures.0 (g.R.Read.remaining c.args.reader) in
    let result = c.run_arguments.result in
    let out_held = g.O.Write.contents result.stdout in
    let err_held = g.E.Write.contents result.stderr in
    let shown_held = g.P.Write.contents result.progress in
    let out : SinkState = record { taken = append_known (g.O.Write.contents c.new-2.result.writer.inner) c.new-2.result.writer.buf.items; failed = c.new-2.result.failed } in
    let err = fresh (g.E.Write.contents c.args.stderr) in
    let shown = fresh (g.P.Write.contents c.args.progress) in
    let fresh_out : out ≡ fresh (g.O.Write.contents c.args.stdout) =
    is_fresh g.O.Write.contents c.in-Ok.output.inner c.args.stdout c.in-Ok.output.buf.items _ _ c.new-2.ensures.bytes c.in-Ok.ensures.inner c.in-Ok.ensures.empty c.new-2.ensures.intact in
    let fresh_err =
    is_fresh g.E.Write.contents c.in-Ok-new.errors.inner c.args.stderr c.in-Ok-new.errors.buf.items _ _ c.new-3.ensures.bytes c.in-Ok-new.ensures.inner c.in-Ok-new.ensures.empty c.new-3.ensures.intact in
    let fresh_shown : ◌≡◌ {A = SinkState} (record { taken = g.P.Write.contents c.new-4.result.writer; failed = c.new-4.result.failed }) shown =
    rw (c.new-4.ensures.bytes, c.new-4.ensures.intact) refl in
    inr (
      c.run_arguments.ensures.0,
      subst (λ (s : SinkState). GoesToWriters Does result.status s err shown out_held err_held shown_held) fresh_out
          (subst (λ (s : SinkState). GoesToWriters Does result.status out s shown out_held err_held shown_held) fresh_err
          (subst (λ (s : SinkState). GoesToWriters Does result.status out (record { taken = append_known (g.E.Write.contents c.new-3.result.writer.inner) c.new-3.result.writer.buf.items; failed = c.new-3.result.failed }) s out_held err_held shown_held) fresh_shown
          c.run_arguments.ensures.1)),
    )
