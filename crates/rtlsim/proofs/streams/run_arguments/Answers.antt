use Rattle.std.proofs.Common.{sym}
use Rattle.std.specs.Io.KnownBytes.{append_known}
use Rattle.byte_streams.specs.Written.{SinkState}
use Rattle.rtlsim.proofs.streams.run_arguments.Goals as goal

pub returns : goal.returns
returns g c =
    let out = c.serve_arguments-outcome.new.out in
    let err = c.serve_arguments-outcome.new.err in
    let out_after : SinkState = record { taken = append_known (g.O.Write.contents out.writer.inner) out.writer.buf.items; failed = out.failed } in
    let err_after : SinkState = record { taken = append_known (g.E.Write.contents err.writer.inner) err.writer.buf.items; failed = err.failed } in
    let shown = c.serve_arguments-outcome.new.progress in
    let progress_after : SinkState = record { taken = g.P.Write.contents shown.writer; failed = shown.failed } in (
      c.serve_arguments-outcome.ensures.0,
      record {
        outcome = c.serve_arguments-outcome.result;
        out_after = out_after;
        err_after = err_after;
        progress_after = progress_after;
        does = c.serve_arguments-outcome.ensures.1;
        shown = rw c.end.ensures.kept (sym c.into_inner.ensures);
        ends = c.end.ensures.ends;
      },
    )
