use Rattle.std.specs.Io.KnownBytes.{append_known}
use Rattle.rtlsim.proofs.streams.end.Goals as goal

pub returns-clause-ends : goal.returns-clause-ends
returns-clause-ends g c = record {
  is_out = c.flush-stdout.result.1;
  told = record { taken = append_known (g.E.Write.contents c.tell_loss.new.err.writer.inner) c.tell_loss.new.err.writer.buf.items; failed = c.tell_loss.new.err.failed };
  loss = rw (← c.failed-had_failed.ensures) c.tell_loss.ensures;
  is_told = c.flush-stderr.result.1;
  output = c.flush-stdout.ensures;
  errors = c.flush-stderr.ensures;
  status = rw (← c.ended_by.ensures) c.ended_by-2.ensures;
}
