use Rattle.std.proofs.Common.{◌≡◌}
use Rattle.std.specs.Io.KnownBytes.{Keeps}
use Rattle.byte_streams.proofs.writer.OutSink.put.Given as goal

-- what an interrupted write leaves
abbrev pub invariant-loop : goal.invariant-loop
invariant-loop g l =
    Keeps (g.W.Write.contents l.initial.self.writer) (g.W.Write.contents l.self.writer) × (l.self.failed ≡ l.initial.self.failed)
