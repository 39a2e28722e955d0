use Rattle.byte_streams.specs.Written.{Goes}
use Rattle.rtl_vcd.specs.Header.{upscopes}
use Rattle.rtl_vcd.proofs.heading.push_upscopes.Given as goal

abbrev pub invariant-loop : goal.invariant-loop
invariant-loop g l = Goes (g.W.Sink.state l.initial.out) (g.W.Sink.state l.out) (upscopes l.counter)
