use Rattle.byte_streams.proofs.Writing.{Goes-nil}
use Rattle.rtl_vcd.proofs.named.put_time.Goals as goal

pub returns-then-is_printed : goal.returns-then-is_printed
returns-then-is_printed g c = rw c.if-is_printed.true (Goes-nil (g.W.Sink.state c.args.out.now))

pub returns : goal.returns
returns g c = rw c.if-is_printed.false c.push_time.ensures
