use Rattle.std.proofs.Common.{length, ◌∙◌, subst, sym}
use Rattle.byte_streams.specs.Written.{Goes}
use Rattle.byte_streams.proofs.Writing.{Goes-append}
use Rattle.rtl_net.specs.Nets.{SignalView}
use Rattle.rtl_vcd.specs.Trace.{printed}
use Rattle.rtl_vcd.proofs.Names.{numbered_more, shown_at}
use Rattle.rtl_vcd.proofs.trace.push_all.Goals as goal

pub change_line-requires : goal.change_line-requires
change_line-requires g c = record {
  shown = shown_at (length c.args.values.now) c.args.signals.now c.loop-number.number c.index-signals-number.result c.loop-number-test.true c.index-signals-number.is c.requires.shown;
}

pub loop-number-preserved : goal.loop-number-preserved
loop-number-preserved g c =
    let before = g.W.Sink.state c.loop-number.out in
    let after = g.W.Sink.state c.push_text.new.sink in
    let more = numbered_more (λ k (s : SignalView). printed k s c.args.values.now) c.args.signals.now c.loop-number.number c.index-signals-number.result c.loop-number-test.true c.index-signals-number.is in
    let line = subst (λ text. Goes before after text) (c.deref.ensures.0 ∙ c.change_line.ensures) c.push_text.ensures in
    subst (λ text. Goes (g.W.Sink.state c.args.out.now) after text) (sym more) (Goes-append _ _ _ _ _ c.loop-number.invariant line)
