use Rattle.std.proofs.Common.{subst}
use Rattle.byte_streams.specs.Written.{Goes}
use Rattle.byte_streams.proofs.Writing.{Goes-append}
use Rattle.rtl_expect.proofs.Said.{more_words}
use Rattle.rtl_expect.proofs.saying.push_more.Goals as goal

pub returns : goal.returns
returns g c =
    subst (Goes (g.S.Sink.state c.args.sink.now) (g.S.Sink.state c.push_text-2.new.sink)) (more_words c.args.more c.if-more-eq0.false)
    (Goes-append _ _ _ _ _ (Goes-append _ _ _ _ _ c.push_text.ensures c.push_number.ensures) c.push_text-2.ensures)
