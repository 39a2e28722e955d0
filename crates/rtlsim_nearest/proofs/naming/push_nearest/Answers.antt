use Rattle.std.proofs.Common.{subst, arith}
use Rattle.std.proofs.lemmas.Bool.Decides.{nat_tests}
use Rattle.byte_streams.specs.Written.{Goes}
use Rattle.byte_streams.proofs.Writing.{Goes-append}
use Rattle.rtlsim_nearest.proofs.Ends.{line_words}
use Rattle.rtlsim_nearest.proofs.naming.push_nearest.Goals as goal

pub returns : goal.returns
returns g c =
    let empty = c.is_empty.ensures in
    let full = c.if-is_empty.false in
    subst (Goes (g.S.Sink.state c.args.sink.now) (g.S.Sink.state c.push_text-3.new.sink)) (line_words c.args.nearest.now (λ none. grind (arith, nat_tests, empty, full, none)))
    (Goes-append _ _ _ _ _ (Goes-append _ _ _ _ _ c.push_text.ensures c.push_text-2.ensures) c.push_text-3.ensures)
