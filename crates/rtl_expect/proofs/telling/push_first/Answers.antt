use Rattle.std.proofs.Common.{◌<◌, length, subst, arith}
use Rattle.std.proofs.lemmas.Bool.Decides.{nat_tests}
use Rattle.byte_streams.specs.Written.{Goes}
use Rattle.rtl_expect.proofs.Said.{first_of}
use Rattle.rtl_expect.specs.Telling.{difference_line}
use Rattle.rtl_expect.specs.Watching.{difference_view}
use Rattle.rtl_expect.specs.declared.difference.Difference.{Difference}
use Rattle.rtl_expect.proofs.telling.push_first.Goals as goal

pub returns : goal.returns
returns g c =
    let told = c.args.differences.now.told in
    let empty = c.is_empty.ensures in
    let full = c.if-is_empty.false in
    let ok = told.ok.0 in
    let some : 0 < length told.items = grind (arith, nat_tests, empty, full, ok) in
    let goes = Goes (g.S.Sink.state c.args.sink.now) (g.S.Sink.state c.push_difference.new.sink) in
    subst goes (first_of c.args.net.now told.items c.index.result.now some)
    (subst (λ (d : Difference). goes (difference_line c.args.net.now (difference_view d))) c.index.ensures c.push_difference.ensures)
