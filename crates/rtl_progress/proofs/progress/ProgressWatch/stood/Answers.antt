use Rattle.std.proofs.Common.{arith}
use Rattle.std.proofs.lemmas.Bool.Decides.{nat_tests}
use Rattle.rtl_progress.proofs.Showing.{risen, same}
use Rattle.rtl_progress.proofs.progress.ProgressWatch.stood.Goals as goal

pub returns-then-self-now : goal.returns-then-self-now
returns-then-self-now g c start stands told =
    let less = c.if-self-now.true in
    (told.0, risen _ _ _ stands _ _ _ _ _ _ told.1 c.hundredths-now.ensures (grind (arith, nat_tests, less)) c.show.ensures)

pub returns-else-self-now : goal.returns-else-self-now
returns-else-self-now g c start stands told =
    let more = c.if-self-now.false in
    (told.0, same _ _ _ stands _ _ _ _ _ told.1 c.hundredths-now.ensures (grind (arith, nat_tests, more)))
