use Rattle.std.proofs.Common.{[], sym, ◌∙◌, arith}
use Rattle.std.proofs.lemmas.List.{at_drop_all}
use Rattle.rtlsim_circles.proofs.Hubs.{marks_are, marks_from}
use Rattle.rtlsim_circles.proofs.looking.marks_of.Goals as goal

pub returns : goal.returns
returns c =
    let l = c.loop-hub in
    let hubs = c.args.hubs.now in
    let end = at_drop_all (marks_from c.args.number l.marks.items) hubs l.hub-index (omega (arith, c.loop-hub-test.false)) in
    sym end ∙ l.invariant ∙ marks_are c.args.number [] hubs
