use Rattle.std.proofs.Common.{◌≡◌, [], drop}
use Rattle.rtlsim_circles.proofs.Hubs.{marks_from}
use Rattle.rtlsim_circles.proofs.looking.marks_of.Given as goal

-- the marks so far, and then those of the hubs that are left, are all
abbrev pub invariant-loop-hub : goal.invariant-loop-hub
invariant-loop-hub l = marks_from l.number l.marks.items (drop l.hub-index l.hubs) ≡ marks_from l.number [] l.hubs
