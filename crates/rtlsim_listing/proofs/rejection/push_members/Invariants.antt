use Rattle.std.proofs.Common.{◌≡◌, ◌++◌, take}
use Rattle.std.specs.Prelude.{flat_map}
use Rattle.rtlsim_listing.specs.CheckText.{member_text}
use Rattle.rtlsim_listing.proofs.rejection.push_members.Given as goal

abbrev pub invariant-loop-process : goal.invariant-loop-process
invariant-loop-process l =
    l.line.items ≡ l.initial.line.items ++ flat_map (member_text l.net) (take l.process-index l.processes)
