use Rattle.std.proofs.Common.{◌≡◌, ◌++◌, map, take}
use Rattle.std.specs.Prelude.{flat_map}
use Rattle.rtlsim_findings.specs.Sayings.{another}
use Rattle.rtlsim_findings.proofs.saying.push_others.Given as goal

abbrev pub invariant-loop-next : goal.invariant-loop-next
invariant-loop-next l =
    l.text.items ≡ l.initial.text.items ++ flat_map another (map (λ t. t.items) (take l.next-index l.texts))
