use Rattle.std.proofs.Common.{◌≡◌, drop}
use Rattle.vhdl_names_rules.specs.SameText.{same_each}
use Rattle.vhdl_names_interfaces.proofs.alike.VecAlike.is_like.Given as goal

-- what is left to compare is the same as the whole
abbrev pub invariant-loop-place : goal.invariant-loop-place
invariant-loop-place g l = same_each g.T.Alike.alike l.self.items l.other.items ≡ same_each g.T.Alike.alike (drop l.place l.self.items) (drop l.place l.other.items)
