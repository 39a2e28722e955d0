use Rattle.vhdl_values.proofs.Kept.{IsKept-seen}
use Rattle.vhdl_values.proofs.vector.Vec9.len.Goals as goal

pub returns-clause-len : goal.returns-clause-len
returns-clause-len c = (IsKept-seen _ _ _ _ _ _ c.self.invariant c.self.view_is).same

pub returns-clause-some : goal.returns-clause-some
returns-clause-some c = (IsKept-seen _ _ _ _ _ _ c.self.invariant c.self.view_is).some

pub returns-clause-room : goal.returns-clause-room
returns-clause-room c = (IsKept-seen _ _ _ _ _ _ c.self.invariant c.self.view_is).room
