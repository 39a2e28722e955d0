use Rattle.std.proofs.Common.{◌≡◌, [], length}
use Rattle.vhdl_connect.specs.Uses.{AreUses}
use Rattle.vhdl_connect.proofs.uses.unused.Given as goal

abbrev pub invariant-loop : goal.invariant-loop
invariant-loop l = (length l.uses.items ≡ l.counter) × AreUses [] [] l.uses.items
