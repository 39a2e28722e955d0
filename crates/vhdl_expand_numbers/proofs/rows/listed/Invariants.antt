use Rattle.std.proofs.Common.{◌≡◌, take}
use Rattle.vhdl_expand_numbers.proofs.rows.listed.Given as goal

abbrev pub invariant-loop-place : goal.invariant-loop-place
invariant-loop-place l = l.list.items ≡ take l.place l.values
