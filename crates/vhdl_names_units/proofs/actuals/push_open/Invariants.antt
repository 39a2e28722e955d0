use Rattle.std.proofs.Common.{◌≡◌, ◌++◌, replicate, None}
use Rattle.vhdl_names_units.proofs.actuals.push_open.Given as goal

-- the formals so far
abbrev pub invariant-loop : goal.invariant-loop
invariant-loop g l = l.list.items ≡ l.initial.list.items ++ replicate l.counter None
