use Rattle.std.proofs.Common.{◌≡◌, ◌++◌, drop}
use Rattle.vhdl_expand_processes.proofs.reads.of_list.Given as goal

-- those so far, and those that are left
abbrev pub invariant-loop-index : goal.invariant-loop-index
invariant-loop-index l = l.fn.found.items ++ l.listed ≡ l.found.items ++ drop l.index-index l.listed
