use Rattle.std.proofs.Common.{◌≡◌, ◌++◌, drop}
use Rattle.vhdl_connect_processes.proofs.woken.short.Given as goal

-- the numbers so far, and those that are left
abbrev pub invariant-loop-number : goal.invariant-loop-number
invariant-loop-number l = l.numbers ≡ l.copied.items ++ drop l.number-index l.numbers
