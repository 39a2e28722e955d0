use Rattle.std.proofs.Common.{◌≡◌, replicate}
use Rattle.vhdl_expand_processes.proofs.variables.filled.Given as goal

-- the elements so far
abbrev pub invariant-loop-place : goal.invariant-loop-place
invariant-loop-place l = l.codes.items ≡ replicate l._place l.code
