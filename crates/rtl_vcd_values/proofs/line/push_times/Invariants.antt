use Rattle.std.proofs.Common.{◌≡◌, ◌+◌, ◌++◌}
use Rattle.std.specs.Prelude.{replicate}
use Rattle.arrayvec.specs.ArrayVec.{array_vec_len}
use Rattle.rtl_vcd_values.proofs.line.push_times.Given as goal

abbrev pub invariant-loop : goal.invariant-loop
invariant-loop l =
    (l.line.items ≡ l.fn.line.items ++ replicate l.counter l.letter) × (array_vec_len l.line ≡ array_vec_len l.fn.line + l.counter)
