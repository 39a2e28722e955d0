use Rattle.std.proofs.Common.{◌≡◌, ◌+◌, ◌≤◌, ◌++◌, length, map}
use Rattle.std.specs.Prelude.{reverse}
use Rattle.std.specs.Int.Digits.{digits_of}
use Rattle.arrayvec.specs.ArrayVec.{array_vec_len}
use Rattle.rtl_vcd_values.specs.Values as spec
use Rattle.rtl_vcd_values.proofs.line.push_code.Given as goal

-- the digits that are left follow
abbrev pub invariant-loop-rest : goal.invariant-loop-rest
invariant-loop-rest g l =
    (l.line.items ++ map (λ d. 33 + d) (reverse (digits_of 94 l.rest)) ≡ l.fn.line.items ++ spec.code l.fn.number)
    × (array_vec_len l.line + length (digits_of 94 l.rest) ≤ array_vec_len l.fn.line + 10)

abbrev pub decreases-loop-rest : goal.decreases-loop-rest
decreases-loop-rest g l = l.rest
