use Rattle.std.proofs.Common.{◌≡◌, map, take}
use Rattle.arrayvec.specs.ArrayVec.{array_vec_len}
use Rattle.rtl_expect.proofs.expected.wanted_codes.Given as goal

-- the codes of those before this one are there
abbrev pub invariant-loop-one : goal.invariant-loop-one
invariant-loop-one l = (l.codes.items ≡ map (λ w. w.code) (take l.one-index l.wanted)) × (array_vec_len l.codes ≡ l.one-index)
