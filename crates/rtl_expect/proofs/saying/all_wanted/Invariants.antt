use Rattle.std.proofs.Common.{◌≡◌, drop}
use Rattle.arrayvec.specs.ArrayVec.{array_vec_len}
use Rattle.rtl_expect.specs.Telling.{all_wanted}
use Rattle.rtl_expect.proofs.Coded.{as_bytes, before_codes}
use Rattle.rtl_expect.proofs.saying.all_wanted.Given as goal

-- the codes before this one are there, and those that are left follow where each is wanted
abbrev pub invariant-loop-code : goal.invariant-loop-code
invariant-loop-code l =
    (as_bytes (all_wanted l.wanted) ≡ before_codes l.codes.items (as_bytes (all_wanted (drop l.code-index l.wanted))))
    × (array_vec_len l.codes ≡ l.code-index)
