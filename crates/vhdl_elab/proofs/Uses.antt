-- What is done with the first so many elements, listed.
use Rattle.std.proofs.Common.{◌≡◌, ℕ, ◌+◌, ◌<◌, List, length, map, sym, ◌∙◌, arith}
use Rattle.std.specs.List.{range_with_len}
use Rattle.std.proofs.lemmas.List.{ext_get_or}
use Rattle.std.proofs.lemmas.List.FromFn.{length-map-range_with_len, get_or-map-range_with_len}
use Rattle.vhdl_connect.specs.declared.uses.Use.{Use}
use Rattle.vhdl_connect.specs.Uses.{use_of, AreUses}

pub uses_listed : (driven read : List ℕ) (us : List Use) (n : ℕ) → length us ≡ n → AreUses driven read us → us ≡ map (use_of driven read) (range_with_len 0 n)
uses_listed driven read us n count h =
    ext_get_or none us (map (use_of driven read) (range_with_len 0 n))
    (count ∙ sym (length-map-range_with_len (use_of driven read) 0 n))
    (λ e l. h.each e none l ∙ sym (get_or-map-range_with_len (use_of driven read) 0 n e e none (let m : e < n = omega (arith, l, count) in m) (let z : 0 + e ≡ e = omega arith in z)))
  where
    none : Use
    none = use_of driven read 0
