-- The bytes of a word whose highest bits are a plane: each has eight bits of the plane.
use Rattle.std.proofs.Common.{◌≡◌, ℕ, zero, suc, ◌+◌, ◌-◌, ◌*◌, ◌/◌, ◌%◌, ◌^◌, ◌<◌, ◌≤◌, Bool, List, length, map, get_or, take, drop, refl, sym, ap, ◌∙◌, arith, length-drop}
use Rattle.std.specs.Int.{w64, to_be_bytes}
use Rattle.std.proofs.Math.Nat.{mul-div-mul_right}
use Rattle.std.proofs.lemmas.List.{length-take}
use Rattle.std.proofs.lemmas.Nat.{pow_pos, pow-add, shl_whole}
use Rattle.vhdl_values.specs.declared.scalar.Nine.{Nine}
use Rattle.vhdl_values.specs.Scalar.{code_of}
use Rattle.vhdl_values.specs.Planes.{marks, has_bit, ArePlanes}
use Rattle.vhdl_values.proofs.Marks.{marks_below}
use Rattle.vhdl_values.proofs.Kept.{IsKept}
use Rattle.vhdl_values.proofs.Parts.{part}

byte-high : (word group : ℕ) → group < 8 → get_or (to_be_bytes w64 word) group 0 ≡ word / 2 ^ (56 - 8 * group) % 2 ^ 8
byte-high word (suc (suc (suc (suc (suc (suc (suc zero))))))) lt = let same : word ≡ word / 1 = omega arith in ap (λ n. n % 2 ^ 8) same
byte-high word (suc (suc (suc (suc (suc (suc (suc (suc n)))))))) lt = absurd (omega arith)
byte-high word _ lt = refl

shifted : (a left right n : ℕ) → n ≡ right + left → a * 2 ^ left / 2 ^ n ≡ a / 2 ^ right
shifted a left right n e = rw (e, pow-add) (mul-div-mul_right a (2 ^ right) (pow_pos left))

byte-aligned : (f : Nine → Bool) (vs : List Nine) (plane left group : ℕ) (bytes : List ℕ) → plane ≡ marks f vs → length vs ≤ 64 → left ≡ 64 - length vs → 8 * group + 8 ≤ length vs →
    bytes ≡ to_be_bytes w64 (plane * 2 ^ left % 2 ^ 64) → get_or bytes group 0 ≡ marks f (take 8 (drop (8 * group) vs))
byte-aligned f vs plane left group bytes e room is_left within is_bytes =
    let right = length vs - 8 * group - 8 in
    let apart : 56 - 8 * group ≡ right + left = omega arith in
    let fits : plane < 2 ^ length vs = rw e (marks_below f vs) in
    let whole : plane * 2 ^ left % 2 ^ 64 ≡ plane * 2 ^ left = shl_whole plane (length vs) left 64 fits (omega arith) in
    ap (λ bs. get_or bs group 0) is_bytes
    ∙ byte-high (plane * 2 ^ left % 2 ^ 64) group (omega arith)
    ∙ ap (λ n. n / 2 ^ (56 - 8 * group) % 2 ^ 8) whole
    ∙ ap (λ n. n % 2 ^ 8) (shifted plane left right (56 - 8 * group) apart)
    ∙ part f vs plane (8 * group) 8 right (plane / 2 ^ right % 2 ^ 8) e within refl refl

-- eight codes from a byte of each plane
pub codes-aligned : (vs : List Nine) (len a b c d left group : ℕ) (firsts seconds thirds fourths codes : List ℕ) → IsKept vs len a b c d → left ≡ 64 - length vs → 8 * group + 8 ≤ length vs →
    firsts ≡ to_be_bytes w64 (a * 2 ^ left % 2 ^ 64) → seconds ≡ to_be_bytes w64 (b * 2 ^ left % 2 ^ 64) →
    thirds ≡ to_be_bytes w64 (c * 2 ^ left % 2 ^ 64) → fourths ≡ to_be_bytes w64 (d * 2 ^ left % 2 ^ 64) →
    ((values : List Nine) → length values ≤ 8 → ArePlanes values (get_or firsts group 0) (get_or seconds group 0) (get_or thirds group 0) (get_or fourths group 0) →
    drop (8 - length values) codes ≡ map code_of values) →
    codes ≡ map code_of (take 8 (drop (8 * group) vs))
codes-aligned vs len a b c d left group firsts seconds thirds fourths codes h is_left within ea eb ec ed put =
    let room = h.room in
    let long : length (take 8 (drop (8 * group) vs)) ≡ 8 = length-take 8 (drop (8 * group) vs) ∙ (rw (length-drop) (omega arith)) in
    let written : drop (8 - length (take 8 (drop (8 * group) vs))) codes ≡ map code_of (take 8 (drop (8 * group) vs)) =
    put (take 8 (drop (8 * group) vs)) (omega arith) (
      byte-aligned (has_bit 0) vs a left group firsts h.first room is_left within ea,
      byte-aligned (has_bit 1) vs b left group seconds h.second room is_left within eb,
      byte-aligned (has_bit 2) vs c left group thirds h.third room is_left within ec,
      byte-aligned (has_bit 3) vs d left group fourths h.fourth room is_left within ed,
    ) in
    ap (λ n. drop (8 - n) codes) (sym long) ∙ written
