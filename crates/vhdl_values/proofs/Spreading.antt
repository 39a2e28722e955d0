-- The codes of up to eight values, from their planes.
use Rattle.std.proofs.Common.{◌≡◌, ℕ, zero, suc, ◌+◌, ◌-◌, ◌*◌, ◌^◌, ◌<◌, ◌≤◌, Bool, List, [], ◌∷◌, ◌++◌, length, map, drop, replicate, refl, sym, ap, ◌∙◌, arith, length-append}
use Rattle.std.specs.List.{All}
use Rattle.std.specs.Int.{w64, to_le_bytes}
use Rattle.std.proofs.lemmas.List.{length-map, length-replicate}
use Rattle.vhdl_values.specs.declared.scalar.Nine.{Nine}
use Rattle.vhdl_values.specs.declared.scalar.Nine.TheVariants.{U}
use Rattle.vhdl_values.specs.Scalar.{code_of}
use Rattle.vhdl_values.specs.Planes.{bit, marks, has_bit}
use Rattle.vhdl_values.specs.Packed.{packed_low}
use Rattle.vhdl_values.proofs.Codes.{code_of_below}
use Rattle.vhdl_values.proofs.Marks.{marks-map}
use Rattle.vhdl_values.proofs.Transposing.{packed-sum, map-like, map-twice, to_le_bytes-packed}

-- Us to the left of fewer than eight values
padded : ℕ → List Nine → List Nine
padded n vs = replicate n U ++ vs

length-padded : (vs : List Nine) (n : ℕ) → n ≡ 8 - length vs → length vs ≤ 8 → length (padded n vs) ≡ 8
unfolding padded
length-padded vs n e le = rw (length-append, length-replicate) (omega arith)

marks-padded : (f : Nine → Bool) (n : ℕ) (vs : List Nine) → bit (f U) ≡ 0 → marks f (padded n vs) ≡ marks f vs
unfolding padded marks
marks-padded f zero vs none = refl
marks-padded f (suc n) vs none =
    ap (λ b. b * 2 ^ length (replicate n U ++ vs) + marks f (replicate n U ++ vs)) none ∙ ap (λ m. 0 * 2 ^ length (replicate n U ++ vs) + m) (marks-padded f n vs none) ∙ omega arith

spread-plane : (f : Nine → Bool) (vs : List Nine) (plane word : ℕ) → length vs ≤ 8 → bit (f U) ≡ 0 → plane ≡ marks f vs →
    ((marked : List Bool) → length marked ≡ 8 → plane ≡ marks (λ mark. mark) marked → word ≡ packed_low (map bit marked)) →
    word ≡ packed_low (map (λ v. bit (f v)) (padded (8 - length vs) vs))
spread-plane f vs plane word le none e put =
    let all = padded (8 - length vs) vs in
    put (map f all) (length-map all f ∙ length-padded vs (8 - length vs) refl le) (e ∙ sym (marks-padded f (8 - length vs) vs none) ∙ sym (marks-map (λ mark. mark) f all))
    ∙ ap packed_low (map-twice bit f all)

code_of-planes : (v : Nine) → bit (has_bit 0 v) + 2 * bit (has_bit 1 v) + 4 * (bit (has_bit 2 v) + 2 * bit (has_bit 3 v)) ≡ code_of v
code_of-planes U = refl
code_of-planes _ = refl

codes_small : (vs : List Nine) → All (λ c. c < 256) (map code_of vs)
codes_small [] k d lt = absurd (omega arith)
codes_small (v ∷ vs) zero d lt = omega (arith, code_of_below v)
codes_small (v ∷ vs) (suc k) d lt = codes_small vs k d (omega arith)

map-padded : (n : ℕ) (vs : List Nine) → drop n (map code_of (padded n vs)) ≡ map code_of vs
unfolding padded
map-padded zero vs = refl
map-padded (suc n) vs = map-padded n vs

pub codes-spread : (vs : List Nine) (len p q r s a b c d word : ℕ) (bytes : List ℕ) → len ≡ length vs → length vs ≤ 8 →
    p ≡ marks (has_bit 0) vs → q ≡ marks (has_bit 1) vs → r ≡ marks (has_bit 2) vs → s ≡ marks (has_bit 3) vs →
    ((marked : List Bool) → length marked ≡ 8 → p ≡ marks (λ mark. mark) marked → a ≡ packed_low (map bit marked)) →
    ((marked : List Bool) → length marked ≡ 8 → q ≡ marks (λ mark. mark) marked → b ≡ packed_low (map bit marked)) →
    ((marked : List Bool) → length marked ≡ 8 → r ≡ marks (λ mark. mark) marked → c ≡ packed_low (map bit marked)) →
    ((marked : List Bool) → length marked ≡ 8 → s ≡ marks (λ mark. mark) marked → d ≡ packed_low (map bit marked)) →
    word ≡ a + 2 * b + 4 * (c + 2 * d) → bytes ≡ to_le_bytes w64 word → drop (8 - len) bytes ≡ map code_of vs
codes-spread vs len p q r s a b c d word bytes long le ep eq er es pa pb pc pd sum written =
    let n = 8 - length vs in
    let all = padded n vs in
    let ea = spread-plane (has_bit 0) vs p a le refl ep pa in
    let eb = spread-plane (has_bit 1) vs q b le refl eq pb in
    let ec = spread-plane (has_bit 2) vs r c le refl er pc in
    let ed = spread-plane (has_bit 3) vs s d le refl es pd in
    let total : a + 2 * b + 4 * (c + 2 * d) ≡ packed_low (map code_of all) =
    rw (ea, eb, ec, ed)
    (packed-sum (λ v. bit (has_bit 0 v)) (λ v. bit (has_bit 1 v)) (λ v. bit (has_bit 2 v)) (λ v. bit (has_bit 3 v)) all
    ∙ ap packed_low (map-like (λ v. bit (has_bit 0 v) + 2 * bit (has_bit 1 v) + 4 * (bit (has_bit 2 v) + 2 * bit (has_bit 3 v))) code_of all code_of-planes)) in
    let whole : bytes ≡ map code_of all =
    written ∙ to_le_bytes-packed (map code_of all) word (length-map all code_of ∙ length-padded vs n refl le) (codes_small all) (sum ∙ total) in
    ap (λ m. drop (8 - m) bytes) long ∙ ap (drop n) whole ∙ map-padded n vs
