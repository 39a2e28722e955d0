-- Shifts and masks of words as products, quotients and sums.
use Rattle.std.proofs.Common.{◌≡◌, ℕ, ◌+◌, ◌-◌, ◌*◌, ◌/◌, ◌%◌, ◌^◌, ◌<◌, ◌≤◌, sym, ap, ◌∙◌, arith}
use Rattle.std.specs.Prelude.{bit_and, bit_or}
use Rattle.std.proofs.Math.Nat.{pow-le-pow_right}
use Rattle.std.proofs.lemmas.Nat.{pow-add, or_shifted, shl_whole, shr_below, and_mask, one_shl, mod_below, pow_pos}
use Rattle.std.proofs.lemmas.Nat.Bits.{ones_shr}

pub mask-is : (len : ℕ) → len ≤ 64 → 18446744073709551615 / 2 ^ (64 - len) ≡ 2 ^ len - 1
mask-is len le = let back : 64 - (64 - len) ≡ len = omega arith in ones_shr 64 (64 - len) (omega arith) ∙ ap (λ n. 2 ^ n - 1) back

pub part-is : (a n m len : ℕ) → m ≡ 2 ^ len - 1 → bit_and (a / 2 ^ n) m ≡ a / 2 ^ n % 2 ^ len
part-is a n m len e = rw e (and_mask (a / 2 ^ n) len)

pub beside-is : (a b n : ℕ) → n < 64 → a < 2 ^ (64 - n) → b < 2 ^ n → bit_or (a * 2 ^ n % 2 ^ 64) b ≡ a * 2 ^ n + b
beside-is a b n lt fits low = ap (λ m. bit_or m b) (shl_whole a (64 - n) n 64 fits (omega arith)) ∙ or_shifted a n b low

with_bit-left : (a n : ℕ) → a < 2 ^ 64 → n < 64 → a / 2 ^ n / 2 < 2 ^ (63 - n)
with_bit-left a n fits lt =
    let whole : 63 - n + 1 + n ≡ 64 = omega arith in
    let wide : a < 2 ^ (63 - n + 1 + n) = rw whole fits in
    shr_below (a / 2 ^ n) (63 - n) 1 (shr_below a (63 - n + 1) n wide)

with_bit-middle : (a b n : ℕ) → a < 2 ^ 64 → n < 64 → b < 2 → bit_or (a / 2 ^ n / 2 * 2 % 2 ^ 64) b ≡ a / 2 ^ n / 2 * 2 + b
with_bit-middle a b n fits lt digit =
    let small = with_bit-left a n fits lt in
    let less : 63 - n ≤ 63 = omega arith in
    let more : 2 ^ (63 - n) ≤ 2 ^ 63 = pow-le-pow_right (omega arith) less in
    beside-is (a / 2 ^ n / 2) b 1 (omega arith) (omega (arith, small, more)) digit

pub with_bit-is : (a b n : ℕ) → a < 2 ^ 64 → n < 64 → b < 2 →
    bit_or (bit_or (a / 2 ^ n / 2 * 2 % 2 ^ 64) b * 2 ^ n % 2 ^ 64) (bit_and a (1 * 2 ^ n % 2 ^ 64 - 1)) ≡ (a / 2 ^ n / 2 * 2 + b) * 2 ^ n + a % 2 ^ n
with_bit-is a b n fits lt digit =
    let low : bit_and a (1 * 2 ^ n % 2 ^ 64 - 1) ≡ a % 2 ^ n = ap (λ m. bit_and a (m - 1)) (one_shl n 64 lt) ∙ and_mask a n in
    let small = with_bit-left a n fits lt in
    let next : 63 - n + 1 ≡ 64 - n = omega arith in
    let twice : 2 ^ (64 - n) ≡ 2 ^ (63 - n) * 2 = ap (λ m. 2 ^ m) (sym next) ∙ pow-add 2 (63 - n) 1 in
    let below : a / 2 ^ n / 2 * 2 + b < 2 ^ (64 - n) = omega (arith, small, twice, digit) in
    ap (λ m. bit_or (m * 2 ^ n % 2 ^ 64) (bit_and a (1 * 2 ^ n % 2 ^ 64 - 1))) (with_bit-middle a b n fits lt digit)
    ∙ ap (λ m. bit_or ((a / 2 ^ n / 2 * 2 + b) * 2 ^ n % 2 ^ 64) m) low
    ∙ beside-is (a / 2 ^ n / 2 * 2 + b) (a % 2 ^ n) n lt below (mod_below a (2 ^ n) (pow_pos n))
