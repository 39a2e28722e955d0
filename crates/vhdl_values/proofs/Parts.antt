-- Words of vectors that are put together, cut, changed or filled.
use Rattle.std.proofs.Common.{◌≡◌, ℕ, zero, suc, ◌+◌, ◌-◌, ◌*◌, ◌/◌, ◌%◌, ◌^◌, ◌<◌, ◌≤◌, Bool, true, false, List, [], ◌∷◌, ◌++◌, length, take, drop, set, get_or, replicate, refl, sym, ap, ◌∙◌, arith, length-append, length-drop, append_assoc}
use Rattle.std.specs.Int.{bit_at}
use Rattle.std.proofs.lemmas.List.{length-take, length-replicate, length-set, take-append-drop}
use Rattle.std.proofs.lemmas.Nat.{shr_high, mod_low}
use Rattle.std.proofs.lemmas.Nat.Bits.{bit_at-lt}
use Rattle.std.proofs.Math.Nat.{pow-suc}
use Rattle.vhdl_values.specs.declared.scalar.Nine.{Nine}
use Rattle.vhdl_values.specs.Scalar.{code_of}
use Rattle.vhdl_values.specs.Planes.{bit, bit-test, marks, has_bit, plane_of}
use Rattle.vhdl_values.proofs.Marks.{marks_below, marks-append, marks-beside, marks-shr, marks-mod, marks-replicate}
use Rattle.vhdl_values.proofs.Kept.{IsKept}

bit-has : (j : ℕ) (v : Nine) → bit_at (code_of v) j ≡ bit (has_bit j v)
bit-has j v = sym (bit-test (bit_at (code_of v) j) (bit_at-lt (code_of v) j))

filled : (j len all : ℕ) (v : Nine) → all ≡ 2 ^ len - 1 → bit_at (code_of v) j * all ≡ plane_of j (replicate len v)
filled j len all v e = rw (e, bit-has j v) (sym (marks-replicate (has_bit j) len v))

pub IsKept-filled : (len all : ℕ) (v : Nine) → 1 ≤ len → len ≤ 64 → all ≡ 2 ^ len - 1 →
    IsKept (replicate len v) len (bit_at (code_of v) 0 * all) (bit_at (code_of v) 1 * all) (bit_at (code_of v) 2 * all) (bit_at (code_of v) 3 * all)
IsKept-filled len all v some room e = record {
  same = sym (length-replicate len v);
  some = rw (length-replicate len v) some;
  room = rw (length-replicate len v) room;
  first = filled 0 len all v e;
  second = filled 1 len all v e;
  third = filled 2 len all v e;
  fourth = filled 3 len all v e;
}

pub IsKept-beside : (vs ws : List Nine) (l m n k a b c d p q r s w x y z : ℕ) → IsKept vs l a b c d → IsKept ws k p q r s →
    m ≡ length vs → n ≡ length ws → length vs + length ws ≤ 64 →
    (a < 2 ^ (64 - n) → p < 2 ^ n → w ≡ a * 2 ^ n + p) → (b < 2 ^ (64 - n) → q < 2 ^ n → x ≡ b * 2 ^ n + q) →
    (c < 2 ^ (64 - n) → r < 2 ^ n → y ≡ c * 2 ^ n + r) → (d < 2 ^ (64 - n) → s < 2 ^ n → z ≡ d * 2 ^ n + s) →
    IsKept (vs ++ ws) (m + n) w x y z
IsKept-beside vs ws l m n k a b c d p q r s w x y z h g left right room e f i j =
    let long = length-append vs ws in
    let some = h.some in record {
      same = rw (long, left, right) refl;
      some = rw long (omega arith);
      room = rw long room;
      first = marks-beside (has_bit 0) vs ws n a p w h.first g.first right room e;
      second = marks-beside (has_bit 1) vs ws n b q x h.second g.second right room f;
      third = marks-beside (has_bit 2) vs ws n c r y h.third g.third right room i;
      fourth = marks-beside (has_bit 3) vs ws n d s z h.fourth g.fourth right room j;
    }

-- a part of a list
marks-part : {A : Type 0} (f : A → Bool) (xs : List A) (at len : ℕ) → at + len ≤ length xs →
    marks f xs / 2 ^ (length xs - at - len) % 2 ^ len ≡ marks f (take len (drop at xs))
marks-part f xs at len le =
    let front = take at xs in
    let middle = take len (drop at xs) in
    let end = drop len (drop at xs) in
    let whole : xs ≡ (front ++ middle) ++ end = sym (append_assoc front middle end ∙ ap (λ l. front ++ l) (take-append-drop len (drop at xs)) ∙ take-append-drop at xs) in
    let long : length middle ≡ len = length-take len (drop at xs) ∙ (rw (length-drop) (omega arith)) in
    let short : length xs - at - len ≡ length end = sym (length-drop len (drop at xs) ∙ ap (λ n. n - len) (length-drop at xs)) in
    ap (λ n. marks f xs / 2 ^ n % 2 ^ len) short
    ∙ ap (λ l. marks f l / 2 ^ length end % 2 ^ len) whole
    ∙ ap (λ n. n % 2 ^ len) (marks-shr f (front ++ middle) end)
    ∙ ap (λ n. marks f (front ++ middle) % 2 ^ n) (sym long)
    ∙ marks-mod f front middle

pub part : (f : Nine → Bool) (vs : List Nine) (a at len right w : ℕ) → a ≡ marks f vs → at + len ≤ length vs → right ≡ length vs - at - len → w ≡ a / 2 ^ right % 2 ^ len → w ≡ marks f (take len (drop at vs))
part f vs a at len right w e le r cut = cut ∙ rw (e, r) (marks-part f vs at len le)

pub IsKept-part : (vs : List Nine) (n a b c d at len right w x y z : ℕ) → IsKept vs n a b c d → 1 ≤ len → at + len ≤ length vs → right ≡ length vs - at - len →
    w ≡ a / 2 ^ right % 2 ^ len → x ≡ b / 2 ^ right % 2 ^ len → y ≡ c / 2 ^ right % 2 ^ len → z ≡ d / 2 ^ right % 2 ^ len →
    IsKept (take len (drop at vs)) len w x y z
IsKept-part vs n a b c d at len right w x y z h some le e p q r s =
    let long : length (take len (drop at vs)) ≡ len = length-take len (drop at vs) ∙ (rw (length-drop) (omega arith)) in
    let room = h.room in record {
      same = sym long;
      some = rw long some;
      room = rw long (omega arith);
      first = part (has_bit 0) vs a at len right w h.first le e p;
      second = part (has_bit 1) vs b at len right x h.second le e q;
      third = part (has_bit 2) vs c at len right y h.third le e r;
      fourth = part (has_bit 3) vs d at len right z h.fourth le e s;
    }

-- a word with another bit at a place, in place of the bit b
changed : (m n p b e : ℕ) → n < 2 ^ p → b < 2 → ((m * 2 + b) * 2 ^ p + n) / 2 ^ p / 2 * 2 + e ≡ m * 2 + e
changed m n p b e low digit =
    let left = shr_high (m * 2 + b) p n low in
    rw left (omega (arith, digit))

middle : (m b p n : ℕ) → m * (p * 2) + (b * p + n) ≡ (m * 2 + b) * p + n
middle m b p n = grind arith

marks-middle : {A : Type 0} (f : A → Bool) (xs ys : List A) (x : A) → marks f (xs ++ x ∷ ys) ≡ (marks f xs * 2 + bit (f x)) * 2 ^ length ys + marks f ys
unfolding marks
marks-middle f xs ys x =
    marks-append f xs (x ∷ ys)
    ∙ ap (λ n. marks f xs * n + (bit (f x) * 2 ^ length ys + marks f ys)) (pow-suc 2 (length ys))
    ∙ middle (marks f xs) (bit (f x)) (2 ^ length ys) (marks f ys)

-- a bit at a place that stands in a word as it is written
set-middle : {A : Type 0} (xs : List A) (at : ℕ) (v d : A) → at < length xs → set xs at v ≡ take at xs ++ v ∷ drop (suc at) xs
set-middle [] at v d lt = absurd (omega arith)
set-middle (x ∷ xs) zero v d lt = refl
set-middle (x ∷ xs) (suc at) v d lt = ap (λ l. x ∷ l) (set-middle xs at v d (omega arith))

split-middle : {A : Type 0} (xs : List A) (at : ℕ) (d : A) → at < length xs → xs ≡ take at xs ++ get_or xs at d ∷ drop (suc at) xs
split-middle [] at d lt = absurd (omega arith)
split-middle (x ∷ xs) zero d lt = refl
split-middle (x ∷ xs) (suc at) d lt = ap (λ l. x ∷ l) (split-middle xs at d (omega arith))

bit-lt : (b : Bool) → bit b < 2
bit-lt true = omega arith
bit-lt false = omega arith

-- a word with the bit at a place changed, by the words to its left and right
pub with_bit-marks : {A : Type 0} (f : A → Bool) (xs : List A) (at p : ℕ) (v : A) → at < length xs → p ≡ length xs - 1 - at →
    (marks f xs / 2 ^ p / 2 * 2 + bit (f v)) * 2 ^ p + marks f xs % 2 ^ p ≡ marks f (set xs at v)
with_bit-marks f xs at p v lt e =
    let front = take at xs in
    let end = drop (suc at) xs in
    let old = get_or xs at v in
    let short : p ≡ length end = rw (length-drop) (omega arith) in
    let word : marks f xs ≡ (marks f front * 2 + bit (f old)) * 2 ^ length end + marks f end = ap (marks f) (split-middle xs at v lt) ∙ marks-middle f front end old in
    let low : marks f xs % 2 ^ p ≡ marks f end = ap (λ n. marks f xs % 2 ^ n) short ∙ ap (λ n. n % 2 ^ length end) word ∙ mod_low _ (length end) (marks f end) (marks_below f end) in
    let high : marks f xs / 2 ^ p / 2 * 2 + bit (f v) ≡ marks f front * 2 + bit (f v) =
    ap (λ n. marks f xs / 2 ^ n / 2 * 2 + bit (f v)) short ∙ ap (λ n. n / 2 ^ length end / 2 * 2 + bit (f v)) word ∙ changed (marks f front) (marks f end) (length end) (bit (f old)) (bit (f v)) (marks_below f end) (bit-lt (f old)) in
    ap (λ n. (marks f xs / 2 ^ p / 2 * 2 + bit (f v)) * 2 ^ p + n) low
    ∙ ap (λ n. n * 2 ^ p + marks f end) high
    ∙ ap (λ n. (marks f front * 2 + bit (f v)) * 2 ^ n + marks f end) short
    ∙ sym (marks-middle f front end v)
    ∙ ap (marks f) (sym (set-middle xs at v v lt))

written : (j p at a w code e : ℕ) (vs : List Nine) (v : Nine) → a ≡ plane_of j vs → at < length vs → p ≡ length vs - 1 - at → code ≡ code_of v → e ≡ bit_at code j →
    (e < 2 → w ≡ (a / 2 ^ p / 2 * 2 + e) * 2 ^ p + a % 2 ^ p) → w ≡ plane_of j (set vs at v)
written j p at a w code e vs v plane lt place is_code digit put =
    let value : e ≡ bit (has_bit j v) = digit ∙ ap (λ n. bit_at n j) is_code ∙ bit-has j v in
    let small : e < 2 = rw digit (bit_at-lt code j) in
    put small ∙ rw (value, plane) (with_bit-marks (has_bit j) vs at p v lt place)

pub IsKept-set : (vs : List Nine) (n a b c d at p code e f g i w x y z : ℕ) (v : Nine) → IsKept vs n a b c d → at < length vs → p ≡ length vs - 1 - at → code ≡ code_of v →
    e ≡ bit_at code 0 → f ≡ bit_at code 1 → g ≡ bit_at code 2 → i ≡ bit_at code 3 →
    (e < 2 → w ≡ (a / 2 ^ p / 2 * 2 + e) * 2 ^ p + a % 2 ^ p) → (f < 2 → x ≡ (b / 2 ^ p / 2 * 2 + f) * 2 ^ p + b % 2 ^ p) →
    (g < 2 → y ≡ (c / 2 ^ p / 2 * 2 + g) * 2 ^ p + c % 2 ^ p) → (i < 2 → z ≡ (d / 2 ^ p / 2 * 2 + i) * 2 ^ p + d % 2 ^ p) →
    IsKept (set vs at v) n w x y z
IsKept-set vs n a b c d at p code e f g i w x y z v h lt place is_code de df dg di pw px py pz =
    let long = length-set vs at v in record {
      same = h.same ∙ sym long;
      some = rw long h.some;
      room = rw long h.room;
      first = written 0 p at a w code e vs v h.first lt place is_code de pw;
      second = written 1 p at b x code f vs v h.second lt place is_code df px;
      third = written 2 p at c y code g vs v h.third lt place is_code dg py;
      fourth = written 3 p at d z code i vs v h.fourth lt place is_code di pz;
    }
