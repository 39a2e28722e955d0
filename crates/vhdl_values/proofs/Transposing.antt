-- Eight codes as the bytes of a word: a plane of them is gathered by a mask and a product, and spread by a table.
use Rattle.std.proofs.Common.{◌≡◌, ℕ, zero, suc, ◌+◌, ◌-◌, ◌*◌, ◌/◌, ◌%◌, ◌^◌, ◌<◌, ◌≤◌, Bool, true, false, List, [], ◌∷◌, ◌++◌, length, map, get_or, take, replicate, nat_lt, refl, sym, ap, ◌∙◌, arith, length-append}
use Rattle.std.specs.Prelude.{◌&&◌, ◌==◌, bit_and}
use Rattle.std.specs.List.{All, list_all}
use Rattle.std.specs.Int.{bit_at, w64, from_be_bytes, from_le_bytes, to_le_bytes}
use Rattle.std.proofs.lemmas.List.{length-map, length-replicate, length-take, take_more}
use Rattle.std.proofs.lemmas.Bool.{ltb-true}
use Rattle.std.proofs.lemmas.Bool.Decides.{Decides-eqb}
use Rattle.std.proofs.Math.Nat.{pow-le-pow_right}
use Rattle.std.proofs.lemmas.Nat.{pow-add, and_block, shl-shr, shl_whole, le_bytes_8, mul-le, pow_below}
use Rattle.std.proofs.lemmas.Nat.Bits.{and_pow, bit_at-lt, bit_at-zero}
use Rattle.vhdl_values.specs.Planes.{bit, bit-test, marks, code_has}
use Rattle.vhdl_values.specs.declared.spreads.TheConstants.{SPREADS}
use Rattle.vhdl_values.specs.Packed.{packed, packed_low}
use Rattle.vhdl_values.proofs.Marks.{marks-map}

-- ---- tables over eight marks

-- whether a test holds of every list of so many truth values
every : ℕ → (List Bool → Bool) → Bool
every zero p = p []
every (suc n) p = every n (λ bs. p (true ∷ bs)) && every n (λ bs. p (false ∷ bs))

both-true : (a b : Bool) → (a && b) ≡ true → (a ≡ true) × (b ≡ true)
both-true true b e = (refl, e)
both-true false b e = cc

every-one : (p : List Bool → Bool) (bs : List Bool) → every (length bs) p ≡ true → p bs ≡ true
unfolding every
every-one p [] e = e
every-one p (true ∷ bs) e = every-one (λ cs. p (true ∷ cs)) bs (both-true (every (length bs) (λ cs. p (true ∷ cs))) (every (length bs) (λ cs. p (false ∷ cs))) e).0
every-one p (false ∷ bs) e = every-one (λ cs. p (false ∷ cs)) bs (both-true (every (length bs) (λ cs. p (true ∷ cs))) (every (length bs) (λ cs. p (false ∷ cs))) e).1

every-eight : (p : List Bool → Bool) (bs : List Bool) → every 8 p ≡ true → length bs ≡ 8 → p bs ≡ true
every-eight p bs e long = every-one p bs (ap (λ n. every n p) long ∙ e)

-- the bits of eight bytes, gathered
gathers : List Bool → Bool
gathers bs = packed (map bit bs) * 72624976668147840 % 2 ^ 64 / 2 ^ 56 == marks (λ b. b) bs

all-gathered : every 8 gathers ≡ true
unfolding every gathers packed marks
all-gathered = refl

gathered-bits : (bs : List Bool) → length bs ≡ 8 → packed (map bit bs) * 72624976668147840 % 2 ^ 64 / 2 ^ 56 ≡ marks (λ b. b) bs
unfolding gathers
gathered-bits bs long = (Decides-eqb _ (marks (λ b. b) bs)).0 (every-eight gathers bs all-gathered long)

-- the rows of the table are the bits of a byte, spread over eight
spreads : List Bool → Bool
spreads bs = get_or SPREADS (marks (λ b. b) bs) 0 == packed_low (map bit bs)

all-spread : every 8 spreads ≡ true
unfolding every spreads packed_low marks
all-spread = refl

pub spread-bits : (bs : List Bool) → length bs ≡ 8 → get_or SPREADS (marks (λ b. b) bs) 0 ≡ packed_low (map bit bs)
unfolding spreads
spread-bits bs long = (Decides-eqb _ (packed_low (map bit bs))).0 (every-eight spreads bs all-spread long)

spreads_below : (ns : List ℕ) (n : ℕ) → list_all (λ m. nat_lt m (2 ^ 58)) ns ≡ true → n < length ns → get_or ns n 0 < 2 ^ 58
spreads_below [] n e lt = absurd (omega arith)
spreads_below (m ∷ ms) zero e lt = ltb-true m (2 ^ 58) (both-true (nat_lt m (2 ^ 58)) _ e).0
spreads_below (m ∷ ms) (suc n) e lt = spreads_below ms n (both-true (nat_lt m (2 ^ 58)) _ e).1 (omega arith)

pub spread_below : (n : ℕ) → n < 256 → get_or SPREADS n 0 < 2 ^ 58
spread_below n lt = spreads_below SPREADS n refl lt

-- ---- bytes of a word

packed_below : (cs : List ℕ) → All (λ c. c < 256) cs → packed cs < 2 ^ (8 * length cs)
unfolding packed
packed_below [] all = omega arith
packed_below (c ∷ cs) all =
    let here : c < 256 = all 0 c (omega arith) in
    let rest = packed_below cs (λ k d lt. all (suc k) d (omega arith)) in
    let next : 8 * length cs + 8 ≡ 8 * suc (length cs) = omega arith in
    let power : 2 ^ (8 * suc (length cs)) ≡ 2 ^ (8 * length cs) * 256 = ap (λ n. 2 ^ n) (sym next) ∙ pow-add 2 (8 * length cs) 8 in
    let top : c * 2 ^ (8 * length cs) ≤ 255 * 2 ^ (8 * length cs) = mul-le c (2 ^ (8 * length cs)) 255 (2 ^ (8 * length cs)) (omega arith) (omega arith) in
    rw power (omega (arith, top, rest))

same_below : (m : ℕ) (cs : List ℕ) → m < 256 → All (λ c. c < 256) (map (λ c. m) cs)
same_below m [] small k d lt = absurd (omega arith)
same_below m (c ∷ cs) small zero d lt = small
same_below m (c ∷ cs) small (suc k) d lt = same_below m cs small k d (omega arith)

masks_below : (m : ℕ) (cs : List ℕ) → m < 256 → packed (map (λ c. m) cs) < 2 ^ (8 * length cs)
masks_below m cs small = rw (length-map cs (λ c. m)) at (packed_below (map (λ c. m) cs) (same_below m cs small))

-- a mask of the same byte at each place
packed-and : (m : ℕ) (cs : List ℕ) → m < 256 → All (λ c. c < 256) cs → bit_and (packed cs) (packed (map (λ c. m) cs)) ≡ packed (map (λ c. bit_and c m) cs)
unfolding packed
packed-and m [] small all = refl
packed-and m (c ∷ cs) small all =
    let rest : All (λ d. d < 256) cs = λ k d lt. all (suc k) d (omega arith) in
    ap (λ n. bit_and (c * 2 ^ (8 * length cs) + packed cs) (m * 2 ^ (8 * n) + packed (map (λ d. m) cs))) (length-map cs (λ d. m))
    ∙ and_block (8 * length cs) c m (packed cs) (packed (map (λ d. m) cs)) (packed_below cs rest) (masks_below m cs small)
    ∙ ap (λ n. bit_and c m * 2 ^ (8 * length cs) + n) (packed-and m cs small rest)
    ∙ ap (λ n. bit_and c m * 2 ^ (8 * n) + packed (map (λ d. bit_and d m) cs)) (sym (length-map cs (λ d. bit_and d m)))

-- the number whose bytes are 1
ones : ℕ → ℕ
ones zero = 0
ones (suc n) = 2 ^ (8 * n) + ones n

packed-ones : (m : ℕ) (cs : List ℕ) → packed (map (λ c. m) cs) ≡ ones (length cs) * m
unfolding packed ones
packed-ones m [] = omega arith
packed-ones m (c ∷ cs) = ap (λ n. m * 2 ^ (8 * n) + packed (map (λ d. m) cs)) (length-map cs (λ d. m)) ∙ ap (λ n. m * 2 ^ (8 * length cs) + n) (packed-ones m cs) ∙ grind arith

ones-eight : (n : ℕ) → n ≡ 8 → ones n ≡ 72340172838076673
unfolding ones
ones-eight n e = rw e refl

times : (a m p n : ℕ) → a * m * p + n * m ≡ (a * p + n) * m
times a m p n = grind arith

-- bytes that are a multiple each
packed-times : (f : ℕ → ℕ) (m : ℕ) (cs : List ℕ) → packed (map (λ c. f c * m) cs) ≡ packed (map f cs) * m
unfolding packed
packed-times f m [] = omega arith
packed-times f m (c ∷ cs) =
    ap (λ n. f c * m * 2 ^ (8 * n) + packed (map (λ d. f d * m) cs)) (length-map cs (λ d. f d * m))
    ∙ ap (λ n. f c * m * 2 ^ (8 * length cs) + n) (packed-times f m cs)
    ∙ times (f c) m (2 ^ (8 * length cs)) (packed (map f cs))
    ∙ ap (λ n. (f c * 2 ^ (8 * n) + packed (map f cs)) * m) (sym (length-map cs f))

pub map-like : {A B : Type 0} (f g : A → B) (xs : List A) → ((x : A) → f x ≡ g x) → map f xs ≡ map g xs
map-like f g [] same = refl
map-like f g (x ∷ xs) same = ap (λ y. y ∷ map f xs) (same x) ∙ ap (λ ys. g x ∷ ys) (map-like f g xs same)

pub map-twice : {A B C : Type 0} (g : B → C) (f : A → B) (xs : List A) → map g (map f xs) ≡ map (λ x. g (f x)) xs
map-twice g f [] = refl
map-twice g f (x ∷ xs) = ap (λ ys. g (f x) ∷ ys) (map-twice g f xs)

-- ---- a plane of eight codes

shifted-mask : (j : ℕ) → j < 8 → 72340172838076673 * 2 ^ j % 2 ^ 64 ≡ 72340172838076673 * 2 ^ j
shifted-mask j lt = shl_whole 72340172838076673 57 j 64 (omega arith) (omega arith)

gathered-eight : (j : ℕ) (cs : List ℕ) → j < 8 → length cs ≡ 8 → All (λ c. c < 256) cs →
    bit_and (packed cs) (72340172838076673 * 2 ^ j % 2 ^ 64) / 2 ^ j * 72624976668147840 % 2 ^ 64 / 2 ^ 56 ≡ marks (code_has j) cs
gathered-eight j cs lt long all =
    let small : 2 ^ j < 256 = pow_below j 8 lt in
    let mask : 72340172838076673 * 2 ^ j % 2 ^ 64 ≡ packed (map (λ c. 2 ^ j) cs) =
    shifted-mask j lt ∙ ap (λ n. n * 2 ^ j) (sym (ones-eight (length cs) long)) ∙ sym (packed-ones (2 ^ j) cs) in
    let masked : bit_and (packed cs) (72340172838076673 * 2 ^ j % 2 ^ 64) ≡ packed (map (λ c. bit_at c j) cs) * 2 ^ j =
    ap (bit_and (packed cs)) mask ∙ packed-and (2 ^ j) cs small all
    ∙ ap packed (map-like (λ c. bit_and c (2 ^ j)) (λ c. bit_at c j * 2 ^ j) cs (λ c. and_pow c j)) ∙ packed-times (λ c. bit_at c j) (2 ^ j) cs in
    let bits : packed (map (λ c. bit_at c j) cs) ≡ packed (map bit (map (code_has j) cs)) =
    ap packed (map-like (λ c. bit_at c j) (λ c. bit (code_has j c)) cs (λ c. sym (bit-test (bit_at c j) (bit_at-lt c j))) ∙ sym (map-twice bit (code_has j) cs)) in
    ap (λ n. n / 2 ^ j * 72624976668147840 % 2 ^ 64 / 2 ^ 56) masked
    ∙ ap (λ n. n * 72624976668147840 % 2 ^ 64 / 2 ^ 56) (shl-shr (packed (map (λ c. bit_at c j) cs)) j ∙ bits)
    ∙ gathered-bits (map (code_has j) cs) (length-map cs (code_has j) ∙ long)
    ∙ marks-map (λ b. b) (code_has j) cs

-- fewer than eight have zeros to their left
packed-zeros : (n : ℕ) (cs : List ℕ) → packed (replicate n 0 ++ cs) ≡ packed cs
unfolding packed
packed-zeros zero cs = refl
packed-zeros (suc n) cs = ap (λ m. 0 * 2 ^ (8 * length (replicate n 0 ++ cs)) + m) (packed-zeros n cs) ∙ omega arith

marks-zeros : (j n : ℕ) (cs : List ℕ) → marks (code_has j) (replicate n 0 ++ cs) ≡ marks (code_has j) cs
unfolding marks
marks-zeros j zero cs = refl
marks-zeros j (suc n) cs =
    ap (λ m. bit (m == 1) * 2 ^ length (replicate n 0 ++ cs) + marks (code_has j) (replicate n 0 ++ cs)) (bit_at-zero j)
    ∙ ap (λ m. 0 * 2 ^ length (replicate n 0 ++ cs) + m) (marks-zeros j n cs)
    ∙ omega arith

zeros_below : (n : ℕ) (cs : List ℕ) → All (λ c. c < 256) cs → All (λ c. c < 256) (replicate n 0 ++ cs)
zeros_below zero cs all k d lt = all k d lt
zeros_below (suc n) cs all zero d lt = omega arith
zeros_below (suc n) cs all (suc k) d lt = zeros_below n cs all k d (omega arith)

padded-long : (n : ℕ) (cs : List ℕ) → length cs ≤ 8 → n ≡ 8 - length cs → length (replicate n 0 ++ cs) ≡ 8
padded-long n cs le e = rw (length-append, length-replicate) (omega arith)

pub gathered : (j : ℕ) (cs : List ℕ) (word : ℕ) → j < 8 → length cs ≤ 8 → All (λ c. c < 256) cs → word ≡ packed cs →
    bit_and word (72340172838076673 * 2 ^ j % 2 ^ 64) / 2 ^ j * 72624976668147840 % 2 ^ 64 / 2 ^ 56 ≡ marks (code_has j) cs
gathered j cs word lt le all e =
    ap (λ n. bit_and n (72340172838076673 * 2 ^ j % 2 ^ 64) / 2 ^ j * 72624976668147840 % 2 ^ 64 / 2 ^ 56) (e ∙ sym (packed-zeros (8 - length cs) cs))
    ∙ gathered-eight j (replicate (8 - length cs) 0 ++ cs) lt (padded-long (8 - length cs) cs le refl) (zeros_below (8 - length cs) cs all)
    ∙ marks-zeros j (8 - length cs) cs

-- ---- eight codes from planes

pub packed-sum : {A : Type 0} (f g h i : A → ℕ) (xs : List A) →
    packed_low (map f xs) + 2 * packed_low (map g xs) + 4 * (packed_low (map h xs) + 2 * packed_low (map i xs))
    ≡ packed_low (map (λ x. f x + 2 * g x + 4 * (h x + 2 * i x)) xs)
unfolding packed_low
packed-sum f g h i [] = refl
packed-sum f g h i (x ∷ xs) = omega (arith, packed-sum f g h i xs)

-- ---- words and their bytes

eight : (cs : List ℕ) → length cs ≡ 8 → cs ≡ get_or cs 0 0 ∷ get_or cs 1 0 ∷ get_or cs 2 0 ∷ get_or cs 3 0 ∷ get_or cs 4 0 ∷ get_or cs 5 0 ∷ get_or cs 6 0 ∷ get_or cs 7 0 ∷ []
eight (a ∷ b ∷ c ∷ d ∷ f ∷ g ∷ h ∷ i ∷ []) e = refl
eight _ e = absurd (omega arith)

from-bytes : (a b c d e f g h : ℕ) → from_be_bytes w64 (a ∷ b ∷ c ∷ d ∷ e ∷ f ∷ g ∷ h ∷ []) ≡ packed (a ∷ b ∷ c ∷ d ∷ e ∷ f ∷ g ∷ h ∷ [])
unfolding packed
from-bytes a b c d e f g h = omega arith

pub from_be_bytes-packed : (cs : List ℕ) → length cs ≡ 8 →
    from_be_bytes w64 (get_or cs 0 0 ∷ get_or cs 1 0 ∷ get_or cs 2 0 ∷ get_or cs 3 0 ∷ get_or cs 4 0 ∷ get_or cs 5 0 ∷ get_or cs 6 0 ∷ get_or cs 7 0 ∷ []) ≡ packed cs
from_be_bytes-packed cs long = from-bytes _ _ _ _ _ _ _ _ ∙ ap packed (sym (eight cs long))

each_below : (cs : List ℕ) → All (λ c. c < 256) cs → (i : ℕ) → get_or cs i 0 < 256
each_below [] all i = omega arith
each_below (c ∷ cs) all zero = all 0 0 (omega arith)
each_below (c ∷ cs) all (suc i) = each_below cs (λ k d lt. all (suc k) d (omega arith)) i

from-low-bytes : (a b c d e f g h : ℕ) → from_le_bytes w64 (a ∷ b ∷ c ∷ d ∷ e ∷ f ∷ g ∷ h ∷ []) ≡ packed_low (a ∷ b ∷ c ∷ d ∷ e ∷ f ∷ g ∷ h ∷ [])
unfolding packed_low
from-low-bytes a b c d e f g h = omega arith

from_le_bytes-packed : (cs : List ℕ) → length cs ≡ 8 → from_le_bytes w64 cs ≡ packed_low cs
from_le_bytes-packed cs long = ap (from_le_bytes w64) (eight cs long) ∙ from-low-bytes _ _ _ _ _ _ _ _ ∙ ap packed_low (sym (eight cs long))

pub to_le_bytes-packed : (cs : List ℕ) (word : ℕ) → length cs ≡ 8 → All (λ c. c < 256) cs → word ≡ packed_low cs → to_le_bytes w64 word ≡ cs
to_le_bytes-packed cs word long all e = le_bytes_8 cs word long (each_below cs all) (e ∙ sym (from_le_bytes-packed cs long))

eight-at-most : (n : ℕ) → n < 8 → 8 * n ≤ 56
eight-at-most n lt = omega arith

ends : (c p n code : ℕ) → c * (p * 256) + (n * 256 + code) ≡ (c * p + n) * 256 + code
ends c p n code = grind arith

packed-end : (cs : List ℕ) (code : ℕ) → packed (cs ++ code ∷ []) ≡ packed cs * 256 + code
unfolding packed
packed-end [] code = omega arith
packed-end (c ∷ cs) code =
    let next : 8 * length cs + 8 ≡ 8 * suc (length cs) = omega arith in
    let power : 2 ^ (8 * suc (length cs)) ≡ 2 ^ (8 * length cs) * 256 = ap (λ n. 2 ^ n) (sym next) ∙ pow-add 2 (8 * length cs) 8 in
    let longer : length (cs ++ code ∷ []) ≡ suc (length cs) = length-append cs (code ∷ []) ∙ omega arith in
    ap (λ n. c * 2 ^ (8 * n) + packed (cs ++ code ∷ [])) longer
    ∙ ap (λ n. c * n + packed (cs ++ code ∷ [])) power
    ∙ ap (λ n. c * (2 ^ (8 * length cs) * 256) + n) (packed-end cs code)
    ∙ ends c (2 ^ (8 * length cs)) (packed cs) code

-- the word of codes as bytes come to it one after the other
pub packed-one : (cs : List ℕ) (code word next : ℕ) → length cs < 8 → All (λ c. c < 256) cs → code < 256 → word ≡ packed cs →
    (word < 2 ^ 56 → code < 2 ^ 8 → next ≡ word * 2 ^ 8 + code) → next ≡ packed (cs ++ code ∷ [])
packed-one cs code word next lt all small e put =
    let more : 2 ^ (8 * length cs) ≤ 2 ^ 56 = pow-le-pow_right (omega arith) (eight-at-most (length cs) lt) in
    let fits : word < 2 ^ 56 = rw e (omega (arith, packed_below cs all, more)) in
    put fits small ∙ ap (λ n. n * 256 + code) e ∙ sym (packed-end cs code)

all_taken : (codes : List ℕ) (i : ℕ) → ((k : ℕ) → get_or codes k 0 < 256) → All (λ c. c < 256) (take i codes)
all_taken codes zero below k d lt = absurd (omega arith)
all_taken [] (suc i) below k d lt = absurd (omega arith)
all_taken (c ∷ codes) (suc i) below zero d lt = below 0
all_taken (c ∷ codes) (suc i) below (suc k) d lt = all_taken codes i (λ j. below (suc j)) k d (omega arith)

pub packed-none : 0 ≡ packed []
unfolding packed
packed-none = refl

pub packed-next : (codes : List ℕ) (i word next : ℕ) → i < length codes → length codes ≤ 8 → ((k : ℕ) → get_or codes k 0 < 256) → word ≡ packed (take i codes) →
    (word < 2 ^ 56 → get_or codes i 0 < 2 ^ 8 → next ≡ word * 2 ^ 8 + get_or codes i 0) → next ≡ packed (take (i + 1) codes)
packed-next codes i word next lt room below e put =
    rw (take_more codes i 0 lt)
    (packed-one (take i codes) (get_or codes i 0) word next (omega (arith, length-take i codes)) (all_taken codes i below) (below i) e put)
