-- Words that mark elements of a list: operations on the words are operations on the marks.
use Rattle.std.proofs.Common.{◌≡◌, ℕ, zero, suc, ◌+◌, ◌-◌, ◌*◌, ◌/◌, ◌%◌, ◌^◌, ◌<◌, ◌≤◌, Bool, true, false, List, [], ◌∷◌, ◌++◌, length, map, replicate, refl, sym, ap, ◌∙◌, arith, length-append}
use Rattle.std.specs.Prelude.{not, ◌&&◌, ◌||◌, bit_and, bit_or}
use Rattle.std.proofs.Math.Nat.{pow-suc, pow-le-pow_right}
use Rattle.std.proofs.lemmas.Nat.{pow_pos, pow-add, and_block, or_block, shr_high, mod_low, and-not, and_comm}
use Rattle.std.proofs.lemmas.List.{length-map, length-replicate}
use Rattle.vhdl_values.specs.Planes.{bit, marks}

bit-le : (b : Bool) → bit b ≤ 1
bit-le true = omega arith
bit-le false = omega arith

-- a word is below 2 to the power of the length
pub marks_below : {A : Type 0} (f : A → Bool) (xs : List A) → marks f xs < 2 ^ length xs
unfolding marks
marks_below f [] = omega arith
marks_below f (x ∷ xs) =
    let rest = marks_below f xs in
    let top : bit (f x) * 2 ^ length xs ≤ 1 * 2 ^ length xs = grind (arith, bit-le (f x)) in
    rw pow-suc (omega (arith, top, rest))

pub marks_fit : {A : Type 0} (f : A → Bool) (xs : List A) (w : ℕ) → length xs ≤ w → marks f xs < 2 ^ w
marks_fit f xs w le = let more : 2 ^ length xs ≤ 2 ^ w = pow-le-pow_right (omega arith) le in omega (arith, marks_below f xs, more)

-- the same marks
pub marks-like : {A : Type 0} (f g : A → Bool) (xs : List A) → ((x : A) → f x ≡ g x) → marks f xs ≡ marks g xs
unfolding marks
marks-like f g [] same = refl
marks-like f g (x ∷ xs) same = ap (λ b. bit b * 2 ^ length xs + marks f xs) (same x) ∙ ap (λ n. bit (g x) * 2 ^ length xs + n) (marks-like f g xs same)

-- of the elements that a function gives
pub marks-map : {A B : Type 0} (f : B → Bool) (h : A → B) (xs : List A) → marks f (map h xs) ≡ marks (λ x. f (h x)) xs
unfolding marks
marks-map f h [] = refl
marks-map f h (x ∷ xs) =
    ap (λ n. bit (f (h x)) * 2 ^ n + marks f (map h xs)) (length-map xs h)
    ∙ ap (λ n. bit (f (h x)) * 2 ^ length xs + n) (marks-map f h xs)

-- no mark, and all of them
pub marks-none : {A : Type 0} (xs : List A) → marks (λ x. false) xs ≡ 0
unfolding marks
marks-none [] = refl
marks-none (x ∷ xs) = rw (marks-none xs) (omega arith)

pub marks-all : {A : Type 0} (xs : List A) → marks (λ x. true) xs ≡ 2 ^ length xs - 1
unfolding marks
marks-all [] = omega arith
marks-all (x ∷ xs) = let pos : 0 < 2 ^ length xs = pow_pos (length xs) in rw (marks-all xs, pow-suc) (omega (arith, pos))

-- two words, mark by mark
bit-and : (a b : Bool) → bit_and (bit a) (bit b) ≡ bit (a && b)
bit-and true true = refl
bit-and _ _ = refl

bit-or : (a b : Bool) → bit_or (bit a) (bit b) ≡ bit (a || b)
bit-or true true = refl
bit-or _ _ = refl

pub marks-and : {A : Type 0} (f g : A → Bool) (xs : List A) → bit_and (marks f xs) (marks g xs) ≡ marks (λ x. f x && g x) xs
unfolding marks
marks-and f g [] = refl
marks-and f g (x ∷ xs) =
    and_block (length xs) (bit (f x)) (bit (g x)) (marks f xs) (marks g xs) (marks_below f xs) (marks_below g xs)
    ∙ ap (λ n. n * 2 ^ length xs + bit_and (marks f xs) (marks g xs)) (bit-and (f x) (g x))
    ∙ ap (λ n. bit (f x && g x) * 2 ^ length xs + n) (marks-and f g xs)

pub marks-or : {A : Type 0} (f g : A → Bool) (xs : List A) → bit_or (marks f xs) (marks g xs) ≡ marks (λ x. f x || g x) xs
unfolding marks
marks-or f g [] = refl
marks-or f g (x ∷ xs) =
    or_block (length xs) (bit (f x)) (bit (g x)) (marks f xs) (marks g xs) (marks_below f xs) (marks_below g xs)
    ∙ ap (λ n. n * 2 ^ length xs + bit_or (marks f xs) (marks g xs)) (bit-or (f x) (g x))
    ∙ ap (λ n. bit (f x || g x) * 2 ^ length xs + n) (marks-or f g xs)

-- a word without the marks of another
bit-split : (a b : Bool) → bit (a && not b) + bit (b && a) ≡ bit a
bit-split true true = refl
bit-split true false = refl
bit-split false true = refl
bit-split false false = refl

marks-split : {A : Type 0} (f g : A → Bool) (xs : List A) → marks (λ x. f x && not (g x)) xs + marks (λ x. g x && f x) xs ≡ marks f xs
unfolding marks
marks-split f g [] = refl
marks-split f g (x ∷ xs) =
    let rest = marks-split f g xs in
    rw (← bit-split (f x) (g x)) (grind (arith, rest))

pub marks-and_not : {A : Type 0} (f g : A → Bool) (xs : List A) (w : ℕ) → length xs ≤ w → bit_and (marks f xs) (2 ^ w - 1 - marks g xs) ≡ marks (λ x. f x && not (g x)) xs
marks-and_not f g xs w le =
    let apart = and-not w (marks g xs) (marks f xs) (marks_fit g xs w le) (marks_fit f xs w le) in
    let both = marks-and g f xs in
    let split = marks-split f g xs in
    rw and_comm (omega (arith, apart, both, split))

append-step : (b p q m n : ℕ) → b * (p * q) + (m * q + n) ≡ (b * p + m) * q + n
append-step b p q m n = grind arith

-- one list behind another
pub marks-append : {A : Type 0} (f : A → Bool) (xs ys : List A) → marks f (xs ++ ys) ≡ marks f xs * 2 ^ length ys + marks f ys
unfolding marks
marks-append f [] ys = omega arith
marks-append f (x ∷ xs) ys =
    ap (λ n. bit (f x) * 2 ^ n + marks f (xs ++ ys)) (length-append xs ys)
    ∙ ap (λ n. bit (f x) * 2 ^ (length xs + length ys) + n) (marks-append f xs ys)
    ∙ ap (λ n. bit (f x) * n + (marks f xs * 2 ^ length ys + marks f ys)) (pow-add 2 (length xs) (length ys))
    ∙ append-step (bit (f x)) (2 ^ length xs) (2 ^ length ys) (marks f xs) (marks f ys)

-- a word beside another
pub marks-beside : {A : Type 0} (f : A → Bool) (xs ys : List A) (n a b w : ℕ) → a ≡ marks f xs → b ≡ marks f ys → n ≡ length ys → length xs + length ys ≤ 64 →
    (a < 2 ^ (64 - n) → b < 2 ^ n → w ≡ a * 2 ^ n + b) → w ≡ marks f (xs ++ ys)
marks-beside f xs ys n a b w e g m room put =
    let left : a < 2 ^ (64 - n) = rw e (marks_fit f xs (64 - n) (omega arith)) in
    let right : b < 2 ^ n = rw (g, m) (marks_below f ys) in
    put left right ∙ rw (e, g, m) (sym (marks-append f xs ys))

-- parts of a list, by the list that they make
pub marks-shr : {A : Type 0} (f : A → Bool) (xs ys : List A) → marks f (xs ++ ys) / 2 ^ length ys ≡ marks f xs
marks-shr f xs ys = rw marks-append (shr_high (marks f xs) (length ys) (marks f ys) (marks_below f ys))

pub marks-mod : {A : Type 0} (f : A → Bool) (xs ys : List A) → marks f (xs ++ ys) % 2 ^ length ys ≡ marks f ys
marks-mod f xs ys = rw marks-append (mod_low (marks f xs) (length ys) (marks f ys) (marks_below f ys))

replicate-step : (b : Bool) (p : ℕ) → 0 < p → bit b * p + bit b * (p - 1) ≡ bit b * (p * 2 - 1)
replicate-step true p pos = omega arith
replicate-step false p pos = omega arith

-- one value at each place
pub marks-replicate : {A : Type 0} (f : A → Bool) (n : ℕ) (x : A) → marks f (replicate n x) ≡ bit (f x) * (2 ^ n - 1)
unfolding marks
marks-replicate f zero x = omega arith
marks-replicate f (suc n) x =
    ap (λ m. bit (f x) * 2 ^ m + marks f (replicate n x)) (length-replicate n x)
    ∙ ap (λ m. bit (f x) * 2 ^ n + m) (marks-replicate f n x)
    ∙ replicate-step (f x) (2 ^ n) (pow_pos n)
    ∙ ap (λ m. bit (f x) * (m - 1)) (sym (pow-suc 2 n))
