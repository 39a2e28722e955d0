-- Positions in binary digits.
use Rattle.std.proofs.Common.{◌≡◌, ℕ, zero, suc, ◌+◌, ◌-◌, ◌*◌, ◌/◌, ◌%◌, ◌^◌, ◌<◌, [], ◌∷◌, ◌++◌, length, get_or, refl, sym, ap, ◌∙◌, arith}
use Rattle.std.specs.Str.{bytes_eq}
use Rattle.std.proofs.lemmas.List.{length-append, append_cancel_right}
use Rattle.std.proofs.Math.Seq.{get_or-append_seam}
use native.Mathlib.Nat.{div-one, div-div-eq-div-mul, two-pow-succ}
use Rattle.rtl_vcd_values.specs.Values.{binary}
use Rattle.rtl_vcd_values.proofs.Printing.{same_test}

pub length-binary : (digits n : ℕ) → length (binary digits n) ≡ digits
length-binary zero n = refl
length-binary (suc digits) n = omega (arith, length-append (binary digits (n / 2)) ((48 + n % 2) ∷ []), length-binary digits (n / 2))

last_digit : (digits n : ℕ) → 0 < digits → binary digits n ≡ binary (digits - 1) (n / 2) ++ (48 + n % 2) ∷ []
last_digit zero n some = absurd (omega arith)
last_digit (suc digits) n some = let e : suc digits - 1 ≡ digits = omega arith in ap (λ d. binary d (n / 2) ++ (48 + n % 2) ∷ []) (sym e)

last_of : (digits n : ℕ) → 0 < digits → get_or (binary digits n) (digits - 1) 0 ≡ 48 + n % 2
last_of digits n some =
    ap (λ xs. get_or xs (digits - 1) 0) (last_digit digits n some)
    ∙ ap (λ k. get_or (binary (digits - 1) (n / 2) ++ (48 + n % 2) ∷ []) k 0) (sym (length-binary (digits - 1) (n / 2)))
    ∙ get_or-append_seam (binary (digits - 1) (n / 2)) (48 + n % 2) [] 0

-- positions whose last digits differ
pub others_at_last : (digits a b : ℕ) → 0 < digits → binary digits a ≡ binary digits b → a % 2 ≡ b % 2
others_at_last digits a b some e =
    let same : 48 + a % 2 ≡ 48 + b % 2 = sym (last_of digits a some) ∙ ap (λ xs. get_or xs (digits - 1) 0) e ∙ last_of digits b some in
    omega (arith, same)

-- where the last digits are the same, those before them tell
pub others_before_last : (digits a b : ℕ) → 0 < digits → a % 2 ≡ b % 2
    → bytes_eq (binary (digits - 1) (a / 2)) (binary (digits - 1) (b / 2)) ≡ bytes_eq (binary digits a) (binary digits b)
others_before_last digits a b some last =
    let xs = binary (digits - 1) (a / 2) in
    let ys = binary (digits - 1) (b / 2) in
    let one = last_digit digits a some ∙ ap (λ d. xs ++ (48 + d) ∷ []) last in
    let other = last_digit digits b some in
    same_test xs ys (binary digits a) (binary digits b)
    (λ e. one ∙ ap (λ ds. ds ++ (48 + b % 2) ∷ []) e ∙ sym other)
    (λ e. append_cancel_right xs ys ((48 + b % 2) ∷ []) (sym one ∙ e ∙ other))

-- the first digit, and those behind it
pub highest_first : (digits n : ℕ) → binary (suc digits) n ≡ (48 + n / 2 ^ digits % 2) ∷ binary digits n
highest_first zero n = let e : n / 2 ^ 0 ≡ n = div-one n in ap (λ m. (48 + m % 2) ∷ []) (sym e)
highest_first (suc digits) n =
    let more : 2 ^ suc digits ≡ 2 * 2 ^ digits = omega (arith, two-pow-succ digits) in
    let e : n / 2 / 2 ^ digits ≡ n / 2 ^ suc digits = div-div-eq-div-mul n 2 (2 ^ digits) ∙ ap (λ m. n / m) (sym more) in
    ap (λ xs. xs ++ (48 + n % 2) ∷ []) (highest_first digits (n / 2)) ∙ ap (λ m. (48 + m % 2) ∷ binary (suc digits) n) e

pub first_digit : (digits n : ℕ) → 0 < digits → (48 + n / 2 ^ (digits - 1) % 2) ∷ binary (digits - 1) n ≡ binary digits n
first_digit zero n some = absurd (omega arith)
first_digit (suc digits) n some =
    let e : suc digits - 1 ≡ digits = omega arith in
    ap (λ d. (48 + n / 2 ^ d % 2) ∷ binary d n) e ∙ sym (highest_first digits n)
