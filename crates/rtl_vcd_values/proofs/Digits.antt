-- Digits in base 94 and in base 2.
use Rattle.std.proofs.Common.{◌≡◌, ℕ, ◌+◌, ◌/◌, ◌%◌, ◌≤◌, ◌<◌, List, [], ◌∷◌, ◌++◌, length, map, ap, ◌∙◌, arith, append_assoc}
use Rattle.std.specs.Prelude.{reverse}
use Rattle.std.specs.Int.Digits.{digits_of}
use Rattle.std.proofs.lemmas.Int.Digits.{digits_of_step, length-digits_of_step, length-digits_of-le}
use Rattle.std.proofs.lemmas.List.{reverse-append, length-reverse, length-map}
use Rattle.rtl_net.specs.Digits.{binary_digits}
use Rattle.rtl_vcd_values.specs.Values.{code}

-- the characters that are left to print, the least digit first
abbrev pub characters : ℕ → List ℕ
characters n = map (λ d. 33 + d) (reverse (digits_of 94 n))

pub characters_step : (n : ℕ) → 0 < n → characters n ≡ (33 + n % 94) ∷ characters (n / 94)
characters_step n h =
    ap (λ ds. map (λ d. 33 + d) (reverse ds)) (digits_of_step 94 n (omega arith) h)
    ∙ ap (map (λ d. 33 + d)) (reverse-append (digits_of 94 (n / 94)) (n % 94 ∷ []))

pub short : (n : ℕ) → n < 18446744073709551616 → length (digits_of 94 (n / 94)) ≤ 9
short n h = length-digits_of-le 94 9 (n / 94) (omega arith) (omega arith)

-- a code is short where its number is
pub code_short : (n : ℕ) → n < 4294967296 → length (code n) ≤ 6
code_short n h =
    omega (arith, length-digits_of-le 94 5 (n / 94) (omega arith) (omega (arith, h)), length-reverse (digits_of 94 (n / 94)), length-map (n % 94 ∷ reverse (digits_of 94 (n / 94))) (λ d. 33 + d))

pub some_left : (n : ℕ) → 0 < n → 1 + length (digits_of 94 (n / 94)) ≡ length (digits_of 94 n)
some_left n h = omega (arith, length-digits_of_step 94 n (omega arith) h)

pub binary_step : (n : ℕ) → 2 ≤ n → 1 + binary_digits (n / 2) ≡ binary_digits n
binary_step n h = omega (arith, length-digits_of_step 2 n (omega arith) (omega arith), length-digits_of_step 2 (n / 2) (omega arith) (omega arith))

pub binary_short : (n : ℕ) → n < 4294967296 → binary_digits n ≤ 32
binary_short n h = omega (arith, length-digits_of-le 2 32 n (omega arith) (omega arith))

-- what follows stays behind one character more
pub pushed : (old new rest : List ℕ) (x : ℕ) → new ≡ old ++ x ∷ [] → new ++ rest ≡ old ++ x ∷ rest
pushed old new rest x e = rw e (append_assoc old (x ∷ []) rest)
