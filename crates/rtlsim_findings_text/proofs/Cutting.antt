-- Of what stands behind a byte, the first 202 bytes decide what is shown of its line.
use Rattle.std.proofs.Common.{◌≡◌, ℕ, zero, suc, ◌+◌, ◌-◌, ◌<◌, ◌≤◌, ◌⊎◌, inl, inr, Bool, true, false, if◌then◌else◌, List, [], ◌∷◌, ◌++◌, length, take, refl, sym, ap, ◌∙◌, arith, codes}
use Rattle.std.specs.List.{prefix_len}
use Rattle.std.specs.Prelude.{◌==◌, ◌&&◌, nat_lt, slice_index_or, flat_map}
use Rattle.std.proofs.lemmas.Bool.{cases_lt, lt-ltb}
use Rattle.std.proofs.lemmas.List.{length-take-le, take_all, take-take}
use Rattle.rtl_stim_lines.specs.Lines.{without_return}
use Rattle.rtlsim_refusals.specs.Places.{blank, halves_shown, in_line, line_after}
use Rattle.vhdl_source_files.specs.Cutting.{cut_before}

next : (n : ℕ) → 1 + n ≡ suc n
next n = omega arith

-- the line in so many bytes is so much of the line
within : (n : ℕ) (bytes : List ℕ) → take (prefix_len in_line (take n bytes)) (take n bytes) ≡ take n (take (prefix_len in_line bytes) bytes)
within zero bytes = refl
within (suc n) [] = refl
within (suc n) (byte ∷ bytes) = by (in_line byte) (within n bytes)
  where
    by : (b : Bool) → take (prefix_len in_line (take n bytes)) (take n bytes) ≡ take n (take (prefix_len in_line bytes) bytes)
        → take (if b then 1 + prefix_len in_line (take n bytes) else 0) (byte ∷ take n bytes)
        ≡ take (suc n) (take (if b then 1 + prefix_len in_line bytes else 0) (byte ∷ bytes))
    by true same =
        ap (λ (k : ℕ). take k (byte ∷ take n bytes)) (next (prefix_len in_line (take n bytes))) ∙ ap (λ (line : List ℕ). byte ∷ line) same
        ∙ sym (ap (λ (k : ℕ). take (suc n) (take k (byte ∷ bytes))) (next (prefix_len in_line bytes)))
    by false same = refl

-- ---- without a carriage return at its end

-- its front stays
front : (n : ℕ) (line : List ℕ) → n ≤ length line - 1 → take n (without_return line) ≡ take n line
front n line fits = by (slice_index_or line (length line - 1) 0 == 13)
  where
    by : (b : Bool) → take n (if b then take (length line - 1) line else line) ≡ take n line
    by true = take-take n (length line - 1) line fits
    by false = refl

long : (n : ℕ) (line : List ℕ) → n ≤ length line - 1 → n ≤ length (without_return line)
long n line fits = by (slice_index_or line (length line - 1) 0 == 13)
  where
    by : (b : Bool) → n ≤ length (if b then take (length line - 1) line else line)
    by true = omega (arith, fits, length-take-le (length line - 1) line (omega arith))
    by false = omega (arith, fits)

-- ---- of a long half the front alone is shown

abbrev text : (is_long cuts : Bool) → (before after : List ℕ) → List ℕ
text is_long cuts before after =
    cut_before is_long before ++ (if is_long && cuts then take 98 after ++ codes ".." else after) ++ codes "\n"
    ++ (flat_map blank (cut_before is_long before) ++ codes "^\n")

is_cut : (before after : List ℕ) → 200 < length after → halves_shown before after ≡ text true true before after
is_cut before after more =
    ap (λ (b : Bool). text b (nat_lt 100 (length after)) before after) (lt-ltb 200 (length before + length after) (omega (arith, more)))
    ∙ ap (λ (b : Bool). text true b before after) (lt-ltb 100 (length after) (omega (arith, more)))

same_cut : (before first second : List ℕ) → 200 < length first → 200 < length second → take 98 first ≡ take 98 second
    → halves_shown before first ≡ halves_shown before second
same_cut before first second more most same =
    is_cut before first more
    ∙ ap (λ (shown : List ℕ). cut_before true before ++ (shown ++ codes "..") ++ codes "\n" ++ (flat_map blank (cut_before true before) ++ codes "^\n")) same
    ∙ sym (is_cut before second most)

same_line : (before line : List ℕ) → halves_shown before (without_return (take 202 line)) ≡ halves_shown before (without_return line)
same_line before line = by (cases_lt 202 (length line))
  where
    by : (202 < length line) ⊎ (length line ≤ 202) → halves_shown before (without_return (take 202 line)) ≡ halves_shown before (without_return line)
    by (inl more) =
        let len = length-take-le 202 line (omega (arith, more)) in
        same_cut before (without_return (take 202 line)) (without_return line)
        (let l = long 201 (take 202 line) (omega (arith, len)) in omega (arith, l))
        (let l = long 201 line (omega (arith, more)) in omega (arith, l))
        (front 98 (take 202 line) (omega (arith, len)) ∙ take-take 98 202 line (omega arith) ∙ sym (front 98 line (omega (arith, more))))
    by (inr all) = ap (λ (l : List ℕ). halves_shown before (without_return l)) (take_all 202 line all)

pub shown_ahead : (before after : List ℕ) → halves_shown before (line_after (take 202 after)) ≡ halves_shown before (line_after after)
shown_ahead before after =
    ap (λ (line : List ℕ). halves_shown before (without_return line)) (within 202 after) ∙ same_line before (take (prefix_len in_line after) after)
