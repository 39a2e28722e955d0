-- Rising lists of the numbers of which something is so.
use Rattle.std.proofs.Common.{◌≡◌, ℕ, ◌+◌, ◌<◌, Bool, true, false, ◌&&◌, List, refl, sym, ap, ◌∙◌, arith}
use Rattle.std.specs.List.{range_with_len, filter}
use Rattle.std.proofs.lemmas.List.FromFn.{length-range_with_len, get_or-range_with_len}
use Rattle.std.proofs.lemmas.List.Kept.{IsStrictlyIncreasing-filter}
use Rattle.rtl_body_facts.specs.Reading.{is_in}
use Rattle.rtl_body_facts.proofs.EveryPath.{in_filter}
use Rattle.rtl_body_facts.proofs.Members.{has_in, same_rising, range_rises}
use Rattle.rtl_remarks.specs.Tables.{AreThose}

in_range : (count n : ℕ) → n < count → is_in n (range_with_len 0 count) ≡ true
in_range count n l =
    let e : 0 + n ≡ n = omega arith in
    has_in (range_with_len 0 count) n (n, omega (arith, l, length-range_with_len 0 count), get_or-range_with_len 0 count n n l ∙ e)

-- numbers of which something is so, all of them below a bound, are those of all below it of which it is so
pub those_are : (f : ℕ → Bool) (xs : List ℕ) (count : ℕ) → AreThose f xs → ((n : ℕ) → f n ≡ true → n < count) → xs ≡ filter f (range_with_len 0 count)
those_are f xs count those below =
    let all = range_with_len 0 count in
    same_rising xs (filter f all) those.rise (IsStrictlyIncreasing-filter f all (range_rises count)) (λ n. those.are n ∙ by n (f n) refl ∙ sym (in_filter f all n))
  where
    by : (n : ℕ) (b : Bool) → f n ≡ b → f n ≡ (is_in n (range_with_len 0 count) && f n)
    by n true e = e ∙ sym (ap (λ t. t && f n) (in_range count n (below n e)) ∙ e)
    by n false e = e ∙ sym (ap (λ t. is_in n (range_with_len 0 count) && t) e ∙ none (is_in n (range_with_len 0 count)))
      where
        none : (b : Bool) → (b && false) ≡ false
        none true = refl
        none false = refl
