-- When clocks toggle.
use Rattle.std.proofs.Common.{◌≡◌, ℕ, ◌+◌, ◌-◌, ◌*◌, ◌/◌, ◌%◌, ◌<◌, ◌≤◌, true, false, sym, ap, ◌∙◌, refl, arith}
use Rattle.std.specs.Prelude.{nat_le, ◌==◌}
use Rattle.std.proofs.Math.Nat.{div-zero, mod-add-div', mul-add-mod_self_right, mod_self}
use Rattle.std.proofs.lemmas.Nat.{mod-mul-add}
use Rattle.std.proofs.lemmas.Bool.Decides.{nat_tests}
use Rattle.rtl_stim_lines.specs.Courses.{toggles, IsNextToggle}

-- a half period of 0 never goes by
pub no_halves : (n h : ℕ) → h ≡ 0 → 0 ≡ n / h
no_halves n h e = sym (ap (λ h. n / h) e ∙ div-zero n)

span : (first now half r m : ℕ) → first ≤ now → r < half → r + m ≡ now - first → (now + (half - r)) - first ≡ m + half
span first now half r m after less cut = omega arith

span_between : (first now r m between : ℕ) → first ≤ now → now < between → r + m ≡ now - first → between - first ≡ m + (r + (between - now))
span_between first now r m between after later cut = omega arith

does : (first half t : ℕ) → first ≤ t → (t - first) % half ≡ 0 → toggles first half t ≡ true
does first half t after e = let a : nat_le first t ≡ true = grind (arith, nat_tests) in rw (a, e) refl

does_not : (first half t s : ℕ) → first ≤ t → (t - first) % half ≡ s → 0 < s → toggles first half t ≡ false
does_not first half t s after e some =
    let a : nat_le first t ≡ true = grind (arith, nat_tests) in
    let b : (s == 0) ≡ false = grind (arith, nat_tests) in
    rw (a, e, b) refl

module _ (first half now r m : ℕ) (after : first ≤ now) (less : r < half) (cut : r + m * half ≡ now - first) where
  toggling : toggles first half (now + (half - r)) ≡ true
  toggling =
      does first half (now + (half - r)) (omega arith)
      (ap (λ n. n % half) (span first now half r (m * half) after less cut) ∙ mul-add-mod_self_right m half half ∙ mod_self half)

  none_between : (between : ℕ) → now < between → between < now + (half - r) → toggles first half between ≡ false
  none_between between later sooner =
      let small : r + (between - now) < half = omega arith in
      does_not first half between (r + (between - now)) (omega arith)
      (ap (λ n. n % half) (span_between first now r (m * half) between after later cut) ∙ mod-mul-add m half (r + (between - now)) small) (omega arith)

  next_from : IsNextToggle first half now (now + (half - r))
  next_from = record { later = omega arith; toggling = toggling; none_between = none_between }

-- from a time that isn't before the first
pub next_after : (first half now : ℕ) → 0 < half → first ≤ now → IsNextToggle first half now (now + (half - (now - first) % half))
next_after first half now some after =
    let less : (now - first) % half < half = omega arith in
    next_from first half now ((now - first) % half) ((now - first) / half) after less (mod-add-div' (now - first) half)
