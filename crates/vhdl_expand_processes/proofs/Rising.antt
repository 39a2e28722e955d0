-- Rising lists: one is known by what is in it.
use Rattle.std.proofs.Common.{◌≡◌, ℕ, zero, suc, ◌+◌, ◌-◌, ◌<◌, ◌≤◌, List, All, Contains, sym, ◌∙◌, subst, arith, ◌⊎◌, inl, inr}
use Rattle.std.specs.Prelude.{slice_index}
use Rattle.std.specs.List.{range_with_len}
use Rattle.std.specs.List.Sorted.{IsStrictlyIncreasing}
use Rattle.std.proofs.lemmas.List.Elements.{All-contains, All-contains_itself}
use Rattle.std.proofs.lemmas.List.Kept.{IsStrictlyIncreasing-filter}
use Rattle.rtl_body_facts.specs.Reading.{is_in}
use Rattle.rtl_body_facts.proofs.Members.{same_members, same_rising, range_rises}
use Rattle.vhdl_expand_rules.specs.Prefixes.{is_among, in_order}
use Rattle.vhdl_expand_rules.proofs.laws.Targets.{in_order_has, in_order_all}
use Rattle.vhdl_expand_processes.specs.Driven.{IsRising}

pub in-order-rises : (below : ℕ) (ns : List ℕ) → IsStrictlyIncreasing (in_order below ns)
unfolding in_order
in-order-rises below ns = IsStrictlyIncreasing-filter (is_among ns) (range_with_len 0 below) (range_rises below)

pub sorted_in_order : (below : ℕ) (ns sorted : List ℕ) → All (λ n. n < below) ns → IsStrictlyIncreasing sorted → ((n : ℕ) → is_in n sorted ≡ is_in n ns) → in_order below ns ≡ sorted
sorted_in_order below ns sorted low rise same =
    same_rising (in_order below ns) sorted (in-order-rises below ns) rise
    (λ n. same_members (in_order below ns) ns n (from n) (to n) ∙ sym (same n))
  where
    from : (n : ℕ) → Contains (in_order below ns) n → Contains ns n
    from n c = All-contains (Contains ns) (in_order below ns) n (in_order_all (Contains ns) below ns (All-contains_itself ns)) c

    to : (n : ℕ) → Contains ns n → Contains (in_order below ns) n
    to n c = in_order_has below ns n (All-contains (λ m. m < below) ns n low c) c

-- ---- how far they rise

pub rising : (xs : List ℕ) → IsStrictlyIncreasing xs → IsRising xs
rising xs h i zero le l = let e : i ≡ 0 = omega arith in subst (λ k. slice_index xs k + (0 - k) ≤ slice_index xs 0) (sym e) (omega arith)
rising xs h i (suc j) le l = by (last i j le) (λ m. rising xs h i j m (omega (arith, l)))
  where
    last : (i j : ℕ) → i ≤ suc j → (i ≡ suc j) ⊎ (i ≤ j)
    last i j = grind arith

    by : (i ≡ suc j) ⊎ (i ≤ j) → (i ≤ j → slice_index xs i + (j - i) ≤ slice_index xs j) → slice_index xs i + (suc j - i) ≤ slice_index xs (suc j)
    by (inl e) below = subst (λ k. slice_index xs k + (suc j - k) ≤ slice_index xs (suc j)) (sym e) (omega arith)
    by (inr m) below =
        let e : j + 1 ≡ suc j = omega arith in
        let up : slice_index xs j < slice_index xs (suc j) = subst (λ k. slice_index xs j < slice_index xs k) e (h j (omega (arith, l))) in
        omega (arith, below m, up, m)
