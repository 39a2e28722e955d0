-- The nets of a report's clocks.
use Rattle.std.proofs.Common.{◌≡◌, ℕ, zero, suc, ◌+◌, ◌<◌, ◌≤◌, Bool, true, false, ◌&&◌, ◌==◌, List, [], ◌∷◌, length, get_or, refl, sym, ap, subst, ◌∙◌, ◌⊎◌, inl, inr, arith, Contains, Result, Ok, Err}
use Rattle.std.specs.List.{filter, range_with_len}
use Rattle.std.specs.List.Sorted.{IsSearchInRange, IsBinarySearchResult, IsNonDecreasingBy}
use Rattle.std.specs.Ordering.{nat_cmp, ordering_index}
use Rattle.std.specs.Result.{is_ok}
use Rattle.std.proofs.lemmas.Bool.{cases_lt, or_cases, and_from, eqb-true, lt-ltb}
use Rattle.std.proofs.lemmas.Bool.Decides.{nat_tests}
use Rattle.std.proofs.lemmas.Cmp.{ranked}
use Rattle.std.proofs.lemmas.List.Sorted.{IsNonDecreasingBy-from_default}
use Rattle.std.proofs.lemmas.List.{length-map, get_or_default}
use Rattle.std.proofs.lemmas.List.Kept.{IsStrictlyIncreasing-filter}
use Rattle.rtl_model.specs.basics.Lists.{IsLess, RisesBy}
use Rattle.rtl_model.specs.simulation.Netlist.{Netlist, Edge, Rising}
use Rattle.rtl_model.specs.simulation.Accepted.{IsClock}
use Rattle.rtl_model.specs.simulation.Report.{clock_key, AreClocks}
use Rattle.rtl_model.proofs.basics.Lists.{in_contains, contains_in, get_or-map_within}
use Rattle.rtl_body_facts.specs.Reading.{is_in}
use Rattle.rtl_body_facts.proofs.Anys.{any_within}
use Rattle.rtl_body_facts.proofs.EveryPath.{in_filter}
use Rattle.rtl_body_facts.proofs.Members.{not_in, range_rises}
use Rattle.rtl_check.specs.Views.{AreClockNets}
use Rattle.rtl_recheck.specs.Kept.{clock_nets}

-- ---- the same nets in order, each once

abbrev pub above : List ℕ → ℕ
above [] = 0
above (x ∷ xs) = suc x + above xs

below_above : (xs : List ℕ) (n : ℕ) → Contains xs n → n < above xs
below_above [] n (i, l, e) = absurd (omega arith)
below_above (x ∷ xs) n (zero, l, e) = let h : x ≡ n = e in let d : above (x ∷ xs) ≡ suc x + above xs = refl in omega (arith, h, d)
below_above (x ∷ xs) n (suc i, l, e) = let h = below_above xs n (i, omega arith, e) in let d : above (x ∷ xs) ≡ suc x + above xs = refl in omega (arith, h, d)

pub sorted_clocks : List ℕ → List ℕ
sorted_clocks ns = filter (λ n. is_in n ns) (range_with_len 0 (above ns))

pub same_clocks : (ns : List ℕ) (n : ℕ) → is_in n (sorted_clocks ns) ≡ is_in n ns
unfolding sorted_clocks
same_clocks ns n = in_filter (λ k. is_in k ns) (range_with_len 0 (above ns)) n ∙ go (is_in n ns) refl
  where
    go : (b : Bool) → is_in n ns ≡ b → (is_in n (range_with_len 0 (above ns)) && is_in n ns) ≡ is_in n ns
    go true e =
        let l : n < 0 + above ns = let h = below_above ns n (in_contains ns n e) in omega arith in
        and_from (is_in n (range_with_len 0 (above ns))) (is_in n ns) (sym (any_within n 0 (above ns) (omega arith)) ∙ lt-ltb n (0 + above ns) l) e ∙ sym e
    go false e = ap (λ (b : Bool). is_in n (range_with_len 0 (above ns)) && b) e ∙ (never (is_in n (range_with_len 0 (above ns))) ∙ sym e)
      where
        never : (a : Bool) → (a && false) ≡ false
        never true = refl
        never false = refl

-- ---- the clocks of a netlist

pub pair_of : (xs : List (ℕ × Edge)) (n : ℕ) → is_in n (clock_nets xs) ≡ true → (edge : Edge) × Contains xs (n, edge)
pair_of [] n t = absurd cc
pair_of (x ∷ xs) n t = go (λ h. pair_of xs n h) (or_cases (x.0 == n) (is_in n (clock_nets xs)) t)
  where
    go : (is_in n (clock_nets xs) ≡ true → (edge : Edge) × Contains xs (n, edge)) → ((x.0 == n) ≡ true) ⊎ (is_in n (clock_nets xs) ≡ true)
        → (edge : Edge) × Contains (x ∷ xs) (n, edge)
    go more (inl e) = (x.1, (0, omega arith, ap (λ (i : ℕ). (i, x.1)) (eqb-true x.0 n e)))
    go more (inr e) = let (edge, (i, l, at)) = more e in (edge, (suc i, omega arith, at))

pub net_of_pair : (xs : List (ℕ × Edge)) (n : ℕ) (edge : Edge) → Contains xs (n, edge) → is_in n (clock_nets xs) ≡ true
net_of_pair xs n edge (i, l, e) =
    contains_in (clock_nets xs) n (i, rw (length-map xs (λ (x : ℕ × Edge). x.0)) l, get_or-map_within (λ (x : ℕ × Edge). x.0) xs i (n, edge) n l ∙ ap (λ (x : ℕ × Edge). x.0) e)

pub clocks_are : (net : Netlist) (clocks : List (ℕ × Edge)) → AreClocks net clocks → AreClockNets net (sorted_clocks (clock_nets clocks))
unfolding sorted_clocks
clocks_are net clocks A = record {
  rise = IsStrictlyIncreasing-filter (λ n. is_in n (clock_nets clocks)) (range_with_len 0 (above (clock_nets clocks))) (range_rises (above (clock_nets clocks)));
  are = λ n. (to n, from n);
}
  where
    to : (n : ℕ) → is_in n (sorted_clocks (clock_nets clocks)) ≡ true → IsClock net n
    to n t = let (edge, c) = pair_of clocks n (sym (same_clocks (clock_nets clocks) n) ∙ t) in let (p, k) = (A.are n edge).0 c in (p, (edge, k))

    from : (n : ℕ) → IsClock net n → is_in n (sorted_clocks (clock_nets clocks)) ≡ true
    from n (p, (edge, k)) = same_clocks (clock_nets clocks) n ∙ net_of_pair clocks n edge ((A.are n edge).1 (p, k))

-- ---- a search

module _ (xs : List (ℕ × Edge)) (rise : RisesBy clock_key xs) (net : ℕ) where
  nothing : ℕ × Edge
  nothing = (0, Rising)

  -- the nets of clocks in order don't fall
  nets_rise : (i j : ℕ) → i ≤ j → j < length xs → (get_or xs i nothing).0 ≤ (get_or xs j nothing).0
  nets_rise i j le within = go (cases i j le)
    where
      cases : (i j : ℕ) → i ≤ j → (i ≡ j) ⊎ (i < j)
      cases i j le = grind arith

      by : (x y : ℕ × Edge) → IsLess (clock_key x) (clock_key y) → x.0 ≤ y.0
      by x y (inl k) = omega arith
      by x y (inr (k, o)) = omega arith

      go : (i ≡ j) ⊎ (i < j) → (get_or xs i nothing).0 ≤ (get_or xs j nothing).0
      go (inl e) = subst (λ (k : ℕ). (get_or xs i nothing).0 ≤ (get_or xs k nothing).0) e (omega arith)
      go (inr l) = by (get_or xs i nothing) (get_or xs j nothing) (rise i j nothing l within)

  comparisons_rise : IsNonDecreasingBy (λ pair. ordering_index (nat_cmp pair.0 net)) xs
  comparisons_rise = IsNonDecreasingBy-from_default (λ pair. ordering_index (nat_cmp pair.0 net)) xs nothing (λ i j le within.
      let nets = nets_rise i j le within in
      grind (arith, nat_tests))

  nets_at : (i : ℕ) → i < length xs → get_or (clock_nets xs) i 0 ≡ (get_or xs i nothing).0
  nets_at i l = get_or-map_within (λ (z : ℕ × Edge). z.0) xs i nothing 0 l

  pub searched : (r : Result ℕ ℕ) → IsSearchInRange r (length xs) → IsBinarySearchResult (λ pair. nat_cmp pair.0 net) xs r → is_ok r ≡ is_in net (clock_nets xs)
  searched (Ok at) there equal =
      let here : (get_or xs at nothing).0 ≡ net = ranked _ net _ (sym (equal nothing)) in
      sym (contains_in (clock_nets xs) net (at, rw (length-map xs (λ (z : ℕ × Edge). z.0)) there, get_or-map_within (λ (z : ℕ × Edge). z.0) xs at nothing net there ∙ here))
  searched (Err at) there parted = sym (not_in (clock_nets xs) net absent)
    where
      absent : Contains (clock_nets xs) net → ⊥
      absent (i, m, e) = go (cases_lt i at)
        where
          within : i < length xs
          within = rw (← length-map xs (λ (z : ℕ × Edge). z.0)) m

          here : (get_or xs i nothing).0 ≡ net
          here = sym (nets_at i within) ∙ sym (get_or_default (clock_nets xs) i net 0 m) ∙ e

          go : (i < at) ⊎ (at ≤ i) → ⊥
          go (inl below) = let less : (get_or xs i nothing).0 < net = ranked _ net _ (sym ((parted comparisons_rise).0 i nothing (omega arith) below)) in omega (arith, less, here)
          go (inr from) = let more : net < (get_or xs i nothing).0 = ranked _ net _ (sym ((parted comparisons_rise).1 i nothing from within)) in omega (arith, more, here)
