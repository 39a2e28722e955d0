-- Processes whose drivers are one cut.
use Rattle.std.proofs.Common.{◌≡◌, ℕ, ◌+◌, ◌<◌, ◌≤◌, All, List, [], ◌∷◌, length, get_or, Some, None, refl, sym, ap, subst, ◌∙◌, arith}
use Rattle.std.specs.List.{range_with_len}
use Rattle.std.proofs.lemmas.List.FromFn.{get_or-range_with_len, length-range_with_len}
use Rattle.rtl_kernel.specs.wakes.Woken.{AreDifferent}
use Rattle.rtl_kernel.proofs.Wholes.{whole_targets, whole_within}
use Rattle.rtl_net_groups.specs.declared.cuts.Cut.{Cut}
use Rattle.rtl_net_groups.specs.Cuts.{AreCuts, HasPlace, IsCut, no_cut}
use Rattle.rtl_levels.specs.Scheduled.{whole_first}

-- a first net is told of one cut alone
pub one_first : (cuts : List Cut) (first : ℕ) → whole_first cuts ≡ Some first → (length cuts ≡ 1) × ((get_or cuts 0 no_cut).net ≡ first)
one_first [] first e = let f : None ≡ Some first = e in cc
one_first (cut ∷ []) first e = let one : Some cut.net ≡ Some first = e in (refl, cc)
one_first (cut ∷ other ∷ cuts) first e = let f : None ≡ Some first = e in cc

-- the nets of a run are different
pub run_differs : (first len : ℕ) → AreDifferent (range_with_len first len)
run_differs first len j k l m e =
    let long = length-range_with_len first len in
    let at = get_or-range_with_len first len j 0 (omega (arith, l, long)) in
    let there = get_or-range_with_len first len k 0 (omega (arith, m, long)) in
    omega (arith, at, there, e)

module _ (of_net targets : List ℕ) (cuts : List Cut) (numbers : List ℕ) (A : AreCuts of_net targets cuts numbers) (first : ℕ) (is : whole_first cuts ≡ Some first) where
  one : length cuts ≡ 1
  one = (one_first cuts first is).0

  at_first : (get_or cuts 0 no_cut).net ≡ first
  at_first = (one_first cuts first is).1

  pub targets_are : targets ≡ range_with_len first (length targets)
  targets_are = whole_targets of_net targets cuts numbers A one ∙ ap (λ (n : ℕ). range_with_len n (length targets)) at_first

  abbrev cut : Cut
  cut = get_or cuts 0 no_cut

  is_cut : IsCut of_net targets cut
  is_cut = let only = one in A.are_cuts 0 no_cut (omega (arith, only))

  has : (place : ℕ) → place < length targets → HasPlace cut place
  has place l =
      let at = A.numbers_are place l in
      let among = at.0 in
      let only = one in
      let number : get_or numbers place 0 ≡ 0 = omega (arith, among, only) in
      subst (λ (n : ℕ). HasPlace (get_or cuts n no_cut) place) number at.1

  in_group : (k : ℕ) → k < length targets → get_or of_net (cut.net + k) 0 ≡ cut.group
  in_group k l =
      let low = (has 0 (omega (arith, l))).from in
      let high = (has k l).before in
      is_cut.in_group k (omega (arith, low, high))

  pub in_one_group : (k : ℕ) → k < length targets → get_or of_net (first + k) 0 ≡ get_or of_net first 0
  in_one_group k l =
      let here : cut.net + 0 ≡ cut.net = omega arith in
      let same : get_or of_net cut.net 0 ≡ cut.group = sym (ap (λ (n : ℕ). get_or of_net n 0) here) ∙ in_group 0 (omega (arith, l)) in
      subst (λ (n : ℕ). get_or of_net (n + k) 0 ≡ get_or of_net n 0) at_first (in_group k l ∙ sym same)

  pub nets_there : (limit : ℕ) → All (λ (n : ℕ). n < limit) targets → first + length targets ≤ limit
  nets_there limit all = subst (λ (n : ℕ). n + length targets ≤ limit) at_first (whole_within of_net targets cuts numbers A one limit all)
