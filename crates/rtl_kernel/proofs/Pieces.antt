-- Pieces of cuts.
use Rattle.std.proofs.Common.{◌≡◌, ℕ, ◌+◌, ◌-◌, ◌<◌, ◌≤◌, min, List, length, get_or, sym, ap, ◌∙◌, arith}
use Rattle.rtl_net_groups.specs.declared.cuts.Cut.{Cut}
use Rattle.rtl_net_groups.specs.Cuts.{AreCuts, IsCut, HasPlace, no_cut}

-- so many places of a cut from `first` on
module _ (of_net targets : List ℕ) (cut : Cut) (C : IsCut of_net targets cut) (first len : ℕ) (from : cut.place ≤ first) (to : first + len ≤ cut.place + cut.len) where
  abbrev net : ℕ
  net = get_or targets first 0

  pub net_is : (k : ℕ) → k < len → get_or targets (first + k) 0 ≡ cut.net + (first - cut.place) + k
  net_is k l =
      let at : first + k ≡ cut.place + (first - cut.place + k) = omega (arith, from) in
      let e : cut.net + (first - cut.place + k) ≡ cut.net + (first - cut.place) + k = omega arith in
      ap (λ (p : ℕ). get_or targets p 0) at ∙ C.nets (first - cut.place + k) (omega (arith, l, from, to)) ∙ e

  first_is : 0 < len → get_or targets first 0 ≡ cut.net + (first - cut.place)
  first_is some =
      let at : first ≡ first + 0 = omega arith in
      let e : cut.net + (first - cut.place) + 0 ≡ cut.net + (first - cut.place) = omega arith in
      ap (λ (p : ℕ). get_or targets p 0) at ∙ net_is 0 some ∙ e

  pub piece_net : (k : ℕ) → k < len → get_or targets (first + k) 0 ≡ get_or targets first 0 + k
  piece_net k l = net_is k l ∙ ap (λ (n : ℕ). n + k) (sym (first_is (omega (arith, l))))

  -- all its nets are in the group of the first
  pub piece_group : (k : ℕ) → k < len → get_or of_net (get_or targets first 0 + k) 0 ≡ get_or of_net (get_or targets first 0) 0
  piece_group k l =
      let some : 0 < len = omega (arith, l) in
      let at : get_or targets first 0 + k ≡ cut.net + (first - cut.place + k) = (let e = first_is some in omega (arith, e)) in
      let here : get_or targets first 0 ≡ cut.net + (first - cut.place) = first_is some in
      ap (λ (n : ℕ). get_or of_net n 0) at ∙ C.in_group (first - cut.place + k) (omega (arith, l, from, to))
      ∙ sym (ap (λ (n : ℕ). get_or of_net n 0) here ∙ C.in_group (first - cut.place) (omega (arith, some, from, to)))

-- the places from `first` on up to the end of their cut, or up to another end
module _ (of_net targets : List ℕ) (cuts : List Cut) (numbers : List ℕ) (A : AreCuts of_net targets cuts numbers) (first end beyond : ℕ) (there : first < length targets) (before : first < end)
    (is : beyond ≡ min end ((get_or cuts (get_or numbers first 0) no_cut).place + (get_or cuts (get_or numbers first 0) no_cut).len)) where
  cut_here : IsCut of_net targets (get_or cuts (get_or numbers first 0) no_cut)
  cut_here = A.are_cuts (get_or numbers first 0) no_cut ((A.numbers_are first there).0)

  pub has_place : HasPlace (get_or cuts (get_or numbers first 0) no_cut) first
  has_place = (A.numbers_are first there).1

  pub some_here : first < beyond
  some_here = let h = has_place.before in omega (arith, is, h, before)

  pub within_here : (beyond ≤ end) × (beyond ≤ length targets)
  within_here = let h = cut_here.there in (omega (arith, is), omega (arith, is, h))

  pub net_here : (k : ℕ) → k < beyond - first → get_or targets (first + k) 0 ≡ get_or targets first 0 + k
  net_here = (let h = some_here in piece_net of_net targets (get_or cuts (get_or numbers first 0) no_cut) cut_here first (beyond - first) has_place.from (omega (arith, is, h)))

  pub group_here : (k : ℕ) → k < beyond - first → get_or of_net (get_or targets first 0 + k) 0 ≡ get_or of_net (get_or targets first 0) 0
  group_here = (let h = some_here in piece_group of_net targets (get_or cuts (get_or numbers first 0) no_cut) cut_here first (beyond - first) has_place.from (omega (arith, is, h)))
