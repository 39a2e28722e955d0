-- Where the nets of inputs rise, the first net of each tells which input has a net.
use Rattle.std.proofs.Common.{◌≡◌, ℕ, suc, zero, ◌<◌, ◌≤◌, List, [], ◌∷◌, ◌++◌, length, map, get_or, Ok, Err, ⊎_elim, sym, ap, subst, ◌∙◌, arith}
use Rattle.std.specs.Prelude.{All, AllPairs, Contains}
use Rattle.std.specs.List.Sorted.{IsBinarySearchResult}
use Rattle.std.specs.Ordering.{nat_cmp}
use Rattle.std.proofs.Math.Nat.{eq-or-lt_of_le}
use Rattle.std.proofs.lemmas.Bool.{cases_lt}
use Rattle.std.proofs.lemmas.List.{length-map, get_or-map}
use Rattle.std.proofs.lemmas.List.Elements.{All-get_or, Contains-get_or, Contains-append_left, Contains-append_right}
use Rattle.std.proofs.lemmas.List.Sorted.{searched}
use Rattle.rtl_stim_lines.specs.Inputs.{Input, Element, input_at, no_input}
use Rattle.rtl_stim_lines.specs.Times.{nets_of, all_nets}
use Rattle.rtl_stim.specs.declared.stimulus.Stimulus.TheInside.{Inside}
use Rattle.rtl_stim.specs.Stimuli.{StimulusView}
use Rattle.rtl_stim.specs.Kept.{stimulus_view, IsKept}
use Rattle.rtl_stim.specs.Pushes.{first_net}
use Rattle.rtl_stim.proofs.Values.{first_or_later}
use Rattle.rtl_stim.proofs.Places.{among_all}

-- ---- numbers that rise

-- each number is below those after it
abbrev Rise : List ℕ → Type 0
Rise [] = Unit {0}
Rise (n ∷ ns) = ((m : ℕ) → Contains ns m → n < m) × Rise ns

rise_of : (ns : List ℕ) → AllPairs (λ n m. n < m) ns → Rise ns
rise_of [] h = tt
rise_of (n ∷ ns) h = (
  λ m there. let less = h 0 (suc there.0) m (omega arith) (omega (arith, there.1)) in omega (arith, less, there.2),
  rise_of ns (λ i j d less within. h (suc i) (suc j) d (omega arith) (omega arith)),
)

rise_left : (ns ms : List ℕ) → Rise (ns ++ ms) → Rise ns
rise_left [] ms h = tt
rise_left (n ∷ ns) ms h = (λ m there. h.0 m (Contains-append_left ns ms m there), rise_left ns ms h.1)

rise_right : (ns ms : List ℕ) → Rise (ns ++ ms) → Rise ms
rise_right [] ms h = h
rise_right (n ∷ ns) ms h = rise_right ns ms h.1

rise_across : (ns ms : List ℕ) (n m : ℕ) → Rise (ns ++ ms) → Contains ns n → Contains ms m → n < m
rise_across [] ms n m h (k, within, is) right = absurd (omega (arith, within))
rise_across (x ∷ ns) ms n m h left right =
    first_or_later x n ns left (n < m) (λ e. let less = h.0 m (Contains-append_right ns ms m right) in omega (arith, e, less)) (λ there. rise_across ns ms n m h.1 there right)

first_least : (ns : List ℕ) (n : ℕ) → Rise ns → Contains ns n → get_or ns 0 0 ≤ n
first_least [] n h there = absurd (omega (arith, there.1))
first_least (x ∷ ns) n h there = first_or_later x n ns there (x ≤ n) (λ e. omega (arith, e)) (λ later. let less = h.0 n later in omega (arith, less))

-- ---- of inputs

rise_at : (inputs : List Input) (i : ℕ) → Rise (all_nets inputs) → i < length inputs → Rise (nets_of (input_at inputs i))
rise_at [] i h within = absurd (omega (arith, within))
rise_at (x ∷ inputs) zero h within = rise_left (nets_of x) (all_nets inputs) h
rise_at (x ∷ inputs) (suc i) h within = rise_at inputs i (rise_right (nets_of x) (all_nets inputs) h) (omega (arith, within))

below_at : (inputs : List Input) (i j n m : ℕ) → Rise (all_nets inputs) → i < j → j < length inputs → Contains (nets_of (input_at inputs i)) n → Contains (nets_of (input_at inputs j)) m → n < m
below_at [] i j n m h before within left right = absurd (omega (arith, within))
below_at (x ∷ inputs) i zero n m h before within left right = absurd (omega (arith, before))
below_at (x ∷ inputs) zero (suc j) n m h before within left right =
    rise_across (nets_of x) (all_nets inputs) n m h left (among_all inputs j m (omega (arith, within)) right)
below_at (x ∷ inputs) (suc i) (suc j) n m h before within left right =
    below_at inputs i j n m (rise_right (nets_of x) (all_nets inputs) h) (omega (arith, before)) (omega (arith, within)) left right

-- the first nets of inputs whose nets rise
pub record AreFirsts (inputs : List Input) (firsts : List ℕ) : Type 0 where
  pub are : firsts ≡ map first_net inputs
  pub rising : AllPairs (λ n m. n < m) (all_nets inputs)
  pub have : All (λ input. 1 ≤ length input.elements) inputs

pub firsts_kept : (s : Inside) (v : StimulusView) → stimulus_view s ≡ v → IsKept s → AreFirsts v.inputs s.firsts.items
firsts_kept s v view kept =
    subst (λ (v : StimulusView). AreFirsts v.inputs s.firsts.items) view (record { are = kept.firsts; rising = kept.rising; have = kept.stimulus.have_elements })

module _ (inputs : List Input) (firsts : List ℕ) (F : AreFirsts inputs firsts) where
  as_many : length firsts ≡ length inputs
  as_many = ap length F.are ∙ length-map inputs first_net

  first_at : (i : ℕ) → i < length inputs → get_or firsts i 0 ≡ first_net (input_at inputs i)
  first_at i within = ap (λ ns. get_or ns i 0) F.are ∙ get_or-map first_net inputs i no_input 0 within

  -- an input has its first net
  pub first_there : (i : ℕ) → i < length inputs → Contains (nets_of (input_at inputs i)) (first_net (input_at inputs i))
  first_there i within =
      let some : 1 ≤ length (input_at inputs i).elements = All-get_or (λ (input : Input). 1 ≤ length input.elements) inputs i no_input within F.have in
      Contains-get_or (nets_of (input_at inputs i)) 0 0 (omega (arith, some, length-map (input_at inputs i).elements (λ (e : Element). e.net)))

  first_below : (i n : ℕ) → i < length inputs → Contains (nets_of (input_at inputs i)) n → get_or firsts i 0 ≤ n
  first_below i n within there =
      let least = first_least (nets_of (input_at inputs i)) n (rise_at inputs i (rise_of (all_nets inputs) F.rising) within) there in
      omega (arith, first_at i within, least)

  before_first : (i j n : ℕ) → i < j → j < length inputs → Contains (nets_of (input_at inputs i)) n → n < get_or firsts j 0
  before_first i j n before within there =
      let less = below_at inputs i j n (first_net (input_at inputs j)) (rise_of (all_nets inputs) F.rising) before within there (first_there j within) in
      omega (arith, first_at j within, less)

  up : (i j : ℕ) → i ≤ j → j < length firsts → get_or firsts i 0 ≤ get_or firsts j 0
  up i j le within =
      ⊎_elim (λ e. let same : get_or firsts i 0 ≡ get_or firsts j 0 = ap (λ k. get_or firsts k 0) e in omega (arith, same))
      (λ before.
      let inside : j < length inputs = omega (arith, within, as_many) in
      let first = before_first i j (first_net (input_at inputs i)) before inside (first_there i (omega (arith, before, inside))) in
      omega (arith, first, first_at i (omega (arith, before, inside))))
      (eq-or-lt_of_le le)

  -- what a search for a net answers
  found_at : (net i : ℕ) → IsBinarySearchResult (λ y. nat_cmp y net) firsts (Ok i) → (i < length inputs) × (get_or firsts i 0 ≡ net)
  found_at net i result = let at = searched firsts net (Ok i) result up in (omega (arith, at.0, as_many), at.1)

  pub found : (net i : ℕ) → IsBinarySearchResult (λ y. nat_cmp y net) firsts (Ok i) → (i < length inputs) × (net ≡ first_net (input_at inputs i))
  found net i result = let at = found_at net i result in (at.0, sym at.1 ∙ first_at i at.0)

  pub is_at : (net i q : ℕ) → IsBinarySearchResult (λ y. nat_cmp y net) firsts (Ok i) → q < length inputs → Contains (nets_of (input_at inputs q)) net → i ≡ q
  is_at net i q result within there =
      let at = found_at net i result in
      ⊎_elim (λ before. let less = below_at inputs i q (first_net (input_at inputs i)) net (rise_of (all_nets inputs) F.rising) before within (first_there i at.0) there in
      absurd (omega (arith, less, at.1, first_at i at.0)))
      (λ le. ⊎_elim (λ e. sym e) (λ behind. let less = before_first q i net behind at.0 there in absurd (omega (arith, less, at.1))) (eq-or-lt_of_le le))
      (cases_lt i q)

  pub is_behind : (net b q : ℕ) → IsBinarySearchResult (λ y. nat_cmp y net) firsts (Err b) → q < length inputs → Contains (nets_of (input_at inputs q)) net → b ≡ suc q
  is_behind net b q result within there =
      let at = searched firsts net (Err b) result up in
      let least = first_below q net within there in
      let low : q < b = ⊎_elim (λ h. h) (λ le. let less = at.2 q le (omega (arith, within, as_many)) in absurd (omega (arith, less, least))) (cases_lt q b) in
      ⊎_elim (λ e. sym e)
      (λ more. let less = before_first q (suc q) net (omega arith) (omega (arith, more, at.0, as_many)) there in
      let early = at.1 (suc q) more in absurd (omega (arith, less, early)))
      (eq-or-lt_of_le low)

  pub not_found : (net b : ℕ) → IsBinarySearchResult (λ y. nat_cmp y net) firsts (Err b) → (p : ℕ) → p < length inputs → net ≡ first_net (input_at inputs p) → ⊥
  not_found net b result p within is =
      let at = searched firsts net (Err b) result up in
      ⊎_elim (λ before. let less = at.1 p before in omega (arith, less, first_at p within, is))
      (λ le. let less = at.2 p le (omega (arith, within, as_many)) in omega (arith, less, first_at p within, is)) (cases_lt p b)
