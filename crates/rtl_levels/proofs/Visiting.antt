-- The processes that a loop over changes, and one over the readers of a net, have come
-- by.
use Rattle.std.proofs.Common.{◌≡◌, ℕ, ◌+◌, ◌<◌, ◌≤◌, Bool, true, false, List, [], length, get_or, refl, sym, ap, subst, ◌∙◌, arith, ◌⊎◌, inl, inr, Contains, All}
use Rattle.std.proofs.lemmas.Bool.{cases_Bool, cases_lt}
use Rattle.std.proofs.lemmas.List.{get_or_default, length-map}
use Rattle.std.proofs.lemmas.List.Elements.{Contains-get_or}
use Rattle.vhdl_values.specs.declared.scalar.Nine.{Nine}
use Rattle.vhdl_values.specs.declared.scalar.Nine.TheVariants.{U}
use Rattle.vhdl_values.specs.Scalar.{code_of}
use Rattle.rtl_model.proofs.basics.Lists.{get_or-map_within}
use Rattle.rtl_kernel.specs.kernel.Simulation.{change_of, changes_of, each_given}
use Rattle.rtl_kernel.proofs.Started.{given_at, length-given}
use Rattle.rtl_levels.specs.Marks.{AllAreReaders, AreBelow, IsReader, HasNoMark, IsGiven}

-- ---- processes

-- the readers of a net are below what all are below
pub listed_below : (index : List (List ℕ)) (net below : ℕ) → AreBelow index below → (listed : List ℕ) → listed ≡ get_or index net [] → All (λ (k : ℕ). k < below) listed
listed_below index net below A listed is k d l =
    A net (get_or listed k d) (subst (λ (xs : List ℕ). Contains xs (get_or listed k d)) is (Contains-get_or listed k d l))

-- ---- changes

-- each of these changes gives its net a value
pub given_here : (changes : List (ℕ × Nine)) (i : ℕ) (d : ℕ × Nine) → i < length changes → IsGiven (changes_of changes) (get_or changes i d).0
given_here changes i d l =
    let value = code_of (get_or changes i d).1 in
    (value, (i, rw length-map l, get_or-map_within change_of changes i d ((get_or changes i d).0, value) l))

-- changes to these values, for each of these nets one
module _ (nets : List ℕ) (given : List Nine) (many : length given ≡ length nets) where
  pub each_is_given : (n : ℕ) → Contains nets n → IsGiven (each_given nets given) n
  each_is_given n (k, l, is) =
      let value = code_of (get_or given k U) in
      let there : k < length (each_given nets given) = rw (length-given nets given many) l in
      (value, (k, there, get_or_default (each_given nets given) k (n, value) (0, 0) there ∙ given_at nets given k n value U l (rw many l) refl ∙ ap (λ (m : ℕ). (m, value)) is))

  pub changes_below : (changes : List (ℕ × Nine)) → changes_of changes ≡ each_given nets given → (below : ℕ) → All (λ (n : ℕ). n < below) nets → All (λ (c : ℕ × Nine). c.0 < below) changes
  changes_below changes are below all k d l =
      let l' : k < length (changes_of changes) = rw length-map l in
      let there : k < length nets = rw (ap length are ∙ length-given nets given many) at l' in
      let is = sym (get_or-map_within change_of changes k d (0, 0) l) ∙ ap (λ (cs : List (ℕ × ℕ)). get_or cs k (0, 0)) are ∙ given_at nets given k 0 (code_of (get_or given k U)) U there (rw many there) refl in
      subst (λ (n : ℕ). n < below) (sym (ap (λ (c : ℕ × ℕ). c.0) is)) (all k 0 there)

-- it is a reader of the net of one of the first so many
abbrev pub IsComeBy : (index : List (List ℕ)) (changes : List (ℕ × Nine)) (many p : ℕ) → Type 0
IsComeBy index changes many p = (k : ℕ) × (k < many) × IsReader index (get_or changes k (0, U)).0 p

module _ (index : List (List ℕ)) (changes : List (ℕ × Nine)) where
  pub none_come_by : (p : ℕ) → IsComeBy index changes 0 p → ⊥
  none_come_by p (k, l, f) = absurd (omega (arith, l))

  pub one_more_come_by : (i p : ℕ) → IsComeBy index changes (i + 1) p → IsComeBy index changes i p ⊎ IsReader index (get_or changes i (0, U)).0 p
  one_more_come_by i p (k, l, f) = by (cases_lt k i)
    where
      by : (k < i) ⊎ (i ≤ k) → IsComeBy index changes i p ⊎ IsReader index (get_or changes i (0, U)).0 p
      by (inl less) = inl (k, less, f)
      by (inr le) = let e : k ≡ i = omega (arith, l, le) in inr (subst (λ (j : ℕ). IsReader index (get_or changes j (0, U)).0 p) e f)

  pub all_come_by : (many : ℕ) → length changes ≤ many → (p : ℕ) → ((net : ℕ) × IsGiven (changes_of changes) net × IsReader index net p) → IsComeBy index changes many p
  all_come_by many all p (net, (value, (k, l, is)), f) =
      let there : k < length changes = rw (length-map changes change_of) at l in
      let same : (get_or changes k (0, U)).0 ≡ net =
      ap (λ (c : ℕ × ℕ). c.0) (sym (get_or-map_within change_of changes k (0, U) (net, value) there) ∙ is) in
      (k, omega (arith, there, all), subst (λ (n : ℕ). IsReader index n p) (sym same) f)

  -- behind all of them none is marked
  pub none_left : (many : ℕ) → length changes ≤ many → (marked still : List Bool) → AllAreReaders index (IsGiven (changes_of changes)) marked
      → ((p : ℕ) → get_or still p false ≡ true → get_or marked p false ≡ true) → ((p : ℕ) → IsComeBy index changes many p → get_or still p false ≡ false) → HasNoMark still
  none_left many all marked still follow fewer off p = by (cases_Bool (get_or still p false))
    where
      by : (get_or still p false ≡ true) ⊎ (get_or still p false ≡ false) → get_or still p false ≡ false
      by (inl h) = off p (all_come_by many all p (follow p (fewer p h)))
      by (inr none) = none
