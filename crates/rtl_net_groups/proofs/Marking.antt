-- Marks of the nets that begin a group.
use Rattle.std.proofs.Common.{◌≡◌, ◌↔◌, ℕ, zero, suc, ◌+◌, ◌-◌, ◌<◌, ◌≤◌, Bool, true, false, List, [], ◌∷◌, ◌++◌, length, get_or, take, refl, sym, ap, subst, ◌∙◌, arith, add-one, ◌⊎◌, inl, inr, Contains}
use Rattle.std.proofs.lemmas.Bool.{cases_eq, cases_lt, false≢true}
use Rattle.std.proofs.lemmas.List.{get_or_past, get_or_default, get_or-take, get_or_append_left, get_or_push, length-take-le, take_all}
use Rattle.std.proofs.lemmas.List.Elements.{Contains-get_or}
use Rattle.rtl_net_groups.specs.steps.Marks.{IsMarked, IsUnmarked, KeepsMarks, AreListedAlike, AreDeclaredAlike, AreMarkedApart, IsTold, after}

pub contains_none : {X : Type 0} (x : X) → Contains [] x → ⊥
contains_none x (k, l, e) = omega arith

-- ---- marks that are kept

pub keeps_then : (old mid new : List Bool) → KeepsMarks old mid → KeepsMarks mid new → KeepsMarks old new
keeps_then old mid new A B = record { as_many = B.as_many ∙ A.as_many; kept = λ n h. B.kept n (A.kept n h) }

pub unmarked_before : (old new : List Bool) (n : ℕ) → KeepsMarks old new → IsUnmarked new n → IsUnmarked old n
unmarked_before old new n K h = by (get_or old n true) refl
  where
    by : (b : Bool) → get_or old n true ≡ b → get_or old n true ≡ false
    by false e = e
    by true e = let k = K.kept n e in absurd (false≢true (sym h ∙ k))

-- ---- the ends of the runs of a list

pub after_more : (nets : List ℕ) (k : ℕ) → after nets (k + 1) ≡ get_or nets k 0 + 1
after_more nets k = rw add-one refl

pub told_kept : (old new : List Bool) (nets : List ℕ) (k : ℕ) → KeepsMarks old new → IsTold old nets k → IsTold new nets k
told_kept old new nets k K (inl follows) = inl follows
told_kept old new nets k K (inr (end, start)) = inr (K.kept (after nets k) end, K.kept (get_or nets k 0) start)

module _ (begins : List Bool) (nets : List ℕ) (told : (k : ℕ) → k < length nets → IsTold begins nets k) (last : IsMarked begins (after nets (length nets))) where
  next_too : (n : ℕ) → IsUnmarked begins (n + 1) → Contains nets n → Contains nets (n + 1)
  next_too n unmarked (k, l, is) = by (cases_lt (suc k) (length nets))
    where
      here : get_or nets k 0 ≡ n
      here = get_or_default nets k 0 n l ∙ is

      behind : after nets (suc k) ≡ n + 1
      behind = ap (λ (m : ℕ). m + 1) here

      on : suc k < length nets → IsTold begins nets (suc k) → Contains nets (n + 1)
      on m (inl follows) = subst (Contains nets) (follows ∙ behind) (Contains-get_or nets (suc k) 0 m)
      on m (inr (end, start)) = absurd (false≢true (sym unmarked ∙ subst (IsMarked begins) behind end))

      by : (suc k < length nets) ⊎ (length nets ≤ suc k) → Contains nets (n + 1)
      by (inl m) = on m (told (suc k) m)
      by (inr m) =
          let all : length nets ≡ suc k = omega arith in
          absurd (false≢true (sym unmarked ∙ subst (IsMarked begins) (ap (after nets) all ∙ behind) last))

  one_before : (n k : ℕ) → IsUnmarked begins (n + 1) → k < length nets → get_or nets k 0 ≡ n + 1 → IsTold begins nets k → Contains nets n
  one_before n k unmarked l is (inr (end, start)) = absurd (false≢true (sym unmarked ∙ subst (IsMarked begins) is start))
  one_before n zero unmarked l is (inl follows) = absurd (omega (arith, follows, is))
  one_before n (suc k) unmarked l is (inl follows) =
      let here : get_or nets k 0 ≡ n = omega (arith, follows, is) in
      subst (Contains nets) here (Contains-get_or nets k 0 (omega arith))

  pub listed_alike : AreListedAlike begins nets
  listed_alike n unmarked = (next_too n unmarked, λ (k, l, is). let here = get_or_default nets k 0 (n + 1) l ∙ is in one_before n k unmarked l here (told k l))

-- ---- list by list

module _ (declared : List ℕ) (nets_of : List (List ℕ)) where
  pub apart_none : (begins : List Bool) → AreDeclaredAlike begins declared → AreMarkedApart begins declared (take 0 nets_of)
  apart_none begins D n unmarked = record { one_declaration = D n unmarked; listed_alike = λ p. (λ h. absurd (contains_none n h), λ h. absurd (contains_none (n + 1) h)) }

  pub apart_more : (old new : List Bool) (k : ℕ) → k < length nets_of → KeepsMarks old new → AreListedAlike new (get_or nets_of k [])
      → AreMarkedApart old declared (take k nets_of) → AreMarkedApart new declared (take (k + 1) nets_of)
  apart_more old new k within K A B n unmarked =
      let H = B n (unmarked_before old new (n + 1) K unmarked) in
      record { one_declaration = H.one_declaration; listed_alike = λ p. by p (cases_lt p k) (cases_eq p k) }
    where
      at_first : (p : ℕ) → p < k → get_or (take (k + 1) nets_of) p [] ≡ get_or (take k nets_of) p []
      at_first p l = get_or-take (k + 1) nets_of p [] (omega arith) ∙ sym (get_or-take k nets_of p [] l)

      none : (p : ℕ) → (p < k → ⊥) → (p ≡ k → ⊥) → get_or (take (k + 1) nets_of) p [] ≡ []
      none p less other = get_or_past (take (k + 1) nets_of) p [] (rw (length-take-le (k + 1) nets_of (omega arith)) (omega (arith, less, other)))

      by : (p : ℕ) → (p < k) ⊎ (k ≤ p) → (p ≡ k) ⊎ (p ≡ k → ⊥) → Contains (get_or (take (k + 1) nets_of) p []) n ↔ Contains (get_or (take (k + 1) nets_of) p []) (n + 1)
      by p (inl l) _ = rw (at_first p l) ((B n (unmarked_before old new (n + 1) K unmarked)).listed_alike p)
      by p (inr l) (inl e) = rw (e, get_or-take (k + 1) nets_of k [] (omega arith)) (A n unmarked)
      by p (inr l) (inr other) =
          let past = none p (λ m. omega arith) other in
          (λ h. absurd (contains_none n (subst (λ (xs : List ℕ). Contains xs n) past h)), λ h. absurd (contains_none (n + 1) (subst (λ (xs : List ℕ). Contains xs (n + 1)) past h)))

  pub apart_all : (begins : List Bool) (k : ℕ) → length nets_of ≤ k → AreMarkedApart begins declared (take k nets_of) → AreMarkedApart begins declared nets_of
  apart_all begins k done A = subst (AreMarkedApart begins declared) (take_all k nets_of done) A

-- ---- net by net

module _ (declared : List ℕ) where
  pub declared_more : (begins : List Bool) (b : Bool) (net : ℕ) → length begins ≡ net → (b ≡ false → (0 < net) × (get_or declared (net - 1) 0 ≡ get_or declared net 0))
      → ((n : ℕ) → n < net → get_or begins n false ≡ false → (0 < n) × (get_or declared (n - 1) 0 ≡ get_or declared n 0))
      → (n : ℕ) → n < net + 1 → get_or (begins ++ b ∷ []) n false ≡ false → (0 < n) × (get_or declared (n - 1) 0 ≡ get_or declared n 0)
  declared_more begins b net many here before n l h = by (cases_lt n net)
    where
      by : (n < net) ⊎ (net ≤ n) → (0 < n) × (get_or declared (n - 1) 0 ≡ get_or declared n 0)
      by (inl less) = before n less (sym (get_or_append_left begins (b ∷ []) false n (rw many less)) ∙ h)
      by (inr from) =
          let e : n ≡ net = omega arith in
          rw e (here (sym (get_or_push begins b false n (many ∙ sym e)) ∙ h))

  module _ (begins : List Bool) (each : (n : ℕ) → n < length begins → get_or begins n false ≡ false → (0 < n) × (get_or declared (n - 1) 0 ≡ get_or declared n 0)) where
    pub first_marked : IsMarked begins 0
    first_marked = by (get_or begins 0 true) refl (cases_lt 0 (length begins))
      where
        by : (b : Bool) → get_or begins 0 true ≡ b → (0 < length begins) ⊎ (length begins ≤ 0) → IsMarked begins 0
        by true e _ = e
        by false e (inl l) = let h = (each 0 l (get_or_default begins 0 false true l ∙ e)).0 in absurd (omega (arith, h))
        by false e (inr l) = get_or_past begins 0 true l

    pub declared_alike : AreDeclaredAlike begins declared
    declared_alike n unmarked = by (cases_lt (n + 1) (length begins))
      where
        by : (n + 1 < length begins) ⊎ (length begins ≤ n + 1) → get_or declared n 0 ≡ get_or declared (n + 1) 0
        by (inl l) =
            let h = (each (n + 1) l (get_or_default begins (n + 1) false true l ∙ unmarked)).1 in
            let e : (n + 1) - 1 ≡ n = omega arith in
            ap (λ (m : ℕ). get_or declared m 0) (sym e) ∙ h
        by (inr l) = absurd (false≢true (sym unmarked ∙ get_or_past begins (n + 1) true l))
