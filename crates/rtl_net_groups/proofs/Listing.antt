-- Processes that come into the rows of groups.
use Rattle.std.proofs.Common.{◌≡◌, ℕ, zero, suc, ◌+◌, ◌<◌, ◌≤◌, List, [], ◌∷◌, ◌++◌, length, get_or, set, take, replicate, refl, sym, ap, subst, ◌∙◌, arith, add-one, ◌⊎◌, inl, inr, Contains, Vec}
use Rattle.std.specs.Global.{Global}
use Rattle.std.proofs.lemmas.Bool.{cases_eq, cases_lt}
use Rattle.std.proofs.lemmas.List.{get_or-map, get_or-set_same, get_or-set_other, get_or_past, get_or-take, length-take-le, take_more}
use Rattle.std.proofs.lemmas.List.Elements.{Contains-append_left, Contains-push, Contains-push_cases}
use Rattle.rtl_net_groups.specs.Lists.{rows}
use Rattle.rtl_net_groups.specs.steps.Listed.{IsListedIn, AreListedByFirst}
use Rattle.rtl_net_groups.proofs.Marking.{contains_none}

-- ---- rows

pub rows_push : {X : Type 0} (vs : List (Vec X Global)) (v : Vec X Global) → rows (vs ++ v ∷ []) ≡ rows vs ++ v.items ∷ []
rows_push [] v = refl
rows_push {X} (w ∷ vs) v = ap (λ (rs : List (List X)). w.items ∷ rs) (rows_push vs v)

pub row_is : {X : Type 0} (vs : List (Vec X Global)) (k : ℕ) (v : Vec X Global) → k < length vs → v ≡ get_or vs k v → get_or (rows vs) k [] ≡ v.items
row_is {X} vs k v within is = get_or-map (λ (w : Vec X Global). w.items) vs k v [] within ∙ ap (λ (w : Vec X Global). w.items) (sym is)

pub rows_more : {X : Type 0} (vs : List (Vec X Global)) (i : ℕ) (v : Vec X Global) → i < length vs → v ≡ get_or vs i v → rows (take (i + 1) vs) ≡ rows (take i vs) ++ v.items ∷ []
rows_more {X} vs i v within is =
    ap rows (take_more vs i v within) ∙ rows_push (take i vs) (get_or vs i v)
    ∙ ap (λ (w : Vec X Global). rows (take i vs) ++ w.items ∷ []) (sym is)

pub nones_more : (k : ℕ) → replicate {A = List ℕ} (k + 1) [] ≡ replicate k [] ++ [] ∷ []
nones_more k = rw add-one (by k)
  where
    by : (m : ℕ) → replicate {A = List ℕ} (suc m) [] ≡ replicate m [] ++ [] ∷ []
    by zero = refl
    by (suc m) = ap (λ (xs : List (List ℕ)). [] ∷ xs) (by m)

none_at : (k n : ℕ) → get_or (replicate {A = List ℕ} k []) n [] ≡ []
none_at zero n = refl
none_at (suc k) zero = refl
none_at (suc k) (suc n) = none_at k n

-- ---- one process

module _ (process : ℕ) (first : List ℕ) where
  wider : (nets : List ℕ) (net g p : ℕ) (old : List (List ℕ)) → Contains (get_or old g []) p ⊎ ((p ≡ process) × Contains nets (get_or first g 0))
      → Contains (get_or old g []) p ⊎ ((p ≡ process) × Contains (nets ++ net ∷ []) (get_or first g 0))
  wider nets net g p old (inl h) = inl h
  wider nets net g p old (inr (e, h)) = inr (e, Contains-append_left nets (net ∷ []) (get_or first g 0) h)

  module _ (nets : List ℕ) (i net group : ℕ) (old mid : List (List ℕ)) (within : i < length nets) (is : get_or nets i 0 ≡ net)
      (own : (g : ℕ) → g < length first → get_or first g 0 ≡ net → g ≡ group) (I : IsListedIn process (take i nets) first old mid) where
    -- the net is the first of its group
    pub listed_first : group < length mid → get_or first group 0 ≡ net → IsListedIn process (take (i + 1) nets) first old (set mid group (get_or mid group [] ++ process ∷ []))
    listed_first there begins = rw (take_more nets i 0 within, is) (record {
      kept = λ g p h. stays g p (I.kept g p h) (cases_eq g group);
      added = λ g l h. added g l (Contains-push_cases (take i nets) net (get_or first g 0) h) (cases_eq g group);
      no_other = λ g p l h. other g p l h (cases_eq g group);
    })
      where
        at_group : get_or (set mid group (get_or mid group [] ++ process ∷ [])) group [] ≡ get_or mid group [] ++ process ∷ []
        at_group = get_or-set_same mid group (get_or mid group [] ++ process ∷ []) [] there

        stays : (g p : ℕ) → Contains (get_or mid g []) p → (g ≡ group) ⊎ (g ≡ group → ⊥) → Contains (get_or (set mid group (get_or mid group [] ++ process ∷ [])) g []) p
        stays g p h (inl e) = rw (e, at_group) (Contains-append_left (get_or mid group []) (process ∷ []) p (rw e at h))
        stays g p h (inr ne) = rw (get_or-set_other mid group g (get_or mid group [] ++ process ∷ []) [] ne) h

        added : (g : ℕ) → g < length first → Contains (take i nets) (get_or first g 0) ⊎ (net ≡ get_or first g 0) → (g ≡ group) ⊎ (g ≡ group → ⊥)
            → Contains (get_or (set mid group (get_or mid group [] ++ process ∷ [])) g []) process
        added g l _ (inl e) = rw (e, at_group) (Contains-push (get_or mid group []) process)
        added g l (inl h) (inr ne) = stays g process (I.added g l h) (inr ne)
        added g l (inr e) (inr ne) = absurd (ne (own g l (sym e)))

        last : (g p : ℕ) → g < length first → g ≡ group → Contains (get_or mid group []) p ⊎ (process ≡ p)
            → Contains (get_or old g []) p ⊎ ((p ≡ process) × Contains (take i nets ++ net ∷ []) (get_or first g 0))
        last g p l e (inl h) = wider (take i nets) net g p old (I.no_other g p l (rw e h))
        last g p l e (inr is_it) = inr (sym is_it, rw (e, begins) (Contains-push (take i nets) net))

        other : (g p : ℕ) → g < length first → Contains (get_or (set mid group (get_or mid group [] ++ process ∷ [])) g []) p → (g ≡ group) ⊎ (g ≡ group → ⊥)
            → Contains (get_or old g []) p ⊎ ((p ≡ process) × Contains (take i nets ++ net ∷ []) (get_or first g 0))
        other g p l h (inl e) = last g p l e (Contains-push_cases (get_or mid group []) process p (rw (e, at_group) at h))
        other g p l h (inr ne) = wider (take i nets) net g p old (I.no_other g p l (rw (get_or-set_other mid group g (get_or mid group [] ++ process ∷ []) [] ne) at h))

    -- it is another of the group's nets
    pub listed_later : (get_or first group 0 ≡ net → ⊥) → IsListedIn process (take (i + 1) nets) first old mid
    listed_later later = rw (take_more nets i 0 within, is) (record {
      kept = I.kept;
      added = λ g l h. added g l (Contains-push_cases (take i nets) net (get_or first g 0) h);
      no_other = λ g p l h. wider (take i nets) net g p old (I.no_other g p l h);
    })
      where
        added : (g : ℕ) → g < length first → Contains (take i nets) (get_or first g 0) ⊎ (net ≡ get_or first g 0) → Contains (get_or mid g []) process
        added g l (inl h) = I.added g l h
        added g l (inr e) = let same = own g l (sym e) in absurd (later (ap (λ (k : ℕ). get_or first k 0) (sym same) ∙ sym e))

-- ---- process by process

module _ (nets_of : List (List ℕ)) (first : List ℕ) where
  pub by_first_none : (k : ℕ) → AreListedByFirst (take 0 nets_of) first (replicate k [])
  by_first_none k = record {
    all_are_in = λ g p l h. absurd (contains_none (get_or first g 0) h);
    no_other = λ g p l h. absurd (contains_none p (subst (λ (xs : List ℕ). Contains xs p) (none_at k g) h));
  }

  pub by_first_more : (k : ℕ) (mid new : List (List ℕ)) → k < length nets_of → AreListedByFirst (take k nets_of) first mid → IsListedIn k (get_or nets_of k []) first mid new
      → AreListedByFirst (take (k + 1) nets_of) first new
  by_first_more k mid new within I A = record {
    all_are_in = λ g p l h. into g p l h (cases_lt p k) (cases_eq p k);
    no_other = λ g p l h. from g p l (A.no_other g p l h);
  }
    where
      at_first : (p : ℕ) → p < k → get_or (take (k + 1) nets_of) p [] ≡ get_or (take k nets_of) p []
      at_first p l = get_or-take (k + 1) nets_of p [] (omega arith) ∙ sym (get_or-take k nets_of p [] l)

      at_k : get_or (take (k + 1) nets_of) k [] ≡ get_or nets_of k []
      at_k = get_or-take (k + 1) nets_of k [] (omega arith)

      into : (g p : ℕ) → g < length first → Contains (get_or (take (k + 1) nets_of) p []) (get_or first g 0) → (p < k) ⊎ (k ≤ p) → (p ≡ k) ⊎ (p ≡ k → ⊥) → Contains (get_or new g []) p
      into g p l h (inl less) _ = A.kept g p (I.all_are_in g p l (rw (at_first p less) at h))
      into g p l h (inr le) (inl e) = rw e (A.added g l (rw (e, at_k) at h))
      into g p l h (inr le) (inr other) =
          let past = get_or_past (take (k + 1) nets_of) p [] (rw (length-take-le (k + 1) nets_of (omega arith)) (omega (arith, le, other))) in
          absurd (contains_none (get_or first g 0) (subst (λ (xs : List ℕ). Contains xs (get_or first g 0)) past h))

      from : (g p : ℕ) → g < length first → Contains (get_or mid g []) p ⊎ ((p ≡ k) × Contains (get_or nets_of k []) (get_or first g 0))
          → Contains (get_or (take (k + 1) nets_of) p []) (get_or first g 0)
      from g p l (inl h) = by (cases_lt p k)
        where
          old : Contains (get_or (take k nets_of) p []) (get_or first g 0)
          old = I.no_other g p l h

          by : (p < k) ⊎ (k ≤ p) → Contains (get_or (take (k + 1) nets_of) p []) (get_or first g 0)
          by (inl less) = rw (at_first p less) old
          by (inr le) =
              let past = get_or_past (take k nets_of) p [] (rw (length-take-le k nets_of (omega arith)) le) in
              absurd (contains_none (get_or first g 0) (subst (λ (xs : List ℕ). Contains xs (get_or first g 0)) past old))
      from g p l (inr (e, h)) = rw (e, at_k) h
