-- Marks of the readers of nets that change.
use Rattle.std.proofs.Common.{◌≡◌, ℕ, ◌+◌, ◌-◌, ◌<◌, ◌≤◌, Bool, true, false, List, [], length, get_or, set, refl, sym, ap, subst, ◌∙◌, arith, ◌⊎◌, inl, inr, Contains}
use Rattle.std.proofs.lemmas.Bool.{cases_eq, cases_lt}
use Rattle.std.proofs.lemmas.List.{get_or-set_other}
use Rattle.rtl_kernel.specs.wakes.Woken.{AddsPlaces}
use Rattle.rtl_net_groups.specs.Written.{IsOther, IsWritten}
use Rattle.rtl_levels.specs.Marks.{GetsOther, IsReader, Marks}

module _ (index : List (List ℕ)) where
  pub marks_same : (nets : ℕ → Type 0) (v w : List ℕ) (m : List Bool) → ((n : ℕ) → get_or v n 0 ≡ get_or w n 0) → Marks index nets v w m m
  marks_same nets v w m same = record { as_many = refl; kept = λ k h. h; readers_marked = λ net k differs f. absurd (differs (same net)); no_other = λ k h. inl h }

  pub marks_then : (nets : ℕ → Type 0) (u v w : List ℕ) (a b c : List Bool) → Marks index nets u v a b → Marks index nets v w b c → Marks index nets u w a c
  marks_then nets u v w a b c A B = record {
    as_many = B.as_many ∙ A.as_many;
    kept = λ k h. B.kept k (A.kept k h);
    readers_marked = λ net k differs f. readers_marked net k differs f (cases_eq (get_or u net 0) (get_or v net 0));
    no_other = λ k h. other k (B.no_other k h);
  }
    where
      readers_marked : (net k : ℕ) → (get_or u net 0 ≡ get_or w net 0 → ⊥) → IsReader index net k → (get_or u net 0 ≡ get_or v net 0) ⊎ (get_or u net 0 ≡ get_or v net 0 → ⊥)
          → get_or c k false ≡ true
      readers_marked net k differs f (inl same) = B.readers_marked net k (λ e. differs (same ∙ e)) f
      readers_marked net k differs f (inr other) = B.kept k (A.readers_marked net k other f)

      other : (k : ℕ) → (get_or b k false ≡ true) ⊎ ((net : ℕ) × nets net × IsReader index net k) → (get_or a k false ≡ true) ⊎ ((net : ℕ) × nets net × IsReader index net k)
      other k (inl h) = A.no_other k h
      other k (inr x) = inr x

  -- of more nets
  pub marks_wider : (nets more : ℕ → Type 0) → ((n : ℕ) → nets n → more n) → (v w : List ℕ) (a b : List Bool) → Marks index nets v w a b → Marks index more v w a b
  marks_wider nets more wider v w a b M = record { as_many = M.as_many; kept = M.kept; readers_marked = M.readers_marked; no_other = λ k h. other k (M.no_other k h) }
    where
      other : (k : ℕ) → (get_or a k false ≡ true) ⊎ ((net : ℕ) × nets net × IsReader index net k) → (get_or a k false ≡ true) ⊎ ((net : ℕ) × more net × IsReader index net k)
      other k (inl h) = inl h
      other k (inr (net, among, f)) = inr (net, wider net among, f)

  -- the readers of one net
  pub marks_one : (v : List ℕ) (net value : ℕ) (a b : List Bool) → length b ≡ length a → AddsPlaces (get_or index net []) a b → Marks index (λ n. n ≡ net) v (set v net value) a b
  marks_one v net value a b many A = record {
    as_many = many;
    kept = A.kept;
    readers_marked = λ n k differs f. readers_marked n k differs f (cases_eq n net);
    no_other = λ k h. other k (A.no_other k h);
  }
    where
      readers_marked : (n k : ℕ) → (get_or v n 0 ≡ get_or (set v net value) n 0 → ⊥) → IsReader index n k → (n ≡ net) ⊎ (n ≡ net → ⊥) → get_or b k false ≡ true
      readers_marked n k differs f (inl e) = A.added k (subst (λ (m : ℕ). Contains (get_or index m []) k) e f)
      readers_marked n k differs f (inr ne) = absurd (differs (sym (get_or-set_other v net n value 0 ne)))

      other : (k : ℕ) → (get_or a k false ≡ true) ⊎ Contains (get_or index net []) k → (get_or a k false ≡ true) ⊎ ((n : ℕ) × (n ≡ net) × IsReader index n k)
      other k (inl h) = inl h
      other k (inr c) = inr (net, refl, c)

  -- the readers of a run of nets, which have the same
  pub marks_run : (v w : List ℕ) (first : ℕ) (given : List ℕ) (a b : List Bool) → IsOther first given v → ((k : ℕ) → k < length given → get_or index (first + k) [] ≡ get_or index first [])
      → IsWritten first given v w → length b ≡ length a → AddsPlaces (get_or index first []) a b → Marks index (GetsOther first given v) v w a b
  marks_run v w first given a b one together W many A = record {
    as_many = many;
    kept = A.kept;
    readers_marked = λ n k differs f. readers_marked n k differs f (cases_lt n first);
    no_other = λ k h. other k (A.no_other k h);
  }
    where
      behind : (n k : ℕ) → (get_or v n 0 ≡ get_or w n 0 → ⊥) → IsReader index n k → first ≤ n → (n < first + length given) ⊎ (first + length given ≤ n) → get_or b k false ≡ true
      behind n k differs f low (inl less) =
          let at : first + (n - first) ≡ n = omega (arith, low) in
          let row = ap (λ (m : ℕ). get_or index m []) (sym at) ∙ together (n - first) (omega (arith, less, low)) in
          A.added k (subst (λ (xs : List ℕ). Contains xs k) row f)
      behind n k differs f low (inr past) = absurd (differs (sym (W.behind n past)))

      readers_marked : (n k : ℕ) → (get_or v n 0 ≡ get_or w n 0 → ⊥) → IsReader index n k → (n < first) ⊎ (first ≤ n) → get_or b k false ≡ true
      readers_marked n k differs f (inl less) = absurd (differs (sym (W.below n less)))
      readers_marked n k differs f (inr low) = behind n k differs f low (cases_lt n (first + length given))

      other : (k : ℕ) → (get_or a k false ≡ true) ⊎ Contains (get_or index first []) k → (get_or a k false ≡ true) ⊎ ((n : ℕ) × GetsOther first given v n × IsReader index n k)
      other k (inl h) = inl h
      other k (inr c) = inr (first + one.place, record { at = one.place; within = one.there; is = refl; other = one.differ }, rw (together one.place one.there) c)
