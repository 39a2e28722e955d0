-- Nets of one group are alike, since each is like the one before it.
use Rattle.std.proofs.Common.{◌≡◌, ◌↔◌, ℕ, zero, suc, ◌+◌, ◌-◌, ◌<◌, ◌≤◌, Bool, List, [], length, get_or, refl, sym, ap, subst, ◌∙◌, arith, ◌⊎◌, inl, inr, Contains}
use Rattle.std.proofs.lemmas.Bool.{cases_lt}
use Rattle.rtl_net_groups.specs.Groups.{AreAlike, AreGroups}
use Rattle.rtl_net_groups.specs.steps.Listed.{AreListedByFirst}
use Rattle.rtl_net_groups.specs.steps.Marks.{AreMarkedApart}
use Rattle.rtl_net_groups.specs.steps.Numbered.{IsNumbered}

module _ (declared : List ℕ) (nets_of : List (List ℕ)) where
  alike_itself : (m : ℕ) → AreAlike declared nets_of m m
  alike_itself m = record { one_declaration = refl; listed_alike = λ p. (λ h. h, λ h. h) }

  alike_then : (m n o : ℕ) → AreAlike declared nets_of m n → AreAlike declared nets_of n o → AreAlike declared nets_of m o
  alike_then m n o A B = record {
    one_declaration = A.one_declaration ∙ B.one_declaration;
    listed_alike = λ p. (λ h. (B.listed_alike p).0 ((A.listed_alike p).0 h), λ h. (A.listed_alike p).1 ((B.listed_alike p).1 h));
  }

  alike_back : (m n : ℕ) → AreAlike declared nets_of m n → AreAlike declared nets_of n m
  alike_back m n A = record { one_declaration = sym A.one_declaration; listed_alike = λ p. ((A.listed_alike p).1, (A.listed_alike p).0) }

  module _ (begins : List Bool) (of_net first : List ℕ) (N : IsNumbered begins of_net first) (A : AreMarkedApart begins declared nets_of) where
    along : (k m n : ℕ) → n ≡ m + k → n < length of_net → get_or of_net m 0 ≡ get_or of_net n 0 → AreAlike declared nets_of m n
    along zero m n e l same = let is : m ≡ n = omega arith in subst (AreAlike declared nets_of m) is (alike_itself m)
    along (suc k) m n e l same =
        let o = n - 1 in
        let up : o + 1 ≡ n = omega arith in
        let low = N.runs.in_order m o (omega arith) (omega arith) in
        let high = N.runs.in_order o n (omega arith) l in
        let mid : get_or of_net m 0 ≡ get_or of_net o 0 = omega (arith, low, high, same) in
        let step : get_or of_net (o + 1) 0 ≡ get_or of_net o 0 = ap (λ (x : ℕ). get_or of_net x 0) up ∙ sym same ∙ mid in
        let last = A o (N.same o (omega arith) step) in
        alike_then m o n (along k m o (omega arith) (omega arith) mid) (subst (AreAlike declared nets_of o) up last)

    all_alike : (m n : ℕ) → m < length of_net → n < length of_net → get_or of_net m 0 ≡ get_or of_net n 0 → AreAlike declared nets_of m n
    all_alike m n m_in n_in same = by (cases_lt m n)
      where
        by : (m < n) ⊎ (n ≤ m) → AreAlike declared nets_of m n
        by (inl l) = along (n - m) m n (omega arith) n_in same
        by (inr l) = alike_back n m (along (m - n) n m (omega arith) m_in (sym same))

    pub groups_are : (listed : List (List ℕ)) → length of_net ≡ length declared → length listed ≡ length first → AreListedByFirst nets_of first listed
        → AreGroups declared nets_of (record { of_net = of_net; first = first; listed = listed })
    groups_are listed each_net each_group L = record {
      each_net = each_net;
      each_group = each_group;
      runs = N.runs;
      alike = λ m n m_in n_in same. all_alike m n (omega arith) (omega arith) same;
      listed = λ n p l. by n p (omega arith);
    }
      where
        by : (n p : ℕ) → n < length of_net → Contains (get_or listed (get_or of_net n 0) []) p ↔ Contains (get_or nets_of p []) n
        by n p l =
            let g = get_or of_net n 0 in
            let there = N.runs.there n l in
            let (first_in, is) = N.runs.begins g there in
            let same = (all_alike (get_or first g 0) n first_in l is).listed_alike p in
            (λ h. same.0 (L.no_other g p there h), λ h. L.all_are_in g p there (same.1 h))
