-- Nets that are numbered by groups, one after the other.
use Rattle.std.proofs.Common.{◌≡◌, ℕ, ◌+◌, ◌-◌, ◌<◌, ◌≤◌, Bool, true, List, [], ◌∷◌, ◌++◌, length, get_or, sym, ap, ◌∙◌, arith, ◌⊎◌, inl, inr}
use Rattle.std.proofs.lemmas.Bool.{cases_lt, false≢true}
use Rattle.std.proofs.lemmas.List.{get_or_append_left, get_or_push, length_push}
use Rattle.rtl_net_groups.specs.steps.Marks.{IsMarked, IsUnmarked}
use Rattle.rtl_net_groups.specs.steps.Numbered.{IsNumbered}

-- a net that isn't marked isn't the first
pub some_before : (marks : List Bool) (of_net : List ℕ) (net : ℕ) → length of_net ≡ net → IsMarked marks 0 → IsUnmarked marks net → 0 < length of_net
some_before marks of_net net next marked unmarked = by (cases_lt 0 (length of_net))
  where
    by : (0 < length of_net) ⊎ (length of_net ≤ 0) → 0 < length of_net
    by (inl l) = l
    by (inr l) =
        let e : net ≡ 0 = omega arith in
        absurd (false≢true (sym unmarked ∙ ap (λ (n : ℕ). get_or marks n true) e ∙ marked))

module _ (marks : List Bool) (of_net first : List ℕ) (N : IsNumbered marks of_net first) where
  abbrev net : ℕ
  net = length of_net

  -- the last group of all is that of the last net
  below_last : (m : ℕ) → m < net → get_or of_net m 0 + 1 ≤ length first
  below_last m l =
      let h = N.runs.in_order m (net - 1) (omega arith) (omega arith) in
      let e = N.last (net - 1) (omega arith) in
      omega (arith, h, e)

  module _ (g : ℕ) where
    abbrev old_at : (n : ℕ) → n < net → get_or (of_net ++ g ∷ []) n 0 ≡ get_or of_net n 0
    old_at n l = get_or_append_left of_net (g ∷ []) 0 n l

    abbrev new_at : (n : ℕ) → n ≡ net → get_or (of_net ++ g ∷ []) n 0 ≡ g
    new_at n e = get_or_push of_net g 0 n (sym e)

    in_order_more : length first ≤ g + 1 → (m n : ℕ) → m ≤ n → n < length (of_net ++ g ∷ []) → get_or (of_net ++ g ∷ []) m 0 ≤ get_or (of_net ++ g ∷ []) n 0
    in_order_more above m n le l = by (cases_lt n net) (cases_lt m net) (omega (arith, l, length_push of_net g))
      where
        by : (n < net) ⊎ (net ≤ n) → (m < net) ⊎ (net ≤ m) → n < net + 1 → get_or (of_net ++ g ∷ []) m 0 ≤ get_or (of_net ++ g ∷ []) n 0
        by (inl n_in) (inl m_in) _ = let h = N.runs.in_order m n le n_in in omega (arith, h, old_at m m_in, old_at n n_in)
        by (inl n_in) (inr m_out) _ = absurd (omega arith)
        by (inr n_out) (inl m_in) n_last = let h = below_last m m_in in omega (arith, h, old_at m m_in, new_at n (omega arith), above)
        by (inr n_out) (inr m_out) n_last = omega (arith, new_at m (omega arith), new_at n (omega arith))

  -- ---- a group of its own

  -- ---- in the group of the net before it

  pub numbered_same : 0 < length of_net → IsUnmarked marks (length of_net) → IsNumbered marks (of_net ++ (length first - 1) ∷ []) first
  numbered_same some unmarked = record {
    runs = record {
      there = λ n l. there n (cases_lt n net) (omega (arith, l, length_push of_net g));
      in_order = in_order_more g (omega arith);
      begins = λ h l. begins h l;
      is_first = λ n l. is_first n (cases_lt n net) (omega (arith, l, length_push of_net g));
    };
    last = λ n e. omega (arith, new_at g n (omega (arith, e, length_push of_net g)), groups);
    same = λ n l e. same n e (cases_lt (n + 1) net) (omega (arith, l, length_push of_net g));
  }
    where
      g : ℕ
      g = length first - 1

      groups : 0 < length first
      groups = omega (arith, N.last (net - 1) (omega arith))

      before : get_or of_net (net - 1) 0 ≡ length first - 1
      before = omega (arith, N.last (net - 1) (omega arith))

      there : (n : ℕ) → (n < net) ⊎ (net ≤ n) → n < net + 1 → get_or (of_net ++ (length first - 1) ∷ []) n 0 < length first
      there n (inl l) _ = omega (arith, N.runs.there n l, old_at (length first - 1) n l)
      there n (inr l) m = omega (arith, new_at (length first - 1) n (omega arith), groups)

      begins : (h : ℕ) → h < length first → (get_or first h 0 < length (of_net ++ (length first - 1) ∷ [])) × (get_or (of_net ++ (length first - 1) ∷ []) (get_or first h 0) 0 ≡ h)
      begins h l =
          let (there, is) = N.runs.begins h l in
          (omega (arith, there, length_push of_net (length first - 1)), old_at (length first - 1) (get_or first h 0) there ∙ is)

      is_first : (n : ℕ) → (n < net) ⊎ (net ≤ n) → n < net + 1 → get_or first (get_or (of_net ++ (length first - 1) ∷ []) n 0) 0 ≤ n
      is_first n (inl l) _ = rw (old_at (length first - 1) n l) (N.runs.is_first n l)
      is_first n (inr l) m =
          let h = N.runs.is_first (net - 1) (omega arith) in
          let e = ap (λ (k : ℕ). get_or first k 0) (new_at (length first - 1) n (omega arith) ∙ sym before) in
          omega (arith, h, e)

      same : (n : ℕ) → get_or (of_net ++ (length first - 1) ∷ []) (n + 1) 0 ≡ get_or (of_net ++ (length first - 1) ∷ []) n 0 → (n + 1 < net) ⊎ (net ≤ n + 1) → n + 1 < net + 1
          → IsUnmarked marks (n + 1)
      same n e (inl l) _ = N.same n l (sym (old_at (length first - 1) (n + 1) l) ∙ e ∙ old_at (length first - 1) n (omega arith))
      same n e (inr l) m = let here : n + 1 ≡ net = omega arith in rw here unmarked
