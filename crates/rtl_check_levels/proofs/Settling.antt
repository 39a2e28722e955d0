-- A row gets its level.
use Rattle.std.proofs.Common.{◌≡◌, ◌≢◌, ℕ, suc, Bool, true, false, refl, ◌+◌, ◌<◌, ◌≤◌, ◌⊎◌, inl, inr, List, length, get_or, set, Option, Some, None, sym, ap, subst, ◌∙◌, arith, Contains, max, cond}
use Rattle.std.specs.Prelude.{MatchOption, IfSome, IsSome, if◌then◌else◌}
use Rattle.std.proofs.Math.ListN.{length-set}
use Rattle.std.proofs.lemmas.List.{get_or-set_same, get_or-set_other}
use Rattle.std.proofs.lemmas.List.Sums.{sum_by-set, count_by-le-length}
use Rattle.std.proofs.lemmas.Bool.{cases_eq}
use Rattle.std.proofs.Math.Nat.{le-max_left, le-max_right}
use Rattle.rtl_check_levels.specs.declared.counting.Counting.{Counting}
use Rattle.rtl_check_levels.specs.Feeding.{Table, IsIn, feeders_of, counts_in}
use Rattle.rtl_check_levels.specs.Levels.{level_of, seen_of, IsHighest, IsSeen, StandsAbove}
use Rattle.rtl_check_levels.specs.Finding.{LevelsSoFar, is_open, open_count}
use Rattle.rtl_check_levels.proofs.Growing.{some_within}

highest_grows : (counting : Counting) (ps : List ℕ) (levels later from new : List (Option ℕ)) (below : ℕ) (at : Option ℕ)
    → ((p level : ℕ) → level_of levels p ≡ Some level → level_of later p ≡ Some level)
    → ((p level : ℕ) → level_of levels p ≡ Some level → seen_of counting new p ≡ seen_of counting from p)
    → IsHighest counting ps levels from below at → IsHighest counting ps later new below at
highest_grows counting ps levels later from new below at g seen h = record {
  each = λ p c. let (b, e, l, f) = h.each p c in (b, g p b e, l, λ m. subst (λ (o : Option ℕ). IfSome at (λ x. IfSome o (λ s. x ≤ s))) (sym (seen p b e)) (f m));
  met = met at h.met;
}
  where
    met : (o : Option ℕ) → MatchOption o (below ≡ 0) (λ f. (below ≢ 0) × ((p : ℕ) × Contains ps p × (level_of levels p ≡ Some below) × (seen_of counting from p ≡ Some f)))
        → MatchOption o (below ≡ 0) (λ f. (below ≢ 0) × ((p : ℕ) × Contains ps p × (level_of later p ≡ Some below) × (seen_of counting new p ≡ Some f)))
    met None z = z
    met (Some f) (some, (p, c, e, s)) = (some, (p, c, g p below e, seen p below e ∙ s))

-- what feeds a row that stands above them is seen
pub is_seen : (counting : Counting) (table : Table) (levels from : List (Option ℕ)) (p level : ℕ) → StandsAbove counting table levels from p level → IsSeen counting from p level
is_seen counting table levels from p level (below, is, high) = by (counts_in counting p) is (get_or from p None) high.met
  where
    by : (b : Bool) → level ≡ (if b then suc below else below) → (o : Option ℕ)
        → MatchOption o (below ≡ 0) (λ f. (below ≢ 0) × ((r : ℕ) × Contains (feeders_of table p) r × (level_of levels r ≡ Some below) × (seen_of counting from r ≡ Some f)))
        → level ≢ 0 → IsSome (if b then Some p else o)
    by true e o m some = refl
    by false e None m some = absurd (some (e ∙ m))
    by false e (Some f) m some = refl

pub most_one : (more : ℕ) (b : Bool) → more ≡ (if b then 1 else 0) → more ≤ 1
most_one more true e = omega arith
most_one more false e = omega arith

-- ---- one level more

module _ (levels : List (Option ℕ)) (q x : ℕ) (within : q < length levels) where
  pub level_new : level_of (set levels q (Some x)) q ≡ Some x
  level_new = get_or-set_same levels q (Some x) None within

  pub level_other : (p : ℕ) → (p ≡ q → ⊥) → level_of (set levels q (Some x)) p ≡ level_of levels p
  level_other p ne = get_or-set_other levels q p (Some x) None ne

  pub levels_grow : level_of levels q ≡ None → (p level : ℕ) → level_of levels p ≡ Some level → level_of (set levels q (Some x)) p ≡ Some level
  levels_grow unplaced p level e = level_other p (λ same. let n = subst (λ (r : ℕ). level_of levels r ≡ Some level) same e in absurd (apart unplaced n)) ∙ e
    where
      apart : {o : Option ℕ} → o ≡ None → o ≡ Some level → ⊥
      apart a b = cc

  pub one_less_open : level_of levels q ≡ None → open_count (set levels q (Some x)) + 1 ≡ open_count levels
  one_less_open unplaced = go (sum_by-set is levels q (Some x) None within) (ap is unplaced)
    where
      is : Option ℕ → ℕ
      is o = cond {A = ℕ} (is_open o) 1 0

      go : open_count (set levels q (Some x)) + is (get_or levels q None) ≡ open_count levels + 0 → is (get_or levels q None) ≡ 1 → open_count (set levels q (Some x)) + 1 ≡ open_count levels
      go a b = omega arith

below_small : (counting : Counting) (table : Table) (levels from : List (Option ℕ)) (greatest q below : ℕ) (row : Option ℕ) → LevelsSoFar counting table levels from greatest
    → IsHighest counting (feeders_of table q) levels from below row → below + open_count levels ≤ length table
below_small counting table levels from greatest q below None h high =
    let z = high.met in let l = count_by-le-length is_open levels in let n = h.each_row in omega arith
below_small counting table levels from greatest q below (Some f) h high = let (some, (p, c, e, s)) = high.met in h.small p below e

-- What is known of one row more; it counts so much.
pub settled_levels : (counting : Counting) (table : Table) (levels from : List (Option ℕ)) (greatest q below more : ℕ) (row : Option ℕ) → LevelsSoFar counting table levels from greatest
    → IsIn table q → level_of levels q ≡ None → more ≡ (if counts_in counting q then 1 else 0) → IsHighest counting (feeders_of table q) levels from below row
    → LevelsSoFar counting table (set levels q (Some (below + more))) (set from q row) (max greatest (below + more))
settled_levels counting table levels from greatest q below more row h inside unplaced is_more high = record {
  each_row = length-set levels q (Some (below + more)) ∙ h.each_row;
  each_from = length-set from q row ∙ h.each_from;
  unplaced = λ p e. no_from p e (cases_eq p q);
  inside = λ p level e. inside_of p level e (cases_eq p q);
  stand = λ p level e. stands p level e (cases_eq p q);
  none_above = λ p level e. above p level e (cases_eq p q);
  met = λ some. met_at some (max_is greatest (below + more));
  small = λ p level e. small p level e (cases_eq p q);
}
  where
    in_levels : q < length levels
    in_levels = let l = some_within table q inside in let e = h.each_row in omega arith

    in_from : q < length from
    in_from = let l = some_within table q inside in let e = h.each_from in omega arith

    later : List (Option ℕ)
    later = set levels q (Some (below + more))

    apart : {o : Option ℕ} {a : ℕ} → o ≡ None → o ≡ Some a → ⊥
    apart a b = cc

    some_same : {a b : ℕ} → Some a ≡ Some b → a ≡ b
    some_same e = cc

    new_at : (p : ℕ) → p ≡ q → level_of later p ≡ Some (below + more)
    new_at p e = subst (λ (r : ℕ). level_of later r ≡ Some (below + more)) (sym e) (level_new levels q (below + more) in_levels)

    old_at : (p : ℕ) → (p ≡ q → ⊥) → level_of later p ≡ level_of levels p
    old_at p ne = level_other levels q (below + more) in_levels p ne

    old_from : (p : ℕ) → (p ≡ q → ⊥) → get_or (set from q row) p None ≡ get_or from p None
    old_from p ne = get_or-set_other from q p row None ne

    grow : (p level : ℕ) → level_of levels p ≡ Some level → level_of later p ≡ Some level
    grow = levels_grow levels q (below + more) in_levels unplaced

    no_from : (p : ℕ) → level_of later p ≡ None → (p ≡ q) ⊎ (p ≡ q → ⊥) → get_or (set from q row) p None ≡ None
    no_from p e (inl same) = absurd (apart e (new_at p same))
    no_from p e (inr ne) = old_from p ne ∙ h.unplaced p (sym (old_at p ne) ∙ e)

    inside_of : (p level : ℕ) → level_of later p ≡ Some level → (p ≡ q) ⊎ (p ≡ q → ⊥) → IsIn table p
    inside_of p level e (inl same) = subst (IsIn table) (sym same) inside
    inside_of p level e (inr ne) = h.inside p level (sym (old_at p ne) ∙ e)

    seen_same : (p level : ℕ) → level_of levels p ≡ Some level → seen_of counting (set from q row) p ≡ seen_of counting from p
    seen_same p level e = ap (λ (o : Option ℕ). if counts_in counting p then Some p else o) (old_from p (λ same. apart unplaced (subst (λ (r : ℕ). level_of levels r ≡ Some level) same e)))

    as_level : (b : Bool) → more ≡ (if b then 1 else 0) → below + more ≡ (if b then suc below else below)
    as_level true e = omega arith
    as_level false e = omega arith

    stands : (p level : ℕ) → level_of later p ≡ Some level → (p ≡ q) ⊎ (p ≡ q → ⊥) → StandsAbove counting table later (set from q row) p level
    stands p level e (inl same) =
        let there = highest_grows counting (feeders_of table q) levels later from (set from q row) below row grow seen_same high in
        let at_q : IsHighest counting (feeders_of table q) later (set from q row) below (get_or (set from q row) q None)
        = subst (IsHighest counting (feeders_of table q) later (set from q row) below) (sym (get_or-set_same from q row None in_from)) there in
        let l : level ≡ below + more = some_same (sym e ∙ new_at p same) in
        subst (λ (r : ℕ). StandsAbove counting table later (set from q row) r level) (sym same) (below, l ∙ as_level (counts_in counting q) is_more, at_q)
    stands p level e (inr ne) =
        let (b, l, k) = h.stand p level (sym (old_at p ne) ∙ e) in (
          b,
          l,
          subst (IsHighest counting (feeders_of table p) later (set from q row) b) (sym (old_from p ne))
              (highest_grows counting (feeders_of table p) levels later from (set from q row) b (get_or from p None) grow seen_same k),
        )

    above : (p level : ℕ) → level_of later p ≡ Some level → (p ≡ q) ⊎ (p ≡ q → ⊥) → level ≤ max greatest (below + more)
    above p level e (inl same) = let l : level ≡ below + more = some_same (sym e ∙ new_at p same) in let m = le-max_right greatest (below + more) in omega arith
    above p level e (inr ne) = let l = h.none_above p level (sym (old_at p ne) ∙ e) in let m = le-max_left greatest (below + more) in omega arith

    max_is : (a b : ℕ) → (max a b ≡ a) ⊎ (max a b ≡ b)
    max_is a b = go (cases_eq (max a b) a)
      where
        go : (max a b ≡ a) ⊎ (max a b ≡ a → ⊥) → (max a b ≡ a) ⊎ (max a b ≡ b)
        go (inl e) = inl e
        go (inr ne) = inr (omega arith)

    met_at : max greatest (below + more) ≢ 0 → (max greatest (below + more) ≡ greatest) ⊎ (max greatest (below + more) ≡ below + more) → (p : ℕ) × (level_of later p ≡ Some (max greatest (below + more)))
    met_at some (inr e) = (q, level_new levels q (below + more) in_levels ∙ ap Some (sym e))
    met_at some (inl e) =
        let (p, l) = h.met (λ z. some (e ∙ z)) in (p, grow p greatest l ∙ ap Some (sym e))

    small : (p level : ℕ) → level_of later p ≡ Some level → (p ≡ q) ⊎ (p ≡ q → ⊥) → level + open_count later ≤ length table
    small p level e (inl same) =
        let l : level ≡ below + more = some_same (sym e ∙ new_at p same) in
        let n = one_less_open levels q (below + more) in_levels unplaced in
        let b = below_small counting table levels from greatest q below row h high in
        let m = most_one more (counts_in counting q) is_more in omega arith
    small p level e (inr ne) =
        let l = h.small p level (sym (old_at p ne) ∙ e) in
        let n = one_less_open levels q (below + more) in_levels unplaced in omega arith

-- its level is not above the number of rows
pub below_fits : (counting : Counting) (table : Table) (levels from : List (Option ℕ)) (greatest q below : ℕ) (row : Option ℕ) → LevelsSoFar counting table levels from greatest
    → IsIn table q → level_of levels q ≡ None → IsHighest counting (feeders_of table q) levels from below row → below + 1 ≤ length table
below_fits counting table levels from greatest q below row h inside unplaced high =
    let within : q < length levels = (let l = some_within table q inside in let e = h.each_row in omega arith) in
    let n = one_less_open levels q 0 within unplaced in
    let b = below_small counting table levels from greatest q below row h high in
    omega arith
