-- The highest of some rows, one row more at a time.
use Rattle.std.proofs.Common.{◌≡◌, ◌≢◌, ℕ, zero, suc, ◌<◌, ◌≤◌, ◌⊎◌, inl, inr, List, [], ◌∷◌, ◌++◌, Option, Some, None, refl, sym, subst, ◌∙◌, arith, Contains}
use Rattle.std.specs.Prelude.{IfSome, MatchOption}
use Rattle.std.proofs.lemmas.Bool.{cases_eq, cases_lt}
use Rattle.std.proofs.lemmas.List.Elements.{Contains-push, Contains-push_cases, Contains-append_left}
use Rattle.rtl_check_levels.specs.declared.counting.Counting.{Counting}
use Rattle.rtl_check_levels.specs.declared.highest.Highest.{Highest}
use Rattle.rtl_check_levels.specs.Levels.{level_of, seen_of, IsHighest, IsSeen, GivesWay, Higher}
use Rattle.rtl_check_levels.proofs.Growing.{none_lacks}

-- nothing that is seen is lower
abbrev NoLower : (at seen : Option ℕ) → Type 0
NoLower at seen = IfSome at (λ f. IfSome seen (λ s. f ≤ s))

decided : (highest : ℕ) (at : Option ℕ) (row level : ℕ) → GivesWay highest at row level ⊎ (GivesWay highest at row level → ⊥)
decided highest at row level = go (cases_lt highest level) (cases_eq level highest) at
  where
    no_lower : (f : ℕ) → f ≤ row → level ≤ highest → GivesWay highest (Some f) row level → ⊥
    no_lower f l m (inl up) = omega arith
    no_lower f l m (inr (same, low)) = omega arith

    other_level : (at : Option ℕ) → level ≤ highest → (level ≡ highest → ⊥) → GivesWay highest at row level → ⊥
    other_level at m ne (inl up) = omega arith
    other_level at m ne (inr (same, low)) = ne same

    no_row : level ≤ highest → GivesWay highest None row level → ⊥
    no_row m (inl up) = omega arith
    no_row m (inr (same, low)) = low

    by_row : (f : ℕ) → level ≤ highest → level ≡ highest → (row < f) ⊎ (f ≤ row) → GivesWay highest (Some f) row level ⊎ (GivesWay highest (Some f) row level → ⊥)
    by_row f m e (inl l) = inl (inr (e, l))
    by_row f m e (inr l) = inr (no_lower f l m)

    go : (highest < level) ⊎ (level ≤ highest) → (level ≡ highest) ⊎ (level ≡ highest → ⊥) → (at : Option ℕ)
        → GivesWay highest at row level ⊎ (GivesWay highest at row level → ⊥)
    go (inl l) e at = inl (inl l)
    go (inr l) (inr ne) at = inr (other_level at l ne)
    go (inr l) (inl e) None = inr (no_row l)
    go (inr l) (inl e) (Some f) = by_row f l e (cases_lt row f)

not_lower : (highest : ℕ) (at : Option ℕ) (row level : ℕ) (seen : Option ℕ) → seen ≡ Some row → (GivesWay highest at row level → ⊥) → level ≡ highest → NoLower at seen
not_lower highest None row level seen is not_so e = tt
not_lower highest (Some f) row level seen is not_so e =
    subst (λ (o : Option ℕ). IfSome o (λ s. f ≤ s)) (sym is) (let k : row < f → ⊥ = λ l. not_so (inr (e, l)) in omega (arith, k))

unseen : (at seen : Option ℕ) → seen ≡ None → NoLower at seen
unseen None seen e = tt
unseen (Some f) seen e = subst (λ (o : Option ℕ). IfSome o (λ s. f ≤ s)) (sym e) tt

further : (row f : ℕ) (seen : Option ℕ) → row < f → IfSome seen (λ s. f ≤ s) → IfSome seen (λ s. row ≤ s)
further row f None l k = tt
further row f (Some s) l k = omega arith

module _ (counting : Counting) (ps : List ℕ) (levels from : List (Option ℕ)) where
  -- what is known of each row
  abbrev Below : (level : ℕ) → Option ℕ → ℕ → Type 0
  Below level at p = (b : ℕ) × (level_of levels p ≡ Some b) × (b ≤ level) × (b ≡ level → NoLower at (seen_of counting from p))

  stays : (highest : ℕ) (at : Option ℕ) (x level : ℕ) → IsHighest counting ps levels from highest at → level_of levels x ≡ Some level
      → level ≤ highest → (level ≡ highest → NoLower at (seen_of counting from x)) → IsHighest counting (ps ++ x ∷ []) levels from highest at
  stays highest at x level h e most low = record {
    each = λ p c. old_or_new p (Contains-push_cases ps x p c);
    met = met at h.met;
  }
    where
      old_or_new : (p : ℕ) → Contains ps p ⊎ (x ≡ p) → Below highest at p
      old_or_new p (inl c) = h.each p c
      old_or_new p (inr same) = subst (Below highest at) same (level, e, most, low)

      met : (o : Option ℕ) → MatchOption o (highest ≡ 0) (λ f. (highest ≢ 0) × ((p : ℕ) × Contains ps p × (level_of levels p ≡ Some highest) × (seen_of counting from p ≡ Some f)))
          → MatchOption o (highest ≡ 0) (λ f. (highest ≢ 0) × ((p : ℕ) × Contains (ps ++ x ∷ []) p × (level_of levels p ≡ Some highest) × (seen_of counting from p ≡ Some f)))
      met None z = z
      met (Some f) (some, (p, c, l, s)) = (some, (p, Contains-append_left ps (x ∷ []) p c, l, s))

  goes : (highest : ℕ) (at : Option ℕ) (x level row : ℕ) → IsHighest counting ps levels from highest at → level_of levels x ≡ Some level
      → seen_of counting from x ≡ Some row → GivesWay highest at row level → IsHighest counting (ps ++ x ∷ []) levels from level (Some row)
  goes highest at x level row h e seen way = record {
    each = λ p c. old_or_new p (Contains-push_cases ps x p c);
    met = (some at h.met way, (x, Contains-push ps x, e, seen));
  }
    where
      some : (o : Option ℕ) → MatchOption o (highest ≡ 0) (λ f. (highest ≢ 0) × ((p : ℕ) × Contains ps p × (level_of levels p ≡ Some highest) × (seen_of counting from p ≡ Some f)))
          → GivesWay highest o row level → level ≢ 0
      some o m (inl up) z = omega arith
      some None m (inr (same, not_so)) z = not_so
      some (Some f) m (inr (same, low)) z = m.0 (sym same ∙ z)

      lowest : (p b : ℕ) → b ≤ highest → (o : Option ℕ) → (b ≡ highest → NoLower o (seen_of counting from p)) → GivesWay highest o row level
          → (b ≤ level) × (b ≡ level → IfSome (seen_of counting from p) (λ s. row ≤ s))
      lowest p b l o k (inl up) = (omega arith, λ e. absurd (omega arith))
      lowest p b l None k (inr (same, not_so)) = absurd not_so
      lowest p b l (Some f) k (inr (same, low)) = (omega arith, λ e. further row f (seen_of counting from p) low (k (omega arith)))

      old_or_new : (p : ℕ) → Contains ps p ⊎ (x ≡ p) → Below level (Some row) p
      old_or_new p (inl c) = let (b, is, l, k) = h.each p c in let (m, n) = lowest p b l at k way in (b, is, m, n)
      old_or_new p (inr same) =
          subst (Below level (Some row)) same (level, e, omega arith, λ _. subst (λ (o : Option ℕ). IfSome o (λ s. row ≤ s)) (sym seen) (omega arith))

  -- the higher of the highest so far and one row more
  pub highest_more : (old new : Highest) (x level : ℕ) (seen : Option ℕ) → IsHighest counting ps levels from old.level old.row → level_of levels x ≡ Some level
      → IsSeen counting from x level → seen ≡ seen_of counting from x → Higher old seen level new → IsHighest counting (ps ++ x ∷ []) levels from new.level new.row
  highest_more old new x zero None h e can is same =
      subst (λ (n : Highest). IsHighest counting (ps ++ x ∷ []) levels from n.level n.row) (sym same)
      (stays old.level old.row x 0 h e (omega arith) (λ _. unseen old.row (seen_of counting from x) (sym is)))
  highest_more old new x (suc level) None h e can is same = absurd (none_lacks (seen_of counting from x) (sym is) (can (λ z. omega arith)))
  highest_more old new x level (Some row) h e can is (way, stay) = by (decided old.level old.row row level)
    where
      by : GivesWay old.level old.row row level ⊎ (GivesWay old.level old.row row level → ⊥) → IsHighest counting (ps ++ x ∷ []) levels from new.level new.row
      by (inl w) = subst (λ (n : Highest). IsHighest counting (ps ++ x ∷ []) levels from n.level n.row) (sym (way w)) (goes old.level old.row x level row h e (sym is) w)
      by (inr w) =
          let most : level ≤ old.level = (let k : old.level < level → ⊥ = λ l. w (inl l) in omega (arith, k)) in
          subst (λ (n : Highest). IsHighest counting (ps ++ x ∷ []) levels from n.level n.row) (sym (stay w))
          (stays old.level old.row x level h e most (not_lower old.level old.row row level (seen_of counting from x) (sym is) w))

pub nothing_is_highest : (counting : Counting) (levels from : List (Option ℕ)) → IsHighest counting [] levels from 0 None
nothing_is_highest counting levels from = record { each = λ p c. absurd (let l : c.0 < 0 = c.1 in omega arith); met = refl }
