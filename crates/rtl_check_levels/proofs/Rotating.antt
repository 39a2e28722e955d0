-- Loops, from where they are met and from their lowest process.
use Rattle.std.proofs.Common.{◌≡◌, ℕ, ◌+◌, ◌<◌, ◌≤◌, ◌⊎◌, inl, inr, ◌∷◌, ◌++◌, [], List, length, get_or, take, drop, set, Option, Some, None, sym, ap, subst, ◌∙◌, arith, Contains, append-nil}
use Rattle.std.specs.Prelude.{IfSome}
use Rattle.std.proofs.Math.ListN.{take-append-drop}
use Rattle.std.proofs.lemmas.List.{drop_more, get_or_push, get_or_append_left, get_or-set_same, get_or-set_other, length_push}
use Rattle.std.proofs.lemmas.Bool.{cases_eq}
use Rattle.std.proofs.lemmas.List.Elements.{Contains-push, Contains-push_cases, Contains-append_left}
use Rattle.rtl_check_levels.specs.Feeding.{Table}
use Rattle.rtl_check_levels.specs.Levels.{level_of}
use Rattle.rtl_check_levels.specs.Lowest.{LowestOpen}
use Rattle.rtl_check_levels.specs.Rounds.{AreFed, IsRound}

-- ---- the lowest

module _ (ps : List ℕ) (levels : List (Option ℕ)) (x : ℕ) where
  pub lowest_stays : (o : Option ℕ) → LowestOpen ps levels o → (level_of levels x ≡ None → ⊥) → LowestOpen (ps ++ x ∷ []) levels o
  lowest_stays None h has = λ p c. elim (Contains-push_cases ps x p c) [ inl d ↦ h p d | inr e ↦ subst (λ (y : ℕ). level_of levels y ≡ None → ⊥) e has ]
  lowest_stays (Some l) h has = record {
    among = Contains-append_left ps (x ∷ []) l h.among;
    unplaced = h.unplaced;
    lowest = λ r c u. elim (Contains-push_cases ps x r c) [ inl d ↦ h.lowest r d u | inr e ↦ absurd (has (subst (λ (y : ℕ). level_of levels y ≡ None) (sym e) u)) ];
  }

  pub lowest_keeps : (o : Option ℕ) → LowestOpen ps levels o → (IfSome o (λ l. x < l) → ⊥) → LowestOpen (ps ++ x ∷ []) levels o
  lowest_keeps None h low = absurd (low tt)
  lowest_keeps (Some l) h low = record {
    among = Contains-append_left ps (x ∷ []) l h.among;
    unplaced = h.unplaced;
    lowest = λ r c u. elim (Contains-push_cases ps x r c) [ inl d ↦ h.lowest r d u | inr e ↦ (let k : x < l → ⊥ = low in omega (arith, k)) ];
  }

  pub lowest_goes : (o : Option ℕ) → LowestOpen ps levels o → level_of levels x ≡ None → IfSome o (λ l. x < l) → LowestOpen (ps ++ x ∷ []) levels (Some x)
  lowest_goes o h is low = record {
    among = Contains-push ps x;
    unplaced = is;
    lowest = λ r c u. elim (Contains-push_cases ps x r c) [ inl d ↦ under o h low r d u | inr e ↦ omega arith ];
  }
    where
      under : (o : Option ℕ) → LowestOpen ps levels o → IfSome o (λ l. x < l) → (r : ℕ) → Contains ps r → level_of levels r ≡ None → x ≤ r
      under None h low r c u = absurd (h r c u)
      under (Some l) h low r c u = let k = h.lowest r c u in omega arith

-- ---- rounds

module _ (table : Table) where
  pub fed_split : (xs : List ℕ) (y : ℕ) (ys : List ℕ) (b : ℕ) → AreFed table (xs ++ y ∷ ys) b → AreFed table xs y × AreFed table (y ∷ ys) b
  fed_split [] y ys b h = (tt, h)
  fed_split (x ∷ []) y ys b h = h
  fed_split (x ∷ z ∷ xs) y ys b h = let (k, m) = fed_split (z ∷ xs) y ys b h.1 in ((h.0, k), m)

  pub fed_join : (xs : List ℕ) (y : ℕ) (ys : List ℕ) (b : ℕ) → AreFed table xs y → AreFed table (y ∷ ys) b → AreFed table (xs ++ y ∷ ys) b
  fed_join [] y ys b h k = k
  fed_join (x ∷ []) y ys b h k = (h, k)
  fed_join (x ∷ z ∷ xs) y ys b h k = (h.0, fed_join (z ∷ xs) y ys b h.1 k)

  -- the same round from another of its processes
  pub turned_round : (xs ys : List ℕ) → IsRound table (xs ++ ys) → IsRound table (ys ++ xs)
  turned_round [] ys h = rw append-nil h
  turned_round (x ∷ xs) [] h = subst (IsRound table) (append-nil (x ∷ xs)) h
  turned_round (x ∷ xs) (y ∷ ys) h = let (k, m) = fed_split (x ∷ xs) y ys x h in fed_join (y ∷ ys) x xs y m k

  -- a path that comes back to the process at this place
  pub round_back : (path : List ℕ) (first at : ℕ) → first < length path → get_or path first 0 ≡ at → AreFed table path at → IsRound table (drop first path)
  round_back path first at l e h =
      let d : drop first path ≡ at ∷ drop (first + 1) path = drop_more path first 0 l ∙ ap (λ y. y ∷ drop (first + 1) path) e in
      let s : AreFed table (take first path ++ at ∷ drop (first + 1) path) at
      = subst (λ (zs : List ℕ). AreFed table zs at) (sym (take-append-drop first path) ∙ ap (λ zs. take first path ++ zs) d) h in
      subst (IsRound table) (sym d) (fed_split (take first path) at (drop (first + 1) path) at s).1

  pub turned_at : (k : ℕ) (xs : List ℕ) → IsRound table xs → IsRound table (drop k xs ++ take k xs)
  turned_at k xs h = turned_round (take k xs) (drop k xs) (subst (IsRound table) (sym (take-append-drop k xs)) h)

-- ---- places on a path

pub some_same : {a b : ℕ} → Some a ≡ Some b → a ≡ b
some_same e = cc

-- the places of processes on a path, and one process more
pub known_more : (places : List (Option ℕ)) (path : List ℕ) (at x : ℕ) → at < length places → x ≡ length path
    → ((r i : ℕ) → get_or places r None ≡ Some i → (i < length path) × (get_or path i 0 ≡ r))
    → (r i : ℕ) → get_or (set places at (Some x)) r None ≡ Some i → (i < length (path ++ at ∷ [])) × (get_or (path ++ at ∷ []) i 0 ≡ r)
known_more places path at x l n known r i e = go (cases_eq r at)
  where
    go : (r ≡ at) ⊎ (r ≡ at → ⊥) → (i < length (path ++ at ∷ [])) × (get_or (path ++ at ∷ []) i 0 ≡ r)
    go (inl same) =
        let f : get_or (set places at (Some x)) at None ≡ Some i = subst (λ (s : ℕ). get_or (set places at (Some x)) s None ≡ Some i) same e in
        let g : x ≡ i = some_same (sym (get_or-set_same places at (Some x) None l) ∙ f) in
        let m = length_push path at in
        (omega arith, get_or_push path at 0 i (sym n ∙ g) ∙ sym same)
    go (inr ne) =
        let f : get_or places r None ≡ Some i = sym (get_or-set_other places at r (Some x) None ne) ∙ e in
        let (k, is) = known r i f in
        let m = length_push path at in
        (omega arith, get_or_append_left path (at ∷ []) 0 i k ∙ is)
