-- Parts of an if or a case, all of them taken: what numbers look at behind them, number by number.
use Rattle.std.proofs.Common.{◌≡◌, ℕ, ◌<◌, Bool, false, ◌||◌, ◌&&◌, List, [], Option, Some, None, unwrap_or, IsSome, refl, sym, ap, ◌∙◌, subst, ◌⊎◌, inl, inr, true, ◌==◌, if◌then◌else◌}
use Rattle.std.proofs.lemmas.Bool.{cases_eq, eq-eqb, ne_eqb, lt-ltb}
use Rattle.std.specs.Ordering.{nat_cmp}
use Rattle.std.specs.BTreeMap.{BTreeMap, get}
use Rattle.rtl_model.specs.bodies.Looks.{Sight}
use Rattle.rtl_looks.specs.declared.hubs.Look.{Look}
use Rattle.rtl_looks.specs.declared.hubs.Hub.{Hub}
use Rattle.rtl_looks.specs.declared.ends.End.{End}
use Rattle.rtl_looks.specs.declared.table.Change.{Change}
use Rattle.rtl_looks.specs.Denoting.{AreInOrder, Grows, Denotes, sees, look_at}
use Rattle.rtl_looks.specs.Targets.{was_at}
use Rattle.rtl_looks.specs.Parts.{no_end, end_at, Covers, Overs, Finishes}
use Rattle.rtl_looks.proofs.Joining.{later, alike, grows_none, grows_then}
use Rattle.rtl_looks.proofs.Maps.{Moves, get_empty}
use Rattle.rtl_looks.proofs.Parting.{covers_later}

module _ (old : List Hub) (parts : ℕ) (looks0 : List (Option Look)) (changes0 : List Change) (ends0 : BTreeMap ℕ End) where
  pub record Known (so_far all : ℕ → List Sight) : Type 0 where
    pub some : 0 < parts
    pub covers : (k : ℕ) → Covers old (end_at ends0 k) parts (so_far k) (all k)
    pub now : (k : ℕ) → Denotes old (look_at looks0 k) (so_far k)

  pub record FinishesSome (new : List Hub) (looks : List (Option Look)) (changes : List Change) (ends : BTreeMap ℕ End) : Type 0 where
    pub grows : Grows old new
    pub restored : (k : ℕ) → was_at changes looks k ≡ was_at changes0 looks0 k
    pub pending : (k : ℕ) → IsSome (get nat_cmp ends k) → (look_at looks k ≡ look_at looks0 k) × (get nat_cmp ends k ≡ get nat_cmp ends0 k)
    pub order : (so_far all : ℕ → List Sight) → Known so_far all → AreInOrder new
    pub finished : (so_far all : ℕ → List Sight) → Known so_far all → (k : ℕ) → get nat_cmp ends k ≡ None → Denotes new (look_at looks k) (all k)

  pub finishes_none : FinishesSome old looks0 changes0 ends0
  finishes_none = record {
    grows = grows_none old;
    restored = λ k. refl;
    pending = λ k p. (refl, refl);
    order = λ so_far all g. (g.covers 0).order;
    finished = λ so_far all g k none.
        let c : Covers old no_end parts (so_far k) (all k) = subst (λ (w : Option End). Covers old (unwrap_or w no_end) parts (so_far k) (all k)) none (g.covers k) in
        alike (all k) (λ n. ap (λ (b : Bool). false || (b && sees n (so_far k))) (sym (lt-ltb 0 parts g.some)) ∙ c.nets n) (g.now k);
  }

  module _ (mid new : List Hub) (looks looks' : List (Option Look)) (changes changes' : List Change) (ends ends' : BTreeMap ℕ End)
      (x : ℕ) (end : End) (look : Option Look) where
    pub finishes_more : FinishesSome mid looks changes ends → get nat_cmp ends x ≡ Some end → Moves ends ends' x None
        → Overs mid new end parts (look_at looks x) look
        → ((k : ℕ) → look_at looks' k ≡ (if x == k then look else look_at looks k))
        → ((k : ℕ) → was_at changes' looks' k ≡ was_at changes looks k)
        → FinishesSome new looks' changes' ends'
    finishes_more h value gone o set kept = record {
      grows = grows_then h.grows o.grows;
      restored = λ k. kept k ∙ h.restored k;
      pending = λ k p. pending k p (cases_eq x k);
      order = λ so_far all g. (made so_far all g).order;
      finished = λ so_far all g k none. finished so_far all g k none (cases_eq x k);
    }
      where
        others : (k : ℕ) → (x ≡ k → ⊥) → look_at looks' k ≡ look_at looks k
        others k ne = set k ∙ ap (λ (b : Bool). if b then look else look_at looks k) (ne_eqb x k ne)

        here : look_at looks' x ≡ look
        here = set x ∙ ap (λ (b : Bool). if b then look else look_at looks x) (eq-eqb x x refl)

        pending : (k : ℕ) → IsSome (get nat_cmp ends' k) → (x ≡ k) ⊎ (x ≡ k → ⊥) → (look_at looks' k ≡ look_at looks0 k) × (get nat_cmp ends' k ≡ get nat_cmp ends0 k)
        pending k p (inl is) = let bad : false ≡ true = subst (λ (w : Option End). IsSome w) (subst (λ (i : ℕ). get nat_cmp ends' i ≡ None) is gone.here) p in absurd cc
        pending k p (inr ne) =
            let q = h.pending k (subst (λ (w : Option End). IsSome w) (gone.others k ne) p) in
            (others k ne ∙ q.0, gone.others k ne ∙ q.1)

        waits : (look_at looks x ≡ look_at looks0 x) × (get nat_cmp ends x ≡ get nat_cmp ends0 x)
        waits = h.pending x (subst (λ (w : Option End). IsSome w) (sym value) refl)

        made : (so_far all : ℕ → List Sight) → Known so_far all → Denotes new look (all x)
        made so_far all g =
            let order = h.order so_far all g in
            let is : end_at ends0 x ≡ end = ap (λ (w : Option End). unwrap_or w no_end) (sym waits.1 ∙ value) in
            let c : Covers mid end parts (so_far x) (all x) =
            subst (λ (e : End). Covers mid e parts (so_far x) (all x)) is (covers_later h.grows order (g.covers x)) in
            let d : Denotes mid (look_at looks x) (so_far x) = subst (λ (w : Option Look). Denotes mid w (so_far x)) (sym waits.0) (later h.grows order (g.now x)) in
            o.denotes (so_far x) (all x) c d

        finished : (so_far all : ℕ → List Sight) → Known so_far all → (k : ℕ) → get nat_cmp ends' k ≡ None → (x ≡ k) ⊎ (x ≡ k → ⊥) → Denotes new (look_at looks' k) (all k)
        finished so_far all g k none (inl is) =
            subst (λ (i : ℕ). Denotes new (look_at looks' i) (all i)) is (subst (λ (w : Option Look). Denotes new w (all x)) (sym here) (made so_far all g))
        finished so_far all g k none (inr ne) =
            subst (λ (w : Option Look). Denotes new w (all k)) (sym (others k ne)) (later o.grows (made so_far all g).order (h.finished so_far all g k (sym (gone.others k ne) ∙ none)))

  pub finishes_all : {new : List Hub} {looks : List (Option Look)} {changes : List Change} {ends : BTreeMap ℕ End} → ends.entries ≡ [] → FinishesSome new looks changes ends
      → Finishes old new parts looks0 looks changes0 changes ends0
  finishes_all {new} {looks} {changes} {ends} empty h = record {
    grows = h.grows;
    restored = h.restored;
    denotes = λ so_far all some c d k. h.finished so_far all (record { some = some; covers = c; now = d }) k (get_empty ends empty k);
  }
