-- What targets look at behind parts of an if or a case: of one table, by numbers.
use Rattle.std.proofs.Common.{◌≡◌, ℕ, ◌+◌, ◌<◌, ◌≤◌, nat_lt, ◌==◌, if◌then◌else◌, Bool, true, false, ◌||◌, ◌&&◌, List, [], ◌∷◌, ◌++◌, flat_map, map, Option, refl, sym, ap, ◌∙◌, subst, ◌⊎◌, inl, inr, arith}
use Rattle.std.proofs.lemmas.Bool.{cases_eq, cases_lt, eq-eqb, ne_eqb, lt-ltb, le-ltb}
use Rattle.std.specs.BTreeMap.{BTreeMap}
use Rattle.rtl_model.specs.bodies.Looks.{Sight, net_now, now_of}
use Rattle.rtl_body_facts.specs.Reading.{is_in}
use Rattle.rtl_body_facts.proofs.Anys.{or_none}
use Rattle.rtl_looks.specs.declared.hubs.Look.{Look}
use Rattle.rtl_looks.specs.declared.hubs.Hub.{Hub}
use Rattle.rtl_looks.specs.declared.ends.End.{End}
use Rattle.rtl_looks.specs.declared.table.Change.{Change}
use Rattle.rtl_looks.specs.Denoting.{nets_of, AreInOrder, IsThere, Grows, Denotes, looks_at, sees, look_at}
use Rattle.rtl_looks.specs.Evaluating.{Joins}
use Rattle.rtl_looks.specs.Targets.{was_at}
use Rattle.rtl_looks.specs.Parts.{end_at, skips, Covers, Overs, Takes, TakesEnd}
use Rattle.rtl_looks.proofs.Joining.{there_later, later, alike, grows_none, grows_then, sees_append}
use Rattle.rtl_looks.proofs.Noted.{was_taken}

-- ---- ends

pub covers_later : {old new : List Hub} {end : End} {parts : ℕ} {so_far all : List Sight} → Grows old new → AreInOrder new → Covers old end parts so_far all → Covers new end parts so_far all
covers_later {end = end} {parts = parts} {so_far = so_far} g order c = record {
  order = order;
  there = there_later g end.look c.there;
  within = c.within;
  nets = λ n. ap (λ (ns : List ℕ). is_in n ns || (skips end parts && sees n so_far)) (g.kept end.look c.there) ∙ c.nets n;
}

-- sights that have these nets
shown : List ℕ → List Sight
shown nets = map net_now nets

shown_nets : (nets : List ℕ) → flat_map now_of (map net_now nets) ≡ nets
shown_nets [] = refl
shown_nets (n ∷ ns) = ap (λ (l : List ℕ). n ∷ l) (shown_nets ns)

itself : {hubs : List Hub} (look : Option Look) → AreInOrder hubs → IsThere hubs look → Denotes hubs look (map net_now (nets_of hubs look))
itself {hubs} look order there = record { order = order; there = there; nets = λ n. ap (is_in n) (sym (shown_nets (nets_of hubs look))) }

pub over_more : {old new : List Hub} {end : End} {parts : ℕ} {before look : Option Look} → skips end parts ≡ true → Joins old new end.look before look → Overs old new end parts before look
over_more {old} {new} {end} {parts} {before} {look} is j = record {
  grows = j.grows;
  denotes = λ so_far all c d.
      let own = map net_now (nets_of old end.look) in
      let mine : Denotes old end.look own = itself end.look c.order c.there in
      alike all (λ n. sees_append n own so_far ∙ (ap (λ (b : Bool). b || sees n so_far) (sym (mine.nets n))
      ∙ (ap (λ (b : Bool). looks_at old n end.look || (b && sees n so_far)) (sym is) ∙ c.nets n)))
      (j.denotes own so_far mine d);
}

pub over_none : (old : List Hub) {end : End} {parts : ℕ} (before : Option Look) → skips end parts ≡ false → Overs old old end parts before end.look
over_none old {end} {parts} before is = record {
  grows = grows_none old;
  denotes = λ so_far all c d. record {
    order = c.order;
    there = c.there;
    nets = λ n. or_none (looks_at old n end.look) ∙ (ap (λ (b : Bool). looks_at old n end.look || (b && sees n so_far)) (sym is) ∙ c.nets n);
  };
}

-- one part more, behind which it looks at this
pub covers_more : {old new : List Hub} {end : End} {parts : ℕ} {so_far all behind : List Sight} {now look : Option Look} → Covers old end parts so_far all
    → Joins old new end.look now look → Denotes old now behind
    → Covers new (record { look = look; parts = parts + 1; skipped = skips end parts }) (parts + 1) so_far (all ++ behind)
covers_more {old} {new} {end} {parts} {so_far} {all} {behind} {now} {look} c j e = record {
  order = d.order;
  there = d.there;
  within = omega arith;
  nets = λ n.
      ap (λ (b : Bool). looks_at new n look || ((skips end parts || b) && sees n so_far)) (le-ltb (parts + 1) (parts + 1) (omega arith))
      ∙ (ap (λ (b : Bool). b || ((skips end parts || false) && sees n so_far)) (d.nets n ∙ (sees_append n own behind ∙ ap (λ (b : Bool). b || sees n behind) (sym (mine.nets n))))
      ∙ (go (looks_at old n end.look) (skips end parts) (sees n so_far) (sees n behind)
      ∙ (ap (λ (b : Bool). b || sees n behind) (c.nets n) ∙ sym (sees_append n all behind))));
}
  where
    own : List Sight
    own = map net_now (nets_of old end.look)

    mine : Denotes old end.look own
    mine = itself end.look c.order c.there

    d : Denotes new look (own ++ behind)
    d = j.denotes own behind mine e

    go : (x p s b : Bool) → ((x || b) || ((p || false) && s)) ≡ ((x || (p && s)) || b)
    go true p s b = refl
    go false false s true = refl
    go false false s false = refl
    go false true true true = refl
    go false true true false = refl
    go false true false true = refl
    go false true false false = refl

-- one part more, which leaves it alone
pub covers_skip : {hubs : List Hub} {end : End} {parts : ℕ} {so_far all behind : List Sight} (look : Option Look) → Covers hubs end parts so_far all
    → Denotes hubs look so_far → Denotes hubs look behind → Covers hubs end (parts + 1) so_far (all ++ behind)
covers_skip {hubs} {end} {parts} {so_far} {all} {behind} look c d e = record {
  order = c.order;
  there = c.there;
  within = let l = c.within in omega arith;
  nets = λ n. ap (λ (b : Bool). looks_at hubs n end.look || ((end.skipped || b) && sees n so_far)) (lt-ltb end.parts (parts + 1) (let l = c.within in omega arith))
      ∙ (go (looks_at hubs n end.look) end.skipped (nat_lt end.parts parts) (sees n so_far)
      ∙ (ap (λ (b : Bool). b || sees n so_far) (c.nets n) ∙ (ap (λ (b : Bool). sees n all || b) (sym (d.nets n) ∙ e.nets n) ∙ sym (sees_append n all behind))));
}
  where
    go : (x k p s : Bool) → (x || ((k || true) && s)) ≡ ((x || ((k || p) && s)) || s)
    go true k p s = refl
    go false true p true = refl
    go false true p false = refl
    go false false true true = refl
    go false false true false = refl
    go false false false s = refl

-- ---- a part that is taken, change by change

module _ (old : List Hub) (parts : ℕ) (looks0 : List (Option Look)) (changes0 : List Change) (ends0 : BTreeMap ℕ End) where
  -- what is known of the targets' sights before
  pub record Given (so_far all behind : ℕ → List Sight) : Type 0 where
    pub covers : (k : ℕ) → Covers old (end_at ends0 k) parts (so_far k) (all k)
    pub was : (k : ℕ) → Denotes old (was_at changes0 looks0 k) (so_far k)
    pub now : (k : ℕ) → Denotes old (look_at looks0 k) (behind k)

  pub record TakesSome (new : List Hub) (looks : List (Option Look)) (changes : List Change) (ends : BTreeMap ℕ End) : Type 0 where
    pub grows : Grows old new
    pub restored : (k : ℕ) → was_at changes looks k ≡ was_at changes0 looks0 k
    pub pending : (k : ℕ) → (end_at ends k).parts ≤ parts → (look_at looks k ≡ look_at looks0 k) × (end_at ends k ≡ end_at ends0 k)
    pub order : (so_far all behind : ℕ → List Sight) → Given so_far all behind → AreInOrder new
    pub taken : (so_far all behind : ℕ → List Sight) → Given so_far all behind → (k : ℕ) → parts < (end_at ends k).parts
        → Covers new (end_at ends k) (parts + 1) (so_far k) (all k ++ behind k)

  pub takes_none : TakesSome old looks0 changes0 ends0
  takes_none = record {
    grows = grows_none old;
    restored = λ k. refl;
    pending = λ k p. (refl, refl);
    order = λ so_far all behind g. (g.covers 0).order;
    taken = λ so_far all behind g k past. absurd (let l = (g.covers k).within in omega arith);
  }

  module _ (mid new : List Hub) (looks looks' : List (Option Look)) (changes changes' : List Change) (ends ends' : BTreeMap ℕ End) (change : Change)
      (h : TakesSome mid looks changes ends) (last : changes ≡ changes' ++ change ∷ [])
      (set : (k : ℕ) → look_at looks' k ≡ (if change.number == k then change.before else look_at looks k)) where
    restored : (k : ℕ) → was_at changes' looks' k ≡ was_at changes0 looks0 k
    restored k = was_taken changes' change looks looks' set k ∙ (ap (λ (cs : List Change). was_at cs looks k) (sym last) ∙ h.restored k)

    there : (k : ℕ) → (change.number ≡ k → ⊥) → look_at looks' k ≡ look_at looks k
    there k ne = set k ∙ ap (λ (b : Bool). if b then change.before else look_at looks k) (ne_eqb change.number k ne)

    -- it was taken by a later change
    takes_again : parts < (end_at ends change.number).parts → new ≡ mid → ends' ≡ ends → TakesSome new looks' changes' ends'
    takes_again past same_hubs same_ends = rw (same_hubs, same_ends) (record {
      grows = h.grows;
      restored = restored;
      pending = λ k p. let q = h.pending k p in (there k (λ e. apart k e p) ∙ q.0, q.1);
      order = h.order;
      taken = h.taken;
    })
      where
        apart : (k : ℕ) → change.number ≡ k → (end_at ends k).parts ≤ parts → ⊥
        apart k e p = let q : (end_at ends change.number).parts ≤ parts = subst (λ (i : ℕ). (end_at ends i).parts ≤ parts) (sym e) p in absurd (omega (arith, q, past))

    takes_first : (joined : Option Look) → (end_at ends change.number).parts ≤ parts
        → Joins mid new (end_at ends change.number).look (look_at looks change.number) joined
        → ((k : ℕ) → end_at ends' k ≡ (if change.number == k then record { look = joined; parts = parts + 1; skipped = skips (end_at ends change.number) parts } else end_at ends k))
        → TakesSome new looks' changes' ends'
    takes_first joined open_yet j put = record {
      grows = grows_then h.grows j.grows;
      restored = restored;
      pending = λ k p. pending k p (cases_eq change.number k);
      order = λ so_far all behind g. (covered so_far all behind g).order;
      taken = λ so_far all behind g k past. taken so_far all behind g k past (cases_eq change.number k);
    }
      where
        end_here : (k : ℕ) → change.number ≡ k → end_at ends' k ≡ record { look = joined; parts = parts + 1; skipped = skips (end_at ends change.number) parts }
        end_here k e = put k ∙ ap (λ (b : Bool). if b then record { look = joined; parts = parts + 1; skipped = skips (end_at ends change.number) parts } else end_at ends k) (eq-eqb change.number k e)

        end_there : (k : ℕ) → (change.number ≡ k → ⊥) → end_at ends' k ≡ end_at ends k
        end_there k ne = put k ∙ ap (λ (b : Bool). if b then record { look = joined; parts = parts + 1; skipped = skips (end_at ends change.number) parts } else end_at ends k) (ne_eqb change.number k ne)

        pending : (k : ℕ) → (end_at ends' k).parts ≤ parts → (change.number ≡ k) ⊎ (change.number ≡ k → ⊥) → (look_at looks' k ≡ look_at looks0 k) × (end_at ends' k ≡ end_at ends0 k)
        pending k p (inl e) = let q : (end_at ends' k).parts ≡ parts + 1 = ap (λ (end : End). end.parts) (end_here k e) in absurd (omega (arith, p, q))
        pending k p (inr ne) =
            let q = h.pending k (subst (λ (end : End). end.parts ≤ parts) (end_there k ne) p) in
            (there k ne ∙ q.0, end_there k ne ∙ q.1)

        covered : (so_far all behind : ℕ → List Sight) → Given so_far all behind
            → Covers new (record { look = joined; parts = parts + 1; skipped = skips (end_at ends change.number) parts }) (parts + 1) (so_far change.number) (all change.number ++ behind change.number)
        covered so_far all behind g =
            let order = h.order so_far all behind g in
            let waits = h.pending change.number open_yet in
            let c : Covers mid (end_at ends change.number) parts (so_far change.number) (all change.number) =
            subst (λ (e : End). Covers mid e parts (so_far change.number) (all change.number)) (sym waits.1) (covers_later h.grows order (g.covers change.number)) in
            let e : Denotes mid (look_at looks change.number) (behind change.number) =
            subst (λ (w : Option Look). Denotes mid w (behind change.number)) (sym waits.0) (later h.grows order (g.now change.number)) in
            covers_more c j e

        taken : (so_far all behind : ℕ → List Sight) → Given so_far all behind → (k : ℕ) → parts < (end_at ends' k).parts → (change.number ≡ k) ⊎ (change.number ≡ k → ⊥)
            → Covers new (end_at ends' k) (parts + 1) (so_far k) (all k ++ behind k)
        taken so_far all behind g k past (inl e) =
            subst (λ (end : End). Covers new end (parts + 1) (so_far k) (all k ++ behind k)) (sym (end_here k e))
            (subst (λ (i : ℕ). Covers new (record { look = joined; parts = parts + 1; skipped = skips (end_at ends change.number) parts }) (parts + 1) (so_far i) (all i ++ behind i)) e (covered so_far all behind g))
        taken so_far all behind g k past (inr ne) =
            let d = h.taken so_far all behind g k (subst (λ (end : End). parts < end.parts) (end_there k ne) past) in
            subst (λ (end : End). Covers new end (parts + 1) (so_far k) (all k ++ behind k)) (sym (end_there k ne))
            (covers_later j.grows (covered so_far all behind g).order d)

    pub takes_more : TakesEnd mid new change.number parts (look_at looks change.number) ends ends' → TakesSome new looks' changes' ends'
    takes_more (inl (past, same_hubs, same_ends)) = takes_again past same_hubs same_ends
    takes_more (inr (open_yet, (joined, j, put))) = takes_first joined open_yet j put

  pub takes_all : {new : List Hub} {looks : List (Option Look)} {changes : List Change} {ends : BTreeMap ℕ End} → changes ≡ [] → TakesSome new looks changes ends
      → Takes old new parts looks0 looks changes0 ends0 ends
  takes_all {new} {looks} {changes} {ends} empty h = record {
    grows = h.grows;
    restored = restored;
    covers = λ so_far all behind c w d k. by so_far all behind (record { covers = c; was = w; now = d }) k (cases_lt parts (end_at ends k).parts);
  }
    where
      restored : (k : ℕ) → look_at looks k ≡ was_at changes0 looks0 k
      restored k = ap (λ (cs : List Change). was_at cs looks k) (sym empty) ∙ h.restored k

      by : (so_far all behind : ℕ → List Sight) → Given so_far all behind → (k : ℕ) → (parts < (end_at ends k).parts) ⊎ ((end_at ends k).parts ≤ parts)
          → Covers new (end_at ends k) (parts + 1) (so_far k) (all k ++ behind k)
      by so_far all behind g k (inl past) = h.taken so_far all behind g k past
      by so_far all behind g k (inr open_yet) =
          let order = h.order so_far all behind g in
          let waits = h.pending k open_yet in
          let c : Covers new (end_at ends k) parts (so_far k) (all k) =
          subst (λ (e : End). Covers new e parts (so_far k) (all k)) (sym waits.1) (covers_later h.grows order (g.covers k)) in
          let d : Denotes new (look_at looks k) (so_far k) = subst (λ (w : Option Look). Denotes new w (so_far k)) (sym (restored k)) (later h.grows order (g.was k)) in
          let e : Denotes new (look_at looks k) (behind k) = subst (λ (w : Option Look). Denotes new w (behind k)) (sym waits.0) (later h.grows order (g.now k)) in
          covers_skip (look_at looks k) c d e
