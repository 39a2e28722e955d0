-- A walk along steps, and what its marks say.
use Rattle.std.proofs.Common.{◌≡◌, ◌≢◌, ◌↔◌, ℕ, ◌<◌, ◌≤◌, Bool, true, false, List, [], ◌∷◌, ◌++◌, length, get_or, set, Option, Some, None, IsTrue, refl, sym, ap, subst, ◌∙◌, arith, ◌⊎◌, inl, inr, Contains}
use Rattle.std.specs.List.{sum_by}
use Rattle.std.proofs.lemmas.Bool.{cases_eq, cases_lt}
use Rattle.std.proofs.lemmas.List.{get_or-set_same, get_or-set_other, get_or_past, get_or_default}
use Rattle.std.proofs.lemmas.List.Sums.{sum_by-set}
use Rattle.std.proofs.Math.ListN.{length-set}
use Rattle.rtl_calm_nets.specs.declared.search.Step.{Step}
use Rattle.rtl_calm_nets.specs.declared.search.Step.TheVariants as s
use Rattle.rtl_calm_nets.specs.Reaching.{step_at, Comes, ends, leads, mark_at, AreRight, IsWalk, AreSettled}
use Rattle.rtl_calm_nets.proofs.Lists.{push_has, push_last, in_push}

abbrev pub Marks : Type 0
Marks = List (Option Bool)

-- ---- how many places aren't marked

abbrev unmarked_one : Option Bool → ℕ
unmarked_one None = 1
unmarked_one (Some mark) = 0

abbrev pub unmarked : Marks → ℕ
unmarked marks = sum_by unmarked_one marks

pub fewer : (marks : Marks) (at : ℕ) (mark : Bool) → at < length marks → mark_at marks at ≡ None → unmarked (set marks at (Some mark)) < unmarked marks
fewer marks at mark l e =
    let a = sum_by-set unmarked_one marks at (Some mark) None l in
    let b = ap unmarked_one e in
    omega arith

-- ---- marks that are written

pub written : (marks : Marks) (at k : ℕ) (mark : Bool) → at < length marks
    → ((k ≡ at) × (mark_at (set marks at (Some mark)) k ≡ Some mark)) ⊎ ((k ≢ at) × (mark_at (set marks at (Some mark)) k ≡ mark_at marks k))
written marks at k mark l = go (cases_eq k at)
  where
    go : (k ≡ at) ⊎ (k ≢ at) → ((k ≡ at) × (mark_at (set marks at (Some mark)) k ≡ Some mark)) ⊎ ((k ≢ at) × (mark_at (set marks at (Some mark)) k ≡ mark_at marks k))
    go (inl e) = inl (e, ap (λ (j : ℕ). get_or (set marks at (Some mark)) j None) e ∙ get_or-set_same marks at (Some mark) None l)
    go (inr n) = inr (n, get_or-set_other marks at k (Some mark) None n)

marked_there : (marks : Marks) (k : ℕ) (mark : Bool) → mark_at marks k ≡ Some mark → k < length marks
marked_there marks k mark e = go (cases_lt k (length marks))
  where
    go : (k < length marks) ⊎ (length marks ≤ k) → k < length marks
    go (inl l) = l
    go (inr l) = let h : None ≡ Some mark = sym (get_or_past marks k None l) ∙ e in absurd cc

-- ---- settling

pub settles_none : (mark : Bool) (marks : Marks) → AreSettled [] mark marks marks
settles_none mark marks = record { each_place = refl; each = λ k. inr (λ (j, l, e). absurd (omega arith), refl) }

pub settles_more : (path : List ℕ) (at : ℕ) (mark : Bool) (old mid : Marks) → at < length mid → AreSettled path mark old mid → AreSettled (path ++ at ∷ []) mark old (set mid at (Some mark))
settles_more path at mark old mid l h = record { each_place = length-set mid at (Some mark) ∙ h.each_place; each = λ k. go k (written mid at k mark l) }
  where
    apart : (k : ℕ) → (k ≢ at) → (Contains path k → ⊥) → Contains path k ⊎ (at ≡ k) → ⊥
    apart k n none (inl c) = none c
    apart k n none (inr e) = n (sym e)

    other : (k : ℕ) → k ≢ at → mark_at (set mid at (Some mark)) k ≡ mark_at mid k → (Contains path k × (mark_at mid k ≡ Some mark)) ⊎ ((Contains path k → ⊥) × (mark_at mid k ≡ mark_at old k))
        → (Contains (path ++ at ∷ []) k × (mark_at (set mid at (Some mark)) k ≡ Some mark)) ⊎ ((Contains (path ++ at ∷ []) k → ⊥) × (mark_at (set mid at (Some mark)) k ≡ mark_at old k))
    other k n e (inl (c, m)) = inl (push_has path at k c, e ∙ m)
    other k n e (inr (none, m)) = inr (λ c. apart k n none (in_push path at k c), e ∙ m)

    go : (k : ℕ) → ((k ≡ at) × (mark_at (set mid at (Some mark)) k ≡ Some mark)) ⊎ ((k ≢ at) × (mark_at (set mid at (Some mark)) k ≡ mark_at mid k))
        → (Contains (path ++ at ∷ []) k × (mark_at (set mid at (Some mark)) k ≡ Some mark)) ⊎ ((Contains (path ++ at ∷ []) k → ⊥) × (mark_at (set mid at (Some mark)) k ≡ mark_at old k))
    go k (inl (e, m)) = inl (subst (λ (j : ℕ). Contains (path ++ at ∷ []) j) (sym e) (push_last path at), m)
    go k (inr (n, m)) = other k n m (h.each k)

module _ (steps : List Step) where
  abbrev Says : Bool → ℕ → Type 0
  Says b k = IsTrue b ↔ Comes steps k

  abbrev Same : ℕ → ℕ → Type 0
  Same k at = Comes steps k ↔ Comes steps at

  says_same : (b : Bool) (k at : ℕ) → Same k at → Says b at → Says b k
  says_same b k at (to, from) (f, g) = (λ t. from (f t), λ c. g (to c))

  over : (k at next : ℕ) → Same k at → Same at next → Same k next
  over k at next (f, g) (h, i) = (λ c. h (f c), λ c. g (i c))

  -- what an end, and a step, say of a place
  at_end : (at : ℕ) (good : Bool) → step_at steps at ≡ s.Ends good → Says good at
  at_end at good e = (λ t. ends at (e ∙ ap s.Ends t), λ c. back at c e)
    where
      back : (k : ℕ) → Comes steps k → step_at steps k ≡ s.Ends good → IsTrue good
      back k (ends j f) g = let h : s.Ends true ≡ s.Ends good = sym f ∙ g in cc
      back k (leads j next f c) g = let h : s.To next ≡ s.Ends good = sym f ∙ g in absurd cc

  at_step : (at next : ℕ) → step_at steps at ≡ s.To next → Same at next
  at_step at next e = (λ c. on at c e, λ c. leads at next e c)
    where
      on : (k : ℕ) → Comes steps k → step_at steps k ≡ s.To next → Comes steps next
      on k (ends j f) g = let h : s.Ends true ≡ s.To next = sym f ∙ g in absurd cc
      on k (leads j other f c) g = let h : s.To other ≡ s.To next = sym f ∙ g in let i : other ≡ next = cc in subst (Comes steps) i c

  pub record IsOn (marks : Marks) (path : List ℕ) (at k : ℕ) : Type 0 where
    pub marked : mark_at marks k ≡ Some false
    pub same : Same k at
    pub next : ℕ
    pub steps_to : step_at steps k ≡ s.To next
    pub goes : Contains path next ⊎ (next ≡ at)

  -- a walk has come from a place to another, and has entered those of its path
  pub record Walks (marks : Marks) (path : List ℕ) (from at : ℕ) : Type 0 where
    pub each_place : length marks ≡ length steps
    pub same : Same from at
    pub on : (k : ℕ) → Contains path k → IsOn marks path at k
    pub right : (k : ℕ) (mark : Bool) → mark_at marks k ≡ Some mark → Contains path k ⊎ Says mark k

  pub begins : (marks : Marks) (path : List ℕ) (from : ℕ) → AreRight steps marks → path ≡ [] → Walks marks path from from
  begins marks path from h none = record {
    each_place = h.each_place;
    same = (λ c. c, λ c. c);
    on = λ k c. absurd (no_place k (subst (λ (xs : List ℕ). Contains xs k) none c));
    right = λ k mark e. inr (h.each k mark e);
  }
    where
      no_place : (k : ℕ) → Contains [] k → ⊥
      no_place k (j, l, e) = absurd (omega arith)

  module _ (marks : Marks) (path : List ℕ) (from at : ℕ) (w : Walks marks path from at) where
    -- a path that comes back to itself doesn't end
    round : Contains path at → (k : ℕ) → Comes steps k → Contains path k → ⊥
    round here k (ends j f) c = let o = w.on j c in let h : s.Ends true ≡ s.To o.next = sym f ∙ o.steps_to in cc
    round here k (leads j next f more) c = round here next more (goes (w.on j c))
      where
        goes : IsOn marks path at j → Contains path next
        goes o =
            let h : s.To o.next ≡ s.To next = sym o.steps_to ∙ f in
            let e : o.next ≡ next = cc in
            subst (Contains path) e (to o.goes)
          where
            to : Contains path o.next ⊎ (o.next ≡ at) → Contains path o.next
            to (inl d) = d
            to (inr same) = subst (Contains path) (sym same) here

    decides : (b : Bool) → Says b at → IsWalk steps marks path from b
    decides b says = record {
      each_place = w.each_place;
      there = λ k c. marked_there marks k false (w.on k c).marked;
      first = says_same b from at w.same says;
      on_path = λ k c. says_same b k at (w.on k c).same says;
      others = w.right;
    }

    pub meets : (known : Bool) → mark_at marks at ≡ Some known → IsWalk steps marks path from known
    meets known e = go (w.right at known e)
      where
        go : Contains path at ⊎ Says known at → IsWalk steps marks path from known
        go (inr says) = decides known says
        go (inl here) =
            let h : Some false ≡ Some known = sym (w.on at here).marked ∙ e in
            let f : false ≡ known = cc in
            decides known (subst (λ (b : Bool). Says b at) f (λ t. absurd cc, λ c. absurd (round here at c here)))

    pub past : length steps ≤ at → IsWalk steps marks path from false
    past l = decides false (at_end at false (get_or_past steps at (s.Ends false) l))

    -- the place is entered
    marked_on : (k : ℕ) → at < length marks → mark_at marks k ≡ Some false → mark_at (set marks at (Some false)) k ≡ Some false
    marked_on k l e = go (written marks at k false l)
      where
        go : ((k ≡ at) × (mark_at (set marks at (Some false)) k ≡ Some false)) ⊎ ((k ≢ at) × (mark_at (set marks at (Some false)) k ≡ mark_at marks k)) → mark_at (set marks at (Some false)) k ≡ Some false
        go (inl (s, m)) = m
        go (inr (n, m)) = m ∙ e

    others_right : at < length marks → (k : ℕ) (mark : Bool) → mark_at (set marks at (Some false)) k ≡ Some mark → Contains (path ++ at ∷ []) k ⊎ Says mark k
    others_right l k mark e = go (written marks at k false l)
      where
        old : Contains path k ⊎ Says mark k → Contains (path ++ at ∷ []) k ⊎ Says mark k
        old (inl c) = inl (push_has path at k c)
        old (inr says) = inr says

        go : ((k ≡ at) × (mark_at (set marks at (Some false)) k ≡ Some false)) ⊎ ((k ≢ at) × (mark_at (set marks at (Some false)) k ≡ mark_at marks k)) → Contains (path ++ at ∷ []) k ⊎ Says mark k
        go (inl (s, m)) = inl (subst (λ (j : ℕ). Contains (path ++ at ∷ []) j) (sym s) (push_last path at))
        go (inr (n, m)) = old (w.right k mark (sym m ∙ e))

    each_still : length (set marks at (Some false)) ≡ length steps
    each_still = length-set marks at (Some false) ∙ w.each_place

    entered : at < length marks → mark_at (set marks at (Some false)) at ≡ Some false
    entered l = get_or-set_same marks at (Some false) None l

    pub enters : (next : ℕ) → at < length marks → step_at steps at ≡ s.To next → Walks (set marks at (Some false)) (path ++ at ∷ []) from next
    enters next l e = record {
      each_place = each_still;
      same = over from at next w.same (at_step at next e);
      on = λ k c. on k (in_push path at k c);
      right = others_right l;
    }
      where
        goes : (m : ℕ) → Contains path m ⊎ (m ≡ at) → Contains (path ++ at ∷ []) m ⊎ (m ≡ next)
        goes m (inl c) = inl (push_has path at m c)
        goes m (inr e) = inl (subst (λ (j : ℕ). Contains (path ++ at ∷ []) j) (sym e) (push_last path at))

        here : IsOn (set marks at (Some false)) (path ++ at ∷ []) next at
        here = record { marked = entered l; same = at_step at next e; next = next; steps_to = e; goes = inr refl }

        on : (k : ℕ) → Contains path k ⊎ (at ≡ k) → IsOn (set marks at (Some false)) (path ++ at ∷ []) next k
        on k (inl c) =
            let o = w.on k c in
            record { marked = marked_on k l o.marked; same = over k at next o.same (at_step at next e); next = o.next; steps_to = o.steps_to; goes = goes o.next o.goes }
        on k (inr f) = subst (IsOn (set marks at (Some false)) (path ++ at ∷ []) next) f here

    pub stops : (good : Bool) → at < length marks → step_at steps at ≡ s.Ends good → IsWalk steps (set marks at (Some false)) (path ++ at ∷ []) from good
    stops good l e = record {
      each_place = each_still;
      there = λ k c. there k (in_push path at k c);
      first = says_same good from at w.same (at_end at good e);
      on_path = λ k c. on k (in_push path at k c);
      others = others_right l;
    }
      where
        there : (k : ℕ) → Contains path k ⊎ (at ≡ k) → k < length (set marks at (Some false))
        there k (inl c) = marked_there (set marks at (Some false)) k false (marked_on k l (w.on k c).marked)
        there k (inr f) = let n = length-set marks at (Some false) in omega arith

        on : (k : ℕ) → Contains path k ⊎ (at ≡ k) → Says good k
        on k (inl c) = says_same good k at (w.on k c).same (at_end at good e)
        on k (inr f) = subst (Says good) f (at_end at good e)

  pub step_any : (k : ℕ) (d x : Step) → k < length steps → get_or steps k d ≡ x → step_at steps k ≡ x
  step_any k d x l e = get_or_default steps k (s.Ends false) d l ∙ e

  -- ---- behind a walk

  pub settled_right : (path : List ℕ) (old new : Marks) (from : ℕ) (b : Bool) → IsWalk steps old path from b → AreSettled path b old new → AreRight steps new
  settled_right path old new from b w h = record { each_place = h.each_place ∙ w.each_place; each = λ k mark e. go k mark e (h.each k) }
    where
      other : (k : ℕ) (mark : Bool) → (Contains path k → ⊥) → Contains path k ⊎ Says mark k → Says mark k
      other k mark none (inl c) = absurd (none c)
      other k mark none (inr says) = says

      go : (k : ℕ) (mark : Bool) → mark_at new k ≡ Some mark → (Contains path k × (mark_at new k ≡ Some b)) ⊎ ((Contains path k → ⊥) × (mark_at new k ≡ mark_at old k)) → Says mark k
      go k mark e (inl (c, m)) =
          let h : Some b ≡ Some mark = sym m ∙ e in
          let f : b ≡ mark = cc in
          subst (λ (x : Bool). Says x k) f (w.on_path k c)
      go k mark e (inr (none, m)) = other k mark none (w.others k mark (sym m ∙ e))
