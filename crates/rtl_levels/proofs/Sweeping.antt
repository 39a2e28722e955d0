-- A sweep in order of rank settles all that its visits are to settle.
use Rattle.std.proofs.Common.{◌≡◌, ℕ, ◌+◌, ◌<◌, ◌≤◌, Bool, true, false, List, length, get_or, set, Option, None, refl, sym, ap, subst, ◌∙◌, arith, ◌⊎◌, inl, inr, ◌==◌}
use Rattle.std.specs.List.{list_any}
use Rattle.std.proofs.lemmas.Bool.{cases_Bool, cases_eq, cases_lt}
use Rattle.std.proofs.lemmas.List.{get_or-set_same, get_or-set_other, get_or_past, get_or_default, length-set}
use Rattle.rtl_model.proofs.basics.Lists.{contains_in, in_contains}
use Rattle.rtl_model.specs.basics.Valuations.{entry_where}
use Rattle.rtl_model.specs.simulation.Accepted.{IsResetBy, IsResetOf}
use Rattle.rtl_model.specs.simulation.Machine.{entry_or}
use Rattle.rtl_model.specs.simulation.Netlist.{HasPlace, IsCombinational, Netlist, process, reset_entry, reset_of, resets, target}
use Rattle.rtl_model.specs.simulation.NetLevels.{IsDerived}
use Rattle.rtl_model.proofs.simulation.Levels.{numbered}
use Rattle.rtl_model.proofs.simulation.Numbered.{Numbered}
use Rattle.rtl_kernel.specs.wakes.Woken.{wakers_of}
use Rattle.rtl_levels.specs.declared.order.Visit.{Visit}
use Rattle.rtl_levels.specs.declared.schedule.Schedule.{Schedule}
use Rattle.rtl_levels.specs.declared.state.State.{State}
use Rattle.rtl_levels.specs.Kept.{AreSettledOrToCome, IsPlanned}
use Rattle.rtl_levels.specs.Laws.{RunSettles}
use Rattle.rtl_levels.specs.Running.{AgreeOnLooks, IsDerivedAt, IsNew, IsSettledAt, IsWritten, behind_reset}
use Rattle.rtl_net_groups.specs.NextMarks.{AreUnmarked}
use Rattle.rtl_levels.specs.Marks.{Marks, IsReader, AreBelow, HasNoMark}
use Rattle.rtl_levels.specs.Steps.{IsSwept}
use Rattle.rtl_levels.specs.Visits.{IsToCome, visit_at}
use Rattle.rtl_levels.proofs.Coming.{still_to_come, stays_or_comes, visit_of}
use Rattle.rtl_levels.proofs.Resets.{no_reset, one_reset, read_twice, reset_clocks, resets_alike, settled_then, still_entry}
use Rattle.rtl_levels.proofs.Settling.{derived_or_still, each_run_settles, one_process}
use Rattle.rtl_levels.proofs.Taking.{at_target}

-- all visits from this rank on are above the level: a net of this level has its last value
abbrev pub IsPast : List Visit → (from level : ℕ) → Type 0
IsPast visits from level = (k : ℕ) → from ≤ k → k < length visits → level < (visit_at visits k).level

-- Visits of the ranks below `from` are done: what isn't settled has one to come, and none below is marked. A register that a
-- reset made inside assigns is as it was, or the reset has its last value and has been read.
pub record IsSweeping (net : Netlist) (schedule : Schedule) (from : ℕ) (v : List ℕ) (s : State) : Type 0 where
  pub each_net : length s.values.items ≡ length v
  pub each_rank : length s.dirty.items ≡ length schedule.visits.items
  pub to_come : AreSettledOrToCome net schedule from s
  pub ahead : (k : ℕ) → get_or s.dirty.items k false ≡ true → from ≤ k
  pub on_resets : (P : IsPlanned net schedule) (p place m : ℕ) → IsResetBy net p place m → HasPlace net p place
      → (get_or s.values.items (target net p place) 0 ≡ get_or v (target net p place) 0)
      ⊎ (IsPast schedule.visits.items from (get_or P.nets m 0) × (get_or s.values.items (target net p place) 0 ≡ behind_reset net s.values.items p place (get_or v (target net p place) 0)))
  pub on_others : (n : ℕ) → (IsDerived net n → ⊥) → get_or s.values.items n 0 ≡ get_or v n 0

module _ (net : Netlist) (schedule : Schedule) (P : IsPlanned net schedule) where
  abbrev visits : List Visit
  visits = schedule.visits.items

  abbrev readers : List (List ℕ)
  readers = wakers_of schedule.readers

  abbrev level : ℕ → ℕ
  level n = get_or P.nets n 0

  pub readers_below : (many : ℕ) → many ≡ length visits → AreBelow readers many
  readers_below many is n k f = rw is ((P.schedule.readers_are n k).0 f).1.there

  abbrev L : Numbered net
  L = numbered net P.elaborated P.accepted

  module _ (from : ℕ) (v : List ℕ) (s : State) (I : IsSweeping net schedule from v s) where
    abbrev w : List ℕ
    w = s.values.items

    abbrev dirty : List Bool
    dirty = s.dirty.items

    -- none of the next ranks is marked
    pub skipped : (next : ℕ) → AreUnmarked dirty from next → (p at : ℕ) → IsToCome visits dirty from p at → IsToCome visits dirty next p at
    skipped next none p at T = record { rank = T.rank; there = T.there; ahead = ahead (cases_lt T.rank next); marked = T.marked; of = T.of; within = T.within }
      where
        ahead : (T.rank < next) ⊎ (next ≤ T.rank) → next ≤ T.rank
        ahead (inl less) = let f = none T.rank T.ahead less in let h = T.marked in cc
        ahead (inr le) = le

    -- the process that is visited runs, and its entries are taken over
    module _ (s' : State) (within : from < length visits) where
      abbrev visited : ℕ
      visited = (visit_at visits from).process

      abbrev entries : List (Option ℕ)
      entries = (process net visited).effect w w

      abbrev drives : List ℕ
      drives = (process net visited).drives

      abbrev w' : List ℕ
      w' = s'.values.items

      module _ (W : IsWritten net visited w w') (M : Marks readers (IsNew drives entries w) w w' (set dirty from false) s'.dirty.items) where
        here : (place : ℕ) × HasPlace net visited place × IsDerivedAt net visited place × (level (target net visited place) ≡ (visit_at visits from).level)
        here = visit_of net L P.nets P.nets_are visits P.schedule.visits_are from within

        there : from < length dirty
        there = let e = I.each_rank in omega arith

        -- so only nets that may change behind others do, of the visit's level or above it
        changed : (n : ℕ) → (get_or w n 0 ≡ get_or w' n 0 → ⊥) → IsDerived net n × ((visit_at visits from).level ≤ level n)
        changed n other = by (cases_Bool (list_any (λ m. m == n) drives))
          where
            Changed : Type 0
            Changed = IsDerived net n × ((visit_at visits from).level ≤ level n)

            stays : (place : ℕ) → HasPlace net visited place → target net visited place ≡ n → get_or w' (target net visited place) 0 ≡ get_or w (target net visited place) 0 → ⊥
            stays place h t same = other (sym (subst (λ (m : ℕ). get_or w' m 0 ≡ get_or w m 0) t same))

            above : (place : ℕ) → HasPlace net visited place → target net visited place ≡ n → IsSettledAt net w visited place ⊎ IsToCome visits dirty from visited (level (target net visited place)) → (visit_at visits from).level ≤ level n
            above place h t (inl settled) = absurd (stays place h t (W.on_targets place h ∙ settled))
            above place h t (inr T) =
                let up = P.schedule.visits_are.in_order from T.rank T.ahead T.there in
                let low = subst (λ (m : ℕ). (visit_at visits T.rank).level ≤ level m) t T.within in
                omega (arith, up, low)

            at : (place : ℕ) → HasPlace net visited place → target net visited place ≡ n → IsDerivedAt net visited place ⊎ ((u : List ℕ) → get_or ((process net visited).effect u u) place None ≡ None) → Changed
            at place h t (inl d) = ((visited, place, h, t, d), above place h t (I.to_come P visited place d h))
            at place h t (inr none) = absurd (stays place h t (W.on_targets place h ∙ ap (λ (o : Option ℕ). entry_or o (get_or w (target net visited place) 0)) (none w)))

            by : (list_any (λ m. m == n) drives ≡ true) ⊎ (list_any (λ m. m == n) drives ≡ false) → Changed
            by (inl h) = let (place, l, is) = in_contains drives n h in at place l (get_or_default drives place 0 n l ∙ is) (derived_or_still net P.elaborated visited here.0 place here.2)
            by (inr none) = absurd (other (sym (W.on_others n (λ place h t. not place h t))))
              where
                not : (place : ℕ) → place < length drives → get_or drives place 0 ≡ n → ⊥
                not place h t = let c = contains_in drives n (place, h, sym (get_or_default drives place 0 n h) ∙ t) in cc

        -- and the visits that they mark come behind this one
        later : (n k : ℕ) → (get_or w n 0 ≡ get_or w' n 0 → ⊥) → k < length visits → level n < (visit_at visits k).level → from + 1 ≤ k
        later n k other l above = by (cases_lt from k)
          where
            by : (from < k) ⊎ (k ≤ from) → from + 1 ≤ k
            by (inl less) = omega arith
            by (inr le) =
                let up = P.schedule.visits_are.in_order k from le within in
                let low = (changed n other).1 in
                absurd (omega (arith, up, low, above))

        pub to_come_run : (p place : ℕ) → IsDerivedAt net p place → HasPlace net p place → IsSettledAt net w' p place ⊎ IsToCome visits s'.dirty.items (from + 1) p (level (target net p place))
        to_come_run p place d h =
            stays_or_comes net schedule P (IsNew drives entries w) w w' (set dirty from false) s'.dirty.items M (from + 1) later p place d h
            (λ agree. by agree (cases_eq p visited))
          where
            Done : Type 0
            Done = IsSettledAt net w' p place ⊎ IsToCome visits s'.dirty.items (from + 1) p (level (target net p place))

            S : RunSettles net visited w w'
            S = each_run_settles net P.elaborated P.accepted visited w w' W

            other_visit : (p ≡ visited → ⊥) → IsToCome visits dirty from p (level (target net p place)) → IsToCome visits (set dirty from false) (from + 1) p (level (target net p place))
            other_visit other T = record {
              rank = T.rank;
              there = T.there;
              ahead = (let ahead = T.ahead in omega (arith, ahead, not_here));
              marked = get_or-set_other dirty from T.rank false false not_here ∙ T.marked;
              of = T.of;
              within = T.within;
            }
              where
                not_here : T.rank ≡ from → ⊥
                not_here e = other (sym T.of ∙ ap (λ (k : ℕ). (visit_at visits k).process) e)

            was : (p ≡ visited → ⊥) → AgreeOnLooks net p place w w' → IsSettledAt net w p place ⊎ IsToCome visits dirty from p (level (target net p place)) → Done
            was other agree (inl settled) = inl (S.others p place d h settled agree)
            was other agree (inr T) =
                inr (still_to_come net schedule P (IsNew drives entries w) w w' (set dirty from false) s'.dirty.items M (from + 1) p (level (target net p place)) (other_visit other T))

            by : AgreeOnLooks net p place w w' → (p ≡ visited) ⊎ (p ≡ visited → ⊥) → Done
            by agree (inl e) =
                inl (subst (λ (q : ℕ). IsSettledAt net w' q place) (sym e)
                (S.itself place (subst (λ (q : ℕ). IsDerivedAt net q place) e d) (subst (λ (q : ℕ). HasPlace net q place) e h) (subst (λ (q : ℕ). AgreeOnLooks net q place w w') e agree)))
            by agree (inr other) = was other agree (I.to_come P p place d h)

        -- a register's reset below this visit stays
        module _ (p place m : ℕ) (R : IsResetBy net p place m) (h : HasPlace net p place) where
          abbrev old : ℕ
          old = get_or v (target net p place) 0

          same_reset : level m < (visit_at visits from).level → (x : ℕ) → behind_reset net w p place x ≡ behind_reset net w' p place x
          same_reset below x =
              ap (λ (b : Bool). entry_or (entry_where b (reset_entry (reset_of net p) place)) x)
              (resets_alike net p (λ n. get_or w n 0) (λ n. get_or w' n 0) (λ reset has. at (one_reset net p m reset.net R.0.0 (reset, has, refl)) (cases_eq (get_or w m 0) (get_or w' m 0))))
            where
              at : {n : ℕ} → m ≡ n → (get_or w m 0 ≡ get_or w' m 0) ⊎ (get_or w m 0 ≡ get_or w' m 0 → ⊥) → get_or w n 0 ≡ get_or w' n 0
              at e (inl same) = subst (λ (n : ℕ). get_or w n 0 ≡ get_or w' n 0) e same
              at e (inr differs) = let up = (changed m differs).1 in absurd (omega (arith, up, below))

          further : level m < (visit_at visits from).level → IsPast visits (from + 1) (level m)
          further below k up l = let rises = P.schedule.visits_are.in_order from k (omega arith) l in omega (arith, below, rises)

          abbrev Read : Type 0
          Read = (get_or w' (target net p place) 0 ≡ old) ⊎ (IsPast visits (from + 1) (level m) × (get_or w' (target net p place) 0 ≡ behind_reset net w' p place old))

          -- it is visited itself
          below_visit : p ≡ visited → level m < (visit_at visits from).level
          below_visit e = by here.2
            where
              by : IsDerivedAt net visited here.0 → level m < (visit_at visits from).level
              by (inl c) = absurd (no_reset net p m (subst (λ (q : ℕ). IsCombinational net q) (sym e) c) R.0.0)
              by (inr (n, S)) =
                  let same = one_reset net p m n R.0.0 (subst (λ (q : ℕ). IsResetOf net q n) (sym e) S.0.0) in
                  let rises = P.nets_are.rise.along n (target net visited here.0) (record { driver = visited; place = here.0; drives = here.1; net_is = refl; looks = inr S }) in
                  let at = here.3 in
                  let low = ap level same in
                  omega (arith, rises, at, low)

          reads : p ≡ visited → get_or w' (target net p place) 0 ≡ behind_reset net w p place (get_or w (target net p place) 0)
          reads e =
              let (clock, edge, is) = reset_clocks net p R.0.0.0 R.0.0.1 in
              subst (λ (q : ℕ). HasPlace net q place → get_or w' (target net q place) 0 ≡ entry_or (get_or ((process net q).effect w w) place None) (get_or w (target net q place) 0)) (sym e) (W.on_targets place) h
              ∙ ap (λ (o : Option ℕ). entry_or o (get_or w (target net p place) 0)) (still_entry net p P.elaborated clock edge is w place)

          pub resets_run : Read
          resets_run = by (cases_eq p visited) (I.on_resets P p place m R h)
            where
              by : (p ≡ visited) ⊎ (p ≡ visited → ⊥)
                  → (get_or w (target net p place) 0 ≡ old) ⊎ (IsPast visits from (level m) × (get_or w (target net p place) 0 ≡ behind_reset net w p place old)) → Read
              by (inl e) (inl same) = inr (further (below_visit e), reads e ∙ ap (behind_reset net w p place) same ∙ same_reset (below_visit e) old)
              by (inl e) (inr (past, is)) =
                  inr (further (below_visit e), reads e ∙ ap (behind_reset net w p place) is ∙ read_twice (resets (reset_of net p) (λ n. get_or w n 0)) (reset_entry (reset_of net p) place) old ∙ same_reset (below_visit e) old)
              by (inr ne) was = other was (W.on_others (target net p place) (λ at has t. ne (one_process net L visited p at place has h t)))
                where
                  other : (get_or w (target net p place) 0 ≡ old) ⊎ (IsPast visits from (level m) × (get_or w (target net p place) 0 ≡ behind_reset net w p place old))
                      → get_or w' (target net p place) 0 ≡ get_or w (target net p place) 0 → Read
                  other (inl same) stays = inl (stays ∙ same)
                  other (inr (past, is)) stays = let below = past from (omega arith) within in inr (further below, stays ∙ is ∙ same_reset below old)

        -- what is new changes
        new_changes : (n : ℕ) → IsNew drives entries w n → get_or w n 0 ≡ get_or w' n 0 → ⊥
        new_changes n N same = N.new (λ x e.
            at_target drives entries w N.place N.there
            ∙ subst (λ (m : ℕ). get_or w m 0 ≡ get_or w' m 0) (sym N.is) same
            ∙ W.on_targets N.place N.there
            ∙ ap (λ (o : Option ℕ). entry_or o (get_or w (get_or drives N.place 0) 0)) e)

        pub ahead_run : (k : ℕ) → get_or s'.dirty.items k false ≡ true → from + 1 ≤ k
        ahead_run k h = by (M.no_other k h)
          where
            by : (get_or (set dirty from false) k false ≡ true) ⊎ ((n : ℕ) × IsNew drives entries w n × IsReader readers n k) → from + 1 ≤ k
            by (inl old) = at (cases_eq k from)
              where
                at : (k ≡ from) ⊎ (k ≡ from → ⊥) → from + 1 ≤ k
                at (inl e) = let f = get_or-set_same dirty from false false there in let g = rw e at old in cc
                at (inr ne) = let l = I.ahead k (sym (get_or-set_other dirty from k false false ne) ∙ old) in omega (arith, l, ne)
            by (inr (n, N, f)) = let F = ((P.schedule.readers_are n k).0 f).1 in later n k (new_changes n N) F.there F.above

        pub rest_run : (n : ℕ) → (IsDerived net n → ⊥) → get_or w' n 0 ≡ get_or v n 0
        rest_run n free = by (cases_eq (get_or w n 0) (get_or w' n 0)) ∙ I.on_others n free
          where
            by : (get_or w n 0 ≡ get_or w' n 0) ⊎ (get_or w n 0 ≡ get_or w' n 0 → ⊥) → get_or w' n 0 ≡ get_or w n 0
            by (inl same) = sym same
            by (inr differs) = absurd (free (changed n differs).0)

    module _ (done : length visits ≤ from) where
      pub none_left : HasNoMark dirty
      none_left k = by (cases_Bool (get_or dirty k false))
        where
          by : (get_or dirty k false ≡ true) ⊎ (get_or dirty k false ≡ false) → get_or dirty k false ≡ false
          by (inl h) = let l = I.ahead k h in let e = I.each_rank in let f = get_or_past dirty k false (omega arith) in cc
          by (inr f) = f

      settled : (p place : ℕ) → IsDerivedAt net p place → HasPlace net p place → IsSettledAt net w p place
      settled p place d h = by (I.to_come P p place d h)
        where
          by : IsSettledAt net w p place ⊎ IsToCome visits dirty from p (level (target net p place)) → IsSettledAt net w p place
          by (inl settled) = settled
          by (inr T) = let l = T.there in let k = T.ahead in absurd (omega arith)

      resets_read : (p place m : ℕ) → IsResetBy net p place m → HasPlace net p place → get_or w (target net p place) 0 ≡ behind_reset net w p place (get_or v (target net p place) 0)
      resets_read p place m R h = by (I.on_resets P p place m R h)
        where
          by : (get_or w (target net p place) 0 ≡ get_or v (target net p place) 0) ⊎ (IsPast visits from (level m) × (get_or w (target net p place) 0 ≡ behind_reset net w p place (get_or v (target net p place) 0)))
              → get_or w (target net p place) 0 ≡ behind_reset net w p place (get_or v (target net p place) 0)
          by (inl same) =
              let (clock, edge, is) = reset_clocks net p R.0.0.0 R.0.0.1 in
              sym (settled_then net p P.elaborated clock edge is w place (settled p place (inr (m, R)) h)) ∙ ap (behind_reset net w p place) same
          by (inr (past, is)) = is

      pub all_settled : IsSwept net v w
      all_settled = record { each_net = I.each_net; settled = λ p c place h. settled p place (inl c) h; on_resets = resets_read; on_others = I.on_others }

-- for whatever levels
module _ (net : Netlist) (schedule : Schedule) (P : IsPlanned net schedule) (from : ℕ) (v : List ℕ) (s : State) (I : IsSweeping net schedule from v s) where
  pub sweeping_skip : (next : ℕ) → from ≤ next → AreUnmarked s.dirty.items from next → IsSweeping net schedule next v s
  sweeping_skip next le none = record {
    each_net = I.each_net;
    each_rank = I.each_rank;
    to_come = λ Q p place d h. to_come Q p place (I.to_come Q p place d h);
    ahead = λ k h. ahead k h (cases_lt k next);
    on_resets = λ Q p place m R h. on_resets Q p place m (I.on_resets Q p place m R h);
    on_others = I.on_others;
  }
    where
      to_come : (Q : IsPlanned net schedule) (p place : ℕ) → IsSettledAt net s.values.items p place ⊎ IsToCome schedule.visits.items s.dirty.items from p (get_or Q.nets (target net p place) 0)
          → IsSettledAt net s.values.items p place ⊎ IsToCome schedule.visits.items s.dirty.items next p (get_or Q.nets (target net p place) 0)
      to_come Q p place (inl settled) = inl settled
      to_come Q p place (inr T) = inr (skipped net schedule Q from v s I next none p (get_or Q.nets (target net p place) 0) T)

      on_resets : (Q : IsPlanned net schedule) (p place m : ℕ)
          → (get_or s.values.items (target net p place) 0 ≡ get_or v (target net p place) 0)
          ⊎ (IsPast schedule.visits.items from (get_or Q.nets m 0) × (get_or s.values.items (target net p place) 0 ≡ behind_reset net s.values.items p place (get_or v (target net p place) 0)))
          → (get_or s.values.items (target net p place) 0 ≡ get_or v (target net p place) 0)
          ⊎ (IsPast schedule.visits.items next (get_or Q.nets m 0) × (get_or s.values.items (target net p place) 0 ≡ behind_reset net s.values.items p place (get_or v (target net p place) 0)))
      on_resets Q p place m (inl same) = inl same
      on_resets Q p place m (inr (past, is)) = inr ((λ k up l. past k (omega (arith, le, up)) l), is)

      ahead : (k : ℕ) → get_or s.dirty.items k false ≡ true → (k < next) ⊎ (next ≤ k) → next ≤ k
      ahead k h (inl less) = let f = none k (I.ahead k h) less in cc
      ahead k h (inr le) = le

  pub sweeping_run : (s' : State) (within : from < length schedule.visits.items) → IsWritten net (visit_at schedule.visits.items from).process s.values.items s'.values.items
      → Marks (wakers_of schedule.readers) (IsNew (process net (visit_at schedule.visits.items from).process).drives ((process net (visit_at schedule.visits.items from).process).effect s.values.items s.values.items) s.values.items)
      s.values.items s'.values.items (set s.dirty.items from false) s'.dirty.items
      → IsSweeping net schedule (from + 1) v s'
  sweeping_run s' within W M = record {
    each_net = W.each_net ∙ I.each_net;
    each_rank = M.as_many ∙ length-set s.dirty.items from false ∙ I.each_rank;
    to_come = λ Q. to_come_run net schedule Q from v s I s' within W M;
    ahead = ahead_run net schedule P from v s I s' within W M;
    on_resets = λ Q. resets_run net schedule Q from v s I s' within W M;
    on_others = rest_run net schedule P from v s I s' within W M;
  }
