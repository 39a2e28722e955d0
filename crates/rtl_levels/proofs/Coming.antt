-- Visits that are to come for what isn't settled.
use Rattle.std.proofs.Common.{◌≡◌, ◌==◌, ℕ, zero, suc, ◌<◌, ◌≤◌, Bool, true, false, List, [], ◌∷◌, length, get_or, map, Option, refl, sym, ap, subst, ◌∙◌, arith, ◌⊎◌, inl, inr, Contains}
use Rattle.std.specs.Prelude.{option_map}
use Rattle.std.proofs.lemmas.Bool.{cases_eq, cases_lt, eq-eqb}
use Rattle.std.proofs.lemmas.List.{get_or_default}
use Rattle.std.proofs.lemmas.List.Elements.{Contains-get_or}
use Rattle.rtl_model.specs.basics.Valuations.{AgreeOn}
use Rattle.rtl_model.proofs.basics.Lists.{Contains-first, Contains-none, get_or-map_within}
use Rattle.rtl_model.specs.simulation.Netlist.{Edge, HasPlace, IsClockedBy, kind_reset, Netlist, process, ProcessKind, Reset, target}
use Rattle.rtl_model.specs.simulation.Elaborated.{IsElaborated}
use Rattle.rtl_model.specs.simulation.NetLevels.{IsDerived}
use Rattle.rtl_model.proofs.simulation.Faultless.{Faultless, faultless}
use Rattle.rtl_model.proofs.simulation.Levels.{numbered}
use Rattle.rtl_model.proofs.simulation.Numbered.{Numbered}
use Rattle.rtl_process_kinds.specs.KindViews.{reset_net}
use Rattle.rtl_kernel.specs.wakes.Woken.{wakers_of}
use Rattle.rtl_levels.specs.declared.order.Visit.{Visit}
use Rattle.rtl_levels.specs.declared.schedule.Schedule.{Schedule}
use Rattle.rtl_levels.specs.Kept.{IsPlanned}
use Rattle.rtl_levels.specs.Marks.{Marks}
use Rattle.rtl_levels.specs.Running.{AgreeOnLooks, DriverLooksAt, IsDerivedAt, IsSettledAt}
use Rattle.rtl_levels.specs.Visits.{AreNetLevels, AreVisits, DrivesAt, IsFirstAbove, IsMovedBy, IsToCome, IsVisited, is_net, moves, no_visit, visit_at}
use Rattle.rtl_levels.proofs.Resets.{no_reset, one_reset, reset_clocks}
use Rattle.rtl_levels.proofs.Settling.{one_process}

-- two valuations agree on these nets, or one of the nets differs
agree_or_not : (v w nets : List ℕ) → AgreeOn nets v w ⊎ ((n : ℕ) × Contains nets n × (get_or v n 0 ≡ get_or w n 0 → ⊥))
agree_or_not v w [] = inl (λ n h. absurd (Contains-none n h))
agree_or_not v w (m ∷ nets) = by (cases_eq (get_or v m 0) (get_or w m 0)) (agree_or_not v w nets)
  where
    by : (get_or v m 0 ≡ get_or w m 0) ⊎ (get_or v m 0 ≡ get_or w m 0 → ⊥) → AgreeOn nets v w ⊎ ((n : ℕ) × Contains nets n × (get_or v n 0 ≡ get_or w n 0 → ⊥))
        → AgreeOn (m ∷ nets) v w ⊎ ((n : ℕ) × Contains (m ∷ nets) n × (get_or v n 0 ≡ get_or w n 0 → ⊥))
    by (inr other) _ = inr (m, Contains-first m nets, other)
    by (inl same) (inr (n, (k, l, is), other)) = inr (n, (suc k, omega arith, is), other)
    by (inl same) (inl agree) = inl (λ n (k, l, is). at n k l is)
      where
        at : (n k : ℕ) → k < length (m ∷ nets) → get_or (m ∷ nets) k n ≡ n → get_or v n 0 ≡ get_or w n 0
        at n zero l is = subst (λ (x : ℕ). get_or v x 0 ≡ get_or w x 0) is same
        at n (suc k) l is = agree n (k, omega arith, is)

-- these agree on what a driver looks at, or something that it looks at differs
looks_or_not : (net : Netlist) (p place : ℕ) (v w : List ℕ) → IsDerivedAt net p place → AgreeOnLooks net p place v w ⊎ ((n : ℕ) × DriverLooksAt net p place n × (get_or v n 0 ≡ get_or w n 0 → ⊥))
looks_or_not net p place v w (inl c) = by (agree_or_not v w ((process net p).looks place))
  where
    by : AgreeOn ((process net p).looks place) v w ⊎ ((n : ℕ) × Contains ((process net p).looks place) n × (get_or v n 0 ≡ get_or w n 0 → ⊥))
        → AgreeOnLooks net p place v w ⊎ ((n : ℕ) × DriverLooksAt net p place n × (get_or v n 0 ≡ get_or w n 0 → ⊥))
    by (inr (n, looks, other)) = inr (n, inl (c, looks), other)
    by (inl agree) = inl at
      where
        at : (n : ℕ) → DriverLooksAt net p place n → get_or v n 0 ≡ get_or w n 0
        at n (inl (d, looks)) = agree n looks
        at n (inr R) = absurd (no_reset net p n c R.0.0)
looks_or_not net p place v w (inr (m, R)) = by (cases_eq (get_or v m 0) (get_or w m 0))
  where
    by : (get_or v m 0 ≡ get_or w m 0) ⊎ (get_or v m 0 ≡ get_or w m 0 → ⊥) → AgreeOnLooks net p place v w ⊎ ((n : ℕ) × DriverLooksAt net p place n × (get_or v n 0 ≡ get_or w n 0 → ⊥))
    by (inr other) = inr (m, inr R, other)
    by (inl same) = inl at
      where
        at : (n : ℕ) → DriverLooksAt net p place n → get_or v n 0 ≡ get_or w n 0
        at n (inl (c, looks)) = absurd (no_reset net p m c R.0.0)
        at n (inr S) = subst (λ (k : ℕ). get_or v k 0 ≡ get_or w k 0) (one_reset net p m n R.0.0 S.0.0) same

-- what a driver looks at moves its process
moved_by_looks : (net : Netlist) → IsElaborated net → Faultless net → (p place n : ℕ) → DriverLooksAt net p place n → IsMovedBy net p n
moved_by_looks net E F p place n (inl (c, looks)) = (F.reads_wake p n c (E.bodies.looks_are_read p place n looks), ap (λ (k : ProcessKind). moves k n) c.1)
moved_by_looks net E F p place n (inr (((reset, has, is), driven), some)) = (
  subst (λ (m : ℕ). Contains (process net p).wakes m) is (F.reset_wakes p reset has),
  at (reset_clocks net p reset has),
)
  where
    at : (clock : ℕ) × (edge : Edge) × IsClockedBy net p clock edge → moves (process net p).kind n ≡ true
    at (clock, edge, (r, kind)) =
        ap (λ (k : ProcessKind). moves k n) kind
        ∙ ap (λ (o : Option Reset). is_net (option_map reset_net o) n) (sym (ap kind_reset kind) ∙ has)
        ∙ ap (λ (m : ℕ). m == n) is ∙ eq-eqb n n refl

module _ (net : Netlist) (L : Numbered net) (nets : List ℕ) (N : AreNetLevels net nets) (visits : List Visit) (V : AreVisits net nets visits) where
  -- a driver that may change its net behind others has a visit
  pub visited_at : (p place : ℕ) → IsDerivedAt net p place → HasPlace net p place → IsVisited visits p (get_or nets (target net p place) 0)
  visited_at p place d h =
      let one = N.rise.from_one (target net p place) (p, place, h, refl, d) in
      (V.visited p (get_or nets (target net p place) 0)).0 ((λ e. omega (arith, one, e)), (target net p place, Contains-get_or (process net p).drives place 0 h, refl))

  -- and a visit such a driver, of the visit's level
  pub visit_of : (rank : ℕ) → rank < length visits
      → (place : ℕ) × HasPlace net (visit_at visits rank).process place × IsDerivedAt net (visit_at visits rank).process place × (get_or nets (target net (visit_at visits rank).process place) 0 ≡ (visit_at visits rank).level)
  visit_of rank l = at ((V.visited p level).1 (record { rank = rank; there = l; of = refl; at = refl }))
    where
      p : ℕ
      p = (visit_at visits rank).process

      level : ℕ
      level = (visit_at visits rank).level

      at : DrivesAt net nets p level → (place : ℕ) × HasPlace net p place × IsDerivedAt net p place × (get_or nets (target net p place) 0 ≡ level)
      at (some, (n, (place, h, is), e)) = by (N.derived n (λ z. some (sym e ∙ z)))
        where
          t : target net p place ≡ n
          t = get_or_default (process net p).drives place 0 n h ∙ is

          by : IsDerived net n → (place : ℕ) × HasPlace net p place × IsDerivedAt net p place × (get_or nets (target net p place) 0 ≡ level)
          by (q, at, has, u, d) =
              let same = sym (one_process net L q p at place has h (u ∙ sym t)) in
              (at, subst (λ (x : ℕ). HasPlace net x at) same has, subst (λ (x : ℕ). IsDerivedAt net x at) same d, ap (λ (m : ℕ). get_or nets m 0) (subst (λ (x : ℕ). target net x at ≡ n) same u) ∙ e)

module _ (visits : List Visit) (p level : ℕ) where
  abbrev IsFirst : ℕ → Type 0
  IsFirst rank = ((visit_at visits rank).process ≡ p) × IsFirstAbove visits level rank

  -- a process's first visit above a level, if one of so many is
  first_of_many : (many : ℕ) → many ≤ length visits
      → ((rank : ℕ) × IsFirst rank) ⊎ ((k : ℕ) → k < many → (visit_at visits k).process ≡ p → (visit_at visits k).level ≤ level)
  first_of_many zero le = inr (λ k l is. absurd (omega arith))
  first_of_many (suc many) le = by (first_of_many many (omega arith)) (cases_eq (visit_at visits many).process p) (cases_lt level (visit_at visits many).level)
    where
      None : ℕ → Type 0
      None so_many = (k : ℕ) → k < so_many → (visit_at visits k).process ≡ p → (visit_at visits k).level ≤ level

      more : None many → ((visit_at visits many).process ≡ p → (visit_at visits many).level ≤ level) → None (suc many)
      more none last k l is = at (cases_eq k many)
        where
          at : (k ≡ many) ⊎ (k ≡ many → ⊥) → (visit_at visits k).level ≤ level
          at (inl e) = subst (λ (j : ℕ). (visit_at visits j).level ≤ level) (sym e) (last (subst (λ (j : ℕ). (visit_at visits j).process ≡ p) e is))
          at (inr ne) = none k (omega (arith, l, ne)) is

      by : ((rank : ℕ) × IsFirst rank) ⊎ None many → ((visit_at visits many).process ≡ p) ⊎ ((visit_at visits many).process ≡ p → ⊥)
          → (level < (visit_at visits many).level) ⊎ ((visit_at visits many).level ≤ level) → ((rank : ℕ) × IsFirst rank) ⊎ None (suc many)
      by (inl found) _ _ = inl found
      by (inr none) (inl of) (inl above) = inl (many, (of, record { there = omega arith; above = above; none_before = λ k l is. none k l (is ∙ of) }))
      by (inr none) (inl of) (inr le) = inr (more none (λ is. le))
      by (inr none) (inr other) _ = inr (more none (λ is. absurd (other is)))

  -- below each visit of it above the level
  pub first_visit : (net : Netlist) (nets : List ℕ) → AreVisits net nets visits → (at : ℕ) → IsVisited visits p at → level < at
      → (rank : ℕ) × IsFirst rank × ((visit_at visits rank).level ≤ at)
  first_visit net nets V at T less = by (first_of_many (length visits) (omega arith))
    where
      by : ((rank : ℕ) × IsFirst rank) ⊎ ((k : ℕ) → k < length visits → (visit_at visits k).process ≡ p → (visit_at visits k).level ≤ level)
          → (rank : ℕ) × IsFirst rank × ((visit_at visits rank).level ≤ at)
      by (inr none) = let le = none T.rank T.there T.of in absurd (omega (arith, le, T.at, less))
      by (inl (rank, (of, F))) = (rank, (of, F), in_order (cases_lt T.rank rank))
        where
          in_order : (T.rank < rank) ⊎ (rank ≤ T.rank) → (visit_at visits rank).level ≤ at
          in_order (inl before) = let le = F.none_before T.rank before (T.of ∙ sym of) in absurd (omega (arith, le, T.at, less))
          in_order (inr le) = let up = V.in_order rank T.rank le T.there in omega (arith, up, T.at)

-- ---- at first

-- where the first visits are marked, each driver that may change its net behind others has one to come
pub first_to_come : (net : Netlist) (schedule : Schedule) (P : IsPlanned net schedule) (p place : ℕ) → IsDerivedAt net p place → HasPlace net p place
    → IsToCome schedule.visits.items (map (λ (visit : Visit). visit.first) schedule.visits.items) 0 p (get_or P.nets (target net p place) 0)
first_to_come net schedule P p place d h = by (first_visit visits p 0 net P.nets V (get_or P.nets (target net p place) 0) visited (omega (arith, one)))
  where
    visits : List Visit
    visits = schedule.visits.items

    V : AreVisits net P.nets visits
    V = P.schedule.visits_are

    visited : IsVisited visits p (get_or P.nets (target net p place) 0)
    visited = visited_at net (numbered net P.elaborated P.accepted) P.nets P.nets_are visits V p place d h

    one : 1 ≤ get_or P.nets (target net p place) 0
    one = P.nets_are.rise.from_one (target net p place) (p, place, h, refl, d)

    by : (rank : ℕ) × (((visit_at visits rank).process ≡ p) × IsFirstAbove visits 0 rank) × ((visit_at visits rank).level ≤ get_or P.nets (target net p place) 0)
        → IsToCome visits (map (λ (visit : Visit). visit.first) visits) 0 p (get_or P.nets (target net p place) 0)
    by (rank, (of, F), le) = record {
      rank = rank;
      there = F.there;
      ahead = omega arith;
      marked = get_or-map_within (λ (visit : Visit). visit.first) visits rank no_visit false F.there ∙ (P.schedule.firsts_are rank F.there).1 none;
      of = of;
      within = le;
    }
      where
        none : (k : ℕ) → k < rank → (visit_at visits k).process ≡ (visit_at visits rank).process → ⊥
        none k less same =
            let low = F.none_before k less same in
            let at = (V.visited (visit_at visits k).process (visit_at visits k).level).1 (record { rank = k; there = omega (arith, less, F.there); of = refl; at = refl }) in
            at.0 (omega (arith, low))

-- ---- what changes

module _ (net : Netlist) (schedule : Schedule) (P : IsPlanned net schedule) (nets : ℕ → Type 0) (v w : List ℕ) (a b : List Bool)
    (M : Marks (wakers_of schedule.readers) nets v w a b) where
  abbrev visits : List Visit
  visits = schedule.visits.items

  abbrev level : ℕ → ℕ
  level n = get_or P.nets n 0

  -- a driver's net settles if what the driver looks at stays; else a visit is marked, which comes where all do that are above what changes
  pub stays_or_comes : (from : ℕ) → ((n k : ℕ) → (get_or v n 0 ≡ get_or w n 0 → ⊥) → k < length visits → level n < (visit_at visits k).level → from ≤ k)
      → (p place : ℕ) → IsDerivedAt net p place → HasPlace net p place
      → (AgreeOnLooks net p place v w → IsSettledAt net w p place ⊎ IsToCome visits b from p (level (target net p place)))
      → IsSettledAt net w p place ⊎ IsToCome visits b from p (level (target net p place))
  stays_or_comes from late p place d h same = by (looks_or_not net p place v w d)
    where
      by : AgreeOnLooks net p place v w ⊎ ((n : ℕ) × DriverLooksAt net p place n × (get_or v n 0 ≡ get_or w n 0 → ⊥))
          → IsSettledAt net w p place ⊎ IsToCome visits b from p (level (target net p place))
      by (inl agree) = same agree
      by (inr (n, looks, other)) =
          let rises = P.nets_are.rise.along n (target net p place) (record { driver = p; place = place; drives = h; net_is = refl; looks = looks }) in
          let visited = visited_at net (numbered net P.elaborated P.accepted) P.nets P.nets_are visits P.schedule.visits_are p place d h in
          let (rank, first, le) = first_visit visits p (level n) net P.nets P.schedule.visits_are (level (target net p place)) visited rises in
          let moved = subst (λ (q : ℕ). IsMovedBy net q n) (sym first.0) (moved_by_looks net P.elaborated (faultless net P.accepted) p place n looks) in
          inr (record {
            rank = rank;
            there = first.1.there;
            ahead = late n rank other first.1.there first.1.above;
            marked = M.readers_marked n rank other ((P.schedule.readers_are n rank).1 (moved, first.1));
            of = first.0;
            within = le;
          })

  -- what was to come still is, if it isn't past
  pub still_to_come : (from p at : ℕ) → IsToCome visits a from p at → IsToCome visits b from p at
  still_to_come from p at T = record { rank = T.rank; there = T.there; ahead = T.ahead; marked = M.kept T.rank T.marked; of = T.of; within = T.within }
