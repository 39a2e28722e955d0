use Rattle.std.proofs.Common.{◌≡◌, ℕ, ◌<◌, ◌≤◌, List, length, get_or, Option, None, sym, ap, subst, ◌∙◌, arith, All}
use Rattle.std.specs.Prelude.{IsSome}
use Rattle.std.proofs.lemmas.List.{get_or_default, get_or_read}
use Rattle.rtl_check_levels.specs.Feeding.{feeders_of}
use Rattle.rtl_check_levels.specs.Levels.{level_of}
use Rattle.rtl_check_levels.proofs.Placing.{there, feeders_are, feeder, feeder_in, feeder_there, passed_sound, waits_sound, waits_grows, waits_now}
use Rattle.rtl_check_levels.proofs.finding.Finding.place.Goals as goal

pub first_open-at-requires-clause-there : goal.first_open-at-requires-clause-there
first_open-at-requires-clause-there c k d l =
    let table = c.args.table.now in
    let q = c.args.q in
    let f = feeders_are table q c.index-table-q.result c.in-Some.feeders c.requires.there c.index-table-q.is c.in-Some.is in
    let e : feeders_of table q ≡ c.as_slice-feeders.result.now = f ∙ sym c.as_slice-feeders.ensures in
    let m = subst (λ (xs : List ℕ). All (λ p. p < length table) xs) e (there table q c.requires.closed) k d l in
    let n = c.requires.sound.levels.each_row in
    let o = ap length c.deref.ensures.value in
    omega arith

pub wait-requires : goal.wait-requires
wait-requires c =
    let table = c.args.table.now in
    let q = c.args.q in
    let at = c.first_open-at.result in
    let fs = c.as_slice-feeders.result.now in
    let f = feeders_are table q c.index-table-q.result c.in-Some.feeders c.requires.there c.index-table-q.is c.in-Some.is ∙ sym c.as_slice-feeders.ensures in
    let within : at < length fs = omega (arith, c.first_open-at.ensures.within, c.if-at-feeders.false) in
    feeder_in table c.args.self.now q at _ fs c.requires.closed f within (get_or_default fs at _ _ within) c.requires.sound.waiting.each_last

pub returns-clause-sound : goal.returns-clause-sound
returns-clause-sound c =
    let table = c.args.table.now in
    let s = c.args.self.now in
    let q = c.args.q in
    let at = c.first_open-at.result in
    let fs = c.as_slice-feeders.result.now in
    let f = feeders_are table q c.index-table-q.result c.in-Some.feeders c.requires.there c.index-table-q.is c.in-Some.is ∙ sym c.as_slice-feeders.ensures in
    let within : at < length fs = omega (arith, c.first_open-at.ensures.within, c.if-at-feeders.false) in
    let w = c.deref.ensures.value in
    let k = c.requires.sound.waiting.each_passed in
    let there_q = c.requires.there in
    let in_passed : q < length s.passed.items = omega arith in
    let old : get_or s.passed.items q 0 ≡ c.index-2.result.now = sym (get_or_read s.passed.items q c.index-2.result.now in_passed c.index-2.ensures 0) in
    let open_now : level_of c.deref.result.now (get_or fs at 0) ≡ None = c.first_open-at.ensures.open within in
    let open_at : level_of s.levels.items (get_or fs at 0) ≡ None
    = subst (λ (ls : List (Option ℕ)). level_of ls (get_or fs at 0) ≡ None) w open_now in
    let has : (k : ℕ) → get_or s.passed.items q 0 ≤ k → k < at → IsSome (level_of s.levels.items (get_or fs k 0))
    = (λ k l m. subst (λ (ls : List (Option ℕ)). IsSome (level_of ls (get_or fs k 0))) w (c.first_open-at.ensures.passed k (subst (λ (n : ℕ). n ≤ k) old l) m)) in
    waits_sound q _ _ c.wait.new.self c.in_ok-wait.ensures c.args.counting table (record {
      levels = c.requires.sound.levels;
      waiting = passed_sound table s q at (get_or fs at 0) fs c.requires.closed f within (get_or_default fs at 0 _ within) c.requires.sound.waiting there_q has;
    }) (feeder_there table s q at _ fs c.requires.closed f within (get_or_default fs at _ _ within)) there_q
    (subst (λ (x : ℕ). level_of s.levels.items x ≡ None) (get_or_default fs at 0 _ within) open_at)

pub returns-clause-grows : goal.returns-clause-grows
returns-clause-grows c =
    let table = c.args.table.now in
    let s = c.args.self.now in
    let q = c.args.q in
    let at = c.first_open-at.result in
    let fs = c.as_slice-feeders.result.now in
    let f = feeders_are table q c.index-table-q.result c.in-Some.feeders c.requires.there c.index-table-q.is c.in-Some.is ∙ sym c.as_slice-feeders.ensures in
    let within : at < length fs = omega (arith, c.first_open-at.ensures.within, c.if-at-feeders.false) in
    let g = waits_grows q _ _ c.wait.new.self c.in_ok-wait.ensures
    (feeder_in table s q at _ fs c.requires.closed f within (get_or_default fs at _ _ within) c.requires.sound.waiting.each_last) in
    record { levels = g.levels; longer = g.longer; among = g.among; waits = g.waits; less = g.less }

pub returns-clause-placed : goal.returns-clause-placed
returns-clause-placed c =
    let table = c.args.table.now in
    let s = c.args.self.now in
    let q = c.args.q in
    let at = c.first_open-at.result in
    let fs = c.as_slice-feeders.result.now in
    let f = feeders_are table q c.index-table-q.result c.in-Some.feeders c.requires.there c.index-table-q.is c.in-Some.is ∙ sym c.as_slice-feeders.ensures in
    let within : at < length fs = omega (arith, c.first_open-at.ensures.within, c.if-at-feeders.false) in
    λ _ _. (
      _,
      waits_now q _ _ c.wait.new.self c.in_ok-wait.ensures
          (feeder_in table s q at _ fs c.requires.closed f within (get_or_default fs at _ _ within) c.requires.sound.waiting.each_last),
      feeder table s q at _ fs c.requires.closed f within (get_or_default fs at _ _ within),
    )
