use Rattle.std.proofs.Common.{◌≡◌, ℕ, ◌+◌, ◌<◌, List, length, set, Option, Some, sym, subst, arith}
use Rattle.rtl_check_levels.specs.declared.counting.Counting.{Counting}
use Rattle.rtl_check_levels.specs.Feeding.{feeders_of, counts_in}
use Rattle.rtl_check_levels.specs.Levels.{IsHighest, IsSeen, level_of}
use Rattle.rtl_check_levels.specs.Finding.{LevelsSoFar, WaitingSoFar}
use Rattle.rtl_check_levels.proofs.Growing.{some_within}
use Rattle.rtl_check_levels.proofs.Settling.{settled_levels, below_fits, level_other, levels_grow, is_seen, most_one}
use Rattle.rtl_check_levels.proofs.Waiting.{waiting_settled}
use Rattle.rtl_check_levels.proofs.finding.Finding.settle.Goals as goal

moved : (counting : Counting) (fs gs : List ℕ) (ls ms from other : List (Option ℕ)) (b : ℕ) (p : Option ℕ) → gs ≡ fs → ms ≡ ls → other ≡ from → IsHighest counting gs ms other b p → IsHighest counting fs ls from b p
moved counting fs gs ls ms from other b p d e f h = rw (sym d, sym e, sym f) h

pub highest_of-below-requires-clause-seen : goal.highest_of-below-requires-clause-seen
highest_of-below-requires-clause-seen c p level e =
    let s = c.args.self.now in
    let stands = c.requires.sound.levels.stand p level (subst (λ (ls : List (Option ℕ)). level_of ls p ≡ Some level) c.deref.ensures.value e) in
    subst (λ (fr : List (Option ℕ)). IsSeen c.args.counting fr p level) (sym c.deref-2.ensures.value) (is_seen c.args.counting c.args.table.now s.levels.items s.from.items p level stands)

pub overflow_add-level : goal.overflow_add-level
overflow_add-level c =
    let s = c.requires.sound.levels in
    let h = moved c.args.counting (feeders_of c.args.table.now c.args.q) _ c.args.self.now.levels.items _ c.args.self.now.from.items _ _ _ c.requires.feeders c.deref.ensures.value c.deref-2.ensures.value c.highest_of-below.ensures in
    let l = below_fits c.args.counting c.args.table.now _ _ _ c.args.q _ _ s c.requires.inside c.requires.unsettled h in
    let m = most_one c.as_level.result (counts_in c.args.counting c.args.q) c.as_level.ensures in
    omega arith

pub returns-clause-sound : goal.returns-clause-sound
returns-clause-sound c =
    let s = c.requires.sound in
    let table = c.args.table.now in
    let levels = c.args.self.now.levels.items in
    let from = c.args.self.now.from.items in
    let q = c.args.q in
    let below = c.highest_of-below.result in
    let counting = c.args.counting in
    let more = c.as_level.result in
    let h = moved counting (feeders_of table q) _ levels _ from _ _ _ c.requires.feeders c.deref.ensures.value c.deref-2.ensures.value c.highest_of-below.ensures in
    let l = some_within table q c.requires.inside in
    let within : q < length levels = (let e = s.levels.each_row in omega arith) in
    let later = set levels q (Some (below.level + more)) in
    let m = c.max-self.ensures in
    let items = c.in_ok-push.ensures.items in
    record {
      levels = (let n = settled_levels counting table levels from c.args.self.now.greatest q below.level more below.row s.levels c.requires.inside c.requires.unsettled c.as_level.ensures h in
          subst (λ (g : ℕ). LevelsSoFar counting table later (set from q below.row) g) (sym m) n);
      waiting = subst (λ (r : List ℕ). WaitingSoFar table later c.args.self.now.waits.items c.args.self.now.last.items r c.args.self.now.passed.items) (sym items)
          (waiting_settled table levels c.args.self.now.waits.items c.args.self.now.last.items c.args.self.now.ready.items c.args.self.now.passed.items s.waiting later q l
          (λ p ne. level_other levels q (below.level + more) within p ne) (levels_grow levels q (below.level + more) within c.requires.unsettled));
    }
