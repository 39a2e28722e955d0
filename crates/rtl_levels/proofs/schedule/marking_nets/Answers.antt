use Rattle.std.proofs.Common.{◌≡◌, ℕ, List, [], length, get_or, ap, sym, subst, ◌∙◌, arith}
use Rattle.std.specs.List.Sorted.{IsNonDecreasingBy}
use Rattle.std.proofs.lemmas.List.{get_or_default}
use Rattle.std.proofs.lemmas.List.Elements.{All-get_or}
use Rattle.rtl_levels.specs.Scheduled.{AddsBelow}
use Rattle.rtl_levels.specs.Visits.{no_visit}
use Rattle.rtl_levels.proofs.FirstVisits.{AreTaken, all_marked, more_taken, none_taken}
use Rattle.rtl_levels.proofs.Leveling.{all_same}
use Rattle.rtl_levels.proofs.schedule.marking_nets.Goals as goal

pub loop-visit-init : goal.loop-visit-init
loop-visit-init c =
    let zeros = c.in_ok-taken.ensures.items_if_clones_equal (λ y e. e) in
    rw (c.in_ok-lists.ensures)
    (none_taken c.args.moving.now c.args.visits.now c.in_ok-taken.taken.items (omega (arith, c.in_ok-taken.ensures.len, c.in_ok-taken.taken.ok.0, c.count.ensures))
    (λ p. ap (λ (xs : List ℕ). get_or xs p 0) zeros ∙ all_same _ p 0))

pub get-nets-requires : goal.get-nets-requires
get-nets-requires c = c.requires.processes c.loop-visit.visit-index no_visit c.loop-visit-test.true

pub index-requires : goal.index-requires
index-requires c =
    let l = c.requires.processes c.loop-visit.visit-index no_visit c.loop-visit-test.true in
    omega (arith, l, c.loop-visit.invariant.each_process)

pub push_below-requires : goal.push_below-requires
push_below-requires c =
    let p = (get_or c.args.visits.now c.loop-visit.visit-index no_visit).process in
    let l = c.requires.processes c.loop-visit.visit-index no_visit c.loop-visit-test.true in
    let T = c.loop-visit.invariant in
    let within = T.within p in
    let read = get_or_default c.loop-visit.taken.items p c.index.result.now 0 (rw (T.each_process) l) in
    omega (arith, within, read, c.index.ensures, ap (λ (xs : List (ℕ × ℕ)). length xs) c.get-nets.ensures)

pub loop-visit-preserved : goal.loop-visit-preserved
loop-visit-preserved c =
    let moving = c.args.moving.now in
    let visits = c.args.visits.now in
    let i = c.loop-visit.visit-index in
    let visit = get_or visits i no_visit in
    let p = visit.process in
    let taken = c.loop-visit.taken.items in
    let T = c.loop-visit.invariant in
    let l = c.requires.processes i no_visit c.loop-visit-test.true in
    let read = c.index.ensures ∙ get_or_default taken p c.index.result.now 0 (rw (T.each_process) l) in
    let end = c.in_ok-end.end in
    let list = c.deref.result.now in
    let A = subst (λ (ms : List (ℕ × ℕ)). AddsBelow ms (get_or taken p 0) visit.level end [] list) c.get-nets.ensures
    (subst (λ (f : ℕ). AddsBelow c.get-nets.result.now f visit.level end [] list) read
    (subst (λ (old : List ℕ). AddsBelow c.get-nets.result.now c.index.result.now visit.level end old list) c.clear.ensures.items
    (subst (λ (new : List ℕ). AddsBelow c.get-nets.result.now c.index.result.now visit.level end c.clear.new.self.items new) (sym c.deref.ensures.value) c.in_ok-end.ensures))) in
    rw (c.in_ok-push.ensures.ok)
    (more_taken moving visits i taken c.loop-visit.lists T c.loop-visit-test.true l (All-get_or (IsNonDecreasingBy (λ (m : ℕ × ℕ). m.0)) moving p [] l c.requires.in_order) end list A)

pub returns : goal.returns
returns c =
    let moving = c.args.moving.now in
    let visits = c.args.visits.now in
    let all : c.loop-visit.visit-index ≡ length visits = omega (arith, c.loop-visit-test.false, c.loop-visit.auto.visit-index-end) in
    all_marked moving visits c.loop-visit.taken.items c.loop-visit.lists (subst (λ (n : ℕ). AreTaken moving visits n c.loop-visit.taken.items c.loop-visit.lists) all c.loop-visit.invariant)
