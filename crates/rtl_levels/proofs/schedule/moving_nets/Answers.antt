use Rattle.std.proofs.Common.{rules, ◌≡◌, ◌+◌, ◌<◌, ◌≤◌, ◌⊎◌, inl, inr, ℕ, List, [], ◌∷◌, ◌++◌, length, get_or, map, ap, sym, subst, ◌∙◌, arith}
use Rattle.std.specs.List.{filter}
use Rattle.std.specs.List.Sorted.{IsPermutation}
use Rattle.std.proofs.lemmas.Bool.{cases_lt}
use Rattle.std.proofs.lemmas.List.{get_or_append_left, get_or_default, get_or_push, length_push}
use Rattle.std.proofs.lemmas.List.Sorted.{IsNonDecreasingBy-from_sort_by_key}
use Rattle.rtl_model.specs.simulation.Netlist.{process}
use Rattle.rtl_body_facts.specs.declared.kinds.ProcessKind.TheVariants.{Combinational, Mixed}
use Rattle.rtl_process_kinds.specs.KindViews.{IsKind}
use Rattle.rtl_net.specs.Core.{core}
use Rattle.rtl_net.specs.declared.process.Process.{Process}
use Rattle.rtl_levels.specs.Scheduled.{AreMoving, beside_level, kind_moves}
use Rattle.rtl_levels.proofs.Clocks.{moves_as}
use Rattle.rtl_levels.proofs.FirstVisits.{are_moving}
use Rattle.rtl_levels.proofs.Wired.{processes_many, wakes_are, wakes_there}
use Rattle.rtl_levels.proofs.schedule.moving_nets.Goals as goal

pub push_moving-requires : goal.push_moving-requires
push_moving-requires c =
    let net = c.args.net.now in
    let p = c.loop-number.number in
    let q = c.index-processes-number.result in
    let there : p < length net.processes = rw (c.processes-processes.ensures) at c.loop-number-test.true in
    let is : q ≡ get_or net.processes p q = c.index-processes-number.is ∙ ap (λ (ps : List Process). get_or ps p q) c.processes-processes.ensures in
    let row : c.as_slice-wakes.result.now ≡ (process (core net) p).wakes = c.as_slice-wakes.ensures ∙ sym (ap (λ (x : Process). x.wakes.items) c.index-processes-number.is) ∙ wakes_are net p q there is in
    rw (row, c.requires.nets) (wakes_there net c.is_elaborated.ensures.in_range p)

pub loop-number-preserved : goal.loop-number-preserved
loop-number-preserved c =
    let net = c.args.net.now in
    let nets = c.args.nets.now in
    let kinds = c.args.kinds.now in
    let p = c.loop-number.number in
    let q = c.index-processes-number.result in
    let I = c.loop-number.invariant in
    let there : p < length net.processes = rw (c.processes-processes.ensures) at c.loop-number-test.true in
    let in_core : p < length (core net).processes = rw (processes_many net) there in
    let is : q ≡ get_or net.processes p q = c.index-processes-number.is ∙ ap (λ (ps : List Process). get_or ps p q) c.processes-processes.ensures in
    let row : c.as_slice-wakes.result.now ≡ (process (core net) p).wakes = c.as_slice-wakes.ensures ∙ sym (ap (λ (x : Process). x.wakes.items) c.index-processes-number.is) ∙ wakes_are net p q there is in
    let kind = get_or kinds p Combinational in
    let same = moves_as (process (core net) p) kind
    (subst (IsKind (process (core net) p)) (sym (get_or_default kinds p Combinational Mixed (rw (c.requires.kinds.each_process) in_core))) (c.requires.kinds.each p in_core)) in
    let pushed = c.in_ok-push_moving.ensures ∙ ap (λ (xs : List (ℕ × ℕ)). xs ++ map (beside_level nets) (filter (kind_moves kind) c.as_slice-wakes.result.now)) c.clear.ensures.items
    ∙ ap (λ (ns : List ℕ). map (beside_level nets) (filter (kind_moves kind) ns)) row in
    let up = IsNonDecreasingBy-from_sort_by_key (λ (m : ℕ × ℕ). m.0) _ c.sort_unstable_by_key.ensures.sorted (λ a r q k. search rules) in
    let sorted = c.sort_unstable_by_key.new.self.items in
    let now : AreMoving (core net) nets p sorted = are_moving (core net) nets p kind same sorted (subst (λ (xs : List (ℕ × ℕ)). IsPermutation xs sorted) pushed c.sort_unstable_by_key.ensures.permutation) up in
    let list = c.deref.result.now in
    let told : AreMoving (core net) nets p list = subst (λ (xs : List (ℕ × ℕ)). AreMoving (core net) nets p xs) (sym c.deref.ensures.value) now in
    rw (c.in_ok-push.ensures.ok)
    (record {
      so_many = omega (arith, length_push c.loop-number.lists list, I.so_many);
      so_far = λ r l. by r l (cases_lt r p) told I.so_many;
    })
  where
    by : (r : ℕ) → r < c.loop-number.number + 1 → (r < c.loop-number.number) ⊎ (c.loop-number.number ≤ r)
        → AreMoving (core c.args.net.now) c.args.nets.now c.loop-number.number c.deref.result.now → length c.loop-number.lists ≡ c.loop-number.number
        → AreMoving (core c.args.net.now) c.args.nets.now r (get_or (c.loop-number.lists ++ c.deref.result.now ∷ []) r [])
    by r l (inl less) told many = rw (get_or_append_left c.loop-number.lists (c.deref.result.now ∷ []) [] r (rw many less)) (c.loop-number.invariant.so_far r less)
    by r l (inr le) told many =
        let e : c.loop-number.number ≡ r = omega (arith, l, le) in
        subst (λ (x : ℕ). AreMoving (core c.args.net.now) c.args.nets.now x (get_or (c.loop-number.lists ++ c.deref.result.now ∷ []) x [])) e
        (rw (get_or_push c.loop-number.lists c.deref.result.now [] c.loop-number.number many) told)

pub returns : goal.returns
returns c =
    let net = c.args.net.now in
    let many : c.loop-number.number ≡ length (core net).processes = omega (arith, c.loop-number-test.false, c.loop-number.auto.number-end, ap (λ (ps : List Process). length ps) c.processes-processes.ensures, processes_many net) in
    record { each_process = c.loop-number.invariant.so_many ∙ many; each = λ p l. c.loop-number.invariant.so_far p (rw (← c.loop-number.invariant.so_many) l) }
