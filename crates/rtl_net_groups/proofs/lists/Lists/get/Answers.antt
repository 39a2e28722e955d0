use Rattle.std.proofs.Common.{◌≡◌, ◌<◌, ◌+◌, ◌≤◌, ℕ, List, length, get_or, arith, ap}
use Rattle.rtl_net_groups.specs.Lists.{lists_of, EndAt}
use Rattle.rtl_net_groups.proofs.Starts.{length-lists_of, ends_below, ends_rise, list_at, start_read}
use Rattle.rtl_net_groups.proofs.lists.Lists.get.Goals as goal

module _ {X : Type 0} (starts : List ℕ) (items : List X) (lists : List (List X)) (place : ℕ) (is : lists_of starts items ≡ lists) (E : EndAt starts (length items)) (there : place < length lists) where
  next : place + 1 < length starts
  next =
      let all = length-lists_of starts (length items) items E in
      let below = rw (← is) at there in
      omega (arith, all, below)

  module _ (start end : ℕ) (first : start ≡ get_or starts place start) (last : end ≡ get_or starts (place + 1) end) where
    rise : start ≤ end
    rise =
        let from = start_read starts place start (omega (arith, next)) first in
        let to = start_read starts (place + 1) end next last in
        omega (arith, from, to, ends_rise starts (length items) place E next)

    within : end ≤ length items
    within = let to = start_read starts (place + 1) end next last in omega (arith, to, ends_below starts (length items) (place + 1) E next)

pub index-requires : goal.index-requires
index-requires g c = let after = next _ _ _ c.args.place c.self.view_is c.self.invariant c.requires in omega (arith, after, c.self.inside.starts.ok.0)

pub overflow_add-place : goal.overflow_add-place
overflow_add-place g c = let after = next _ _ _ c.args.place c.self.view_is c.self.invariant c.requires in omega (arith, after, c.self.inside.starts.ok.0)

pub index-requires-2 : goal.index-requires-2
index-requires-2 g c = let after = next _ _ _ c.args.place c.self.view_is c.self.invariant c.requires in omega (arith, after, c.self.inside.starts.ok.0)

pub slice_bounds-result-count : goal.slice_bounds-result-count
slice_bounds-result-count g c = rise _ _ _ c.args.place c.self.view_is c.self.invariant c.requires _ _ c.index.ensures c.index-2.ensures

pub slice_bounds-result-start : goal.slice_bounds-result-start
slice_bounds-result-start = slice_bounds-result-count

pub slice_bounds-result-end : goal.slice_bounds-result-end
slice_bounds-result-end g c =
    let end = within _ _ _ c.args.place c.self.view_is c.self.invariant c.requires _ _ c.index.ensures c.index-2.ensures in
    omega (arith, end, ap length c.deref.ensures.value)

pub offset_bounds-deref-index : goal.offset_bounds-deref-index
offset_bounds-deref-index g c =
    let before : c.index.result.now ≤ c.index-2.result.now = slice_bounds-result-count g c in
    let end = within _ _ _ c.args.place c.self.view_is c.self.invariant c.requires _ _ c.index.ensures c.index-2.ensures in
    omega (arith, before, end, ap length c.deref.ensures.value)

pub returns : goal.returns
returns g c =
    let starts = c.self.inside.starts.items in
    let items = c.self.inside.items.items in
    let place = c.args.place in
    let after = next starts items _ place c.self.view_is c.self.invariant c.requires in
    let start = start_read starts place _ (omega (arith, after)) c.index.ensures in
    rw (← c.self.view_is, list_at starts items place after, start, start_read starts (place + 1) _ after c.index-2.ensures, c.deref.ensures.value)
