use Rattle.std.proofs.Common.{◌++◌, ◌∷◌, [], ap, sym, ◌∙◌}
use Rattle.std.specs.Result.{is_ok}
use Rattle.rtl_agenda.proofs.Maps.{waiting_kept, waiting_more, waiting_new, in_order_written, in_order_inserted}
use Rattle.rtl_agenda.proofs.Ordering.{if_err}
use Rattle.rtl_agenda.proofs.time_map.TimeMap.push.Goals as goal

pub invariant_of-self : goal.invariant_of-self
invariant_of-self c =
    let s = c.args.self.now in
    record {
      in_order = in_order_written s.times (c.get_mut.follows.lender c.push.new.self) c.args.time c.args.change s.in_order c.in-Some.changes.now c.push.new.self (is_ok c.push.result)
          c.get_mut.ensures.ordered (sym c.in-Some.ensures.value) (c.get_mut.follows.holds c.push.new.self).0 c.push.ensures.items;
    }

pub returns-in_err-push-clause-refused : goal.returns-in_err-push-clause-refused
returns-in_err-push-clause-refused c =
    let s = c.args.self.now in
    if_err c.from_residual.result
    (waiting_kept s.times (c.get_mut.follows.lender c.push.new.self) c.args.time c.in-Some.changes.now c.push.new.self c.get_mut.ensures.ordered (sym c.in-Some.ensures.value)
    (c.get_mut.follows.holds c.push.new.self).0 c.in_err-push.ensures.items)

pub returns-in-Some-clause-ok : goal.returns-in-Some-clause-ok
returns-in-Some-clause-ok c =
    let s = c.args.self.now in
    waiting_more s.times (c.get_mut.follows.lender c.push.new.self) c.args.time c.args.change c.in-Some.changes.now c.push.new.self c.get_mut.ensures.ordered (sym c.in-Some.ensures.value)
    (c.get_mut.follows.holds c.push.new.self).0 c.in_ok-push.ensures.items

pub invariant_of-self-2 : goal.invariant_of-self-2
invariant_of-self-2 c =
    let s = c.args.self.now in
    let none = ap (λ m. m.entries) c.get_mut.follows.holds-at-none in
    record {
      in_order = in_order_inserted s.times c.insert.new.self c.args.time c.args.change s.in_order c.push-2.new.self c.insert.result (sym c.in_default.ensures.value) (rw none at c.insert.ensures.entries)
          (rw none at c.insert.ensures.err) (c.in_ok-push-2.ensures.items ∙ ap (λ cs. cs ++ c.args.change ∷ []) c.new-changes.ensures.items);
    }

pub returns-clause-ok : goal.returns-clause-ok
returns-clause-ok c =
    let s = c.args.self.now in
    let none = ap (λ m. m.entries) c.get_mut.follows.holds-at-none in
    waiting_new s.times c.insert.new.self c.args.time c.args.change c.push-2.new.self (sym c.in_default.ensures.value) (rw none at c.in_ok-insert.ensures.entries)
    (c.in_ok-push-2.ensures.items ∙ ap (λ cs. cs ++ c.args.change ∷ []) c.new-changes.ensures.items)
