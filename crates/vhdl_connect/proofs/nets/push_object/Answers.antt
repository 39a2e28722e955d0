use Rattle.std.proofs.Common.{◌≡◌, ◌+◌, ◌++◌, ap, subst}
use Rattle.std.specs.Prelude.{option_map, IfOk, OnOk}
use Rattle.std.specs.List.{range_with_len}
use Rattle.vhdl_expand_tree.specs.Views.{object_view}
use Rattle.vhdl_connect.proofs.Numbered.{actual_next, actual_nets, own_next, own_nets}
use Rattle.vhdl_connect.proofs.nets.push_object.Goals as goal

pub returns-in-Some-clause-next : goal.returns-in-Some-clause-next
returns-in-Some-clause-next c =
    actual_next c.args.above.now c.args.first (object_view c.args.object.now) c.push_actual.result c.in-Some.actual.items (ap (option_map (λ v. v.items)) c.in-Some.is) c.push_actual.ensures.next

pub returns-in-Some-clause-nets : goal.returns-in-Some-clause-nets
returns-in-Some-clause-nets c =
    actual_nets c.args.above.now c.args.first (object_view c.args.object.now) c.push_actual.result c.in-Some.actual.items c.deref.result.now c.args.nets.now.items c.push_actual.new.nets.items
    (ap (option_map (λ v. v.items)) c.in-Some.is) c.deref.ensures.value c.push_actual.ensures.nets

pub returns-in-None : goal.returns-in-None
returns-in-None c =
    let o = object_view c.args.object.now in
    let a = ap (option_map (λ v. v.items)) c.in-None.is in
    let r = c.push_own.result in
    record {
      next = own_next c.args.above.now c.args.first o r a (subst (λ n. IfOk r (λ next. next ≡ c.args.first + n)) c.size.ensures c.push_own.ensures.next);
      nets = own_nets c.args.above.now c.args.first o r c.args.nets.now.items c.push_own.new.nets.items a
          (subst (λ n. OnOk r (c.push_own.new.nets.items ≡ c.args.nets.now.items ++ range_with_len c.args.first n)) c.size.ensures c.push_own.ensures.nets);
    }
