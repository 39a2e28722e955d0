use Rattle.std.proofs.Common.{◌≡◌, ℕ, Bool, false, List, length, get_or, nat_lt, filter, sym, ap, subst, ◌∙◌}
use Rattle.rtl_model.specs.simulation.Netlist.{Netlist}
use Rattle.rtl_model.specs.simulation.Accepted.{IsNetLoop}
use Rattle.rtl_net.specs.Core.{core}
use Rattle.rtl_check_levels.specs.declared.counting.Counting.TheVariants.{Marked}
use Rattle.rtl_check_levels.specs.declared.order.LevelOrder.{LevelOrder}
use Rattle.rtl_check_levels.specs.Feeding.{Table, Feeds, IsIn}
use Rattle.rtl_check_levels.specs.Orders.{IsOrderBy}
use Rattle.rtl_check_levels.specs.Rounds.{IsListedOnce}
use Rattle.rtl_check_nets.specs.Rows.{IsNetTable}
use Rattle.rtl_check_nets.proofs.Circles.{loop_among}
use Rattle.rtl_check_nets.proofs.order.net_order_of.Goals as goal

moved : (net : Netlist) (ts us : Table) (cs bs : List Bool) → us ≡ ts → bs ≡ cs → IsNetTable net ts (λ row. get_or cs row false) → IsNetTable net us (λ row. get_or bs row false)
moved net ts us cs bs e f t = rw (e, f) t

pub order_by-requires-clause-closed : goal.order_by-requires-clause-closed
order_by-requires-clause-closed c p q feeds =
    let t = c.in_ok-table.ensures in
    let e = c.deref-2.ensures.value in
    subst (λ (rows : Table). IsIn rows p) (sym e) (t.each_row p (t.within p q (subst (λ (rows : Table). Feeds rows p q) e feeds)))

pub levels_of-requires-clause-rows : goal.levels_of-requires-clause-rows
levels_of-requires-clause-rows c = record {
  table = c.deref-2.result.now;
  counting = Marked c.deref.result;
  is_table = moved (core c.args.net.now) _ _ _ _ c.deref-2.ensures.value c.deref.ensures.value c.in_ok-table.ensures;
  are_levels = subst (IsOrderBy (Marked c.deref.result) c.deref-2.result.now) c.in-Leveled.is c.in_ok-levels.ensures;
}

pub returns : goal.returns
returns c =
    let net = c.args.net.now in
    let table = moved (core net) _ _ _ _ c.deref-2.ensures.value c.deref.ensures.value c.in_ok-table.ensures in
    let order = subst (IsOrderBy (Marked c.deref.result) c.deref-2.result.now) c.in-Looped.is c.in_ok-levels.ensures in
    let nets = c.nets.ensures.count ∙ sym c.nets.ensures.elaborated.in_range.each_starts in
    let among = c.in_ok-nets_among-in-Looped.ensures ∙ (λ i. filter (λ row. nat_lt row (nets i)) (c.deref-in-Looped.ensures.value i)) in
    subst (λ (ns : List ℕ). IsNetLoop (core net) ns × IsListedOnce ns) (sym among)
    (loop_among (core net) c.deref-2.result.now (λ row. get_or c.deref.result.now row false) table c.in-Looped.rows.items order.0 order.1)
