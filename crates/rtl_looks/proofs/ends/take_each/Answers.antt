use Rattle.std.proofs.Common.{◌≡◌, ◌↔◌, ℕ, ◌<◌, Option, IsSome, length, subst, arith}
use Rattle.rtl_looks.specs.declared.hubs.Look.{Look}
use Rattle.rtl_looks.specs.Parts.{TakesEnd}
use Rattle.rtl_looks.proofs.Maps.{none_left}
use Rattle.rtl_looks.proofs.Parting.{takes_none, takes_more, takes_all}
use Rattle.rtl_looks.proofs.ends.take_each.Goals as goal

pub loop-change-init : goal.loop-change-init
loop-change-init c = takes_none c.args.hubs.now.hubs.items c.args.parts c.args.table.now.looks.items c.args.changes.now.items c.args.ends.now

pub loop-change-preserved : goal.loop-change-preserved
loop-change-preserved c =
    takes_more _ _ _ _ _ _ _ _ _ _ _ _ _ c.in-Some.change c.loop-change.invariant c.in-Some.ensures.items c.in_ok-set.ensures
    (subst (λ (o : Option Look). TakesEnd c.loop-change.hubs.hubs.items c.take_end.new.hubs.hubs.items c.in-Some.change.number c.args.parts o c.loop-change.ends c.take_end.new.ends) c.at-look.ensures c.in_ok-take_end.ensures)

pub returns : goal.returns
returns c =
    let changes = c.loop-change.changes in
    let n : changes.len ≡ length changes.items = (let o = changes.ok in omega arith) in
    takes_all _ _ _ _ _ (none_left changes.items c.pop.result (subst (λ (m : ℕ). IsSome c.pop.result ↔ (0 < m)) n c.pop.ensures.variant) c.in_default.is) c.loop-change.invariant
