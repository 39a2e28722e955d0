use Rattle.std.proofs.Common.{arith, ◌≤◌, ◌++◌, length, replicate, None, refl, ap, ◌∙◌}
use Rattle.std.specs.Prelude.{flat_map}
use Rattle.vhdl_names_units.specs.views.Actuals.{behind_open}
use Rattle.vhdl_names_units.proofs.Listing.{one_listed, all_listed}
use Rattle.vhdl_names_units.proofs.actuals.Actuals.listed.Goals as goal

pub loop-actual-preserved : goal.loop-actual-preserved
loop-actual-preserved g c =
    one_listed c.deref-actual-items.result.now c.loop-actual.actual-index c.actual-item.result c.loop-actual.list.items c.push_open.new.list.items c.push.new.self.items _
    c.loop-actual-test.true c.actual-item.is c.loop-actual.invariant c.in_ok-push_open.ensures c.in_ok-push.ensures.items refl

pub returns : goal.returns
returns g c =
    let past : length c.deref-actual-items.result.now ≤ c.loop-actual.actual-index = omega arith in
    all_listed c.deref-actual-items.result.now c.loop-actual.actual-index c.loop-actual.list.items c.push_open-2.new.list.items _ past c.loop-actual.invariant c.in_ok-push_open-2.ensures
    ∙ ap (λ given. flat_map behind_open given ++ replicate c.args.self.now.open None) c.deref-actual-items.ensures.value
