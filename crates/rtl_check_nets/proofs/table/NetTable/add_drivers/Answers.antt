use Rattle.std.proofs.Common.{◌≡◌, ℕ, ◌+◌, ◌∷◌, [], List, length, Option, get_or, drop, sym, subst, refl, ◌∙◌}
use Rattle.std.proofs.lemmas.List.{drop_more, drop_all}
use Rattle.rtl_net.specs.declared.process.Driver.{Driver}
use Rattle.rtl_looks.specs.declared.hubs.Look.{Look}
use Rattle.rtl_check_nets.specs.Building.{AddsDriver, AddsDrivers, none, more}
use Rattle.rtl_check_nets.proofs.table.NetTable.add_drivers.Goals as goal

abbrev none_driver : Driver
none_driver = record { net = 0; start = 0 }

pub loop-place-preserved : goal.loop-place-preserved
loop-place-preserved c =
    let v = c.loop-place.invariant in
    let a = c.in_ok-add_driver.ensures in
    let place = c.loop-place.place in
    let ds = c.args.drives.now in
    let old = c.loop-place.self in
    let d : Driver = get_or ds place none_driver in
    let b = subst (λ (o : Option Look). AddsDriver c.args.nets d.net o old c.add_driver.new.self) c.look_of.ensures a in
    record {
      each = a.each ∙ v.each;
      each_count = a.each_count ∙ v.each_count;
      adds = λ new h. v.adds new
          (subst (λ (xs : List Driver). AddsDrivers c.args.nets c.args.looks.now place xs old new) (sym (drop_more ds place none_driver c.loop-place-test.true))
          (more place d (drop (place + 1) ds) old c.add_driver.new.self new b h));
    }

pub returns : goal.returns
returns c =
    let self = c.loop-place.self in
    let place = c.loop-place.place in
    c.loop-place.invariant.adds self
    (subst (λ (xs : List Driver). AddsDrivers c.args.nets c.args.looks.now place xs self self) (sym (drop_all place c.args.drives.now c.loop-place-test.false)) (none place self))
