use Rattle.std.proofs.Common.{◌<◌, List, get_or, length, take, arith, subst}
use Rattle.std.proofs.lemmas.List.{map_more, take_all}
use Rattle.rtl_kernel.specs.drivers.Transactions.{nets_of}
use Rattle.rtl_net.specs.declared.process.Driver.{Driver}
use Rattle.rtl_levels.specs.Scheduled.{GetLevel}
use Rattle.rtl_levels.proofs.Leveling.{get_more, get_none, net_among, no_driver}
use Rattle.rtl_levels.proofs.levels.set_levels.Goals as goal

pub index_mut-requires : goal.index_mut-requires
index_mut-requires c =
    let old = c.args.nets.now.items in
    omega (arith, net_among (λ n. n < length old) c.args.drives.now c.loop-driver.driver-index c.requires c.loop-driver-test.true, c.loop-driver.invariant.as_many, c.loop-driver.nets.ok.0)

pub loop-driver-init : goal.loop-driver-init
loop-driver-init c = get_none c.args.level c.args.nets.now.items

pub loop-driver-preserved : goal.loop-driver-preserved
loop-driver-preserved c =
    let drives = c.args.drives.now in
    let i = c.loop-driver.driver-index in
    let level = c.args.level in
    let old = c.args.nets.now.items in
    let now = c.loop-driver.nets.items in
    let I = c.loop-driver.invariant in
    let n = (get_or drives i no_driver).net in
    let there : n < length now = rw (I.as_many) (net_among (λ n. n < length old) drives i c.requires c.loop-driver-test.true) in
    rw (map_more (λ (d : Driver). d.net) drives i no_driver c.loop-driver-test.true) (get_more (nets_of (take i drives)) n level old now there I)

pub returns : goal.returns
returns c =
    subst (λ (ds : List Driver). GetLevel (nets_of ds) c.args.level c.args.nets.now.items c.loop-driver.nets.items)
    (take_all c.loop-driver.driver-index c.args.drives.now c.loop-driver-test.false) c.loop-driver.invariant
