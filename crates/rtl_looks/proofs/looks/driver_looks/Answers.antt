use Rattle.std.proofs.Common.{[]}
use Rattle.rtl_model.specs.bodies.Assigns.{driver}
use Rattle.rtl_model.specs.bodies.Looks.{first_looks}
use Rattle.rtl_looks.proofs.Joining.{nothing}
use Rattle.rtl_looks.proofs.Walking.{begins}
use Rattle.rtl_looks.proofs.looks.driver_looks.Goals as goal

pub returns : goal.returns
returns c =
    let w = c.in_ok-walk_statements.ensures in
    let first = begins c.args.hubs.now.hubs.items c.new-env.result c.requires c.new-env.ensures.drivers c.new-env.ensures.elements in
    record { grows = w.grows; denotes = λ place. (w.means [] first_looks (nothing c.requires) first).each (driver place) }
