use Rattle.std.proofs.Common.{Fits, w32, sym, arith, rules}
use Rattle.vhdl_connect_processes.proofs.Searched.{place_there, place_below, not_there}
use Rattle.vhdl_connect_processes.proofs.connection.Connection.place.Goals as goal

pub overflow_cast-result : goal.overflow_cast-result
overflow_cast-result c =
    let below = place_below c.args.self.now.drives.now c.args.element c.in-Ok.place c.requires c.in-Ok.ensures.position in
    let word : Fits w32 c.args.element = search rules in
    omega (arith, below, word)

pub returns-in-Ok : goal.returns-in-Ok
returns-in-Ok c = λ _. sym (place_there c.args.self.now.drives.now c.args.element c.in-Ok.place c.requires c.in-Ok.ensures.position)

pub returns-in-Err : goal.returns-in-Err
returns-in-Err c = λ h. absurd (not_there c.args.self.now.drives.now c.args.element _ c.requires c.in-Err.ensures.position h)
