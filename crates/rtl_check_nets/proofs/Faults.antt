-- What a netlist has that has no fault, but perhaps a loop.
use Rattle.std.proofs.Common.{◌≡◌, true, [], sym}
use Rattle.rtl_model.specs.simulation.Netlist.{Netlist}
use Rattle.rtl_model.specs.simulation.Accepted.{Fault, IsFault}
use Rattle.rtl_model.specs.simulation.Faults.{AreFaultsButLoops, is_no_loop}
use Rattle.rtl_model.proofs.basics.Lists.{Contains-none}
use Rattle.rtl_model.proofs.simulation.Faultless.{Faultless, faultless_by}

pub faultless_but_loops : (net : Netlist) → AreFaultsButLoops net [] → Faultless net
faultless_but_loops net none = faultless_by net (λ f is t. Contains-none f ((none.are f).1 (is, t)))
