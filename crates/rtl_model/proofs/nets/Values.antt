-- Resolution leaves one value as it is, and an edge is an event.
use Rattle.std.proofs.Common.{◌≡◌, ℕ, false, refl}
use Rattle.std.proofs.lemmas.Bool.{eq-eqb}
use Rattle.vhdl_values.specs.Scalar.{code_of, value_of_code}
use Rattle.rtl_model.specs.simulation.Netlist.{Edge, Rising}
use Rattle.rtl_model.specs.simulation.Elaborated.{HasValues}
use Rattle.rtl_model.specs.nets.FlatNetlist.{FlatNetlist}
use Rattle.rtl_model.specs.nets.CoreNetlist.{core_edges, core_netlist}

edges_differ : (edge : Edge) (v : ℕ) → core_edges edge v v ≡ false
edges_differ Rising v = rw (eq-eqb (code_of (value_of_code v)) (code_of (value_of_code v)) refl) refl
edges_differ _ v = rw (eq-eqb (code_of (value_of_code v)) (code_of (value_of_code v)) refl) refl

pub has_values : (net : FlatNetlist) → HasValues (core_netlist net)
has_values net = record { one_resolves = λ v. refl; edges_differ = edges_differ }
