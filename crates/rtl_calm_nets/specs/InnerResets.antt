-- Whether a netlist has a reset that is made inside.
use Rattle.std.specs.Prelude.{ℕ, IsTrue}
use Rattle.rtl_model.specs.simulation.Netlist.{Netlist}
use Rattle.rtl_model.specs.simulation.Accepted.{IsInnerReset}

-- in the wider language a process is reset by a net that some process drives
abbrev pub HasInnerReset : Netlist → Type 0
HasInnerReset net = IsTrue net.wide × ((p : ℕ) × (n : ℕ) × IsInnerReset net p n)
