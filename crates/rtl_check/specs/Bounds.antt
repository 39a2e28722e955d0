-- What the bound on delta cycles asks of one process and of one kind.
use Rattle.std.specs.Prelude.{ℕ, Bool, ◌&&◌, if◌then◌else◌}
use Rattle.std.specs.Option.{is_some}
use Rattle.rtl_model.specs.simulation.Netlist.{Netlist, Process, kind_reset}
use Rattle.rtl_process_kinds.specs.Drivers.{follows_driver}

-- it has a reset, and is sensitive to a net that a process drives
abbrev pub is_late : Netlist → Process → Bool
is_late net p = is_some (kind_reset p.kind) && follows_driver net p

abbrev pub one_if : Bool → ℕ
one_if b = if b then 1 else 0
