use Rattle.std.proofs.Common.{◌≡◌, ◌≤◌, drop}
use Rattle.rtlsim_command_line.specs.Settings.{greatest, number_behind}
use Rattle.rtlsim_command_line.proofs.generics.number_of.Given as goal

-- the digits so far, and those that are left behind them
abbrev pub invariant-loop-byte : goal.invariant-loop-byte
invariant-loop-byte l = (number_behind 0 l.digits ≡ number_behind l.number (drop l.byte-index l.digits)) × (l.number ≤ greatest)
