-- Which of two faults is told.
use Rattle.std.specs.Prelude.{nat_lt, if◌then◌else◌}
use Rattle.vhdl_names_rules.specs.declared.fault.NameFault.{NameFault}
use Rattle.vhdl_names_rules.specs.declared.fault.NameFault.TheVariants.{At, NoMemory}

-- the earlier one in the text, the first of two at one byte; want of memory comes before all
abbrev pub earlier : NameFault → NameFault → NameFault
earlier NoMemory other = NoMemory
earlier (At problem at) NoMemory = NoMemory
earlier (At problem at) (At besides place) = if nat_lt place at then At besides place else At problem at
