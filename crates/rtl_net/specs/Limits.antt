-- How large a netlist may be.
use Rattle.std.specs.Prelude.{ℕ}

abbrev pub most_nets : ℕ
most_nets = 1048576

abbrev pub most_processes : ℕ
most_processes = 65536

-- the top and the instances within it
abbrev pub most_scopes : ℕ
most_scopes = 65536
