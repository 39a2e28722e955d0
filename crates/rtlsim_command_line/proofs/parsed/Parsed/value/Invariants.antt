use Rattle.std.proofs.Common.{◌≡◌, map, drop}
use Rattle.rtlsim_command_line.specs.Words.{use_view, value}
use Rattle.rtlsim_command_line.proofs.parsed.Parsed.value.Given as goal

-- the first value is that of those that are left
abbrev pub invariant-loop-given : goal.invariant-loop-given
invariant-loop-given l =
    value (map use_view (drop l.given-index l.self.uses.items)) l.name ≡ value (map use_view l.self.uses.items) l.name
