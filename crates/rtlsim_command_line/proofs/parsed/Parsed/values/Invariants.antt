use Rattle.std.proofs.Common.{◌≡◌, ◌++◌, map, drop}
use Rattle.rtlsim_command_line.specs.Words.{text_of, use_view, values}
use Rattle.rtlsim_command_line.proofs.parsed.Parsed.values.Given as goal

-- those before and those that are left are all
abbrev pub invariant-loop-given : goal.invariant-loop-given
invariant-loop-given l =
    map text_of l.values.items ++ values (map use_view (drop l.given-index l.self.uses.items)) l.name
    ≡ values (map use_view l.self.uses.items) l.name
