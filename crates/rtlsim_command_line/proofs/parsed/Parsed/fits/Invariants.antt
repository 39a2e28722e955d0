use Rattle.std.proofs.Common.{◌≡◌, map, drop}
use Rattle.rtlsim_command_line.specs.Words.{fits, row_of, use_view}
use Rattle.rtlsim_command_line.proofs.parsed.Parsed.fits.Given as goal

-- those before fit
abbrev pub invariant-loop-part : goal.invariant-loop-part
invariant-loop-part l =
    fits (map use_view l.self.uses.items) l.command (map row_of l.parts)
    ≡ fits (map use_view l.self.uses.items) l.command (map row_of (drop l.part-index l.parts))
