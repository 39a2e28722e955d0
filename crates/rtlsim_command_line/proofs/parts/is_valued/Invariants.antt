use Rattle.std.proofs.Common.{◌≡◌, map, drop}
use Rattle.rtlsim_command_line.specs.Words.{is_valued, row_of}
use Rattle.rtlsim_command_line.proofs.parts.is_valued.Given as goal

-- the option is one of those that are left, if it is one
abbrev pub invariant-loop-part : goal.invariant-loop-part
invariant-loop-part l =
    is_valued (map row_of l.parts) l.name ≡ is_valued (map row_of (drop l.part-index l.parts)) l.name
