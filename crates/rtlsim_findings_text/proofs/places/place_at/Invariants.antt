use Rattle.std.proofs.Common.{◌≡◌, drop, map}
use Rattle.vhdl_source_files.specs.Files.{spot_in}
use Rattle.rtlsim_findings_text.specs.Marks.{view}
use Rattle.rtlsim_findings_text.proofs.places.place_at.Given as goal

-- the place is that in the files from this one on
abbrev pub invariant-loop-number : goal.invariant-loop-number
invariant-loop-number l = spot_in (map view (drop l.number l.files)) l.at ≡ spot_in (map view l.files) l.fn.at
