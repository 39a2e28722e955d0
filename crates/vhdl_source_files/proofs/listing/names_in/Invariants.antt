use Rattle.std.proofs.Common.{◌≡◌, map, take}
use Rattle.std.specs.Prelude.{filter}
use Rattle.vhdl_source_files.specs.Listed.{is_name, name_in}
use Rattle.vhdl_source_files.proofs.listing.names_in.Given as goal

-- the names in the lines so far
abbrev pub invariant-loop-line : goal.invariant-loop-line
invariant-loop-line l = map (λ name. name.now) l.names.items ≡ filter is_name (map name_in (map (λ line. line.now) (take l.line-index l.line-items)))
