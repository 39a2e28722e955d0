use Rattle.std.proofs.Common.{◌≡◌, ◌++◌}
use Rattle.std.specs.Prelude.{replicate}
use Rattle.vhdl_expand_declarations.specs.Regions.{region_view}
use Rattle.vhdl_expand_declarations.proofs.region.Region.add_integers.Given as goal

-- so many of them
abbrev pub invariant-loop-name : goal.invariant-loop-name
invariant-loop-name l = region_view l.self ≡ record (region_view l.fn.self) { integers = (region_view l.fn.self).integers ++ replicate l._name l.x }
