use Rattle.std.proofs.Common.{◌≡◌}
use Rattle.std.specs.Prelude.{replicate}
use Rattle.vhdl_expand_bodies.specs.Sites.{constant_view}
use Rattle.vhdl_expand_declarations.specs.Regions.{constants_behind, region_view}
use Rattle.vhdl_expand_declarations.proofs.region.Region.add_constants.Given as goal

-- so many of them
abbrev pub invariant-loop-name : goal.invariant-loop-name
invariant-loop-name l = region_view l.self ≡ constants_behind (region_view l.fn.self) (replicate l._name (constant_view l.constant))
