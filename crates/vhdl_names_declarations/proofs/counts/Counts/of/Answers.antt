use Rattle.std.proofs.Common.{arith, ◌≤◌, length, subst}
use Rattle.std.proofs.lemmas.List.{length-map, take_all}
use Rattle.vhdl_names_sight.specs.Views.{region_view, entry_view}
use Rattle.vhdl_names_declarations.specs.Counts.{AreCounts}
use Rattle.vhdl_names_declarations.proofs.counts.Counts.of.Goals as goal

pub returns : goal.returns
returns c =
    let ds = region_view c.args.region.now in
    let size = length-map c.args.region.now.entries entry_view in
    let all : length ds ≤ c.len.result = omega (arith, size, c.len.ensures.len) in
    subst (AreCounts c.between.result) (take_all c.len.result ds all) c.between.ensures
