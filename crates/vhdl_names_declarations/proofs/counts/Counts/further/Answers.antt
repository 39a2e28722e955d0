use Rattle.std.proofs.Common.{arith, ◌≤◌, ◌-◌, ◌^◌, ◌<◌, ◌++◌, length, take, subst}
use Rattle.std.proofs.lemmas.List.{length-map, length-append, take_all}
use Rattle.vhdl_names_sight.specs.Views.{region_view, entry_view}
use Rattle.vhdl_names_declarations.specs.Counts.{AreCounts}
use Rattle.vhdl_names_declarations.proofs.Counting.{counted_more, small_counts, taken_size}
use Rattle.vhdl_names_declarations.proofs.counts.Counts.further.Goals as goal

pub with-counts-requires : goal.with-counts-requires
with-counts-requires c =
    let before = region_view c.args.region.now in
    let those = take c.loop-place.place (region_view c.args.variables.now) in
    let sum = length-append before those in
    let region = length-map c.args.region.now.entries entry_view in
    let taken = taken_size c.args.variables.now.entries c.loop-place.place in
    let small : length (before ++ those) < 2 ^ 64 - 1 = omega (arith, sum, region, taken, c.region_is_small.ensures, c.len-place-end.ensures.len, c.len-place-end.ensures.small) in
    small_counts c.loop-place.counts _ _ small c.loop-place.invariant

pub loop-place-preserved : goal.loop-place-preserved
loop-place-preserved c =
    counted_more (region_view c.args.region.now) c.loop-place.counts _ c.args.variables.now.entries c.loop-place.place c.index.result.now c.index.ensures c.with-counts.ensures c.loop-place.invariant

pub returns : goal.returns
returns c =
    let ds = region_view c.args.variables.now in
    let size = length-map c.args.variables.now.entries entry_view in
    let all : length ds ≤ c.loop-place.place = omega (arith, size, c.len-place-end.ensures.len) in
    subst (λ l. AreCounts c.loop-place.counts (region_view c.args.region.now ++ l)) (take_all c.loop-place.place ds all) c.loop-place.invariant
