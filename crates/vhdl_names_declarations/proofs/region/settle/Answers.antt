use Rattle.std.proofs.Common.{arith, ◌≤◌, length, ◌∙◌}
use Rattle.std.proofs.lemmas.List.{length-map}
use Rattle.vhdl_names_sight.specs.Views.{region_view, entry_view}
use Rattle.vhdl_names_declarations.specs.Counts.{next_of}
use Rattle.vhdl_names_declarations.specs.Settled.{class_view}
use Rattle.vhdl_names_declarations.proofs.Settling.{on_ok, to_the_end}
use Rattle.vhdl_names_declarations.proofs.region.settle.Goals as goal

pub returns : goal.returns
returns c =
    let s = c.args.settled.now in
    let ds = region_view c.args.region.now in
    let size = length-map c.args.region.now.entries entry_view in
    let all : length ds ≤ c.len-last.result = omega (arith, size, c.len-last.ensures.len) in
    on_ok c.settle_between.result (λ h. h ∙ to_the_end (class_view s.class) s.direction s.is_global (next_of c.args.counts s.class) c.args.counts.ranges c.args.first c.len-last.result ds all) c.settle_between.ensures
