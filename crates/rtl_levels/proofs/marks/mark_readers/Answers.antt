use Rattle.std.proofs.Common.{List, ℕ, subst}
use Rattle.rtl_kernel.specs.wakes.Woken.{AddsPlaces, wakers_of}
use Rattle.rtl_levels.proofs.Marking.{marks_one}
use Rattle.rtl_levels.proofs.Visiting.{listed_below}
use Rattle.rtl_levels.proofs.marks.mark_readers.Goals as goal

pub mark-requires : goal.mark-requires
mark-requires c = record { there = listed_below (wakers_of c.args.groups.now) c.args.net _ c.requires.below c.readers_of.result.now c.readers_of.ensures }

pub returns-then-values-net : goal.returns-then-values-net
returns-then-values-net c =
    marks_one (wakers_of c.args.groups.now) c.args.values.now c.args.net c.args.value c.args.marks.now.items c.mark.new.marks.items c.mark.ensures.as_many
    (subst (λ (xs : List ℕ). AddsPlaces xs c.args.marks.now.items c.mark.new.marks.items) c.readers_of.ensures c.mark.ensures.marks)
