use Rattle.std.proofs.Common.{◌≡◌, Some, arith}
use Rattle.std.specs.Prelude.{slice_get}
use Rattle.vhdl_expand_rules.specs.views.Integers.{integers_view}
use Rattle.vhdl_names_trees.specs.views.Vectors.{part_view}
use Rattle.vhdl_expand_bodies.proofs.Places.{part-given, part-fits}
use Rattle.vhdl_expand_operands.proofs.Several.{there}
use Rattle.vhdl_expand_bodies.proofs.site.Site.part_elements.Goals as goal

pub overflow_add-first-2 : goal.overflow_add-first-2
overflow_add-first-2 c =
    let found : slice_get c.args.things.now c.args.number ≡ Some c.in-Some.thing.now = there c.args.things.now c.args.number c.in-Some.thing.now c.in-Some.ensures.lookup.3.0 (c.in-Some.ensures.lookup.3.1 c.in-Some.thing.now) in
    let placed = c.requires.placed c.args.number c.in-Some.thing.now found in
    let fits = part-fits (integers_view c.args.self.now.integers) c.args.at c.args.from c.args.things.now c.args.number (part_view c.args.part.now) c.in-Some.thing.now c.in_ok-places.places.first c.in_ok-places.places.len c.requires.few found placed c.in_ok-places.ensures in
    omega (arith, fits.1)

pub returns-clause-given : goal.returns-clause-given
returns-clause-given c =
    let found : slice_get c.args.things.now c.args.number ≡ Some c.in-Some.thing.now = there c.args.things.now c.args.number c.in-Some.thing.now c.in-Some.ensures.lookup.3.0 (c.in-Some.ensures.lookup.3.1 c.in-Some.thing.now) in
    let placed = c.requires.placed c.args.number c.in-Some.thing.now found in
    part-given (integers_view c.args.self.now.integers) c.args.at c.args.from c.args.things.now c.args.number (part_view c.args.part.now) c.in-Some.thing.now c.in_ok-places.places.first c.in_ok-places.places.len found placed c.in_ok-places.ensures

pub returns-clause-short : goal.returns-clause-short
returns-clause-short c =
    let found : slice_get c.args.things.now c.args.number ≡ Some c.in-Some.thing.now = there c.args.things.now c.args.number c.in-Some.thing.now c.in-Some.ensures.lookup.3.0 (c.in-Some.ensures.lookup.3.1 c.in-Some.thing.now) in
    let placed = c.requires.placed c.args.number c.in-Some.thing.now found in
    let fits = part-fits (integers_view c.args.self.now.integers) c.args.at c.args.from c.args.things.now c.args.number (part_view c.args.part.now) c.in-Some.thing.now c.in_ok-places.places.first c.in_ok-places.places.len c.requires.few found placed c.in_ok-places.ensures in
    fits
