use Rattle.std.proofs.Common.{◌≡◌, Some, Ok, sym, ap, ◌∙◌, arith}
use Rattle.std.specs.Prelude.{slice_get, option_map}
use Rattle.std.specs.Borrow.{Bor}
use Rattle.vhdl_expand_bodies.specs.declared.constant.Constant.{Constant}
use Rattle.vhdl_expand_rules.specs.views.Integers.{integers_view}
use Rattle.vhdl_expand_rules.specs.views.Kinds.{kind_view}
use Rattle.vhdl_names_trees.specs.views.Vectors.{part_view}
use Rattle.vhdl_expand_bodies.specs.Sites.{constant_view, site_view}
use Rattle.vhdl_expand_bodies.proofs.Places.{places-short, constant-given}
use Rattle.vhdl_expand_bodies.proofs.site.Site.constant_values.Goals as goal

pub slice-requires-clause-some : goal.slice-requires-clause-some
slice-requires-clause-some c =
    let x = c.in-Some.constant.now in
    (places-short (integers_view c.args.self.now.integers) c.args.at (kind_view x.kind) (part_view c.args.part.now) c.in_ok-places.places.first c.in_ok-places.places.len x.is_vector.0 c.in_ok-places.ensures).0

pub slice-requires-clause-within : goal.slice-requires-clause-within
slice-requires-clause-within c =
    let x = c.in-Some.constant.now in
    let fits = places-short (integers_view c.args.self.now.integers) c.args.at (kind_view x.kind) (part_view c.args.part.now) c.in_ok-places.places.first c.in_ok-places.places.len x.is_vector.0 c.in_ok-places.ensures in
    omega (arith, fits.1, x.as_long)

pub returns : goal.returns
returns c =
    let x = c.in-Some.constant.now in
    let here = site_view c.args.self.now in
    let found : slice_get here.constants c.args.number ≡ Some (constant_view x) =
    sym c.constant.ensures ∙ ap (option_map (λ (b : Bor Constant). constant_view b.now)) c.in-Some.is in
    let fits = places-short (integers_view c.args.self.now.integers) c.args.at (kind_view x.kind) (part_view c.args.part.now) c.in_ok-places.places.first c.in_ok-places.places.len x.is_vector.0 c.in_ok-places.ensures in
    constant-given here c.args.at c.args.number (part_view c.args.part.now) (constant_view x) c.in_ok-places.places.first c.in_ok-places.places.len found (omega (arith, fits.1, x.as_long)) c.in_ok-places.ensures
    ∙ ap Ok (sym c.slice.ensures.list)
