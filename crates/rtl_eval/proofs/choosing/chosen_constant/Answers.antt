use Rattle.std.proofs.Common.{◌≤◌, ◌+◌, List, length, sym, ap, ◌∙◌, subst, refl, rules}
use Rattle.vhdl_values.specs.declared.scalar.Nine.{Nine}
use Rattle.rtl_model.specs.bodies.Values.{chosen_of}
use Rattle.rtl_model.specs.bodies.Fits.{IsWidth}
use Rattle.rtl_net.specs.Bodies.{spacing_view}
use Rattle.rtl_eval.proofs.Beginnings.{begun, begun_within, nowhere, row_long, part_is}
use Rattle.rtl_eval.proofs.choosing.chosen_constant.Goals as goal

pub overflow_add-at : goal.overflow_add-at
overflow_add-at c =
    let l : c.in-Some.at + c.args.spacing.len ≤ length c.args.values.now = begun_within (spacing_view c.args.spacing) (length c.args.values.now) c.args.index.now c.in-Some.at c.in-Some.ensures.some in
    search (rules, l)

pub slice_bounds-of-end : goal.slice_bounds-of-end
slice_bounds-of-end c = begun_within (spacing_view c.args.spacing) (length c.args.values.now) c.args.index.now c.in-Some.at c.in-Some.ensures.some

pub of-requires : goal.of-requires
of-requires c =
    let vs = c.args.values.now in
    let at = c.in-Some.at in
    let len = c.args.spacing.len in
    let within = begun_within (spacing_view c.args.spacing) (length vs) c.args.index.now at c.in-Some.ensures.some in
    let long = ap (λ (xs : List Nine). length xs) (part_is vs vs at len len refl refl) ∙ row_long vs at len within in
    let width = subst IsWidth (sym long) c.requires.0 in
    record { some = width.0; room = width.1 }

pub returns-in-Some : goal.returns-in-Some
returns-in-Some c =
    let s = spacing_view c.args.spacing in
    let vs = c.args.values.now in
    let at = c.in-Some.at in
    c.of.ensures.list ∙ part_is vs vs at s.len s.len refl refl ∙ sym (ap (chosen_of s.len) (begun s vs c.args.index.now at c.in-Some.ensures.some))

pub returns-in-None : goal.returns-in-None
returns-in-None c =
    let s = spacing_view c.args.spacing in
    c.fill.ensures.list ∙ sym (ap (chosen_of s.len) (nowhere s c.args.values.now c.args.index.now c.in-None.ensures.none))
