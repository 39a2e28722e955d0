use Rattle.std.proofs.Common.{◌≡◌, ℕ, ◌+◌, ◌-◌, ◌*◌, length, take, drop, ap, arith}
use Rattle.rtl_model.proofs.bodies.Rows.{row_within}
use Rattle.rtl_net.specs.Bodies.{spacing_view}
use Rattle.rtl_looks.proofs.rows.row.Goals as goal

pub overflow_mul-first : goal.overflow_mul-first
overflow_mul-first g c = omega (arith, row_within (spacing_view c.args.spacing) (length c.args.elements.now) c.args.number c.requires)

pub overflow_add-result : goal.overflow_add-result
overflow_add-result g c = omega (arith, row_within (spacing_view c.args.spacing) (length c.args.elements.now) c.args.number c.requires)

pub offset_bounds-elements-first : goal.offset_bounds-elements-first
offset_bounds-elements-first g c = omega (arith, row_within (spacing_view c.args.spacing) (length c.args.elements.now) c.args.number c.requires)

pub slice_bounds-result-end : goal.slice_bounds-result-end
slice_bounds-result-end g c = omega (arith, row_within (spacing_view c.args.spacing) (length c.args.elements.now) c.args.number c.requires)

pub returns : goal.returns
returns g c =
    let s = spacing_view c.args.spacing in
    let first = c.args.number * s.step in
    let long : first + s.len - first ≡ s.len = omega arith in
    ap (λ (n : ℕ). take n (drop first c.args.elements.now)) long
