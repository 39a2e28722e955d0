use Rattle.std.proofs.Common.{◌-◌, false, List, length, map, sym, ap, ◌∙◌}
use Rattle.std.specs.List.{slice_get}
use Rattle.vhdl_names_units.specs.declared.sequential.Statement.{Statement}
use Rattle.vhdl_names_units.specs.views.Sequential.{body_view, statement_view, statements_of}
use Rattle.vhdl_names_registers.specs.Tied.{tied, goes_on}
use Rattle.vhdl_names_registers.proofs.Tying.{closing, walks_on, walk_ends}
use Rattle.vhdl_names_registers.proofs.Branches.{left_of, left_push, left_reversed, first_is, none_left}
use Rattle.vhdl_names_registers.proofs.registers.tied.Goals as goal

pub loop-statement-init : goal.loop-statement-init
loop-statement-init c =
    ap (λ (xs : List Statement). closing false (statements_of (map statement_view xs)) (tied (left_of c.reverse.new.self.items))) c.new-all.ensures.items
    ∙ ap tied (ap left_of c.reverse.ensures.items ∙ left_reversed c.args.list.items)

pub loop-statement-preserved : goal.loop-statement-preserved
loop-statement-preserved c =
    let l = c.loop-statement in
    let x = c.in-Some.statement in
    let left = c.pop.new.self.items in
    let goes = c.goes_on-goes_further.result in
    ap (λ ys. closing goes ys (tied (left_of left))) c.in_ok-take.ensures
    ∙ (walks_on l.is_open goes (body_view l.all) (statement_view x) (left_of left) (ap (goes_on (statement_view x)) (first_is left c.last.result (c.last.ensures.value ∙ ap (λ (xs : List Statement). slice_get xs (length xs - 1)) c.deref.ensures.value)) ∙ sym c.goes_on-goes_further.ensures)
    ∙ (ap (λ ys. closing l.is_open (body_view l.all) (tied ys)) (sym (ap left_of c.in-Some.ensures.items ∙ left_push left x))
    ∙ l.invariant))

pub returns : goal.returns
returns c =
    let l = c.loop-statement in
    sym (walk_ends l.is_open (body_view l.all))
    ∙ (ap (λ (xs : List Statement). closing l.is_open (body_view l.all) (tied (left_of xs))) (sym (none_left l.left.items (sym l.left.ok.0 ∙ c.in_default.ensures.cases.0)))
    ∙ l.invariant)
