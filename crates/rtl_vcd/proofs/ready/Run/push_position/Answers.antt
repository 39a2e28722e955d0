use Rattle.std.proofs.Common.{◌≡◌, ℕ, Bool, List, not, ◌++◌, ◌∷◌, [], ap, ◌∙◌, slice_index, sym, length, arith, length-append}
use Rattle.std.specs.Prelude.{codes}
use Rattle.std.specs.Str.{bytes_eq}
use Rattle.rtl_vcd_values.specs.Values.{binary}
use Rattle.rtl_vcd.specs.Ready.{beginning, elements}
use Rattle.rtl_vcd.proofs.Forms.{position_is, line_behind, other_by}
use Rattle.rtl_vcd.proofs.ready.Run.push_position.Goals as goal
use Rattle.rtl_vcd.proofs.ready.Run.push_position.Goals.{After-is_other_position}

other : (c : After-is_other_position) (is_other : Bool) → is_other ≡ c.is_other_position.result → is_other ≡ not (bytes_eq (elements c.args.self.now c.args.old.now) (elements c.args.self.now c.args.new.now))
other c is_other is =
    let run = c.args.self.now in
    let chars = λ (values : List ℕ). binary c.args.digits (slice_index values run.first) in
    other_by run c.args.old.now c.args.new.now (chars c.args.old.now) (chars c.args.new.now) is_other (position_is run c.args.old.now c.args.digits c.requires.form) (position_is run c.args.new.now c.args.digits c.requires.form)
    (is ∙ c.is_other_position.ensures)

pub returns-then-not-is_other_position-clause-other : goal.returns-then-not-is_other_position-clause-other
returns-then-not-is_other_position-clause-other c =
    other (goal.at.returns-then-not-is_other_position-clause-other c).After-is_other_position _ (sym c.if-not-is_other_position.true)

pub returns-clause-other : goal.returns-clause-other
returns-clause-other c = other (goal.at.returns-clause-other c).After-is_other_position _ (sym c.if-not-is_other_position.false)

pub returns-clause-line : goal.returns-clause-line
returns-clause-line c =
    let run = c.args.self.now in
    let new = c.args.new.now in
    let digits = c.args.digits in
    line_behind run new c.args.page.now c.push_digits.new.page c.push_end.new.self (codes "b") (binary digits (slice_index new run.first)) (ap beginning c.requires.form)
    (position_is run new digits c.requires.form) (c.push_digits.ensures.digits ∙ ap (λ t. t ++ binary digits (slice_index new run.first)) c.push.ensures) c.push_end.ensures

pub push_digits-requires : goal.push_digits-requires
push_digits-requires c = record {
  few = c.requires.short;
  room = omega (arith, c.requires.room, c.requires.short, ap length c.push.ensures, length-append c.args.page.now (98 ∷ []));
}

pub push_end-requires : goal.push_end-requires
push_end-requires c = record {
  room = omega (arith, c.requires.room, c.requires.short, c.push_digits.ensures.len, ap length c.push.ensures, length-append c.args.page.now (98 ∷ []));
}
