use Rattle.std.proofs.Common.{◌≡◌, ℕ, ◌+◌, ◌-◌, List, Option, length, sym, subst, arith}
use Rattle.rtl_model.specs.bodies.Rows.{row_count}
use Rattle.rtl_net.specs.Bodies.{spacing_view}
use Rattle.rtl_looks.specs.declared.hubs.Look.{Look}
use Rattle.rtl_looks.proofs.Elements.{ChoosesFrom, chooses_none, chooses_more, chooses_all}
use Rattle.rtl_looks.proofs.values.chosen_looks.Goals as goal

pub loop-left-init : goal.loop-left-init
loop-left-init c =
    let s = spacing_view c.args.spacing in
    let hs = c.args.hubs.now.hubs.items in
    let looks = c.args.looks.now in
    record {
      rows = subst (λ (n : ℕ). ChoosesFrom s c.args.index looks hs hs n c.in_ok-columns.columns.items) (sym c.row_count-left.ensures)
          (subst (λ (xs : List (Option Look)). ChoosesFrom s c.args.index looks hs hs (row_count s (length looks)) xs) (sym c.in_ok-columns.ensures) (chooses_none s hs c.args.index looks));
      left = omega (arith, c.row_count-left.ensures);
    }

pub loop-left-preserved : goal.loop-left-preserved
loop-left-preserved c =
    let l = c.loop-left in
    let s = spacing_view c.args.spacing in
    let some : l.left ≡ l.left - 1 + 1 = omega arith in
    let so_far = subst (λ (n : ℕ). ChoosesFrom s c.args.index c.args.looks.now c.args.hubs.now.hubs.items l.hubs.hubs.items n l.columns.items) some l.invariant.rows in
    record {
      rows = chooses_more s (l.left - 1) (omega (arith, l.invariant.left)) so_far (rw (c.row.ensures, c.deref.ensures.value) at c.in_ok-columns-2.ensures);
      left = omega (arith, l.invariant.left);
    }

pub returns : goal.returns
returns c =
    let l = c.loop-left in
    let s = spacing_view c.args.spacing in
    let none : l.left ≡ 0 = omega arith in
    chooses_all s (subst (λ (n : ℕ). ChoosesFrom s c.args.index c.args.looks.now c.args.hubs.now.hubs.items l.hubs.hubs.items n l.columns.items) none l.invariant.rows)
