use Rattle.std.proofs.Common.{◌+◌, [], ◌∷◌, ◌++◌, map, drop, refl, sym, ap, ◌∙◌, arith}
use Rattle.vhdl_expand_rules.specs.Aggregates.{listed}
use Rattle.vhdl_expand_operands.specs.Operands.{operand_view}
use Rattle.vhdl_expand_operands.specs.Placings.{placed_view}
use Rattle.vhdl_expand_operands.proofs.Walking.{found_goes, found_all}
use Rattle.vhdl_expand_operands.proofs.placed.listed.Goals as goal

pub loop-item-init : goal.loop-item-init
loop-item-init c = ap (λ es. es ++ listed (map placed_view c.args.placed.now)) (sym c.new-row.ensures)

pub loop-item-preserved : goal.loop-item-preserved
loop-item-preserved c =
    let i = c.loop-item.item-index in
    let made = map operand_view c.loop-item.row.operands.items in
    let left = listed (map placed_view (drop (i + 1) c.args.placed.now)) in
    found_goes placed_view listed _ made c.args.placed.now i c.item-item.result (operand_view c.in-Next.operand ∷ []) c.loop-item-test.true c.item-item.is c.loop-item.invariant
    (λ rest. ap (λ y. listed (placed_view y ∷ rest)) c.in-Next.is)
    ∙ ap (λ e. (made ++ e ∷ []) ++ left) (sym c.in_ok-copied.ensures) ∙ ap (λ es. es ++ left) (sym c.in_ok-push.ensures)

pub returns : goal.returns
returns c =
    sym (found_all placed_view listed _ (map operand_view c.loop-item.row.operands.items) c.args.placed.now c.loop-item.item-index (omega arith) c.loop-item.invariant refl)
