use Rattle.std.proofs.Common.{ℕ, length, take, sym, ap, ◌∙◌, ◌+◌, arith, subst}
use Rattle.rtl_check.specs.Places.{places_from, widths}
use Rattle.rtl_recheck.specs.Kept.{HasFew}
use Rattle.rtl_recheck.proofs.Stored.{variable_more}
use Rattle.rtl_recheck.proofs.variables.elements_of.Goals as goal

pub elements_in-elements-requires : goal.elements_in-elements-requires
elements_in-elements-requires c = subst HasFew (sym c.variable-item.is) (c.requires c.loop-variable.variable-index c.variable-item.result c.loop-variable-test.true)

pub loop-variable-preserved : goal.loop-variable-preserved
loop-variable-preserved c =
    let l = c.loop-variable in
    let x = c.variable-item.result in
    let len = c.elements_in-elements.ensures.are in
    record {
      are = ap (λ (n : ℕ). n + c.elements_in-elements.result) l.invariant.are ∙ (ap (λ (n : ℕ). length (places_from 0 (widths (take l.variable-index c.args.variables.now))) + n) len
          ∙ sym (variable_more c.args.variables.now l.variable-index x c.loop-variable-test.true c.variable-item.is));
      few = omega (arith, l.invariant.few, c.elements_in-elements.ensures.few);
    }
