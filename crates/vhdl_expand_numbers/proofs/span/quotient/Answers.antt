use Rattle.std.proofs.Common.{◌≡◌, ◌∙◌, true, false, refl, ap, arith, rules, w64, of_z, to_z, FitsSigned, ◌<ℤ◌, neg_ℤ, pos}
use Rattle.std.specs.Prelude.{int_lt, int_div}
use Rattle.std.proofs.lemmas.Int.{ints, quot_fits}
use Rattle.vhdl_expand_numbers.specs.Views.{span_view}
use Rattle.vhdl_expand_numbers.proofs.Near.{near_least, near_greatest, quotient_word, near_word, less_turned, greater_turned, reach_near, opposite_reach, quotient_below, quotient_above, word}
use Rattle.vhdl_expand_numbers.proofs.span.quotient.Goals as goal

pub overflow_sub-result : goal.overflow_sub-result
overflow_sub-result c =
    let r = reach_near (span_view c.args.left) c.reach-reach.result c.requires.left c.reach-reach.ensures in
    omega (arith, ints)

pub returns-then-right-lt0 : goal.returns-then-right-lt0
returns-then-right-lt0 c =
    let s = span_view c.args.left in
    let t = span_view c.args.right in
    let r = reach_near s c.reach-reach.result c.requires.left c.reach-reach.ensures in
    let h : int_lt t.least (pos 0) ≡ true = grind (arith, ints) in
    quotient_below s t _ _ h (opposite_reach c.reach-reach.result r ∙ ap neg_ℤ c.reach-reach.ensures) (word c.reach-reach.result c.reach-reach.type_inv ∙ c.reach-reach.ensures)

pub nonzero_div-left-2 : goal.nonzero_div-left-2
nonzero_div-left-2 c =
    let d : pos 0 <ℤ to_z w64 (of_z w64 c.max-divisor.result) = omega (arith, ints) in
    let f : FitsSigned w64 (to_z w64 (of_z w64 c.args.left.greatest)) = search rules in
    (omega (arith, ints), quot_fits w64 _ _ f d)

pub returns : goal.returns
returns c =
    let s = span_view c.args.left in
    let t = span_view c.args.right in
    let d = c.max-divisor.result in
    let h : int_lt t.least (pos 0) ≡ false = grind (arith, ints) in
    let low = near_least s c.requires.left in
    let high = near_greatest s c.requires.left in
    let is = greater_turned t.least (pos 1) d _ _ (near_word t.least (near_least t c.requires.right)) refl c.max-divisor.ensures.value in
    let a = less_turned (int_div s.least d) (pos 0) c.min.result _ _ (quotient_word s.least d low c.max-divisor.type_inv c.max-divisor.ensures.other_bound) refl c.min.ensures.value in
    let b = greater_turned (int_div s.greatest d) (pos 0) c.max.result _ _ (quotient_word s.greatest d high c.max-divisor.type_inv c.max-divisor.ensures.other_bound) refl c.max.ensures.value in
    quotient_above s t d _ _ h is (word c.min.result c.min.type_inv ∙ a) (word c.max.result c.max.type_inv ∙ b)
