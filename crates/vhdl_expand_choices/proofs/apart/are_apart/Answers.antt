use Rattle.std.proofs.Common.{◌≡◌, true, false, map, get_or, take, arith, rules, to_z, of_z, w32, w64}
use Rattle.std.specs.Prelude.{pos, int_le, FitsSigned}
use Rattle.std.specs.List.{list_any}
use Rattle.std.proofs.lemmas.Grind.{common_steps}
use Rattle.std.proofs.lemmas.Int.{ints}
use Rattle.vhdl_expand_rules.specs.Statements.{overlap}
use Rattle.vhdl_expand_choices.specs.declared.spans.Spanned.{Spanned}
use Rattle.vhdl_expand_choices.specs.Views.{chosen_span}
use Rattle.vhdl_expand_choices.proofs.Greatest.{none_past, none_of, reach_more, apart_goes}
use Rattle.vhdl_expand_choices.proofs.apart.are_apart.Goals.{else-from-greatest-via-then-from-greatest+else-not-is_apart, else-from-greatest-via-else-from-greatest}
use Rattle.vhdl_expand_choices.proofs.apart.are_apart.Goals as goal

pub loop-place-preserved : goal.loop-place-preserved
loop-place-preserved c =
    let d : Spanned = record { at = 0; limits = record { least = pos 0; greatest = pos 0 } } in
    let xs = c.args.spans.now in
    let i = c.loop-place.place in
    let x = get_or xs i d in
    let least : FitsSigned w32 x.limits.least = search rules in
    let greatest : FitsSigned w32 x.limits.greatest = search rules in
    let z = to_z w64 c.loop-place.greatest-bits in
    let up : int_le z (to_z w64 (of_z w64 c.max-greatest.result)) ≡ true = grind (arith, ints, c.loop-place.greatest-is, c.max-greatest.ensures.self_bound) in
    let over : int_le x.limits.greatest (to_z w64 (of_z w64 c.max-greatest.result)) ≡ true = grind (arith, ints, c.max-greatest.ensures.other_bound, c.from-in-loop-place.ensures) in
    let reach = reach_more z (to_z w64 (of_z w64 c.max-greatest.result)) xs i d c.loop-place-test.true c.loop-place.invariant.reach up over in
    elim c.else-from-greatest.branch [
      | else-from-greatest-via-then-from-greatest+else-not-is_apart w ↦
          let none : list_any (overlap (chosen_span x)) (map chosen_span (take i xs)) ≡ false = none_of _ w.is_apart.result w.is_apart.ensures (first_of (search rules, grind (arith, common_steps))) in
          record { rest = apart_goes _ xs i d c.loop-place-test.true c.loop-place.invariant.rest none; reach = reach }
      | else-from-greatest-via-else-from-greatest w ↦
          let above : int_le x.limits.least z ≡ false = grind (arith, ints, c.loop-place.greatest-is, c.from.ensures, w.if-from-greatest.false) in
          let none = none_past (chosen_span x) z (map chosen_span (take i xs)) c.loop-place.invariant.reach above in
          record { rest = apart_goes _ xs i d c.loop-place-test.true c.loop-place.invariant.rest none; reach = reach }
    ]
