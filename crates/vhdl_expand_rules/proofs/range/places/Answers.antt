use Rattle.std.proofs.Common.{◌≡◌, ◌-◌, refl, arith, w32}
use Rattle.std.proofs.lemmas.Int.{to_z-of_z}
use Rattle.vhdl_numbers.specs.Digits.{without_sign}
use Rattle.vhdl_expand_rules.proofs.Digits.{word_has, size_is, places_few, places_counted}
use Rattle.vhdl_expand_rules.proofs.range.places.Goals as goal
use Rattle.vhdl_expand_rules.proofs.range.places.Goals.{After-from}

size-here : (c : After-from) → c.unsigned_abs.result - c.from.result ≡ without_sign c.args.number
size-here c =
    size_is c.args.number _ c.unsigned_abs.result c.from.result (to_z-of_z w32 c.args.number c.ranges.number) c.unsigned_abs.ensures.value c.from.ensures

pub returns-clause-given : goal.returns-clause-given
returns-clause-given c =
    places_counted c.args.number (c.unsigned_abs.result - c.from.result) _ _ (size-here c) (omega (arith, c.unsigned_abs.ensures.bound)) refl refl

pub returns-clause-few : goal.returns-clause-few
returns-clause-few c =
    let given = places_counted c.args.number (c.unsigned_abs.result - c.from.result) _ _ (size-here c) (omega (arith, c.unsigned_abs.ensures.bound)) refl refl in
    let few = places_few c.args.number (word_has c.args.number c.ranges.number) in
    omega (arith, given, few)
