use Rattle.std.proofs.Common.{◌≡◌, ℕ, ◌+◌, ◌≤◌, true, List, map, take, drop, replicate, sym, ap, ◌∙◌, refl}
use Rattle.std.proofs.lemmas.Simd.{zip2_of_maps, splat_is_map}
use lib.Lanes.{zip2}
use Rattle.std.specs.Prelude.{cond}
use Rattle.vhdl_values.specs.declared.kinds.Logic.{Logic}
use Rattle.vhdl_values.specs.declared.kinds.Logic.TheVariants.{And, Or, Nand, Nor, Xor, Xnor}
use Rattle.vhdl_values.specs.declared.scalar.Nine.{Nine}
use Rattle.vhdl_values.specs.Scalar.{code_of, value_of_code}
use Rattle.vhdl_values.specs.Logic.{logic_of}
use Rattle.rtl_eval.specs.Combined.{combined}
use Rattle.rtl_eval.proofs.Lanes.{DigitPairs, digit_pairs, are_good, same_pairs, computed_digits, operated_pairs, paired}
use Rattle.rtl_eval.proofs.combining.of_digits.Goals as goal

abbrev part : (n at : ℕ) → List ℕ → List Nine
part n at codes = map value_of_code (take n (drop at codes))

-- bitwise operators, the last two with 1 and with another number, that are right of each pair of digits
by_bits : (logic : Logic) (n at : ℕ) (left right : List ℕ) (f g h : ℕ → ℕ → ℕ) (last : ℕ) {is : Logic}
    → DigitPairs n (part n at left) (part n at right) (take n (drop at left)) (take n (drop at right)) → is ≡ logic
    → same_pairs (λ p. cond (are_good p) (h (g (f (code_of p.0) (code_of p.1)) 1) last) (code_of (logic_of logic p.0 p.1))) (λ p. code_of (logic_of logic p.0 p.1)) ≡ true
    → zip2 h (zip2 g (zip2 f (take n (drop at left)) (take n (drop at right))) (replicate n 1)) (replicate n last) ≡ combined is (take n (drop at left)) (take n (drop at right))
by_bits logic n at left right f g h last P is right_of_each =
    let ps = paired (part n at left) (part n at right) in
    let bits = zip2_of_maps g _ _ ps (zip2_of_maps f _ _ ps P.left_are P.right_are) (splat_is_map ps n 1 P.long) in
    let lanes = zip2_of_maps h _ _ ps bits (splat_is_map ps n last P.long) in
    computed_digits _ (λ p. code_of (logic_of logic p.0 p.1)) ps lanes P.good right_of_each ∙ operated_pairs code_of logic (part n at left) (part n at right)
    ∙ ap (λ (l : Logic). combined l (take n (drop at left)) (take n (drop at right))) (sym is)

pub returns-in-And : goal.returns-in-And
returns-in-And g c =
    let R = c.requires in
    by_bits And g.row.LANES c.args.at c.args.left.now c.args.right.now _ _ _ 2 (digit_pairs _ _ _ _ R.left R.right R.lefts R.rights) c.in-And.is refl

pub returns-in-Or : goal.returns-in-Or
returns-in-Or g c =
    let R = c.requires in
    by_bits Or g.row.LANES c.args.at c.args.left.now c.args.right.now _ _ _ 2 (digit_pairs _ _ _ _ R.left R.right R.lefts R.rights) c.in-Or.is refl

pub returns-in-Xor : goal.returns-in-Xor
returns-in-Xor g c =
    let R = c.requires in
    by_bits Xor g.row.LANES c.args.at c.args.left.now c.args.right.now _ _ _ 2 (digit_pairs _ _ _ _ R.left R.right R.lefts R.rights) c.in-Xor.is refl

pub returns-in-Nand : goal.returns-in-Nand
returns-in-Nand g c =
    let R = c.requires in
    by_bits Nand g.row.LANES c.args.at c.args.left.now c.args.right.now _ _ _ 3 (digit_pairs _ _ _ _ R.left R.right R.lefts R.rights) c.in-Nand.is refl

pub returns-in-Nor : goal.returns-in-Nor
returns-in-Nor g c =
    let R = c.requires in
    by_bits Nor g.row.LANES c.args.at c.args.left.now c.args.right.now _ _ _ 3 (digit_pairs _ _ _ _ R.left R.right R.lefts R.rights) c.in-Nor.is refl

pub returns-in-Xnor : goal.returns-in-Xnor
returns-in-Xnor g c =
    let R = c.requires in
    by_bits Xnor g.row.LANES c.args.at c.args.left.now c.args.right.now _ _ _ 3 (digit_pairs _ _ _ _ R.left R.right R.lefts R.rights) c.in-Xnor.is refl
