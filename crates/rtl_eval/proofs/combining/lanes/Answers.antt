use Rattle.std.proofs.Common.{◌≡◌, ℕ, List, map, take, drop, length, ap, sym, ◌∙◌, subst, arith}
use Rattle.vhdl_values.specs.declared.kinds.Logic.{Logic}
use Rattle.vhdl_values.specs.declared.kinds.Logic.TheVariants.{And, Or, Nand, Nor, Xor, Xnor}
use Rattle.vhdl_values.specs.declared.scalar.Nine.{Nine}
use Rattle.vhdl_values.specs.Scalar.{value_of_code}
use Rattle.vhdl_values.specs.Logic.{logic_of_all, not_of_all}
use Rattle.rtl_eval.specs.Combined.{combined, AreStripped, Operates}
use Rattle.rtl_eval.proofs.Lanes.{many_of, from_stripped, nand_is, nor_is, xnor_is}
use Rattle.rtl_eval.proofs.combining.lanes.Given.{Over}
use Rattle.rtl_eval.proofs.combining.lanes.Goals as goal
use Rattle.rtl_eval.proofs.combining.lanes.Goals.{After-stripped-right}

-- once both sides are stripped
module _ (g : Over) (c : After-stripped-right g) where
  abbrev part : List ℕ → List ℕ
  part codes = take g.row.LANES (drop c.args.at codes)

  abbrev lefts : List Nine
  lefts = map value_of_code (part c.args.left.now)

  abbrev rights : List Nine
  rights = map value_of_code (part c.args.right.now)

  operated : (logic : Logic) {xs : List ℕ} → Operates logic c.stripped-left.result c.stripped-right.result xs → AreStripped (logic_of_all logic lefts rights) xs
  operated logic operates = operates _ _ c.stripped-left.ensures.values c.stripped-right.ensures.values

  many : (logic : Logic) {xs : List ℕ} → Operates logic c.stripped-left.result c.stripped-right.result xs → length xs ≡ g.row.LANES
  many logic operates = many_of logic g.row.LANES c.args.at c.args.left.now c.args.right.now c.requires.left c.requires.right (operated logic operates)

  combines : (logic : Logic) {is : Logic} {xs : List ℕ} → is ≡ logic → AreStripped (logic_of_all logic lefts rights) xs → xs ≡ combined is (part c.args.left.now) (part c.args.right.now)
  combines logic is xs = from_stripped logic lefts rights xs ∙ ap (λ (l : Logic). combined l (part c.args.left.now) (part c.args.right.now)) (sym is)

  -- where they are turned round
  turned : (logic other : Logic) {is : Logic} {xs ys : List ℕ} → not_of_all (logic_of_all logic lefts rights) ≡ logic_of_all other lefts rights → is ≡ other
      → Operates logic c.stripped-left.result c.stripped-right.result xs → ((vs : List Nine) → AreStripped vs xs → AreStripped (not_of_all vs) ys)
      → ys ≡ combined is (part c.args.left.now) (part c.args.right.now)
  turned logic other {ys = ys} same is operates not = combines other is (subst (λ (vs : List Nine). AreStripped vs ys) same (not _ (operated logic operates)))

pub returns-in-And : goal.returns-in-And
returns-in-And g c = let at = (goal.at.returns-in-And g c).After-stripped-right in combines g at And c.in-And.is (operated g at And c.and.ensures)

pub returns-in-Or : goal.returns-in-Or
returns-in-Or g c = let at = (goal.at.returns-in-Or g c).After-stripped-right in combines g at Or c.in-Or.is (operated g at Or c.or.ensures)

pub returns-in-Xor : goal.returns-in-Xor
returns-in-Xor g c = let at = (goal.at.returns-in-Xor g c).After-stripped-right in combines g at Xor c.in-Xor.is (operated g at Xor c.xor.ensures)

pub not-requires : goal.not-requires
not-requires g c = (omega (arith, c.requires.most), many g (goal.at.not-requires g c).After-stripped-right And c.and-in-Nand.ensures)

pub returns-in-Nand : goal.returns-in-Nand
returns-in-Nand g c = turned g (goal.at.returns-in-Nand g c).After-stripped-right And Nand (nand_is _ _) c.in-Nand.is c.and-in-Nand.ensures c.not.ensures

pub not-requires-in-Nor : goal.not-requires-in-Nor
not-requires-in-Nor g c = (omega (arith, c.requires.most), many g (goal.at.not-requires-in-Nor g c).After-stripped-right Or c.or-in-Nor.ensures)

pub returns-in-Nor : goal.returns-in-Nor
returns-in-Nor g c = turned g (goal.at.returns-in-Nor g c).After-stripped-right Or Nor (nor_is _ _) c.in-Nor.is c.or-in-Nor.ensures c.not-in-Nor.ensures

pub not-requires-in-Xnor : goal.not-requires-in-Xnor
not-requires-in-Xnor g c = (omega (arith, c.requires.most), many g (goal.at.not-requires-in-Xnor g c).After-stripped-right Xor c.xor-in-Xnor.ensures)

pub returns-in-Xnor : goal.returns-in-Xnor
returns-in-Xnor g c = turned g (goal.at.returns-in-Xnor g c).After-stripped-right Xor Xnor (xnor_is _ _) c.in-Xnor.is c.xor-in-Xnor.ensures c.not-in-Xnor.ensures
