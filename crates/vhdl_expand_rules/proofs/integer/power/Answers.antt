use Rattle.std.proofs.Common.{◌≡◌, rules, arith, sym, subst}
use Rattle.std.specs.Prelude.{pos}
use Rattle.std.proofs.lemmas.Grind.{common_steps}
use Rattle.vhdl_expand_rules.specs.Integers.{powered}
use Rattle.vhdl_expand_rules.specs.views.Integers.{Computes}
use Rattle.vhdl_expand_rules.proofs.Powers.{power-given}
use Rattle.vhdl_expand_rules.proofs.integer.power.Goals as goal

pub returns-in-Ok : goal.returns-in-Ok
returns-in-Ok c =
    let is : c.args.exponent ≡ pos c.in-Ok.n = first_of (search rules, grind (arith, common_steps)) in
    subst (λ y. Computes (powered c.args.at c.args.base y) c.within.result) (sym is)
    (power-given c.args.at c.args.base c.in-Ok.n c.checked_pow.result c.within.result (first_of (search rules, grind (arith, common_steps))) c.within.ensures)
