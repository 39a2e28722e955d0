use Rattle.std.proofs.Common.{rules, arith, ◌≡◌, true}
use Rattle.std.proofs.lemmas.Grind.{common_steps}
use Rattle.vhdl_expand_rules.proofs.StaticChains.{start_goes_on}
use Rattle.vhdl_expand_rules.proofs.prefix.+is_static.Goals as goal

pub is_static-returns-else-not-is_start_static : goal.is_static-returns-else-not-is_start_static
is_static-returns-else-not-is_start_static t c =
    let goes : c.is_start_static.result ≡ true = first_of (search rules, grind (arith, common_steps)) in
    start_goes_on c.args.value.now c.in-Chain.start c.in-Chain.links _ _ _ _ c.in-Chain.is c.deref-in-Chain.ensures c.deref-in-Chain-2.ensures.value c.is_start_static.ensures goes c.are_static.ensures
