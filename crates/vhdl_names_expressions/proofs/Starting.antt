-- A chain of operators starts with its first operand.
use Rattle.std.proofs.Common.{◌≡◌, List, [], ◌∷◌, map, Box, Global, refl, ap, ◌∙◌}
use Rattle.vhdl_tree.specs.Tree as t
use Rattle.vhdl_tree.specs.Tree.{Pair}
use Rattle.vhdl_tree.specs.View.{view, pair_view}
use Rattle.vhdl_tree.specs.declared.expression.Expr.{Expr}
use Rattle.vhdl_tree.specs.declared.expression.Expr.TheVariants as x
use Rattle.vhdl_tree.specs.declared.expression.Chain.{Chain, out-Chain}
use Rattle.vhdl_tree.proofs.Rows.{chain_is}
use Rattle.vhdl_names_rules.specs.problems.Places.{start}

joined_starts : (e : t.Expr) (ps : List Pair) → start (t.all_joined e ps) ≡ start e
joined_starts e [] = refl
joined_starts e (p ∷ ps) = joined_starts (t.joined e p) ps

pub chain_starts : (e : Expr) (box : Box Chain Global) → e ≡ x.Chain box → start (view e) ≡ start (view (out-Chain box.value).first)
chain_starts e box is =
    let c = out-Chain box.value in
    ap (λ y. start (view y)) is ∙ ap start (chain_is box.value) ∙ joined_starts (t.begun (view c.first) (pair_view c.second)) (map pair_view c.rest.items)
