-- The operands and arguments in a `Vec`, as contracts see them.
use Rattle.std.proofs.Common.{◌≡◌, true, false, List, [], ◌∷◌, ◌++◌, map, Vec, Global, refl, sym, ap, ◌∙◌}
use Rattle.std.proofs.lemmas.List.{map-append}
use mathlib.Core.Former.{Count}
use Rattle.vhdl_tree.specs.declared.expression.Expr.{Expr}
use Rattle.vhdl_tree.specs.declared.expression.Choice.TheBlock.{Row_of-Link, end_of-Link, more_of-Link, items-the_row-Link, items_hidden-the_row-Link-3, items_shown-the_row-Link-3, hidden-the_row-Link-3, Row_of-Expr, end_of-Expr, more_of-Expr, items-the_row-Expr, hidden-the_row-Expr-2, items_hidden-the_row-Expr-2}
use Rattle.vhdl_tree.specs.declared.expression.Link.{Link}
use Rattle.vhdl_tree.specs.declared.expression.Chain.{Chain, Chain', out-Chain, roll-Chain}
use Rattle.vhdl_tree.specs.declared.expression.Suffix.TheVariants as s
use Rattle.vhdl_tree.specs.Tree as t
use Rattle.vhdl_tree.specs.View.{view, suffix_view, row_view, chain_view, links_view, exprs_view, pair_view, pairs_view}
use Rattle.vhdl_tree.specs.Tree.{Pair, joined, all_joined, begun, chained}

links_row : (left : t.Expr) (n : Count) (row : Row_of-Link n) → links_view left row ≡ all_joined left (map pair_view (items-the_row-Link n row))
links_row left n end_of-Link = refl
links_row left n (more_of-Link operator at operand rest) = links_row (t.binary false operator at left (view operand)) _ rest

pub view_chain : (first : Expr) (second : Link) (rest : Vec Link Global) →
    chain_view (roll-Chain (record { first = first; second = second; rest = rest })) ≡ chained (view first) (pair_view second) (pairs_view rest)
unfolding roll-Chain denote.Hole.Carrier.roll
view_chain first second rest =
    let left = begun (view first) (pair_view second) in
    links_row left _ (hidden-the_row-Link-3 rest) ∙ ap (λ ls. all_joined left (map pair_view ls)) (items_hidden-the_row-Link-3 rest)

-- a chain by its parts
pub chain_is : (c : Chain) → chain_view c ≡ chained (view (out-Chain c).first) (pair_view (out-Chain c).second) (pairs_view (out-Chain c).rest)
unfolding out-Chain denote.Hole.Carrier.out
chain_is (Chain' first operator at operand shape rest) =
    let left = t.binary true operator at (view first) (view operand) in
    links_row left _ rest ∙ sym (ap (λ ls. all_joined left (map pair_view ls)) (items_shown-the_row-Link-3 shape rest))

exprs_row : (n : Count) (row : Row_of-Expr n) → row_view row ≡ t.exprs_of (map view (items-the_row-Expr n row))
exprs_row n end_of-Expr = refl
exprs_row n (more_of-Expr x rest) = ap (t.expr (view x)) (exprs_row _ rest)

pub view_arguments : (all : Vec Expr Global) → suffix_view (s.Arguments all) ≡ t.arguments (t.exprs_of (exprs_view all))
view_arguments all = ap t.arguments (exprs_row _ (hidden-the_row-Expr-2 all) ∙ ap (λ es. t.exprs_of (map view es)) (items_hidden-the_row-Expr-2 all))

all_joined-push : (left : t.Expr) (ps : List Pair) (p : Pair) → all_joined left (ps ++ p ∷ []) ≡ joined (all_joined left ps) p
all_joined-push left [] p = refl
all_joined-push left (q ∷ ps) p = all_joined-push (joined left q) ps p

pub pairs-push : (left : t.Expr) (v w : Vec Link Global) (l : Link) → w.items ≡ v.items ++ l ∷ [] →
    all_joined left (pairs_view w) ≡ joined (all_joined left (pairs_view v)) (pair_view l)
pairs-push left v w l e =
    ap (λ ls. all_joined left (map pair_view ls)) e ∙ ap (all_joined left) (map-append pair_view v.items (l ∷ [])) ∙ all_joined-push left (pairs_view v) (pair_view l)
