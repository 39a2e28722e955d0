-- Locally static expressions, operand by operand.
use Rattle.std.proofs.Common.{◌≡◌, ℕ, ◌+◌, ◌<◌, ◌≤◌, Bool, true, List, [], ◌∷◌, map, length, drop, get_or, Vec, Global, ap, sym, ◌∙◌}
use Rattle.std.specs.Prelude.{◌&&◌}
use Rattle.std.specs.List.{list_all}
use Rattle.std.proofs.lemmas.List.{at_drop_more, at_drop_all}
use Rattle.vhdl_tree.specs.declared.expression.Expr.{Expr}
use Rattle.vhdl_tree.specs.declared.expression.Link.{Link}
use Rattle.vhdl_tree.specs.declared.expression.Chain.{Chain, out-Chain}
use Rattle.vhdl_tree.specs.declared.expression.Suffix.{Suffix}
use Rattle.vhdl_tree.specs.declared.expression.Suffix.TheVariants as suffix
use Rattle.vhdl_tree.specs.Tree as t
use Rattle.vhdl_tree.specs.Tree.{exprs_of, begun, joined, all_joined}
use Rattle.vhdl_tree.specs.View.{view, suffix_view, chain_view, pair_view}
use Rattle.vhdl_tree.proofs.Rows.{chain_is, view_arguments}
use Rattle.vhdl_names_rules.specs.Visibility.{Sight}
use Rattle.vhdl_names_rules.specs.Local.{is_local, are_local, suffix_is_local}
use Rattle.vhdl_names_parts.proofs.Meant.{and-assoc, and-true}

-- ---- operators

abbrev pub links_local : Sight → List Link → Bool
links_local s ls = list_all (λ (l : Link). is_local s (view l.operand)) ls

joined_local : (s : Sight) (left : t.Expr) (ls : List Link) → is_local s (all_joined left (map pair_view ls)) ≡ (is_local s left && links_local s ls)
unfolding is_local
joined_local s left [] = and-true (is_local s left)
joined_local s left (l ∷ ls) =
    joined_local s (joined left (pair_view l)) ls ∙ and-assoc (is_local s left) (is_local s (view l.operand)) (links_local s ls)

pub chain_local : (s : Sight) (k : Chain) →
    is_local s (chain_view k) ≡ ((is_local s (view (out-Chain k).first) && is_local s (view (out-Chain k).second.operand)) && links_local s (out-Chain k).rest.items)
unfolding is_local
chain_local s k = ap (is_local s) (chain_is k) ∙ joined_local s (begun (view (out-Chain k).first) (pair_view (out-Chain k).second)) (out-Chain k).rest.items

pub links_next : (s : Sight) (ls : List Link) (i : ℕ) (l : Link) → i < length ls → l ≡ get_or ls i l
    → links_local s (drop i ls) ≡ (is_local s (view l.operand) && links_local s (drop (i + 1) ls))
links_next s ls i l lt is =
    at_drop_more (links_local s) ls i l lt ∙ ap (λ (x : Link). is_local s (view x.operand) && links_local s (drop (i + 1) ls)) (sym is)

-- ---- arguments

pub all_next : (s : Sight) (es : List Expr) (i : ℕ) (x : Expr) → i < length es → x ≡ get_or es i x
    → are_local s (exprs_of (map view (drop i es))) ≡ (is_local s (view x) && are_local s (exprs_of (map view (drop (i + 1) es))))
unfolding are_local
all_next s es i x lt is =
    at_drop_more (λ xs. are_local s (exprs_of (map view xs))) es i x lt ∙ ap (λ y. is_local s (view y) && are_local s (exprs_of (map view (drop (i + 1) es)))) (sym is)

pub none_next : (s : Sight) (es : List Expr) (i : ℕ) → length es ≤ i → are_local s (exprs_of (map view (drop i es))) ≡ true
unfolding are_local
none_next s es i past = at_drop_all (λ xs. are_local s (exprs_of (map view xs))) es i past

pub arguments_local : (s : Sight) (x : Suffix) (all : Vec Expr Global) → x ≡ suffix.Arguments all → suffix_is_local s (suffix_view x) ≡ are_local s (exprs_of (map view all.items))
unfolding suffix_is_local
arguments_local s x all is = ap (λ y. suffix_is_local s (suffix_view y)) is ∙ ap (suffix_is_local s) (view_arguments all)
