-- The links of a static integer in a `Vec`, as contracts see them.
use Rattle.std.proofs.Common.{◌≡◌, List, [], ◌∷◌, ◌++◌, Vec, Box, Global, refl, ap, ◌∙◌}
use mathlib.Core.Former.{Count}
use Rattle.vhdl_names_trees.specs.declared.integer.Static.TheVariants as s
use Rattle.vhdl_names_trees.specs.declared.integer.Static.TheBlock.{Row_of-StaticLink, end_of-StaticLink, more_of-StaticLink, items-the_row-StaticLink, hidden-the_row-StaticLink-0, items_hidden-the_row-StaticLink-0}
use Rattle.vhdl_names_trees.specs.declared.integer.StaticLink.{StaticLink}
use Rattle.vhdl_names_trees.specs.declared.integer.StaticStart.{StaticStart}
use Rattle.vhdl_names_rules.specs.units.Expressions as u
use Rattle.vhdl_names_trees.specs.views.Integers.{static_view, start_view, links_view, static_chained}

links_row : (left : u.Static) (n : Count) (row : Row_of-StaticLink n) → links_view left row ≡ static_chained left (items-the_row-StaticLink n row)
links_row left n end_of-StaticLink = refl
links_row left n (more_of-StaticLink operator at operand rest) = links_row (u.Static.binary at operator left (static_view operand)) _ rest

pub view_chain : (start : Box StaticStart Global) (rest : Vec StaticLink Global) → static_view (s.Chain start rest) ≡ static_chained (start_view start.value) rest.items
view_chain start rest = links_row (start_view start.value) _ (hidden-the_row-StaticLink-0 rest) ∙ ap (static_chained (start_view start.value)) (items_hidden-the_row-StaticLink-0 rest)

static_chained-push : (left : u.Static) (ls : List StaticLink) (l : StaticLink) →
    static_chained left (ls ++ l ∷ []) ≡ u.Static.binary l.at l.operator (static_chained left ls) (static_view l.operand)
static_chained-push left [] l = refl
static_chained-push left (k ∷ ls) l = static_chained-push (u.Static.binary k.at k.operator left (static_view k.operand)) ls l

-- one more link
pub chained-after : (left : u.Static) (ls ls' : List StaticLink) (l : StaticLink) → ls' ≡ ls ++ l ∷ [] →
    static_chained left ls' ≡ u.Static.binary l.at l.operator (static_chained left ls) (static_view l.operand)
chained-after left ls ls' l h = ap (static_chained left) h ∙ static_chained-push left ls l
