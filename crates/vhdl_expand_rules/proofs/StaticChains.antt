-- Whether a chain of operators on static integers is static.
use Rattle.std.proofs.Common.{◌≡◌, Bool, true, false, ◌&&◌, List, [], ◌∷◌, Box, Vec, Global, refl, sym, ap, ◌∙◌}
use Rattle.vhdl_names_trees.specs.declared.integer.Static.TheVariants as s
use Rattle.vhdl_names_trees.specs.declared.integer.Static.{Static}
use Rattle.vhdl_names_trees.specs.declared.integer.StaticLink.{StaticLink}
use Rattle.vhdl_names_trees.specs.declared.integer.StaticStart.{StaticStart}
use Rattle.vhdl_names_trees.specs.views.Integers.{static_view, start_view, static_chained}
use Rattle.vhdl_names_rules.specs.units.Expressions as u
use Rattle.vhdl_names_trees.proofs.rows.Integers.{view_chain}
use Rattle.vhdl_names_rules.specs.Names.{is_static}
use Rattle.vhdl_expand_rules.specs.views.Prefixes.{all_static}

and-assoc : (a b c : Bool) → ((a && b) && c) ≡ (a && (b && c))
and-assoc true b c = refl
and-assoc false b c = refl

and-true : (a : Bool) → (a && true) ≡ a
and-true true = refl
and-true false = refl

chained-static : (t : u.Static) (ls : List StaticLink) → is_static (static_chained t ls) ≡ (is_static t && all_static ls)
chained-static t [] = sym (and-true (is_static t))
chained-static t (l ∷ ls) =
    chained-static (u.Static.binary l.at l.operator t (static_view l.operand)) ls
    ∙ and-assoc (is_static t) (is_static (static_view l.operand)) (all_static ls)

chain-static : (e : Static) (start : Box StaticStart Global) (links : Vec StaticLink Global) (st : StaticStart) (ls : List StaticLink)
    → e ≡ s.Chain start links → st ≡ start.value → ls ≡ links.items
    → is_static (static_view e) ≡ (is_static (start_view st) && all_static ls)
chain-static e start links st ls h j k =
    ap (λ (a : Static). is_static (static_view a)) h ∙ ap is_static (view_chain start links)
    ∙ ap (λ (a : StaticStart). is_static (static_chained (start_view a) links.items)) (sym j)
    ∙ ap (λ (xs : List StaticLink). is_static (static_chained (start_view st) xs)) (sym k)
    ∙ chained-static (start_view st) ls

pub start_stops : (e : Static) (start : Box StaticStart Global) (links : Vec StaticLink Global) (st : StaticStart) (b : Bool)
    → e ≡ s.Chain start links → st ≡ start.value → b ≡ is_static (start_view st) → b ≡ false → false ≡ is_static (static_view e)
start_stops e start links st b h j first stops =
    sym (chain-static e start links st links.items h j refl ∙ ap (λ (c : Bool). c && all_static links.items) (sym first ∙ stops))

pub start_goes_on : (e : Static) (start : Box StaticStart Global) (links : Vec StaticLink Global) (st : StaticStart) (ls : List StaticLink) (b c : Bool)
    → e ≡ s.Chain start links → st ≡ start.value → ls ≡ links.items → b ≡ is_static (start_view st) → b ≡ true → c ≡ all_static ls
    → c ≡ is_static (static_view e)
start_goes_on e start links st ls b c h j k first goes rest =
    rest ∙ sym (chain-static e start links st ls h j k ∙ ap (λ (d : Bool). d && all_static ls) (sym first ∙ goes))
