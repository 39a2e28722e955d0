-- What a walk over a body tells: the leaves of its parts, in order of the text.
use Rattle.std.specs.Prelude.{◌≡◌, List, [], ◌∷◌, ◌++◌, flat_map}
use Rattle.rtl_model.specs.bodies.Leaves as m
use Rattle.rtl_net.specs.Indices.{numbers}
use Rattle.rtl_net.specs.Bodies.{expr_view, test_view, statement_view}
use Rattle.rtl_net.specs.declared.body.Link.{Link}
use Rattle.rtl_net.specs.declared.body.TestLink.{TestLink}
use Rattle.rtl_net.specs.declared.body.Statement.{Statement}
use Rattle.rtl_net.specs.declared.body.Branch.{Branch}
use Rattle.rtl_net.specs.declared.body.Alternative.{Alternative}
use Rattle.rtl_net.specs.declared.walk.Leaf.{Leaf}
use Rattle.rtl_net.specs.declared.walk.Leaf.TheVariants as l

abbrev pub leaf_view : Leaf → m.Leaf
leaf_view (l.Nets nets) = m.of_nets (numbers nets.now)
leaf_view (l.Net net) = m.of_nets (net ∷ [])
leaf_view (l.Event net) = m.of_event net
leaf_view (l.Elements elements) = m.of_elements (numbers elements.now)
leaf_view (l.Element element) = m.of_elements (element ∷ [])

-- these leaves, told one after another, lead a visitor from `old` to `new`
abbrev pub Tells : {V : Type 0} → (takes : V → m.Leaf → V → Type 0) → (old : V) → List m.Leaf → (new : V) → Type 0
Tells takes old [] new = old ≡ new
Tells {V} takes old (x ∷ xs) new = (next : V) × takes old x next × Tells takes next xs new

-- ---- parts that stand in lists

-- a further operand of a chain
abbrev pub link_leaves : Link → List m.Leaf
link_leaves l = m.expr_leaves (expr_view l.operand)

abbrev pub test_link_leaves : TestLink → List m.Leaf
test_link_leaves l = m.test_leaves (test_view l.operand)

-- a statement of a sequence, a branch of an if, and an alternative of a case
abbrev pub statement_leaves : Statement → List m.Leaf
statement_leaves s = m.stmt_leaves (statement_view s)

abbrev pub branch_leaves : Branch → List m.Leaf
branch_leaves b = m.test_leaves (test_view b.test) ++ flat_map statement_leaves b.statements.items

abbrev pub alternative_leaves : Alternative → List m.Leaf
alternative_leaves a = flat_map statement_leaves a.statements.items
