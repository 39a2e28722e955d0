-- What the parts of a node become, the node becomes.
use Rattle.std.proofs.Common.{◌≡◌, ℕ, List, [], ◌∷◌, length, map, Option, Some, None, Vec, Box, Global, Result, Ok, Err, refl, sym, ap, ◌∙◌}
use Rattle.std.specs.Prelude.{OnOk, option_map}
use Rattle.std.specs.Vec.{with_items}
use Rattle.std.proofs.lemmas.List.{with_items_is}
use Rattle.rtl_model.specs.bodies.Body as bodies
use Rattle.rtl_net.specs.declared.body.Expr.{Expr}
use Rattle.rtl_net.specs.declared.body.Link.{Link}
use Rattle.rtl_net.specs.declared.body.Test.{Test}
use Rattle.rtl_net.specs.declared.body.TestLink.{TestLink}
use Rattle.rtl_net.specs.declared.body.Value.{Value}
use Rattle.rtl_net.specs.declared.body.Statement.{Statement}
use Rattle.rtl_net.specs.declared.body.Statement.TheVariants as vs
use Rattle.rtl_net.specs.declared.body.Branch.{Branch, roll-Branch}
use Rattle.rtl_net.specs.declared.body.Alternative.{Alternative, roll-Alternative}
use Rattle.rtl_net.specs.Bodies.{links_of, value_view, test_view, test_links_of, statement_view, statements_of, branches_of, otherwise_of, alternatives_of}
use Rattle.rtl_net.proofs.Rows.{view_if, view_case}
use Rattle.vhdl_elab_rules.specs.Bodies.{connected_branches, connected_alternatives}
use Rattle.vhdl_connect_processes.specs.declared.connection.Connection.{Connection}
use Rattle.vhdl_connect_processes.specs.Connected.{LinkView, link_view, link_in, expr_in, value_in, TestLinkView, test_link_view, test_link_in, test_in, statement_in, body_in}
use Rattle.vhdl_connect_processes.specs.Connected.{BranchView, branch_view, branch_in, AlternativeView, alternative_view, alternative_in, Became}

-- ---- lists of parts, by their views

-- a chain of parts behind a first one
module _ {V K W : Type 0} (chain : V → List K → V) (part : K → W) (join : V → W → V) (none : (v : V) → chain v [] ≡ v) (more : (v : V) (k : K) (ks : List K) → chain v (k ∷ ks) ≡ chain (join v (part k)) ks)
    (made : V → V) (part_made : W → W) (joins : (v : V) (w : W) → made (join v w) ≡ join (made v) (part_made w)) where
  abbrev joined : V → List W → V
  joined v [] = v
  joined v (w ∷ ws) = joined (join v w) ws

  is-joined : (v : V) (ks : List K) → chain v ks ≡ joined v (map part ks)
  is-joined v [] = none v
  is-joined v (k ∷ ks) = more v k ks ∙ is-joined (join v (part k)) ks

  joined-made : (v : V) (ws : List W) → made (joined v ws) ≡ joined (made v) (map part_made ws)
  joined-made v [] = refl
  joined-made v (w ∷ ws) = joined-made (join v w) ws ∙ ap (λ (u : V). joined u (map part_made ws)) (joins v w)

  chain-in : (v : V) (old new : List K) → Became part part_made old new → chain (made v) new ≡ made (chain v old)
  chain-in v old new h = is-joined (made v) new ∙ ap (joined (made v)) h ∙ sym (joined-made v (map part old)) ∙ ap made (sym (is-joined v old))

sequence : List bodies.Stmt → bodies.Stmts
sequence [] = bodies.done
sequence (x ∷ xs) = bodies.step x (sequence xs)

in-sequence : (xs : List Statement) → statements_of xs ≡ sequence (map statement_view xs)
unfolding sequence
in-sequence [] = refl
in-sequence (x ∷ xs) = ap (bodies.step (statement_view x)) (in-sequence xs)

branched : bodies.Branches → List BranchView → bodies.Branches
branched last [] = last
branched last (b ∷ bs) = bodies.branch b.test b.statements (branched last bs)

in-branches : (last : bodies.Branches) (bs : List Branch) → branches_of last bs ≡ branched last (map branch_view bs)
unfolding branched
in-branches last [] = refl
in-branches last (b ∷ bs) = ap (bodies.branch (test_view b.test) (statements_of b.statements.items)) (in-branches last bs)

selected : bodies.Stmts → List AlternativeView → bodies.Alternatives
selected last [] = bodies.others last
selected last (a ∷ as') = bodies.alternative a.choices a.statements (selected last as')

in-alternatives : (last : bodies.Stmts) (as' : List Alternative) → alternatives_of last as' ≡ selected last (map alternative_view as')
unfolding selected
in-alternatives last [] = refl
in-alternatives last (a ∷ as') = ap (bodies.alternative (alternative_view a).choices (statements_of a.statements.items)) (in-alternatives last as')

-- a node with a first part and a list of others
module _ {X V K W : Type 0} (view : X → V) (joined : V → List K → V) (made : V → V) (part : K → W) (part_made : W → W) (node : Box X Global → Vec K Global → X)
    (viewed : (first : Box X Global) (rest : Vec K Global) → view (node first rest) ≡ joined (view first.value) rest.items)
    (in' : (left : V) (old new : List K) → Became part part_made old new → joined (made left) new ≡ made (joined left old)) where
  pub node_becomes : (x : X) (first new : Box X Global) (rest over : Vec K Global) (f : X) (ls more : List K) → x ≡ node first rest → f ≡ first.value → ls ≡ rest.items → length more ≡ over.len
      → view new.value ≡ made (view f) → Became part part_made ls more → view (node new (with_items over more)) ≡ made (view x)
  node_becomes x first new rest over f ls more h i j n k l =
      viewed new (with_items over more) ∙ ap (joined (view new.value)) (with_items_is over more n)
      ∙ ap (λ e. joined e more) (k ∙ ap (λ (y : X). made (view y)) i)
      ∙ in' (view first.value) rest.items more (l ∙ ap (λ xs. map part_made (map part xs)) j)
      ∙ ap made (sym (viewed first rest)) ∙ ap (λ (y : X). made (view y)) (sym h)

module _ (c : Connection) where
  -- ---- what is made of them

  pub links_in : (left : bodies.Expr) (old new : List Link) → Became link_view (link_in c) old new → links_of (expr_in c left) new ≡ expr_in c (links_of left old)
  links_in = chain-in links_of link_view (λ (v : bodies.Expr) (w : LinkView). bodies.Expr.binary w.operator v w.operand) (λ v. refl) (λ v k ks. refl) (expr_in c) (link_in c) (λ v w. refl)

  pub tests_in : (left : bodies.Test) (old new : List TestLink) → Became test_link_view (test_link_in c) old new → test_links_of (test_in c left) new ≡ test_in c (test_links_of left old)
  tests_in = chain-in test_links_of test_link_view (λ (v : bodies.Test) (w : TestLinkView). bodies.combined w.operator v w.operand) (λ v. refl) (λ v k ks. refl) (test_in c) (test_link_in c) (λ v w. refl)

  sequence-in : (xs : List bodies.Stmt) → body_in c (sequence xs) ≡ sequence (map (statement_in c) xs)
  unfolding sequence
  sequence-in [] = refl
  sequence-in (x ∷ xs) = ap (bodies.step (statement_in c x)) (sequence-in xs)

  -- a body, by its statements
  body_becomes : (old new : List Statement) → Became statement_view (statement_in c) old new → statements_of new ≡ body_in c (statements_of old)
  body_becomes old new h = in-sequence new ∙ ap sequence h ∙ sym (sequence-in (map statement_view old)) ∙ ap (body_in c) (sym (in-sequence old))

  abbrev branches-made : bodies.Branches → bodies.Branches
  branches-made = connected_branches c.nets.now c.drives.now

  abbrev alternatives-made : bodies.Alternatives → bodies.Alternatives
  alternatives-made = connected_alternatives c.nets.now c.drives.now

  branched-in : (last : bodies.Branches) (bs : List BranchView) → branches-made (branched last bs) ≡ branched (branches-made last) (map (branch_in c) bs)
  unfolding branched
  branched-in last [] = refl
  branched-in last (b ∷ bs) = ap (bodies.branch (test_in c b.test) (body_in c b.statements)) (branched-in last bs)

  branches-in : (last : bodies.Branches) (old new : List Branch) → Became branch_view (branch_in c) old new → branches_of (branches-made last) new ≡ branches-made (branches_of last old)
  branches-in last old new h =
      in-branches (branches-made last) new ∙ ap (branched (branches-made last)) h ∙ sym (branched-in last (map branch_view old)) ∙ ap branches-made (sym (in-branches last old))

  selected-in : (last : bodies.Stmts) (as' : List AlternativeView) → alternatives-made (selected last as') ≡ selected (body_in c last) (map (alternative_in c) as')
  unfolding selected
  selected-in last [] = refl
  selected-in last (a ∷ as') = ap (bodies.alternative a.choices (body_in c a.statements)) (selected-in last as')

  alternatives-in : (last : bodies.Stmts) (old new : List Alternative) → Became alternative_view (alternative_in c) old new
      → alternatives_of (body_in c last) new ≡ alternatives-made (alternatives_of last old)
  alternatives-in last old new h =
      in-alternatives (body_in c last) new ∙ ap (selected (body_in c last)) h ∙ sym (selected-in last (map alternative_view old))
      ∙ ap alternatives-made (sym (in-alternatives last old))

  -- ---- nodes with lists

  abbrev items-of : Option (Vec Statement Global) → Option (List Statement)
  items-of = option_map (λ v. v.items)

  if-becomes : (at : ℕ) (branches over : Vec Branch Global) (more : List Branch) (o p : Option (Vec Statement Global)) → length more ≡ over.len
      → Became branch_view (branch_in c) branches.items more → otherwise_of (items-of p) ≡ branches-made (otherwise_of (items-of o))
      → statement_view (vs.If at (with_items over more) p) ≡ statement_in c (statement_view (vs.If at branches o))
  if-becomes at branches over more o p n h e =
      view_if at (with_items over more) p ∙ ap (λ bs. bodies.if_of (branches_of (otherwise_of (items-of p)) bs)) (with_items_is over more n)
      ∙ ap (λ last. bodies.if_of (branches_of last more)) e ∙ ap bodies.if_of (branches-in (otherwise_of (items-of o)) branches.items more h)
      ∙ ap (statement_in c) (sym (view_if at branches o))

  pub if_alone : (x : Statement) (at : ℕ) (branches over : Vec Branch Global) (o p : Option (Vec Statement Global)) (bs more : List Branch)
      → x ≡ vs.If at branches o → p ≡ o → p ≡ None → bs ≡ branches.items → length more ≡ over.len → Became branch_view (branch_in c) bs more
      → statement_view (vs.If at (with_items over more) p) ≡ statement_in c (statement_view x)
  if_alone x at branches over o p bs more h same none j n l =
      ap (λ q. statement_view (vs.If at (with_items over more) q)) none
      ∙ if-becomes at branches over more None None n (l ∙ ap (λ xs. map (branch_in c) (map branch_view xs)) j) refl
      ∙ ap (λ q. statement_in c (statement_view (vs.If at branches q))) (sym none ∙ same) ∙ ap (λ y. statement_in c (statement_view y)) (sym h)

  module _ {A E : Type 0} where
    pub if_with_else : (r : Result A E) (x : Statement) (at : ℕ) (branches over : Vec Branch Global) (o p : Option (Vec Statement Global)) (last under : Vec Statement Global)
        (bs more : List Branch) (ls tail : List Statement) → x ≡ vs.If at branches o → p ≡ o → p ≡ Some last → bs ≡ branches.items → length more ≡ over.len
        → Became branch_view (branch_in c) bs more → ls ≡ last.items → length tail ≡ under.len → OnOk r (Became statement_view (statement_in c) ls tail)
        → OnOk r (statement_view (vs.If at (with_items over more) (Some (with_items under tail))) ≡ statement_in c (statement_view x))
    if_with_else (Ok y) x at branches over o p last under bs more ls tail h same some j n l k z w =
        if-becomes at branches over more (Some last) (Some (with_items under tail)) n (l ∙ ap (λ xs. map (branch_in c) (map branch_view xs)) j)
        (ap (λ xs. bodies.otherwise (statements_of xs)) (with_items_is under tail z)
        ∙ ap bodies.otherwise (body_becomes last.items tail (w ∙ ap (λ xs. map (statement_in c) (map statement_view xs)) k)))
        ∙ ap (λ q. statement_in c (statement_view (vs.If at branches q))) (sym some ∙ same) ∙ ap (λ v. statement_in c (statement_view v)) (sym h)
    if_with_else (Err e) x at branches over o p last under bs more ls tail h same some j n l k z w = tt

    pub case_becomes : (r : Result A E) (x : Statement) (at : ℕ) (selector from new : Value) (alternatives over : Vec Alternative Global) (others under : Vec Statement Global)
        (as' more : List Alternative) (os tail : List Statement) → x ≡ vs.Case at selector alternatives others → from ≡ selector → value_view new ≡ value_in c (value_view from)
        → as' ≡ alternatives.items → length more ≡ over.len → Became alternative_view (alternative_in c) as' more → os ≡ others.items → length tail ≡ under.len
        → OnOk r (Became statement_view (statement_in c) os tail)
        → OnOk r (statement_view (vs.Case at new (with_items over more) (with_items under tail)) ≡ statement_in c (statement_view x))
    case_becomes (Ok y) x at selector from new alternatives over others under as' more os tail h same v j n l k z w =
        view_case at new (with_items over more) (with_items under tail)
        ∙ ap (λ e. bodies.case_of e (alternatives_of (statements_of (with_items under tail).items) (with_items over more).items)) (v ∙ ap (λ e. value_in c (value_view e)) same)
        ∙ ap (λ xs. bodies.case_of (value_in c (value_view selector)) (alternatives_of (statements_of xs) (with_items over more).items)) (with_items_is under tail z)
        ∙ ap (λ xs. bodies.case_of (value_in c (value_view selector)) (alternatives_of (statements_of tail) xs)) (with_items_is over more n)
        ∙ ap (λ last. bodies.case_of (value_in c (value_view selector)) (alternatives_of last more)) (body_becomes others.items tail (w ∙ ap (λ xs. map (statement_in c) (map statement_view xs)) k))
        ∙ ap (bodies.case_of (value_in c (value_view selector))) (alternatives-in (statements_of others.items) alternatives.items more (l ∙ ap (λ xs. map (alternative_in c) (map alternative_view xs)) j))
        ∙ ap (statement_in c) (sym (view_case at selector alternatives others)) ∙ ap (λ u. statement_in c (statement_view u)) (sym h)
    case_becomes (Err e) x at selector from new alternatives over others under as' more os tail h same v j n l k z w = tt

    pub branch_becomes : (r : Result A E) (b : Branch) (new : Test) (ls tail : List Statement) → test_view new ≡ test_in c (test_view b.test) → ls ≡ b.statements.items
        → length tail ≡ b.statements.len → OnOk r (Became statement_view (statement_in c) ls tail)
        → OnOk r (branch_view (roll-Branch (record { test = new; statements = with_items b.statements tail })) ≡ branch_in c (branch_view b))
    branch_becomes (Ok y) b new ls tail t k z w =
        let e = ap statements_of (with_items_is b.statements tail z) ∙ body_becomes b.statements.items tail (w ∙ ap (λ xs. map (statement_in c) (map statement_view xs)) k) in
        λ i. record { test = t i; statements = e i }
    branch_becomes (Err e) b new ls tail t k z w = tt

    pub alternative_becomes : (r : Result A E) (a : Alternative) (ls tail : List Statement) → ls ≡ a.statements.items → length tail ≡ a.statements.len
        → OnOk r (Became statement_view (statement_in c) ls tail)
        → OnOk r (alternative_view (roll-Alternative (record { choices = a.choices; statements = with_items a.statements tail })) ≡ alternative_in c (alternative_view a))
    alternative_becomes (Ok y) a ls tail k z w =
        let e = ap statements_of (with_items_is a.statements tail z) ∙ body_becomes a.statements.items tail (w ∙ ap (λ xs. map (statement_in c) (map statement_view xs)) k) in
        λ i. record { choices = (alternative_view a).choices; statements = e i }
    alternative_becomes (Err e) a ls tail k z w = tt

    pub whole_becomes : (r : Result A E) (old new : List Statement) → OnOk r (Became statement_view (statement_in c) old new) → OnOk r (statements_of new ≡ body_in c (statements_of old))
    whole_becomes (Ok y) old new h = body_becomes old new h
    whole_becomes (Err e) old new h = tt
