-- A walk over a body tells the leaves of its parts, one part behind the other.
use Rattle.std.proofs.Common.{◌≡◌, ℕ, ◌+◌, ◌<◌, List, [], ◌∷◌, ◌++◌, length, get_or, drop, refl, sym, subst, ap, ◌∙◌, append_assoc, append-nil, Option, Some, None, Vec, Global}
use Rattle.std.specs.Prelude.{flat_map}
use Rattle.std.proofs.lemmas.List.{drop_more}
use Rattle.rtl_model.specs.bodies.Body as bodies
use Rattle.rtl_model.specs.bodies.Leaves.{Leaf, expr_leaves, value_leaves, test_leaves, stmt_leaves, leaves, branches_leaves, alternatives_leaves}
use Rattle.rtl_net.specs.declared.body.Expr.{Expr}
use Rattle.rtl_net.specs.declared.body.Expr.TheVariants as ve
use Rattle.rtl_net.specs.declared.body.Test.{Test}
use Rattle.rtl_net.specs.declared.body.Test.TheVariants as vt
use Rattle.rtl_net.specs.declared.body.Link.{Link}
use Rattle.rtl_net.specs.declared.body.TestLink.{TestLink}
use Rattle.rtl_net.specs.declared.body.Value.{Value}
use Rattle.rtl_net.specs.declared.body.Statement.{Statement}
use Rattle.rtl_net.specs.declared.body.Statement.TheVariants as vs
use Rattle.rtl_net.specs.declared.body.Branch.{Branch}
use Rattle.rtl_net.specs.declared.body.Alternative.{Alternative}
use Rattle.rtl_net.specs.Bodies.{operator_view, expr_view, links_of, value_view, test_view, test_links_of, statements_of, branches_of, alternatives_of}
use Rattle.rtl_net.specs.Visits.{Tells, link_leaves, test_link_leaves, statement_leaves, branch_leaves, alternative_leaves}
use Rattle.rtl_net.proofs.Rows.{view_chain, view_combined, view_if, view_case}

-- ---- what is told

module _ {V : Type 0} (takes : V → Leaf → V → Type 0) where
  joined : (u v w : V) (xs ys : List Leaf) → Tells takes u xs v → Tells takes v ys w → Tells takes u (xs ++ ys) w
  joined u v w [] ys h k = subst (λ s. Tells takes s ys w) (sym h) k
  joined u v w (x ∷ xs) ys (next, one, rest) k = (next, one, joined next v w xs ys rest k)

  -- one part behind another, and the same by another name
  pub tells_both : (u v w : V) (xs ys zs : List Leaf) → zs ≡ xs ++ ys → Tells takes u xs v → Tells takes v ys w → Tells takes u zs w
  tells_both u v w xs ys zs e h k = subst (λ ls. Tells takes u ls w) (sym e) (joined u v w xs ys h k)

  pub tells_same : (u w : V) (xs zs : List Leaf) → zs ≡ xs → Tells takes u xs w → Tells takes u zs w
  tells_same u w xs zs e h = subst (λ ls. Tells takes u ls w) (sym e) h

  -- a loop: whatever is told from here on is told from the start
  module _ {X : Type 0} (f : X → List Leaf) (start : V) (xs : List X) (i : ℕ) where
    pub tells_goes : (now new end : V) (x : X) → i < length xs → x ≡ get_or xs i x → Tells takes now (f x) new
        → (Tells takes now (flat_map f (drop i xs)) end → Tells takes start (flat_map f xs) end)
        → Tells takes new (flat_map f (drop (i + 1) xs)) end → Tells takes start (flat_map f xs) end
    tells_goes now new end x below is one all rest =
        all (tells_both now new end (f x) (flat_map f (drop (i + 1) xs)) _
        (ap (flat_map f) (drop_more xs i x below ∙ ap (λ y. y ∷ drop (i + 1) xs) (sym is))) one rest)

-- ---- leaves of lists

linked_leaves : (left : bodies.Expr) (ls : List Link) → expr_leaves (links_of left ls) ≡ expr_leaves left ++ flat_map link_leaves ls
linked_leaves left [] = sym (append-nil (expr_leaves left))
linked_leaves left (l ∷ ls) =
    linked_leaves (bodies.binary (operator_view l.operator) left (expr_view l.operand)) ls ∙ append_assoc (expr_leaves left) (link_leaves l) (flat_map link_leaves ls)

linked_tests : (left : bodies.Test) (ls : List TestLink) → test_leaves (test_links_of left ls) ≡ test_leaves left ++ flat_map test_link_leaves ls
linked_tests left [] = sym (append-nil (test_leaves left))
linked_tests left (l ∷ ls) =
    linked_tests (bodies.combined l.operator left (test_view l.operand)) ls ∙ append_assoc (test_leaves left) (test_link_leaves l) (flat_map test_link_leaves ls)

pub each_leaf : (xs : List Statement) → leaves (statements_of xs) ≡ flat_map statement_leaves xs
each_leaf [] = refl
each_leaf (x ∷ xs) = ap (λ ls. statement_leaves x ++ ls) (each_leaf xs)

each_branch : (last : bodies.Branches) (bs : List Branch) → branches_leaves (branches_of last bs) ≡ flat_map branch_leaves bs ++ branches_leaves last
each_branch last [] = refl
each_branch last (b ∷ bs) =
    ap (λ ls. test_leaves (test_view b.test) ++ (ls ++ branches_leaves (branches_of last bs))) (each_leaf b.statements.items)
    ∙ ap (λ ls. test_leaves (test_view b.test) ++ (flat_map statement_leaves b.statements.items ++ ls)) (each_branch last bs)
    ∙ sym (append_assoc (test_leaves (test_view b.test)) (flat_map statement_leaves b.statements.items) (flat_map branch_leaves bs ++ branches_leaves last))
    ∙ sym (append_assoc (branch_leaves b) (flat_map branch_leaves bs) (branches_leaves last))

each_alternative : (last : bodies.Stmts) (bs : List Alternative) → alternatives_leaves (alternatives_of last bs) ≡ flat_map alternative_leaves bs ++ leaves last
each_alternative last [] = refl
each_alternative last (b ∷ bs) =
    ap (λ ls. ls ++ alternatives_leaves (alternatives_of last bs)) (each_leaf b.statements.items)
    ∙ ap (λ ls. alternative_leaves b ++ ls) (each_alternative last bs)
    ∙ sym (append_assoc (alternative_leaves b) (flat_map alternative_leaves bs) (leaves last))

-- ---- leaves of nodes with lists

pub chain_leaves : (x : Expr) (first : _) (rest : Vec Link Global) → x ≡ ve.Chain first rest
    → expr_leaves (expr_view x) ≡ expr_leaves (expr_view first.value) ++ flat_map link_leaves rest.items
chain_leaves x first rest is = ap (λ (y : Expr). expr_leaves (expr_view y)) is ∙ ap expr_leaves (view_chain first rest) ∙ linked_leaves (expr_view first.value) rest.items

pub combined_leaves : (x : Test) (first : _) (rest : Vec TestLink Global) → x ≡ vt.Combined first rest
    → test_leaves (test_view x) ≡ test_leaves (test_view first.value) ++ flat_map test_link_leaves rest.items
combined_leaves x first rest is = ap (λ (y : Test). test_leaves (test_view y)) is ∙ ap test_leaves (view_combined first rest) ∙ linked_tests (test_view first.value) rest.items

module _ (x : Statement) (at : ℕ) (branches : Vec Branch Global) (otherwise : Option (Vec Statement Global)) (is : x ≡ vs.If at branches otherwise) where
  pub if_leaves : (last : Vec Statement Global) → otherwise ≡ Some last → statement_leaves x ≡ flat_map branch_leaves branches.items ++ flat_map statement_leaves last.items
  if_leaves last e =
      ap statement_leaves (is ∙ ap (vs.If at branches) e) ∙ ap stmt_leaves (view_if at branches (Some last)) ∙ each_branch (bodies.otherwise (statements_of last.items)) branches.items
      ∙ ap (λ ls. flat_map branch_leaves branches.items ++ ls) (each_leaf last.items)

  pub if_alone_leaves : otherwise ≡ None → statement_leaves x ≡ flat_map branch_leaves branches.items
  if_alone_leaves e =
      ap statement_leaves (is ∙ ap (vs.If at branches) e) ∙ ap stmt_leaves (view_if at branches None)
      ∙ each_branch bodies.no_else branches.items ∙ append-nil (flat_map branch_leaves branches.items)

pub case_leaves : (x : Statement) (at : ℕ) (selector : Value) (alternatives : Vec Alternative Global) (others : Vec Statement Global) → x ≡ vs.Case at selector alternatives others
    → statement_leaves x ≡ value_leaves (value_view selector) ++ (flat_map alternative_leaves alternatives.items ++ flat_map statement_leaves others.items)
case_leaves x at selector alternatives others is =
    ap statement_leaves is ∙ ap stmt_leaves (view_case at selector alternatives others)
    ∙ ap (λ ls. value_leaves (value_view selector) ++ ls) (each_alternative (statements_of others.items) alternatives.items
    ∙ ap (λ ls. flat_map alternative_leaves alternatives.items ++ ls) (each_leaf others.items))
