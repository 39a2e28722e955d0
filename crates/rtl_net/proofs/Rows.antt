-- The lists in a node of a body, as contracts see them: what a `match` on a node knows, in the words of the views.
use Rattle.std.proofs.Common.{◌≡◌, ℕ, map, Vec, Option, Some, None, Global, refl, ap, sym, ◌∙◌}
use Rattle.std.specs.Prelude.{option_map}
use mathlib.Core.Former.{Count}
use Rattle.rtl_model.specs.bodies.Body as bodies
use Rattle.rtl_net.specs.declared.body.Expr.TheVariants as e
use Rattle.rtl_net.specs.declared.body.Expr.TheBlock.{Row_of-Link, end_of-Link, more_of-Link, items-the_row-Link, hidden-the_row-Link-0, items_hidden-the_row-Link-0}
use Rattle.rtl_net.specs.declared.body.Link.{Link}
use Rattle.rtl_net.specs.declared.body.Value.{Value}
use Rattle.rtl_net.specs.declared.body.Test.TheVariants as t
use Rattle.rtl_net.specs.declared.body.Test.TheBlock.{Row_of-TestLink, end_of-TestLink, more_of-TestLink, items-the_row-TestLink, hidden-the_row-TestLink-0, items_hidden-the_row-TestLink-0}
use Rattle.rtl_net.specs.declared.body.TestLink.{TestLink}
use Rattle.rtl_net.specs.declared.body.Statement.{Statement}
use Rattle.rtl_net.specs.declared.body.Statement.TheVariants as s
use Rattle.rtl_net.specs.declared.body.Statement.TheBlock.{Row_of-Statement, end_of-Statement, more_of-Statement, items-the_row-Statement, hidden-the_row-Statement-0, items_hidden-the_row-Statement-0, shown-the_row-Statement-0, items_shown-the_row-Statement-0}
use Rattle.rtl_net.specs.declared.body.Statement.TheBlock.{Row_of-Branch, end_of-Branch, more_of-Branch, items-the_row-Branch, hidden-the_row-Branch-1, items_hidden-the_row-Branch-1}
use Rattle.rtl_net.specs.declared.body.Statement.TheBlock.{Row_of-Alternative, end_of-Alternative, more_of-Alternative, items-the_row-Alternative, hidden-the_row-Alternative-2, items_hidden-the_row-Alternative-2}
use Rattle.rtl_net.specs.declared.body.Branch.{Branch}
use Rattle.rtl_net.specs.declared.body.Alternative.{Alternative}
use Rattle.rtl_net.specs.Bodies.{operator_view, expr_view, links_view, links_of, value_view, test_view, test_links_view, test_links_of, choice_view, statement_view, statements_row, branches_row, alternatives_row, statements_of, branches_of, otherwise_of, alternatives_of}

-- ---- expressions

links-row : (left : bodies.Expr) (n : Count) (row : Row_of-Link n) → links_view left row ≡ links_of left (items-the_row-Link n row)
links-row left n end_of-Link = refl
links-row left n (more_of-Link operator operand rest) = links-row (bodies.binary (operator_view operator) left (expr_view operand)) _ rest

links-hidden : (left : bodies.Expr) (v : Vec Link Global) → links_view left (hidden-the_row-Link-0 v) ≡ links_of left v.items
links-hidden left v = links-row left _ (hidden-the_row-Link-0 v) ∙ ap (links_of left) (items_hidden-the_row-Link-0 v)

-- ---- tests

test_links-row : (left : bodies.Test) (n : Count) (row : Row_of-TestLink n) → test_links_view left row ≡ test_links_of left (items-the_row-TestLink n row)
test_links-row left n end_of-TestLink = refl
test_links-row left n (more_of-TestLink operator operand rest) = test_links-row (bodies.combined operator left (test_view operand)) _ rest

test_links-hidden : (left : bodies.Test) (v : Vec TestLink Global) → test_links_view left (hidden-the_row-TestLink-0 v) ≡ test_links_of left v.items
test_links-hidden left v = test_links-row left _ (hidden-the_row-TestLink-0 v) ∙ ap (test_links_of left) (items_hidden-the_row-TestLink-0 v)

-- ---- statements

statements-row : (n : Count) (row : Row_of-Statement n) → statements_row row ≡ statements_of (items-the_row-Statement n row)
statements-row n end_of-Statement = refl
statements-row n (more_of-Statement x rest) = ap (bodies.step (statement_view x)) (statements-row _ rest)

statements-hidden : (v : Vec Statement Global) → statements_row (hidden-the_row-Statement-0 v) ≡ statements_of v.items
statements-hidden v = statements-row _ (hidden-the_row-Statement-0 v) ∙ ap statements_of (items_hidden-the_row-Statement-0 v)

branches-row : (last : bodies.Branches) (n : Count) (row : Row_of-Branch n) → branches_row last row ≡ branches_of last (items-the_row-Branch n row)
branches-row last n end_of-Branch = refl
branches-row last n (more_of-Branch test shape x rest) =
    let p : statements_row x ≡ statements_of (shown-the_row-Statement-0 shape x).items = statements-row _ x ∙ ap statements_of (sym (items_shown-the_row-Statement-0 shape x)) in
    λ i. bodies.branch (test_view test) (p i) (branches-row last _ rest i)

branches-hidden : (last : bodies.Branches) (v : Vec Branch Global) → branches_row last (hidden-the_row-Branch-1 v) ≡ branches_of last v.items
branches-hidden last v = branches-row last _ (hidden-the_row-Branch-1 v) ∙ ap (branches_of last) (items_hidden-the_row-Branch-1 v)

alternatives-row : (last : bodies.Stmts) (n : Count) (row : Row_of-Alternative n) → alternatives_row last row ≡ alternatives_of last (items-the_row-Alternative n row)
alternatives-row last n end_of-Alternative = refl
alternatives-row last n (more_of-Alternative choices shape x rest) =
    let p : statements_row x ≡ statements_of (shown-the_row-Statement-0 shape x).items = statements-row _ x ∙ ap statements_of (sym (items_shown-the_row-Statement-0 shape x)) in
    λ i. bodies.alternative (map choice_view choices.items) (p i) (alternatives-row last _ rest i)

alternatives-hidden : (last : bodies.Stmts) (v : Vec Alternative Global) → alternatives_row last (hidden-the_row-Alternative-2 v) ≡ alternatives_of last v.items
alternatives-hidden last v = alternatives-row last _ (hidden-the_row-Alternative-2 v) ∙ ap (alternatives_of last) (items_hidden-the_row-Alternative-2 v)

-- ---- the nodes with lists

pub view_chain : (first : _) (rest : Vec Link Global) → expr_view (e.Chain first rest) ≡ links_of (expr_view first.value) rest.items
view_chain first rest = links-hidden (expr_view first.value) rest

pub view_combined : (first : _) (rest : Vec TestLink Global) → test_view (t.Combined first rest) ≡ test_links_of (test_view first.value) rest.items
view_combined first rest = test_links-hidden (test_view first.value) rest

pub view_if : (at : ℕ) (branches : Vec Branch Global) (otherwise : Option (Vec Statement Global)) →
    statement_view (s.If at branches otherwise) ≡ bodies.if_of (branches_of (otherwise_of (option_map (λ v. v.items) otherwise)) branches.items)
view_if at branches None = ap bodies.if_of (branches-hidden bodies.no_else branches)
view_if at branches (Some v) =
    ap (λ x. bodies.if_of (branches_row (bodies.otherwise x) (hidden-the_row-Branch-1 branches))) (statements-hidden v) ∙ ap bodies.if_of (branches-hidden (bodies.otherwise (statements_of v.items)) branches)

pub view_case : (at : ℕ) (selector : Value) (alternatives : Vec Alternative Global) (others : Vec Statement Global) →
    statement_view (s.Case at selector alternatives others) ≡ bodies.case_of (value_view selector) (alternatives_of (statements_of others.items) alternatives.items)
view_case at selector alternatives others =
    ap (λ x. bodies.case_of (value_view selector) (alternatives_row x (hidden-the_row-Alternative-2 alternatives))) (statements-hidden others)
    ∙ ap (bodies.case_of (value_view selector)) (alternatives-hidden (statements_of others.items) alternatives)
