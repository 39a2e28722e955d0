-- What is undefined while a net is, and what may be assigned meanwhile, by parts that stand in lists.
use Rattle.std.proofs.Common.{◌≡◌, ℕ, ◌+◌, ◌<◌, Bool, true, false, not, ◌&&◌, ◌||◌, List, [], ◌∷◌, length, get_or, drop, refl, sym, ap, ◌∙◌, Vec, Some, None, Global, Result, Ok, Err}
use Rattle.std.specs.Prelude.{IfOk}
use Rattle.std.specs.List.{list_any, filter}
use Rattle.std.proofs.lemmas.List.{at_drop_more}
use Rattle.rtl_net.specs.declared.body.Expr.{Expr}
use Rattle.rtl_net.specs.declared.body.Expr.TheVariants as e
use Rattle.rtl_net.specs.declared.body.Link.{Link}
use Rattle.rtl_net.specs.declared.body.Test.{Test}
use Rattle.rtl_net.specs.declared.body.Test.TheVariants as t
use Rattle.rtl_net.specs.declared.body.TestLink.{TestLink}
use Rattle.rtl_net.specs.declared.body.Value.{Value}
use Rattle.rtl_net.specs.declared.body.Statement.{Statement}
use Rattle.rtl_net.specs.declared.body.Statement.TheVariants as vs
use Rattle.rtl_net.specs.declared.body.Branch.{Branch}
use Rattle.rtl_net.specs.declared.body.Alternative.{Alternative}
use Rattle.rtl_net.specs.declared.process.Driver.{Driver}
use Rattle.rtl_net.specs.Bodies.{operator_view, expr_view, links_of, test_view, test_links_of, statements_of, branches_of, alternatives_of}
use Rattle.rtl_net.proofs.Rows.{view_chain, view_combined, view_if, view_case}
use Rattle.rtl_model.specs.bodies.Body as bodies
use Rattle.rtl_body_facts.proofs.Anys.{or_assoc, or_none}
use Rattle.rtl_body_facts.proofs.EveryPath.{in_filter}
use Rattle.rtl_body_facts.specs.Reading.{is_in}
use Rattle.rtl_remarks.specs.Undefined.{passes, whole_of, some_is, is_whole, is_and, fails, stmt_may, may_assign, branches_may, alternatives_may}
use Rattle.rtl_remarks.specs.declared.undefined.Makers.{Makers}
use Rattle.rtl_remarks.specs.Tables.{MakeUndefined, links_some, links_whole, tests_fail, statement_may, branch_may, alternative_may}

pub both_ok : {T E : Type 0} (P Q R : T → Type 0) (r : Result T E) → ((v : T) → P v → Q v → R v) → IfOk r P → IfOk r Q → IfOk r R
both_ok P Q R (Ok v) on p q = on v p q
both_ok P Q R (Err e) on p q = p

-- ---- chains

links-some : (n : ℕ) (left : bodies.Expr) (ls : List Link) → some_is n (links_of left ls) ≡ links_some n (some_is n left) ls
links-some n left [] = refl
links-some n left (l ∷ ls) = links-some n (bodies.binary (operator_view l.operator) left (expr_view l.operand)) ls

links-whole : (left : bodies.Expr) (ls : List Link) → is_whole (links_of left ls) ≡ links_whole (is_whole left) ls
links-whole left [] = refl
links-whole left (l ∷ ls) = links-whole (bodies.binary (operator_view l.operator) left (expr_view l.operand)) ls

tests-fail : (n : ℕ) (left : bodies.Test) (ls : List TestLink) → fails n (test_links_of left ls) ≡ tests_fail n (fails n left) ls
tests-fail n left [] = refl
tests-fail n left (l ∷ ls) = tests-fail n (bodies.combined l.operator left (test_view l.operand)) ls

-- what its links make of what its first operand makes is what the chain makes
pub chain_makes : (x : Expr) (first : _) (rest : Vec Link Global) (first-now : Expr) (rest-now : List Link) (left v : Makers) → x ≡ e.Chain first rest
    → first-now ≡ first.value → rest-now ≡ rest.items → MakeUndefined (expr_view first-now) left
    → ((n : ℕ) → is_in n v.nets.items ≡ links_some n (is_in n left.nets.items) rest-now) → v.whole ≡ links_whole left.whole rest-now → MakeUndefined (expr_view x) v
chain_makes x first rest first-now rest-now left v is a b made some whole = record {
  nets = λ n.
      some n ∙ ap (λ c. links_some n c rest-now) (made.nets n ∙ ap (λ y. some_is n (expr_view y)) a) ∙ ap (links_some n (some_is n (expr_view first.value))) b
      ∙ sym (ap (λ y. some_is n (expr_view y)) is ∙ ap (some_is n) (view_chain first rest) ∙ links-some n (expr_view first.value) rest.items);
  whole =
      whole ∙ ap (λ c. links_whole c rest-now) (made.whole ∙ ap (λ y. is_whole (expr_view y)) a) ∙ ap (links_whole (is_whole (expr_view first.value))) b
      ∙ sym (ap (λ y. is_whole (expr_view y)) is ∙ ap is_whole (view_chain first rest) ∙ links-whole (expr_view first.value) rest.items);
}

pub combined_fails : (n : ℕ) (x : Test) (first : _) (rest : Vec TestLink Global) (first-now : Test) (rest-now : List TestLink) (left b : Bool) → x ≡ t.Combined first rest
    → first-now ≡ first.value → rest-now ≡ rest.items → left ≡ fails n (test_view first-now) → b ≡ tests_fail n left rest-now → b ≡ fails n (test_view x)
combined_fails n x first rest first-now rest-now left b is f r made all =
    all ∙ ap (λ c. tests_fail n c rest-now) (made ∙ ap (λ y. fails n (test_view y)) f) ∙ ap (tests_fail n (fails n (test_view first.value))) r
    ∙ sym (ap (λ y. fails n (test_view y)) is ∙ ap (fails n) (view_combined first rest) ∙ tests-fail n (test_view first.value) rest.items)

-- one link more
pub some_next : (n : ℕ) (b right next all : Bool) (rest : List Link) (i : ℕ) (link : Link) → i < length rest → link ≡ get_or rest i link
    → links_some n b (drop i rest) ≡ all → next ≡ (passes (operator_view link.operator) && (b || right)) → right ≡ some_is n (expr_view link.operand)
    → links_some n next (drop (i + 1) rest) ≡ all
some_next n b right next all rest i link l e inv is r =
    ap (λ x. links_some n x (drop (i + 1) rest)) (is ∙ ap (λ x. passes (operator_view link.operator) && (b || x)) r)
    ∙ ap (λ (y : Link). links_some n (passes (operator_view y.operator) && (b || some_is n (expr_view y.operand))) (drop (i + 1) rest)) e
    ∙ sym (at_drop_more (links_some n b) rest i link l) ∙ inv

pub whole_next : (b right next all : Bool) (rest : List Link) (i : ℕ) (link : Link) → i < length rest → link ≡ get_or rest i link
    → links_whole b (drop i rest) ≡ all → next ≡ whole_of (operator_view link.operator) b right → right ≡ is_whole (expr_view link.operand)
    → links_whole next (drop (i + 1) rest) ≡ all
whole_next b right next all rest i link l e inv is r =
    ap (λ x. links_whole x (drop (i + 1) rest)) (is ∙ ap (λ x. whole_of (operator_view link.operator) b x) r)
    ∙ ap (λ (y : Link). links_whole (whole_of (operator_view y.operator) b (is_whole (expr_view y.operand))) (drop (i + 1) rest)) e
    ∙ sym (at_drop_more (links_whole b) rest i link l) ∙ inv

pub fails_next : (n : ℕ) (b right next all : Bool) (rest : List TestLink) (i : ℕ) (link : TestLink) → i < length rest → link ≡ get_or rest i link
    → tests_fail n b (drop i rest) ≡ all → next ≡ (is_and link.operator && (b || right)) → right ≡ fails n (test_view link.operand)
    → tests_fail n next (drop (i + 1) rest) ≡ all
fails_next n b right next all rest i link l e inv is r =
    ap (λ x. tests_fail n x (drop (i + 1) rest)) (is ∙ ap (λ x. is_and link.operator && (b || x)) r)
    ∙ ap (λ (y : TestLink). tests_fail n (is_and y.operator && (b || fails n (test_view y.operand))) (drop (i + 1) rest)) e
    ∙ sym (at_drop_more (tests_fail n b) rest i link l) ∙ inv

-- ---- statements

module _ (drives : List Driver) (kept : Bool) (n : ℕ) where
  pub body_may : (xs : List Statement) → may_assign drives kept n (statements_of xs) ≡ list_any (statement_may drives kept n) xs
  body_may [] = refl
  body_may (x ∷ xs) = ap (λ (b : Bool). statement_may drives kept n x || b) (body_may xs)

  branches-may : (last : bodies.Branches) (bs : List Branch)
      → branches_may drives kept n (branches_of last bs) ≡ (list_any (branch_may drives kept n) bs || branches_may drives kept n last)
  branches-may last [] = refl
  branches-may last (b ∷ bs) = ap (λ (c : Bool). branch_may drives kept n b || c) (branches-may last bs)
      ∙ sym (or_assoc (branch_may drives kept n b) (list_any (branch_may drives kept n) bs) (branches_may drives kept n last))

  alternatives-may : (last : bodies.Stmts) (bs : List Alternative)
      → alternatives_may drives kept n (alternatives_of last bs) ≡ (list_any (alternative_may drives kept n) bs || may_assign drives kept n last)
  alternatives-may last [] = refl
  alternatives-may last (b ∷ bs) = ap (λ (c : Bool). alternative_may drives kept n b || c) (alternatives-may last bs)
      ∙ sym (or_assoc (alternative_may drives kept n b) (list_any (alternative_may drives kept n) bs) (may_assign drives kept n last))

  pub if_may : (x : Statement) (at : ℕ) (branches : Vec Branch Global) (v : Vec Statement Global) → x ≡ vs.If at branches (Some v)
      → statement_may drives kept n x ≡ (list_any (branch_may drives kept n) branches.items || may_assign drives kept n (statements_of v.items))
  if_may x at branches v is =
      ap (statement_may drives kept n) is
      ∙ (ap (stmt_may drives kept n) (view_if at branches (Some v)) ∙ branches-may (bodies.otherwise (statements_of v.items)) branches.items)

  pub if_alone_may : (x : Statement) (at : ℕ) (branches : Vec Branch Global) → x ≡ vs.If at branches None
      → statement_may drives kept n x ≡ list_any (branch_may drives kept n) branches.items
  if_alone_may x at branches is =
      ap (statement_may drives kept n) is
      ∙ (ap (stmt_may drives kept n) (view_if at branches None) ∙ (branches-may bodies.no_else branches.items ∙ sym (or_none (list_any (branch_may drives kept n) branches.items))))

  pub case_may : (x : Statement) (at : ℕ) (selector : Value) (alternatives : Vec Alternative Global) (others : Vec Statement Global) → x ≡ vs.Case at selector alternatives others
      → statement_may drives kept n x ≡ (list_any (alternative_may drives kept n) alternatives.items || may_assign drives kept n (statements_of others.items))
  case_may x at selector alternatives others is =
      ap (statement_may drives kept n) is
      ∙ (ap (stmt_may drives kept n) (view_case at selector alternatives others) ∙ alternatives-may (statements_of others.items) alternatives.items)

-- ---- lists one element further

-- two parts are added, one after the other
pub adds_both : (new mid old a b all : Bool) → new ≡ (mid || b) → mid ≡ (old || a) → all ≡ (a || b) → new ≡ (old || all)
adds_both new mid old a b all e f g = e ∙ (ap (λ (x : Bool). x || b) f ∙ (or_assoc old a b ∙ ap (λ (x : Bool). old || x) (sym g)))

and_swap : (a b : Bool) → (a && b) ≡ (b && a)
and_swap true true = refl
and_swap true false = refl
and_swap false true = refl
and_swap false false = refl

-- of what may be assigned in a branch, the nets for which its test doesn't fail
pub kept_running : (drives : List Driver) (kept : Bool) (n : ℕ) (b : Branch) (found from others inner failing : List ℕ) (body : List Statement)
    → found ≡ filter (λ m. not (is_in m others)) from → from ≡ inner → others ≡ failing → body ≡ b.statements.items → is_in n failing ≡ fails n (test_view b.test)
    → is_in n inner ≡ may_assign drives kept n (statements_of body) → kept ≡ false → is_in n found ≡ branch_may drives kept n b
kept_running drives kept n b found from others inner failing body is f o same fail may none =
    ap (is_in n) is ∙ in_filter (λ m. not (is_in m others)) from n
    ∙ ap (λ xs. is_in n xs && not (is_in n others)) f ∙ ap (λ xs. is_in n inner && not (is_in n xs)) o
    ∙ ap (λ c. is_in n inner && not c) fail ∙ ap (λ c. c && not (fails n (test_view b.test))) (may ∙ ap (λ xs. may_assign drives kept n (statements_of xs)) same)
    ∙ and_swap (may_assign drives kept n (statements_of b.statements.items)) (not (fails n (test_view b.test)))
    ∙ ap (λ c. (c || not (fails n (test_view b.test))) && may_assign drives kept n (statements_of b.statements.items)) (sym none)

-- all that is kept undefined in a branch counts
pub kept_all : (drives : List Driver) (kept : Bool) (n : ℕ) (b : Branch) → kept ≡ true → may_assign drives kept n (statements_of b.statements.items) ≡ branch_may drives kept n b
kept_all drives kept n b so = ap (λ c. (c || not (fails n (test_view b.test))) && may_assign drives kept n (statements_of b.statements.items)) (sym so)
