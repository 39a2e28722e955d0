-- What is given under conditions, by parts that stand in lists.
use Rattle.std.proofs.Common.{◌≡◌, ℕ, ◌+◌, ◌<◌, Bool, true, false, ◌&&◌, ◌||◌, ◌==◌, List, [], ◌∷◌, Option, Vec, Global, length, vec_len, get_or, drop, arith, refl, sym, ap, ◌∙◌}
use Rattle.std.specs.Prelude.{option_map}
use Rattle.std.specs.List.{list_any, list_all}
use Rattle.std.proofs.lemmas.Bool.{eqb-true}
use Rattle.std.proofs.lemmas.List.{at_drop_more}
use mathlib.Core.Path.{fun_ext}
use Rattle.rtl_model.specs.basics.Lists.{is_empty}
use Rattle.rtl_model.specs.bodies.Body as bodies
use Rattle.rtl_model.specs.bodies.Leaves.{test_leaves, value_leaves}
use Rattle.rtl_net.specs.Bodies.{operator_view, expr_view, links_of, statements_of, branches_of, otherwise_of, alternatives_of, test_view, value_view}
use Rattle.rtl_net.specs.declared.body.Alternative.{Alternative}
use Rattle.rtl_net.specs.declared.body.Branch.{Branch}
use Rattle.rtl_net.specs.declared.body.Expr.{Expr}
use Rattle.rtl_net.specs.declared.body.Expr.TheVariants as ve
use Rattle.rtl_net.specs.declared.body.Link.{Link}
use Rattle.rtl_net.specs.declared.body.Statement.{Statement}
use Rattle.rtl_net.specs.declared.body.Statement.TheVariants as vs
use Rattle.rtl_net.specs.declared.body.Value.{Value}
use Rattle.rtl_net.specs.declared.process.Driver.{Driver}
use Rattle.rtl_net.proofs.Rows.{view_chain, view_if, view_case}
use Rattle.rtl_body_facts.specs.Reading.{is_in}
use Rattle.rtl_body_facts.proofs.Anys.{or_assoc, and_not}
use Rattle.rtl_outside_ranges.specs.Outside.{asks, gives, stmt_gives, branches_give, alternatives_give, is_apart, also}
use Rattle.rtl_outside_ranges.specs.Tables.{statement_gives, alternative_gives, behind}

-- ---- values

-- a chain of one operand is that
chain-asks : (left : bodies.Expr) (ls : List Link) → asks (links_of left ls) ≡ (is_empty ls && asks left)
chain-asks left [] = refl
chain-asks left (l ∷ ls) = chain-asks (bodies.binary (operator_view l.operator) left (expr_view l.operand)) ls ∙ sym (and_not (is_empty ls))

none_there : (ls : List Link) (b : Bool) → (length ls == 0) ≡ b → is_empty ls ≡ b
none_there [] b e = e
none_there (l ∷ ls) false e = refl
none_there (l ∷ ls) true e = let k = eqb-true (length (l ∷ ls)) 0 e in absurd (omega arith)

pub chain_asks : (x : Expr) (first : _) (rest : Vec Link Global) (b : Bool) → x ≡ ve.Chain first rest → (vec_len rest == 0) ≡ b → (b && asks (expr_view first.value)) ≡ asks (expr_view x)
chain_asks x first rest b is e =
    sym
    (ap (λ (y : Expr). asks (expr_view y)) is ∙ ap asks (view_chain first rest) ∙ chain-asks (expr_view first.value) rest.items
    ∙ ap (λ (none : Bool). none && asks (expr_view first.value)) (none_there rest.items b (sym (ap (λ (n : ℕ). n == 0) rest.ok.0) ∙ e)))

-- ---- sequences and alternatives

module _ (drives : List Driver) (logic looked : ℕ → Bool) (n : ℕ) where
  pub body_gives : (xs : List Statement) → gives drives logic looked n (statements_of xs) ≡ list_any (statement_gives drives logic looked n) xs
  body_gives [] = refl
  body_gives (x ∷ xs) = ap (λ (b : Bool). statement_gives drives logic looked n x || b) (body_gives xs)

  alternatives-give : (last : bodies.Stmts) (bs : List Alternative)
      → alternatives_give drives logic looked n (alternatives_of last bs) ≡ (list_any (alternative_gives drives logic looked n) bs || gives drives logic looked n last)
  alternatives-give last [] = refl
  alternatives-give last (b ∷ bs) = ap (λ (c : Bool). alternative_gives drives logic looked n b || c) (alternatives-give last bs)
      ∙ sym (or_assoc (alternative_gives drives logic looked n b) (list_any (alternative_gives drives logic looked n) bs) (gives drives logic looked n last))

-- ---- a branch of an if; these nets are looked at round it, and those inside it

module _ (drives : List Driver) (logic : ℕ → Bool) (found : List ℕ) (n : ℕ) (b : Branch) where
  pub branch_gives : (below : List ℕ) (rest : bodies.Branches) (old new : Bool) → list_all (is_apart logic) (test_leaves (test_view b.test)) ≡ true
      → ((m : ℕ) → is_in m below ≡ also (λ m. is_in m found) (test_leaves (test_view b.test)) m) → new ≡ (old || gives drives logic (λ m. is_in m below) n (statements_of b.statements.items))
      → (new || branches_give drives logic (λ m. is_in m below) n rest)
      ≡ (old || branches_give drives logic (λ m. is_in m found) n (bodies.branch (test_view b.test) (statements_of b.statements.items) rest))
  branch_gives below rest old new apart are e =
      let s = statements_of b.statements.items in
      let inside = also (λ m. is_in m found) (test_leaves (test_view b.test)) in
      ap (λ (a : Bool). a || branches_give drives logic (λ m. is_in m below) n rest) e
      ∙ or_assoc old (gives drives logic (λ m. is_in m below) n s) (branches_give drives logic (λ m. is_in m below) n rest)
      ∙ ap (λ (f : ℕ → Bool). old || (gives drives logic f n s || branches_give drives logic f n rest)) (fun_ext are)
      ∙ ap (λ (a : Bool). old || (a && (gives drives logic inside n s || branches_give drives logic inside n rest))) (sym apart)

  pub more_gives : (rest : bodies.Branches) (old : Bool) → list_all (is_apart logic) (test_leaves (test_view b.test)) ≡ false
      → (old || false) ≡ (old || branches_give drives logic (λ m. is_in m found) n (bodies.branch (test_view b.test) (statements_of b.statements.items) rest))
  more_gives rest old more =
      let s = statements_of b.statements.items in
      let inside = also (λ m. is_in m found) (test_leaves (test_view b.test)) in
      ap (λ (a : Bool). old || (a && (gives drives logic inside n s || branches_give drives logic inside n rest))) (sym more)

-- the branch that stands next
pub next_branch : (drives : List Driver) (logic looked : ℕ → Bool) (n : ℕ) (last : bodies.Branches) (bs : List Branch) (i : ℕ) (b : Branch) → i < length bs → b ≡ get_or bs i b
    → branches_give drives logic looked n (branches_of last (drop i bs))
    ≡ branches_give drives logic looked n (bodies.branch (test_view b.test) (statements_of b.statements.items) (branches_of last (drop (i + 1) bs)))
next_branch drives logic looked n last bs i b l e =
    let f : List Branch → Bool = λ xs. branches_give drives logic looked n (branches_of last xs) in
    at_drop_more f bs i b l ∙ ap (λ (x : Branch). f (x ∷ drop (i + 1) bs)) (sym e)

-- ---- statements

module _ (drives : List Driver) (logic looked : ℕ → Bool) (n : ℕ) where
  if-gives : (x : Statement) (at : ℕ) (branches : Vec Branch Global) (otherwise : Option (Vec Statement Global)) → x ≡ vs.If at branches otherwise
      → branches_give drives logic looked n (branches_of (otherwise_of (option_map (λ v. v.items) otherwise)) branches.items) ≡ statement_gives drives logic looked n x
  if-gives x at branches otherwise is = sym (ap (statement_gives drives logic looked n) is ∙ ap (stmt_gives drives logic looked n) (view_if at branches otherwise))

  -- the branches and, behind them, the else
  pub if_gives : (old new : Bool) (found : Option (Vec ℕ Global)) (bs : List Branch) (x : Statement) (at : ℕ) (branches : Vec Branch Global) (otherwise : Option (Vec Statement Global)) → bs ≡ branches.items
      → x ≡ vs.If at branches otherwise → ((last : bodies.Branches) → (new || behind drives logic found n last) ≡ (old || branches_give drives logic looked n (branches_of last bs)))
      → (new || behind drives logic found n (otherwise_of (option_map (λ v. v.items) otherwise))) ≡ (old || statement_gives drives logic looked n x)
  if_gives old new found bs x at branches otherwise same is pushed =
      let last = otherwise_of (option_map (λ v. v.items) otherwise) in
      pushed last ∙ ap (λ (xs : List Branch). old || branches_give drives logic looked n (branches_of last xs)) same ∙ ap (λ (b : Bool). old || b) (if-gives x at branches otherwise is)

module _ (drives : List Driver) (logic : ℕ → Bool) (outer : List ℕ) (n : ℕ) (x : Statement) (at : ℕ) (selector : Value) (alternatives : Vec Alternative Global) (others : Vec Statement Global) where
  as_case : x ≡ vs.Case at selector alternatives others → statement_gives drives logic (λ m. is_in m outer) n x
      ≡ (list_all (is_apart logic) (value_leaves (value_view selector))
      && alternatives_give drives logic (also (λ m. is_in m outer) (value_leaves (value_view selector))) n (alternatives_of (statements_of others.items) alternatives.items))
  as_case is = ap (statement_gives drives logic (λ m. is_in m outer) n) is ∙ ap (stmt_gives drives logic (λ m. is_in m outer) n) (view_case at selector alternatives others)

  pub case_gives : (inner : List ℕ) → list_all (is_apart logic) (value_leaves (value_view selector)) ≡ true → ((m : ℕ) → is_in m inner ≡ also (λ m. is_in m outer) (value_leaves (value_view selector)) m)
      → x ≡ vs.Case at selector alternatives others
      → statement_gives drives logic (λ m. is_in m outer) n x
      ≡ (list_any (alternative_gives drives logic (λ m. is_in m inner) n) alternatives.items || gives drives logic (λ m. is_in m inner) n (statements_of others.items))
  case_gives inner apart are is =
      let alts = alternatives_of (statements_of others.items) alternatives.items in
      as_case is
      ∙ ap (λ (a : Bool). a && alternatives_give drives logic (also (λ m. is_in m outer) (value_leaves (value_view selector))) n alts) apart
      ∙ ap (λ (f : ℕ → Bool). alternatives_give drives logic f n alts) (sym (fun_ext are))
      ∙ alternatives-give drives logic (λ m. is_in m inner) n (statements_of others.items) alternatives.items
