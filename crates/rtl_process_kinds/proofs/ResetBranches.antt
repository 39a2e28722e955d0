-- The branch of a reset stands where it is said to.
use Rattle.std.proofs.Common.{◌≡◌, ℕ, zero, suc, ◌-◌, Bool, true, false, List, [], ◌∷◌, length, get_or, vec_len, ◌==◌, sym, ap, ◌∙◌, arith, Vec, Global, Option, Some, None, inl, inr}
use Rattle.std.specs.Prelude.{is_some, option_map}
use Rattle.std.proofs.lemmas.Bool.{eqb-true, eqb-false}
use Rattle.rtl_model.specs.bodies.Body.{Stmt, Stmts, if_of, Branches, no_else, otherwise, branch}
use Rattle.rtl_model.specs.bodies.Kinds.{Clocking, ResetPart, IsClocked}
use Rattle.rtl_net.specs.declared.body.Branch.{Branch}
use Rattle.rtl_net.specs.declared.body.Statement.{Statement}
use Rattle.rtl_net.specs.declared.body.Statement.TheVariants as vs
use Rattle.rtl_net.specs.Bodies.{test_view, statement_view, statements_of, branches_of, otherwise_of}
use Rattle.rtl_net.proofs.Rows.{view_if}
use Rattle.rtl_process_kinds.specs.ResetBranches.{last_in, reset_branch}

-- ---- which part of a body it is

same_part : (c : Clocking) (r s : ResetPart) → c.reset ≡ Some r → c.reset ≡ Some s → r.branch ≡ s.branch
same_part c r s e f = let same : Some r ≡ Some s = sym e ∙ f in cc

pub resets_by : (wide : Bool) (inputs : List ℕ) (body : Stmts) (c : Clocking) (r : ResetPart) → IsClocked wide inputs body c → c.reset ≡ Some r
    → reset_branch body ≡ r.branch
resets_by wide inputs body c r (inl alone) e = let none : false ≡ true = sym (ap is_some alone.no_reset) ∙ ap is_some e in absurd cc
resets_by wide inputs body c r (inr (inl a)) e = ap reset_branch a.is ∙ same_part c a.reset r a.reset_is e
resets_by wide inputs body c r (inr (inr a)) e = ap reset_branch a.is ∙ same_part c a.reset r a.reset_is e

-- ---- the first branch of an if

module _ {A : Type 0} (f : Stmt → A) (x : Statement) (at : ℕ) (branches : Vec Branch Global) (last : Option (Vec Statement Global)) (is : x ≡ vs.If at branches last) where
  spelled : f (statement_view x) ≡ f (if_of (branches_of (otherwise_of (option_map (λ v. v.items) last)) branches.items))
  spelled = ap (λ (y : Statement). f (statement_view y)) is ∙ ap f (view_if at branches last)

  pub no_first : (a : A) → a ≡ f (if_of no_else) → ((s : Stmts) → a ≡ f (if_of (otherwise s))) → (vec_len branches == 0) ≡ true → a ≡ f (statement_view x)
  no_first a none some e = go branches.items (eqb-true (length branches.items) 0 (sym (ap (λ (n : ℕ). n == 0) branches.ok.0) ∙ e)) spelled
    where
      bare : (o : Option (List Statement)) → a ≡ f (if_of (otherwise_of o))
      bare None = none
      bare (Some s) = some (statements_of s)

      go : (bs : List Branch) → length bs ≡ 0 → f (statement_view x) ≡ f (if_of (branches_of (otherwise_of (option_map (λ v. v.items) last)) bs)) → a ≡ f (statement_view x)
      go [] l h = bare (option_map (λ v. v.items) last) ∙ sym h
      go (b ∷ bs) l h = absurd (omega arith)

  pub the_first : (of_branch : Branch → A) → ((b : Branch) (rest : Branches) → of_branch b ≡ f (if_of (branch (test_view b.test) (statements_of b.statements.items) rest)))
      → (b : Branch) → (vec_len branches == 0) ≡ false → b ≡ get_or branches.items 0 b → of_branch b ≡ f (statement_view x)
  the_first of_branch of_one b e first = go branches.items (sym (ap (λ (n : ℕ). n == 0) branches.ok.0) ∙ e) first spelled
    where
      go : (bs : List Branch) → (length bs == 0) ≡ false → b ≡ get_or bs 0 b
          → f (statement_view x) ≡ f (if_of (branches_of (otherwise_of (option_map (λ v. v.items) last)) bs)) → of_branch b ≡ f (statement_view x)
      go [] l g h = absurd cc
      go (a ∷ bs) l g h = ap of_branch g ∙ of_one a (branches_of (otherwise_of (option_map (λ v. v.items) last)) bs) ∙ sym h

-- ---- the last statement

module _ {A : Type 0} (of_one : Stmt → A) (none : A) where
  last_at : (xs : List Statement) (k : ℕ) (x : Statement) → length xs ≡ suc k → x ≡ get_or xs k x → of_one (statement_view x) ≡ last_in of_one none (statements_of xs)
  last_at [] k x many is = absurd (omega arith)
  last_at (y ∷ []) zero x many is = ap (λ (z : Statement). of_one (statement_view z)) is
  last_at (y ∷ []) (suc k) x many is = absurd (omega arith)
  last_at (y ∷ z ∷ zs) zero x many is = absurd (omega arith)
  last_at (y ∷ z ∷ zs) (suc k) x many is = last_at (z ∷ zs) k x (omega arith) is

  pub of_last : (xs : List Statement) (x : Statement) → (length xs == 0) ≡ false → x ≡ get_or xs (length xs - 1) x → of_one (statement_view x) ≡ last_in of_one none (statements_of xs)
  of_last xs x some is = let odd = eqb-false (length xs) 0 some in last_at xs (length xs - 1) x (omega arith) is
