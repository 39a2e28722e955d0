-- What a statement assigns, its parts assign.
use Rattle.std.proofs.Common.{◌≡◌, ℕ, List, [], ◌∷◌, All, Option, Vec, Global, subst}
use Rattle.std.specs.Prelude.{option_map}
use Rattle.std.proofs.lemmas.List.Elements.{All-nil, All-cons}
use Rattle.rtl_model.specs.bodies.Body as bodies
use Rattle.rtl_net.specs.declared.body.Statement.{Statement}
use Rattle.rtl_net.specs.declared.body.Statement.TheVariants as s
use Rattle.rtl_net.specs.declared.body.Branch.{Branch}
use Rattle.rtl_net.specs.declared.body.Alternative.{Alternative}
use Rattle.rtl_net.specs.declared.body.Value.{Value}
use Rattle.rtl_net.specs.Bodies.{statement_view, statements_of, branches_of, otherwise_of, alternatives_of}
use Rattle.rtl_net.proofs.Rows.{view_if, view_case}
use Rattle.vhdl_expand_rules.specs.laws.Trees.{StmtAssigns, Assigns, BranchesAssign, AlternativesAssign}

module _ (Is : ℕ → Type 0) where
  abbrev pub Statements : List Statement → Type 0
  Statements xs = All (λ (x : Statement). StmtAssigns Is (statement_view x)) xs

  abbrev pub Branches : List Branch → Type 0
  Branches bs = All (λ (b : Branch). Assigns Is (statements_of b.statements.items)) bs

  abbrev pub Alternatives : List Alternative → Type 0
  Alternatives as' = All (λ (a : Alternative). Assigns Is (statements_of a.statements.items)) as'

  pub statements_assign : (xs : List Statement) → Assigns Is (statements_of xs) → Statements xs
  statements_assign [] h = All-nil (λ (x : Statement). StmtAssigns Is (statement_view x))
  statements_assign (x ∷ xs) h = All-cons (λ (x : Statement). StmtAssigns Is (statement_view x)) x xs h.0 (statements_assign xs h.1)

  branches-assign : (last : bodies.Branches) (bs : List Branch) → BranchesAssign Is (branches_of last bs) → Branches bs × BranchesAssign Is last
  branches-assign last [] h = (All-nil (λ (b : Branch). Assigns Is (statements_of b.statements.items)), h)
  branches-assign last (b ∷ bs) h =
      let rest = branches-assign last bs h.1 in
      (All-cons (λ (b : Branch). Assigns Is (statements_of b.statements.items)) b bs h.0 rest.0, rest.1)

  alternatives-assign : (last : bodies.Stmts) (as' : List Alternative) → AlternativesAssign Is (alternatives_of last as') → Alternatives as' × Assigns Is last
  alternatives-assign last [] h = (All-nil (λ (a : Alternative). Assigns Is (statements_of a.statements.items)), h)
  alternatives-assign last (a ∷ as') h =
      let rest = alternatives-assign last as' h.1 in
      (All-cons (λ (a : Alternative). Assigns Is (statements_of a.statements.items)) a as' h.0 rest.0, rest.1)

  pub if_assigns : (x : Statement) (at : ℕ) (branches : Vec Branch Global) (otherwise : Option (Vec Statement Global)) → x ≡ s.If at branches otherwise → StmtAssigns Is (statement_view x)
      → Branches branches.items × BranchesAssign Is (otherwise_of (option_map (λ v. v.items) otherwise))
  if_assigns x at branches otherwise is h =
      branches-assign _ branches.items
      (subst (StmtAssigns Is) (view_if at branches otherwise) (subst (λ (y : Statement). StmtAssigns Is (statement_view y)) is h))

  pub case_assigns : (x : Statement) (at : ℕ) (selector : Value) (alternatives : Vec Alternative Global) (others : Vec Statement Global) → x ≡ s.Case at selector alternatives others
      → StmtAssigns Is (statement_view x) → Alternatives alternatives.items × Assigns Is (statements_of others.items)
  case_assigns x at selector alternatives others is h =
      alternatives-assign _ alternatives.items
      (subst (StmtAssigns Is) (view_case at selector alternatives others) (subst (λ (y : Statement). StmtAssigns Is (statement_view y)) is h))
