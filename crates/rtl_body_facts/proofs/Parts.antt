-- What nodes of bodies assign and store, by their parts in lists.
use Rattle.std.proofs.Common.{◌≡◌, ℕ, Bool, false, ◌&&◌, ◌||◌, List, [], ◌∷◌, refl, sym, ap, ◌∙◌, Vec, Some, None, Global}
use Rattle.std.specs.List.{list_any, list_all}
use Rattle.rtl_net.specs.declared.body.Value.{Value}
use Rattle.rtl_net.specs.declared.body.Statement.TheVariants as vs
use Rattle.rtl_net.specs.Indices.{numbers}
use Rattle.rtl_net.proofs.Rows.{view_if, view_case}
use Rattle.rtl_net.specs.declared.body.Statement.{Statement}
use Rattle.rtl_net.specs.declared.body.Branch.{Branch}
use Rattle.rtl_net.specs.declared.body.Alternative.{Alternative}
use Rattle.rtl_net.specs.Bodies.{value_view, test_view, statement_view, statements_of, branches_of, alternatives_of}
use Rattle.rtl_model.specs.bodies.Body as bodies
use Rattle.rtl_model.specs.bodies.Assigns.{must_assign, stmt_must_assign, is_element, branches_must_assign, alternatives_must_assign}
use Rattle.rtl_model.specs.bodies.Stored.{value_looks_at, test_looks_at, stmt_stores, stores_element, branches_store, alternatives_store}
use Rattle.rtl_body_facts.specs.Looks.{statement_assigned, branch_assigns, alternative_assigns, branch_stores, alternative_stores}
use Rattle.rtl_body_facts.proofs.Anys.{or_assoc, or_none, and_assoc, and_not}

module _ (e : ℕ) where
  pub must_is_any : (xs : List Statement) → must_assign (is_element e) (statements_of xs) ≡ list_any (statement_assigned e) xs
  must_is_any [] = refl
  must_is_any (x ∷ xs) = ap (λ (b : Bool). stmt_must_assign (is_element e) (statement_view x) || b) (must_is_any xs)

  pub branches_all : (last : bodies.Branches) (bs : List Branch)
      → branches_must_assign (is_element e) (branches_of last bs) ≡ (list_all (branch_assigns e) bs && branches_must_assign (is_element e) last)
  branches_all last [] = refl
  branches_all last (b ∷ bs) = ap (λ (c : Bool). branch_assigns e b && c) (branches_all last bs)
      ∙ sym (and_assoc (branch_assigns e b) (list_all (branch_assigns e) bs) (branches_must_assign (is_element e) last))

  pub alternatives_all : (last : bodies.Stmts) (bs : List Alternative)
      → alternatives_must_assign (is_element e) (alternatives_of last bs) ≡ (list_all (alternative_assigns e) bs && must_assign (is_element e) last)
  alternatives_all last [] = refl
  alternatives_all last (b ∷ bs) = ap (λ (c : Bool). alternative_assigns e b && c) (alternatives_all last bs)
      ∙ sym (and_assoc (alternative_assigns e b) (list_all (alternative_assigns e) bs) (must_assign (is_element e) last))

  pub branches_any : (last : bodies.Branches) (bs : List Branch) → branches_store e (branches_of last bs) ≡ (list_any (branch_stores e) bs || branches_store e last)
  branches_any last [] = refl
  branches_any last (b ∷ bs) =
      let t = test_looks_at e (test_view b.test) in
      let s = stores_element e (statements_of b.statements.items) in
      ap (λ (c : Bool). t || (s || c)) (branches_any last bs)
      ∙ (sym (or_assoc t s (list_any (branch_stores e) bs || branches_store e last)) ∙ sym (or_assoc (t || s) (list_any (branch_stores e) bs) (branches_store e last)))

  pub alternatives_any : (last : bodies.Stmts) (bs : List Alternative)
      → alternatives_store e (alternatives_of last bs) ≡ (list_any (alternative_stores e) bs || stores_element e last)
  alternatives_any last [] = refl
  alternatives_any last (b ∷ bs) = ap (λ (c : Bool). alternative_stores e b || c) (alternatives_any last bs)
      ∙ sym (or_assoc (alternative_stores e b) (list_any (alternative_stores e) bs) (stores_element e last))

  -- ---- nodes

  never : (xs : List ℕ) → list_any (λ (p : ℕ). false) xs ≡ false
  never [] = refl
  never (x ∷ xs) = never xs

  pub assign_assigns : (x : Statement) (places : _) (value : _) → x ≡ vs.Assign places value → stmt_must_assign (is_element e) (statement_view x) ≡ false
  assign_assigns x places value is = ap (λ (y : Statement). stmt_must_assign (is_element e) (statement_view y)) is ∙ never (numbers places)

  pub if_assigns : (x : Statement) (at : ℕ) (branches : Vec Branch Global) (v : Vec Statement Global) → x ≡ vs.If at branches (Some v)
      → stmt_must_assign (is_element e) (statement_view x) ≡ (list_all (branch_assigns e) branches.items && must_assign (is_element e) (statements_of v.items))
  if_assigns x at branches v is =
      ap (λ (y : Statement). stmt_must_assign (is_element e) (statement_view y)) is
      ∙ (ap (stmt_must_assign (is_element e)) (view_if at branches (Some v)) ∙ branches_all (bodies.otherwise (statements_of v.items)) branches.items)

  pub if_alone_assigns : (x : Statement) (at : ℕ) (branches : Vec Branch Global) → x ≡ vs.If at branches None → stmt_must_assign (is_element e) (statement_view x) ≡ false
  if_alone_assigns x at branches is =
      ap (λ (y : Statement). stmt_must_assign (is_element e) (statement_view y)) is
      ∙ (ap (stmt_must_assign (is_element e)) (view_if at branches None) ∙ (branches_all bodies.no_else branches.items ∙ sym (and_not (list_all (branch_assigns e) branches.items))))

  pub case_assigns : (x : Statement) (at : ℕ) (selector : Value) (alternatives : Vec Alternative Global) (others : Vec Statement Global) → x ≡ vs.Case at selector alternatives others
      → stmt_must_assign (is_element e) (statement_view x) ≡ (list_all (alternative_assigns e) alternatives.items && must_assign (is_element e) (statements_of others.items))
  case_assigns x at selector alternatives others is =
      ap (λ (y : Statement). stmt_must_assign (is_element e) (statement_view y)) is
      ∙ (ap (stmt_must_assign (is_element e)) (view_case at selector alternatives others) ∙ alternatives_all (statements_of others.items) alternatives.items)

  pub if_stores : (x : Statement) (at : ℕ) (branches : Vec Branch Global) (v : Vec Statement Global) → x ≡ vs.If at branches (Some v)
      → stmt_stores e (statement_view x) ≡ (list_any (branch_stores e) branches.items || stores_element e (statements_of v.items))
  if_stores x at branches v is =
      ap (λ (y : Statement). stmt_stores e (statement_view y)) is
      ∙ (ap (stmt_stores e) (view_if at branches (Some v)) ∙ branches_any (bodies.otherwise (statements_of v.items)) branches.items)

  pub if_alone_stores : (x : Statement) (at : ℕ) (branches : Vec Branch Global) → x ≡ vs.If at branches None
      → stmt_stores e (statement_view x) ≡ list_any (branch_stores e) branches.items
  if_alone_stores x at branches is =
      ap (λ (y : Statement). stmt_stores e (statement_view y)) is
      ∙ (ap (stmt_stores e) (view_if at branches None) ∙ (branches_any bodies.no_else branches.items ∙ sym (or_none (list_any (branch_stores e) branches.items))))

  pub case_stores : (x : Statement) (at : ℕ) (selector : Value) (alternatives : Vec Alternative Global) (others : Vec Statement Global) → x ≡ vs.Case at selector alternatives others
      → stmt_stores e (statement_view x)
      ≡ (value_looks_at e (value_view selector) || (list_any (alternative_stores e) alternatives.items || stores_element e (statements_of others.items)))
  case_stores x at selector alternatives others is =
      ap (λ (y : Statement). stmt_stores e (statement_view y)) is
      ∙ (ap (stmt_stores e) (view_case at selector alternatives others)
      ∙ ap (λ (b : Bool). value_looks_at e (value_view selector) || b) (alternatives_any (statements_of others.items) alternatives.items))

  -- ---- a sequence, one statement at a time

  abbrev pub rest_stores : List Statement → Bool
  rest_stores xs = stores_element e (statements_of xs)
