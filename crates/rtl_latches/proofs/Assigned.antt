-- Whether an assignment stands in a node, by its parts.
use Rattle.std.proofs.Common.{◌≡◌, ℕ, Bool, false, ◌||◌, List, [], ◌∷◌, Some, None, Vec, Global, refl, sym, ap, ◌∙◌}
use Rattle.std.specs.List.{list_any}
use Rattle.rtl_model.specs.bodies.Body as bodies
use Rattle.rtl_model.specs.bodies.Assigns.{Target, stmt_assigns, stmts_assign, branches_assign, alternatives_assign}
use Rattle.rtl_net.specs.declared.body.Value.{Value}
use Rattle.rtl_net.specs.declared.body.Statement.{Statement}
use Rattle.rtl_net.specs.declared.body.Statement.TheVariants as vs
use Rattle.rtl_net.specs.declared.body.Branch.{Branch}
use Rattle.rtl_net.specs.declared.body.Alternative.{Alternative}
use Rattle.rtl_net.specs.Indices.{numbers}
use Rattle.rtl_net.specs.Bodies.{statement_view, statements_of, branches_of, alternatives_of}
use Rattle.rtl_net.proofs.Rows.{view_if, view_case}
use Rattle.rtl_body_facts.specs.Paths.{to_net}
use Rattle.rtl_body_facts.proofs.Anys.{or_assoc, or_none}
use Rattle.rtl_net.specs.declared.process.Driver.{Driver}
use Rattle.rtl_latches.specs.Omissions.{branch_assigns, alternative_assigns}

abbrev pub statement_assigns : (these : Target → Bool) → Statement → Bool
statement_assigns these x = stmt_assigns these (statement_view x)

module _ (these : Target → Bool) where
  branches-any : (last : bodies.Branches) (bs : List Branch)
      → branches_assign these (branches_of last bs) ≡ (list_any (branch_assigns these) bs || branches_assign these last)
  branches-any last [] = refl
  branches-any last (b ∷ bs) = ap (λ (c : Bool). branch_assigns these b || c) (branches-any last bs)
      ∙ sym (or_assoc (branch_assigns these b) (list_any (branch_assigns these) bs) (branches_assign these last))

  alternatives-any : (last : bodies.Stmts) (bs : List Alternative)
      → alternatives_assign these (alternatives_of last bs) ≡ (list_any (alternative_assigns these) bs || stmts_assign these last)
  alternatives-any last [] = refl
  alternatives-any last (b ∷ bs) = ap (λ (c : Bool). alternative_assigns these b || c) (alternatives-any last bs)
      ∙ sym (or_assoc (alternative_assigns these b) (list_any (alternative_assigns these) bs) (stmts_assign these last))

  pub if_assigns : (x : Statement) (at : ℕ) (branches : Vec Branch Global) (v : Vec Statement Global) → x ≡ vs.If at branches (Some v)
      → statement_assigns these x ≡ (list_any (branch_assigns these) branches.items || stmts_assign these (statements_of v.items))
  if_assigns x at branches v is =
      ap (statement_assigns these) is
      ∙ (ap (stmt_assigns these) (view_if at branches (Some v)) ∙ branches-any (bodies.otherwise (statements_of v.items)) branches.items)

  pub if_alone_assigns : (x : Statement) (at : ℕ) (branches : Vec Branch Global) → x ≡ vs.If at branches None
      → statement_assigns these x ≡ list_any (branch_assigns these) branches.items
  if_alone_assigns x at branches is =
      ap (statement_assigns these) is
      ∙ (ap (stmt_assigns these) (view_if at branches None) ∙ (branches-any bodies.no_else branches.items ∙ sym (or_none (list_any (branch_assigns these) branches.items))))

  pub case_assigns : (x : Statement) (at : ℕ) (selector : Value) (alternatives : Vec Alternative Global) (others : Vec Statement Global) → x ≡ vs.Case at selector alternatives others
      → statement_assigns these x ≡ (list_any (alternative_assigns these) alternatives.items || stmts_assign these (statements_of others.items))
  case_assigns x at selector alternatives others is =
      ap (statement_assigns these) is
      ∙ (ap (stmt_assigns these) (view_case at selector alternatives others) ∙ alternatives-any (statements_of others.items) alternatives.items)

never : (xs : List ℕ) → list_any (λ (p : ℕ). false) xs ≡ false
never [] = refl
never (x ∷ xs) = never xs

pub set_assigns : (drives : List Driver) (n : ℕ) (x : Statement) (es : _) (value : _) → x ≡ vs.Set es value → statement_assigns (to_net drives n) x ≡ false
set_assigns drives n x es value is = ap (statement_assigns (to_net drives n)) is ∙ never (numbers es)

pub set_at_assigns : (drives : List Driver) (n : ℕ) (x : Statement) (at : _) (index : _) (spacing : _) (es : _) (value : _) → x ≡ vs.SetAt at index spacing es value → statement_assigns (to_net drives n) x ≡ false
set_at_assigns drives n x at index spacing es value is = ap (statement_assigns (to_net drives n)) is ∙ never (numbers es)
