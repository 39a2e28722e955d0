-- Where a node leaves an assignment out, by the lists in it.
use Rattle.std.proofs.Common.{◌≡◌, ℕ, ◌+◌, Bool, Option, Some, None, Vec, Global, refl, sym, ap, ◌∙◌}
use Rattle.std.specs.Prelude.{if◌then◌else◌}
use mathlib.Core.Former.{Count}
use Rattle.rtl_model.specs.bodies.Body as bodies
use Rattle.rtl_model.specs.bodies.Assigns.{Target, must_assign}
use Rattle.rtl_net.specs.declared.body.Value.{Value}
use Rattle.rtl_net.specs.declared.body.Statement.{Statement}
use Rattle.rtl_net.specs.declared.body.Statement.TheVariants as vs
use Rattle.rtl_net.specs.declared.body.Statement.TheBlock.{Row_of-Statement, end_of-Statement, more_of-Statement, items-the_row-Statement, hidden-the_row-Statement-0, items_hidden-the_row-Statement-0, shown-the_row-Statement-0, items_shown-the_row-Statement-0}
use Rattle.rtl_net.specs.declared.body.Statement.TheBlock.{Row_of-Branch, end_of-Branch, more_of-Branch, items-the_row-Branch, hidden-the_row-Branch-1, items_hidden-the_row-Branch-1}
use Rattle.rtl_net.specs.declared.body.Statement.TheBlock.{Row_of-Alternative, end_of-Alternative, more_of-Alternative, items-the_row-Alternative, hidden-the_row-Alternative-2, items_hidden-the_row-Alternative-2}
use Rattle.rtl_net.specs.declared.body.Branch.{Branch}
use Rattle.rtl_net.specs.declared.body.Alternative.{Alternative}
use Rattle.rtl_net.specs.Bodies.{statement_view, statements_row, statements_of}
use Rattle.rtl_latches.specs.Omissions.{leaves_out, in_statement, in_row, itself_or, in_branches, in_alternatives, omission_of, part_omission, branches_omission, alternatives_omission}
use Rattle.rtl_latches.specs.declared.omission.Omission.{Omission}
use Rattle.rtl_latches.specs.declared.omission.Omission.TheVariants as o

statements-row : (n : Count) (row : Row_of-Statement n) → statements_row row ≡ statements_of (items-the_row-Statement n row)
statements-row n end_of-Statement = refl
statements-row n (more_of-Statement x rest) = ap (bodies.step (statement_view x)) (statements-row _ rest)

module _ (these : Target → Bool) where
  row-is : (n : Count) (row : Row_of-Statement n) → in_row these row ≡ omission_of these (items-the_row-Statement n row)
  row-is n end_of-Statement = refl
  row-is n (more_of-Statement x rest) = ap (λ r. if leaves_out these x then in_statement these x else r) (row-is _ rest)

  part-is : (itself : Omission) (n : Count) (row : Row_of-Statement n)
      → itself_or these itself (statements_row row) (in_row these row) ≡ part_omission these itself (items-the_row-Statement n row)
  part-is itself n row = λ i. itself_or these itself (statements-row n row i) (row-is n row i)

  part-hidden : (itself : Omission) (v : Vec Statement Global)
      → itself_or these itself (statements_row (hidden-the_row-Statement-0 v)) (in_row these (hidden-the_row-Statement-0 v)) ≡ part_omission these itself v.items
  part-hidden itself v = part-is itself _ (hidden-the_row-Statement-0 v) ∙ ap (part_omission these itself) (items_hidden-the_row-Statement-0 v)

  branches-is : (at : ℕ) (last : ℕ → Option Omission) (number : ℕ) (n : Count) (row : Row_of-Branch n)
      → in_branches these at last number row ≡ branches_omission these at last number (items-the_row-Branch n row)
  branches-is at last number n end_of-Branch = refl
  branches-is at last number n (more_of-Branch test shape x rest) =
      let q = sym (items_shown-the_row-Statement-0 shape x) in
      let p : statements_row x ≡ statements_of (shown-the_row-Statement-0 shape x).items = statements-row _ x ∙ ap statements_of q in
      let r : itself_or these (o.Branch at number) (statements_row x) (in_row these x) ≡ part_omission these (o.Branch at number) (shown-the_row-Statement-0 shape x).items =
      part-is (o.Branch at number) _ x ∙ ap (part_omission these (o.Branch at number)) q in
      λ i. if must_assign these (p i) then branches-is at last (number + 1) _ rest i else r i

  alternatives-is : (at : ℕ) (last : ℕ → Option Omission) (number : ℕ) (n : Count) (row : Row_of-Alternative n)
      → in_alternatives these at last number row ≡ alternatives_omission these at last number (items-the_row-Alternative n row)
  alternatives-is at last number n end_of-Alternative = refl
  alternatives-is at last number n (more_of-Alternative choices shape x rest) =
      let q = sym (items_shown-the_row-Statement-0 shape x) in
      let p : statements_row x ≡ statements_of (shown-the_row-Statement-0 shape x).items = statements-row _ x ∙ ap statements_of q in
      let r : itself_or these (o.Alternative at number) (statements_row x) (in_row these x) ≡ part_omission these (o.Alternative at number) (shown-the_row-Statement-0 shape x).items =
      part-is (o.Alternative at number) _ x ∙ ap (part_omission these (o.Alternative at number)) q in
      λ i. if must_assign these (p i) then alternatives-is at last (number + 1) _ rest i else r i

  pub in_if : (x : Statement) (at : ℕ) (branches : Vec Branch Global) (v : Vec Statement Global) → x ≡ vs.If at branches (Some v)
      → in_statement these x ≡ branches_omission these at (λ number. part_omission these (o.Branch at number) v.items) 1 branches.items
  in_if x at branches v is =
      ap (in_statement these) is
      ∙ ap (λ f. in_branches these at f 1 (hidden-the_row-Branch-1 branches)) (λ i number. part-hidden (o.Branch at number) v i)
      ∙ branches-is at (λ number. part_omission these (o.Branch at number) v.items) 1 _ (hidden-the_row-Branch-1 branches)
      ∙ ap (branches_omission these at (λ number. part_omission these (o.Branch at number) v.items) 1) (items_hidden-the_row-Branch-1 branches)

  pub in_if_alone : (x : Statement) (at : ℕ) (branches : Vec Branch Global) → x ≡ vs.If at branches None → in_statement these x ≡ Some (o.NoElse at)
  in_if_alone x at branches is = ap (in_statement these) is

  pub in_case : (x : Statement) (at : ℕ) (selector : Value) (alternatives : Vec Alternative Global) (others : Vec Statement Global) → x ≡ vs.Case at selector alternatives others
      → in_statement these x ≡ alternatives_omission these at (λ number. part_omission these (o.Alternative at number) others.items) 1 alternatives.items
  in_case x at selector alternatives others is =
      ap (in_statement these) is
      ∙ ap (λ f. in_alternatives these at f 1 (hidden-the_row-Alternative-2 alternatives)) (λ i number. part-hidden (o.Alternative at number) others i)
      ∙ alternatives-is at (λ number. part_omission these (o.Alternative at number) others.items) 1 _ (hidden-the_row-Alternative-2 alternatives)
      ∙ ap (alternatives_omission these at (λ number. part_omission these (o.Alternative at number) others.items) 1) (items_hidden-the_row-Alternative-2 alternatives)
