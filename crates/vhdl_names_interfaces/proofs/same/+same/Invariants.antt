use Rattle.std.proofs.Common.{◌≡◌, drop}
use Rattle.vhdl_tree.specs.View.{view, choice_view}
use Rattle.vhdl_names_rules.specs.SameText.{same_each, same_expr, same_choice}
use Rattle.vhdl_names_interfaces.specs.Parts.{same_link}
use Rattle.vhdl_names_interfaces.proofs.Elementwise.{alike_elements}
use Rattle.vhdl_names_interfaces.proofs.same.+same.Given as goal

-- what is left to compare is the same as the whole
abbrev pub invariant-same_links-loop-place : goal.invariant-same_links-loop-place
invariant-same_links-loop-place l = same_each same_link l.a l.b ≡ same_each same_link (drop l.place l.a) (drop l.place l.b)

-- what is left to compare is the same as the whole
abbrev pub invariant-same_exprs-loop-place : goal.invariant-same_exprs-loop-place
invariant-same_exprs-loop-place l = same_each (λ x y. same_expr (view x) (view y)) l.a l.b ≡ same_each (λ x y. same_expr (view x) (view y)) (drop l.place l.a) (drop l.place l.b)

-- what is left to compare is the same as the whole
abbrev pub invariant-same_elements-loop-place : goal.invariant-same_elements-loop-place
invariant-same_elements-loop-place l = alike_elements l.a l.b ≡ alike_elements (drop l.place l.a) (drop l.place l.b)

-- what is left to compare is the same as the whole
abbrev pub invariant-same_choices-loop-place : goal.invariant-same_choices-loop-place
invariant-same_choices-loop-place l =
    same_each (λ x y. same_choice (choice_view x) (choice_view y)) l.a l.b ≡ same_each (λ x y. same_choice (choice_view x) (choice_view y)) (drop l.place l.a) (drop l.place l.b)
