use Rattle.std.proofs.Common.{◌≡◌, ◌++◌, true, false, IfOk, map, sym, ap, ap₂, ◌∙◌, subst}
use Rattle.std.specs.Option.{option_to_list}
use Rattle.vhdl_tree.specs.Tree as t
use Rattle.vhdl_tree.specs.Tree.{is_lone, enclosed, elements_of}
use Rattle.vhdl_tree.specs.View.{view, element_view, elements_view}
use Rattle.vhdl_tree.proofs.Roles.{lone_alone, lone_enclosed, other_enclosed}
use Rattle.vhdl_tree.proofs.expression.Expr.enclosed.Goals as goal

pub returns-then-not-is_lone : goal.returns-then-not-is_lone
returns-then-not-is_lone c =
    let other : false ≡ is_lone (elements_of (elements_view c.args.elements)) = sym c.if-not-is_lone.true ∙ c.is_lone.ensures ∙ ap (λ xs. is_lone (elements_of (map element_view xs))) c.deref.ensures.value in
    c.aggregate.ensures ∙ other_enclosed c.args.at (elements_of (elements_view c.args.elements)) other

pub returns-in-Some : goal.returns-in-Some
returns-in-Some c =
    let x = c.in-Some.element in
    let items = c.args.elements.items in
    let lone : true ≡ is_lone (elements_of (map element_view items)) = sym c.if-not-is_lone.false ∙ c.is_lone.ensures ∙ ap (λ xs. is_lone (elements_of (map element_view xs))) c.deref.ensures.value in
    let a = lone_alone items x c.pop.new.self.items lone (subst (λ o. items ≡ c.pop.new.self.items ++ option_to_list o) c.in-Some.is c.pop.ensures.items) in
    let e = ap (t.parens c.args.at) c.into_value.ensures ∙ lone_enclosed c.args.at x (lone ∙ ap (λ xs. is_lone (elements_of (map element_view xs))) a)
    ∙ ap (λ xs. enclosed c.args.at (elements_of (map element_view xs))) (sym a) in
    subst (λ y. IfOk c.in_parens.result (λ z. view z ≡ y)) e c.in_parens.ensures
