use Rattle.std.proofs.Common.{◌≡◌, drop, map, Some}
use Rattle.vhdl_tree.specs.Tree.{exprs_of, elements_of, choices_of}
use Rattle.vhdl_tree.specs.View.{view, choice_view, element_view}
use Rattle.vhdl_names_rules.specs.Expressions as are
use Rattle.vhdl_names_rules.specs.Rules.{each}
use Rattle.vhdl_names_rules.specs.problems.Expressions.{typed_each, typed_elements, typed_choices}
use Rattle.vhdl_names_expressions.specs.Breaking.{all_break}
use Rattle.vhdl_names_expressions.specs.Steps.{all_linked}
use Rattle.vhdl_names_trees.specs.views.Expressions.{typed_view}
use Rattle.vhdl_names_trees.specs.views.Expressions.{choice_view as typed_choice_view}
use Rattle.vhdl_names_expressions.specs.Elements.{one_element_view}
use Rattle.vhdl_names_expressions.proofs.Chains.{front}
use Rattle.vhdl_names_expressions.proofs.Each.{behind}
use Rattle.vhdl_names_expressions.proofs.Elementing.{behind_elements}
use Rattle.vhdl_names_expressions.proofs.+typed.Given as goal

-- the links that are left, on what is done, give the whole, and what they break first, the whole breaks first
abbrev pub invariant-expressions::links-loop-next : goal.invariant-expressions::links-loop-next
invariant-expressions::links-loop-next l =
    (all_linked l.sight (Some (typed_view l.fn.first)) l.links ≡ all_linked l.sight (Some (typed_view l.done)) (drop l.next-index l.links))
    × (all_break l.sight (Some (typed_view l.fn.first)) l.links ≡ all_break l.sight (Some (typed_view l.done)) (drop l.next-index l.links))

-- what is done, and then the arguments that are left, is the whole, and what they break first, the whole breaks first
abbrev pub invariant-name::typed_each-loop-argument : goal.invariant-name::typed_each-loop-argument
invariant-name::typed_each-loop-argument l =
    (are.typed_each l.sight (exprs_of (map view l.arguments))
    ≡ front (map typed_view l.done.items) (are.typed_each l.sight (exprs_of (map view (drop l.argument-index l.arguments)))))
    × (typed_each l.sight (exprs_of (map view l.arguments)) ≡ typed_each l.sight (exprs_of (map view (drop l.argument-index l.arguments))))

-- the same of the choices of an element
abbrev pub invariant-elements::typed_choices-loop-choice : goal.invariant-elements::typed_choices-loop-choice
invariant-elements::typed_choices-loop-choice l =
    (are.typed_choices l.sight (choices_of (map choice_view l.choices))
    ≡ behind (map typed_choice_view l.done.items) (each (are.typed_choice l.sight) (map choice_view (drop l.choice-index l.choices))))
    × (typed_choices l.sight (choices_of (map choice_view l.choices)) ≡ typed_choices l.sight (choices_of (map choice_view (drop l.choice-index l.choices))))

-- and of elements
abbrev pub invariant-elements::typed_elements-loop-element : goal.invariant-elements::typed_elements-loop-element
invariant-elements::typed_elements-loop-element l =
    (are.typed_elements l.sight (elements_of (map element_view l.elements))
    ≡ behind_elements (map one_element_view l.done.items) (are.typed_elements l.sight (elements_of (map element_view (drop l.element-index l.elements)))))
    × (typed_elements l.sight (elements_of (map element_view l.elements)) ≡ typed_elements l.sight (elements_of (map element_view (drop l.element-index l.elements))))
