use Rattle.std.proofs.Common.{◌++◌, List, map, sym, ap, ◌∙◌, append-nil}
use Rattle.std.proofs.lemmas.List.{nil_from_length}
use Rattle.vhdl_names_trees.specs.declared.typed.TypedChoice.{TypedChoice}
use Rattle.vhdl_names_rules.specs.units.Expressions as u
use Rattle.vhdl_names_rules.specs.Aggregates as are
use Rattle.vhdl_names_trees.specs.views.Integers.{index_view}
use Rattle.vhdl_names_trees.specs.views.Expressions.{choice_view}
use Rattle.vhdl_names_operators.proofs.Arranging.{index_next, no_index, index_pushed}
use Rattle.vhdl_names_operators.proofs.aggregates.indexes_of.Goals as goal

pub loop-choice-preserved : goal.loop-choice-preserved
loop-choice-preserved c =
    let l = c.loop-choice in
    let rest = c.next.new.self.rest.items in
    l.invariant
    ∙ ap (λ (cs : List TypedChoice). map index_view l.indexes.items ++ are.indexes_of (map choice_view cs)) c.in-Some.ensures.steps.0
    ∙ ap (λ (ys : List u.Index). map index_view l.indexes.items ++ ys) (index_next c.in-Some.choice _ c.in-Place.index rest c.in-Place.is)
    ∙ index_pushed l.indexes.items _ c.in-Place.index (are.indexes_of (map choice_view rest)) c.in_ok-push.ensures.items

pub loop-choice-preserved-in_default : goal.loop-choice-preserved-in_default
loop-choice-preserved-in_default c =
    let l = c.loop-choice in
    l.invariant
    ∙ ap (λ (cs : List TypedChoice). map index_view l.indexes.items ++ are.indexes_of (map choice_view cs)) c.in-Some.ensures.steps.0
    ∙ ap (λ (ys : List u.Index). map index_view l.indexes.items ++ ys) (no_index c.in-Some.choice c.next.new.self.rest.items c.in_default.not-Place)

pub returns : goal.returns
returns c =
    let l = c.loop-choice in
    let left = l.choice-iterator.rest in
    sym (l.invariant
    ∙ ap (λ (cs : List TypedChoice). map index_view l.indexes.items ++ are.indexes_of (map choice_view cs)) (nil_from_length left.items (sym left.ok.0 ∙ c.in-None.ensures.steps.0))
    ∙ append-nil (map index_view l.indexes.items))
