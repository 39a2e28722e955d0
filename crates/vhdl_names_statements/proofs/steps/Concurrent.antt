-- The rules of concurrent assignments, in the order in which the code comes to their parts.
use Rattle.std.proofs.Common.{◌≡◌, true, false, List, [], ◌∷◌, Option, Some, None, refl, ap, sym, subst, ◌∙◌}
use Rattle.std.specs.Prelude.{option_map}
use Rattle.vhdl_tree.specs.Tree as t
use Rattle.vhdl_tree.specs.Tree.{Ident}
use Rattle.vhdl_names_rules.specs.declared.kind.ObjectType.{ObjectType}
use Rattle.vhdl_names_rules.specs.units.Statements as s
use Rattle.vhdl_names_rules.specs.units.Units as u
use Rattle.vhdl_names_rules.specs.Rules.{◌>>=◌, ◌>>◌, met, each}
use Rattle.vhdl_names_rules.specs.Visibility.{Sight}
use Rattle.vhdl_names_rules.specs.Expressions.{typed}
use Rattle.vhdl_names_rules.specs.Choices as chosen
use Rattle.vhdl_names_rules.specs.Choices.{Selector, choices, covered, selector, selecting}
use Rattle.vhdl_names_rules.specs.Statements.{Target, signal_target, alone, conditional}
use Rattle.vhdl_names_rules.specs.Statements.{assignment as one}
use Rattle.vhdl_names_rules.specs.Concurrent as rules
use Rattle.vhdl_names_rules.specs.Concurrent.{assigning}
use Rattle.vhdl_names_asked.specs.Asked.{selected_by}
use Rattle.vhdl_names_units.specs.views.Sequential.{Chosen, chosen_by, statements_of}
use Rattle.vhdl_names_statements.specs.steps.Cases.{all_choices, cover, covering, arranged}
use Rattle.vhdl_names_statements.specs.steps.Sequential as sequential
use Rattle.vhdl_names_statements.specs.steps.Concurrent as steps
use Rattle.vhdl_names_statements.proofs.steps.Conditional.{assigned_by, conditional_gives}
use Rattle.vhdl_names_statements.proofs.steps.Cases.{Pairs, all_there, one_pair, by_steps, same}
use Rattle.vhdl_names_units.proofs.Lists.{bound, inner}

module _ (sight : Sight) (n : t.Name) (x : Target) (found : signal_target sight n ≡ Some x) where
  swapped : {A B C : Type 0} (a : Option A) (b : Option B) (f : A → B → C) → (a >>= λ x. b >>= λ y. Some (f x y)) ≡ (b >>= λ y. a >>= λ x. Some (f x y))
  swapped None None f = refl
  swapped None (Some y) f = refl
  swapped (Some x) None f = refl
  swapped (Some x) (Some y) f = refl

  pub pairs : (type : ObjectType) (ws : List t.Waveform)
      → Pairs (each (choices sight type) (steps.choice_lists ws)) (each (λ (w : t.Waveform). option_map alone (one sight x w.value)) ws) (each (steps.chosen sight type n) ws)
  pairs type [] = all_there [] refl refl refl
  pairs type (w ∷ ws) =
      let f : Option (List (List s.Choice)) = each (choices sight type) (steps.choice_lists ws) in
      let g : Option (List s.Statements) = each (λ (w : t.Waveform). option_map alone (one sight x w.value)) ws in
      let h : Option (List Chosen) = each (steps.chosen sight type n) ws in
      let c = choices sight type w.choices in
      let l = sequential.alone sight false n w.value in
      let m = option_map alone (one sight x w.value) in
      let P : Option Chosen → Type 0 = λ o. Pairs (c >>= λ y. f >>= λ ys. Some (y ∷ ys)) (m >>= λ y. g >>= λ ys. Some (y ∷ ys)) (o >>= λ y. h >>= λ ys. Some (y ∷ ys)) in
      subst P (sym (swapped l c (λ xs cs. chosen_by cs xs)))
      (one_pair c l m (ap (option_map alone) (assigned_by sight false n x found w.value) ∙ go (sequential.assigned sight false n w.value)) f g h (pairs type ws))
    where
      go : (o : Option s.Statement) → option_map alone o ≡ option_map statements_of (o >>= λ y. Some (y ∷ []))
      go None = refl
      go (Some y) = refl

pub assignment_gives : (sight : Sight) (a : t.Assignment) → rules.assignment sight a ≡ steps.assignment sight a
unfolding rules.assignment
assignment_gives sight a =
    go (signal_target sight a.target) ∙ ap (λ m. m >>= λ y. Some (assigning a.target.identifier.at a.label y)) (conditional_gives sight false a.target a.branches a.otherwise)
  where
    go : (o : Option Target)
        → (o >>= λ x. conditional sight x a.branches a.otherwise >>= λ body. Some (assigning a.target.identifier.at a.label body))
        ≡ ((o >>= λ x. conditional sight x a.branches a.otherwise) >>= λ y. Some (assigning a.target.identifier.at a.label y))
    go None = refl
    go (Some x) = refl

pub selected_gives : (sight : Sight) (label : Option Ident) (a : t.SelectedAssignment) → rules.selected sight label a ≡ steps.selected sight label a
unfolding rules.selected
selected_gives sight label a =
    inner (typed sight a.selector) (selector sight.language) rest
    ∙ bound (selected_by sight a.selector) rest steps_rest (λ by. go by (signal_target sight a.target) refl)
    ∙ bound (selected_by sight a.selector) steps_rest by_parts (λ by. apart by (signal_target sight a.target) (each (steps.chosen sight by.0 a.target) a.waveforms))
  where
    rest : ObjectType × Selector → Option u.Concurrent
    rest by = signal_target sight a.target >>= λ x. covered sight by.0 (steps.choice_lists a.waveforms)
        >>= λ cs. each (λ (w : t.Waveform). option_map alone (one sight x w.value)) a.waveforms
        >>= λ bodies. chosen.arranged cs bodies >>= λ all. Some (assigning a.at label (selecting a.at by.1 all))

    behind_target : ObjectType × Selector → Option u.Concurrent
    behind_target by = each (steps.chosen sight by.0 a.target) a.waveforms
        >>= λ all. cover by.0 (steps.choice_lists a.waveforms) (all_choices all) >>= λ _. arranged all >>= λ all. Some (assigning a.at label (selecting a.at by.1 all))

    steps_rest : ObjectType × Selector → Option u.Concurrent
    steps_rest by = signal_target sight a.target >>= λ _. behind_target by

    by_parts : ObjectType × Selector → Option u.Concurrent
    by_parts by = steps.parts sight by.0 a >>= λ all. Some (assigning a.at label (selecting a.at by.1 all))

    apart : (by : ObjectType × Selector) (o : Option Target) (h : Option (List Chosen))
        → (o >>= λ _. h >>= λ all. cover by.0 (steps.choice_lists a.waveforms) (all_choices all) >>= λ _. arranged all >>= λ all. Some (assigning a.at label (selecting a.at by.1 all)))
        ≡ ((o >>= λ _. covering by.0 (steps.choice_lists a.waveforms) h >>= λ all. arranged all) >>= λ all. Some (assigning a.at label (selecting a.at by.1 all)))
    apart by None h = refl
    apart by (Some x) None = refl
    apart by (Some x) (Some all) = end (cover by.0 (steps.choice_lists a.waveforms) (all_choices all))
      where
        end : (c : Option (Unit {0}))
            → (c >>= λ _. arranged all >>= λ all. Some (assigning a.at label (selecting a.at by.1 all)))
            ≡ (((c >>= λ _. Some all) >>= λ all. arranged all) >>= λ all. Some (assigning a.at label (selecting a.at by.1 all)))
        end None = refl
        end (Some u) = refl

    outer_rules : (f : Option (List (List s.Choice))) (g : Option (List s.Statements)) (by : Selector)
        → (f >>= λ cs. g >>= λ bodies. chosen.arranged cs bodies >>= λ all. Some (assigning a.at label (selecting a.at by all)))
        ≡ option_map (assigning a.at label) (f >>= λ cs. g >>= λ bodies. chosen.arranged cs bodies >>= λ all. Some (selecting a.at by all))
    outer_rules None g by = refl
    outer_rules (Some cs) None by = refl
    outer_rules (Some cs) (Some bodies) by = last (chosen.arranged cs bodies)
      where
        last : (o : Option s.Alternatives) → (o >>= λ all. Some (assigning a.at label (selecting a.at by all))) ≡ option_map (assigning a.at label) (o >>= λ all. Some (selecting a.at by all))
        last None = refl
        last (Some all) = refl

    outer_steps : (h : Option (List Chosen)) (by : ObjectType × Selector)
        → option_map (assigning a.at label) (by_steps sight a.at by.0 by.1 true (steps.choice_lists a.waveforms) h)
        ≡ (h >>= λ all. cover by.0 (steps.choice_lists a.waveforms) (all_choices all) >>= λ _. arranged all >>= λ all. Some (assigning a.at label (selecting a.at by.1 all)))
    outer_steps None by = refl
    outer_steps (Some all) by = asked (cover by.0 (steps.choice_lists a.waveforms) (all_choices all)) (arranged all)
      where
        asked : (c : Option (Unit {0})) (d : Option s.Alternatives)
            → option_map (assigning a.at label) (c >>= λ _. met true >> (d >>= λ all. Some (selecting a.at by.1 all)))
            ≡ (c >>= λ _. d >>= λ all. Some (assigning a.at label (selecting a.at by.1 all)))
        asked None d = refl
        asked (Some u) None = refl
        asked (Some u) (Some d) = refl

    go : (by : ObjectType × Selector) (o : Option Target) → signal_target sight a.target ≡ o
        → (o >>= λ x. covered sight by.0 (steps.choice_lists a.waveforms)
        >>= λ cs. each (λ (w : t.Waveform). option_map alone (one sight x w.value)) a.waveforms
        >>= λ bodies. chosen.arranged cs bodies >>= λ all. Some (assigning a.at label (selecting a.at by.1 all)))
        ≡ (o >>= λ _. each (steps.chosen sight by.0 a.target) a.waveforms
        >>= λ all. cover by.0 (steps.choice_lists a.waveforms) (all_choices all) >>= λ _. arranged all >>= λ all. Some (assigning a.at label (selecting a.at by.1 all)))
    go by None e = refl
    go by (Some x) e =
        outer_rules (covered sight by.0 (steps.choice_lists a.waveforms)) (each (λ (w : t.Waveform). option_map alone (one sight x w.value)) a.waveforms) by.1
        ∙ ap (option_map (assigning a.at label))
        (same sight a.at by.0 by.1 true (steps.choice_lists a.waveforms) _ _ _ (pairs sight a.target x e by.0 a.waveforms))
        ∙ outer_steps (each (steps.chosen sight by.0 a.target) a.waveforms) by
