-- What is told of all the choices of a case and of its alternatives is told of what the case covers.
use Rattle.std.proofs.Common.{◌≡◌, ◌≢◌, ℕ, Bool, true, false, ◌||◌, List, [], ◌∷◌, ◌++◌, Option, Some, None, Result, Vec, Ok, Err, IfOk, IfErr, refl, ap, sym, ◌∙◌}
use Rattle.std.specs.Global.{Global}
use Rattle.std.specs.List.{flat_map, filter_map}
use Rattle.std.proofs.lemmas.List.Elements.{filter_map-append}
use Rattle.vhdl_tree.specs.Tree as t
use Rattle.vhdl_names_rules.specs.declared.kind.ObjectType.{ObjectType}
use Rattle.vhdl_names_rules.specs.declared.fault.NameFault.{NameFault}
use Rattle.vhdl_names_rules.specs.declared.fault.NameFault.TheVariants.{At, NoMemory}
use Rattle.vhdl_names_rules.specs.declared.fault.NameProblem.{NameProblem}
use Rattle.vhdl_names_rules.specs.declared.fault.NameProblem.TheVariants.{NoOthers}
use Rattle.vhdl_names_rules.specs.units.Statements as s
use Rattle.vhdl_names_rules.specs.Rules.{◌>>=◌, ◌>>◌, met, each}
use Rattle.vhdl_names_rules.specs.Gives.{Gives}
use Rattle.vhdl_names_rules.specs.Visibility.{Name, Sight, are_distinct}
use Rattle.vhdl_names_rules.specs.Choices as are
use Rattle.vhdl_names_rules.specs.Choices.{are_distinct_choices, only_last_others, is_last_others, names_all}
use Rattle.vhdl_names_rules.proofs.laws.Rules.{comes, some_is}
use Rattle.vhdl_names_rules.specs.problems.Broken.{Broken, Tells, unless, earlier}
use Rattle.vhdl_names_rules.specs.problems.Covered as broken
use Rattle.vhdl_names_rules.proofs.Telling.{IsKept, told_same, told_left, told_right, told_given}
use Rattle.vhdl_names_rules.proofs.kept.Keeping.{among_kept}
use Rattle.vhdl_names_rules.proofs.kept.Covered.{choices_given, in_place_kept}
use Rattle.vhdl_names_units.specs.declared.sequential.Alternative.{Alternative}
use Rattle.vhdl_names_units.specs.views.Sequential.{Chosen, alternatives_view}
use Rattle.vhdl_names_statements.specs.steps.Cases.{all_choices, choices_of, cover, covering, has_all}
use Rattle.vhdl_names_statements.specs.steps.Keys as keyed
use Rattle.vhdl_names_statements.specs.steps.Told as told
use Rattle.vhdl_names_statements.specs.steps.Told.{keys_of, with_lists, HasChoices}
use Rattle.vhdl_names_statements.proofs.steps.Cases.{flat_each, has_names}
use Rattle.vhdl_names_statements.proofs.steps.Keys as names
use Rattle.vhdl_names_statements.proofs.steps.Choosing.{in_place_same, all_keys, only_last, distinct_keys}

-- of three conditions the last isn't met
last_none : (a b : Bool) (o : Option (Unit {0})) → o ≡ None → (met a >> (met b >> o)) ≡ None
last_none false b o h = refl
last_none true false o h = refl
last_none true true o h = h

-- ---- an answer that is known

pub of_err : {X : Type 0} (r : Result X NameFault) (f : NameFault) (P : NameFault → Type 0) → r ≡ Err f → IfErr r P → P f
of_err (Ok x) f P e h = absurd cc
of_err (Err g) f P e h = let same : g ≡ f = cc in rw (sym same) h

pub of_ok : {X : Type 0} (r : Result X NameFault) (x : X) (P : X → Type 0) → r ≡ Ok x → IfOk r P → P x
of_ok (Ok y) x P e h = let same : y ≡ x = cc in rw (sym same) h
of_ok (Err g) x P e h = absurd cc

pub gives_ok : {X Y : Type 0} (view : X → Y) (o : Option Y) (r : Result X NameFault) (x : X) → r ≡ Ok x → Gives view o r → o ≡ Some (view x)
gives_ok view o (Ok y) x e h = let same : y ≡ x = cc in h ∙ ap (λ z. Some (view z)) same
gives_ok view o (Err g) x e h = absurd cc

module _ (sight : Sight) (type : ObjectType) where
  flat : (lists : List (List t.Choice)) (css : List (List s.Choice)) → each (are.choices sight type) lists ≡ Some css
      → filter_map (are.choice sight type) (flat_map (λ cs. cs) lists) ≡ flat_map (λ cs. cs) css
  flat [] css h = ap (flat_map (λ cs. cs)) (some_is [] css h)
  flat (ds ∷ rest) css h =
      let y = comes (are.choices sight type ds) _ css h in
      let ys = comes (each (are.choices sight type) rest) _ css y.rest in
      filter_map-append (are.choice sight type) ds (flat_map (λ cs. cs) rest)
      ∙ ap (λ cs. cs ++ filter_map (are.choice sight type) (flat_map (λ cs. cs) rest)) (choices_given sight type ds y.value y.is)
      ∙ ap (λ cs. y.value ++ cs) (flat rest ys.value ys.is)
      ∙ ap (flat_map (λ cs. cs)) (some_is (y.value ∷ ys.value) css ys.rest)

  -- alternatives that have the choices which stand there
  module _ (lists : List (List t.Choice)) (all : List Chosen) (have : each (are.choices sight type) lists ≡ Some (choices_of all)) where
    keys_are : keys_of sight type (flat_map (λ cs. cs) lists) ≡ keyed.keys_of (all_choices all)
    keys_are = ap keyed.keys_of (flat lists (choices_of all) have ∙ flat_each all)

    names_are : (keys : List Name) → keys ≡ with_lists sight type [] lists → has_all type keys ≡ names_all type (all_choices all)
    names_are keys h = ap (has_all type) (h ∙ all_keys sight type lists ∙ keys_are) ∙ has_names type (all_choices all)

    complete_is : (keys : List Name) → keys ≡ with_lists sight type [] lists
        → met (is_last_others lists || names_all type (all_choices all)) ≡ met (is_last_others lists || has_all type keys)
    complete_is keys h = ap (λ b. met (is_last_others lists || b)) (sym (names_are keys h))

    -- a choice is told
    not_covering : (p : NameProblem) (at : ℕ) → told.in_place sight type [] lists ≡ Some (p, at) → cover type lists (all_choices all) ≡ None
    not_covering p at h = go (only_last_others lists) (are_distinct (keyed.keys_of (all_choices all))) refl refl
      where
        rest : Option (Unit {0})
        rest = met (is_last_others lists || names_all type (all_choices all))

        go : (a b : Bool) → only_last_others lists ≡ a → are_distinct (keyed.keys_of (all_choices all)) ≡ b
            → (met (only_last_others lists) >> (met (are_distinct (keyed.keys_of (all_choices all))) >> rest)) ≡ None
        go false b e f = ap (λ x. met x >> (met (are_distinct (keyed.keys_of (all_choices all))) >> rest)) e
        go true false e f = ap (λ x. met x >> (met (are_distinct (keyed.keys_of (all_choices all))) >> rest)) e ∙ ap (λ x. met x >> rest) f
        go true true e f =
            let kept : IsKept (told.in_place sight type [] lists) =
            in_place_same sight type lists
            ∙ in_place_kept sight type lists [] [] (choices_of all) refl have (ap are_distinct_choices (flat_each all) ∙ sym (names.distinct_keys (all_choices all)) ∙ f) e in
            let none : Option (NameProblem × ℕ) = None in
            let no : Some (p, at) ≡ none = sym h ∙ kept in
            cc

    -- something is missing
    not_complete : (keys : List Name) → keys ≡ with_lists sight type [] lists → met (is_last_others lists || has_all type keys) ≡ None → cover type lists (all_choices all) ≡ None
    not_complete keys k h = last_none (only_last_others lists) (are_distinct (keyed.keys_of (all_choices all))) _ (complete_is keys k ∙ h)

    covers : (keys : List Name) → keys ≡ with_lists sight type [] lists → IsKept (told.in_place sight type [] lists)
        → met (is_last_others lists || has_all type keys) ≡ Some tt → cover type lists (all_choices all) ≡ Some tt
    covers keys k h m =
        let rest = met (is_last_others lists || names_all type (all_choices all)) in
        ap (λ x. met x >> (met (are_distinct (keyed.keys_of (all_choices all))) >> rest)) (only_last sight type [] lists h)
        ∙ ap (λ x. met x >> rest) (ap are_distinct (sym keys_are) ∙ distinct_keys sight type lists h)
        ∙ complete_is keys k ∙ m

  module _ (lists : List (List t.Choice)) where
    pub refused_given : (all : Result (Vec Alternative Global) NameFault) (fault result : NameFault) (found : Option (List Chosen))
        → Tells (told.in_place sight type [] lists) fault → (result ≢ NoMemory → fault ≢ NoMemory) → IfErr all (λ other. result ≢ NoMemory → other ≢ NoMemory)
        → Gives alternatives_view found all → IfOk all (HasChoices sight type lists) → result ≢ NoMemory → covering type lists found ≡ None
    refused_given (Err other) fault result found tells first second gives have n = ap (covering type lists) (gives (second n))
    refused_given (Ok v) (At p at) result found tells first second gives have n =
        ap (covering type lists) gives ∙ ap (λ o. o >>= λ _. Some (alternatives_view v)) (not_covering lists (alternatives_view v) have p at tells)
    refused_given (Ok v) NoMemory result found tells first second gives have n = absurd (first n refl)

    pub incomplete_given : (all : Vec Alternative Global) (keys : List Name) (f : NameFault) (found : Option (List Chosen))
        → keys ≡ with_lists sight type [] lists → found ≡ Some (alternatives_view all) → HasChoices sight type lists all
        → (f ≢ NoMemory → met (is_last_others lists || has_all type keys) ≡ None) → f ≢ NoMemory → covering type lists found ≡ None
    incomplete_given all keys f found k gives have none n =
        ap (covering type lists) gives ∙ ap (λ o. o >>= λ _. Some (alternatives_view all)) (not_complete lists (alternatives_view all) have keys k (none n))

    pub covered_given : (all : Vec Alternative Global) (keys : List Name) (found : Option (List Chosen))
        → keys ≡ with_lists sight type [] lists → IsKept (told.in_place sight type [] lists) → found ≡ Some (alternatives_view all) → HasChoices sight type lists all
        → met (is_last_others lists || has_all type keys) ≡ Some tt → covering type lists found ≡ Some (alternatives_view all)
    covered_given all keys found k h gives have m =
        ap (covering type lists) gives ∙ ap (λ o. o >>= λ _. Some (alternatives_view all)) (covers lists (alternatives_view all) have keys k h m)

    module _ (at : ℕ) (b : Broken) (f : NameFault) where
      pub told_among : Tells (earlier (told.in_place sight type [] lists) b) f → Tells (broken.covered sight type at lists b) f
      told_among h =
          told_left (earlier (broken.in_place sight type [] lists) b) (broken.complete sight type at lists) f
          (told_same (earlier (told.in_place sight type [] lists) b) (earlier (broken.in_place sight type [] lists) b) f (ap (λ x. earlier x b) (in_place_same sight type lists)) h)

      pub told_other : IsKept (told.in_place sight type [] lists) → Tells b f → Tells (broken.covered sight type at lists b) f
      unfolding earlier
      told_other k h = told_among (told_same b (earlier (told.in_place sight type [] lists) b) f (sym (ap (λ x. earlier x b) k)) h)

      pub told_incomplete : (all : Vec Alternative Global) (keys : List Name) → keys ≡ with_lists sight type [] lists → IsKept (told.in_place sight type [] lists) → IsKept b
          → HasChoices sight type lists all → Tells (unless NoOthers at (is_last_others lists || has_all type keys)) f → Tells (broken.covered sight type at lists b) f
      told_incomplete all keys k kept none have h =
          let chosen = alternatives_view all in
          told_right (earlier (broken.in_place sight type [] lists) b) (broken.complete sight type at lists) f
          (among_kept (broken.in_place sight type [] lists) b (sym (in_place_same sight type lists) ∙ kept) none)
          (told_given (λ css. unless NoOthers at (is_last_others lists || names_all type (flat_map (λ cs. cs) css))) (each (are.choices sight type) lists) (choices_of chosen) f have
          (told_same (unless NoOthers at (is_last_others lists || has_all type keys)) (unless NoOthers at (is_last_others lists || names_all type (flat_map (λ cs. cs) (choices_of chosen)))) f
          (ap (λ x. unless NoOthers at (is_last_others lists || x)) (names_are lists chosen have keys k ∙ ap (names_all type) (sym (flat_each chosen)))) h))
