-- What is told of what a case or a selected assignment does by a value is told of its parts.
use Rattle.std.proofs.Common.{◌≡◌, ℕ, Bool, true, false, List, [], ◌∷◌, map, Option, Some, None, Result, Ok, Err, IfOk, IfErr, Vec, Global, refl, ap, sym, ◌∙◌}
use Rattle.std.specs.Prelude.{◌||◌}
use Rattle.std.specs.List.{flat_map}
use Rattle.std.specs.Borrow.{Bor}
use Rattle.vhdl_tree.specs.Tree as t
use Rattle.vhdl_tree.specs.Tree.{Ident}
use Rattle.vhdl_tree.specs.View as tree
use Rattle.vhdl_tree.specs.declared.expression.Choice.{Choice}
use Rattle.vhdl_tree.specs.declared.sequential.Alternative as syntax
use Rattle.vhdl_tree.specs.declared.sequential.Case.{Case, out-Case}
use Rattle.vhdl_names_rules.specs.declared.kind.ObjectType.{ObjectType}
use Rattle.vhdl_names_rules.specs.declared.fault.NameFault.{NameFault}
use Rattle.vhdl_names_rules.specs.declared.fault.NameProblem.TheVariants.{WrongKind}
use Rattle.vhdl_names_rules.specs.units.Statements as s
use Rattle.vhdl_names_rules.specs.Rules.{◌>>=◌, ◌>>◌, met, rule, each}
use Rattle.vhdl_names_rules.specs.Gives.{Gives}
use Rattle.vhdl_names_rules.specs.Visibility.{Sight, label_ends, are_distinct}
use Rattle.vhdl_names_rules.specs.Choices as are
use Rattle.vhdl_names_rules.specs.Choices.{only_last_others, is_last_others, are_distinct_choices, names_all}
use Rattle.vhdl_names_rules.specs.Statements.{Target, signal_target}
use Rattle.vhdl_names_rules.proofs.laws.Rules.{comes, kept, some_is}
use Rattle.vhdl_names_rules.specs.problems.Broken.{Broken, Tells, nothing, ◌▸◌, any_of}
use Rattle.vhdl_names_rules.specs.problems.Covered as broken
use Rattle.vhdl_names_rules.specs.problems.Covered.{any_alternative}
use Rattle.vhdl_names_rules.specs.problems.Statements as broken'
use Rattle.vhdl_names_rules.specs.problems.Statements.{end_label}
use Rattle.vhdl_names_rules.specs.problems.Concurrent as problems
use Rattle.vhdl_names_rules.proofs.Telling.{IsKept, told_same, told_left, told_right}
use Rattle.vhdl_names_rules.proofs.kept.Statements.{signal_target_kept, end_label_kept}
use Rattle.vhdl_names_rules.proofs.kept.Covered.{covered_kept}
use Rattle.vhdl_names_rules.proofs.Along.{gives_along}
use Rattle.vhdl_names_units.specs.declared.sequential.Alternative.{Alternative}
use Rattle.vhdl_names_units.specs.views.Sequential.{Chosen, alternatives_view}
use Rattle.vhdl_names_statements.specs.steps.Cases as cases
use Rattle.vhdl_names_statements.specs.steps.Cases.{all_choices, choices_of, cover, covering}
use Rattle.vhdl_names_statements.specs.steps.Concurrent as steps
use Rattle.vhdl_names_statements.specs.steps.Keys.{keys_of}
use Rattle.vhdl_names_statements.specs.steps.Told as told
use Rattle.vhdl_names_statements.proofs.steps.Cases.{Pairs, all_there, no_choices, no_bodies, flat_each}
use Rattle.vhdl_names_statements.proofs.steps.Cases as by_cases
use Rattle.vhdl_names_statements.proofs.steps.Keys.{distinct_keys}
use Rattle.vhdl_names_statements.proofs.steps.Concurrent as by_waveforms
use Rattle.vhdl_names_statements.proofs.steps.Told.{alternatives_kept, on_along}
use Rattle.vhdl_names_statements.proofs.steps.Assigning.{waveforms_kept}

-- ---- alternatives that are given have the choices that stand there

choices_there : (f : Option (List (List s.Choice))) (g : Option (List s.Statements)) (h : Option (List Chosen)) → Pairs f g h
    → (all : List Chosen) → h ≡ Some all → f ≡ Some (choices_of all)
choices_there f g h (all_there xs p q r) all e =
    let same : xs ≡ all = some_is xs all (sym r ∙ e) in
    p ∙ ap (λ xs. Some (choices_of xs)) same
choices_there f g h (no_choices p r) all e = let no : let n : Option (List Chosen) = None in n ≡ Some all = sym r ∙ e in cc
choices_there f g h (no_bodies q r) all e = let no : let n : Option (List Chosen) = None in n ≡ Some all = sym r ∙ e in cc

-- ---- of answers

-- a condition that is met holds
is_met : (b : Bool) → met b ≡ Some tt → b ≡ true
is_met true h = refl
is_met false h = cc

-- what holds of each thing that is given holds of an answer
pub on_given : {X Y : Type 0} (view : X → Y) (P : X → Type 0) (given : Option Y) (r : Result X NameFault) → Gives view given r → ((x : X) → given ≡ Some (view x) → P x) → IfOk r P
on_given view P given (Ok x) g h = h x g
on_given view P given (Err f) g h = tt

-- ---- choices that cover their selector

module _ (sight : Sight) (type : ObjectType) (lists : List (List t.Choice)) where
  cover_given : (all : List Chosen) → each (are.choices sight type) lists ≡ Some (choices_of all) → cover type lists (all_choices all) ≡ Some tt
      → are.covered sight type lists ≡ Some (choices_of all)
  cover_given all there h =
      let css = choices_of all in
      let flat : flat_map (λ (cs : List s.Choice). cs) css ≡ all_choices all = flat_each all in
      let a = kept (only_last_others lists) _ tt h in
      let b = kept (are_distinct (keys_of (all_choices all))) _ tt a.1 in
      let c = is_met (is_last_others lists || names_all type (all_choices all)) b.1 in
      ap (λ m. met m >> (each (are.choices sight type) lists >>= λ css. met (are_distinct_choices (flat_map (λ cs. cs) css))
      >> (met (is_last_others lists || names_all type (flat_map (λ cs. cs) css)) >> Some css))) a.0
      ∙ ap (λ o. o >>= λ css. met (are_distinct_choices (flat_map (λ cs. cs) css)) >> (met (is_last_others lists || names_all type (flat_map (λ cs. cs) css)) >> Some css)) there
      ∙ ap (λ xs. met (are_distinct_choices xs) >> (met (is_last_others lists || names_all type xs) >> Some css)) flat
      ∙ ap (λ m. met m >> (met (is_last_others lists || names_all type (all_choices all)) >> Some css)) (sym (distinct_keys (all_choices all)) ∙ b.0)
      ∙ ap (λ m. met m >> Some css) c

  -- what is covered breaks nothing where the alternatives break nothing
  pub covering_kept : (at : ℕ) (b : Broken) (found : Option (List Chosen)) (all : List Chosen)
      → ((all : List Chosen) → found ≡ Some all → each (are.choices sight type) lists ≡ Some (choices_of all)) → ((all : List Chosen) → found ≡ Some all → IsKept b)
      → covering type lists found ≡ Some all → IsKept (broken.covered sight type at lists b)
  covering_kept at b found all there fine h =
      let x = comes found _ all h in
      let y = comes (cover type lists (all_choices x.value)) _ all x.rest in
      covered_kept sight type at lists b (choices_of x.value) (cover_given x.value (there x.value x.is) y.is) (fine x.value x.is)

  -- alternatives that are covered are those that were given
  pub covering_found : (found : Option (List Chosen)) (all : List Chosen) → covering type lists found ≡ Some all → found ≡ Some all
  covering_found found all h =
      let x = comes found _ all h in
      let y = comes (cover type lists (all_choices x.value)) _ all x.rest in
      x.is ∙ y.rest

-- ---- what a case does by a value

module _ (sight : Sight) (type : ObjectType) (alts : List t.Alternative) where
  pub case_there : (all : List Chosen) → each (cases.chosen sight type) alts ≡ Some all → each (are.choices sight type) (cases.choice_lists alts) ≡ Some (choices_of all)
  case_there all e = choices_there _ _ _ (by_cases.pairs sight type alts) all e

  -- there is an alternative where one is given
  any_given : (at : ℕ) (alts : List t.Alternative) (all : List Chosen) → each (cases.chosen sight type) alts ≡ Some all
      → any_alternative at all ≡ any_alternative at (cases.choice_lists alts)
  any_given at [] all h = ap (any_alternative at) (sym (some_is [] all h))
  any_given at (a ∷ alts) all h =
      let c = comes (cases.chosen sight type a) _ all h in
      let d = comes (each (cases.chosen sight type) alts) _ all c.rest in
      ap (any_alternative at) (sym (some_is (c.value ∷ d.value) all d.rest))

  -- the parts, where the alternatives are covered or not
  pub case_by : (label end : Option Ident) (o : Option (List Chosen)) → covering type (cases.choice_lists alts) (each (cases.chosen sight type) alts) ≡ o
      → cases.parts sight type label alts end ≡ (o >>= λ all. rule WrongKind (label_ends label end) >> cases.arranged all)
  case_by label end o h = ap (λ (o : Option (List Chosen)). o >>= λ all. rule WrongKind (label_ends label end) >> cases.arranged all) h

  module _ (label end : Option Ident) (at : ℕ) (f : NameFault) where
    abbrev case_covers : Broken
    case_covers = broken.covered sight type at (cases.choice_lists alts) (broken'.alternatives sight type (t.alternatives_of alts))

    abbrev case_behind : Broken
    case_behind = end_label label end ▸ any_alternative at (cases.choice_lists alts)

    pub parts_cover : Tells case_covers f → Tells (told.parts sight type label at alts end) f
    parts_cover h = told_left case_covers case_behind f h

    module _ (all : List Chosen) (given : covering type (cases.choice_lists alts) (each (cases.chosen sight type) alts) ≡ Some all) where
      parts_behind : Tells case_behind f → Tells (told.parts sight type label at alts end) f
      parts_behind h =
          told_right case_covers case_behind f
          (covering_kept sight type (cases.choice_lists alts) at (broken'.alternatives sight type (t.alternatives_of alts)) (each (cases.chosen sight type) alts) all
          case_there (alternatives_kept sight type alts) given) h

      pub parts_ends : Tells (end_label label end) f → Tells (told.parts sight type label at alts end) f
      parts_ends h = parts_behind (told_left (end_label label end) (any_alternative at (cases.choice_lists alts)) f h)

      pub parts_none : rule WrongKind (label_ends label end) ≡ Some tt → Tells (any_alternative at all) f → Tells (told.parts sight type label at alts end) f
      parts_none ends h =
          parts_behind (told_right (end_label label end) (any_alternative at (cases.choice_lists alts)) f (end_label_kept label end (is_met (label_ends label end) ends))
          (told_same (any_alternative at all) (any_alternative at (cases.choice_lists alts)) f
          (any_given at alts all (covering_found sight type (cases.choice_lists alts) (each (cases.chosen sight type) alts) all given)) h))

-- ---- alternatives that were read, with the lists of their choices

module _ (sight : Sight) (type : ObjectType) (xs : List syntax.Alternative) where
  abbrev written : List t.Alternative
  written = map tree.alternative_view xs

  abbrev read_alternatives : Option (List Chosen)
  read_alternatives = each (cases.chosen sight type) written

  -- the lists are those that stand there, the answer gives the alternatives, and they have these choices
  abbrev pub Read : Sight → List (List t.Choice) → Result (Vec Alternative Global) NameFault → Type 0
  Read now lists r = (lists ≡ cases.choice_lists written) × (Gives alternatives_view read_alternatives r) × (IfOk r (told.HasChoices now type lists))

  -- as they are read from where they stand
  pub read : (ys zs : List syntax.Alternative) (bs cs : List (Bor (List Choice))) (now : Sight) (r : Result (Vec Alternative Global) NameFault)
      → ys ≡ xs → zs ≡ xs → bs ≡ cs → cases.all_lists cs ≡ cases.choice_lists (map tree.alternative_view ys) → now ≡ sight
      → Gives alternatives_view (each (cases.chosen sight type) (map tree.alternative_view zs)) r → Read now (cases.all_lists bs) r
  read ys zs bs cs now r e f g h k is =
      let same : cases.all_lists bs ≡ cases.choice_lists written = ap cases.all_lists g ∙ h ∙ ap (λ l. cases.choice_lists (map tree.alternative_view l)) e in
      let given : Gives alternatives_view read_alternatives r =
      gives_along alternatives_view _ _ _ (ap (λ l. each (cases.chosen sight type) (map tree.alternative_view l)) (sym f)) is in
      let has : IfOk r (told.HasChoices now type (cases.all_lists bs)) =
      on_given alternatives_view (told.HasChoices now type (cases.all_lists bs)) read_alternatives r given
      (λ x e. ap (λ o. each (are.choices o type) (cases.all_lists bs)) k ∙ ap (each (are.choices sight type)) same ∙ case_there sight type written (alternatives_view x) e) in
      (same, given, has)

  module _ (now : Sight) (lists : List (List t.Choice)) (r : Result (Vec Alternative Global) NameFault) (is : Read now lists r) where
    -- whether they are covered
    pub read_covering : (o : Option (List Chosen))
        → ((found : Option (List Chosen)) → Gives alternatives_view found r → IfOk r (told.HasChoices now type lists) → covering type lists found ≡ o)
        → covering type (cases.choice_lists written) read_alternatives ≡ o
    read_covering o h = ap (λ l. covering type l read_alternatives) (sym is.0) ∙ h read_alternatives is.1 is.2

    -- what is told where they break a rule or are not covered
    pub read_told : (at : ℕ) (zs : List syntax.Alternative) (f : NameFault) → zs ≡ xs → now ≡ sight
        → IfErr r (Tells (broken'.alternatives sight type (t.alternatives_of (map tree.alternative_view zs))))
        → ((b : Broken) → IfErr r (Tells b) → IfOk r (λ _. b ≡ nothing) → IfOk r (told.HasChoices now type lists) → Tells (broken.covered now type at lists b) f)
        → Tells (broken.covered sight type at (cases.choice_lists written) (broken'.alternatives sight type (t.alternatives_of written))) f
    read_told at zs f e k wrong h =
        let b = broken'.alternatives sight type (t.alternatives_of written) in
        let told : IfErr r (Tells b) = on_along _ b r (ap (λ l. broken'.alternatives sight type (t.alternatives_of (map tree.alternative_view l))) e) wrong in
        let fine : IfOk r (λ _. b ≡ nothing) = on_given alternatives_view (λ _. b ≡ nothing) read_alternatives r is.1 (λ x e. alternatives_kept sight type written (alternatives_view x) e) in
        told_same _ _ f (ap (λ o. broken.covered o type at lists b) k ∙ ap (λ l. broken.covered sight type at l b) is.0) (h b told fine is.2)

-- ---- the parts of a case statement whose alternatives were read

module _ (sight : Sight) (type : ObjectType) (label : Option Ident) (c : Case) (now : Sight) (lists : List (List t.Choice)) (r : Result (Vec Alternative Global) NameFault)
    (is : Read sight type (out-Case c).alternatives.items now lists r) where
  abbrev stands : List t.Alternative
  stands = tree.alternatives_view (out-Case c).alternatives

  abbrev ends : Option Ident
  ends = tree.option_ident_view (out-Case c).end_label

  abbrev Covers : Option (List Chosen) → Type 0
  Covers o = (found : Option (List Chosen)) → Gives alternatives_view found r → IfOk r (told.HasChoices now type lists) → covering type lists found ≡ o

  covers : (o : Option (List Chosen)) → Covers o → covering type (cases.choice_lists stands) (each (cases.chosen sight type) stands) ≡ o
  covers o h = read_covering sight type (out-Case c).alternatives.items now lists r is o h

  -- where they aren't given or aren't covered
  pub parts_uncovered : Covers None → cases.parts sight type label stands ends ≡ None
  parts_uncovered h = case_by sight type stands label ends None (covers None h)

  module _ (all : List Chosen) (given : Covers (Some all)) where
    pub parts_covered : cases.parts sight type label stands ends ≡ (rule WrongKind (label_ends label ends) >> cases.arranged all)
    parts_covered = case_by sight type stands label ends (Some all) (covers (Some all) given)

    -- what is told behind them
    pub told_ends : (f : NameFault) → Tells (end_label label ends) f → Tells (told.parts sight type label (out-Case c).at stands ends) f
    told_ends f h = parts_ends sight type stands label ends (out-Case c).at f all (covers (Some all) given) h

    pub told_none : (f : NameFault) → rule WrongKind (label_ends label ends) ≡ Some tt → Tells (any_alternative (out-Case c).at all) f
        → Tells (told.parts sight type label (out-Case c).at stands ends) f
    told_none f h k = parts_none sight type stands label ends (out-Case c).at f all (covers (Some all) given) h k

-- ---- what a selected assignment does by a value

module _ (sight : Sight) (type : ObjectType) (a : t.SelectedAssignment) (x : Target) (found : signal_target sight a.target ≡ Some x) where
  abbrev lists : List (List t.Choice)
  lists = steps.choice_lists a.waveforms

  abbrev each_waveform : Broken
  each_waveform = any_of (problems.waveform sight type a.target) a.waveforms

  abbrev given_waveforms : Option (List Chosen)
  given_waveforms = each (steps.chosen sight type a.target) a.waveforms

  waveforms_there : (all : List Chosen) → given_waveforms ≡ Some all → each (are.choices sight type) lists ≡ Some (choices_of all)
  waveforms_there all e = choices_there _ _ _ (by_waveforms.pairs sight a.target x found type a.waveforms) all e

  -- the lists are those that stand there, the answer gives the waveforms, and they have these choices
  abbrev pub AreRead : List (List t.Choice) → Result (Vec Alternative Global) NameFault → Type 0
  AreRead ls r = (ls ≡ lists) × (Gives alternatives_view given_waveforms r) × (IfOk r (told.HasChoices sight type ls))

  pub are_read : (ls : List (List t.Choice)) (r : Result (Vec Alternative Global) NameFault) → ls ≡ lists → Gives alternatives_view given_waveforms r → AreRead ls r
  are_read ls r same given =
      (same, given, on_given alternatives_view (told.HasChoices sight type ls) given_waveforms r given (λ y e. ap (each (are.choices sight type)) same ∙ waveforms_there (alternatives_view y) e))

  -- the parts, where the waveforms are covered or not
  pub selected_by : (o : Option (List Chosen)) → covering type lists given_waveforms ≡ o → steps.parts sight type a ≡ (o >>= λ all. cases.arranged all)
  selected_by o h =
      ap (λ (t : Option Target). t >>= λ _. covering type lists given_waveforms >>= λ all. cases.arranged all) found
      ∙ ap (λ (o : Option (List Chosen)). o >>= λ all. cases.arranged all) h

  any_waveform : (at : ℕ) (ws : List t.Waveform) (all : List Chosen) → each (steps.chosen sight type a.target) ws ≡ Some all → any_alternative at all ≡ any_alternative at ws
  any_waveform at [] all h = ap (any_alternative at) (sym (some_is [] all h))
  any_waveform at (w ∷ ws) all h =
      let c = comes (steps.chosen sight type a.target w) _ all h in
      let d = comes (each (steps.chosen sight type a.target) ws) _ all c.rest in
      ap (any_alternative at) (sym (some_is (c.value ∷ d.value) all d.rest))

  module _ (f : NameFault) where
    abbrev selected_covers : Broken
    selected_covers = broken.covered sight type a.at lists each_waveform

    selected_behind : Tells (selected_covers ▸ any_alternative a.at a.waveforms) f → Tells (problems.waveforms sight type a) f
    selected_behind h =
        told_right (broken'.target sight a.target) (selected_covers ▸ any_alternative a.at a.waveforms) f (signal_target_kept sight a.target x found) h

    pub selected_cover : Tells selected_covers f → Tells (problems.waveforms sight type a) f
    selected_cover h = selected_behind (told_left selected_covers (any_alternative a.at a.waveforms) f h)

    pub selected_none : (all : List Chosen) → covering type lists given_waveforms ≡ Some all → Tells (any_alternative a.at all) f → Tells (problems.waveforms sight type a) f
    selected_none all given h =
        selected_behind (told_right selected_covers (any_alternative a.at a.waveforms) f
        (covering_kept sight type lists a.at each_waveform given_waveforms all waveforms_there (waveforms_kept sight type a.target a.waveforms) given)
        (told_same (any_alternative a.at all) (any_alternative a.at a.waveforms) f
        (any_waveform a.at a.waveforms all (covering_found sight type lists given_waveforms all given)) h))
