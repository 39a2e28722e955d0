-- A case on a truth, and an assignment of one, as ifs.
use Rattle.std.proofs.Common.{◌≡◌, ℕ, ◌==◌, Bool, List, [], ◌∷◌, ◌++◌, map, length, arith, false, Some, None, Result, Ok, Err, IfOk, refl, ap, sym, ◌∙◌}
use Rattle.std.specs.Prelude.{if◌then◌else◌, slice_get}
use Rattle.std.proofs.lemmas.List.{append_assoc, map-append}
use Rattle.vhdl_names_rules.specs.units.Expressions.{Test}
use Rattle.vhdl_names_rules.specs.units.Statements as s
use Rattle.vhdl_names_rules.specs.Operators.{negated}
use Rattle.vhdl_names_rules.specs.Choices as rules
use Rattle.vhdl_names_units.specs.declared.answers.Choice.{Choice}
use Rattle.vhdl_names_units.specs.declared.sequential.Alternative.{Alternative}
use Rattle.vhdl_names_units.specs.declared.sequential.Branch.{Branch}
use Rattle.vhdl_names_units.specs.views.Answers.{choice_view, choices_view}
use Rattle.vhdl_names_units.specs.views.Sequential.{Chosen, Guarded, branch_view, alternative_view, branches_of, statements_of, last_alternative, alternatives_of}
use Rattle.vhdl_names_statements.specs.steps.Cases.{is_numbers, are_numbers}
use Rattle.vhdl_names_statements.specs.steps.Deciding.{both, sole_position, sole_truth, branches_by, decided}

-- ---- alternatives as branches

last_branch : (at : ℕ) (t : Test) (cs : List s.Choice) (ss : s.Statements) → rules.branches_by at t (last_alternative cs ss) ≡ s.otherwise ss
last_branch at t [] ss = refl
last_branch at t (c ∷ cs) ss = refl

pub branches_are : (at : ℕ) (t : Test) (all : List Chosen) (cs : List s.Choice) (ss : s.Statements)
    → rules.branches_by at t (alternatives_of all (last_alternative cs ss)) ≡ branches_of (branches_by at t all) (s.otherwise ss)
branches_are at t [] cs ss = last_branch at t cs ss
branches_are at t (a ∷ all) cs ss = ap (s.branch t (statements_of a.statements)) (branches_are at (rules.always at) all cs ss)

-- a branch more
pub one_more : (bs : List Branch) (b : Branch) (g : Guarded) (rest : List Guarded) → branch_view b ≡ g → map branch_view bs ++ g ∷ rest ≡ map branch_view (bs ++ b ∷ []) ++ rest
one_more bs b g rest is =
    sym (ap (λ xs. xs ++ rest) (map-append branch_view bs (b ∷ [])) ∙ append_assoc (map branch_view bs) (branch_view b ∷ []) rest ∙ ap (λ g. map branch_view bs ++ g ∷ rest) is)

-- no items
pub no_items : {A : Type 0} (xs : List A) → length xs ≡ 0 → xs ≡ []
no_items [] h = refl
no_items (x ∷ xs) h = absurd (omega (arith, h))

-- ---- the whole

module _ (at : ℕ) (t : Test) (cs : List s.Choice) (ss : s.Statements) where
  abbrev whole : List Chosen → s.Alternatives
  whole all = alternatives_of all (last_alternative cs ss)

  abbrev with_choices : Chosen → List s.Choice → Chosen
  with_choices a ds = record { choices = ds; statements = a.statements }

  pub of_one : (all : List Chosen) (b : Bool) → sole_truth all ≡ Some b → rules.deciding at t (whole all) ≡ decided at (if b then t else negated t) all ss
  of_one [] b h = absurd cc
  of_one (a ∷ all) b h = by a.choices h
    where
      by : (ds : List s.Choice) → sole_position ds ≡ Some b → rules.deciding at t (whole (with_choices a ds ∷ all)) ≡ decided at (if b then t else negated t) (a ∷ all) ss
      by (s.Choice.position p ∷ []) h =
          let same : (p == 1) ≡ b = cc in
          ap (s.if_of at) (branches_are at (if p == 1 then t else negated t) (with_choices a (s.Choice.position p ∷ []) ∷ all) cs ss)
          ∙ ap (λ (b : Bool). decided at (if b then t else negated t) (a ∷ all) ss) same
      by [] h = absurd cc
      by (s.values vs ∷ ds) h = absurd cc
      by (s.numbers i ∷ ds) h = absurd cc
      by (s.Choice.position p ∷ d ∷ ds) h = absurd cc

  abbrev undecided : s.Alternatives → s.Statement
  undecided alts = both at (rules.read_only at t) (s.if_of at (rules.branches_by at (rules.always at) alts))

  pub of_none : (all : List Chosen) → sole_truth all ≡ None → rules.deciding at t (whole all) ≡ both at (rules.read_only at t) (decided at (rules.always at) all ss)
  of_none all h = go all h ∙ ap (λ bs. both at (rules.read_only at t) (s.if_of at bs)) (branches_are at (rules.always at) all cs ss)
    where
      last : (cs : List s.Choice) → rules.deciding at t (last_alternative cs ss) ≡ undecided (last_alternative cs ss)
      last [] = refl
      last (c ∷ cs) = refl

      by : (a : Chosen) (more : List Chosen) (ds : List s.Choice) → sole_position ds ≡ None
          → rules.deciding at t (whole (with_choices a ds ∷ more)) ≡ undecided (whole (with_choices a ds ∷ more))
      by a more (s.Choice.position p ∷ []) h = absurd cc
      by a more [] h = refl
      by a more (s.values vs ∷ ds) h = refl
      by a more (s.numbers i ∷ ds) h = refl
      by a more (s.Choice.position p ∷ d ∷ ds) h = refl

      go : (all : List Chosen) → sole_truth all ≡ None → rules.deciding at t (whole all) ≡ undecided (whole all)
      go [] h = last cs
      go (a ∷ more) h = by a more a.choices h

-- ---- by the first of several

pub first_truth : (xs : List Alternative) (a : Alternative) → Some a ≡ slice_get xs 0 → sole_position (choices_view a.choices) ≡ sole_truth (map alternative_view xs)
first_truth [] a h = absurd cc
first_truth (x ∷ xs) a h = let same : a ≡ x = cc in ap (λ (x : Alternative). sole_position (choices_view x.choices)) same

pub no_truth : (xs : List Alternative) → None ≡ slice_get xs 0 → None ≡ sole_truth (map alternative_view xs)
no_truth [] h = refl
no_truth (x ∷ xs) h = absurd cc

pub first_numbers : (cs : List Choice) (c : Choice) → Some c ≡ slice_get cs 0 → is_numbers (choice_view c) ≡ are_numbers (map choice_view cs)
first_numbers [] c h = absurd cc
first_numbers (d ∷ cs) c h = let same : c ≡ d = cc in ap (λ d. is_numbers (choice_view d)) same

pub no_numbers : (cs : List Choice) → None ≡ slice_get cs 0 → false ≡ are_numbers (map choice_view cs)
no_numbers [] h = refl
no_numbers (d ∷ cs) h = absurd cc

-- ---- what is returned

pub on_ok : {X E : Type 0} (P Q : X → Type 0) (r : Result X E) → ((x : X) → P x → Q x) → IfOk r P → IfOk r Q
on_ok P Q (Ok x) f h = f x h
on_ok P Q (Err e) f h = tt
