-- The rules of case statements, in the order in which the code comes to their parts.
use Rattle.std.proofs.Common.{◌≡◌, ℕ, suc, ◌+◌, ◌-◌, ◌<◌, arith, Bool, true, false, List, [], ◌∷◌, ◌++◌, Option, Some, None, refl, ap, sym, ◌∙◌}
use Rattle.std.specs.Prelude.{option_map, ◌&&◌, ◌||◌}
use Rattle.std.proofs.lemmas.List.{map-append}
use Rattle.std.specs.List.{flat_map, list_all, list_any, range_with_len}
use Rattle.std.specs.Borrow.{Bor}
use Rattle.vhdl_tree.specs.declared.expression.Choice.{Choice}
use Rattle.vhdl_tree.specs.Tree as t
use Rattle.vhdl_tree.specs.Tree.{Ident}
use Rattle.vhdl_tree.specs.View as tree
use Rattle.vhdl_tree.specs.declared.sequential.Case.{Case, out-Case, roll-out-Case}
use Rattle.vhdl_tree.proofs.RowsStatements.{view_case}
use Rattle.vhdl_names_rules.specs.declared.kind.ObjectType.{ObjectType}
use Rattle.vhdl_names_rules.specs.declared.kind.ObjectType.TheVariants.{Elements, Enumeration, Integers, Booleans}
use Rattle.vhdl_names_rules.specs.units.Statements as s
use Rattle.vhdl_names_rules.specs.Rules.{◌>>=◌, ◌>>◌, met, each}
use Rattle.vhdl_names_rules.specs.Visibility.{Sight, label_ends, is_among}
use Rattle.vhdl_names_rules.specs.Expressions.{typed}
use Rattle.vhdl_names_rules.specs.Choices as rules
use Rattle.vhdl_names_rules.specs.Choices.{Selector, choices, covered, selector, selecting, only_last_others, is_last_others, is_others, are_distinct_choices, are_named, names_all, same_choice}
use Rattle.vhdl_names_rules.specs.Statements.{statement, statements, alternatives, choice_lists}
use Rattle.vhdl_names_asked.specs.Asked.{selected_by}
use Rattle.vhdl_names_units.specs.views.Sequential.{Chosen, chosen_by, statements_of, alternatives_of, last_alternative}
use Rattle.vhdl_names_statements.specs.steps.Sequential.{all_labelled}
use Rattle.vhdl_names_statements.specs.steps.Cases as steps
use Rattle.vhdl_names_statements.specs.steps.Cases.{all_choices, choices_of, bodies_of, chosen, cover, covering, are_numbers, arranged, selection, has_positions, has_all, choice_list, all_lists}
use Rattle.vhdl_names_statements.specs.steps.Keys.{keys_of}
use Rattle.vhdl_names_units.proofs.Lists.{bound, inner}
use Rattle.vhdl_names_statements.proofs.steps.Keys.{among_keys, distinct_keys}
use Rattle.vhdl_names_statements.proofs.steps.Sequential.{statements_each}

-- ---- rules in another order

late : {A B : Type 0} (b : Bool) (m : Option A) (f : A → Option B) → (met b >> (m >>= f)) ≡ (m >>= λ x. met b >> f x)
late true m f = refl
late false None f = refl
late false (Some x) f = refl

lost : {A B : Type 0} (m : Option A) → (m >>= λ x. None) ≡ let n : Option B = None in n
lost None = refl
lost (Some x) = refl

-- ---- choices and what alternatives do

pub lists_each : (alts : List t.Alternative) → choice_lists (t.alternatives_of alts) ≡ steps.choice_lists alts
lists_each [] = refl
lists_each (a ∷ alts) = ap (λ xs. a.choices ∷ xs) (lists_each alts)

-- the choices and the bodies are there where both are, alternative by alternative
pub data Pairs (f : Option (List (List s.Choice))) (g : Option (List s.Statements)) (h : Option (List Chosen)) : Type 0 where
  all_there : (all : List Chosen) → f ≡ Some (choices_of all) → g ≡ Some (bodies_of all) → h ≡ Some all → Pairs f g h
  no_choices : f ≡ None → h ≡ None → Pairs f g h
  no_bodies : g ≡ None → h ≡ None → Pairs f g h

pub one_pair : (c : Option (List s.Choice)) (l : Option (List s.Statement)) (m : Option s.Statements) → m ≡ option_map statements_of l
    → (f : Option (List (List s.Choice))) (g : Option (List s.Statements)) (h : Option (List Chosen)) → Pairs f g h
    → Pairs (c >>= λ y. f >>= λ ys. Some (y ∷ ys)) (m >>= λ y. g >>= λ ys. Some (y ∷ ys))
    ((c >>= λ cs. l >>= λ xs. Some (chosen_by cs xs)) >>= λ y. h >>= λ ys. Some (y ∷ ys))
one_pair None l m e f g h p = no_choices refl refl
one_pair (Some cs) None m e f g h p = no_bodies (ap (λ m. m >>= λ y. g >>= λ ys. Some (y ∷ ys)) e) refl
one_pair (Some cs) (Some xs) m e f g h (all_there all p q r) =
    all_there (chosen_by cs xs ∷ all) (ap (λ f. f >>= λ ys. Some (cs ∷ ys)) p)
    (ap (λ m. m >>= λ y. g >>= λ ys. Some (y ∷ ys)) e ∙ ap (λ g. g >>= λ ys. Some (statements_of xs ∷ ys)) q)
    (ap (λ h. h >>= λ ys. Some (chosen_by cs xs ∷ ys)) r)
one_pair (Some cs) (Some xs) m e f g h (no_choices p r) =
    no_choices (ap (λ f. f >>= λ ys. Some (cs ∷ ys)) p) (ap (λ h. h >>= λ ys. Some (chosen_by cs xs ∷ ys)) r)
one_pair (Some cs) (Some xs) m e f g h (no_bodies q r) =
    no_bodies (ap (λ m. m >>= λ y. g >>= λ ys. Some (y ∷ ys)) e ∙ ap (λ g. g >>= λ ys. Some (statements_of xs ∷ ys)) q)
    (ap (λ h. h >>= λ ys. Some (chosen_by cs xs ∷ ys)) r)

pub pairs : (sight : Sight) (type : ObjectType) (alts : List t.Alternative)
    → Pairs (each (choices sight type) (steps.choice_lists alts)) (alternatives sight (t.alternatives_of alts)) (each (chosen sight type) alts)
unfolding alternatives
pairs sight type [] = all_there [] refl refl refl
pairs sight type (a ∷ alts) =
    one_pair (choices sight type a.choices) (all_labelled sight a.statements) (statements sight (t.statements_of a.statements)) (statements_each sight a.statements)
    (each (choices sight type) (steps.choice_lists alts)) (alternatives sight (t.alternatives_of alts)) (each (chosen sight type) alts) (pairs sight type alts)

pub flat_each : (all : List Chosen) → flat_map (λ (cs : List s.Choice). cs) (choices_of all) ≡ all_choices all
flat_each [] = refl
flat_each (a ∷ all) = ap (λ cs. a.choices ++ cs) (flat_each all)

-- ---- the whole

module _ (sight : Sight) (at : ℕ) (type : ObjectType) (value : Selector) (l : Bool) (lists : List (List t.Choice)) where
  abbrev pub by_rules : Option (List (List s.Choice)) → Option (List s.Statements) → Option s.Statement
  by_rules f g = do
    cs ← (do
      met (only_last_others lists)
      css ← f
      met (are_distinct_choices (flat_map (λ cs. cs) css))
      met (is_last_others lists || names_all type (flat_map (λ cs. cs) css))
      Some css)
    bodies ← g
    all ← rules.arranged cs bodies
    Some (selecting at value all)

  abbrev selected : Option s.Alternatives → Option s.Statement
  selected u = u >>= λ all. Some (selecting at value all)

  abbrev pub by_steps : Option (List Chosen) → Option s.Statement
  by_steps h = do
    all ← h
    cover type lists (all_choices all)
    met l
    selected (arranged all)

  -- the alternatives apart
  apart : (h : Option (List Chosen)) → by_steps h ≡ selected (h >>= λ all. cover type lists (all_choices all) >>= λ _. met l >> arranged all)
  apart None = refl
  apart (Some all) = go (cover type lists (all_choices all)) l
    where
      go : (c : Option (Unit {0})) (b : Bool) → (c >>= λ _. met b >> selected (arranged all)) ≡ selected (c >>= λ _. met b >> arranged all)
      go None b = refl
      go (Some _) true = refl
      go (Some _) false = refl

  fits : (l o d n : Bool) (css : List (List s.Choice)) (bs : List s.Statements)
      → (met l >> ((met o >> (met d >> (met n >> Some css))) >>= λ cs. selected (rules.arranged cs bs)))
      ≡ ((met o >> (met d >> met n)) >>= λ _. met l >> selected (rules.arranged css bs))
  fits true true true true css bs = refl
  fits false true true true css bs = refl
  fits true false d n css bs = refl
  fits false false d n css bs = refl
  fits true true false n css bs = refl
  fits false true false n css bs = refl
  fits true true true false css bs = refl
  fits false true true false css bs = refl

  pub same : (f : Option (List (List s.Choice))) (g : Option (List s.Statements)) (h : Option (List Chosen)) → Pairs f g h → (met l >> by_rules f g) ≡ by_steps h
  same f g h (no_choices p r) = ap (λ f. met l >> by_rules f g) p ∙ none l (only_last_others lists) ∙ ap by_steps (sym r)
    where
      none : (l o : Bool) → (met l >> ((met o >> (None >>= λ css. met (are_distinct_choices (flat_map (λ cs. cs) css)) >> (met (is_last_others lists || names_all type (flat_map (λ cs. cs) css)) >> Some css)))
          >>= λ cs. g >>= λ bodies. selected (rules.arranged cs bodies))) ≡ None
      none true true = refl
      none true false = refl
      none false true = refl
      none false false = refl
  same f g h (no_bodies q r) = ap (λ g. met l >> by_rules f g) q ∙ ap (λ o. met l >> o) (lost (met (only_last_others lists) >> (f >>= λ css. met (are_distinct_choices (flat_map (λ cs. cs) css)) >> (met (is_last_others lists || names_all type (flat_map (λ cs. cs) css)) >> Some css)))) ∙ none l ∙ ap by_steps (sym r)
    where
      none : (l : Bool) → (met l >> let n : Option s.Statement = None in n) ≡ None
      none true = refl
      none false = refl
  same f g h (all_there all p q r) =
      ap (λ f. met l >> by_rules f g) p ∙ ap (λ g. met l >> by_rules (Some (choices_of all)) g) q
      ∙ fits l (only_last_others lists) (are_distinct_choices (flat_map (λ cs. cs) (choices_of all)))
      (is_last_others lists || names_all type (flat_map (λ cs. cs) (choices_of all))) (choices_of all) (bodies_of all)
      ∙ ap (λ cs. (met (only_last_others lists) >> (met (are_distinct_choices cs) >> met (is_last_others lists || names_all type cs)))
      >>= λ _. met l >> selected (arranged all)) (flat_each all)
      ∙ ap (λ b. (met (only_last_others lists) >> (met b >> met (is_last_others lists || names_all type (all_choices all))))
      >>= λ _. met l >> selected (arranged all)) (sym (distinct_keys (all_choices all)))
      ∙ ap by_steps (sym r)

-- a case by the steps, where the alternatives are covered before the label is looked at
covered_first : (type : ObjectType) (lists : List (List t.Choice)) (l : Bool) (h : Option (List Chosen))
    → (h >>= λ all. cover type lists (all_choices all) >>= λ _. met l >> arranged all) ≡ (covering type lists h >>= λ all. met l >> arranged all)
covered_first type lists l None = refl
covered_first type lists l (Some all) = go (cover type lists (all_choices all))
  where
    go : (c : Option (Unit {0})) → (c >>= λ _. met l >> arranged all) ≡ ((c >>= λ _. Some all) >>= λ all. met l >> arranged all)
    go None = refl
    go (Some u) = refl

selection_by : (sight : Sight) (label : Option Ident) (at : ℕ) (e : t.Expr) (alts : List t.Alternative) (end : Option Ident)
    → statement sight label (t.case_of at e (t.alternatives_of alts) end) ≡ selection sight label at e alts end
unfolding statement
selection_by sight label at e alts end =
    ap (λ lists. met (label_ends label end) >> (typed sight e >>= λ x. selector sight.language x >>= λ by. covered sight by.0 lists >>= λ cs. alternatives sight (t.alternatives_of alts)
    >>= λ bodies. rules.arranged cs bodies >>= λ all. Some (selecting at by.1 all))) (lists_each alts)
    ∙ ap (λ o. met (label_ends label end) >> o) (inner (typed sight e) (selector sight.language) body)
    ∙ late (label_ends label end) (selected_by sight e) body
    ∙ bound (selected_by sight e) (λ by. met (label_ends label end) >> body by)
    (λ by. steps.parts sight by.0 label alts end >>= λ all. Some (selecting at by.1 all))
    (λ by. same sight at by.0 by.1 (label_ends label end) (steps.choice_lists alts) _ _ _ (pairs sight by.0 alts)
    ∙ apart sight at by.0 by.1 (label_ends label end) (steps.choice_lists alts) (each (chosen sight by.0) alts)
    ∙ ap (λ o. o >>= λ all. Some (selecting at by.1 all)) (covered_first by.0 (steps.choice_lists alts) (label_ends label end) (each (chosen sight by.0) alts)))
  where
    body : ObjectType × Selector → Option s.Statement
    body by = by_rules sight at by.0 by.1 (label_ends label end) (steps.choice_lists alts) (each (choices sight by.0) (steps.choice_lists alts)) (alternatives sight (t.alternatives_of alts))

pub case_is : (c : Case) → tree.case_view c
    ≡ t.case_of (out-Case c).at (tree.view (out-Case c).selector) (t.alternatives_of (tree.alternatives_view (out-Case c).alternatives)) (tree.option_ident_view (out-Case c).end_label)
case_is c = ap tree.case_view (sym (roll-out-Case c)) ∙ view_case (out-Case c).at (out-Case c).selector (out-Case c).alternatives (out-Case c).end_label

pub case_gives : (sight : Sight) (label : Option Ident) (c : Case) → statement sight label (tree.case_view c)
    ≡ selection sight label (out-Case c).at (tree.view (out-Case c).selector) (tree.alternatives_view (out-Case c).alternatives) (tree.option_ident_view (out-Case c).end_label)
case_gives sight label c =
    ap (statement sight label) (case_is c)
    ∙ selection_by sight label _ (tree.view (out-Case c).selector) (tree.alternatives_view (out-Case c).alternatives) (tree.option_ident_view (out-Case c).end_label)

-- ---- tables of choices

has_named : (cs : List s.Choice) (count : ℕ) → has_positions (keys_of cs) count ≡ are_named count cs
has_named cs count = go (range_with_len 0 count)
  where
    go : (ps : List ℕ) → list_all (λ p. is_among (9 ∷ p ∷ []) (keys_of cs)) ps ≡ list_all (λ p. list_any (same_choice (s.Choice.position p)) cs) ps
    go [] = refl
    go (p ∷ ps) =
        ap (λ b. b && list_all (λ p. is_among (9 ∷ p ∷ []) (keys_of cs)) ps) (among_keys (s.Choice.position p) cs)
        ∙ ap (λ b. list_any (same_choice (s.Choice.position p)) cs && b) (go ps)

pub has_names : (type : ObjectType) (cs : List s.Choice) → has_all type (keys_of cs) ≡ names_all type cs
has_names (Elements k) cs = refl
has_names (Enumeration e count) cs = has_named cs count
has_names Booleans cs = has_named cs 2
has_names Integers cs = refl

last_is : (lists : List (List t.Choice)) (last : List t.Choice) → is_last_others (lists ++ last ∷ []) ≡ is_others last
last_is [] last = refl
last_is (cs ∷ []) last = refl
last_is (cs ∷ ds ∷ lists) last = last_is (ds ∷ lists) last

pub last_in : (lists before : List (Bor (List Choice))) (last : Bor (List Choice)) → lists ≡ before ++ last ∷ []
    → is_last_others (all_lists lists) ≡ is_others (choice_list last)
last_in lists before last e = ap is_last_others (ap all_lists e ∙ map-append choice_list before (last ∷ [])) ∙ last_is (all_lists before) (choice_list last)

-- the next of a range
next : (p : ℕ → Bool) (i count : ℕ) → i < count → list_all p (range_with_len i (count - i)) ≡ (p i && list_all p (range_with_len (i + 1) (count - (i + 1))))
next p i count lt =
    let e : count - i ≡ suc (count - (i + 1)) = omega arith in
    ap (λ n. list_all p (range_with_len i n)) e

pub next_true : (p : ℕ → Bool) (i count : ℕ) → i < count → p i ≡ true → list_all p (range_with_len i (count - i)) ≡ list_all p (range_with_len (i + 1) (count - (i + 1)))
next_true p i count lt e = next p i count lt ∙ ap (λ b. b && list_all p (range_with_len (i + 1) (count - (i + 1)))) e

pub next_false : (p : ℕ → Bool) (i count : ℕ) → i < count → p i ≡ false → list_all p (range_with_len i (count - i)) ≡ false
next_false p i count lt e = next p i count lt ∙ ap (λ b. b && list_all p (range_with_len (i + 1) (count - (i + 1)))) e

-- ---- the last alternative

pub arranged-push : (all : List Chosen) (a : Chosen) → arranged (all ++ a ∷ []) ≡ Some (alternatives_of all (rules.last_by a.choices (statements_of a.statements)))
arranged-push [] a = refl
arranged-push (b ∷ []) a = refl
arranged-push (b ∷ c ∷ all) a = ap (option_map (s.alternative b.choices (statements_of b.statements))) (arranged-push (c ∷ all) a)

-- the choices that are kept
pub numbers_last : (cs : List s.Choice) → are_numbers cs ≡ true → (xs : s.Statements) → last_alternative cs xs ≡ rules.last_by cs xs
numbers_last (s.numbers i ∷ cs) h xs = refl
numbers_last cs h xs = absurd cc

pub others_last : (cs ds : List s.Choice) → ds ≡ [] → are_numbers cs ≡ false → (xs : s.Statements) → last_alternative ds xs ≡ rules.last_by cs xs
others_last cs ds none h xs = ap (λ ds. last_alternative ds xs) none ∙ go cs h
  where
    go : (cs : List s.Choice) → are_numbers cs ≡ false → s.others xs ≡ rules.last_by cs xs
    go (s.numbers i ∷ cs) h = absurd cc
    go cs h = refl
