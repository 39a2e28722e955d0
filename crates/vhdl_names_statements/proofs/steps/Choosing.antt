-- Choices that are read one by one, told apart by their keys, are told as they stand.
use Rattle.std.proofs.Common.{◌≡◌, ◌≢◌, ℕ, zero, suc, ◌+◌, ◌<◌, ◌==◌, arith, Bool, true, false, List, [], ◌∷◌, ◌++◌, map, length, get_or, drop, Option, Some, None, Result, Ok, Err, IfOk, IfErr, refl, ap, sym, ◌∙◌}
use Rattle.std.specs.Prelude.{not, ◌&&◌}
use Rattle.std.specs.List.{flat_map, filter_map}
use Rattle.std.specs.Borrow.{Bor}
use Rattle.std.proofs.lemmas.Bool.{ne_eqb}
use Rattle.std.proofs.Math.Dec.{eqb-suc-suc}
use Rattle.std.proofs.lemmas.List.{append-nil, append_assoc}
use Rattle.std.proofs.lemmas.List.Elements.{filter_map-append}
use Rattle.vhdl_tree.specs.declared.expression.Choice.{Choice}
use Rattle.vhdl_tree.specs.Tree as t
use Rattle.vhdl_tree.specs.View.{choice_view}
use Rattle.vhdl_names_rules.specs.declared.kind.ObjectType.{ObjectType}
use Rattle.vhdl_names_rules.specs.declared.fault.NameFault.{NameFault}
use Rattle.vhdl_names_rules.specs.declared.fault.NameFault.TheVariants.{NoMemory}
use Rattle.vhdl_names_rules.specs.declared.fault.NameProblem.{NameProblem}
use Rattle.vhdl_names_rules.specs.declared.fault.NameProblem.TheVariants.{ChoiceTwice}
use Rattle.vhdl_names_rules.specs.units.Statements as s
use Rattle.vhdl_names_rules.specs.Rules.{◌>>=◌}
use Rattle.vhdl_names_rules.specs.Gives.{Gives}
use Rattle.vhdl_names_rules.specs.Visibility.{Name, Sight, are_distinct}
use Rattle.vhdl_names_rules.specs.declared.kind.ObjectType.TheVariants.{Integers}
use Rattle.vhdl_names_rules.specs.Expressions.{typed_choice}
use Rattle.vhdl_names_rules.specs.Choices as are
use Rattle.vhdl_names_rules.specs.Choices.{is_others, only_last_others}
use Rattle.vhdl_names_rules.specs.problems.Broken.{Broken, Tells, refused, ◌▸◌, unless, where_given}
use Rattle.vhdl_names_rules.specs.problems.Places.{choice_place}
use Rattle.vhdl_names_rules.specs.problems.Choices.{choice}
use Rattle.vhdl_names_rules.specs.problems.Covered as broken
use Rattle.vhdl_names_rules.specs.problems.Covered.{is_empty}
use Rattle.vhdl_names_rules.proofs.Telling.{IsKept, both_kept, behind_kept, unless_kept, given_kept, told_same, told_left, told_right, told_given, told_unless, kept_left, kept_right}
use Rattle.vhdl_names_rules.proofs.kept.Choices.{choice_kept}
use Rattle.vhdl_names_units.specs.Lists.{in_turn}
use Rattle.vhdl_names_units.specs.Once.{one_name}
use Rattle.vhdl_names_units.proofs.Behind.{next}
use Rattle.vhdl_names_units.proofs.Once as names
use Rattle.vhdl_names_statements.specs.steps.Cases.{choice_list, all_lists}
use Rattle.vhdl_names_statements.specs.steps.Keys as keyed
use Rattle.vhdl_names_statements.specs.steps.Keys.{is_taken, one_choice}
use Rattle.vhdl_names_statements.specs.steps.Told as told
use Rattle.vhdl_names_statements.specs.steps.Told.{keys_of, with_choice, with_list, with_lists}
use Rattle.vhdl_names_statements.proofs.steps.Keys.{among_keys, there, not_free, is_free, is_added, taken_in_turn}

-- ---- keys that are taken

pub turned-append : (ks ms ns : List Name) → in_turn one_name ks (ms ++ ns) ≡ (in_turn one_name ks ms >>= λ z. in_turn one_name z ns)
turned-append ks [] ns = refl
turned-append ks (m ∷ ms) ns = go (one_name ks m) (λ z. turned-append z ms ns)
  where
    go : (o : Option (List Name)) → ((z : List Name) → in_turn one_name z (ms ++ ns) ≡ (in_turn one_name z ms >>= λ y. in_turn one_name y ns))
        → (o >>= λ z. in_turn one_name z (ms ++ ns)) ≡ ((o >>= λ z. in_turn one_name z ms) >>= λ y. in_turn one_name y ns)
    go None h = refl
    go (Some z) h = h z

-- what is asked of a thing that is given, in other words
alike : {A : Type 0} (o : Option A) (f g : A → Broken) → ((x : A) → f x ≡ g x) → where_given o f ≡ where_given o g
alike None f g h = refl
alike (Some x) f g h = h x

both_alike : (a b c d : Broken) → a ≡ b → c ≡ d → a ▸ c ≡ b ▸ d
both_alike a b c d e f = ap (λ x. x ▸ c) e ∙ ap (λ x. b ▸ x) f

module _ (sight : Sight) (type : ObjectType) where
  -- ---- one choice

  given_key : (c : t.Choice) (x : s.Choice) → are.choice sight type c ≡ Some x → keys_of sight type (c ∷ []) ≡ keyed.keys_of (x ∷ [])
  given_key c x e = go (are.choice sight type c) refl
    where
      go : (o : Option s.Choice) → are.choice sight type c ≡ o → keys_of sight type (c ∷ []) ≡ keyed.keys_of (x ∷ [])
      go None h = let no : let n : Option s.Choice = None in n ≡ Some x = sym h ∙ e in cc
      go (Some y) h = let same : y ≡ x = let k : Some y ≡ Some x = sym h ∙ e in cc in rw h (ap (λ z. keyed.keys_of (z ∷ [])) same)

  abbrev told_apart : List Name → t.Choice → s.Choice → Broken
  told_apart keys c x = unless ChoiceTwice (choice_place c) (not (is_taken keys x))

  pub once_refused : (keys : List Name) (c : t.Choice) (f : NameFault) → Tells (choice sight type c) f → Tells (told.once sight type keys c) f
  once_refused keys c f h = told_left (choice sight type c) (where_given (are.choice sight type c) (told_apart keys c)) f h

  module _ (keys new : List Name) (c : t.Choice) (x : s.Choice) (is : are.choice sight type c ≡ Some x) where
    pub once_twice : (f : NameFault) → (f ≢ NoMemory → one_choice keys x ≡ None) → Tells (refused ChoiceTwice (choice_place c)) f → Tells (told.once sight type keys c) f
    once_twice f none h =
        told_right (choice sight type c) (where_given (are.choice sight type c) (told_apart keys c)) f (choice_kept sight type c x is)
        (told_given (told_apart keys c) (are.choice sight type c) x f is
        (told_unless ChoiceTwice (choice_place c) (not (is_taken keys x)) f (λ n. not_free keys x (none n)) h))

    once_kept : one_choice keys x ≡ Some new → IsKept (told.once sight type keys c)
    once_kept h =
        both_kept (choice sight type c) (where_given (are.choice sight type c) (told_apart keys c)) (choice_kept sight type c x is)
        (given_kept (told_apart keys c) (are.choice sight type c) x is
        (unless_kept ChoiceTwice (choice_place c) (not (is_taken keys x)) (is_free keys new x h)))

    once_added : one_choice keys x ≡ Some new → new ≡ with_choice sight type keys c
    once_added h = sym (is_added keys new x h) ∙ ap (λ k. keys ++ k) (sym (given_key c x is))

    -- an answer of the table of keys
    pub answer_told : {X : Type 0} (r : Result X NameFault) → Gives (λ _. new) (one_choice keys x) r
        → IfErr r (Tells (refused ChoiceTwice (choice_place c))) → IfErr r (Tells (told.once sight type keys c))
    answer_told (Ok y) g h = tt
    answer_told (Err f) g h = once_twice f g h

    pub answer_kept : {X : Type 0} (r : Result X NameFault) → Gives (λ _. new) (one_choice keys x) r → IfOk r (λ _. IsKept (told.once sight type keys c))
    answer_kept (Ok y) g = once_kept g
    answer_kept (Err f) g = tt

    pub answer_added : {X : Type 0} (r : Result X NameFault) → Gives (λ _. new) (one_choice keys x) r → IfOk r (λ _. new ≡ with_choice sight type keys c)
    answer_added (Ok y) g = once_added g
    answer_added (Err f) g = tt

  -- ---- one choice after another

  module _ (xs : List Choice) (i : ℕ) (x : Choice) (lt : i < length xs) (is : x ≡ get_or xs i x) where
    pub next_told : (old keys : List Name) (f : NameFault)
        → told.each_once sight type old (map choice_view xs) ≡ told.each_once sight type keys (map choice_view (drop i xs))
        → Tells (told.once sight type keys (choice_view x)) f → Tells (told.each_once sight type old (map choice_view xs)) f
    next_told old keys f inv h =
        let rest = told.each_once sight type (with_choice sight type keys (choice_view x)) (map choice_view (drop (i + 1) xs)) in
        told_same (told.once sight type keys (choice_view x) ▸ rest) (told.each_once sight type old (map choice_view xs)) f
        (sym (inv ∙ ap (λ l. told.each_once sight type keys (map choice_view l)) (next xs i x lt is)))
        (told_left (told.once sight type keys (choice_view x)) rest f h)

    pub next_left : (old keys new : List Name)
        → told.each_once sight type old (map choice_view xs) ≡ told.each_once sight type keys (map choice_view (drop i xs))
        → IsKept (told.once sight type keys (choice_view x)) → new ≡ with_choice sight type keys (choice_view x)
        → told.each_once sight type old (map choice_view xs) ≡ told.each_once sight type new (map choice_view (drop (i + 1) xs))
    next_left old keys new inv kept added =
        let rest = told.each_once sight type (with_choice sight type keys (choice_view x)) (map choice_view (drop (i + 1) xs)) in
        inv ∙ ap (λ l. told.each_once sight type keys (map choice_view l)) (next xs i x lt is)
        ∙ behind_kept (told.once sight type keys (choice_view x)) rest kept
        ∙ ap (λ k. told.each_once sight type k (map choice_view (drop (i + 1) xs))) (sym added)

    pub next_added : (old keys new : List Name)
        → with_list sight type old (map choice_view xs) ≡ with_list sight type keys (map choice_view (drop i xs))
        → new ≡ with_choice sight type keys (choice_view x)
        → with_list sight type old (map choice_view xs) ≡ with_list sight type new (map choice_view (drop (i + 1) xs))
    next_added old keys new inv added =
        inv ∙ ap (λ l. with_list sight type keys (map choice_view l)) (next xs i x lt is)
        ∙ ap (λ k. with_list sight type k (map choice_view (drop (i + 1) xs))) (sym added)

  -- ---- one alternative

  -- ---- one alternative after another

  module _ (bs : List (Bor (List Choice))) (i : ℕ) (x : Bor (List Choice)) (lt : i < length bs) (is : x ≡ get_or bs i x) where
    abbrev behind : List (List t.Choice)
    behind = all_lists (drop (i + 1) bs)

    pub list_told : (keys : List Name) (l : Bool) (f : NameFault)
        → told.in_place sight type [] (all_lists bs) ≡ told.in_place sight type keys (all_lists (drop i bs)) → l ≡ is_empty behind
        → Tells (told.alternative_in_place sight type keys l (choice_list x)) f → Tells (told.in_place sight type [] (all_lists bs)) f
    list_told keys l f inv last h =
        let here = told.alternative_in_place sight type keys (is_empty behind) (choice_list x) in
        let rest = told.in_place sight type (with_list sight type keys (choice_list x)) behind in
        told_same (here ▸ rest) (told.in_place sight type [] (all_lists bs)) f (sym (inv ∙ ap (λ l. told.in_place sight type keys (all_lists l)) (next bs i x lt is)))
        (told_left here rest f
        (told_same (told.alternative_in_place sight type keys l (choice_list x)) here f (ap (λ l. told.alternative_in_place sight type keys l (choice_list x)) last) h))

    pub list_left : (keys new : List Name) (l : Bool)
        → told.in_place sight type [] (all_lists bs) ≡ told.in_place sight type keys (all_lists (drop i bs)) → l ≡ is_empty behind
        → IsKept (told.alternative_in_place sight type keys l (choice_list x)) → new ≡ with_list sight type keys (choice_list x)
        → told.in_place sight type [] (all_lists bs) ≡ told.in_place sight type new (all_lists (drop (i + 1) bs))
    list_left keys new l inv last kept added =
        let here = told.alternative_in_place sight type keys (is_empty behind) (choice_list x) in
        let rest = told.in_place sight type (with_list sight type keys (choice_list x)) behind in
        inv ∙ ap (λ l. told.in_place sight type keys (all_lists l)) (next bs i x lt is)
        ∙ behind_kept here rest (ap (λ l. told.alternative_in_place sight type keys l (choice_list x)) (sym last) ∙ kept)
        ∙ ap (λ k. told.in_place sight type k behind) (sym added)

    pub list_added : (keys new : List Name)
        → with_lists sight type [] (all_lists bs) ≡ with_lists sight type keys (all_lists (drop i bs))
        → new ≡ with_list sight type keys (choice_list x)
        → with_lists sight type [] (all_lists bs) ≡ with_lists sight type new (all_lists (drop (i + 1) bs))
    list_added keys new inv added =
        inv ∙ ap (λ l. with_lists sight type keys (all_lists l)) (next bs i x lt is) ∙ ap (λ k. with_lists sight type k behind) (sym added)

  -- ---- by keys or as they stand

  keys-append : (xs ys : List t.Choice) → keys_of sight type xs ++ keys_of sight type ys ≡ keys_of sight type (xs ++ ys)
  keys-append xs ys =
      sym (filter_map-append keyed.key_of (filter_map (are.choice sight type) xs) (filter_map (are.choice sight type) ys))
      ∙ ap keyed.keys_of (sym (filter_map-append (are.choice sight type) xs ys))

  once_same : (before : List t.Choice) (c : t.Choice) → told.once sight type (keys_of sight type before) c ≡ broken.once sight type before c
  once_same before c =
      ap (λ b. choice sight type c ▸ b)
      (alike (are.choice sight type c) (told_apart (keys_of sight type before) c) (λ x. unless ChoiceTwice (choice_place c) (not (broken.stands sight type before x)))
      (λ x. ap (λ b. unless ChoiceTwice (choice_place c) (not b)) (among_keys x (filter_map (are.choice sight type) before))))

  each_same : (before cs : List t.Choice) → told.each_once sight type (keys_of sight type before) cs ≡ broken.each_once sight type before cs
  each_same before [] = refl
  each_same before (c ∷ cs) =
      both_alike _ _ _ _ (once_same before c)
      (ap (λ k. told.each_once sight type k cs) (keys-append before (c ∷ [])) ∙ each_same (before ++ c ∷ []) cs)

  list_same : (before cs : List t.Choice) → with_list sight type (keys_of sight type before) cs ≡ keys_of sight type (before ++ cs)
  list_same before [] = ap (keys_of sight type) (sym (append-nil before))
  list_same before (c ∷ cs) =
      ap (λ k. with_list sight type k cs) (keys-append before (c ∷ [])) ∙ list_same (before ++ c ∷ []) cs
      ∙ ap (keys_of sight type) (append_assoc before (c ∷ []) cs)

  alternative_same : (before cs : List t.Choice) (l : Bool) → told.alternative_in_place sight type (keys_of sight type before) l cs ≡ broken.alternative_in_place sight type before l cs
  alternative_same before [] l = refl
  alternative_same before (t.otherwise at ∷ []) l = refl
  alternative_same before (t.otherwise at ∷ d ∷ ds) l = each_same before (t.otherwise at ∷ d ∷ ds)
  alternative_same before (t.chosen x ∷ cs) l = each_same before (t.chosen x ∷ cs)
  alternative_same before (t.chosen_range x d y ∷ cs) l = each_same before (t.chosen_range x d y ∷ cs)

  place_same : (before : List t.Choice) (lists : List (List t.Choice)) → told.in_place sight type (keys_of sight type before) lists ≡ broken.in_place sight type before lists
  place_same before [] = refl
  place_same before (cs ∷ rest) =
      both_alike _ _ _ _ (alternative_same before cs (is_empty rest))
      (ap (λ k. told.in_place sight type k rest) (list_same before cs) ∙ place_same (before ++ cs) rest)

  pub in_place_same : (lists : List (List t.Choice)) → told.in_place sight type [] lists ≡ broken.in_place sight type [] lists
  in_place_same lists = place_same [] lists

  lists_same : (before : List t.Choice) (lists : List (List t.Choice))
      → with_lists sight type (keys_of sight type before) lists ≡ keys_of sight type (before ++ flat_map (λ cs. cs) lists)
  lists_same before [] = ap (keys_of sight type) (sym (append-nil before))
  lists_same before (cs ∷ rest) =
      ap (λ k. with_lists sight type k rest) (list_same before cs) ∙ lists_same (before ++ cs) rest
      ∙ ap (keys_of sight type) (append_assoc before cs (flat_map (λ cs. cs) rest))

  pub all_keys : (lists : List (List t.Choice)) → with_lists sight type [] lists ≡ keys_of sight type (flat_map (λ cs. cs) lists)
  all_keys lists = lists_same [] lists

  -- ---- what is in place

  others_not : (keys : List Name) (cs : List t.Choice) → IsKept (told.alternative_in_place sight type keys false cs) → is_others cs ≡ false
  others_not keys [] h = refl
  others_not keys (t.otherwise at ∷ []) h = absurd cc
  others_not keys (t.otherwise at ∷ d ∷ ds) h = refl
  others_not keys (t.chosen x ∷ cs) h = refl
  others_not keys (t.chosen_range x d y ∷ cs) h = refl

  pub only_last : (keys : List Name) (lists : List (List t.Choice)) → IsKept (told.in_place sight type keys lists) → only_last_others lists ≡ true
  only_last keys [] h = refl
  only_last keys (cs ∷ []) h = refl
  only_last keys (cs ∷ ds ∷ rest) h =
      ap (λ b. not b && only_last_others (ds ∷ rest)) (others_not keys cs (kept_left _ _ h))
      ∙ only_last (with_list sight type keys cs) (ds ∷ rest) (kept_right _ _ h)

  -- keys that are none of those before them
  holds : (p : NameProblem) (at : ℕ) (b : Bool) → IsKept (unless p at b) → b ≡ true
  holds p at true h = refl
  holds p at false h = absurd cc

  one_taken : (keys : List Name) (c : t.Choice) → IsKept (told.once sight type keys c) → in_turn one_name keys (keys_of sight type (c ∷ [])) ≡ Some (with_choice sight type keys c)
  one_taken keys c h = go (are.choice sight type c) refl (kept_right (choice sight type c) (where_given (are.choice sight type c) (told_apart keys c)) h)
    where
      go : (o : Option s.Choice) → are.choice sight type c ≡ o → IsKept (where_given (are.choice sight type c) (told_apart keys c))
          → in_turn one_name keys (keys_of sight type (c ∷ [])) ≡ Some (with_choice sight type keys c)
      go None e k = rw e (ap Some (sym (append-nil keys)))
      go (Some x) e k =
          let free : not (is_taken keys x) ≡ true =
          holds ChoiceTwice (choice_place c) (not (is_taken keys x)) (sym (ap (λ o. where_given o (told_apart keys c)) e) ∙ k) in
          rw e (taken_in_turn keys x free)

  each_taken : (keys : List Name) (cs : List t.Choice) → IsKept (told.each_once sight type keys cs) → in_turn one_name keys (keys_of sight type cs) ≡ Some (with_list sight type keys cs)
  each_taken keys [] h = refl
  each_taken keys (c ∷ cs) h =
      ap (in_turn one_name keys) (sym (keys-append (c ∷ []) cs))
      ∙ turned-append keys (keys_of sight type (c ∷ [])) (keys_of sight type cs)
      ∙ ap (λ o. o >>= λ z. in_turn one_name z (keys_of sight type cs)) (one_taken keys c (kept_left _ _ h))
      ∙ each_taken (with_choice sight type keys c) cs (kept_right _ _ h)

  -- others is no choice
  others_none : (k : ObjectType) (at : ℕ) → are.choice sight k (t.otherwise at) ≡ None
  unfolding typed_choice
  others_none Integers at = refl
  others_none k at = refl

  alternative_taken : (keys : List Name) (l : Bool) (cs : List t.Choice) → IsKept (told.alternative_in_place sight type keys l cs)
      → in_turn one_name keys (keys_of sight type cs) ≡ Some (with_list sight type keys cs)
  alternative_taken keys l [] h = refl
  alternative_taken keys l (t.otherwise at ∷ []) h = rw (others_none type at) (ap Some (sym (append-nil keys)))
  alternative_taken keys l (t.otherwise at ∷ d ∷ ds) h = each_taken keys (t.otherwise at ∷ d ∷ ds) h
  alternative_taken keys l (t.chosen x ∷ cs) h = each_taken keys (t.chosen x ∷ cs) h
  alternative_taken keys l (t.chosen_range x d y ∷ cs) h = each_taken keys (t.chosen_range x d y ∷ cs) h

  all_taken : (keys : List Name) (lists : List (List t.Choice)) → IsKept (told.in_place sight type keys lists)
      → in_turn one_name keys (keys_of sight type (flat_map (λ cs. cs) lists)) ≡ Some (with_lists sight type keys lists)
  all_taken keys [] h = refl
  all_taken keys (cs ∷ rest) h =
      ap (in_turn one_name keys) (sym (keys-append cs (flat_map (λ cs. cs) rest)))
      ∙ turned-append keys (keys_of sight type cs) (keys_of sight type (flat_map (λ cs. cs) rest))
      ∙ ap (λ o. o >>= λ z. in_turn one_name z (keys_of sight type (flat_map (λ cs. cs) rest))) (alternative_taken keys (is_empty rest) cs (kept_left _ _ h))
      ∙ all_taken (with_list sight type keys cs) rest (kept_right _ _ h)

  pub distinct_keys : (lists : List (List t.Choice)) → IsKept (told.in_place sight type [] lists) → are_distinct (keys_of sight type (flat_map (λ cs. cs) lists)) ≡ true
  distinct_keys lists h =
      let ks = keys_of sight type (flat_map (λ cs. cs) lists) in
      (there (are_distinct ks) ks (with_lists sight type [] lists) (sym (names.once ks) ∙ all_taken [] lists h)).0

-- ---- the last of several

last_next : (bs : List (Bor (List Choice))) (i : ℕ) → i < length bs → (suc i == length bs) ≡ is_empty (all_lists (drop (suc i) bs))
last_next [] i lt = absurd (omega (arith, lt))
last_next (b ∷ bs) zero lt = go bs
  where
    go : (bs : List (Bor (List Choice))) → (1 == suc (length bs)) ≡ is_empty (all_lists bs)
    go [] = refl
    go (c ∷ bs) = ne_eqb 1 (suc (suc (length bs))) (λ e. omega (arith, e))
last_next (b ∷ bs) (suc i) lt = eqb-suc-suc (suc i) (length bs) ∙ last_next bs i (omega (arith, lt))

pub last_is : (bs : List (Bor (List Choice))) (i : ℕ) → i < length bs → (i + 1 == length bs) ≡ is_empty (all_lists (drop (i + 1) bs))
last_is bs i lt =
    let e : suc i ≡ i + 1 = omega arith in
    ap (λ k. k == length bs) (sym e) ∙ last_next bs i lt ∙ ap (λ k. is_empty (all_lists (drop k bs))) e
