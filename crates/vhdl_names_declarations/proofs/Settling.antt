-- Names of one declaration, which get what they stand for one after another.
use Rattle.std.proofs.Common.{◌≡◌, ℕ, zero, suc, ◌+◌, ◌<◌, ◌≤◌, Bool, List, [], ◌∷◌, ◌++◌, map, length, take, drop, Option, Some, None, Result, Ok, Err, OnOk, Vec, Global, refl, sym, ap, ◌∙◌, append-nil, arith}
use Rattle.std.proofs.lemmas.List.{drop_all, take_all, take-append-drop}
use Rattle.indexmap.specs.Layout.{set_value_at}
use Rattle.vhdl_tree.specs.declared.operator.Direction.{Direction}
use Rattle.vhdl_names_rules.specs.Visibility.{Name, Meaning, Declared, numbered, ranged, global_if}
use Rattle.vhdl_names_rules.specs.Interfaces.{declared_names}
use Rattle.vhdl_names_sight.specs.declared.meaning.Entry.{Entry}
use Rattle.vhdl_names_sight.specs.Views.{entry_of, entry_view}
use Rattle.vhdl_names_declarations.specs.Settled.{range_from, finished}

-- what is said where a thing succeeds is said of what follows from it
pub on_ok : {T E P Q : Type 0} (r : Result T E) → (P → Q) → OnOk r P → OnOk r Q
on_ok (Ok x) f h = f h
on_ok (Err e) f h = h

at_most : {A : Type 0} (n : ℕ) (xs : List A) → length (take n xs) ≤ n
at_most zero xs = omega arith
at_most (suc n) [] = omega arith
at_most (suc n) (x ∷ xs) = let h = at_most n xs in omega (arith, h)

module _ (f : ℕ → Meaning) (direction : Option Direction) (is_global : Bool) where
  abbrev pub standing_names : (number ranges : ℕ) → List Name → List Declared
  standing_names number ranges ns = global_if is_global (ranged direction ranges (numbered f number ns))

  abbrev pub standing : Name → (number ranges : ℕ) → Declared
  standing n number ranges = record { name = n; meaning = f number; range = range_from direction ranges; is_global = is_global }

  pub names_next : (number ranges : ℕ) (n : Name) (ns : List Name) → standing_names number ranges (n ∷ ns) ≡ standing n number ranges ∷ standing_names (suc number) (suc ranges) ns
  names_next number ranges n ns = go direction
    where
      go : (d : Option Direction) → global_if is_global (ranged d ranges (numbered f number (n ∷ ns)))
          ≡ record { name = n; meaning = f number; range = range_from d ranges; is_global = is_global } ∷ global_if is_global (ranged d (suc ranges) (numbered f (suc number) ns))
      go None = refl
      go (Some d) = refl

  pub names_none : (number ranges : ℕ) → standing_names number ranges [] ≡ []
  names_none number ranges = go direction
    where
      go : (d : Option Direction) → global_if is_global (ranged d ranges []) ≡ []
      go None = refl
      go (Some d) = refl

  pub names_stand : (number ranges : ℕ) (ns : List Name) → declared_names (standing_names number ranges ns) ≡ ns
  names_stand number ranges [] = ap declared_names (names_none number ranges)
  names_stand number ranges (n ∷ ns) = ap declared_names (names_next number ranges n ns) ∙ ap (λ l. n ∷ l) (names_stand (suc number) (suc ranges) ns)

  -- those from one place to another
  abbrev pub between : (number ranges first last : ℕ) → List Declared → List Declared
  between number ranges first last ds = take first ds ++ (standing_names number ranges (declared_names (drop first (take last ds))) ++ drop last ds)

  place_more : (number ranges place last : ℕ) (es : List (Vec ℕ Global × Entry)) (e : Entry) → place < length es → place < last → ((n : Name) → entry_of n e ≡ standing n number ranges) →
      between number ranges place last (map entry_view es) ≡ between (suc number) (suc ranges) (suc place) last (map entry_view (set_value_at es place e))
  place_more number ranges place last [] e lt within is = absurd (omega arith)
  place_more number ranges zero zero (x ∷ es) e lt within is = absurd (omega arith)
  place_more number ranges (suc place) zero (x ∷ es) e lt within is = absurd (omega arith)
  place_more number ranges zero (suc last) (x ∷ es) e lt within is =
      let ns = declared_names (take last (map entry_view es)) in
      ap (λ l. l ++ drop last (map entry_view es)) (names_next number ranges x.0.items ns)
      ∙ ap (λ d. d ∷ (standing_names (suc number) (suc ranges) ns ++ drop last (map entry_view es))) (sym (is x.0.items))
  place_more number ranges (suc place) (suc last) (x ∷ es) e lt within is =
      ap (λ ds. entry_view x ∷ ds) (place_more number ranges place last es e (omega (arith, lt)) (omega (arith, within)) is)

  pub settled_more : (number number' ranges ranges' place last : ℕ) (es : List (Vec ℕ Global × Entry)) (e : Entry) → place < length es → place < last → number' ≡ number + 1 → ranges' ≡ ranges + 1 →
      ((n : Name) → entry_of n e ≡ standing n number ranges) →
      between number ranges place last (map entry_view es) ≡ between number' ranges' (place + 1) last (map entry_view (set_value_at es place e))
  settled_more number number' ranges ranges' place last es e lt within k r is =
      let ds = map entry_view (set_value_at es place e) in
      let a : suc number ≡ number' = omega (arith, k) in
      let b : suc ranges ≡ ranges' = omega (arith, r) in
      let p : suc place ≡ place + 1 = omega arith in
      place_more number ranges place last es e lt within is
      ∙ ap (λ n. between n (suc ranges) (suc place) last ds) a
      ∙ ap (λ n. between number' n (suc place) last ds) b
      ∙ ap (λ n. between number' ranges' n last ds) p

  -- where none is left
  pub settled_end : (number ranges place last : ℕ) (ds : List Declared) → place ≡ last → between number ranges place last ds ≡ ds
  settled_end number ranges place last ds all =
      ap (λ n. between number ranges n last ds) all
      ∙ ap (λ l. take last ds ++ (standing_names number ranges (declared_names l) ++ drop last ds)) (drop_all last (take last ds) (at_most last ds))
      ∙ ap (λ l. take last ds ++ (l ++ drop last ds)) (names_none number ranges)
      ∙ take-append-drop last ds

  -- those up to the end of a region
  pub to_the_end : (number ranges first last : ℕ) (ds : List Declared) → length ds ≤ last →
      between number ranges first last ds ≡ take first ds ++ standing_names number ranges (declared_names (drop first ds))
  to_the_end number ranges first last ds le =
      ap (λ l. take first ds ++ (standing_names number ranges (declared_names (drop first l)) ++ drop last ds)) (take_all last ds le)
      ∙ ap (λ l. take first ds ++ (standing_names number ranges (declared_names (drop first ds)) ++ l)) (drop_all last ds le)
      ∙ ap (λ l. take first ds ++ l) (append-nil (standing_names number ranges (declared_names (drop first ds))))

-- one name, which gets what it stands for
abbrev pub finished_by : Entry → (place next : ℕ) → List Declared → List Declared
finished_by e place next ds = take place ds ++ (map (λ n. entry_of n e) (take 1 (declared_names (drop place ds))) ++ drop next ds)

finished_next : (place : ℕ) (es : List (Vec ℕ Global × Entry)) (e : Entry) → place < length es → map entry_view (set_value_at es place e) ≡ finished_by e place (suc place) (map entry_view es)
finished_next place [] e lt = absurd (omega arith)
finished_next zero (x ∷ es) e lt = refl
finished_next (suc place) (x ∷ es) e lt = ap (λ ds. entry_view x ∷ ds) (finished_next place es e (omega (arith, lt)))

pub finished_at : (place : ℕ) (es : List (Vec ℕ Global × Entry)) (e : Entry) → place < length es → map entry_view (set_value_at es place e) ≡ finished e place (map entry_view es)
finished_at place es e lt =
    let next : suc place ≡ place + 1 = omega arith in
    finished_next place es e lt ∙ ap (λ k. finished_by e place k (map entry_view es)) next
