-- The entities that an architecture names, one thing after another.
use Rattle.std.proofs.Common.{◌≡◌, ℕ, suc, ◌+◌, ◌<◌, ◌≤◌, length, drop, get_or, arith, true, false, List, [], ◌∷◌, ◌++◌, map, ap, sym, ◌∙◌}
use Rattle.std.specs.Prelude.{◌||◌, ◌&&◌, nat_eq, flat_map}
use Rattle.std.proofs.Math.Seq.{drop-cons}
use Rattle.std.proofs.lemmas.List.{drop_all}
use Rattle.std.proofs.lemmas.List.Folds.{list_any-append}
use Rattle.vhdl_tree.specs.Tree as t
use Rattle.vhdl_tree.specs.Tree.{Ident}
use Rattle.vhdl_tree.specs.View as view
use Rattle.vhdl_tree.specs.declared.concurrent.Concurrent.{Concurrent}
use Rattle.vhdl_tree.specs.declared.declaration.Declaration.{Declaration}
use Rattle.vhdl_tree.specs.declared.concurrent.Generate.{Generate, out-Generate}
use Rattle.vhdl_tree.specs.declared.concurrent.Concurrent.TheVariants as c
use Rattle.vhdl_tree.proofs.RowsConcurrents.{view_generate}
use Rattle.vhdl_names_rules.specs.problems.Files.{of_declaration, of_concurrent, of_concurrents}
use Rattle.vhdl_names.specs.Views.{is_hidden, one_is_hidden}
use Rattle.vhdl_names.specs.declared.tables.Given.{Given}

abbrev pub declared_in : List Declaration → List Ident
declared_in ds = flat_map of_declaration (map view.declaration_view ds)

abbrev pub named_in : List Concurrent → List Ident
named_in cs = of_concurrents (t.concurrents_of (map view.concurrent_view cs))

module _ (g : Given) (at : ℕ) where
  pub both_parts : (xs ys : List Ident) → one_is_hidden g at (xs ++ ys) ≡ (one_is_hidden g at xs || one_is_hidden g at ys)
  both_parts xs ys = list_any-append (λ (i : Ident). nat_eq i.at at && is_hidden g i.text) xs ys

  -- behind one that isn't, and at one that is
  skipped : (xs ys : List Ident) → one_is_hidden g at xs ≡ false → one_is_hidden g at (xs ++ ys) ≡ one_is_hidden g at ys
  skipped xs ys h = both_parts xs ys ∙ ap (λ b. b || one_is_hidden g at ys) h

  stopped : (xs ys : List Ident) → one_is_hidden g at xs ≡ true → one_is_hidden g at (xs ++ ys) ≡ true
  stopped xs ys h = both_parts xs ys ∙ ap (λ b. b || one_is_hidden g at ys) h

  -- ---- one thing after another, each with the entities that it names

  module _ {A : Type 0} (named_by : A → List Ident) (among : List A → List Ident) (one_first : (x : A) (xs : List A) → among (x ∷ xs) ≡ named_by x ++ among xs) where
    module _ (xs : List A) (i : ℕ) (x : A) (lt : i < length xs) (is : x ≡ get_or xs i x) where
      next_named : among (drop i xs) ≡ named_by x ++ among (drop (i + 1) xs)
      next_named =
          let s : suc i ≡ i + 1 = omega arith in
          ap among (drop-cons xs i x lt) ∙ one_first (get_or xs i x) (drop (suc i) xs)
          ∙ ap (λ y. named_by y ++ among (drop (suc i) xs)) (sym is) ∙ ap (λ k. named_by x ++ among (drop k xs)) s

      pub passed_by : one_is_hidden g at (named_by x) ≡ false → one_is_hidden g at (among (drop i xs)) ≡ one_is_hidden g at (among (drop (i + 1) xs))
      passed_by h = ap (one_is_hidden g at) next_named ∙ skipped (named_by x) (among (drop (i + 1) xs)) h

      pub stopped_at : one_is_hidden g at (named_by x) ≡ true → one_is_hidden g at (among (drop i xs)) ≡ true
      stopped_at h = ap (one_is_hidden g at) next_named ∙ stopped (named_by x) (among (drop (i + 1) xs)) h

    pub none_past : among [] ≡ [] → (xs : List A) (i : ℕ) → length xs ≤ i → one_is_hidden g at (among (drop i xs)) ≡ false
    none_past none xs i le = ap (λ l. one_is_hidden g at (among l)) (drop_all i xs le) ∙ ap (one_is_hidden g at) none

  pub in_generate : (w : Generate) → one_is_hidden g at (of_concurrent (view.concurrent_view (c.Generate w)))
      ≡ one_is_hidden g at (of_concurrents (t.concurrents_of (view.concurrents_view (out-Generate w).statements)))
  in_generate w =
      ap (λ x. one_is_hidden g at (of_concurrent x))
      (view_generate (out-Generate w).label (out-Generate w).at (out-Generate w).scheme (out-Generate w).begin_word (out-Generate w).statements (out-Generate w).end_label)
