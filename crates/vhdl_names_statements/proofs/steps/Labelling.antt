-- Statements behind their labels, one by one, of which some are dropped.
use Rattle.std.proofs.Common.{◌≡◌, ℕ, suc, ◌<◌, ◌≤◌, Bool, true, false, List, [], ◌∷◌, ◌++◌, map, length, drop, get_or, drop-cons, Option, Some, None, append_assoc, append-nil, refl, sym, ap, ◌∙◌}
use Rattle.std.specs.Prelude.{if◌then◌else◌}
use Rattle.std.proofs.lemmas.List.{drop_all}
use Rattle.vhdl_tree.specs.View as tree
use Rattle.vhdl_tree.specs.declared.sequential.Sequential.{Sequential}
use Rattle.vhdl_names_rules.specs.units.Statements as s
use Rattle.vhdl_names_rules.specs.Rules.{◌>>=◌}
use Rattle.vhdl_names_rules.specs.Visibility.{Sight}
use Rattle.vhdl_names_statements.specs.steps.Sequential.{labelled, all_labelled, is_dropped}

-- what is done, and then the others
abbrev pub behind : List s.Statement → Option (List s.Statement) → Option (List s.Statement)
behind ys None = None
behind ys (Some zs) = Some (ys ++ zs)

pub nothing_before : (o : Option (List s.Statement)) → o ≡ behind [] o
nothing_before None = refl
nothing_before (Some zs) = refl

module _ (sight : Sight) (whole : Option (List s.Statement)) (ys : List s.Statement) (qs : List Sequential) (i : ℕ) where
  abbrev left : ℕ → Option (List s.Statement)
  left k = all_labelled sight (map tree.sequential_view (drop k qs))

  abbrev next : Bool → Option s.Statement → Option (List s.Statement)
  next b o = o >>= λ y. (left (suc i) >>= λ zs. Some (if b then zs else y ∷ zs))

  step : (q : Sequential) → whole ≡ behind ys (left i) → i < length qs → q ≡ get_or qs i q →
      whole ≡ behind ys (next (is_dropped (tree.sequential_view q).statement) (labelled sight (tree.sequential_view q)))
  step q h lt is =
      h ∙ ap (λ l. behind ys (all_labelled sight (map tree.sequential_view l))) (drop-cons qs i q lt)
      ∙ ap (λ k. behind ys (next (is_dropped (tree.sequential_view k).statement) (labelled sight (tree.sequential_view k)))) (sym is)

  pub labelled_fails : (q : Sequential) → whole ≡ behind ys (left i) → i < length qs → q ≡ get_or qs i q → labelled sight (tree.sequential_view q) ≡ None → whole ≡ None
  labelled_fails q h lt is n = step q h lt is ∙ ap (λ o. behind ys (next (is_dropped (tree.sequential_view q).statement) o)) n

  -- one that is dropped leaves what is done as it is
  pub labelled_dropped : (q : Sequential) (y : s.Statement) → whole ≡ behind ys (left i) → i < length qs → q ≡ get_or qs i q →
      labelled sight (tree.sequential_view q) ≡ Some y → is_dropped (tree.sequential_view q).statement ≡ true → whole ≡ behind ys (left (suc i))
  labelled_dropped q y h lt is given b =
      step q h lt is ∙ ap (λ o. behind ys (next (is_dropped (tree.sequential_view q).statement) o)) given ∙ ap (λ b. behind ys (next b (Some y))) b ∙ go (left (suc i))
    where
      go : (o : Option (List s.Statement)) → behind ys (o >>= λ zs. Some zs) ≡ behind ys o
      go None = refl
      go (Some zs) = refl

  -- any other one stands behind it
  pub labelled_added : (q : Sequential) (y : s.Statement) → whole ≡ behind ys (left i) → i < length qs → q ≡ get_or qs i q →
      labelled sight (tree.sequential_view q) ≡ Some y → is_dropped (tree.sequential_view q).statement ≡ false → whole ≡ behind (ys ++ y ∷ []) (left (suc i))
  labelled_added q y h lt is given b =
      step q h lt is ∙ ap (λ o. behind ys (next (is_dropped (tree.sequential_view q).statement) o)) given ∙ ap (λ b. behind ys (next b (Some y))) b ∙ go (left (suc i))
    where
      go : (o : Option (List s.Statement)) → behind ys (o >>= λ zs. Some (y ∷ zs)) ≡ behind (ys ++ y ∷ []) o
      go None = refl
      go (Some zs) = ap Some (sym (append_assoc ys (y ∷ []) zs))

  pub labelled_ends : whole ≡ behind ys (left i) → length qs ≤ i → whole ≡ Some ys
  labelled_ends h le = h ∙ ap (λ l. behind ys (all_labelled sight (map tree.sequential_view l))) (drop_all i qs le) ∙ ap Some (append-nil ys)
