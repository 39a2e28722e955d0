-- Concurrent statements one after another, of which assertions are dropped.
use Rattle.std.proofs.Common.{◌≡◌, ℕ, ◌+◌, ◌<◌, ◌≤◌, List, [], ◌∷◌, ◌++◌, length, get_or, drop, map, Option, Some, None, refl, ap, sym, ◌∙◌, append_assoc, append-nil}
use Rattle.std.specs.Prelude.{option_map}
use Rattle.std.proofs.lemmas.List.{drop_all}
use Rattle.vhdl_tree.specs.Tree as t
use Rattle.vhdl_tree.specs.Tree.{Ident}
use Rattle.vhdl_tree.specs.View.{concurrent_view}
use Rattle.vhdl_tree.specs.declared.concurrent.Concurrent.{Concurrent}
use Rattle.vhdl_names_rules.specs.units.Units as u
use Rattle.vhdl_names_rules.specs.Rules.{◌>>=◌}
use Rattle.vhdl_names_rules.specs.Visibility.{Sight}
use Rattle.vhdl_names_units.proofs.Behind.{next}
use Rattle.vhdl_names_expressions.proofs.Each.{behind}
use Rattle.vhdl_names.specs.steps.Concurrents.{with_any, kept, all}

-- of nothing nothing is seen
pub no_view : {A B : Type 0} (view : A → B) (o : Option A) → ((x : A) → o ≡ Some x → ⊥) → option_map view o ≡ None
no_view view None nothing = refl
no_view view (Some x) nothing = absurd (nothing x refl)

-- the one that is kept, if there is one
abbrev pub list_of : Option u.Concurrent → List u.Concurrent
list_of None = []
list_of (Some x) = x ∷ []

module _ (f : Sight → Ident → t.Instance → Option u.Instance) (sight : Sight) (cs : List Concurrent) where
  abbrev pub left : ℕ → Option (List u.Concurrent)
  left i = all f sight (map concurrent_view (drop i cs))

  module _ (i : ℕ) (c : Concurrent) (lt : i < length cs) (is : c ≡ get_or cs i c) (whole : Option (List u.Concurrent)) (done : List u.Concurrent) (h : whole ≡ behind done (left i)) where
    abbrev more : Option (Option u.Concurrent) → Option (List u.Concurrent)
    more o = o >>= λ x. left (i + 1) >>= λ xs. Some (with_any x xs)

    by_one : (o : Option (Option u.Concurrent)) → kept f sight (concurrent_view c) ≡ o → whole ≡ behind done (more o)
    by_one o e = h ∙ ap (λ l. behind done (all f sight (map concurrent_view l))) (next cs i c lt is) ∙ ap (λ o. behind done (more o)) e

    pub one_fails : kept f sight (concurrent_view c) ≡ None → whole ≡ None
    one_fails e = by_one None e

    added : (x : Option u.Concurrent) (o : Option (List u.Concurrent)) → behind done (o >>= λ xs. Some (with_any x xs)) ≡ behind (done ++ list_of x) o
    added x None = refl
    added None (Some xs) = ap (λ d. Some (d ++ xs)) (sym (append-nil done))
    added (Some x) (Some xs) = ap Some (sym (append_assoc done (x ∷ []) xs))

    pub one_goes : (x : Option u.Concurrent) → kept f sight (concurrent_view c) ≡ Some x → (new : List u.Concurrent) → new ≡ done ++ list_of x → whole ≡ behind new (left (i + 1))
    one_goes x e new g = by_one (Some x) e ∙ added x (left (i + 1)) ∙ ap (λ d. behind d (left (i + 1))) (sym g)

  pub none_left : (i : ℕ) → length cs ≤ i → (whole : Option (List u.Concurrent)) (done : List u.Concurrent) → whole ≡ behind done (left i) → whole ≡ Some done
  none_left i le whole done h = h ∙ ap (λ l. behind done (all f sight (map concurrent_view l))) (drop_all i cs le) ∙ ap Some (append-nil done)
