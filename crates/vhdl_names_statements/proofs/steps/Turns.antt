-- Lists that are made one element after another, before the first and behind the last.
use Rattle.std.proofs.Common.{◌≡◌, ℕ, ◌≤◌, List, [], map, length, drop, Option, Some, ap, sym, ◌∙◌}
use Rattle.std.proofs.lemmas.List.{at_drop_all}
use Rattle.vhdl_names_rules.specs.Rules.{each}
use Rattle.vhdl_names_units.specs.Lists.{in_turn, one_more}
use Rattle.vhdl_names_units.proofs.Lists.{each_in_turn}

module _ {A B C : Type 0} (view : A → B) (xs : List A) (g : B → Option C) (done : List C) where
  pub none_done : done ≡ [] → each g (map view xs) ≡ in_turn (one_more g) done (map view xs)
  none_done none = each_in_turn g (map view xs) ∙ ap (λ z. in_turn (one_more g) z (map view xs)) (sym none)

  pub all_done : (i : ℕ) → length xs ≤ i → each g (map view xs) ≡ in_turn (one_more g) done (map view (drop i xs)) → each g (map view xs) ≡ Some done
  all_done i past inv = inv ∙ at_drop_all (λ l. in_turn (one_more g) done (map view l)) xs i past
