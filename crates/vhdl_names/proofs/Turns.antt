-- Things one after another, where one of them is refused.
use Rattle.std.proofs.Common.{◌≡◌, ℕ, ◌+◌, ◌<◌, List, map, length, get_or, drop, Option, None, ap, ◌∙◌}
use Rattle.vhdl_names_rules.specs.Rules.{◌>>=◌}
use Rattle.vhdl_names_units.specs.Lists.{in_turn}
use Rattle.vhdl_names_units.proofs.Behind.{next}

module _ {A B : Type 0} (view : A → B) (xs : List A) (i : ℕ) (x : A) (lt : i < length xs) (is : x ≡ get_or xs i x) where
  pub none_next : {C : Type 0} (g : C → B → Option C) (done : C) (all : Option C)
      → all ≡ in_turn g done (map view (drop i xs)) → g done (view x) ≡ None → all ≡ None
  none_next {C} g done all inv h =
      inv ∙ ap (λ l. in_turn g done (map view l)) (next xs i x lt is)
      ∙ ap (λ (o : Option C). o >>= λ z. in_turn g z (map view (drop (i + 1) xs))) h
