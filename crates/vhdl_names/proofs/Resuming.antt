-- The signals of a sensitivity list, one by one.
use Rattle.std.proofs.Common.{◌≡◌, List, [], ◌∷◌, map, Option, Some, None, refl, ap, ◌∙◌}
use Rattle.std.specs.Prelude.{option_map}
use Rattle.vhdl_tree.specs.Tree as t
use Rattle.vhdl_names_rules.specs.units.Units as u
use Rattle.vhdl_names_rules.specs.Rules.{◌>>=◌, each}
use Rattle.vhdl_names_rules.specs.Visibility.{Sight}
use Rattle.vhdl_names_rules.specs.Statements.{SignalName, signal}
use Rattle.vhdl_names.specs.steps.Processes.{place_of}

places : (sight : Sight) (ns : List t.Name) → option_map (map (λ (x : SignalName). x.place)) (each (signal sight) ns) ≡ each (place_of sight) ns
places sight [] = refl
places sight (n ∷ ns) = go (signal sight n) (each (signal sight) ns) ∙ ap (λ o. place_of sight n >>= λ y. o >>= λ ys. Some (y ∷ ys)) (places sight ns)
  where
    go : (o : Option SignalName) (p : Option (List SignalName))
        → option_map (map (λ (x : SignalName). x.place)) (o >>= λ y. p >>= λ ys. Some (y ∷ ys))
        ≡ ((o >>= λ x. Some x.place) >>= λ y. option_map (map (λ (x : SignalName). x.place)) p >>= λ ys. Some (y ∷ ys))
    go None p = refl
    go (Some x) None = refl
    go (Some x) (Some xs) = refl

pub listed : (sight : Sight) (ns : List t.Name) → option_map (λ xs. u.listed (map (λ (x : SignalName). x.place) xs)) (each (signal sight) ns) ≡ option_map u.listed (each (place_of sight) ns)
listed sight ns = go (each (signal sight) ns) ∙ ap (option_map u.listed) (places sight ns)
  where
    go : (p : Option (List SignalName)) → option_map (λ xs. u.listed (map (λ (x : SignalName). x.place) xs)) p
        ≡ option_map u.listed (option_map (map (λ (x : SignalName). x.place)) p)
    go None = refl
    go (Some xs) = refl
