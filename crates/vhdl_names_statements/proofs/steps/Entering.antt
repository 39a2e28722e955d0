-- A parameter that comes into sight is the innermost.
use Rattle.std.proofs.Common.{◌≡◌, List, [], ◌∷◌, ◌++◌, map, length, reverse, ap, ◌∙◌}
use Rattle.std.proofs.lemmas.List.{map-append, length-map, reverse-append, length-reverse}
use Rattle.vhdl_names_rules.specs.Visibility as visibility
use Rattle.vhdl_names_rules.specs.Visibility.{Name, Meaning, declare}
use Rattle.vhdl_names_sight.specs.declared.meaning.Declared.{Declared}
use Rattle.vhdl_names_sight.specs.Views.{declared_view, entry_of}

-- parameters as a place sees them
abbrev pub seen : List Declared → List visibility.Declared
seen ds = reverse (map declared_view ds)

pub seen_count : (ds : List Declared) → length (seen ds) ≡ length ds
seen_count ds = length-reverse (map declared_view ds) ∙ length-map ds declared_view

-- one more, of this name and meaning
pub entered : (ds new : List Declared) (d : Declared) (n : Name) (m : Meaning) → new ≡ ds ++ d ∷ [] → d.name.items ≡ n
    → ((n : Name) → entry_of n d.entry ≡ declare n m) → seen new ≡ declare n m ∷ seen ds
entered ds new d n m added named means =
    ap seen added
    ∙ ap reverse (map-append declared_view ds (d ∷ []))
    ∙ reverse-append (map declared_view ds) (declared_view d ∷ [])
    ∙ ap (λ x. x ∷ seen ds) (means d.name.items ∙ ap (λ n. declare n m) named)
