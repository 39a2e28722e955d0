-- What of a list is like nothing before it.
use Rattle.std.specs.Prelude.{Bool, if◌then◌else◌, List, [], ◌∷◌, ◌++◌}
use Rattle.std.specs.List.{list_any}

module _ {A : Type 0} (alike : A → A → Bool) where
  abbrev pub new_one : (before : List A) → A → List A
  new_one before x = if list_any (alike x) before then [] else x ∷ []

  -- of these, those that are like none that is taken, the ones before at first
  abbrev pub each_new : (before : List A) → List A → List A
  each_new before [] = []
  each_new before (x ∷ xs) = new_one before x ++ each_new (before ++ new_one before x) xs
