-- The names that lines have, as the code keeps them: in small letters, each once.
use Rattle.std.specs.Prelude.{◌≡◌, ℕ, Bool, List, bytes_eq, Vec}
use Rattle.std.specs.Global.{Global}
use Rattle.std.specs.List.{list_any}
use Rattle.indexmap.specs.IndexSet.{IndexSet}
use Rattle.rtl_stim_lines.specs.Lines.{Word, lines_of}
use Rattle.rtl_undriven_inputs.specs.Naming.{line_names}

abbrev pub has_name : {S : Type 0} → (letters : Word) → IndexSet (Vec ℕ Global) S → Bool
has_name letters names = list_any (λ (name : Vec ℕ Global). bytes_eq letters name.items) names.keys

-- those of a text
abbrev pub AreNames : {S : Type 0} → (text : List ℕ) → IndexSet (Vec ℕ Global) S → Type 0
AreNames text names = (letters : Word) → has_name letters names ≡ list_any (line_names letters) (lines_of text)
