-- The labels of an entity's assertions.
use Rattle.std.specs.Prelude.{List, filter_map, Option, option_map}
use Rattle.vhdl_tree.specs.Tree as t
use Rattle.vhdl_tree.specs.Tree.{Ident}
use Rattle.vhdl_names_rules.specs.Rules.{all_of}
use Rattle.vhdl_names_rules.specs.Visibility.{Name}

abbrev pub names_in : List t.Assertion → List Name
names_in as' = filter_map (λ (a : t.Assertion). option_map (λ (l : Ident). l.text) a.label) as'

abbrev pub labels_in : List t.Assertion → List Ident
labels_in as' = filter_map (λ (a : t.Assertion). a.label) as'

abbrev pub labels_of : Option (List t.Assertion) → List Ident
labels_of s = labels_in (all_of s)
