-- Names that stand twice (IEEE 1076-2008, 12.1): the first that one before it has.
use Rattle.std.specs.Prelude.{if◌then◌else◌, List, [], ◌∷◌, ◌++◌}
use Rattle.vhdl_tree.specs.Tree.{Ident}
use Rattle.vhdl_names_rules.specs.declared.fault.NameProblem.TheVariants.{Twice}
use Rattle.vhdl_names_rules.specs.Visibility.{Name, is_among}
use Rattle.vhdl_names_rules.specs.problems.Broken.{Broken, nothing, refused}

-- of identifiers one behind the other, where these names stand already
abbrev pub twice : List Name → List Ident → Broken
twice names [] = nothing
twice names (i ∷ is) = if is_among i.text names then refused Twice i.at else twice (names ++ (i.text ∷ [])) is
