-- What contracts see of the operands of a chain.
use Rattle.std.specs.Prelude.{Bool, true, ◌&&◌, List, [], ◌∷◌}
use Rattle.vhdl_names_trees.specs.declared.integer.StaticLink.{StaticLink}
use Rattle.vhdl_names_trees.specs.views.Integers.{static_view}
use Rattle.vhdl_names_rules.specs.Names.{is_static}

-- each operand is static
abbrev pub all_static : List StaticLink → Bool
all_static [] = true
all_static (l ∷ ls) = is_static (static_view l.operand) && all_static ls
