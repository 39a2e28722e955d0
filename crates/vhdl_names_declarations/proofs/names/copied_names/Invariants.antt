use Rattle.std.proofs.Common.{◌≡◌, map, take}
use Rattle.vhdl_tree.specs.View.{ident_view, idents_view}
use Rattle.vhdl_names_declarations.proofs.names.copied_names.Given as goal

-- those so far are copied
abbrev pub invariant-loop-name : goal.invariant-loop-name
invariant-loop-name l = idents_view l.done ≡ map ident_view (take l.name-index l.names)
