use Rattle.std.proofs.Common.{◌≡◌, map, take}
use Rattle.vhdl_elab_rules.specs.Wiring.{defaults_of}
use Rattle.vhdl_expand_tree.specs.Views.{object_view}
use Rattle.vhdl_connect.proofs.nets.defaults_of.Given as goal

-- the defaults of the objects so far
abbrev pub invariant-loop-object : goal.invariant-loop-object
invariant-loop-object l = l.defaults.items ≡ defaults_of (map object_view (take l.object-index l.objects))
