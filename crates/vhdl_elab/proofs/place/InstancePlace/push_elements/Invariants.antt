use Rattle.std.proofs.Common.{◌≡◌, ◌+◌, ◌++◌, map}
use Rattle.std.specs.Prelude.{vec_len}
use Rattle.std.specs.List.{range_with_len}
use Rattle.vhdl_expand_tree.specs.Views.{object_view}
use Rattle.vhdl_elab.specs.Made.{element_view}
use Rattle.vhdl_elab.specs.Adding.{static_at}
use Rattle.vhdl_elab.proofs.place.InstancePlace.push_elements.Given as goal

abbrev pub invariant-loop-k : goal.invariant-loop-k
invariant-loop-k l = record {
  count : vec_len l.elements ≡ vec_len l.initial.elements + l.k;
  made : map element_view l.elements.items
      ≡ map element_view l.initial.elements.items ++ map (static_at l.self.is_top l.self.nets.now (object_view l.object) l.first) (range_with_len 0 l.k);
}
