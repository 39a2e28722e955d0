use Rattle.std.proofs.Common.{◌≡◌, ◌+◌, ◌≤◌, map, drop}
use Rattle.std.specs.Prelude.{vec_len}
use Rattle.vhdl_expand_tree.specs.Views.{object_view}
use Rattle.vhdl_elab.specs.declared.made.Made.{Made}
use Rattle.vhdl_elab.specs.Adding.{Declares, elements_count}
use Rattle.vhdl_elab.proofs.made.Made.objects.Given as goal

abbrev pub invariant-loop-i : goal.invariant-loop-i
invariant-loop-i l = record {
  within : l.first ≤ vec_len l.self.elements;
  count : elements_count (map object_view l.initial.objects) ≡ l.first + elements_count (map object_view (drop l.i l.objects));
  -- what the objects that are left add to what is there now, all of them add
  made : (b : Made) → Declares l.place l.first (map object_view (drop l.i l.objects)) l.self b → Declares l.place 0 (map object_view l.initial.objects) l.initial.self b;
}
