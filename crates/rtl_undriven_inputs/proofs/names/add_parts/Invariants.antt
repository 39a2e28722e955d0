use Rattle.std.proofs.Common.{◌≡◌, ◌+◌, ◌||◌, length, map, drop}
use Rattle.std.specs.List.{list_any}
use Rattle.rtl_stim_lines.specs.Lines.{Word, as_lines}
use Rattle.rtl_undriven_inputs.specs.Kept.{has_name}
use Rattle.rtl_undriven_inputs.specs.Naming.{line_names}
use Rattle.rtl_undriven_inputs.proofs.names.add_parts.Given as goal

-- the names so far and those in the lines that are left are all
abbrev pub invariant-loop-part : goal.invariant-loop-part
invariant-loop-part l = record {
  count : l.left + l.part-index ≡ length l.parts;
  names : (letters : Word) → (has_name letters l.names || list_any (line_names letters) (as_lines (drop l.part-index (map (λ part. part.now) l.parts))))
      ≡ (has_name letters l.initial.names || list_any (line_names letters) (as_lines (map (λ part. part.now) l.parts)));
}
