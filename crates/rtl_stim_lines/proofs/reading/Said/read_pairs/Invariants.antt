use Rattle.std.proofs.Common.{◌≡◌, ◌+◌, length, map, drop, vec_len, Ok}
use Rattle.rtl_stim_lines.specs.Pairs.{after_pairs, pair_view}
use Rattle.rtl_stim_lines.specs.View.{inputs_view, said_view}
use Rattle.rtl_stim_lines.proofs.reading.Said.read_pairs.Given as goal

-- what all pairs say is what those that are left say, after what is said
abbrev pub invariant-loop-index : goal.invariant-loop-index
invariant-loop-index l =
    (after_pairs (inputs_view l.inputs) 1 (map pair_view l.pairs) (Ok (said_view l.initial.self)) ≡ after_pairs (inputs_view l.inputs) (l.index + 1) (map pair_view (drop l.index l.pairs)) (Ok (said_view l.self)))
    × (vec_len l.self.courses ≡ length (inputs_view l.inputs))
