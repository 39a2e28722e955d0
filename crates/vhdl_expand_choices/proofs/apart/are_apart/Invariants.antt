use Rattle.std.proofs.Common.{◌≡◌, [], map, take, drop}
use Rattle.vhdl_expand_rules.specs.Statements.{are_apart}
use Rattle.vhdl_expand_choices.specs.Views.{chosen_span, spanned_view}
use Rattle.vhdl_expand_choices.proofs.Greatest.{Reach}
use Rattle.vhdl_expand_choices.proofs.apart.are_apart.Given as goal

-- those that are left behind those so far, which the greatest number so far bounds
abbrev pub invariant-loop-place : goal.invariant-loop-place
invariant-loop-place l = record {
  rest : are_apart [] (map spanned_view l.spans) ≡ are_apart (map chosen_span (take l.place l.spans)) (map spanned_view (drop l.place l.spans));
  reach : Reach l.greatest (map chosen_span (take l.place l.spans));
}
