use Rattle.std.proofs.Common.{◌≡◌, ◌+◌, ◌++◌, true, drop, map}
use Rattle.std.specs.Prelude.{slice_index_or}
use Rattle.rtl_net.specs.Nets.{variable_view}
use Rattle.rtl_kept_bodies.specs.Rules.{keeps_each}
use Rattle.rtl_kept_bodies.proofs.Listing.{elements_in}
use Rattle.rtl_kept_bodies.proofs.kept.flags_of.Given as goal

-- the flags so far, and those of the variables that are left
abbrev pub invariant-loop-variable : goal.invariant-loop-variable
invariant-loop-variable l = record {
  so_far : keeps_each (λ e. slice_index_or l.marks e true) 0 (map variable_view l.variables)
      ≡ l.flags.items ++ keeps_each (λ e. slice_index_or l.marks e true) l.element (map variable_view (drop l.variable-index l.variables));
  below : l.element + elements_in (drop l.variable-index l.variables) ≡ elements_in l.variables;
}
