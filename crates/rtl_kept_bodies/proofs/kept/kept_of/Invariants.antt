use Rattle.std.proofs.Common.{◌≡◌, ◌+◌, ◌++◌, drop}
use Rattle.rtl_kept_bodies.specs.Steps.{kept_count, kept_from}
use Rattle.rtl_kept_bodies.proofs.Listing.{elements_in}
use Rattle.rtl_kept_bodies.proofs.kept.kept_of.Given as goal

-- the variables so far, and those that are left
abbrev pub invariant-loop-number : goal.invariant-loop-number
invariant-loop-number l = record {
  so_far : kept_from 0 l.fn.net l.fn.place l.flags l.variables ≡ l.kept.items ++ kept_from l.element l.net l.place (drop l.number l.flags) (drop l.number l.variables);
  elements : l.element + elements_in (drop l.number l.variables) ≡ elements_in l.variables;
  nets : l.net + kept_count (drop l.number l.flags) (drop l.number l.variables) ≡ l.fn.net + kept_count l.flags l.variables;
  places : l.place + kept_count (drop l.number l.flags) (drop l.number l.variables) ≡ l.fn.place + kept_count l.flags l.variables;
}
