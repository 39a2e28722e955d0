use Rattle.std.proofs.Common.{◌≡◌, ℕ, All, map, take}
use Rattle.std.specs.List.Sorted.{IsStrictlyIncreasing}
use Rattle.rtl_body_facts.specs.Paths.{to_net}
use Rattle.rtl_latches.specs.declared.parts.Part.{Part}
use Rattle.rtl_latches.specs.Parts.{told, told_of, of_branch, of_alternative}
use Rattle.rtl_latches.proofs.gathering.+gathering.Given as goal

abbrev pub invariant-gather-loop-statement : goal.invariant-gather-loop-statement
invariant-gather-loop-statement l = (n : ℕ) → told n l.part ≡ told_of (to_net l.drives n) (take l.statement-index l.statements)

abbrev pub invariant-gather_branches-loop-branch : goal.invariant-gather_branches-loop-branch
invariant-gather_branches-loop-branch l = record {
  rise : All (λ (p : Part). IsStrictlyIncreasing p.assigned.items) l.parts.items;
  told : (n : ℕ) → map (told n) l.parts.items ≡ map (of_branch l.drives n) (take l.branch-index l.branches);
}

abbrev pub invariant-gather_alternatives-loop-alternative : goal.invariant-gather_alternatives-loop-alternative
invariant-gather_alternatives-loop-alternative l = record {
  rise : All (λ (p : Part). IsStrictlyIncreasing p.assigned.items) l.parts.items;
  told : (n : ℕ) → map (told n) l.parts.items ≡ map (of_alternative l.drives n) (take l.alternative-index l.alternatives);
}
