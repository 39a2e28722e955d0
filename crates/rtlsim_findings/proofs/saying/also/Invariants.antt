use Rattle.std.proofs.Common.{◌≡◌, [], ◌∷◌, ◌++◌, length, map}
use Rattle.rtl_check.specs.Views.{fault_view}
use Rattle.rtlsim_findings.specs.Causes.{is_of}
use Rattle.rtlsim_findings.specs.Once.{each_new}
use Rattle.rtlsim_findings.specs.steps.Pairs.{pair_of}
use Rattle.rtlsim_findings.proofs.saying.also.Given as goal

-- what is listed, and then what is new of the rest, is what is new of all
abbrev pub invariant-loop-left : goal.invariant-loop-left
invariant-loop-left l = record {
  told : l.told.keys ≡ map pair_of (fault_view l.finding.first.now ∷ map (λ f. fault_view f.now) l.faults.items);
  whole : map (λ f. fault_view f.now) l.faults.items
      ++ each_new is_of (fault_view l.finding.first.now ∷ map (λ f. fault_view f.now) l.faults.items) (map (λ f. fault_view f.now) l.left)
      ≡ each_new is_of (fault_view l.finding.first.now ∷ []) (map (λ f. fault_view f.now) l.finding.others.items);
}

abbrev pub decreases-loop-left : goal.decreases-loop-left
decreases-loop-left l = length l.left
