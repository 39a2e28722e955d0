use Rattle.std.proofs.Common.{◌≡◌, [], ◌∷◌, ◌++◌, length, map}
use Rattle.std.specs.Prelude.{bytes_eq}
use Rattle.rtl_check.specs.Views.{fault_view}
use Rattle.rtlsim_findings.specs.Once.{each_new}
use Rattle.rtlsim_findings.specs.Sayings.{name}
use Rattle.rtlsim_findings.proofs.naming.new_names.Given as goal

-- what is listed, and then what is new of the rest, is what is new of all
abbrev pub invariant-loop-left : goal.invariant-loop-left
invariant-loop-left l = record {
  told : map (λ t. t.items) l.told.keys ≡ l.first ∷ map (λ t. t.items) l.names.items;
  whole : map (λ t. t.items) l.names.items
      ++ each_new bytes_eq (l.first ∷ map (λ t. t.items) l.names.items) (map (name l.net) (map (λ f. fault_view f.now) l.left))
      ≡ each_new bytes_eq (l.first ∷ []) (map (name l.net) (map (λ f. fault_view f.now) l.faults));
}

abbrev pub decreases-loop-left : goal.decreases-loop-left
decreases-loop-left l = length l.left
