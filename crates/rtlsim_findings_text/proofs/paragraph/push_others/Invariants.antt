use Rattle.std.proofs.Common.{◌≡◌, ◌++◌, length, map}
use Rattle.rtl_check.specs.Views.{fault_view}
use Rattle.rtlsim_findings_text.specs.Explained.{others_text}
use Rattle.rtlsim_findings_text.proofs.paragraph.push_others.Given as goal

-- what was appended, and then what is told of those that are left, are the whole
abbrev pub invariant-loop-left : goal.invariant-loop-left
invariant-loop-left l =
    l.text.items ++ others_text l.site.net.now l.room (map (λ f. fault_view f.now) l.left)
    ≡ l.initial.text.items ++ others_text l.site.net.now 14 (map (λ f. fault_view f.now) l.faults)

abbrev pub decreases-loop-left : goal.decreases-loop-left
decreases-loop-left l = length l.left
