use Rattle.std.proofs.Common.{◌≡◌, ◌++◌, map, take}
use Rattle.std.specs.Prelude.{flat_map}
use Rattle.rtlsim_findings.specs.Remarked.{remark_view}
use Rattle.rtlsim_findings_text.specs.Marks.{files_at}
use Rattle.rtlsim_findings_text.specs.RemarkText.{line}
use Rattle.rtlsim_findings_text.proofs.showing.push_lines.Given as goal

abbrev pub invariant-loop-remark : goal.invariant-loop-remark
invariant-loop-remark l =
    l.text.items
    ≡ l.initial.text.items ++ flat_map (line (files_at l.site) l.site.net.now) (map remark_view (take l.remark-index l.found))
