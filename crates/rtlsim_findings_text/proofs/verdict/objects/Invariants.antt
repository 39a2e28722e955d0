use Rattle.std.proofs.Common.{◌≡◌, map, take}
use Rattle.rtlsim_findings.specs.Remarked.{remark_view}
use Rattle.rtlsim_findings_text.specs.Json.{remark_text}
use Rattle.rtlsim_findings_text.specs.Marks.{files_at}
use Rattle.rtlsim_findings_text.proofs.verdict.objects.Given as goal

abbrev pub invariant-loop-remark : goal.invariant-loop-remark
invariant-loop-remark l =
    map (λ t. t.items) l.texts.items
    ≡ map (remark_text (files_at l.site) l.site.net.now) (map remark_view (take l.remark-index l.found))
