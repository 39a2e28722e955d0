use Rattle.std.specs.Prelude.{flat_map, take}
use Rattle.byte_streams.specs.Written.{Goes}
use Rattle.rtlsim_findings.specs.Findings.{finding_view}
use Rattle.rtlsim_findings_text.specs.Json.{finding_text}
use Rattle.rtlsim_findings_text.specs.Marks.{files_at}
use Rattle.rtlsim_findings_text.specs.Values.{next_text}
use Rattle.vhdl_slips.specs.Words.{read_of}
use Rattle.rtlsim_findings_text.proofs.verdict.push_others.Given as goal

-- the objects of the findings before this one went out
abbrev pub invariant-loop-finding : goal.invariant-loop-finding
invariant-loop-finding g l =
    Goes (g.W.Sink.state l.initial.out) (g.W.Sink.state l.out)
    (flat_map (λ f. next_text (finding_text (files_at l.site) (read_of l.source) l.site.net.now) (finding_view f)) (take l.finding-index l.found))
