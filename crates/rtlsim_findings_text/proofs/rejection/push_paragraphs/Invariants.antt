use Rattle.std.specs.Prelude.{flat_map, take}
use Rattle.byte_streams.specs.Written.{Goes}
use Rattle.rtlsim_findings.specs.Findings.{finding_view}
use Rattle.rtlsim_findings_text.specs.Explained.{paragraph}
use Rattle.rtlsim_findings_text.specs.Marks.{files_at}
use Rattle.vhdl_slips.specs.Words.{read_of}
use Rattle.rtlsim_findings_text.proofs.rejection.push_paragraphs.Given as goal

-- the paragraphs of the findings before this one went out
abbrev pub invariant-loop-finding : goal.invariant-loop-finding
invariant-loop-finding g l =
    Goes (g.S.Sink.state l.initial.sink) (g.S.Sink.state l.sink)
    (flat_map (λ f. paragraph (files_at l.site) (read_of l.source) l.site.net.now (finding_view f)) (take l.finding-index l.found))
