-- The checker's judgement of a netlist, and the remarks on it, as an object of JSON on one line. A finding is an object
-- of its own.
use Rattle.std.specs.Prelude.{ℕ, Bool, true, false, if◌then◌else◌, List, [], ◌∷◌, ◌++◌, map, take, drop, flat_map, Option, Some, None, codes, decimal}
use Rattle.rtl_check.specs.declared.judging.Judgement.{Judgement}
use Rattle.rtl_check.specs.declared.judging.Judgement.TheVariants.{ByProcesses, ByNets, Faulty}
use Rattle.rtl_net.specs.Names.{process_name}
use Rattle.rtl_net.specs.Nets.{NetlistView}
use Rattle.rtl_remarks.specs.Remarks.{remarks_of}
use Rattle.fault_rules.specs.Rules.{Text, words_of}
use Rattle.fault_rules.specs.declared.report.Subject.{Subject}
use Rattle.fault_rules.specs.declared.report.Subject.TheVariants.{Sources, ProcessNet}
use Rattle.fault_rules.specs.declared.words.Words.{Words}
use Rattle.rtlsim_refusals.specs.Places.{position_behind}
use Rattle.rtlsim_refusals.specs.declared.place.Position.{Position}
use Rattle.vhdl_source_files.specs.Files.{FileView, Spot, before, spot_in}
use Rattle.rtlsim_circles.specs.Circles.{nets_round}
use Rattle.rtlsim_findings.specs.Causes.{at_process}
use Rattle.rtlsim_findings.specs.Findings.{FindingView, findings}
use Rattle.rtlsim_findings.specs.Remarked as remarked
use Rattle.rtlsim_findings.specs.Sayings.{message, processes, all_ranges_of}
use Rattle.rtlsim_listing.specs.CheckText.{greatest_level}
use Rattle.rtlsim_listing.specs.Reports.{report_of, circle_of}
use Rattle.rtlsim_notes.specs.Notes.{NoteView, notes}
use Rattle.vhdl_slips.specs.Words.{Read}
use Rattle.rtlsim_findings_text.specs.Explained.{rule_words, help_for, any_stored, is_element, without_tokens}
use Rattle.rtlsim_findings_text.specs.Values.{array_text, items_text, next_text, string_text}

-- ---- places

abbrev pub position_text : Position → List ℕ
position_text p = codes ",\"line\":" ++ decimal p.line ++ codes ",\"column\":" ++ decimal p.column

-- a byte of a file, as editors count lines and columns, and the note that stands there
unfoldable pub spot_text : Spot → (note : List ℕ) → List ℕ
spot_text spot note =
    codes "{\"file\":" ++ string_text spot.file.name
    ++ position_text (position_behind (before spot)) ++ codes ",\"note\":" ++ note ++ codes "}"

abbrev pub placed : List FileView → (at : Option ℕ) → (note : List ℕ) → List (List ℕ)
placed files None note = []
placed files (Some at) note = spot_text (spot_in files at) note ∷ []

abbrev pub itself : List ℕ → List ℕ
itself text = text

-- ---- faults

-- the name of a process; an idle port has none
abbrev pub process_text : NetlistView → Option ℕ → List ℕ
process_text net None = codes "null"
process_text net (Some process) = string_text (process_name net process)

abbrev pub is_net : Subject → Bool
is_net (Sources n first second) = true
is_net (ProcessNet process n) = true
is_net _ = false

-- the nets that all its faults are told of, or those of its circle; and the variables
abbrev pub nets_in : NetlistView → FindingView → List (List ℕ)
nets_in net f =
    if is_net (report_of f.first).subject then all_ranges_of net f else nets_round net (circle_of f.first)

abbrev pub variables_in : NetlistView → FindingView → List (List ℕ)
variables_in net f = if is_element (report_of f.first).subject then all_ranges_of net f else []

abbrev pub noted_text : List FileView → NoteView → List ℕ
noted_text files note = spot_text (spot_in files note.at) (string_text note.text)

-- the place of the first process, and those of the notes
abbrev pub places_of : List FileView → (source : Read) → NetlistView → FindingView → List (List ℕ)
places_of files source net f = placed files f.cause.first (codes "null") ++ map (noted_text files) (notes source net f)

unfoldable pub title_text : Words Text → List ℕ
title_text words =
    codes "{\"layer\":" ++ string_text words.layer.now ++ codes ",\"number\":"
    ++ decimal words.number ++ codes ",\"name\":" ++ string_text words.name.now

unfoldable pub said_text : NetlistView → FindingView → List ℕ
said_text net f =
    codes ",\"message\":" ++ string_text (message net f) ++ codes ",\"help\":" ++ string_text (help_for f)

unfoldable pub named_text : NetlistView → FindingView → List ℕ
named_text net f =
    codes ",\"processes\":" ++ array_text (process_text net) (processes f)
    ++ codes ",\"nets\":" ++ array_text string_text (nets_in net f)
    ++ codes ",\"variables\":" ++ array_text string_text (variables_in net f)

unfoldable pub places_text : List (List ℕ) → List ℕ
places_text places = codes ",\"places\":" ++ array_text itself places ++ codes "}"

unfoldable pub finding_text : List FileView → (source : Read) → NetlistView → FindingView → List ℕ
finding_text files source net f =
    title_text (rule_words f) ++ said_text net f ++ named_text net f ++ places_text (places_of files source net f)

-- ---- remarks

unfoldable pub remark_text : List FileView → NetlistView → remarked.RemarkView → List ℕ
remark_text files net f =
    codes "{\"name\":" ++ string_text (words_of (remarked.report_of f.remark).rule).name.now
    ++ codes ",\"message\":" ++ string_text (remarked.message net f)
    ++ codes ",\"process\":" ++ process_text net (remarked.process_of f.remark)
    ++ codes ",\"nets\":[" ++ string_text f.nets ++ codes "]"
    ++ places_text (placed files (at_process net (remarked.process_of f.remark)) (codes "null"))

-- ---- verdicts

-- the greatest level, the bound on the delta cycles of a moment, what it is judged by where that isn't processes, and
-- the command that simulates the netlist
abbrev pub yes_text : (by_nets : Bool) → (levels bound : ℕ) → List ℕ
yes_text by_nets levels bound =
    codes "{\"version\":2,\"verdict\":\"yes\",\"levels\":" ++ decimal levels
    ++ codes ",\"bound\":" ++ decimal bound
    ++ (if by_nets then codes ",\"by\":\"nets\"" else []) ++ codes ",\"simulates\":\"run\""

-- where no variable keeps its value, the simulation cycle itself runs what is rejected
abbrev pub no_text : (stored : Bool) → List ℕ
no_text stored =
    codes "{\"version\":2,\"verdict\":\"no\",\"levels\":null,\"bound\":null,\"simulates\":"
    ++ (if stored then codes "null" else codes "\"run --event\"")

abbrev pub verdict_text : Judgement → List ℕ
verdict_text (ByProcesses report) = yes_text false (greatest_level report.levels.items) report.bound
verdict_text (ByNets report) = yes_text true (greatest_level report.levels.items) report.bound
verdict_text (Faulty faults) = no_text (any_stored faults.items)

abbrev pub found : NetlistView → Judgement → List FindingView
found net (Faulty faults) = findings net faults.items
found net _ = []

abbrev pub end_text : List FileView → NetlistView → List ℕ
end_text files net =
    codes ",\"remarks\":"
    ++ array_text itself (map (remark_text files net) (remarked.found net (remarks_of net))) ++ codes "}\n"

-- places are looked for among the tokens for the first 20
abbrev pub findings_text : List FileView → (source : Read) → NetlistView → List FindingView → List ℕ
findings_text files source net found =
    items_text (finding_text files source net) (take 20 found)
    ++ flat_map (next_text (finding_text files (without_tokens source) net)) (drop 20 found)

abbrev pub json_text : List FileView → (source : Read) → NetlistView → Judgement → List ℕ
json_text files source net judgement =
    verdict_text judgement ++ codes ",\"faults\":["
    ++ findings_text files source net (found net judgement) ++ codes "]" ++ end_text files net
