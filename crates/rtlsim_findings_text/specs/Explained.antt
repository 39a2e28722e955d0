-- What is written of a rejection: a paragraph for each finding, and a line about what simulates the netlist all
-- the same.
use Rattle.std.specs.Prelude.{ℕ, ◌-◌, ◌==◌, Bool, true, false, if◌then◌else◌, List, [], ◌∷◌, ◌++◌, length, take, drop, flat_map, Some, codes, decimal}
use Rattle.std.specs.List.{list_any}
use Rattle.rtl_check.specs.Views.{fault_view}
use Rattle.rtl_check.specs.declared.fault.CheckFault.{CheckFault}
use Rattle.rtl_model.specs.simulation.Accepted.{Fault}
use Rattle.rtl_net.specs.Nets.{NetlistView}
use Rattle.fault_rules.specs.Rules.{Text, words_of}
use Rattle.fault_rules.specs.declared.words.Words.{Words}
use Rattle.fault_rules.specs.declared.report.Subject.{Subject}
use Rattle.fault_rules.specs.declared.report.Subject.TheVariants.{Element}
use Rattle.rtlsim_refusals.specs.Explained.{help_line}
use Rattle.vhdl_source_files.specs.Files.{FileView}
use Rattle.rtlsim_findings.specs.Findings.{FindingView, findings}
use Rattle.rtlsim_findings.specs.Sayings.{message, culprits, another, also, words_in}
use Rattle.rtlsim_listing.specs.CheckText.{title_text}
use Rattle.rtlsim_listing.specs.Reports.{report_of}
use Rattle.rtlsim_notes.specs.Notes.{NoteView, notes}
use Rattle.vhdl_slips.specs.Words.{Read, with_tokens}
use Rattle.rtlsim_findings_text.specs.Placed.{place_text, shown_text}

-- what is said of its rule
abbrev pub rule_words : FindingView → Words Text
rule_words f = words_of (report_of f.first).rule

-- what a designer does about it
abbrev pub help_for : FindingView → List ℕ
help_for f = (words_in f).help.now

-- the place, what is found, and the line of the place
unfoldable pub told_text : List FileView → NetlistView → FindingView → List ℕ
told_text files net f =
    place_text files f.cause.first ++ title_text (rule_words f) ++ codes ": "
    ++ message net f ++ codes "\n" ++ shown_text files f.cause.first

-- the same of a note
unfoldable pub noted : List FileView → NoteView → List ℕ
noted files note =
    place_text files (Some note.at) ++ codes "note: " ++ note.text ++ codes "\n" ++ shown_text files (Some note.at)

-- so many of these processes are named behind a comma; of the others it's told how many there are
abbrev pub others_text : NetlistView → (room : ℕ) → List Fault → List ℕ
others_text net room [] = []
others_text net room (fault ∷ faults) =
    if room == 0 then codes " and " ++ decimal (length (fault ∷ faults)) ++ codes " more"
    else another (culprits net fault) ++ others_text net (room - 1) faults

-- the processes of the other instances that have it: 15 at most
unfoldable pub also_text : NetlistView → List Fault → List ℕ
also_text net [] = []
also_text net (fault ∷ faults) = codes "also in " ++ culprits net fault ++ others_text net 14 faults ++ codes "\n"

-- `source` is the text of the files with its tokens
unfoldable pub paragraph : List FileView → (source : Read) → NetlistView → FindingView → List ℕ
paragraph files source net f =
    told_text files net f ++ flat_map (noted files) (notes source net f)
    ++ also_text net (also f) ++ help_line (help_for f)

-- ---- the end

abbrev pub is_element : Subject → Bool
is_element (Element process variable place) = true
is_element _ = false

abbrev pub any_stored : List CheckFault → Bool
any_stored faults = list_any (λ fault. is_element (report_of (fault_view fault)).subject) faults

-- where no variable keeps its value, the simulation cycle itself runs what is rejected
abbrev pub ending : List CheckFault → List ℕ
ending faults =
    if any_stored faults then [] else help_line (codes "run --event simulates it, without the promises of run")

-- the text alone
abbrev pub without_tokens : Read → Read
without_tokens source = with_tokens source.text []

-- places are looked for among the tokens for the first 20
abbrev pub paragraphs : List FileView → (source : Read) → NetlistView → List FindingView → List ℕ
paragraphs files source net found =
    flat_map (paragraph files source net) (take 20 found)
    ++ flat_map (paragraph files (without_tokens source) net) (drop 20 found)

abbrev pub rejection_explained : List FileView → (source : Read) → NetlistView → List CheckFault → List ℕ
rejection_explained files source net faults = paragraphs files source net (findings net faults) ++ ending faults
