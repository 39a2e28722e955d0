-- A source that is refused, as an object of JSON on one line: its faults as objects of the form of a verdict's, and
-- no remarks.
use Rattle.std.specs.Prelude.{ℕ, ◌-◌, ◌==◌, if◌then◌else◌, List, [], ◌∷◌, ◌++◌, length, map, take, codes}
use Rattle.fault_rules.specs.Rules.{words_of}
use Rattle.rtlsim_refusals.specs.Explained.{Note, Told}
use Rattle.rtlsim_findings_text.specs.Json.{itself, places_text, spot_text, title_text}
use Rattle.rtlsim_findings_text.specs.Values.{array_text, string_text}

-- the line that stands below the help, without its end; null where none does
abbrev pub note_text : (below : List ℕ) → List ℕ
note_text below = if length below == 0 then codes "null" else string_text (take (length below - 1) below)

abbrev pub noted_text : Note → List ℕ
noted_text n = spot_text n.spot (string_text n.words)

-- a fault of a source is told of no process, net or variable; at its place, and those of its notes
unfoldable pub fault_text : Told → List ℕ
fault_text t =
    title_text (words_of t.rule) ++ codes ",\"message\":"
    ++ string_text t.sentence ++ codes ",\"help\":" ++ string_text t.help
    ++ codes ",\"processes\":[],\"nets\":[],\"variables\":[]"
    ++ places_text (spot_text t.spot (note_text t.below) ∷ map noted_text t.notes)

abbrev pub refused_text : List Told → List ℕ
refused_text faults =
    codes "{\"version\":2,\"verdict\":\"refused\",\"levels\":null,\"bound\":null,\"simulates\":null,\"faults\":"
    ++ array_text itself (map fault_text faults)
    ++ codes ",\"remarks\":[]}\n"
