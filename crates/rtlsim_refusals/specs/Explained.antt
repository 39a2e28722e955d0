-- What is told of a fault of a source, and the paragraph that is written of that: where it is, what is wrong, the line
-- with a mark under the place, and what to do about it.
use Rattle.std.specs.Prelude.{ℕ, Bool, List, [], if◌then◌else◌, ◌++◌, flat_map, Option, Some, None, option_map, codes, decimal}
use Rattle.std.specs.Option.{option_to_list}
use Rattle.std.specs.Str.{str_eq_ignore_ascii_case}
use Rattle.fault_rules.specs.Rules.{words_of}
use Rattle.fault_rules.specs.declared.source.ElabRule.TheVariants as elaboration
use Rattle.fault_rules.specs.declared.source.SyntaxRule.TheVariants as grammar
use Rattle.fault_rules.specs.declared.source.NameRule.TheVariants as naming
use Rattle.fault_rules.specs.declared.report.Place.{Place}
use Rattle.fault_rules.specs.declared.report.Place.TheVariants.{Byte}
use Rattle.fault_rules.specs.declared.report.Report.{Report}
use Rattle.fault_rules.specs.declared.report.Rule.{Rule}
use Rattle.fault_rules.specs.declared.report.Rule.TheVariants as rule
use Rattle.fault_rules.specs.declared.report.Subject.{Subject}
use Rattle.fault_rules.specs.declared.report.Subject.TheVariants.{Lengths, Nothing}
use Rattle.vhdl_slips.specs.Choices.{missing_line}
use Rattle.vhdl_slips.specs.Listings.{entities_line}
use Rattle.vhdl_slips.specs.Forms.{Said, left_out_form, unexpected_form}
use Rattle.rtlsim_refusals.specs.Places.{begins_line, line_shown, position_behind}
use Rattle.rtlsim_refusals.specs.Refused.{refused, said_of, said_refused}
use Rattle.rtlsim_refusals.specs.SetGenerics.{generics_below, names_entity, no_generic_said}
use Rattle.vhdl_slips.specs.Words.{Read, first_text, from, read_of, subject}
use Rattle.vhdl_slips.specs.Words as words
use Rattle.vhdl_hints.specs.Hinted.{Hint, is_nothing}
use Rattle.vhdl_hints.specs.Hints.{hint_at}
use Rattle.vhdl_hints.specs.Sayings.{help, sentence}
use Rattle.rtlsim_refusals.specs.declared.explaining.Site.{Site}
use Rattle.rtlsim_refusals.specs.declared.place.Position.{Position}
use Rattle.rtlsim_refusals.specs.declared.beside.Noted.{Noted}
use Rattle.rtlsim_refusals.specs.declared.beside.Notes.{Notes}
use Rattle.rtlsim_refusals.specs.declared.told.Told as told
use Rattle.vhdl_source_files.specs.Files.{FileView, Spot, after, before, spot_in, spot_view}
use Rattle.vhdl_lexer.specs.declared.language.Language.{Language}
use Rattle.vhdl_lexer.specs.declared.token.Token.{Token}
use Rattle.vhdl_places.specs.Firsts.{first_declared}
use Rattle.vhdl_places.specs.Drivers.{first_driver, second_driver}
use Rattle.vhdl_parser_rules.specs.Expected.{Expected, expected_of, nothing, perhaps, surely}

-- a byte of a source that has tokens: the language in which that is read, where it stands in its own file, the tokens
-- before it and from it on, and what was expected at the first of these, where the parser refuses it
pub record Seen : Type 0 where
  pub language : Language
  pub spot : Spot
  pub before : Read
  pub from : Read
  pub expected : Expected

-- another place that has to be seen, and what is said there
pub record Note : Type 0 where
  pub spot : Spot
  pub words : List ℕ

abbrev pub note_view : Noted → Note
note_view n = record { spot = spot_view n.place; words = n.words.now }

abbrev pub notes_view : Notes → List Note
notes_view n = option_to_list (option_map note_view n.first) ++ option_to_list (option_map note_view n.second)

-- what is told of a fault
pub record Told : Type 0 where
  pub rule : Rule
  pub spot : Spot
  pub sentence : List ℕ
  pub notes : List Note
  pub help : List ℕ
  -- a line more that helps, or nothing
  pub below : List ℕ

abbrev pub told_view : told.Told → Told
told_view t =
    record {
      rule = t.rule;
      spot = spot_view t.place;
      sentence = t.sentence.items;
      notes = notes_view t.notes;
      help = t.help.now;
      below = t.below.items;
    }

abbrev pub site_of : Site → Seen
site_of site =
    record {
      language = site.language;
      spot = spot_view site.place;
      before = read_of site.before;
      from = read_of site.from;
      expected = expected_of site.expected;
    }

abbrev pub seen_at : Language → List FileView → Read → Expected → (at : ℕ) → Seen
seen_at language files source expected at = record {
  language = language;
  spot = spot_in files at;
  before = words.before at source;
  from = from at source;
  expected = expected;
}

-- ---- the parts of a paragraph

-- "FILE:LINE:COLUMN: "
abbrev pub position_text : (file : List ℕ) → Position → List ℕ
position_text file p = file ++ codes ":" ++ decimal p.line ++ codes ":" ++ decimal p.column ++ codes ": "

-- "LAYER NUMBER NAME: "
abbrev pub title_text : Rule → List ℕ
title_text rule =
    (words_of rule).layer.now ++ codes " " ++ decimal (words_of rule).number
    ++ codes " " ++ (words_of rule).name.now ++ codes ": "

abbrev pub help_line : (help : List ℕ) → List ℕ
help_line help = codes "help: " ++ help ++ codes "\n"

-- the first line up to its sentence, which editors read
abbrev pub head_text : Spot → Rule → List ℕ
head_text spot rule = position_text spot.file.name (position_behind (before spot)) ++ title_text rule

-- the place of a note, the note, and the line of the place
abbrev pub note_text : Note → List ℕ
note_text n =
    position_text n.spot.file.name (position_behind (before n.spot))
    ++ codes "note: " ++ n.words ++ codes "\n" ++ line_shown n.spot

-- behind the sentence: the line of the source, and the mark; the notes; the help
abbrev pub rest_text : Spot → List Note → (help : List ℕ) → List ℕ
rest_text spot notes help = codes "\n" ++ line_shown spot ++ flat_map note_text notes ++ help_line help

-- ---- what is said of a rule

-- two lengths that differ
abbrev pub lengths_text : Rule → (found needed : ℕ) → List ℕ
lengths_text rule found needed = (words_of rule).middle.now ++ decimal found ++ codes " and " ++ decimal needed

abbrev pub reported_of : (from : Read) → Rule → Subject → List ℕ
reported_of from rule Nothing = codes ""
reported_of from rule (Lengths found needed) = subject from ++ lengths_text rule found needed
reported_of from rule _ = subject from

-- the word, and of lengths both; of an entity that isn't there the word says nothing
abbrev pub reported : (from : Read) → Report → List ℕ
reported from r = reported_of from r.rule r.subject

-- the form that isn't read at the token, or the slip of the pen
abbrev pub form_at : Seen → Said
form_at s = unexpected_form s.language s.before.tokens (begins_line s.spot) (first_text s.from)

-- nothing is said but that it can't stand there
abbrev pub is_plain : Said → Bool
is_plain said = str_eq_ignore_ascii_case said.0 (codes "can't stand here")

abbrev pub unexpected_by : (form : Said) → Expected → Said
unexpected_by form (surely said) = said
unexpected_by form (perhaps said) = if is_plain form then said else form
unexpected_by form nothing = form

-- of a token that can't stand there: what was expected for sure; else the form; else what may be expected
abbrev pub unexpected_said : Seen → Said
unexpected_said s = unexpected_by (form_at s) s.expected

-- of what is left out, what is said of the form; of a generic that isn't there, that
abbrev pub said_at : Seen → Rule → Said
said_at s (rule.Syntax grammar.Unexpected) = unexpected_said s
said_at s (rule.Name naming.LeftOut) = left_out_form s.language s.before.tokens (first_text s.from)
said_at s (rule.Elab elaboration.NoGeneric) = no_generic_said (names_entity s.before.tokens)
said_at s rule = said_of rule

-- a choice that is missing, where not each value has one; the entities, where the top is none of them; the generics of
-- the top, where a value is set for none of them
abbrev pub below : Seen → (source : Read) → Rule → List ℕ
below s source (rule.Name naming.NoOthers) = missing_line s.before s.from
below s source (rule.Elab elaboration.NoTop) = entities_line source
below s source (rule.Elab elaboration.NoGeneric) =
    if names_entity s.before.tokens then generics_below s.from source else []
below s source rule = []

-- ---- notes: of a name that is declared or associated a second time the first time; of two sources of a signal of an
-- unresolved type two statements that assign it

abbrev pub note_at : List FileView → (words : List ℕ) → Token → Note
note_at files words t = record { spot = spot_in files t.start; words = words }

abbrev pub notes_of : List FileView → (first second : List ℕ) → (one other : Option Token) → List Note
notes_of files first second one other =
    option_to_list (option_map (note_at files first) one) ++ option_to_list (option_map (note_at files second) other)

abbrev pub notes_at : List FileView → Seen → (source : Read) → Rule → List Note
notes_at files s source (rule.Name naming.Twice) =
    notes_of files (codes "the first of the two") [] (first_declared source (first_text s.from) s.before.tokens) None
notes_at files s source (rule.Elab elaboration.TwoUnresolved) =
    notes_of files (codes "it is assigned here") (codes "it is assigned here too")
    (first_driver s.from.text (first_text s.from) s.before.tokens s.from.tokens)
    (second_driver s.from.text (first_text s.from) s.before.tokens s.from.tokens)
notes_at files s source rule = []

-- ---- what is told

-- of a source without tokens: the word at the byte, and what is said of the rule
abbrev pub refusal_said : Spot → Rule → Said
refusal_said spot rule = said_refused (after spot) rule

abbrev pub refusal_sentence : Spot → Rule → List ℕ
refusal_sentence spot rule = refused (after spot) ++ (refusal_said spot rule).0

abbrev pub refusal_told : Spot → Rule → Told
refusal_told spot rule =
    record {
      rule = rule;
      spot = spot;
      sentence = refusal_sentence spot rule;
      notes = [];
      help = (refusal_said spot rule).1;
      below = [];
    }

-- of a rule that its tokens break: what those around the byte tell of it
abbrev pub hint_of : Seen → (source : Read) → Report → Hint
hint_of s source r = hint_at source s.before.tokens s.from.tokens r.rule r.subject

-- or what is said of the rule, where they tell nothing
abbrev pub usual_sentence : Seen → Report → List ℕ
usual_sentence s r = reported s.from r ++ (said_at s r.rule).0

abbrev pub sentence_of : Seen → (source : Read) → Report → List ℕ
sentence_of s source r =
    if is_nothing (hint_of s source r) then usual_sentence s r else sentence s.from (hint_of s source r)

abbrev pub help_of : Seen → (source : Read) → Report → List ℕ
help_of s source r = help (hint_of s source r) (said_at s r.rule).1

abbrev pub seen_told : List FileView → Seen → (source : Read) → Report → Told
seen_told files s source r = record {
  rule = r.rule;
  spot = s.spot;
  sentence = sentence_of s source r;
  notes = notes_at files s source r.rule;
  help = help_of s source r;
  below = below s source r.rule;
}

-- at the byte of a report; nothing where it has none
abbrev pub refusal_at : List FileView → Rule → Place → Option Told
refusal_at files rule (Byte at) = Some (refusal_told (spot_in files at) rule)
refusal_at files rule _ = None

abbrev pub told_of_refusal : List FileView → Report → Option Told
told_of_refusal files r = refusal_at files r.rule r.place

abbrev pub told_at : Language → List FileView → (source : Read) → Expected → Report → Place → Option Told
told_at language files source expected r (Byte at) =
    Some (seen_told files (seen_at language files source expected at) source r)
told_at language files source expected r _ = None

abbrev pub told_of_source : Language → List FileView → (source : Read) → Expected → Report → Option Told
told_of_source language files source expected r = told_at language files source expected r r.place

-- ---- explanations

abbrev pub paragraph : Told → List ℕ
paragraph t = head_text t.spot t.rule ++ t.sentence ++ rest_text t.spot t.notes t.help ++ t.below

abbrev pub explained : Option Told → List ℕ
explained None = []
explained (Some t) = paragraph t

-- why a source has no tokens
abbrev pub refusal_explained : List FileView → Report → List ℕ
refusal_explained files r = explained (told_of_refusal files r)
