-- What commands do with what was read.
use Rattle.std.specs.Prelude.{◌≡◌, ◌+◌, ◌||◌, ◌≤◌, ℕ, Bool, true, false, List, [], ◌∷◌, Option, None, is_some, length, map, option_map, unwrap_or, Result}
use Rattle.rtlsim.specs.Requests.{TextsView, set_form}
use Rattle.byte_streams.specs.Stands.{Stand}
use Rattle.rtlsim.specs.declared.job.Job.{Job}
use Rattle.rtlsim.specs.Sinks.{Sinks, IsSilent, ShowsIf, outputs}
use Rattle.rtlsim_commands.specs.Expected.{Comparing}
use Rattle.rtlsim_commands.specs.Listed.{ListsNet, ChecksNetTold, DrawsNetTold}
use Rattle.rtlsim_commands.specs.Machine.{ShowsMachine, ShowsLevels, EvaluatesMachine}
use Rattle.rtlsim_commands.specs.Served.{Outputs, Serves as ServesSource, ServesObject}
use Rattle.rtlsim_commands.specs.Sights.{Sight, machine}
use Rattle.rtlsim_commands.specs.Sights as by
use Rattle.rtlsim_commands.specs.Simulated.{ShowsEvents}
use Rattle.rtlsim_commands.specs.Told.{quiet, verdict, summary, events, levels}
use Rattle.rtlsim_commands.specs.Tracing.{ChoiceView, Tracing, whole, named, none}
use Rattle.rtlsim_commands.specs.Watched.{OfEvents, OfMachine, Watched}
use Rattle.rtlsim_remarked_runs.specs.Remarking.{Remarking, with_remark}
use Rattle.rtlsim_remarked_runs.specs.declared.answering.Remarked.{Remarked}
use Rattle.rtl_net.specs.Nets.{NetlistView, SignalView}
use Rattle.byte_streams.specs.Written.{SinkState}
use Rattle.rtlsim_command_faults.specs.declared.faults.Fault.{Fault}
use Rattle.rtlsim_command_faults.specs.declared.status.Status.{Status}
use Rattle.rtlsim_command_faults.specs.declared.telling.Telling.{Telling}
use Rattle.vhdl_lexer.specs.Cut.{Cuts}
use Rattle.vhdl_lexer.specs.Fault.{greatest_length}
use Rattle.vhdl_lexer.specs.declared.language.Language.{Language}
use Rattle.vhdl_lexer.specs.declared.language.Language.TheVariants.{Profile, Wide}
use Rattle.vhdl_lexer.specs.declared.token.Token.{Token}
use Rattle.vhdl_expand_rules.specs.Tops.{Setting}
use Rattle.vhdl_expand_rules.specs.views.Tops.{setting_view}
use Rattle.vhdl_front_rules.specs.Asking.{Asked}
use Rattle.vhdl_slips.specs.Words.{read_of}
use Rattle.vhdl_source_files.specs.Files.{file_view, joined}
use Rattle.rtlsim_command_line.specs.Settings as words
use Rattle.rtlsim_command_line.specs.Words.{CallView}
use Rattle.rtlsim_command_line.specs.declared.call.Order.TheVariants.{Forward, Reverse}
use Rattle.rtlsim_command_line.specs.declared.call.Request.{Request}
use Rattle.rtlsim_command_line.specs.declared.call.Request.TheVariants.{Eval, Net, Check, Dot, Json, Run, Levels}

-- ---- what is asked of the front

abbrev pub setting_of : words.Setting → Setting
setting_of s = record { name = s.name; value = s.value }

abbrev pub language_of : (is_wide : Bool) → Language
language_of true = Wide
language_of false = Profile

-- the top of a call, with what it sets, in a source
abbrev pub asked_of : CallView → (source : List ℕ) → Asked
asked_of call source =
    record {
      language = language_of call.is_wide;
      source = source;
      top = record { name = call.top; generics = map setting_of call.generics };
    }

-- that of a job
abbrev pub asked_in : Job → Asked
asked_in job = record {
  language = job.telling.now.language;
  source = job.source.now;
  top = record { name = job.top.now; generics = map setting_view job.generics.now };
}

-- ---- what is told

-- an explanation or an object is asked for, which tell places, or what is expected is given, which names literals
abbrev pub is_object : Request → Bool
is_object Json = true
is_object _ = false

abbrev pub asks_places : CallView → Bool
asks_places call = call.explains || is_object call.request || is_some call.expected

-- where they are asked for, these are the tokens of a source that isn't too long, if it has any
pub record AreTokens (asked : Bool) (source : List ℕ) (tokens : List Token) : Type 0 where
  pub only : asked ≡ true → length source ≤ greatest_length
      → (other : List Token) → Cuts None 0 source other → other ≡ tokens

-- the commands tell of these files, this stimulus, and explain faults where that is asked for
pub record IsToldOf (call : CallView) (texts : TextsView) (telling : Telling) : Type 0 where
  pub files : map file_view telling.files.now ≡ texts.files
  pub source : telling.source.text.now ≡ joined texts.files
  pub language : telling.language ≡ language_of call.is_wide
  pub tokens : AreTokens (asks_places call) telling.source.text.now telling.source.tokens.now
  pub stimulus : telling.stimulus.now ≡ unwrap_or call.stimulus set_form
  pub text : option_map (λ text. text.now) telling.stimulus_text ≡ option_map (λ name. texts.stimulus) call.stimulus
  pub expected : telling.expected.now ≡ unwrap_or call.expected []
  pub expected_text : option_map (λ text. text.now) telling.expected_text ≡ texts.expected
  pub trace : map (λ name. name.now) telling.trace.now ≡ call.traced
  pub explains : telling.explains ≡ call.explains

-- ---- the trace of a run

-- it shows all, or the signals that these names choose, or nothing
abbrev pub choice_by : (is_untraced : Bool) → (traced : List (List ℕ)) → ChoiceView
choice_by true traced = none
choice_by false [] = whole
choice_by false (name ∷ names) = named (name ∷ names)

abbrev pub choice_of : CallView → ChoiceView
choice_of call = choice_by call.is_untraced call.traced

-- that of a job
abbrev pub choice_in : Job → ChoiceView
choice_in job = choice_by job.is_untraced (map (λ name. name.now) job.traced.now)

-- a picker goes by the order of the run that is asked for: of so many processes the first is next, or the last
abbrev pub GoesBy : {P : Type 0} → Request → (picks : P → (count place : ℕ) → P → Type 0) → Type 0
GoesBy {P} (Run is_event Forward) picks = (old new : P) (count place : ℕ) → picks old count place new → place ≡ 0
GoesBy {P} (Run is_event Reverse) picks =
    (old new : P) (count place : ℕ) → picks old count place new → place + 1 ≡ count
GoesBy _ picks = ⊥

-- what a run does of whose trace this is chosen: it is compared with what is expected if that is given, and ends with a
-- remark on the first integer that is lost
abbrev pub Runs : {A : Type 0} → Telling → ChoiceView → Sight
    → (Shows : (names : List SignalView) → NetlistView → Result A Fault → SinkState → SinkState → Type 0)
    → (expected : Option (List ℕ)) → NetlistView → Result (Remarked A) Fault → (old new : SinkState) → Type 0
Runs telling choice sight Shows expected =
    Remarking sight (Comparing sight (Tracing choice Shows) (read_of telling.source) expected) telling

module _ (telling : Telling) (asked : Asked) (outcome : Status) (o : Outputs) (Holds : List Stand → Type 0)
    (choice : ChoiceView) where
  -- A run under the text of a stimulus. This holds of what is seen of it where it writes all that is chosen. No order
  -- of processes counts.
  abbrev pub ServesMachine : (text : List ℕ) → (expected : Option (List ℕ)) → Type 0
  ServesMachine text expected =
      ServesSource
      (Watched (Runs telling choice (machine text) (ShowsMachine text) expected) (OfMachine text Holds))
      (with_remark summary) telling asked outcome o

  abbrev pub ServesEvents : (text : List ℕ) → (expected : Option (List ℕ)) → Type 0
  ServesEvents text expected =
      ServesSource
      (Watched (Runs telling choice (by.events text) (ShowsEvents text) expected) (OfEvents text Holds))
      (with_remark (events text)) telling asked outcome o

  abbrev pub ServesLevels : (text : List ℕ) → (expected : Option (List ℕ)) → Type 0
  ServesLevels text expected =
      ServesSource
      (Watched (Runs telling choice (machine text) (ShowsLevels text) expected) (OfMachine text Holds))
      (with_remark levels) telling asked outcome o

  -- by events alone where `is_event` says so
  abbrev pub ServesRun : (is_event : Bool) → (text : List ℕ) → (expected : Option (List ℕ)) → Type 0
  ServesRun true text expected = ServesEvents text expected
  ServesRun false text expected = ServesMachine text expected

  -- the command of a request serves the source, with the words that set inputs, the text of the stimulus and that of
  -- what is expected
  abbrev pub ServesBy : Request → (sets : List (List ℕ)) → (text : List ℕ) → (expected : Option (List ℕ)) → Type 0
  ServesBy Eval sets text expected = ServesSource (EvaluatesMachine sets) quiet telling asked outcome o
  ServesBy Net sets text expected = ServesSource ListsNet quiet telling asked outcome o
  ServesBy Check sets text expected = ServesSource (ChecksNetTold telling) verdict telling asked outcome o
  ServesBy Dot sets text expected = ServesSource (DrawsNetTold telling) verdict telling asked outcome o
  ServesBy Json sets text expected = ServesObject telling asked outcome o
  ServesBy (Run is_event order) sets text expected = ServesRun is_event text expected
  ServesBy Levels sets text expected = ServesLevels text expected

-- The command of a call serves the source of the files. Where the call asks for it, it is shown how far a run is, and
-- else nothing.
pub record ServesTexts (call : CallView) (texts : TextsView) (outcome : Status) (s : Sinks) : Type 0 where
  pub telling : Telling
  pub told : IsToldOf call texts telling
  pub serves : ServesBy telling (asked_of call (joined texts.files)) outcome
      (outputs s) (ShowsIf call.shows_progress texts.stimulus s) (choice_of call)
      call.request call.sets texts.stimulus texts.expected
  pub silent : call.shows_progress ≡ false → IsSilent s
