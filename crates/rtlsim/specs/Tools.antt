-- What the program does for its words.
use Rattle.std.specs.List.{after_first, slice_split}
use Rattle.std.specs.Prelude.{◌≡◌, ◌==◌, ◌⊎◌, not, filter, length, [], ◌∷◌, Result, Ok, Err, ℕ, List, IsUtf8}
use Rattle.rtlsim_command_faults.specs.Lines.{memory_line, input_line}
use Rattle.rtlsim_commands.specs.Served.{Outputs, ended}
use Rattle.rtlsim_command_faults.specs.declared.status.Status.{Status}
use Rattle.rtlsim_command_faults.specs.declared.status.Status.TheVariants as status
use Rattle.byte_streams.specs.Read.{ReaderState}
use Rattle.byte_streams.specs.Written.{Goes}
use Rattle.rtlsim_command_line.specs.Words.{CallView, Says, SayNothing, call_view}
use Rattle.rtlsim_command_line.specs.declared.call.Call.{Call}
use Rattle.rtlsim.specs.Inputs.{Reading, GivesWhole, held}
use Rattle.rtlsim.specs.Requests.{GivesTexts}
use Rattle.rtlsim.specs.Served.{ServesTexts}
use Rattle.rtlsim.specs.Sinks.{Sinks, IsSilent, outputs}
use Rattle.rtl_stim_lines.specs.Lines.{ends_line}
use Rattle.rtlsim.specs.Lines.{first_line_of}
use Rattle.rtlsim.specs.Unread.{input_text}

-- an input isn't read: this is told, and nothing else
pub record TellsInput (text : List ℕ) (said outcome : Status) (o : Outputs) : Type 0 where
  pub output : o.out_after ≡ o.out
  pub told : Goes o.err o.err_after text
  pub status : outcome ≡ ended said o.out_after o.err_after

-- this is done, and nothing is shown of a run
abbrev pub Silently : (Outputs → Type 0) → Sinks → Type 0
Silently Does s = Does (outputs s) × IsSilent s

-- What was read is served; or why it isn't read is told by this text; or want of memory is.
abbrev pub ReadsInputs : {A Why : Type 0} → (Gives : Result A Why → Type 0)
    → (text_of : Why → List ℕ) → (Served : A → Type 0) → (outcome : Status) → Sinks → Type 0
ReadsInputs {A} {Why} Gives text_of Served outcome s =
    Silently (TellsInput memory_line status.Memory outcome) s
    ⊎ ((why : Why) × Gives (Err why) × Silently (TellsInput (text_of why) status.Failed outcome) s)
    ⊎ ((given : A) × Gives (Ok given) × Served given)

-- What is done for a call. Its files are read first; then its command serves the source.
unfoldable pub Performs : Reading → CallView → (old new : ReaderState) → (outcome : Status) → Sinks → Type 0
Performs Gives call old new outcome s =
    ReadsInputs (GivesTexts Gives call old new) (input_text call.explains)
    (λ texts. ServesTexts call texts outcome s) outcome s

-- the words are refused for this reason, or for want of memory, with a text on the standard error and nothing else
pub record RefusesWords (Reason : Type 0) (outcome : Status) (o : Outputs) : Type 0 where
  pub output : o.out_after ≡ o.out
  pub text : List ℕ
  pub told : Goes o.err o.err_after text
  pub status : (Reason × (outcome ≡ ended status.Words o.out_after o.err_after))
      ⊎ ((outcome ≡ ended status.Memory o.out_after o.err_after) × (text ≡ memory_line))

-- what the program does: it serves a call that its words say, or refuses words that say none
abbrev pub ServesCall : Reading → (words : List (List ℕ))
    → (old new : ReaderState) → (outcome : Status) → Sinks → Type 0
ServesCall Gives words old new outcome s =
    ((call : Call) × Says words call × Performs Gives (call_view call) old new outcome s)
    ⊎ Silently (RefusesWords (SayNothing words) outcome) s

-- ---- words in the first line of the input

-- the words of a line: what stands between its spaces, where something does
abbrev pub words_in : List ℕ → List (List ℕ)
words_in line = filter (λ word. not (length word == 0)) (slice_split (λ byte. byte == 32) line)

-- the same for the words of a line, which have to be text
abbrev pub ServesLine : Reading → (line : List ℕ) → (old new : ReaderState) → (outcome : Status) → Sinks → Type 0
ServesLine Gives line old new outcome s =
    ServesCall Gives (words_in line) old new outcome s ⊎ Silently (RefusesWords (¬ (IsUtf8 line)) outcome) s

-- Without words those of the input's first line count, and the rest of the input is held as the standard input. Until
-- that line is read nothing asks for an explanation.
abbrev pub ServesFirstLine : Reading → (old new : ReaderState) → (outcome : Status) → Sinks → Type 0
ServesFirstLine Gives old new outcome s =
    ReadsInputs (GivesWhole old new) (λ problem. input_line) (λ all. (left : List ℕ)
    × ServesLine Gives (first_line_of all) (held (after_first ends_line all)) (held left) outcome s) outcome s

-- the program for its words; without words, for those of the input's first line
abbrev pub ServesWords : Reading → (words : List (List ℕ))
    → (old new : ReaderState) → (outcome : Status) → Sinks → Type 0
ServesWords Gives [] old new outcome s = ServesFirstLine Gives old new outcome s
ServesWords Gives (word ∷ words) old new outcome s = ServesCall Gives (word ∷ words) old new outcome s
