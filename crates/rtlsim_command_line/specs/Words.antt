-- Which words of the command line say which call: the command, and behind it its operands in their order, with its
-- options anywhere between them. `PARTS` is the table of what each command takes.
use Rattle.std.specs.Prelude.{◌≡◌, ℕ, ◌+◌, Bool, true, false, not, ◌&&◌, ◌||◌, ◌==◌, if◌then◌else◌, List, [], ◌∷◌, ◌++◌, Option, Some, None, is_some, option_and_then, option_map, bytes_eq, codes, count_by, drop, map, take, length}
use Rattle.std.specs.Borrow.{Bor}
use Rattle.clap.specs.Lexer.{name_and_value}
use Rattle.rtlsim_command_line.specs.Settings.{Setting, settings_from}
use Rattle.rtlsim_command_line.specs.declared.call.Call.{Call}
use Rattle.rtlsim_command_line.specs.declared.call.Order.{Order}
use Rattle.rtlsim_command_line.specs.declared.call.Order.TheVariants.{Forward, Reverse}
use Rattle.rtlsim_command_line.specs.declared.generics.Setting as code
use Rattle.rtlsim_command_line.specs.declared.reading.Refused.{Refused}
use Rattle.rtlsim_command_line.specs.declared.reading.Refused.TheVariants as refused
use Rattle.rtlsim_command_line.specs.declared.call.Request.{Request}
use Rattle.rtlsim_command_line.specs.declared.call.Request.TheVariants.{Eval, Net, Check, Dot, Json, Run, Levels}
use Rattle.rtlsim_command_line.specs.declared.parsed.Parsed.{Parsed}
use Rattle.rtlsim_command_line.specs.declared.parsed.Use.{Use}
use Rattle.rtlsim_command_line.specs.declared.parts.Form.{Form}
use Rattle.rtlsim_command_line.specs.declared.parts.Form.TheVariants.{Operand, Operands, Flag, Files, Names, Setting as SettingOption}
use Rattle.rtlsim_command_line.specs.declared.parts.Part.{Part}
use Rattle.rtlsim_command_line.specs.declared.parts.TheConstants.{PARTS}
use Rattle.rtlsim_command_line.specs.declared.reading.TheConstants.{BAD_GENERIC, LIST_READ_TWICE, READ_TWICE}

abbrev pub Word : Type 0
Word = List ℕ

abbrev pub text_of : Bor Word → Word
text_of text = text.now

-- a row of the table, whose texts are those of the code
abbrev pub Text : Type 0
Text = record { now : Word }

abbrev pub Row : Type 0
Row = Part Text

abbrev pub row_of : Part (Bor Word) → Row
row_of part =
    record {
      command = record { now = part.command.now };
      form = part.form;
      name = record { now = part.name.now };
      help = record { now = part.help.now };
      without = record { now = part.without.now };
    }

-- ---- options and operands

-- an option that is given, and its value, which is empty where it takes none
abbrev pub Used : Type 0
Used = Word × Word

-- what words give: options and operands, each in order
pub record Givens : Type 0 where
  pub uses : List Used
  pub operands : List Word

abbrev pub nothing : Givens
nothing = record { uses = []; operands = [] }

abbrev pub with_use : Givens → (name value : Word) → Givens
with_use given name value = record given { uses = given.uses ++ (name, value) ∷ [] }

abbrev pub with_operands : Givens → List Word → Givens
with_operands given operands = record given { operands = given.operands ++ operands }

-- a word is an option that begins with `-`, unless it is `-` alone
abbrev pub is_option : Word → Bool
is_option (byte ∷ next ∷ bytes) = byte == 45
is_option _ = false

-- two dashes stand before an option's name
abbrev pub dashes : Word
dashes = codes "--"

abbrev pub begins_with : (sign word : Word) → Bool
begins_with sign word = bytes_eq (take (length sign) word) sign

abbrev pub behind_dashes : Word → Word
behind_dashes word = drop (length dashes) word

-- the name of an option, and the value in its word, of the text behind its dashes
abbrev pub name_of : Word → Word
name_of text = (name_and_value text).0

abbrev pub own_value : Word → Option Word
own_value text = (name_and_value text).1

-- whether an option takes a value; none of operands
abbrev pub takes_value : Form → Option Bool
takes_value Operand = None
takes_value Operands = None
takes_value Flag = Some false
takes_value _ = Some true

-- the same of the option of a name; none where there is no such option
abbrev pub is_valued : List Row → (name : Word) → Option Bool
is_valued [] name = None
is_valued (part ∷ parts) name = if bytes_eq part.name.now name then takes_value part.form else is_valued parts name

-- whether an option may be given again
abbrev pub repeats : Form → Bool
repeats Files = true
repeats Names = true
repeats SettingOption = true
repeats _ = false

-- `-g` is short for the option of a generic, whose value may stand behind it in its word
abbrev pub short : Word
short = codes "-g"

abbrev pub short_value : Word → Option Word
short_value word =
    if begins_with short word && not (bytes_eq word short) then Some (drop (length short) word) else None

-- The value of an option may be any word behind it, but no word with dashes names a signal.
abbrev pub may_be : (name value : Word) → Bool
may_be name value = not (bytes_eq name (codes "trace") && begins_with dashes value)

-- how reading goes on, after what is given
abbrev pub Onward : Type 0
Onward = Givens → Option Givens

-- an option's value stands in its word, or else it is the next word
abbrev pub takes : (valued : Option Bool) → (name : Word) → (own : Option Word)
    → Givens → Onward → (next : Option Givens) → Option Givens
takes None name own given onward next = None
takes (Some false) name None given onward next = onward (with_use given name [])
takes (Some false) name (Some value) given onward next = None
takes (Some true) name (Some value) given onward next = onward (with_use given name value)
takes (Some true) name None given onward next = next

-- What is given once the words are read too, after what was given before. Behind `--` every word is an operand.
module _ (parts : List Row) where
  abbrev mutual
    pub reads : Givens → List Word → Option Givens
    reads given [] = Some given
    reads given (word ∷ words) =
        if bytes_eq word dashes then Some (with_operands given words)
        else (if begins_with dashes word then
        takes (is_valued parts (name_of (behind_dashes word)))
        (name_of (behind_dashes word)) (own_value (behind_dashes word)) given
        (λ g. reads g words) (takes_next given (name_of (behind_dashes word)) words)
        else (if begins_with short word then
        takes (Some true) (codes "generic") (short_value word) given
        (λ g. reads g words) (takes_next given (codes "generic") words)
        else (if is_option word then None
        else reads (with_operands given (word ∷ [])) words)))

    -- the first word is the value of the option of this name, if it may be
    pub takes_next : Givens → (name : Word) → List Word → Option Givens
    takes_next given name [] = None
    takes_next given name (value ∷ words) =
        if may_be name value then reads (with_use given name value) words else None

  -- the same where the first word was an option of this name, and this its own value
  abbrev pub takes_option : (valued : Option Bool) → (name : Word) → (own : Option Word)
      → Givens → List Word → Option Givens
  takes_option valued name own given words =
      takes valued name own given (λ g. reads g words) (takes_next given name words)

-- ---- options that are given

abbrev pub count : List Used → (name : Word) → ℕ
count uses name = count_by (λ used. bytes_eq used.0 name) uses

abbrev pub values : List Used → (name : Word) → List Word
values [] name = []
values (used ∷ uses) name = if bytes_eq used.0 name then used.1 ∷ values uses name else values uses name

-- the first value
abbrev pub value : List Used → (name : Word) → Option Word
value [] name = None
value (used ∷ uses) name = if bytes_eq used.0 name then Some used.1 else value uses name

abbrev pub has : List Used → (name : Word) → Bool
has uses name = is_some (value uses name)

-- an option is one of this command, stands once unless it repeats, and not beside the one that excludes it
abbrev pub may_have : List Used → (command : Word) → Row → Bool
may_have uses command part =
    (length part.command.now == 0 || bytes_eq part.command.now command)
    && ((repeats part.form || count uses part.name.now == 1) && not (has uses part.without.now))

-- so does each that is given
abbrev pub fits : List Used → (command : Word) → List Row → Bool
fits uses command [] = true
fits uses command (part ∷ parts) =
    if has uses part.name.now && not (may_have uses command part) then false else fits uses command parts

-- ---- requests

abbrev pub order_of : (name : Option Word) → Option Order
order_of None = Some Forward
order_of (Some name) =
    if bytes_eq name (codes "forward") then Some Forward
    else (if bytes_eq name (codes "reverse") then Some Reverse else None)

abbrev pub check_of : (dot json : Bool) → Request
check_of true json = Dot
check_of false true = Json
check_of false false = Check

abbrev pub run_of : (levels is_event : Bool) → Option Order → Option Request
run_of true is_event order = Some Levels
run_of false is_event order = option_map (Run is_event) order

-- what a command with these options asks for
abbrev pub request_of : (command : Word) → List Used → Option Request
request_of command uses =
    if bytes_eq command (codes "eval") then Some Eval
    else (if bytes_eq command (codes "net") then Some Net
    else (if bytes_eq command (codes "check") then Some (check_of (has uses (codes "dot")) (has uses (codes "json")))
    else (if bytes_eq command (codes "run")
    then run_of (has uses (codes "levels")) (has uses (codes "event")) (order_of (value uses (codes "order")))
    else None)))

-- the words behind FILE and TOP: those that set inputs, and the stimulus
abbrev pub Parted : Type 0
Parted = List Word × Option Word

abbrev pub run_parted : List Word → Option Parted
run_parted (stimulus ∷ []) = Some ([], Some stimulus)
run_parted _ = None

abbrev pub none_parted : List Word → Option Parted
none_parted [] = Some ([], None)
none_parted _ = None

abbrev pub parted : Request → List Word → Option Parted
parted Eval rest = Some (rest, None)
parted (Run is_event order) rest = run_parted rest
parted Levels rest = run_parted rest
parted _ rest = none_parted rest

-- ---- the standard input

-- how many of these names are its
abbrev pub standard_count : List Word → ℕ
standard_count names = count_by (λ name. bytes_eq name (codes "@")) names

-- the same of a name that may be given
abbrev pub standard_of : Option Word → ℕ
standard_of None = 0
standard_of (Some name) = if bytes_eq name (codes "@") then 1 else 0

-- one of the files beside FILE and STIM may be it, and then no other input
abbrev pub is_read_once : (with : List Word) → (list expected : Option Word) → (operands : List Word) → Bool
is_read_once with list expected operands =
    let beside = standard_count with + standard_of list + standard_of expected in
    beside == 0 || (beside == 1 && standard_count operands == 0)

-- ---- calls

pub record CallView : Type 0 where
  pub request : Request
  pub file : Word
  pub list : Option Word
  pub top : Word
  pub sets : List Word
  pub stimulus : Option Word
  pub with : List Word
  pub explains : Bool
  pub is_wide : Bool
  pub expected : Option Word
  pub shows_progress : Bool
  pub generics : List Setting
  pub traced : List Word
  pub is_untraced : Bool

abbrev pub setting_view : code.Setting → Setting
setting_view s = record { name = s.name.now; value = s.value }

abbrev pub call_view : Call → CallView
call_view call =
    record {
      request = call.request;
      file = call.file.now;
      list = option_map text_of call.list;
      top = call.top.now;
      sets = map text_of call.sets.items;
      stimulus = option_map text_of call.stimulus;
      with = map text_of call.with.items;
      explains = call.explains;
      is_wide = call.is_wide;
      expected = option_map text_of call.expected;
      shows_progress = call.shows_progress;
      generics = map setting_view call.generics.items;
      traced = map text_of call.traced.items;
      is_untraced = call.is_untraced;
    }

-- FILE, which is empty where a list stands for it, TOP, and the words behind them
abbrev pub Named : Type 0
Named = Word × Word × List Word

abbrev pub named : (list : Option Word) → (operands : List Word) → Option Named
named None (file ∷ top ∷ rest) = Some (file, top, rest)
named (Some list) (top ∷ rest) = Some ([], top, rest)
named _ _ = None

-- the call of these, unless a generic is set wrongly or the standard input would be read twice
abbrev pub call_of : Givens → Named → Request → Parted → Option CallView
call_of given n request apart =
    option_and_then (λ settings.
    if is_read_once (values given.uses (codes "with")) (value given.uses (codes "files"))
    (value given.uses (codes "expect")) given.operands then
    Some (record {
      request = request;
      file = n.0;
      list = value given.uses (codes "files");
      top = n.1;
      sets = apart.0;
      stimulus = apart.1;
      with = values given.uses (codes "with");
      explains = has given.uses (codes "explain");
      is_wide = has given.uses (codes "wide");
      expected = value given.uses (codes "expect");
      shows_progress = has given.uses (codes "progress");
      generics = settings;
      traced = values given.uses (codes "trace");
      is_untraced = has given.uses (codes "no-trace");
    })
    else None)
    (settings_from [] (values given.uses (codes "generic")))

abbrev pub call_from : (command : Word) → Givens → Named → Option CallView
call_from command given n =
    option_and_then (λ request. option_and_then (call_of given n request) (parted request n.2))
    (request_of command given.uses)

-- the call of a command, with what is given behind it
abbrev pub call_with : (command : Word) → Givens → Option CallView
call_with command given =
    option_and_then (call_from command given) (named (value given.uses (codes "files")) given.operands)

-- the call that the words say, if they say one, by this table
abbrev pub said_by : List Row → List Word → Option CallView
said_by parts [] = None
said_by parts (command ∷ words) =
    option_and_then (λ given. if fits given.uses command parts then call_with command given else None)
    (reads parts nothing words)

unfoldable pub Says : List Word → Call → Type 0
Says words call = said_by PARTS words ≡ Some (call_view call)

-- the words say no call
unfoldable pub SayNothing : List Word → Type 0
SayNothing words = said_by PARTS words ≡ None

-- whether the generics that words set are set rightly; words without a command set none
abbrev pub are_set : List Row → List Word → Bool
are_set parts [] = true
are_set parts (command ∷ words) =
    is_some (option_and_then (λ given. settings_from [] (values given.uses (codes "generic")))
    (reads parts nothing words))

-- what is told of words that clap has nothing against
abbrev pub unsaid_text : (are_set is_listed : Bool) → Word
unsaid_text false is_listed = BAD_GENERIC.now
unsaid_text true true = LIST_READ_TWICE.now
unsaid_text true false = READ_TWICE.now

-- the words are refused as such, and not for want of memory
abbrev pub IsOfWords : Refused → Type 0
IsOfWords (refused.Words text) = Unit {0}
IsOfWords refused.NoMemory = ⊥

-- ---- the same of what the code holds

abbrev pub use_view : Use → Used
use_view used = (used.name.now, used.value.now)

abbrev pub parsed_view : Parsed → Givens
parsed_view parsed = record { uses = map use_view parsed.uses.items; operands = map text_of parsed.operands.items }

abbrev pub named_view : Bor Word × Bor Word × Bor (List (Bor Word)) → Named
named_view n = (n.0.now, n.1.now, map text_of n.2.now)

abbrev pub parted_view : Bor (List (Bor Word)) × Option (Bor Word) → Parted
parted_view apart = (map text_of apart.0.now, option_map text_of apart.1)
