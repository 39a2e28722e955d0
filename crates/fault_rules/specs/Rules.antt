-- What is said of each rule: the rows of the tables in the code.
use Rattle.std.specs.Prelude.{◌≡◌, ℕ, ◌-◌, List, [], get_or}
use denote.Bor.{Bor}
use Rattle.fault_rules.specs.declared.words.Words.{Words}
use Rattle.fault_rules.specs.declared.report.Rule.{Rule}
use Rattle.fault_rules.specs.declared.report.Rule.TheVariants as r
use Rattle.fault_rules.specs.declared.source.LexRule.{LexRule}
use Rattle.fault_rules.specs.declared.source.LexRule.TheVariants as lexing
use Rattle.fault_rules.specs.declared.source.SyntaxRule.{SyntaxRule}
use Rattle.fault_rules.specs.declared.source.SyntaxRule.TheVariants as grammar
use Rattle.fault_rules.specs.declared.source.NameRule.{NameRule}
use Rattle.fault_rules.specs.declared.source.NameRule.TheVariants as naming
use Rattle.fault_rules.specs.declared.source.ElabRule.{ElabRule}
use Rattle.fault_rules.specs.declared.source.ElabRule.TheVariants as elaboration
use Rattle.fault_rules.specs.declared.source.TheConstants.{ELABORATION, GRAMMAR, LEXING, NAMING}
use Rattle.fault_rules.specs.declared.checking.CheckRule.{CheckRule}
use Rattle.fault_rules.specs.declared.checking.CheckRule.TheVariants as checking
use Rattle.fault_rules.specs.declared.checking.TheConstants.{CHECKING}
use Rattle.fault_rules.specs.declared.stimuli.StimRule.{StimRule}
use Rattle.fault_rules.specs.declared.stimuli.StimRule.TheVariants as stimuli
use Rattle.fault_rules.specs.declared.stimuli.TheConstants.{STIMULI}
use Rattle.fault_rules.specs.declared.expecting.ExpectRule.{ExpectRule}
use Rattle.fault_rules.specs.declared.expecting.ExpectRule.TheVariants as expecting
use Rattle.fault_rules.specs.declared.expecting.TheConstants.{EXPECTING}
use Rattle.fault_rules.specs.declared.settling.RunRule.{RunRule}
use Rattle.fault_rules.specs.declared.settling.RunRule.TheVariants as settling
use Rattle.fault_rules.specs.declared.settling.TheConstants.{SETTLING}
use Rattle.fault_rules.specs.declared.remarking.RemarkRule.{RemarkRule}
use Rattle.fault_rules.specs.declared.remarking.RemarkRule.TheVariants as remarking
use Rattle.fault_rules.specs.declared.remarking.TheConstants.{REMARKING}

-- a text of the code
abbrev pub Text : Type 0
Text = record { now : List ℕ }

-- the texts are these
pub record AreWords (w : Words Text) (told : Words (Bor (List ℕ))) : Type 0 where
  pub layer : told.layer.now ≡ w.layer.now
  pub number : told.number ≡ w.number
  pub name : told.name.now ≡ w.name.now
  pub opening : told.opening.now ≡ w.opening.now
  pub middle : told.middle.now ≡ w.middle.now
  pub closing : told.closing.now ≡ w.closing.now
  pub help : told.help.now ≡ w.help.now

-- the row of that number in a layer's table; no table has a row 0
abbrev pub row : List (Words Text) → ℕ → Words Text
row rows number =
    get_or rows (number - 1)
    (record { layer = none; number = 0; name = none; opening = none; middle = none; closing = none; help = none })
  where
    none : Text
    none = record { now = [] }

abbrev pub lexing_words : LexRule → Words Text
lexing_words lexing.BadByte = row LEXING 1
lexing_words lexing.OpenComment = row LEXING 2
lexing_words lexing.OpenString = row LEXING 3
lexing_words lexing.BadIdentifier = row LEXING 4
lexing_words lexing.BadNumber = row LEXING 5
lexing_words lexing.TooLong = row LEXING 6

abbrev pub grammar_words : SyntaxRule → Words Text
grammar_words grammar.Unexpected = row GRAMMAR 1
grammar_words grammar.EndOfFile = row GRAMMAR 2
grammar_words grammar.TooDeep = row GRAMMAR 3

abbrev pub naming_words : NameRule → Words Text
naming_words naming.Undeclared = row NAMING 1
naming_words naming.Twice = row NAMING 2
naming_words naming.WrongKind = row NAMING 3
naming_words naming.TypeMismatch = row NAMING 4
naming_words naming.NotVisible = row NAMING 5
naming_words naming.WriteOfIn = row NAMING 6
naming_words naming.NoOthers = row NAMING 7
naming_words naming.ChoiceTwice = row NAMING 8
naming_words naming.SecondArchitecture = row NAMING 9
naming_words naming.NoSensitivity = row NAMING 10
naming_words naming.LeftOut = row NAMING 11

abbrev pub elaboration_words : ElabRule → Words Text
elaboration_words elaboration.NoTop = row ELABORATION 1
elaboration_words elaboration.NoGeneric = row ELABORATION 2
elaboration_words elaboration.GenericRange = row ELABORATION 3
elaboration_words elaboration.StaticError = row ELABORATION 4
elaboration_words elaboration.Length = row ELABORATION 5
elaboration_words elaboration.Index = row ELABORATION 6
elaboration_words elaboration.TooWide = row ELABORATION 7
elaboration_words elaboration.Unassociated = row ELABORATION 8
elaboration_words elaboration.TwoUnresolved = row ELABORATION 9
elaboration_words elaboration.ReadOfShared = row ELABORATION 10
elaboration_words elaboration.TooDeep = row ELABORATION 11
elaboration_words elaboration.TooMany = row ELABORATION 12

abbrev pub checking_words : CheckRule → Words Text
checking_words checking.TwoDrivers = row CHECKING 1
checking_words checking.Mixed = row CHECKING 2
checking_words checking.ClockNotInput = row CHECKING 3
checking_words checking.EdgeNotSensitive = row CHECKING 4
checking_words checking.ClockAsData = row CHECKING 5
checking_words checking.MissingSensitivity = row CHECKING 6
checking_words checking.Latch = row CHECKING 7
checking_words checking.Loop = row CHECKING 8
checking_words checking.StoredVariable = row CHECKING 9

abbrev pub stimuli_words : StimRule → Words Text
stimuli_words stimuli.BadLine = row STIMULI 1
stimuli_words stimuli.NotAnInput = row STIMULI 2
stimuli_words stimuli.BadValue = row STIMULI 3
stimuli_words stimuli.SetTwice = row STIMULI 4
stimuli_words stimuli.ClockAndSet = row STIMULI 5
stimuli_words stimuli.NoStop = row STIMULI 6
stimuli_words stimuli.TimeTooLarge = row STIMULI 7
stimuli_words stimuli.Race = row STIMULI 8

abbrev pub expecting_words : ExpectRule → Words Text
expecting_words expecting.Differs = row EXPECTING 1
expecting_words expecting.AfterStop = row EXPECTING 2
expecting_words expecting.BadLine = row EXPECTING 3
expecting_words expecting.NotASignal = row EXPECTING 4
expecting_words expecting.BadValue = row EXPECTING 5
expecting_words expecting.TimeTooLarge = row EXPECTING 6

abbrev pub settling_words : RunRule → Words Text
settling_words settling.NoSettling = row SETTLING 1
settling_words settling.NotTraced = row SETTLING 2

abbrev pub remarking_words : RemarkRule → Words Text
remarking_words remarking.Undriven = row REMARKING 1
remarking_words remarking.Unassigned = row REMARKING 2
remarking_words remarking.IdlePort = row REMARKING 3
remarking_words remarking.NotReset = row REMARKING 4
remarking_words remarking.ClockRead = row REMARKING 5
remarking_words remarking.NeverKnown = row REMARKING 6
remarking_words remarking.UnreadElement = row REMARKING 7
remarking_words remarking.ClockWithoutLine = row REMARKING 8
remarking_words remarking.InputWithoutLine = row REMARKING 9
remarking_words remarking.OutsideRange = row REMARKING 10

abbrev pub words_of : Rule → Words Text
words_of (r.Lex rule) = lexing_words rule
words_of (r.Syntax rule) = grammar_words rule
words_of (r.Name rule) = naming_words rule
words_of (r.Elab rule) = elaboration_words rule
words_of (r.Check rule) = checking_words rule
words_of (r.Stim rule) = stimuli_words rule
words_of (r.Expect rule) = expecting_words rule
words_of (r.Run rule) = settling_words rule
words_of (r.Remark rule) = remarking_words rule
