-- What is said of each reason: the constants of the code.
use Rattle.std.specs.Prelude.{◌≡◌, ℕ, List}
use denote.Bor.{Bor}
use Rattle.rtl_mixed_reasons.specs.declared.reason.ReasonKind.{ReasonKind}
use Rattle.rtl_mixed_reasons.specs.declared.reason.ReasonKind.TheVariants as k
use Rattle.rtl_mixed_reasons.specs.declared.words.Note.{Note}
use Rattle.rtl_mixed_reasons.specs.declared.words.TheConstants as the

-- a text of the code
abbrev pub Text : Type 0
Text = record { now : List ℕ }

abbrev pub note_of : ReasonKind → Note Text
note_of k.GatedEdge = the.GATED_EDGE
note_of k.SecondEdge = the.SECOND_EDGE
note_of k.EdgeInLoop = the.EDGE_IN_LOOP
note_of k.OtherEdge = the.OTHER_EDGE
note_of k.OtherEdgeToo = the.OTHER_EDGE_TOO
note_of k.ResetBehind = the.RESET_BEHIND
note_of k.ResetDriven = the.RESET_DRIVEN
note_of k.ResetNoInput = the.RESET_NO_INPUT
note_of k.ResetReads = the.RESET_READS
note_of k.ResetComputes = the.RESET_COMPUTES
note_of k.NoResetTest = the.NO_RESET_TEST
note_of k.NoTestBehind = the.NO_TEST_BEHIND
note_of k.SeveralResets = the.SEVERAL_RESETS
note_of k.BehindEdge = the.BEHIND_EDGE
note_of k.Beside = the.BESIDE
note_of k.BesideToo = the.BESIDE_TOO
note_of k.StandsBeside = the.STANDS_BESIDE
note_of k.NoEdge = the.NO_EDGE
note_of k.EdgeInside = the.EDGE_INSIDE
note_of k.UnsteadyGate = the.UNSTEADY_GATE
note_of k.UnsteadyClock = the.UNSTEADY_CLOCK
note_of k.UnsteadyRegister = the.UNSTEADY_REGISTER
note_of k.UnsteadyStart = the.UNSTEADY_START
note_of k.UnsteadyCircle = the.UNSTEADY_CIRCLE

-- the note is that one
pub record IsNote (wanted : Note Text) (given : Note (Bor (List ℕ))) : Type 0 where
  pub opening : given.opening.now ≡ wanted.opening.now
  pub middle : given.middle.now ≡ wanted.middle.now
  pub closing : given.closing.now ≡ wanted.closing.now

-- the number of a kind: both texts of a reason have one
abbrev pub number_of : ReasonKind → ℕ
number_of k.GatedEdge = 1
number_of k.SecondEdge = 2
number_of k.EdgeInLoop = 3
number_of k.OtherEdge = 4
number_of k.OtherEdgeToo = 4
number_of k.ResetBehind = 5
number_of k.ResetDriven = 6
number_of k.ResetNoInput = 6
number_of k.ResetReads = 7
number_of k.ResetComputes = 8
number_of k.NoResetTest = 9
number_of k.NoTestBehind = 9
number_of k.SeveralResets = 10
number_of k.BehindEdge = 11
number_of k.Beside = 12
number_of k.BesideToo = 13
number_of k.StandsBeside = 14
number_of k.NoEdge = 15
number_of k.EdgeInside = 16
number_of k.UnsteadyGate = 17
number_of k.UnsteadyClock = 18
number_of k.UnsteadyRegister = 19
number_of k.UnsteadyStart = 20
number_of k.UnsteadyCircle = 21
