-- What a listing answers as a command.
use Rattle.std.proofs.Common.{◌≡◌, ℕ, Bool, List, Result, Ok, Err, inl, inr, refl, sym, subst}
use Rattle.std.specs.Prelude.{IfErr, IsErrAnd, OnOk}
use Rattle.rtl_check.specs.Verdicts.{IsJudgement, JudgesLoopsOnce}
use Rattle.rtl_net.specs.Core.{core}
use Rattle.rtl_check.specs.declared.judging.Judgement.{Judgement}
use Rattle.rtlsim_commands.specs.Listed.{Writes, ListsNet, AnswersVerdict}
use Rattle.rtlsim_command_faults.specs.declared.faults.Fault.{Fault}
use Rattle.rtlsim_command_faults.specs.declared.faults.Fault.TheVariants.{Memory, Output}
use Rattle.rtlsim_listing.specs.Printing.{GoesInPart}
use Rattle.rtlsim_listing.proofs.Printing.{beginning}
use Rattle.rtl_net.specs.Nets.{NetlistView}
use Rattle.byte_streams.specs.Written.{SinkState, Goes, HasFailed, IsIntact}

-- memory is refused on the way
pub writes_part : {A : Type 0} (text : List ℕ) (answer : Result A Fault) (old new : SinkState) → IsErrAnd answer (λ f. f ≡ Memory) → IsIntact old
    → GoesInPart old new text → Writes text answer old new
writes_part text (Ok x) old new h intact part = absurd h
writes_part text (Err f) old new h intact part = rw h (beginning old new text intact part)

-- all was printed, and the output fails
pub writes_failed : {A : Type 0} (text : List ℕ) (answer : Result A Fault) (fault : Fault) (old new : SinkState) → IsErrAnd answer (λ f. f ≡ fault) → IsIntact old
    → Goes old new text → (fault ≡ Output) × HasFailed new → Writes text answer old new
writes_failed text (Ok x) fault old new h intact goes failed = absurd h
writes_failed text (Err f) fault old new h intact goes failed = rw (h, failed.0) (failed.1, goes.beginning intact)

-- all was printed, and the output fails or doesn't
pub writes_all : (text : List ℕ) (answer : Result (Unit {0}) Fault) (old new : SinkState) → IsIntact old → Goes old new text → OnOk answer (IsIntact new)
    → IfErr answer (λ fault. (fault ≡ Output) × HasFailed new) → Writes text answer old new
writes_all text (Ok x) old new intact goes whole failed = (whole, (goes.whole whole).1)
writes_all text (Err f) old new intact goes whole failed = rw failed.0 (failed.1, goes.beginning intact)

module _ (text_of : NetlistView → Judgement → List ℕ) (net : NetlistView) where
  pub checks_failed : (judgement : Judgement) (Q : Fault → Type 0) (answer : Result Bool Fault) (old new : SinkState) → IsErrAnd answer Q → IsJudgement (core net) judgement
      → JudgesLoopsOnce judgement → Writes (text_of net judgement) answer old new → AnswersVerdict text_of net answer old new
  checks_failed judgement Q (Ok x) old new h is once written = absurd h
  checks_failed judgement Q (Err f) old new h is once written = inl (record { judgement = judgement; is = is; once = once; written = written })

  -- no judgement for want of memory
  pub unchecked : (answer : Result Bool Fault) (old : SinkState) → IsErrAnd answer (λ f. f ≡ Memory) → AnswersVerdict text_of net answer old old
  unchecked (Ok x) old h = absurd h
  unchecked (Err f) old h = inr (h, refl)

-- ---- faults: what is so of want of memory and of an output that failed

module _ (So : Fault → Type 0) (memory : So Memory) (output : So Output) where
  writes_fault : (A : Type 0) (text : List ℕ) (fault : Fault) (old new : SinkState) → Writes {A = A} text (Err fault) old new → So fault
  writes_fault A text Memory old new h = memory
  writes_fault A text Output old new h = output
  writes_fault A text _ old new h = absurd h

  pub lists_fault : (net : NetlistView) (answer : Result (Unit {0}) Fault) (old new : SinkState) → ListsNet net answer old new → IfErr answer So
  lists_fault net (Ok x) old new h = tt
  lists_fault net (Err fault) old new h = writes_fault (Unit {0}) _ fault old new h

  pub checks_fault : (text_of : NetlistView → Judgement → List ℕ) (net : NetlistView) (answer : Result Bool Fault) (old new : SinkState) → AnswersVerdict text_of net answer old new
      → IfErr answer So
  checks_fault text_of net (Ok x) old new h = tt
  checks_fault text_of net (Err fault) old new (inl w) = writes_fault Bool _ fault old new w.written
  checks_fault text_of net (Err fault) old new (inr w) = subst So (sym w.0) memory
