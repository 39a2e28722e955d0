-- Runs that are compared with what is expected.
use Rattle.std.proofs.Common.{◌≡◌, ℕ, List, Option, Some, None, Result, Ok, Err, inl, refl, sym, subst}
use Rattle.std.specs.Prelude.{IsErrAnd, option_map}
use Rattle.rtlsim_commands.specs.Expected.{Comparing, IsOfRun, RunsComparing, RunsExpecting, unless_differs}
use Rattle.rtlsim_commands.specs.Sights.{Sight, Seen, Seeing}
use Rattle.rtlsim_commands.specs.Watched.{IfWhole}
use Rattle.rtlsim_commands.proofs.Sights.{seeing_of}
use Rattle.rtlsim_commands.proofs.Watched.{watched_failed}
use Rattle.rtlsim_command_faults.specs.declared.faults.Fault.{Fault}
use Rattle.rtlsim_command_faults.specs.declared.faults.Fault.TheVariants.{Expect, Differs, Memory}
use Rattle.rtl_expect.specs.Differences.{differences}
use Rattle.rtl_expect.specs.Expected.{Expectation, Positions}
use Rattle.rtl_expect.specs.Lines.{expectations_of}
use Rattle.rtl_expect.specs.Watching.{AreTold}
use Rattle.rtl_expect.specs.declared.difference.FirstDifferences.{FirstDifferences}
use Rattle.rtl_net.specs.Nets.{NetlistView}
use Rattle.byte_streams.specs.Written.{SinkState}
use Rattle.byte_streams.specs.Stands.{Stand}
use Rattle.vhdl_literals.specs.Declarations.{positions_in}
use Rattle.vhdl_slips.specs.Words.{Read}

module _ {A : Type 0} (Runs : NetlistView → Result A Fault → (old new : SinkState) → Type 0) (Sees : (List Stand → Type 0) → NetlistView → Type 0) (positions : Positions)
    (net : NetlistView) (expected : List ℕ) (old : SinkState) where
  module _ (new : SinkState) (es : List Expectation) (read : expectations_of positions net expected ≡ Ok es) where
    -- the run fails
    module _ (of_run : (fault : Fault) → Runs net (Err fault) old new → IsOfRun fault) where
      unrun : (fault : Fault) → Runs net (Err fault) old new → RunsExpecting Runs Sees positions expected net (Err fault) old new
      unrun (Expect f) h = absurd (of_run (Expect f) h)
      unrun (Differs d) h = absurd (of_run (Differs d) h)
      unrun Memory h = inl (record { expectations = es; read = read; holds = h })
      unrun _ h = record { expectations = es; read = read; holds = h }

      unrun_part : (So : Type 0) (fault : Fault) → Runs net (Err fault) old new → IfWhole {A = A} (Err fault) So
      unrun_part So (Differs d) h = absurd (of_run (Differs d) h)
      unrun_part So _ h = tt

      pub failed : (So : Type 0) (answer : Result A Fault) (fault : Fault) → IsErrAnd answer (λ f. f ≡ fault) → Runs net (Err fault) old new
          → RunsExpecting Runs Sees positions expected net answer old new × IfWhole answer So
      failed So answer fault h runs =
          watched_failed (RunsExpecting Runs Sees positions expected) So net answer fault old new h (unrun fault runs) (unrun_part So fault runs)

    -- the run is whole
    module _ (so : (P Q : List Stand → Type 0) → ((stands : List Stand) → P stands → Q stands) → Sees P net → Sees Q net) where
      pub whole : (x : A) (d : Option FirstDifferences) (answer : Result A Fault) (Told Seen : List Stand → Type 0) → answer ≡ unless_differs (Ok x) d → Runs net (Ok x) old new → Sees Told net
          → ((stands : List Stand) → Told stands → AreTold d (differences stands es)) → ((stands : List Stand) → Told stands → Seen stands)
          → RunsExpecting Runs Sees positions expected net answer old new × IfWhole answer (Sees Seen net)
      whole x d answer Told Seen is runs sees first seen =
          let compared : RunsComparing Runs Sees positions net x old new es d =
          record { runs = runs; all = so Told (λ stands. AreTold d (differences stands es)) first sees } in
          subst (λ (r : Result A Fault). RunsExpecting Runs Sees positions expected net r old new × IfWhole r (Sees Seen net)) (sym is) (by d compared)
        where
          by : (d : Option FirstDifferences) → RunsComparing Runs Sees positions net x old new es d
              → RunsExpecting Runs Sees positions expected net (unless_differs (Ok x) d) old new × IfWhole (unless_differs (Ok x) d) (Sees Seen net)
          by None run = (record { expectations = es; read = read; holds = run }, so Told Seen seen sees)
          by (Some d) run = (record { expectations = es; read = read; holds = (x, run) }, so Told Seen seen sees)

is_fault : {A : Type 0} (result : Result A Fault) (fault : Fault) → result ≡ Err fault → IsErrAnd result (λ f. f ≡ fault)
is_fault {A} result fault is = subst (λ (r : Result A Fault). IsErrAnd r (λ f. f ≡ fault)) (sym is) refl

-- a run that may fail is compared
pub compared_so : {A : Type 0} (Runs : NetlistView → Result A Fault → (old new : SinkState) → Type 0) (Sees : (List Stand → Type 0) → NetlistView → Type 0) (positions : Positions)
    (net : NetlistView) (expected : List ℕ) (old new : SinkState) (es : List Expectation) (read : expectations_of positions net expected ≡ Ok es)
    → ((fault : Fault) → Runs net (Err fault) old new → IsOfRun fault)
    → ((P Q : List Stand → Type 0) → ((stands : List Stand) → P stands → Q stands) → Sees P net → Sees Q net)
    → (answer : Result A Fault) (d : Option FirstDifferences) (result : Result A Fault) (Told Seen : List Stand → Type 0) → result ≡ unless_differs answer d → Runs net answer old new
    → IfWhole answer (Sees Told net) → ((stands : List Stand) → Told stands → AreTold d (differences stands es))
    → ((stands : List Stand) → Told stands → Seen stands) → RunsExpecting Runs Sees positions expected net result old new × IfWhole result (Sees Seen net)
compared_so Runs Sees positions net expected old new es read of_run so (Ok x) d result Told Seen is runs sees first seen =
    whole Runs Sees positions net expected old new es read so x d result Told Seen is runs sees first seen
compared_so Runs Sees positions net expected old new es read of_run so (Err f) None result Told Seen is runs sees first seen =
    failed Runs Sees positions net expected old new es read of_run (Sees Seen net) result f (is_fault result f is) runs
compared_so Runs Sees positions net expected old new es read of_run so (Err f) (Some d) result Told Seen is runs sees first seen =
    failed Runs Sees positions net expected old new es read of_run (Sees Seen net) result f (is_fault result f is) runs

-- what is expected is given
pub comparing_some : {A E : Type 0} (text_of : E → List ℕ) (sight : Sight) (Runs : NetlistView → Result A Fault → SinkState → SinkState → Type 0) (source : Read) (expected : Option E) (some : E) (P : List Stand → Type 0)
    (net : NetlistView) (answer : Result A Fault) (old new : SinkState) → expected ≡ Some some
    → RunsExpecting Runs (Seen sight) (positions_in source) (text_of some) net answer old new × IfWhole answer (Seen sight P net)
    → Seeing sight (Comparing sight Runs source (option_map text_of expected)) P net answer old new
comparing_some {A} {E} text_of sight Runs source expected some P net answer old new is h =
    seeing_of sight (Comparing sight Runs source (option_map text_of expected)) P net answer old new (
      subst (λ (e : Option E). Comparing sight Runs source (option_map text_of e) net answer old new) (sym is) h.0,
      h.1,
    )
