-- Runs with a remark.
use Rattle.std.proofs.Common.{◌≡◌, ℕ, Bool, true, false, List, [], ◌∷◌, Option, None, Result, Ok, Err, inl, refl, ap, sym, subst, ◌∙◌}
use Rattle.std.specs.Prelude.{IfErr, if◌then◌else◌}
use Rattle.byte_streams.specs.Stands.{Stand}
use Rattle.byte_streams.specs.Written.{SinkState}
use Rattle.rtl_lost_integers.specs.Lost.{first_lost, integers_of, lost_behind}
use Rattle.rtl_lost_integers.specs.Told.{lost_text}
use Rattle.rtl_lost_integers.specs.Watching.{watched}
use Rattle.rtl_lost_integers.specs.declared.watching.LostInteger.{LostInteger}
use Rattle.rtl_net.specs.Nets.{NetlistView}
use Rattle.rtlsim_command_faults.specs.Explanations.{files_of}
use Rattle.rtlsim_command_faults.specs.declared.faults.Fault.{Fault}
use Rattle.rtlsim_command_faults.specs.declared.faults.Fault.TheVariants.{Differs, Memory}
use Rattle.rtlsim_command_faults.specs.declared.telling.Telling.{Telling}
use Rattle.rtlsim_commands.specs.Sights.{Sight, Seen}
use Rattle.rtlsim_commands.specs.Watched.{IfWhole}
use Rattle.rtlsim_commands.proofs.Sights.{seen_so}
use Rattle.rtlsim_remarked_runs.specs.declared.answering.Remarked.{Remarked}
use Rattle.rtlsim_remarked_runs.specs.Remarking.{IsText, Remarking, WithRemark, remark_text}
use Rattle.vhdl_source_files.specs.Files.{source_name}

-- of no integer none is lost
none_behind : (before : Stand) (stands : List Stand) → lost_behind [] before stands ≡ None
none_behind before [] = refl
none_behind before (x ∷ stands) = none_behind x stands

none_lost : (stands : List Stand) → first_lost [] stands ≡ None
none_lost [] = refl
none_lost (x ∷ stands) = none_behind x stands

asked_text : (explains : Bool) (file : List ℕ) (net : NetlistView) (stands : List Stand)
    → lost_text file net (first_lost (watched explains net) stands) ≡ (if explains then lost_text file net (first_lost (integers_of net) stands) else [])
asked_text true file net stands = refl
asked_text false file net stands = ap (lost_text file net) (none_lost stands)

module _ {A : Type 0} (sight : Sight) (Runs : NetlistView → Result A Fault → SinkState → SinkState → Type 0) (telling : Telling) (net : NetlistView) (lost : Option LostInteger) (old new : SinkState)
    (Told Sees : List Stand → Type 0) (sees : (stands : List Stand) → Told stands → Sees stands) where
  -- the run fails
  failed : (fault : Fault) → Runs net (Err fault) old new → IfWhole {A = A} (Err fault) (Seen sight Told net)
      → Remarking sight Runs telling net (Err fault) old new × IfWhole {A = Remarked A} (Err fault) (Seen sight Sees net)
  failed Memory runs seen = (inl runs, tt)
  failed (Differs d) runs seen = (runs, seen_so sight net Told Sees sees seen)
  failed _ runs seen = (runs, tt)

  pub remarks_so : (first : (stands : List Stand) → Told stands → lost ≡ first_lost (watched telling.explains net) stands) (answer : Result A Fault) (result : Result (Remarked A) Fault)
      → WithRemark telling net lost answer result → Runs net answer old new → IfWhole answer (Seen sight Told net)
      → Remarking sight Runs telling net result old new × IfWhole result (Seen sight Sees net)
  remarks_so first (Ok x) (Ok told) is runs seen =
      let file = source_name (files_of telling) in (
        (
          subst (λ (a : A). Runs net (Ok a) old new) (sym is.0) runs,
          seen_so sight net Told (λ stands. IsText (remark_text telling net stands) told.remark)
              (λ stands t. subst (λ (text : List ℕ). IsText text told.remark) (ap (lost_text file net) (first stands t) ∙ asked_text telling.explains file net stands) is.1) seen,
        ),
        seen_so sight net Told Sees sees seen,
      )
  remarks_so first (Ok x) (Err f) is runs seen = absurd is
  remarks_so first (Err f) (Ok told) is runs seen = absurd is
  remarks_so first (Err f) (Err g) is runs seen =
      subst (λ (h : Fault). Remarking sight Runs telling net (Err h) old new × IfWhole {A = Remarked A} (Err h) (Seen sight Sees net)) (sym is) (failed f runs seen)

-- a fault is that of the run
pub same_fault : {A : Type 0} (telling : Telling) (net : NetlistView) (lost : Option LostInteger) (So : Fault → Type 0) (answer : Result A Fault) (result : Result (Remarked A) Fault)
    → WithRemark telling net lost answer result → IfErr answer So → IfErr result So
same_fault telling net lost So (Ok x) (Ok told) is h = tt
same_fault telling net lost So (Ok x) (Err f) is h = absurd is
same_fault telling net lost So (Err f) (Ok told) is h = absurd is
same_fault telling net lost So (Err f) (Err g) is h = subst So (sym is) h
