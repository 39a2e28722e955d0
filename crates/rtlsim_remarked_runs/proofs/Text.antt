-- The text of a remark, which is there where nothing is lost.
use Rattle.std.proofs.Common.{◌≡◌, ℕ, List, [], ◌∷◌, ◌++◌, Option, Some, None, Result, Ok, Err, Vec, refl, sym, subst}
use Rattle.std.specs.Prelude.{◌≢◌, IfOk, IsOk, codes, decimal, slice_get}
use Rattle.std.specs.Global.{Global}
use Rattle.std.specs.Result.{result_ok}
use Rattle.rtl_lost_integers.specs.Told.{lost_line, lost_text, name_of}
use Rattle.rtl_lost_integers.specs.declared.watching.LostInteger.{LostInteger}
use Rattle.rtl_net.specs.Nets.{NetlistView}
use Rattle.rtlsim_command_faults.specs.Explanations.{files_of}
use Rattle.rtlsim_command_faults.specs.declared.faults.Fault.{Fault}
use Rattle.rtlsim_command_faults.specs.declared.telling.Telling.{Telling}
use Rattle.rtlsim_remarked_runs.specs.Remarking.{IsText, WithRemark}
use Rattle.vhdl_source_files.specs.Files.{source_name}

not_nothing : (xs mark : List ℕ) → mark ≢ [] → xs ++ mark ≢ []
not_nothing [] mark some none = some none
not_nothing (x ∷ xs) mark some none = absurd (cc)

a_mark : codes " becomes x\n" ≢ []
a_mark none = absurd (cc)

line_told : (file : List ℕ) (net : NetlistView) (l : LostInteger) → lost_line file net l ≢ []
line_told file net l =
    not_nothing (file ++ codes ": remark: at " ++ decimal l.time ++ codes " ns " ++ name_of net.scopes (slice_get net.signals l.signal)) (codes " becomes x\n") a_mark

text_told : {E : Type 0} (file : List ℕ) (net : NetlistView) (lost : Option LostInteger) (text : Result (Vec ℕ Global) E)
    → IfOk text (λ t. t.items ≡ lost_text file net lost) → (lost ≡ None → IsOk text) → IsText (lost_text file net lost) (result_ok text)
text_told file net lost (Ok t) is there = is
text_told {E} file net None (Err e) is there =
    let no : IsOk {T = Vec ℕ Global} {E = E} (Err e) = there refl in
    absurd (cc)
text_told file net (Some l) (Err e) is there = line_told file net l

pub with_text : {A E : Type 0} (telling : Telling) (net : NetlistView) (lost : Option LostInteger) (answer : Result A Fault) (x : A) (file : List ℕ) (text : Result (Vec ℕ Global) E) (remark : Option (Vec ℕ Global))
    → answer ≡ Ok x → file ≡ source_name (files_of telling) → IfOk text (λ t. t.items ≡ lost_text file net lost) → (lost ≡ None → IsOk text) → remark ≡ result_ok text
    → WithRemark telling net lost answer (Ok (record { answer = x; remark = remark }))
with_text telling net lost answer x file text remark ok name is there told =
    let behind : IsText (lost_text file net lost) remark = subst (λ (r : Option (Vec ℕ Global)). IsText (lost_text file net lost) r) (sym told) (text_told file net lost text is there) in
    rw ok (refl, subst (λ (f : List ℕ). IsText (lost_text f net lost) remark) name behind)
