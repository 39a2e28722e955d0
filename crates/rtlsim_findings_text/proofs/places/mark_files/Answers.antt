use Rattle.std.proofs.Common.{◌≡◌, ℕ, ◌+◌, ◌<◌, List, [], ◌∷◌, ◌++◌, length, get_or, map, take, refl, sym, ap, subst, ◌∙◌, arith}
use Rattle.std.specs.Prelude.{All}
use Rattle.std.proofs.lemmas.List.{map-append, take_more, take_all}
use Rattle.std.proofs.lemmas.List.Elements.{All-push}
use Rattle.std.proofs.lemmas.Result.{IfOk-from_err}
use Rattle.vhdl_source_files.specs.declared.file.SourceFile.{SourceFile}
use Rattle.vhdl_source_files.specs.Files.{file_view}
use Rattle.rtlsim_findings_text.specs.declared.places.MarkedFile.{MarkedFile}
use Rattle.rtlsim_findings_text.specs.Marks.{IsMarked, view}
use Rattle.rtlsim_findings_text.proofs.places.mark_files.Goals as goal

one_more : (files : List SourceFile) (i : ℕ) (d : SourceFile) (old new : List MarkedFile) (m : MarkedFile) → i < length files → m.file ≡ get_or files i d → new ≡ old ++ m ∷ []
    → map view old ≡ map file_view (take i files) → map view new ≡ map file_view (take (i + 1) files)
one_more files i d old new m l is pushed are =
    ap (map view) pushed ∙ map-append view old (m ∷ []) ∙ ap (λ vs. vs ++ view m ∷ []) are ∙ ap (λ f. map file_view (take i files) ++ file_view f ∷ []) is
    ∙ sym (map-append file_view (take i files) (get_or files i d ∷ [])) ∙ ap (map file_view) (sym (take_more files i d l))

one_marked : (old new : List MarkedFile) (m : MarkedFile) → new ≡ old ++ m ∷ [] → All IsMarked old → IsMarked m → All IsMarked new
one_marked old new m pushed all is = subst (All IsMarked) (sym pushed) (All-push IsMarked old m all is)

none_marked : (new : List MarkedFile) → new ≡ [] → All IsMarked new
none_marked new none = subst (All IsMarked) (sym none) (λ k d l. absurd (omega (arith, l)))

pub loop-file-init : goal.loop-file-init
loop-file-init c = record { are = ap (map view) c.new-marked.ensures.items; marks = none_marked _ c.new-marked.ensures.items }

pub loop-file-preserved : goal.loop-file-preserved
loop-file-preserved c =
    let l = c.loop-file in
    let pushed = c.in_ok-push.ensures.items in
    record {
      are = one_more c.args.files.now l.file-index _ l.marked.items _ _ c.loop-file-test.true refl pushed l.invariant.are;
      marks = one_marked l.marked.items _ _ pushed l.invariant.marks c.in_ok-marks.ensures;
    }

pub returns-in_err-marks : goal.returns-in_err-marks
returns-in_err-marks c = IfOk-from_err c.from_residual.result _ c.from_residual.ensures.0

pub returns : goal.returns
returns c =
    let l = c.loop-file in
    record {
      are = l.invariant.are ∙ ap (map file_view) (take_all l.file-index c.args.files.now c.loop-file-test.false);
      marks = l.invariant.marks;
    }
