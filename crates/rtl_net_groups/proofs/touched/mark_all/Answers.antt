use Rattle.std.proofs.Common.{◌%◌, true, get_or, refl, arith}
use Rattle.std.proofs.lemmas.List.{get_or-set_same, get_or_past}
use Rattle.rtl_net_groups.proofs.MarkedLists.{still_marked, marked_more}
use Rattle.rtl_net_groups.proofs.touched.mark_all.Goals as goal
use Rattle.rtl_net_groups.proofs.touched.mark_all.Goals.{then-place-marks, else-place-marks}

pub loop-number-preserved : goal.loop-number-preserved
loop-number-preserved c =
    let numbers = c.args.numbers.now in
    let i = c.loop-number.number-index in
    let number = get_or numbers i 0 in
    let place = number % 1024 in
    let marks = c.loop-number.marks in
    let I = c.loop-number.invariant in
    elim c.if-place-marks.branch [
      | then-place-marks w ↦
          rw w.marks-is (record {
            marked = marked_more numbers i number _ c.loop-number-test.true refl
                (λ p h. still_marked marks place (p % 1024) w.if-place-marks.true (I.marked p h)) (get_or-set_same marks place true true w.if-place-marks.true);
            kept = λ k is. still_marked marks place k w.if-place-marks.true (I.kept k is);
          })
      | else-place-marks w ↦
          rw w.marks-is (record {
            marked = marked_more numbers i number marks c.loop-number-test.true refl I.marked (get_or_past marks place true (omega (arith, w.if-place-marks.false)));
            kept = I.kept;
          })
    ]
