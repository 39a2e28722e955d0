use Rattle.std.proofs.Common.{◌++◌, map, ap, sym, ◌∙◌}
use Rattle.std.specs.List.{list_any}
use Rattle.rtlsim_findings.proofs.Lists.{first_is, map_same, one_more, rest}
use Rattle.rtlsim_findings.specs.Once.{each_new}
use Rattle.rtlsim_notes.specs.Notes.{is_beside, note_view}
use Rattle.rtlsim_notes.proofs.News.{is_new, not_new}
use Rattle.rtlsim_notes.proofs.noted.new_notes.Goals as goal

-- the first note that is left is kept
pub loop-left-preserved-in_ok-push : goal.loop-left-preserved-in_ok-push
loop-left-preserved-in_ok-push c =
    let l = c.loop-left in
    let kept = map note_view l.notes.items in
    let asked = ap (list_any _) (sym (map_same _ _ c.deref.ensures.value note_view)) ∙ sym c.has_beside.ensures in
    let pushed = one_more _ _ _ _ c.in_ok-push.ensures.items note_view c.in_ok-copy_of.ensures in
    let are = map_same _ _ (first_is l.left.now c.note-item.result c.in-len1-up.len_at_least c.note-item.is) note_view in
    ap (λ ns. ns ++ each_new is_beside ns (map note_view (rest l.left.now))) pushed ∙ is_new is_beside kept _ _ (asked ∙ c.if-not-has_beside.true)
    ∙ sym (ap (λ ns. kept ++ each_new is_beside kept ns) are) ∙ l.invariant

-- one at its byte is kept already
pub loop-left-preserved : goal.loop-left-preserved
loop-left-preserved c =
    let l = c.loop-left in
    let kept = map note_view l.notes.items in
    let asked = ap (list_any _) (sym (map_same _ _ c.deref.ensures.value note_view)) ∙ sym c.has_beside.ensures in
    let are = map_same _ _ (first_is l.left.now c.note-item.result c.in-len1-up.len_at_least c.note-item.is) note_view in
    not_new is_beside kept _ _ (asked ∙ c.if-not-has_beside.false)
    ∙ sym (ap (λ ns. kept ++ each_new is_beside kept ns) are) ∙ l.invariant
