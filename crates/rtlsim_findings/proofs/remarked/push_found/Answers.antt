use Rattle.std.proofs.Common.{◌≡◌, ℕ, List, ◌∷◌, ◌++◌, map, append_assoc, sym, ap, ◌∙◌}
use Rattle.std.specs.Prelude.{slice_index_or}
use Rattle.rtl_net.specs.Nets.{NetlistView}
use Rattle.rtl_remarks.specs.declared.remark.Remark.{Remark}
use Rattle.rtl_remarks.specs.declared.remark.RemarkKind.TheVariants.{Undriven}
use Rattle.rtl_remarks.specs.Remarks.{at_net}
use Rattle.rtlsim_findings.specs.Remarked.{RemarkView, remark_view, found_from, ended, begun_by}
use Rattle.rtlsim_findings.proofs.Lists.{cut, rest}
use Rattle.rtlsim_findings.proofs.remarked.push_found.Goals as goal

-- a remark more
more : (net : NetlistView) (first next : List ℕ) (before remark : Remark) (others left : List Remark) (old new all : List RemarkView)
    → left ≡ remark ∷ others → new ≡ old ++ ended net first before remark → next ≡ begun_by net first before remark
    → old ++ found_from net first before left ≡ all → new ++ found_from net next remark others ≡ all
more net first next before remark others left old new all are pushed named so_far =
    ap (λ t. t ++ found_from net next remark others) pushed ∙ append_assoc old (ended net first before remark) (found_from net next remark others)
    ∙ ap (λ n. old ++ (ended net first before remark ++ found_from net n remark others)) named
    ∙ sym (ap (λ ls. old ++ found_from net first before ls) are) ∙ so_far

pub loop-left-init : goal.loop-left-init
loop-left-init c =
    ap (λ n. map remark_view c.args.found.now.items ++ found_from c.args.net.now n c.args.begin c.args.remarks.now) c.in_ok-first.ensures

pub loop-left-preserved : goal.loop-left-preserved
loop-left-preserved c =
    let l = c.loop-left in
    let net = c.args.net.now in
    let d = at_net Undriven 0 in
    let remark = slice_index_or l.left.now 0 d in
    more net l.first.items _ l.before remark (rest l.left.now) l.left.now _ _ _ (cut l.left.now d c.in-len1-up.len_at_least) c.in_ok-push_ended.ensures.found c.in_ok-push_ended.ensures.first l.invariant
