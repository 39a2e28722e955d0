use Rattle.std.proofs.Common.{Bor, List, map, ap, ◌∙◌}
use Rattle.rtl_check.specs.Views.{fault_view}
use Rattle.rtl_check.specs.declared.fault.CheckFault.{CheckFault}
use Rattle.fault_rules.specs.declared.report.Report.{Report}
use Rattle.rtlsim_findings.specs.Sayings.{name, name_of}
use Rattle.rtlsim_findings.proofs.Lists.{first_is}
use Rattle.rtlsim_findings.proofs.News.{one-name}
use Rattle.rtlsim_findings.proofs.naming.new_names.Goals as goal

pub loop-left-preserved : goal.loop-left-preserved
loop-left-preserved c =
    let l = c.loop-left in
    let net = c.args.net.now in
    let is = c.in_ok-name.ensures ∙ ap (λ (r : Report). name_of net r.subject) c.report_of.ensures in
    let all = one-name c.args.first.now (map (λ t. t.items) l.names.items) _ _ _ l.told.keys _ (name net (fault_view c.fault-item.result.now)) c.in_ok-from_slice-2.field-0 c.in_ok-name.name
    c.in_ok-is_new.is_new _ l.invariant.told c.in_ok-is_new.ensures.keys (c.in_ok-from_slice-2.ensures.items ∙ (c.deref.ensures.value ∙ is)) c.in_ok-is_new.ensures.added c.in_ok-push_if.ensures is
    (ap (λ (fs : List (Bor CheckFault)). map (name net) (map (λ (f : Bor CheckFault). fault_view f.now) fs)) (first_is l.left.now c.fault-item.result c.in-len1-up.len_at_least c.fault-item.is))
    l.invariant.whole in
    record {
      told = all.0;
      whole = all.1;
    }
