use Rattle.std.proofs.Common.{Bor, map, ap}
use Rattle.rtl_check.specs.Views.{fault_view}
use Rattle.rtl_check.specs.declared.fault.CheckFault.{CheckFault}
use Rattle.rtlsim_findings.proofs.Lists.{first_is}
use Rattle.rtlsim_findings.proofs.News.{one-fault}
use Rattle.rtlsim_findings.proofs.saying.also.Goals as goal

pub loop-left-preserved : goal.loop-left-preserved
loop-left-preserved c =
    let l = c.loop-left in
    let all = one-fault (fault_view c.args.finding.now.first.now) (map (λ (f : Bor CheckFault). fault_view f.now) l.faults.items) _ _ _ l.told.keys _ (fault_view c.fault-item.result.now)
    c.pair_of-in-len1-up.result c.in_ok-is_new.is_new _ l.invariant.told c.in_ok-is_new.ensures.keys c.pair_of-in-len1-up.ensures c.in_ok-is_new.ensures.added c.in_ok-push_if.ensures
    (ap (map (λ (f : Bor CheckFault). fault_view f.now)) (first_is l.left.now c.fault-item.result c.in-len1-up.len_at_least c.fault-item.is)) l.invariant.whole in
    record {
      told = all.0;
      whole = all.1;
    }
