use Rattle.std.proofs.Common.{sym, subst, []}
use Rattle.rtl_net.specs.Core.{core}
use Rattle.rtl_check.specs.Listing.{up_to, AddsFaults}
use Rattle.rtl_check.proofs.Joined.{none_up_to, adds_number, all_but_loops}
use Rattle.rtl_check.proofs.faults.faults_of.Goals as goal

pub returns : goal.returns
returns c =
    let n = core c.args.net.now in
    let first : AddsFaults n (up_to 0) [] c.new-faults.result.items = subst (AddsFaults n (up_to 0) []) (sym c.new-faults.ensures.items) (none_up_to n) in
    let s1 = adds_number n 0 [] _ _ first c.in_ok-two_drivers.ensures in
    let s2 = adds_number n 1 [] _ _ s1 c.in_ok-mixed.ensures in
    let s3 = adds_number n 2 [] _ _ s2 c.in_ok-by_rule.ensures in
    let s4 = adds_number n 3 [] _ _ s3 c.in_ok-by_rule-2.ensures in
    let s5 = adds_number n 4 [] _ _ s4 c.in_ok-by_rule-3.ensures in
    let s6 = adds_number n 5 [] _ _ s5 c.in_ok-by_rule-4.ensures in
    let s7 = adds_number n 6 [] _ _ s6 c.in_ok-by_rule-5.ensures in
    all_but_loops n c.by_rule-5.new.faults.items c.stored_variables.new.faults.items s7 c.in_ok-stored_variables.ensures
