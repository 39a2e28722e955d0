use Rattle.std.proofs.Common.{map, sym, ◌∙◌, inl, inr}
use Rattle.rtl_net.specs.Core.{core}
use Rattle.rtl_check.specs.Views.{fault_view}
use Rattle.rtl_check.proofs.Verdicts.{none_of, some_of, none_once, no_fault}
use Rattle.rtl_check.proofs.search.search.Goals as goal

pub returns-then-not-is_empty : goal.returns-then-not-is_empty
returns-then-not-is_empty c =
    let faults = c.in_ok-faults.faults in (
      inl (c.in_ok-faults.ensures, some_of faults (sym c.is_empty.ensures ∙ c.if-not-is_empty.true)),
      none_once (core c.args.net.now) (map fault_view faults.items) c.in_ok-faults.ensures,
    )

pub search_nets-requires : goal.search_nets-requires
search_nets-requires c =
    let net = core c.args.net.now in
    let none = none_of c.in_ok-faults.faults (sym c.is_empty.ensures ∙ c.if-not-is_empty.false) in
    let (wide, inner) = c.has_inner_reset.ensures.0 c.if-has_inner_reset.true in
    record { kinds = c.requires.kinds; none = none; no_fault = no_fault net c.in_ok-faults.faults.items none c.in_ok-faults.ensures; by_nets = (wide, inr inner) }

pub search_processes-requires : goal.search_processes-requires
search_processes-requires c =
    let net = core c.args.net.now in
    let none = none_of c.in_ok-faults.faults (sym c.is_empty.ensures ∙ c.if-not-is_empty.false) in
    record {
      kinds = c.requires.kinds;
      none = none;
      no_fault = no_fault net c.in_ok-faults.faults.items none c.in_ok-faults.ensures;
      outer = λ inner. (let h = sym (c.has_inner_reset.ensures.1 inner) ∙ c.if-has_inner_reset.false in absurd cc);
    }
