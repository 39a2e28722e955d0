use Rattle.std.proofs.Common.{◌≡◌, ℕ, ◌+◌, ◌-◌, ◌<◌, ◌≤◌, min, List, Option, Some, None, arith, length, get_or, subst}
use Rattle.std.specs.Prelude.{IsSome}
use Rattle.rtl_net.specs.Nets.{NetlistView}
use Rattle.rtl_net_groups.specs.Cuts.{IsCut, no_cut}
use Rattle.rtl_net_groups.specs.Groups.{Grouping}
use Rattle.rtl_net_groups.specs.declared.cuts.Cut.{Cut}
use Rattle.rtl_kernel.specs.drivers.DriverCuts.{IsCutThere, AreCutsThere}
use Rattle.rtl_kernel.specs.drivers.Transactions.{targets_of}
use Rattle.rtl_kernel.proofs.Brought.{still}
use Rattle.rtl_kernel.proofs.Updating.{taken_more, takes_none, takes_run, takes_then}
use Rattle.rtl_kernel.proofs.Wholes.{cut_there}
use Rattle.rtl_kernel.proofs.drivers.update_span.Goals as goal

-- a place of the span has its entry
entry_of : (entries : List (Option ℕ)) (from len first k : ℕ) {v : ℕ} → from ≤ first → first + k < from + len → ((j : ℕ) → j < len → IsSome (get_or entries (from + j) None))
    → (IsSome (get_or entries (first + k) None) → get_or entries (first + k) None ≡ Some v) → get_or entries (first + k) None ≡ Some v
entry_of entries from len first k low high all has =
    let at : from + (first - from + k) ≡ first + k = omega (arith, low) in
    has (subst (λ (p : ℕ). IsSome (get_or entries p None)) at (all (first - from + k) (omega (arith, low, high))))

pub loop-first-init : goal.loop-first-init
loop-first-init c = record { from = omega arith; to = omega arith; takes = takes_none _ _ _ _; taken = λ q l k. absurd (omega (arith, l, k)) }

-- the cut that the next place is in
module _ (net : NetlistView) (groups : Grouping) (targets : List ℕ) (cuts : List Cut) (numbers : List ℕ) (A : AreCutsThere net groups targets cuts numbers)
    (entries : List (Option ℕ)) (each : length targets ≡ length entries) (first end beyond : ℕ) (before : first < end) (within : end ≤ length entries) where
  abbrev here : Cut
  here = get_or cuts (get_or numbers first 0) no_cut

  in_targets : first < length targets
  in_targets = omega (arith, before, within, each)

  is_there : IsCutThere net groups here
  is_there = cut_there net groups targets cuts numbers A (get_or numbers first 0) (A.are_cuts.numbers_are first in_targets).0

  is_cut : IsCut groups.of_net targets here
  is_cut = A.are_cuts.are_cuts (get_or numbers first 0) no_cut (A.are_cuts.numbers_are first in_targets).0

  from_here : here.place ≤ first
  from_here = (A.are_cuts.numbers_are first in_targets).1.from

  module _ (is : beyond ≡ min end (here.place + here.len)) where
    some : first < beyond
    some = let h = (A.are_cuts.numbers_are first in_targets).1.before in omega (arith, is, h, before)

    to_end : (beyond ≤ end) × (beyond ≤ here.place + here.len)
    to_end = (omega (arith, is), omega (arith, is))

pub take-requires-clause-cut : goal.take-requires-clause-cut
take-requires-clause-cut c =
    let R = c.requires.row in
    still (λ n g. IsCutThere n g (get_or c.args.own.cuts.now (get_or c.args.own.numbers.now c.loop-first.first 0) no_cut)) c.args.nets.now c.loop-first.nets
    c.loop-first.invariant.takes.brings.stay (is_there _ _ _ _ _ c.requires.cuts c.args.outcome.now.entries R.each_entry c.loop-first.first _ 0 c.loop-first-test.true c.requires.within)

pub take-requires-clause-from : goal.take-requires-clause-from
take-requires-clause-from c =
    from_here _ _ _ _ _ c.requires.cuts c.args.outcome.now.entries c.requires.row.each_entry c.loop-first.first _ 0 c.loop-first-test.true c.requires.within

pub take-requires-clause-to : goal.take-requires-clause-to
take-requires-clause-to c =
    let s = some _ _ _ _ _ c.requires.cuts c.args.outcome.now.entries c.requires.row.each_entry c.loop-first.first _ _ c.loop-first-test.true c.requires.within c.min-beyond.ensures in
    let t = to_end _ _ _ _ _ c.requires.cuts c.args.outcome.now.entries c.requires.row.each_entry c.loop-first.first _ _ c.loop-first-test.true c.requires.within c.min-beyond.ensures in
    omega (arith, c.values-assigned.ensures.as_many, s, t.1)

pub take-requires-clause-drivers : goal.take-requires-clause-drivers
take-requires-clause-drivers c =
    let s = some _ _ _ _ _ c.requires.cuts c.args.outcome.now.entries c.requires.row.each_entry c.loop-first.first _ _ c.loop-first-test.true c.requires.within c.min-beyond.ensures in
    let t = to_end _ _ _ _ _ c.requires.cuts c.args.outcome.now.entries c.requires.row.each_entry c.loop-first.first _ _ c.loop-first-test.true c.requires.within c.min-beyond.ensures in
    omega (arith, c.values-assigned.ensures.as_many, s, t.0, c.requires.within, c.requires.row.each_value, c.loop-first.invariant.takes.as_many)

pub loop-first-preserved : goal.loop-first-preserved
loop-first-preserved c =
    let targets = targets_of c.args.nets.now.net.processes c.args.own.process in
    let entries = c.args.outcome.now.entries in
    let first = c.loop-first.first in
    let I = c.loop-first.invariant in
    let V = c.values-assigned.ensures in
    let assigned = c.values-assigned.result.now in
    let values = c.loop-first.values in
    let new = c.take.new.values in
    let E = c.take.ensures in
    let R = c.requires.row in
    let s = some _ _ _ _ _ c.requires.cuts entries R.each_entry first _ _ c.loop-first-test.true c.requires.within c.min-beyond.ensures in
    let t = to_end _ _ _ _ _ c.requires.cuts entries R.each_entry first _ _ c.loop-first-test.true c.requires.within c.min-beyond.ensures in
    let long : first + length assigned ≡ c.min-beyond.result = omega (arith, V.as_many, s) in
    let are : (k : ℕ) → k < length assigned → get_or entries (first + k) None ≡ Some (get_or assigned k 0) =
    λ k l. entry_of entries c.args.span.first c.args.span.len first k I.from (omega (arith, l, long, t.0)) c.requires.all (V.entries k (omega (arith, l, V.as_many))) in
    let cut = still (λ n g. IsCut g.of_net targets (get_or c.args.own.cuts.now (get_or c.args.own.numbers.now first 0) no_cut)) c.args.nets.now c.loop-first.nets I.takes.brings.stay
    (is_cut _ _ _ _ _ c.requires.cuts entries R.each_entry first _ 0 c.loop-first-test.true c.requires.within) in
    let T = takes_run targets entries values new c.loop-first.nets c.take.new.self first assigned are E.written (E.brings targets cut) in
    record {
      from = omega (arith, I.from, s);
      to = t.0;
      takes = takes_then targets entries _ _ _ _ _ _ I.takes T;
      taken = λ q low high. taken_more entries values new c.args.span.first first assigned are E.written.written T.stay I.taken q low (omega (arith, high, long));
    }

pub returns-clause-taken : goal.returns-clause-taken
returns-clause-taken c = λ k l. c.loop-first.invariant.taken (c.args.span.first + k) (omega arith) (omega (arith, l, c.loop-first-test.false))
