use Rattle.std.proofs.Common.{◌≡◌, ℕ, ◌+◌, ◌<◌, List, [], Some, None, arith, length, get_or, ap, sym, subst, ◌∙◌}
use Rattle.rtl_drives.specs.declared.spans.Span.{Span}
use Rattle.rtl_drives.proofs.Places.{place_assigned}
use Rattle.rtl_net.specs.Nets.{NetlistView}
use Rattle.rtl_net_groups.specs.Cuts.{Cutting, IsCut, no_cut}
use Rattle.rtl_net_groups.specs.Groups.{Grouping}
use Rattle.rtl_net_groups.specs.declared.cuts.Cut.{Cut}
use Rattle.rtl_kernel.specs.drivers.DriverCuts.{IsCutThere, AreCutsThere, AreDriverCuts}
use Rattle.rtl_kernel.specs.drivers.Transactions.{targets_of}
use Rattle.rtl_kernel.specs.drivers.Updates.{TakesEntries}
use Rattle.rtl_kernel.proofs.Brought.{still}
use Rattle.rtl_kernel.proofs.Updating.{takes_none, takes_run, takes_then, taken_here, taken_values, left_all, left_one, none_left}
use Rattle.rtl_kernel.proofs.Wholes.{cut_there, len_is, place_is}
use Rattle.rtl_kernel.proofs.drivers.update_process.Goals as goal
use Rattle.rtl_kernel.proofs.drivers.update_process.Goals.{then-own-eq1, else-own-eq1}

abbrev no_span : Span
no_span = record { first = 0; len = 0 }

pub loop-span-init : goal.loop-span-init
loop-span-init c = record {
  takes = takes_none _ _ _ _;
  left = left_all c.args.outcome.now.entries c.args.values.now c.assigned-span-items.result.now c.assigned-span-items.ensures.places;
}

-- its cuts
own_cuts : (net : NetlistView) (groups : Grouping) (cuts : Cutting) (p : ℕ) (own : List Cut) (numbers : List ℕ) → AreDriverCuts net groups cuts → p < length net.processes
    → own ≡ get_or cuts.cuts p [] → numbers ≡ get_or cuts.numbers p [] → AreCutsThere net groups (targets_of net.processes p) own numbers
own_cuts net groups cuts p own numbers A l is are = rw (is, are) (A.each p l)

pub values-assigned-requires : goal.values-assigned-requires
values-assigned-requires c = c.assigned-span-items.ensures.within c.loop-span.span-index no_span c.loop-span-test.true

pub take-requires-clause-cut : goal.take-requires-clause-cut
take-requires-clause-cut c =
    let A = own_cuts _ _ _ _ _ _ c.requires.cuts c.requires.row.there c.of-own.ensures c.numbers-numbers.ensures in
    still (λ n g. IsCutThere n g (get_or c.of-own.result.now 0 no_cut)) c.args.nets.now c.loop-span.nets c.loop-span.invariant.takes.brings.stay
    (cut_there _ _ _ _ _ A 0 (omega (arith, c.if-own-eq1.true)))

pub take-requires-clause-from : goal.take-requires-clause-from
take-requires-clause-from c = omega (arith, place_is _ _ _ _ (own_cuts _ _ _ _ _ _ c.requires.cuts c.requires.row.there c.of-own.ensures c.numbers-numbers.ensures).are_cuts c.if-own-eq1.true)

pub take-requires-clause-to : goal.take-requires-clause-to
take-requires-clause-to c =
    let A = (own_cuts _ _ _ _ _ _ c.requires.cuts c.requires.row.there c.of-own.ensures c.numbers-numbers.ensures).are_cuts in
    let within = c.assigned-span-items.ensures.within c.loop-span.span-index no_span c.loop-span-test.true in
    omega (arith, within, c.values-assigned.ensures.as_many, place_is _ _ _ _ A c.if-own-eq1.true, len_is _ _ _ _ A c.if-own-eq1.true, c.requires.row.each_entry)

pub take-requires-clause-drivers : goal.take-requires-clause-drivers
take-requires-clause-drivers c =
    let within = c.assigned-span-items.ensures.within c.loop-span.span-index no_span c.loop-span-test.true in
    omega (arith, within, c.values-assigned.ensures.as_many, c.loop-span.invariant.takes.as_many, c.requires.row.each_value)

pub update_span-requires-clause-row : goal.update_span-requires-clause-row
update_span-requires-clause-row c =
    let R = c.requires.row in
    let T = c.loop-span.invariant.takes in
    record {
      there = subst (λ (n : NetlistView). c.args.process < length n.processes) (sym T.brings.stay.net_stays) R.there;
      each_entry = ap (λ (n : NetlistView). length (targets_of n.processes c.args.process)) T.brings.stay.net_stays ∙ R.each_entry;
      each_value = T.as_many ∙ R.each_value;
    }

pub update_span-requires-clause-within : goal.update_span-requires-clause-within
update_span-requires-clause-within c = c.assigned-span-items.ensures.within c.loop-span.span-index no_span c.loop-span-test.true

pub update_span-requires-clause-all : goal.update_span-requires-clause-all
update_span-requires-clause-all c = λ k l. place_assigned _ _ c.assigned-span-items.ensures.places c.loop-span.span-index k no_span c.loop-span-test.true l

pub update_span-requires-clause-cuts : goal.update_span-requires-clause-cuts
update_span-requires-clause-cuts c =
    still (λ n g. AreCutsThere n g (targets_of n.processes c.args.process) c.of-own.result.now c.numbers-numbers.result.now) c.args.nets.now c.loop-span.nets
    c.loop-span.invariant.takes.brings.stay (own_cuts _ _ _ _ _ _ c.requires.cuts c.requires.row.there c.of-own.ensures c.numbers-numbers.ensures)

pub loop-span-preserved : goal.loop-span-preserved
loop-span-preserved c =
    let targets = targets_of c.args.nets.now.net.processes c.args.process in
    let entries = c.args.outcome.now.entries in
    let spans = c.assigned-span-items.result.now in
    let i = c.loop-span.span-index in
    let I = c.loop-span.invariant in
    let l = c.loop-span-test.true in
    let old = c.loop-span.values in
    let nets = c.loop-span.nets in
    elim c.if-own-eq1.branch [
      | then-own-eq1 w ↦
          let V = w.values-assigned.ensures in
          let assigned = w.values-assigned.result.now in
          let first = (get_or spans i no_span).first in
          let E = w.take.ensures in
          let new = w.take.new.values in
          let are : (k : ℕ) → k < length assigned → get_or entries (first + k) None ≡ Some (get_or assigned k 0) =
          λ k m. (let n : k < (get_or spans i no_span).len = omega (arith, m, V.as_many) in
          V.entries k n (place_assigned entries spans c.assigned-span-items.ensures.places i k no_span l n)) in
          let cut = still (λ n g. IsCut g.of_net targets (get_or c.of-own.result.now 0 no_cut)) c.args.nets.now nets I.takes.brings.stay
          ((own_cuts _ _ _ _ _ _ c.requires.cuts c.requires.row.there c.of-own.ensures c.numbers-numbers.ensures).are_cuts.are_cuts 0 no_cut (omega (arith, w.if-own-eq1.true))) in
          let T = takes_run targets entries old new nets w.take.new.self first assigned are E.written (E.brings targets cut) in
          rw (w.values-is, w.nets-is) (record {
            takes = takes_then targets entries _ _ _ _ _ _ I.takes T;
            left = left_one entries old new spans i no_span l T.stay
                (λ k m. (let n : k < length assigned = omega (arith, m, V.as_many) in taken_here entries new (first + k) (get_or assigned k 0) (are k n) (E.written.written k n))) I.left;
          })
      | else-own-eq1 w ↦
          let U = w.update_span.ensures in
          let new = w.update_span.new.values in
          let T = subst (λ (n : NetlistView). TakesEntries (targets_of n.processes c.args.process) entries old nets new w.update_span.new.nets) I.takes.brings.stay.net_stays U.takes in
          rw (w.values-is, w.nets-is) (record {
            takes = takes_then targets entries _ _ _ _ _ _ I.takes T;
            left = left_one entries old new spans i no_span l T.stay U.taken I.left;
          })
    ]

pub returns-clause-values : goal.returns-clause-values
returns-clause-values c =
    let I = c.loop-span.invariant in
    taken_values _ _ _ _ _ _ I.takes (none_left _ _ _ c.loop-span.span-index (omega (arith, c.loop-span-test.false)) I.left)

pub returns-clause-brings : goal.returns-clause-brings
returns-clause-brings c = c.loop-span.invariant.takes.brings
