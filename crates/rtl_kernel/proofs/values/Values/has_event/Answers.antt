use Rattle.std.proofs.Common.{◌≡◌, ◌<◌, ◌≤◌, ℕ, true, length, sym, subst, arith}
use Rattle.std.specs.List.{between}
use Rattle.std.proofs.lemmas.Slice.Eq.{bytes_eq-Decides}
use Rattle.rtl_net_groups.specs.Groups.{AreNetsOf}
use Rattle.rtl_model.specs.basics.Valuations.{has_event}
use Rattle.rtl_model.proofs.simulation.Rows.{differs_event}
use Rattle.rtl_kernel.proofs.Events.{same_no_event}
use Rattle.rtl_kernel.proofs.Runs.{alike, differing, part_differs, part_same}
use Rattle.rtl_kernel.proofs.values.Values.has_event.Goals as goal

nets_of : (c : goal.After-are_other) → AreNetsOf c.self.inside.groups c.args.group c.first-first.result c.end-end.result
nets_of c = subst (λ (f : ℕ). AreNetsOf c.self.inside.groups c.args.group f c.end-end.result) (sym c.first-first.ensures) c.end-end.ensures

pub returns-clause-yes : goal.returns-clause-yes
returns-clause-yes c told =
    let I = c.self.invariant in
    let before = c.self.inside.before.items in
    let current = c.self.inside.current.items in
    let first = c.first-first.result in
    let end = c.end-end.result in
    let N = nets_of c in
    let test = rw (c.deref.ensures.value, c.deref-2.ensures.value) at c.are_other.ensures in
    let in_current : end ≤ length current = omega (arith, N.within, I.each_net) in
    let in_before : end ≤ length before = omega (arith, in_current, I.as_many) in
    let differ = differing _ c.are_other.result (bytes_eq-Decides (between first end before) (between first end current)) test told in
    let (n, low, high, other) = part_differs before current first end in_before in_current differ in
    let within : n < length c.self.inside.groups.of_net = omega (arith, high, N.within) in
    rw (← c.self.view_is) (n, (N.each n within).1 (low, high), within, differs_event before current n other)

pub returns-clause-no : goal.returns-clause-no
returns-clause-no c told n l own event =
    let before = c.self.inside.before.items in
    let current = c.self.inside.current.items in
    let first = c.first-first.result in
    let end = c.end-end.result in
    let N = nets_of c in
    let within = rw (← c.self.view_is) at l in
    let mine = rw (← c.self.view_is) at own in
    let has : has_event before current n ≡ true = rw (← c.self.view_is) at event in
    let test = rw (c.deref.ensures.value, c.deref-2.ensures.value) at c.are_other.ensures in
    let same : between first end before ≡ between first end current = alike _ c.are_other.result (bytes_eq-Decides (between first end before) (between first end current)) test told in
    let (low, high) = (N.each n within).0 mine in
    let none = same_no_event before current n (part_same before current first end n same low high) in
    absurd cc
