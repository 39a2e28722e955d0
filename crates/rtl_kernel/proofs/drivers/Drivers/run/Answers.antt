use Rattle.std.proofs.Common.{◌≡◌, ◌<◌, arith, sym, ap, subst, ◌∙◌, get_or, length, []}
use Rattle.std.proofs.lemmas.Bool.{eqb-true, eqb-false}
use Rattle.std.proofs.lemmas.List.{get_or-set_same}
use Rattle.std.proofs.lemmas.List.FromFn.{length-map-range_with_len}
use Rattle.rtl_drives.specs.Outcomes.{Outcome}
use Rattle.rtl_drives.specs.Spans.{places_of}
use Rattle.rtl_drives.specs.Tracked.{AreAssigned}
use Rattle.rtl_drives.proofs.Places.{no_places}
use Rattle.rtl_model.proofs.basics.Lists.{get_or-map_within}
use Rattle.rtl_kernel.specs.drivers.Tracked.{transactions_of}
use Rattle.rtl_kernel.specs.drivers.Transactions.{no_outcome, pending_of}
use Rattle.rtl_kernel.proofs.Active.{tracked_idle, tracked_active}
use Rattle.rtl_kernel.proofs.drivers.Drivers.run.Given.{Over}
use Rattle.rtl_kernel.proofs.drivers.Drivers.run.Goals as goal
use Rattle.rtl_kernel.proofs.drivers.Drivers.run.Goals.{After-is_empty}

-- once it has run
module _ (g : Over) (c : After-is_empty g) where
  there : c.args.process < length c.self.inside.outcomes.items
  there = rw (← c.self.view_is) at c.requires.there

  as_many : length c.run.new.out.entries ≡ length (get_or (pending_of c.self.inside.outcomes.items) c.args.process [])
  as_many =
      let own = rw (← c.self.view_is) at c.requires.own in
      ap length c.run.ensures.entries_are ∙ length-map-range_with_len _ 0 _ ∙ sym own.each_driver
      ∙ sym (ap length (get_or-map_within (λ (x : Outcome). x.entries) c.self.inside.outcomes.items c.args.process no_outcome [] there))

  assigned : AreAssigned c.run.new.out.entries (places_of c.assigned.result.now)
  assigned =
      let same = c.index.ensures ∙ get_or-set_same c.self.inside.outcomes.items c.args.process c.run.new.out c.index.result.now there in
      subst (λ (x : Outcome). AreAssigned x.entries (places_of c.assigned.result.now)) same c.assigned.ensures.places

pub invariant_of-self : goal.invariant_of-self
invariant_of-self g c =
    let at = (goal.at.invariant_of-self g c).After-is_empty in
    let quiet = rw (← c.self.view_is) at c.requires.quiet in
    let differ = eqb-false (length c.assigned.result.now) 0 (sym c.is_empty.ensures ∙ c.if-not-is_empty.true) in
    let some : 0 < length (places_of c.assigned.result.now) = omega (arith, differ, c.assigned.ensures.few) in
    tracked_active (transactions_of c.self.inside) c.self.inside.active c.self.invariant c.args.process c.run.new.out (there g at) (as_many g at) (places_of c.assigned.result.now) (assigned g at) quiet
    c.insert.new.self some c.insert.ensures.with

pub invariant_of-self-else-not-is_empty : goal.invariant_of-self-else-not-is_empty
invariant_of-self-else-not-is_empty g c =
    let at = (goal.at.invariant_of-self-else-not-is_empty g c).After-is_empty in
    let quiet = rw (← c.self.view_is) at c.requires.quiet in
    let none = no_places c.assigned.result.now (eqb-true (length c.assigned.result.now) 0 (sym c.is_empty.ensures ∙ c.if-not-is_empty.false)) in
    tracked_idle (transactions_of c.self.inside) c.self.inside.active c.self.invariant c.args.process c.run.new.out (there g at) (as_many g at) (places_of c.assigned.result.now) (assigned g at) quiet none
