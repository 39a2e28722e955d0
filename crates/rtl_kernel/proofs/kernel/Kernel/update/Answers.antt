use Rattle.std.proofs.Common.{◌≡◌, ◌∙◌, ℕ, List, ap, refl, sym, subst}
use Rattle.rtl_kernel.specs.drivers.Brought.{NotedNets, BringsAll, begun}
use Rattle.rtl_kernel.specs.drivers.DriverCuts.{AreDriverCuts}
use Rattle.rtl_kernel.specs.drivers.Transactions.{HaveEntries}
use Rattle.rtl_kernel.specs.values.TwoValues.{TwoValues}
use Rattle.rtl_kernel.proofs.Kept as kept
use Rattle.rtl_kernel.proofs.kernel.Kernel.update.Goals as goal

pub update-requires-clause-entries : goal.update-requires-clause-entries
update-requires-clause-entries g c =
    subst (λ (n : NotedNets). HaveEntries n.net.processes c.self.inside.drivers.outcomes) (sym c.begin.ensures) (kept.have_entries c.self.invariant)

pub update-requires-clause-cuts : goal.update-requires-clause-cuts
update-requires-clause-cuts g c =
    subst (λ (n : NotedNets). AreDriverCuts n.net n.values.groups c.self.inside.cuts) (sym c.begin.ensures) c.self.invariant.of_net.are_cuts

-- the drivers' new values are brought to the nets
brings : (k b n : NotedNets) (old new : List (List ℕ)) → b ≡ begun k → BringsAll b.net.processes old new b n → BringsAll k.net.processes old new (begun k) n
brings k b n old new is B = subst (λ (m : NotedNets). BringsAll m.net.processes old new m n) is B

pub resolve-requires : goal.resolve-requires
resolve-requires g c = rw (c.values.ensures) (kept.sources_stand c.self.invariant _ c.update.new.nets c.update.ensures.drivers (brings c.self.inside.nets _ _ _ _ c.begin.ensures c.update.ensures.brings))

pub resume-requires-clause-processes : goal.resume-requires-clause-processes
resume-requires-clause-processes g c =
    kept.wakers_there c.self.invariant _
    (ap (λ (v : TwoValues). v.groups) c.values-2.ensures.value ∙ c.resolve.ensures.groups_stay ∙ (brings c.self.inside.nets _ _ _ _ c.begin.ensures c.update.ensures.brings).stay.groups_stay)

pub invariant_of-self : goal.invariant_of-self
invariant_of-self g c =
    kept.kept_updated c.self.invariant _ c.update.new.nets c.update.ensures.drivers (brings c.self.inside.nets _ _ _ _ c.begin.ensures c.update.ensures.brings) c.resolve.new.self (rw (c.values.ensures) at c.resolve.ensures)
    c.update.new.self c.resume.new.self refl c.update.ensures.outcomes c.resume.ensures.as_many (rw (c.values-2.ensures.value) at c.resume.ensures.woken)

pub returns : goal.returns
returns g c = rw (← c.self.view_is) (record {
  net = c.resolve.ensures.net_stays ∙ (brings c.self.inside.nets _ _ _ _ c.begin.ensures c.update.ensures.brings).stay.net_stays;
  state = kept.is_updated c.self.invariant _ c.update.new.nets c.update.ensures.drivers (brings c.self.inside.nets _ _ _ _ c.begin.ensures c.update.ensures.brings) c.resolve.new.self (rw (c.values.ensures) at c.resolve.ensures)
      c.update.new.self c.resume.new.self refl c.update.ensures.outcomes c.resume.ensures.as_many (rw (c.values-2.ensures.value) at c.resume.ensures.woken);
})
