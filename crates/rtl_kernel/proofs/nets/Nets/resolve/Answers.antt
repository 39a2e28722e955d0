use Rattle.std.proofs.Common.{ap, refl}
use Rattle.rtl_kernel.specs.worklists.Numbers.{Numbers}
use Rattle.rtl_kernel.proofs.Brought.{still_noted}
use Rattle.rtl_kernel.proofs.nets.Nets.resolve.Goals as goal

pub resolve_groups-requires-clause-groups : goal.resolve_groups-requires-clause-groups
resolve_groups-requires-clause-groups c = rw (← c.self.invariant.bound) c.members.ensures.below

pub resolve_groups-requires-clause-there : goal.resolve_groups-requires-clause-there
resolve_groups-requires-clause-there c = rw (← c.self.view_is) at c.requires

pub invariant_of-self : goal.invariant_of-self
invariant_of-self c =
    still_noted _ _ c.self.inside.values c.resolve_groups.new.values c.self.inside.noted c.clear.new.self c.self.invariant
    c.resolve_groups.ensures.groups c.resolve_groups.ensures.current.as_many (ap (λ (w : Numbers). w.bound) c.clear.ensures)

pub returns : goal.returns
returns c = rw (← c.self.view_is) (record {
  net_stays = refl;
  groups_stay = c.resolve_groups.ensures.groups;
  before_stays = c.resolve_groups.ensures.before;
  none_noted = ap (λ (w : Numbers). w.members) c.clear.ensures;
  current = rw (c.members.ensures.value) at c.resolve_groups.ensures.current;
})
