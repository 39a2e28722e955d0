use Rattle.std.proofs.Common.{length, ap, refl, subst, ◌∙◌}
use Rattle.rtl_kernel.specs.kernel.Simulation.{changes_of}
use Rattle.rtl_kernel.specs.values.TwoValues.{TwoValues, AreChanged}
use Rattle.rtl_kernel.proofs.Brought.{still_noted}
use Rattle.rtl_kernel.proofs.nets.Nets.give.Goals as goal

pub set_all-requires : goal.set_all-requires
set_all-requires c =
    let there = rw (← c.self.view_is) at c.requires in
    λ k d l. rw (ap (λ (v : TwoValues). v.current) c.begin.ensures, c.self.invariant.each_net) (there k d l)

pub invariant_of-self : goal.invariant_of-self
invariant_of-self c =
    still_noted _ _ c.self.inside.values c.set_all.new.self c.self.inside.noted c.self.inside.noted c.self.invariant
    (c.set_all.ensures.groups ∙ ap (λ (v : TwoValues). v.groups) c.begin.ensures)
    (c.set_all.ensures.current.as_many ∙ ap (λ (v : TwoValues). length v.current) c.begin.ensures) refl

pub returns : goal.returns
returns c = rw (← c.self.view_is) (record {
  net_stays = refl;
  groups_stay = c.set_all.ensures.groups ∙ ap (λ (v : TwoValues). v.groups) c.begin.ensures;
  before = c.set_all.ensures.before ∙ ap (λ (v : TwoValues). v.before) c.begin.ensures;
  current = subst (λ (v : TwoValues). AreChanged (changes_of c.args.changes.now) v.current c.set_all.new.self.current) c.begin.ensures c.set_all.ensures.current;
  noted_stay = refl;
})
