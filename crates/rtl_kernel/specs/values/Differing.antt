-- Two valuations with the list of the groups whose nets may differ.
use Rattle.std.specs.Prelude.{◌≡◌, true, All, length}
use Rattle.rtl_net_groups.specs.Groups.{AreRuns}
use Rattle.rtl_kernel.specs.values.TwoValues.{TwoValues, CoverEvents, HasEventIn}
use Rattle.rtl_kernel.specs.declared.values.Values.TheInside.{Inside}

abbrev pub two_of : Inside → TwoValues
two_of v = record { groups = v.groups; before = v.before.items; current = v.current.items }

pub record IsCovered (v : Inside) : Type 0 where
  pub runs : AreRuns v.groups.of_net v.groups.first
  pub each_group : length v.groups.listed ≡ length v.groups.first
  pub each_net : length v.groups.of_net ≡ length v.current.items
  pub as_many : length v.before.items ≡ length v.current.items
  pub bound : v.changed.bound ≡ length v.groups.listed
  pub covers : CoverEvents (two_of v) v.changed.members
  pub sure : v.once ≡ true → All (HasEventIn (two_of v)) v.changed.members
