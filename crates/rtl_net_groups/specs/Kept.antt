-- How groups and cuts are kept.
use Rattle.std.specs.Prelude.{◌≡◌, ◌<◌, All, length}
use Rattle.rtl_net_groups.specs.Groups.{Grouping}
use Rattle.rtl_net_groups.specs.declared.groups.Groups.TheInside.{Inside}

abbrev pub grouping_of : Inside → Grouping
grouping_of g = record { of_net = g.runs.of_net.items; first = g.runs.first.items; listed = g.listed }

pub record IsGrouping (g : Inside) : Type 0 where
  pub each_group : length g.listed ≡ length g.runs.first.items
  pub there : All (λ group. group < length g.listed) g.runs.of_net.items
