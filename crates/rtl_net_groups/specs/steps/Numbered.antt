-- Nets that are numbered by groups, up to some net.
use Rattle.std.specs.Prelude.{◌≡◌, ℕ, ◌+◌, ◌<◌, Bool, List, length, slice_index}
use Rattle.rtl_net_groups.specs.Groups.{AreRuns}
use Rattle.rtl_net_groups.specs.steps.Marks.{IsUnmarked}

pub record IsNumbered (begins : List Bool) (of_net first : List ℕ) : Type 0 where
  pub runs : AreRuns of_net first
  -- the last net is in the last group
  pub last : (n : ℕ) → n + 1 ≡ length of_net → slice_index of_net n + 1 ≡ length first
  -- a net that is in the group of the one before it isn't marked
  pub same : (n : ℕ) → n + 1 < length of_net
      → slice_index of_net (n + 1) ≡ slice_index of_net n → IsUnmarked begins (n + 1)
