use Rattle.std.proofs.Common.{◌≡◌, filter}
use Rattle.std.specs.Prelude.{take}
use Rattle.std.specs.List.{range_with_len}
use Rattle.rtl_model.specs.basics.Valuations.{has_event}
use Rattle.rtlsim_commands.proofs.noting.changing.Given as goal

-- the nets so far
abbrev pub invariant-loop-number : goal.invariant-loop-number
invariant-loop-number l = l.numbers.items ≡ take 17 (filter (has_event l.before l.now) (range_with_len 0 l.number))
