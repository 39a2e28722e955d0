use Rattle.std.proofs.Common.{◌≡◌, ◌++◌, All, map, drop}
use Rattle.rtl_net.specs.Nets.{signal_view}
use Rattle.rtl_lost_integers.specs.Lost.{integers_from, integers_of}
use Rattle.rtl_lost_integers.specs.Watching.{integers_view, is_fresh}
use Rattle.rtl_lost_integers.proofs.integer.integers_of.Given as goal

-- those of the signals before this number
abbrev pub invariant-loop-number : goal.invariant-loop-number
invariant-loop-number l = record {
  fresh : All is_fresh l.integers.items;
  found : integers_view l.integers.items ++ integers_from l.number (drop l.number (map signal_view l.signals)) ≡ integers_of l.net;
}
