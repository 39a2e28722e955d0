use Rattle.std.proofs.Common.{◌≡◌, take}
use Rattle.std.specs.Prelude.{option_map}
use Rattle.vhdl_names_trees.specs.views.Tests.{test_chained}
use Rattle.vhdl_names_registers.specs.Looking.{named_view, seen, seen_view}
use Rattle.vhdl_names_registers.proofs.Parting.{begin_view}
use Rattle.vhdl_names_registers.proofs.seen.+seen_in.Given as goal

-- what is known of the chain up to a link
abbrev pub invariant-loop-link : goal.invariant-loop-link
invariant-loop-link l = seen_view l.all ≡ seen (option_map named_view l.place) (test_chained (begin_view l.test) (take l.link-index l.link-items))
