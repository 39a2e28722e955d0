use Rattle.std.proofs.Common.{◌≡◌, drop}
use Rattle.vhdl_names_trees.specs.views.Integers.{static_view, static_chained}
use Rattle.vhdl_names_trees.proofs.integer.+copied.Given as goal

-- the links that are left, on what is done, give the whole
abbrev pub invariant-links_copied-loop-link : goal.invariant-links_copied-loop-link
invariant-links_copied-loop-link l = static_chained (static_view l.done) (drop l.link-index l.links) ≡ static_chained (static_view l.fn.first) l.links
