use Rattle.std.proofs.Common.{◌≡◌, drop}
use Rattle.rtl_model.specs.bodies.Body as bodies
use Rattle.rtl_net.specs.Bodies.{links_of}
use Rattle.vhdl_expand_operands.proofs.copies.+copied.Given as goal

-- the links so far, and those that are left, give the whole
abbrev pub invariant-links_copied-loop-link : goal.invariant-links_copied-loop-link
invariant-links_copied-loop-link l = (left : bodies.Expr) → links_of left l.links ≡ links_of (links_of left l.list.items) (drop l.link-index l.links)
