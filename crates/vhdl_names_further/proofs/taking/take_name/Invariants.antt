use Rattle.std.proofs.Common.{◌≡◌, ◌+◌, ◌≤◌, length}
use Rattle.vhdl_lexer.specs.Cut.{AreWithin}
use Rattle.vhdl_names_further.specs.Taken.{statements_of, with_name, without}
use Rattle.vhdl_names_further.specs.Once.{IsOut}
use Rattle.vhdl_names_further.proofs.Walks.{Walked}
use Rattle.vhdl_names_further.proofs.taking.take_name.Given as goal

-- what the tokens that are left take out decides
abbrev pub invariant-loop-others : goal.invariant-loop-others
invariant-loop-others l = record {
  same : without (statements_of l.tokens (with_name l.source l.name l.at l.others)) l.left
      ≡ without (statements_of l.tokens (with_name l.source l.name l.at l.tokens)) l.initial.left;
  walked : Walked l.tokens l.others l.here l.depth l.last;
  out : IsOut l.is_out l.here l.left;
  within : AreWithin l.source l.others;
  few : l.depth + length l.others ≤ length l.tokens;
}

abbrev pub decreases-loop-others : goal.decreases-loop-others
decreases-loop-others l = length l.others
