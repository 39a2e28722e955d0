use Rattle.std.proofs.Common.{◌≡◌, false, length}
use Rattle.vhdl_lexer.specs.Cut.{AreWithin}
use Rattle.vhdl_names_further.specs.Known.{is_found}
use Rattle.vhdl_names_further.proofs.knowing.is_found.Given as goal

-- the tokens that are left decide
abbrev pub invariant-loop-others : goal.invariant-loop-others
invariant-loop-others l =
    (is_found l.source l.left l.name l.at l.anywhere l.counts l.found l.others ≡ is_found l.source l.left l.name l.at l.anywhere l.anywhere false l.tokens)
    × AreWithin l.source l.others

abbrev pub decreases-loop-others : goal.decreases-loop-others
decreases-loop-others l = length l.others
