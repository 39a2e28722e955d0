use Rattle.std.proofs.Common.{ap, sym, ◌∙◌}
use Rattle.vhdl_slips.specs.Parts.{first_of}
use Rattle.vhdl_slips.proofs.choice.first_choice.Goals as goal

pub returns : goal.returns
returns c = ap first_of (sym c.in_ok-choice.ensures.value ∙ c.whole.ensures.choices)
