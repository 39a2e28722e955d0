use Rattle.std.proofs.Common.{sym, ◌∙◌}
use Rattle.std.proofs.lemmas.Bool.{not-true}
use Rattle.rtl_net_groups.proofs.Lanes.{same_from}
use Rattle.rtl_vcd_values.proofs.characters.are_same_lanes.Goals as goal

pub returns : goal.returns
returns g c = λ e. same_from _ _ (sym (not-true c.are_different.result e) ∙ c.are_different.ensures)
