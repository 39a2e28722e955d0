use Rattle.std.proofs.Common.{◌∙◌, sym}
use Rattle.std.proofs.lemmas.List.{length-map}
use Rattle.vhdl_values.specs.Logic.{not_of, not_of_all}
use Rattle.vhdl_values.proofs.Remade.{map-strip-not}
use Rattle.vhdl_values.proofs.vector.Vec9.not.Goals as goal

pub returns-clause-list : goal.returns-clause-list
returns-clause-list c =
    c.of_stripped.ensures (not_of_all c.args.self.now) (c.not.ensures c.args.self.now c.stripped.ensures) (length-map c.args.self.now not_of ∙ sym c.len.ensures.len)
    ∙ map-strip-not c.args.self.now
