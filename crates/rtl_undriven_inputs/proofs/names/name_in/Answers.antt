use Rattle.std.proofs.Common.{Some, ap, sym, ◌∙◌}
use Rattle.rtl_undriven_inputs.proofs.Inserting.{named, same_named}
use Rattle.rtl_undriven_inputs.proofs.names.name_in.Goals as goal

pub returns-in-At : goal.returns-in-At
returns-in-At c = sym (ap named (c.in-Some.is ∙ ap Some c.in-At.is)) ∙ same_named _ _ c.form_of.ensures

pub returns-in-Clock : goal.returns-in-Clock
returns-in-Clock c = sym (ap named (c.in-Some.is ∙ ap Some c.in-Clock.is)) ∙ same_named _ _ c.form_of.ensures

pub returns-in-Stop : goal.returns-in-Stop
returns-in-Stop c = sym (ap named (c.in-Some.is ∙ ap Some c.in-Stop.is)) ∙ same_named _ _ c.form_of.ensures

pub returns-in-None : goal.returns-in-None
returns-in-None c = sym (ap named c.in-None.is) ∙ same_named _ _ c.form_of.ensures
