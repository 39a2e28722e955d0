use Rattle.vhdl_elab_rules.proofs.laws.Scopes.{each-scope-follows}
use Rattle.vhdl_elab_rules.proofs.elaboration_laws.scopes_follow_the_text.Goals as goal

pub returns : goal.returns
returns c = each-scope-follows
