use Rattle.std.proofs.Common.{ap}
use Rattle.std.specs.Prelude.{option_map}
use Rattle.vhdl_expand_tree.specs.Views.{object_view}
use Rattle.vhdl_elab.proofs.Adding.{own_there, own_absent}
use Rattle.vhdl_elab.proofs.nets.push_own_kinds.Goals as goal

pub returns-in-None : goal.returns-in-None
returns-in-None c = own_there c.push_kinds.result (object_view c.args.object.now) _ _ _ (ap (option_map (λ v. v.items)) c.in-None.is) c.push_kinds.ensures

pub returns-in-Some : goal.returns-in-Some
returns-in-Some c = own_absent (object_view c.args.object.now) _ _ _ (ap (option_map (λ v. v.items)) c.in-Some.is)
