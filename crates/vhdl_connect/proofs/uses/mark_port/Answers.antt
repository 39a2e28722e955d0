use Rattle.std.proofs.Common.{Some, ap, sym, ◌∙◌}
use Rattle.std.specs.Prelude.{option_map}
use Rattle.vhdl_expand_tree.specs.Views.{object_view, role_view}
use Rattle.vhdl_connect.proofs.Marking.{input_marked, output_marked, internal_marked, open_marked}
use Rattle.vhdl_connect.proofs.uses.mark_port.Goals as goal

pub returns-in-Input : goal.returns-in-Input
returns-in-Input c = λ driven read h.
    input_marked (object_view c.args.object.now) driven read c.mark_read.new.uses _ (ap role_view c.in-Input.is)
    (ap (option_map (λ v. v.items)) c.in-Some.is ∙ ap Some (sym c.deref.ensures.value)) (c.mark_read.ensures driven read h)

pub returns-in-Output : goal.returns-in-Output
returns-in-Output c = λ driven read h.
    output_marked (object_view c.args.object.now) driven read c.mark_driven.new.uses _ (ap role_view c.in-Output.is)
    (ap (option_map (λ v. v.items)) c.in-Some.is ∙ ap Some (sym c.deref-in-Output.ensures.value)) (c.mark_driven.ensures driven read h)

pub returns-in-Internal : goal.returns-in-Internal
returns-in-Internal c = λ driven read h.
    internal_marked (object_view c.args.object.now) driven read c.args.uses.now _ (ap role_view c.in-Internal.is) (ap (option_map (λ v. v.items)) c.in-Some.is) h

pub returns-in-None : goal.returns-in-None
returns-in-None c = λ driven read h. open_marked (object_view c.args.object.now) driven read c.args.uses.now (ap (option_map (λ v. v.items)) c.in-None.is) h
