use Rattle.std.proofs.Common.{◌∷◌, [], ◌++◌, map, ap, ◌∙◌, subst}
use Rattle.vhdl_elab_rules.specs.Numbering.{driven_in, read_in}
use Rattle.vhdl_expand_tree.specs.Views.{object_view, parts_of}
use Rattle.vhdl_connect.specs.Uses.{AreUses}
use Rattle.vhdl_elab.specs.Adding.{Declares, elements_count}
use Rattle.vhdl_elab.proofs.Uses.{uses_listed}
use Rattle.vhdl_elab.proofs.made.Made.declare.Goals as goal

pub returns-clause-made : goal.returns-clause-made
returns-clause-made c =
    let place = c.args.place.now in
    let objects = c.args.from.now.objects.items in
    let parts = parts_of c.args.from.now.parts.items in
    let declares =
    subst (λ xs. Declares place 0 (map object_view xs) c.args.self.now c.objects.new.self) c.deref_mut.ensures.value
    c.in_ok-elements.ensures.made in
    let count =
    c.in_ok-uses.ensures.length ∙ c.in_ok-elements.ensures.count
    ∙ ap (λ xs. elements_count (map object_view xs)) c.deref_mut.ensures.value in
    let each =
    subst (λ xs. AreUses (driven_in (parts_of xs)) (read_in (parts_of xs)) c.in_ok-uses.uses.items) c.deref.ensures.value
    c.in_ok-uses.ensures.each in
    let uses =
    c.deref-2.ensures.value
    ∙ uses_listed (driven_in parts) (read_in parts) c.in_ok-uses.uses.items (elements_count (map object_view objects)) count each in
    record {
      scopes = c.in_ok-push.ensures.items ∙ (λ i. (declares.scopes i).items ++ c.args.scope ∷ []);
      signals = declares.signals;
      processes = declares.processes;
      kinds = declares.kinds;
      defaults = declares.defaults;
      elements = declares.elements;
      uses = c.in_ok-extend_from_slice.ensures.items ∙ (λ i. (declares.uses i).items ++ uses i);
    }
