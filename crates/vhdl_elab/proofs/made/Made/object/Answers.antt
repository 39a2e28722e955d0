use Rattle.std.proofs.Common.{map, ap, sym, refl, ◌∙◌, ◌++◌, ◌∷◌, []}
use Rattle.std.proofs.lemmas.List.{append-nil, map-append}
use Rattle.rtl_net.specs.Nets.{signal_view, type_of}
use Rattle.vhdl_expand_tree.specs.Views.{object_view}
use Rattle.vhdl_elab.specs.Made.{element_view}
use Rattle.vhdl_elab.specs.Adding.{own_types, own_starts, object_statics}
use Rattle.vhdl_elab.proofs.made.Made.object.Goals as goal

pub returns-clause-made : goal.returns-clause-made
returns-clause-made c =
    let o = object_view c.args.object.now in
    let place = c.args.place.now in
    let old = c.args.self.now in
    record {
      scopes = refl;
      signals =
          ap (map signal_view) c.in_ok-push.ensures.items ∙ map-append signal_view old.signals.items (_ ∷ [])
          ∙ ap (λ s. map signal_view old.signals.items ++ s ∷ []) c.in_ok-signal.ensures;
      processes = refl;
      kinds = c.in_ok-push_own_kinds.ensures ∙ ap (λ ts. map type_of old.kinds.items ++ ts) (sym (append-nil (own_types o)));
      defaults = c.in_ok-push_own_defaults.ensures ∙ ap (λ vs. old.defaults.items ++ vs) (sym (append-nil (own_starts o)));
      elements = c.in_ok-push_elements.ensures.made ∙ ap (λ es. map element_view old.elements.items ++ es) (sym (append-nil (object_statics place.is_top place.nets.now c.args.first o)));
      uses = refl;
    }
