use Rattle.std.proofs.Common.{arith, map, ap, ◌∙◌, ◌∷◌, []}
use Rattle.std.specs.Prelude.{slice_index}
use Rattle.std.proofs.lemmas.List.{map-append}
use Rattle.vhdl_expand_tree.specs.Views.{object_view}
use Rattle.vhdl_elab.specs.Made.{element_view}
use Rattle.vhdl_elab.specs.Adding.{static_at}
use Rattle.vhdl_elab.proofs.Adding.{run_more, none_shown}
use Rattle.vhdl_elab.proofs.place.InstancePlace.push_elements.Goals as goal

pub loop-k-preserved : goal.loop-k-preserved
loop-k-preserved c =
    let o = object_view c.args.object.now in
    let start = c.start_at.ensures ∙ ap (λ vs. slice_index vs c.loop-k.k) c.as_slice.ensures in
    let own = none_shown (λ v. v.items) c.args.object.now.actual c.is_none.result c.is_none.ensures in
    record {
      count = omega (arith, c.loop-k.invariant.count, c.in_ok-push.ensures.len);
      made =
          ap (map element_view) c.in_ok-push.ensures.items ∙ map-append element_view c.loop-k.elements.items (_ ∷ [])
          ∙ run_more (static_at c.args.self.now.is_top c.args.self.now.nets.now o c.args.first) c.loop-k.k _ _ _ c.loop-k.invariant.made
          (λ i. record { at = o.at; role = c.of.ensures.role i; is_resolved = o.is_resolved; start = start i; net = c.net_at.ensures i; is_own = own i; is_top = c.of.ensures.top i });
    }
