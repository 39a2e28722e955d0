use Rattle.std.proofs.Common.{◌≡◌, true, false, cond, map, take, reverse, option_map, option_copied, Some, ap, sym, ◌∙◌}
use Rattle.std.specs.Prelude.{bytes_eq}
use Rattle.vhdl_names_sight.specs.Views.{declared_view, entry_of}
use Rattle.vhdl_names_sight.specs.Sights.{found}
use Rattle.vhdl_names_sight.proofs.Sights.{innermost_more}
use Rattle.vhdl_names_sight.proofs.sight.innermost.Goals as goal
use Rattle.vhdl_names_sight.proofs.sight.innermost.Goals.{then-eq, else-eq}

pub loop-parameter-preserved : goal.loop-parameter-preserved
loop-parameter-preserved c =
    let n = c.args.name.now in
    let d = c.parameter-item.result in
    let before = found (reverse (map declared_view (take c.loop-parameter.parameter-index c.args.parameters.now))) n in
    let more = innermost_more c.args.parameters.now c.loop-parameter.parameter-index d n c.loop-parameter-test.true c.parameter-item.is in
    elim c.if-eq.branch [
      | then-eq w ↦
          let same : bytes_eq c.args.name.now c.parameter-item.result.name.items ≡ true = ap (bytes_eq c.args.name.now) (sym c.as_slice.ensures.value) ∙ sym c.eq.ensures ∙ w.if-eq.true in
          more ∙ ap (λ b. cond b (Some (entry_of n d.entry)) before) same ∙ ap (λ o. option_map (entry_of n) (option_copied o)) (sym w.last-is)
      | else-eq w ↦
          let other : bytes_eq c.args.name.now c.parameter-item.result.name.items ≡ false = ap (bytes_eq c.args.name.now) (sym c.as_slice.ensures.value) ∙ sym c.eq.ensures ∙ w.if-eq.false in
          more ∙ ap (λ b. cond b (Some (entry_of n d.entry)) before) other ∙ c.loop-parameter.invariant ∙ ap (λ o. option_map (entry_of n) (option_copied o)) (sym w.last-is)
    ]
