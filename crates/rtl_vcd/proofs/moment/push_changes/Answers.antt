use Rattle.std.proofs.Common.{◌≡◌, ◌+◌, ◌-◌, ◌||◌, All, length, map, take, drop, ◌∙◌, subst, sym, ap, arith}
use Rattle.std.proofs.lemmas.List.{length-map, take_rest}
use Rattle.std.proofs.lemmas.List.Elements.{All-drop}
use Rattle.rtl_net.specs.Showing.{IsShown}
use Rattle.rtl_vcd.specs.Pages.{Passes}
use Rattle.rtl_vcd.specs.Ready.{AreReady}
use Rattle.rtl_vcd.proofs.Pages.{Passes-append}
use Rattle.rtl_net.specs.Nets.{signal_view}
use Rattle.rtl_vcd.specs.Trace.{are_some}
use Rattle.rtl_vcd.specs.Blocks.{changes_from, continued}
use Rattle.rtl_vcd.proofs.Names.{rest_of_names, length-rest}
use Rattle.rtl_vcd.proofs.Ends.{rest_ready}
use Rattle.rtl_vcd.proofs.Stamps.{changes_behind, continued_more, or_append}
use Rattle.rtl_vcd.proofs.moment.push_changes.Goals as goal

pub push_part-part-requires-clause-before : goal.push_part-part-requires-clause-before
push_part-part-requires-clause-before g c =
    let nets = length c.args.step.now.old.now in
    subst (All (IsShown nets)) (sym (rest_of_names c.args.names.now c.loop-next.next)) (All-drop (IsShown nets) c.loop-next.next (map signal_view c.args.names.now) c.requires.before)

pub push_part-part-requires-clause-after : goal.push_part-part-requires-clause-after
push_part-part-requires-clause-after g c =
    let nets = length c.args.step.now.new.now in
    subst (All (IsShown nets)) (sym (rest_of_names c.args.names.now c.loop-next.next)) (All-drop (IsShown nets) c.loop-next.next (map signal_view c.args.names.now) c.requires.after)

pub push_part-part-requires-clause-ready : goal.push_part-part-requires-clause-ready
push_part-part-requires-clause-ready g c =
    let next = c.loop-next.next in
    let names = c.args.names.now in
    let runs = c.args.runs.now in
    subst (λ ss. AreReady (c.args.first + next) ss (take (length runs - next) (drop next runs))) (sym (rest_of_names names next))
    (subst (AreReady (c.args.first + next) (drop next (map signal_view names))) (sym (take_rest runs next)) (rest_ready c.args.first (map signal_view names) runs next c.requires.runs))

pub loop-next-preserved : goal.loop-next-preserved
loop-next-preserved g c =
    let names = c.args.names.now in
    let views = map signal_view names in
    let next = c.loop-next.next in
    let part = c.push_part-part.result in
    let old = c.args.step.now.old.now in
    let new = c.args.step.now.new.now in
    let time = c.args.step.now.time in
    let first = g.W.Sink.state c.args.out.now in
    let before = g.W.Sink.state c.loop-next.out in
    let after = g.W.Sink.state c.push_part-part.new.out in
    let start = c.args.page.now in
    let held = c.loop-next.page in
    let holds = c.push_part-part.new.page in
    let I = c.loop-next.invariant in
    let earlier = changes_from c.args.first (take next views) old new in
    let these = changes_from (c.args.first + next) (take part.0 (drop next views)) old new in
    let more = changes_behind c.args.first next part.0 views old new (omega (arith, I.3, length-map names signal_view)) in
    let listed = rest_of_names names next in
    let text = subst (λ ss. Passes before after held holds (continued c.loop-next.printed time (changes_from (c.args.first + next) (take part.0 ss) old new))) listed c.push_part-part.ensures.text in
    let pushed = subst (λ b. Passes before after held holds (continued b time these)) I.1 text in
    let is = subst (λ ss. part.1 ≡ (c.loop-next.printed || are_some (changes_from (c.args.first + next) (take part.0 ss) old new))) listed c.push_part-part.ensures.printed in (
      subst (λ xs. Passes first after start holds (continued c.args.is_printed time xs)) (sym more)
          (subst (Passes first after start holds) (sym (continued_more c.args.is_printed time earlier these))
          (Passes-append _ _ _ _ _ _ _ _ I.0 pushed)),
      is ∙ ap (λ b. b || are_some these) I.1 ∙ sym (or_append c.args.is_printed earlier these) ∙ ap (λ xs. c.args.is_printed || are_some xs) (sym more),
      c.push_part-part.ensures.opened,
      omega (arith, c.push_part-part.ensures.within, length-rest next names, I.3),
    )
