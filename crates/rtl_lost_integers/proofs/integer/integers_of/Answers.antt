use Rattle.std.proofs.Common.{◌≡◌, ℕ, ◌+◌, ◌<◌, List, ◌∷◌, ◌++◌, length, get_or, drop, map, sym, ap, ◌∙◌, append_assoc, add-one, arith}
use Rattle.std.proofs.lemmas.List.{at_drop_more, get_or-map, length-map}
use Rattle.rtl_net.specs.Nets.{SignalView, signal_view}
use Rattle.rtl_lost_integers.specs.Lost.{IntegerView, integers_from, of_kind}
use Rattle.rtl_lost_integers.specs.Watching.{integers_view}
use Rattle.rtl_lost_integers.proofs.integer.integers_of.Goals as goal

pub loop-number-preserved : goal.loop-number-preserved
loop-number-preserved c =
    let l = c.loop-number in
    let ss = c.signals-signals.result.now in
    let views = map signal_view ss in
    let s = c.index-signals-number.result in
    let old = integers_view l.integers.items in
    let one = of_kind s.kind l.number s.nets.items in
    let rest = drop (l.number + 1) views in
    let there : l.number < length ss = omega arith in
    let within : l.number < length views = omega (arith, length-map ss signal_view) in
    let here : get_or views l.number (signal_view s) ≡ signal_view s = get_or-map signal_view ss l.number s (signal_view s) there ∙ ap signal_view (sym c.index-signals-number.is) in
    record {
      fresh = c.in_ok-push_integer.ensures.fresh l.invariant.fresh;
      found =
          ap (λ (vs : List IntegerView). vs ++ integers_from (l.number + 1) rest) c.in_ok-push_integer.ensures.integers ∙ append_assoc old one (integers_from (l.number + 1) rest)
          ∙ ap (λ (k : ℕ). old ++ (one ++ integers_from k rest)) (add-one l.number)
          ∙ sym (at_drop_more (λ (vs : List SignalView). old ++ integers_from l.number vs) views l.number (signal_view s) within
          ∙ ap (λ (v : SignalView). old ++ integers_from l.number (v ∷ rest)) here)
          ∙ l.invariant.found;
    }
