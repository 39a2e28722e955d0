use Rattle.std.proofs.Common.{◌≡◌, ℕ, ◌≤◌, true, List, [], ◌∷◌, length, map, slice_index_or, ap, refl, sym, subst, ◌∙◌, arith}
use Rattle.std.specs.List.{list_any}
use Rattle.std.specs.Prelude.{◌==◌}
use Rattle.rtl_net.specs.Nets.{signal_view}
use Rattle.rtl_net.specs.declared.signal.Signal.{Signal}
use Rattle.rtlsim_refusals.specs.Races.{name_with}
use Rattle.rtlsim_refusals.proofs.race.name_with.Goals as goal

first_has : (net : ℕ) (signals : List Signal) (signal : Signal) → 1 ≤ length signals → signal ≡ slice_index_or signals 0 signal
    → list_any (λ n. n == net) signal.nets.items ≡ true → signal.name.items ≡ name_with net (map signal_view signals)
first_has net [] signal some is has = absurd (omega (arith, some))
first_has net (s ∷ signals) signal some is has =
    let has_it : list_any (λ n. n == net) s.nets.items ≡ true = subst (λ (s : Signal). list_any (λ n. n == net) s.nets.items ≡ true) is has in
    ap (λ (s : Signal). s.name.items) is ∙ sym (rw has_it refl)

pub returns-then-contains : goal.returns-then-contains
returns-then-contains c =
    let has = ap (list_any (λ n. n == c.args.net)) (sym c.deref.ensures) ∙ sym c.contains.ensures.value ∙ c.if-contains.true in
    c.deref-then-contains.ensures.value ∙ first_has c.args.net c.loop-signals.signals.now _ c.in-len1-up.len_at_least c.signal-item.is has ∙ c.loop-signals.invariant
