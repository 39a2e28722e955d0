use Rattle.std.proofs.Common.{◌+◌, ◌==◌, Bool, List, map, drop, Some, ℕ, Bor, sym, ap, ◌∙◌, arith}
use Rattle.std.specs.Prelude.{if◌then◌else◌}
use Rattle.std.proofs.lemmas.List.{length-map, drop_all}
use Rattle.rtl_net.specs.Nets.{signal_view}
use Rattle.rtl_signal_names.specs.Chosen.{idle_from}
use Rattle.rtl_signal_names.proofs.Choosing.{texts, idle_next}
use Rattle.rtl_signal_names.proofs.chosen.idle_place.Goals as goal

pub returns-then-is_empty : goal.returns-then-is_empty
returns-then-is_empty c =
    let net = c.args.net.now in
    let names = c.args.names.now in
    let k = c.loop-place.place in
    let found = c.in_ok-found.found in
    let is = ap (λ (n : ℕ). n == 0) (length-map found.items signal_view ∙ sym found.ok.0) ∙ sym c.is_empty.ensures ∙ c.if-is_empty.true in
    sym (c.loop-place.invariant ∙ idle_next net names k (map signal_view found.items) c.loop-place-test.true c.in_ok-found.ensures
    ∙ ap (λ (b : Bool). if b then Some (k + 1) else idle_from (k + 1 + 1) (texts (drop (k + 1) names)) net) is)

pub loop-place-preserved : goal.loop-place-preserved
loop-place-preserved c =
    let net = c.args.net.now in
    let names = c.args.names.now in
    let k = c.loop-place.place in
    let found = c.in_ok-found.found in
    let is = ap (λ (n : ℕ). n == 0) (length-map found.items signal_view ∙ sym found.ok.0) ∙ sym c.is_empty.ensures ∙ c.if-is_empty.false in
    c.loop-place.invariant ∙ idle_next net names k (map signal_view found.items) c.loop-place-test.true c.in_ok-found.ensures
    ∙ ap (λ (b : Bool). if b then Some (k + 1) else idle_from (k + 1 + 1) (texts (drop (k + 1) names)) net) is

pub returns : goal.returns
returns c =
    let k = c.loop-place.place in
    sym (c.loop-place.invariant ∙ ap (λ (ns : List (Bor (List ℕ))). idle_from (k + 1) (texts ns) c.args.net.now) (drop_all k c.args.names.now (omega (arith, c.loop-place-test.false))))
