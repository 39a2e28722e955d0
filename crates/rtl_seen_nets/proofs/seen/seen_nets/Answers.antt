use Rattle.std.proofs.Common.{ℕ, ◌<◌, ◌++◌, ◌∷◌, List, [], Option, length, sym, ap, ◌∙◌, arith}
use Rattle.std.specs.Global.{Global}
use Rattle.std.specs.Prelude.{slice_get, Vec}
use Rattle.std.proofs.lemmas.List.FromFn.{map-range_with_len_more}
use Rattle.rtl_model.specs.nets.FlatNetlist.{flat_sources}
use Rattle.rtl_net.specs.declared.process.Process.{Process}
use Rattle.rtl_net.specs.Nets.{flat}
use Rattle.rtl_seen_nets.specs.Behind.{found_by}
use Rattle.rtl_seen_nets.specs.Drivers.{looked_in, seen_among}
use Rattle.rtl_seen_nets.specs.Lowest.{lowest}
use Rattle.rtl_seen_nets.proofs.Tables.{net-is}
use Rattle.rtl_seen_nets.proofs.seen.seen_nets.Goals as goal

pub loop-number-preserved : goal.loop-number-preserved
loop-number-preserved c =
    let net = c.args.net.now in
    let wanted = c.args.wanted.now in
    let n = c.loop-number.number in
    let found = c.in_ok-found.found.items in
    let are = λ (p place : ℕ). c.in_ok-found.ensures p place ∙ ap (λ (ps : List Process). lowest wanted (looked_in (slice_get ps p) place)) c.processes.ensures in
    let there : n < length net.types = (let h = c.loop-number-test.true in let e = c.loop-number.auto.number-end in let s = c.nets-number-end.ensures.count in omega arith) in
    let one = c.seen_by.ensures
    ∙ (ap (λ (xs : List (Vec (Option ℕ) Global)). found_by xs (flat_sources (flat net) n)) c.deref.ensures.value ∙ net-is wanted net found are n there) in
    c.in_ok-push.ensures.items
    ∙ ((λ i. c.loop-number.invariant i ++ one i ∷ []) ∙ sym (map-range_with_len_more (seen_among net wanted) 0 n n (omega arith)))
