use Rattle.std.proofs.Common.{◌<◌, length, refl, sym, ap, ◌∙◌, arith}
use Rattle.std.proofs.lemmas.Bool.Decides.{nat_tests}
use Rattle.std.proofs.lemmas.Option.{slice_get_read}
use Rattle.rtl_seen_nets.specs.Behind.{lowest_at, found_in}
use Rattle.rtl_seen_nets.proofs.seen.found_at.Goals as goal

pub returns-in-Some : goal.returns-in-Some
returns-in-Some c =
    let lookup = c.in-Some.ensures.lookup in
    let found = c.args.found.now in
    let there : c.args.process < length found = (let is = lookup.0 in grind (arith, nat_tests, is)) in
    let at = slice_get_read found (length found) c.args.process c.in-Some.places.now refl there lookup.1 in
    c.lowest_at.ensures ∙ (ap (λ xs. lowest_at xs c.args.place) c.deref.ensures.value ∙ ap (λ o. found_in o c.args.place) (sym at))
