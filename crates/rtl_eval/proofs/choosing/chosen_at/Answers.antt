use Rattle.std.proofs.Common.{ℕ, length, map, sym, ap, ◌∙◌, subst}
use Rattle.std.proofs.lemmas.List.{length-map}
use Rattle.rtl_model.specs.bodies.Values.{element_at, chosen_of}
use Rattle.rtl_net.specs.Bodies.{spacing_view}
use Rattle.rtl_net.specs.Indices.{numbers}
use Rattle.rtl_eval.specs.Rows.{BeginsAt, IsNowhere}
use Rattle.rtl_eval.proofs.Beginnings.{begun, begun_within, nowhere, map-part}
use Rattle.rtl_eval.proofs.choosing.chosen_at.Goals as goal

pub row_of-requires-clause-within : goal.row_of-requires-clause-within
row_of-requires-clause-within c =
    let s = spacing_view c.args.spacing in
    begun_within s (length (numbers c.args.places.now)) c.args.index.now c.in-Some.at (subst (λ (n : ℕ). BeginsAt s n c.args.index.now c.in-Some.at) c.len.ensures c.in-Some.ensures.some)

pub returns-in-Some : goal.returns-in-Some
returns-in-Some c =
    let s = spacing_view c.args.spacing in
    let ns = numbers c.args.places.now in
    let f = element_at c.args.values.now in
    let at = c.in-Some.at in
    let b = subst (λ (n : ℕ). BeginsAt s n c.args.index.now at) (c.len.ensures ∙ sym (length-map ns f)) c.in-Some.ensures.some in
    c.row_of.ensures ∙ sym (map-part f ns at s.len) ∙ sym (ap (chosen_of s.len) (begun s (map f ns) c.args.index.now at b))

pub returns-in-None : goal.returns-in-None
returns-in-None c =
    let s = spacing_view c.args.spacing in
    let ns = numbers c.args.places.now in
    let f = element_at c.args.values.now in
    let past = subst (λ (n : ℕ). IsNowhere s n c.args.index.now) (c.len.ensures ∙ sym (length-map ns f)) c.in-None.ensures.none in
    c.fill.ensures.list ∙ sym (ap (chosen_of s.len) (nowhere s (map f ns) c.args.index.now past))
