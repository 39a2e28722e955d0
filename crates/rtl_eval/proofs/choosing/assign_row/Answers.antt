use Rattle.std.proofs.Common.{ℕ, List, Option, length, map, take, drop, sym, ap, ◌∙◌, subst, arith}
use Rattle.vhdl_values.specs.Scalar.{code_of}
use Rattle.rtl_model.specs.bodies.Values.{targets_at, given_at}
use Rattle.rtl_net.specs.Bodies.{spacing_view}
use Rattle.rtl_net.specs.Indices.{numbers}
use Rattle.rtl_eval.specs.Running.{assigned}
use Rattle.rtl_eval.specs.Rows.{BeginsAt, IsNowhere}
use Rattle.rtl_eval.proofs.Beginnings.{begun, begun_within, nowhere}
use Rattle.rtl_eval.proofs.choosing.assign_row.Goals as goal

pub assign_part-requires-clause-within : goal.assign_part-requires-clause-within
assign_part-requires-clause-within c =
    let s = spacing_view c.args.spacing in
    let b = subst (λ (n : ℕ). BeginsAt s n c.args.index.now c.in-Some.at) c.len.ensures c.in-Some.ensures.some in
    omega (arith, c.requires.as_long, begun_within s (length (numbers c.args.places.now)) c.args.index.now c.in-Some.at b)

pub returns-in-Some : goal.returns-in-Some
returns-in-Some c =
    let s = spacing_view c.args.spacing in
    let ns = numbers c.args.places.now in
    let o = c.args.out.now in
    let codes = map code_of c.args.value.now in
    let b = subst (λ (n : ℕ). BeginsAt s n c.args.index.now c.in-Some.at) c.len.ensures c.in-Some.ensures.some in
    c.assign_part.ensures
    ∙ ap (λ (n : ℕ). record o { entries = assigned (take n (drop c.in-Some.at ns)) codes o.entries }) (sym c.requires.as_long)
    ∙ sym (ap (λ (row : Option (List ℕ)). record o { entries = assigned (targets_at ns row) (given_at ns row codes) o.entries }) (begun s ns c.args.index.now c.in-Some.at b))

pub returns-in-None : goal.returns-in-None
returns-in-None c =
    let s = spacing_view c.args.spacing in
    let ns = numbers c.args.places.now in
    let o = c.args.out.now in
    let codes = map code_of c.args.value.now in
    let past = subst (λ (n : ℕ). IsNowhere s n c.args.index.now) c.len.ensures c.in-None.ensures.none in
    c.assign_unknowns.ensures
    ∙ sym (ap (λ (row : Option (List ℕ)). record o { entries = assigned (targets_at ns row) (given_at ns row codes) o.entries }) (nowhere s ns c.args.index.now past))
