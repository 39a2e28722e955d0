use Rattle.std.proofs.Common.{◌≡◌, ℕ, ◌<◌, ◌≤◌, ◌+◌, List, Option, length, map, take, drop, sym, ap, ◌∙◌, subst, arith, rules}
use Rattle.std.specs.List.{All, range_with_len}
use Rattle.std.proofs.lemmas.List.{length-map}
use Rattle.std.proofs.lemmas.List.FromFn.{length-range_with_len}
use Rattle.vhdl_values.specs.Scalar.{code_of}
use Rattle.rtl_model.proofs.bodies.Rows.{all-part}
use Rattle.rtl_net.specs.Indices.{numbers}
use Rattle.rtl_drives.specs.Outcomes.{Outcome}
use Rattle.rtl_drives.specs.Spans.{written}
use Rattle.rtl_eval.specs.Running.{assigned}
use Rattle.rtl_eval.proofs.OneByOne.{assigned_span}
use Rattle.rtl_eval.proofs.Beginnings.{row_long, part_is, run_part, run_below}
use Rattle.rtl_eval.proofs.choosing.assign_part.Goals as goal

-- ---- places one after another

pub overflow_add-first : goal.overflow_add-first
overflow_add-first c =
    let i = c.in-Run in
    let l : c.args.at ≤ i.many = omega (arith, c.requires.within, ap (λ (ns : List ℕ). length ns) (ap numbers i.is), length-range_with_len i.first i.many) in
    search (rules, l)

pub set_span-requires : goal.set_span-requires
set_span-requires c =
    let i = c.in-Run in
    let ns = numbers c.args.places.now in
    let value = c.args.value.now in
    let is = run_part ns i.first i.many c.args.at (length value) (ap numbers i.is) c.requires.within in
    let many : length c.write_codes.new.out ≡ length value = ap (λ (codes : List ℕ). length codes) c.write_codes.ensures ∙ length-map value code_of in
    record { there = λ k l. run_below (length c.args.out.now.entries) ns (i.first + c.args.at) c.args.at (length value) is c.requires.there k (omega (arith, l, many)) }

pub returns-in-Run : goal.returns-in-Run
returns-in-Run c =
    let i = c.in-Run in
    let ns = numbers c.args.places.now in
    let value = c.args.value.now in
    let o = c.args.out.now in
    let vs = map code_of value in
    let start = i.first + c.args.at in
    let is = run_part ns i.first i.many c.args.at (length value) (ap numbers i.is) c.requires.within ∙ ap (range_with_len start) (sym (length-map value code_of)) in
    let whole : assigned (take (length value) (drop c.args.at ns)) vs o.entries ≡ written start vs o.entries =
    ap (λ (ps : List ℕ). assigned ps vs o.entries) is ∙ assigned_span start vs o.entries in
    c.set_span.ensures
    ∙ ap {B = Outcome} (λ (codes : List ℕ). record o { entries = written start codes o.entries }) c.write_codes.ensures
    ∙ ap {B = Outcome} (λ (es : List (Option ℕ)). record o { entries = es }) (sym whole)

-- ---- others

pub slice_bounds-assign_each-end : goal.slice_bounds-assign_each-end
slice_bounds-assign_each-end c =
    omega (arith, c.requires.within, c.len-len.ensures.len, ap (λ (ns : List ℕ). length ns) (c.as_slice.ensures ∙ sym (ap numbers c.in-List.is)))

pub assign_each-requires-clause-as_many : goal.assign_each-requires-clause-as_many
assign_each-requires-clause-as_many c =
    let ns = numbers c.args.places.now in
    let value = c.args.value.now in
    let part = part_is c.as_slice.result.now ns c.args.at c.len-len.result (length value) (c.as_slice.ensures ∙ sym (ap numbers c.in-List.is)) c.len-len.ensures.len in
    ap (λ (ps : List ℕ). length ps) part ∙ row_long ns c.args.at (length value) c.requires.within
    ∙ sym (ap (λ (codes : List ℕ). length codes) c.write_codes.ensures ∙ length-map value code_of)

pub assign_each-requires-clause-there : goal.assign_each-requires-clause-there
assign_each-requires-clause-there c =
    let ns = numbers c.args.places.now in
    let many = length c.args.value.now in
    let part = part_is c.as_slice.result.now ns c.args.at c.len-len.result many (c.as_slice.ensures ∙ sym (ap numbers c.in-List.is)) c.len-len.ensures.len in
    subst (λ (ps : List ℕ). All (λ place. place < length c.args.out.now.entries) ps) (sym part)
    (all-part (λ place. place < length c.args.out.now.entries) ns c.args.at many c.requires.there)

pub returns-in-List : goal.returns-in-List
returns-in-List c =
    let ns = numbers c.args.places.now in
    let value = c.args.value.now in
    let o = c.args.out.now in
    let part = part_is c.as_slice.result.now ns c.args.at c.len-len.result (length value) (c.as_slice.ensures ∙ sym (ap numbers c.in-List.is)) c.len-len.ensures.len in
    c.assign_each.ensures
    ∙ ap {B = Outcome} (λ (ps : List ℕ). record o { entries = assigned ps c.write_codes.new.out o.entries }) part
    ∙ ap {B = Outcome} (λ (codes : List ℕ). record o { entries = assigned (take (length value) (drop c.args.at ns)) codes o.entries }) c.write_codes.ensures
