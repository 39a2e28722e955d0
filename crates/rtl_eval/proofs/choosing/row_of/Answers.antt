use Rattle.std.proofs.Common.{◌≡◌, ℕ, ◌+◌, ◌<◌, ◌≤◌, List, length, map, take, drop, slice_index, refl, sym, ap, ◌∙◌, subst, arith, rules, All}
use Rattle.std.specs.List.{range_with_len}
use Rattle.std.proofs.lemmas.List.{length-map}
use Rattle.std.proofs.lemmas.List.FromFn.{length-range_with_len}
use Rattle.std.proofs.lemmas.Simd.{map-map}
use Rattle.vhdl_values.specs.Scalar.{value_of_code}
use Rattle.rtl_model.specs.bodies.Values.{element_at}
use Rattle.rtl_model.specs.bodies.Fits.{IsWidth}
use Rattle.rtl_model.proofs.bodies.Rows.{all-part}
use Rattle.rtl_net.specs.Indices.{numbers}
use Rattle.rtl_eval.proofs.Reading.{all-nine, run-within, run-read}
use Rattle.rtl_eval.proofs.Beginnings.{row_long, part_is, run_part}
use Rattle.rtl_eval.proofs.choosing.row_of.Goals as goal

-- it is there
run_there : (values ns : List ℕ) (start len at : ℕ) → IsWidth len → take len (drop at ns) ≡ range_with_len start len → All (λ place. place < length values) ns → start + len ≤ length values
run_there values ns start len at width is there =
    run-within values start len (subst IsWidth (sym (length-range_with_len start len)) width)
    (subst (λ (xs : List ℕ). All (λ place. place < length values) xs) is (all-part (λ place. place < length values) ns at len there))

pub overflow_add-start : goal.overflow_add-start
overflow_add-start c =
    let i = c.in-Run in
    let l : c.args.at + c.args.len ≤ i.many = omega (arith, c.requires.within, ap (λ (ns : List ℕ). length ns) (ap numbers i.is), length-range_with_len i.first i.many) in
    search (rules, l)

pub overflow_add-start-in-Run : goal.overflow_add-start-in-Run
overflow_add-start-in-Run c =
    let i = c.in-Run in
    let l : c.args.at + c.args.len ≤ i.many = omega (arith, c.requires.within, ap (λ (ns : List ℕ). length ns) (ap numbers i.is), length-range_with_len i.first i.many) in
    search (rules, l)

pub slice_bounds-of_codes-end : goal.slice_bounds-of_codes-end
slice_bounds-of_codes-end c =
    let i = c.in-Run in
    let ns = numbers c.args.places.now in
    run_there c.args.values.now ns (i.first + c.args.at) c.args.len c.args.at c.requires.width (run_part ns i.first i.many c.args.at c.args.len (ap numbers i.is) c.requires.within) c.requires.there

pub of_codes-requires-clause-room : goal.of_codes-requires-clause-room
of_codes-requires-clause-room c =
    let i = c.in-Run in
    let ns = numbers c.args.places.now in
    let start = i.first + c.args.at in
    let l = run_there c.args.values.now ns start c.args.len c.args.at c.requires.width (run_part ns i.first i.many c.args.at c.args.len (ap numbers i.is) c.requires.within) c.requires.there in
    rw (run-read c.args.values.now start c.args.len l) (rw (length-map (range_with_len start c.args.len) (slice_index c.args.values.now)) (omega (arith, length-range_with_len start c.args.len, c.requires.width.1)))

pub of_codes-requires-clause-codes : goal.of_codes-requires-clause-codes
of_codes-requires-clause-codes c =
    let i = c.in-Run in
    let ns = numbers c.args.places.now in
    let start = i.first + c.args.at in
    let is = run_part ns i.first i.many c.args.at c.args.len (ap numbers i.is) c.requires.within in
    let l = run_there c.args.values.now ns start c.args.len c.args.at c.requires.width is c.requires.there in
    subst (λ xs. All (λ code. code < 9) xs) (sym (run-read c.args.values.now start c.args.len l))
    (all-nine c.args.values.now (range_with_len start c.args.len)
    (subst (λ (xs : List ℕ). All (λ place. slice_index c.args.values.now place < 9) xs) is (all-part (λ place. slice_index c.args.values.now place < 9) ns c.args.at c.args.len c.requires.nine)))

pub returns-in-Run : goal.returns-in-Run
returns-in-Run c =
    let i = c.in-Run in
    let ns = numbers c.args.places.now in
    let start = i.first + c.args.at in
    let is = run_part ns i.first i.many c.args.at c.args.len (ap numbers i.is) c.requires.within in
    let l = run_there c.args.values.now ns start c.args.len c.args.at c.requires.width is c.requires.there in
    c.of_codes.ensures.list ∙ ap (map value_of_code) (run-read c.args.values.now start c.args.len l)
    ∙ map-map value_of_code (slice_index c.args.values.now) (range_with_len start c.args.len) ∙ ap (map (element_at c.args.values.now)) (sym is)

-- ---- places that need not be one after another

pub slice_bounds-scattered-end : goal.slice_bounds-scattered-end
slice_bounds-scattered-end c = omega (arith, c.requires.within, ap (λ (ns : List ℕ). length ns) (c.as_slice.ensures ∙ sym (ap numbers c.in-List.is)))

pub scattered-requires-clause-width : goal.scattered-requires-clause-width
scattered-requires-clause-width c =
    let ns = numbers c.args.places.now in
    let part = part_is c.as_slice.result.now ns c.args.at c.args.len c.args.len (c.as_slice.ensures ∙ sym (ap numbers c.in-List.is)) refl in
    subst IsWidth (sym (ap (λ (ps : List ℕ). length ps) part ∙ row_long ns c.args.at c.args.len c.requires.within)) c.requires.width

pub scattered-requires-clause-there : goal.scattered-requires-clause-there
scattered-requires-clause-there c =
    let ns = numbers c.args.places.now in
    let part = part_is c.as_slice.result.now ns c.args.at c.args.len c.args.len (c.as_slice.ensures ∙ sym (ap numbers c.in-List.is)) refl in
    subst (λ (ps : List ℕ). All (λ place. place < length c.args.values.now) ps) (sym part) (all-part (λ place. place < length c.args.values.now) ns c.args.at c.args.len c.requires.there)

pub scattered-requires-clause-nine : goal.scattered-requires-clause-nine
scattered-requires-clause-nine c =
    let ns = numbers c.args.places.now in
    let part = part_is c.as_slice.result.now ns c.args.at c.args.len c.args.len (c.as_slice.ensures ∙ sym (ap numbers c.in-List.is)) refl in
    subst (λ (ps : List ℕ). All (λ place. slice_index c.args.values.now place < 9) ps) (sym part)
    (all-part (λ place. slice_index c.args.values.now place < 9) ns c.args.at c.args.len c.requires.nine)

pub returns-in-List : goal.returns-in-List
returns-in-List c =
    let ns = numbers c.args.places.now in
    let part = part_is c.as_slice.result.now ns c.args.at c.args.len c.args.len (c.as_slice.ensures ∙ sym (ap numbers c.in-List.is)) refl in
    c.scattered.ensures ∙ ap (map (element_at c.args.values.now)) part
