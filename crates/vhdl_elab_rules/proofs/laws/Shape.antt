-- The lists of an elaborated netlist are as long as it has nets.
use Rattle.std.proofs.Common.{◌≡◌, ℕ, ◌+◌, ◌<◌, List, length, map, All, sym, ap, ◌∙◌, arith}
use Rattle.std.specs.Prelude.{slice_index, slice_index_or}
use Rattle.std.specs.List.{range_with_len}
use Rattle.std.specs.List.Sorted.{IsStrictlyIncreasing}
use Rattle.std.proofs.lemmas.List.{length-map}
use Rattle.std.proofs.lemmas.List.FromFn.{length-range_with_len, length-map-range_with_len, get_or-range_with_len}
use Rattle.std.proofs.lemmas.List.Elements.{All-map, All-filter}
use Rattle.std.proofs.lemmas.List.Kept.{IsStrictlyIncreasing-filter}
use Rattle.vhdl_expand_rules.specs.Prefixes.{is_among, in_order}
use Rattle.vhdl_elab_rules.specs.Numbering.{Numbered, numbered_design}
use Rattle.vhdl_elab_rules.specs.Wiring.{Element, own_elements, idle_values, sensitive_to, flat_process, with_defaults, start_of, flat_net}
use Rattle.vhdl_elab_rules.specs.laws.Nets.{NetsAreAsSaid}
use Rattle.vhdl_elab_rules.specs.laws.Shape.{WakesRise, HasShape, EachHasShape}
use Rattle.vhdl_elab_rules.proofs.laws.Nets.{nets-are-as-said}

run-rises : (a n : ℕ) → IsStrictlyIncreasing (range_with_len a n)
run-rises a n k h =
    let len : length (range_with_len a n) ≡ n = length-range_with_len a n in
    let first : slice_index (range_with_len a n) k ≡ a + k = get_or-range_with_len a n k 0 (omega (arith, h, len)) in
    let second : slice_index (range_with_len a n) (k + 1) ≡ a + (k + 1) = get_or-range_with_len a n (k + 1) 0 (omega (arith, h, len)) in
    omega (arith, first, second)

run-below : (n : ℕ) → All (λ k. k < n) (range_with_len 0 n)
run-below n k d h =
    let len : length (range_with_len 0 n) ≡ n = length-range_with_len 0 n in
    let is : slice_index_or (range_with_len 0 n) k d ≡ 0 + k = get_or-range_with_len 0 n k d (omega (arith, h, len)) in
    omega (arith, is, h, len)

in_order-rises : (n : ℕ) (ns : List ℕ) → IsStrictlyIncreasing (in_order n ns)
unfolding in_order
in_order-rises n ns = IsStrictlyIncreasing-filter (is_among ns) (range_with_len 0 n) (run-rises 0 n)

in_order-below : (n : ℕ) (ns : List ℕ) → All (λ k. k < n) (in_order n ns)
unfolding in_order
in_order-below n ns = All-filter (is_among ns) (λ k. k < n) (range_with_len 0 n) (run-below n)

has-shape : (d : Numbered) → NetsAreAsSaid d → HasShape d
unfolding flat_net
has-shape d said = record {
  types = length-map (own_elements d) (λ (e : Element). e.type) ∙ sym (length-map (own_elements d) (λ (e : Element). e.net))
      ∙ ap length said.own_nets ∙ length-range_with_len 0 d.nets;
  starts = length-map-range_with_len (start_of (with_defaults d)) 0 d.nets;
  idle = length-map-range_with_len (idle_values d) 0 d.nets;
  processes = length-map d.processes (flat_process d.nets);
  wakes = All-map (WakesRise d.nets) (flat_process d.nets) d.processes (λ k x l. record {
    rise = in_order-rises d.nets (map (slice_index (slice_index_or d.processes k x).round.nets) (sensitive_to (slice_index_or d.processes k x).process));
    there = in_order-below d.nets (map (slice_index (slice_index_or d.processes k x).round.nets) (sensitive_to (slice_index_or d.processes k x).process));
  });
}

pub each-has-shape : EachHasShape
each-has-shape units top design h = has-shape (numbered_design design) (nets-are-as-said units top design h)
