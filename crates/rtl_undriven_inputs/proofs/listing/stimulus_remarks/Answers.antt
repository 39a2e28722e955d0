use Rattle.std.proofs.Common.{◌≡◌, ◌++◌, ℕ, Bool, true, false, List, length, ap, ◌∙◌}
use Rattle.rtl_body_facts.specs.Reading.{is_in}
use Rattle.rtl_remarks.specs.Remarks.{of_nets}
use Rattle.rtl_undriven_inputs.specs.Naming.{without, has_line}
use Rattle.rtl_undriven_inputs.proofs.listing.stimulus_remarks.Goals as goal

pub returns : goal.returns
returns c =
    let net = c.args.net.now in
    let count = length net.types in
    let has : (λ n. is_in n c.in_ok-named.named.items) ≡ has_line net c.args.text.now = λ i n. c.in_ok-named.ensures.are n i in
    c.in_ok-push_inputs-2.ensures
    ∙ ap (λ (xs : List ℕ). c.push_inputs.new.remarks.items ++ of_nets (without net false (λ n. is_in n xs)) count) c.deref-3.ensures.value
    ∙ ap (λ rs. rs ++ of_nets (without net false (λ n. is_in n c.in_ok-named.named.items)) count)
    (c.in_ok-push_inputs.ensures ∙ ap (λ rs. rs ++ of_nets (without net true (λ n. is_in n c.deref.result.now)) count) c.new-remarks.ensures.items
    ∙ ap (λ (xs : List ℕ). of_nets (without net true (λ n. is_in n xs)) count) c.deref.ensures.value)
    ∙ ap (λ (h : ℕ → Bool). of_nets (without net true h) count ++ of_nets (without net false h) count) has
