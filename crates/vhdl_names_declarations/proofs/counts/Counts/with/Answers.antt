use Rattle.std.proofs.Common.{◌≡◌, ℕ, ◌+◌, Bool, ap, ◌∙◌}
use Rattle.std.specs.Prelude.{if◌then◌else◌}
use Rattle.vhdl_names_rules.specs.views.Ranges.{declared_range_view}
use Rattle.vhdl_names_declarations.proofs.Counting.{some_seen}
use Rattle.vhdl_names_declarations.proofs.counts.Counts.with.Goals as goal

-- what counts by one test counts by another that is the same
counted_by : (n k : ℕ) (a b : Bool) → n ≡ k + (if a then 1 else 0) → a ≡ b → n ≡ k + (if b then 1 else 0)
counted_by n k a b is same = is ∙ ap (λ x. k + (if x then 1 else 0)) same

pub returns : goal.returns
returns c =
    let generics = counted_by _ _ _ _ c.with_one.ensures c.is_generic.ensures in
    let ports = counted_by _ _ _ _ c.with_one-2.ensures c.is_port.ensures in
    let integers = counted_by _ _ _ _ c.with_one-3.ensures c.is_integer_constant.ensures in
    let constants = counted_by _ _ _ _ c.with_one-4.ensures c.is_constant.ensures in
    let signals = counted_by _ _ _ _ c.with_one-5.ensures c.is_signal.ensures in
    let variables = counted_by _ _ _ _ c.with_one-6.ensures c.is_variable.ensures in
    let enumerations = counted_by _ _ _ _ c.with_one-7.ensures c.is_enumeration_type.ensures in
    let ranges = counted_by _ _ _ _ c.with_one-8.ensures (c.is_some.ensures ∙ some_seen declared_range_view c.args.entry.now.range) in
    λ n i. record {
      generics = generics i;
      ports = ports i;
      integers = integers i;
      constants = constants i;
      signals = signals i;
      variables = variables i;
      enumerations = enumerations i;
      ranges = ranges i;
    }
