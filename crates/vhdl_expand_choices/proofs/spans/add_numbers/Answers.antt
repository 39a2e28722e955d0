use Rattle.std.proofs.Common.{◌≡◌, true, false, [], ◌∷◌, ◌++◌, map, ap, sym, ◌∙◌, arith, rules, w32}
use Rattle.std.specs.Prelude.{FitsSigned}
use Rattle.std.proofs.lemmas.Grind.{common_steps}
use Rattle.std.proofs.lemmas.List.{map-append}
use Rattle.vhdl_names_trees.specs.views.Integers.{index_view}
use Rattle.vhdl_expand_rules.specs.Computed.{covers}
use Rattle.vhdl_expand_rules.specs.Integers.{is_null}
use Rattle.vhdl_expand_rules.specs.Kinds.{range_span}
use Rattle.vhdl_expand_rules.specs.views.Integers.{integers_view, range_view}
use Rattle.vhdl_expand_rules.proofs.Modulus.{same_word}
use Rattle.vhdl_expand_rules.proofs.Steps.{given}
use Rattle.vhdl_expand_numbers.specs.Views.{limits_view}
use Rattle.vhdl_expand_choices.specs.Views.{spanned_view}
use Rattle.vhdl_expand_choices.proofs.Choosing.{null_adds_none, inside_adds_one}
use Rattle.vhdl_expand_choices.proofs.spans.add_numbers.Goals as goal

pub returns-then-is_null : goal.returns-then-is_null
returns-then-is_null c =
    let r = c.in_ok-range.range in
    let left : FitsSigned w32 r.left = search rules in
    let right : FitsSigned w32 r.right = search rules in
    null_adds_none (integers_view c.args.integers.now) (limits_view c.args.among) (index_view c.args.numbers.now) (range_view r) c.in_ok-range.ensures
    (map spanned_view c.args.spans.now.items) ((λ i. is_null r.direction (sym (same_word r.left left) i) (sym (same_word r.right right) i)) ∙ sym c.is_null.ensures ∙ c.if-is_null.true)

pub returns : goal.returns
returns c =
    let r = c.in_ok-range.range in
    let left : FitsSigned w32 r.left = search rules in
    let right : FitsSigned w32 r.right = search rules in
    let some : is_null r.direction r.left r.right ≡ false = (λ i. is_null r.direction (sym (same_word r.left left) i) (sym (same_word r.right right) i)) ∙ sym c.is_null.ensures ∙ c.if-is_null.false in
    let inside : covers (limits_view c.args.among) (range_span (range_view r)) ≡ true = first_of (search rules, grind (arith, common_steps)) in
    let made = inside_adds_one (integers_view c.args.integers.now) (limits_view c.args.among) (index_view c.args.numbers.now) (range_view r) c.in_ok-range.ensures
    (map spanned_view c.args.spans.now.items) c.at-at.result c.at-at.ensures some inside in
    made ∙ ap given (sym (ap (map spanned_view) c.in_ok-push.ensures.items ∙ map-append spanned_view c.args.spans.now.items _ ∙ ap (λ s. map spanned_view c.args.spans.now.items ++ (c.at-at.result, s) ∷ []) c.of_range-limits.ensures))
