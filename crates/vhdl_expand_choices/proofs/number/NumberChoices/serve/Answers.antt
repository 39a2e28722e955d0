use Rattle.std.proofs.Common.{◌≡◌, ◌-◌, ◌^◌, min, List, [], map, true, false, Ok, Err, sym, ap, ◌∙◌, arith, rules, w32}
use Rattle.std.specs.Prelude.{FitsSigned}
use Rattle.std.proofs.lemmas.Grind.{common_steps}
use Rattle.vhdl_tree.specs.declared.operator.Direction.TheVariants.{To}
use Rattle.vhdl_names_units.specs.views.Answers.{choice_view}
use Rattle.vhdl_names_units.specs.views.Sequential.{alternative_view}
use Rattle.vhdl_expand_rules.specs.declared.fault.ElabFault.{ElabFault}
use Rattle.vhdl_expand_rules.specs.Elab.{fault_told}
use Rattle.vhdl_expand_rules.specs.Integers.{extent}
use Rattle.vhdl_expand_rules.specs.Statements.{are_apart, choices_spans, numbers_count}
use Rattle.vhdl_expand_rules.specs.views.Integers.{integers_view}
use Rattle.vhdl_expand_rules.proofs.Modulus.{same_word}
use Rattle.vhdl_expand_numbers.specs.Views.{limits_view}
use Rattle.vhdl_expand_choices.specs.declared.spans.Spanned.{Spanned}
use Rattle.vhdl_expand_choices.specs.Views.{spanned_view, put_behind, is_empty, all_choices}
use Rattle.vhdl_expand_choices.proofs.Serving.{emptied, serve_unfinished, serve_many, serve_ends, finished, given_others}
use Rattle.vhdl_expand_choices.proofs.Turning.{extent_few}
use Rattle.vhdl_expand_choices.proofs.number.NumberChoices.serve.Goals.{else-not-is_empty-via-then-not-is_empty+else-numbers_count-needed, else-not-is_empty-via-else-not-is_empty}
use Rattle.vhdl_expand_choices.proofs.number.NumberChoices.serve.Goals as goal

pub returns-then-numbers_count-needed : goal.returns-then-numbers_count-needed
returns-then-numbers_count-needed c =
    let here = integers_view c.args.integers.now in
    let among = limits_view c.args.self.among in
    let all = limits_view c.args.self.all in
    let cs = all_choices (map alternative_view c.args.alternatives.now) in
    let ds = map choice_view c.args.last.now in
    let ss = map spanned_view c.add_alternatives.new.spans.items in
    let whole = map spanned_view c.add_choices.new.spans.items in
    let first : put_behind [] (choices_spans here among cs) ≡ Ok ss = ap (λ (v : List Spanned). put_behind (map spanned_view v) (choices_spans here among cs)) (sym c.new-spans.ensures.items) ∙ c.in_ok-add_alternatives.ensures in
    let apart : are_apart [] whole ≡ Ok tt = ap (λ (v : List Spanned). are_apart [] (map spanned_view v)) (sym c.deref-2.ensures.value) ∙ c.in_ok-are_apart.ensures in
    let low : FitsSigned w32 c.args.self.all.least = search rules in
    let high : FitsSigned w32 c.args.self.all.greatest = search rules in
    let needed : c.extent-needed.result ≡ extent To all.least all.greatest = c.extent-needed.ensures ∙ (λ i. extent To (same_word c.args.self.all.least low i) (same_word c.args.self.all.greatest high i)) in
    let few = extent_few all.least all.greatest low high in
    let known = emptied choice_view c.args.last.now in
    let empty : c.is_empty.result ≡ false = first_of (search rules, grind (arith, common_steps)) in
    let every : c.numbers_count.result ≡ min (2 ^ 64 - 1) (numbers_count all whole) = c.numbers_count.ensures ∙ ap (λ (v : List Spanned). min (2 ^ 64 - 1) (numbers_count all (map spanned_view v))) c.deref-then-not-is_empty.ensures.value in
    λ n.
    serve_unfinished here c.args.at among all cs ds ss whole first c.in_ok-add_choices.ensures apart c.numbers_count.result (sym known ∙ sym c.is_empty.ensures ∙ empty) every (λ e. c.if-numbers_count-needed.true (e ∙ sym needed)) few
    ∙ ap (λ (f : ElabFault). Err (fault_told f)) (sym c.at.ensures)

pub returns-then-spread-gt-MAX_NUMBERS : goal.returns-then-spread-gt-MAX_NUMBERS
returns-then-spread-gt-MAX_NUMBERS c =
    let here = integers_view c.args.integers.now in
    let among = limits_view c.args.self.among in
    let all = limits_view c.args.self.all in
    let cs = all_choices (map alternative_view c.args.alternatives.now) in
    let ds = map choice_view c.args.last.now in
    let ss = map spanned_view c.add_alternatives.new.spans.items in
    let whole = map spanned_view c.add_choices.new.spans.items in
    let first : put_behind [] (choices_spans here among cs) ≡ Ok ss = ap (λ (v : List Spanned). put_behind (map spanned_view v) (choices_spans here among cs)) (sym c.new-spans.ensures.items) ∙ c.in_ok-add_alternatives.ensures in
    let apart : are_apart [] whole ≡ Ok tt = ap (λ (v : List Spanned). are_apart [] (map spanned_view v)) (sym c.deref-2.ensures.value) ∙ c.in_ok-are_apart.ensures in
    let low : FitsSigned w32 c.args.self.all.least = search rules in
    let high : FitsSigned w32 c.args.self.all.greatest = search rules in
    let needed : c.extent-needed.result ≡ extent To all.least all.greatest = c.extent-needed.ensures ∙ (λ i. extent To (same_word c.args.self.all.least low i) (same_word c.args.self.all.greatest high i)) in
    let few = extent_few all.least all.greatest low high in
    let known = emptied choice_view c.args.last.now in
    let counted : c.numbers_count-spread.result ≡ min (2 ^ 64 - 1) (numbers_count all ss) = c.numbers_count-spread.ensures ∙ ap (λ (v : List Spanned). min (2 ^ 64 - 1) (numbers_count all (map spanned_view v))) c.deref.ensures.value in
    let many = c.if-spread-gt-MAX_NUMBERS.true in
    let told = ap (λ (f : ElabFault). Err (fault_told f)) (sym c.at-then-spread-gt-MAX_NUMBERS.ensures) in
    λ n.
    elim c.else-not-is_empty.branch [
      | else-not-is_empty-via-then-not-is_empty+else-numbers_count-needed w ↦
          let every : w.numbers_count.result ≡ min (2 ^ 64 - 1) (numbers_count all whole) = w.numbers_count.ensures ∙ ap (λ (v : List Spanned). min (2 ^ 64 - 1) (numbers_count all (map spanned_view v))) w.deref-then-not-is_empty.ensures.value in
          let complete = finished here c.args.at among all cs ds ss whole first c.in_ok-add_choices.ensures apart w.numbers_count.result every (w.if-numbers_count-needed.false ∙ needed) few in
          serve_many here c.args.at among all cs ds ss whole first c.in_ok-add_choices.ensures apart c.numbers_count-spread.result complete counted (λ k. omega (arith, k, many)) ∙ told
      | else-not-is_empty-via-else-not-is_empty w ↦
          let empty : c.is_empty.result ≡ true = first_of (search rules, grind (arith, common_steps)) in
          let complete = given_others here c.args.at among all cs ds ss whole first c.in_ok-add_choices.ensures apart (sym known ∙ sym c.is_empty.ensures ∙ empty) in
          serve_many here c.args.at among all cs ds ss whole first c.in_ok-add_choices.ensures apart c.numbers_count-spread.result complete counted (λ k. omega (arith, k, many)) ∙ told
    ]

pub returns : goal.returns
returns c =
    let here = integers_view c.args.integers.now in
    let among = limits_view c.args.self.among in
    let all = limits_view c.args.self.all in
    let cs = all_choices (map alternative_view c.args.alternatives.now) in
    let ds = map choice_view c.args.last.now in
    let ss = map spanned_view c.add_alternatives.new.spans.items in
    let whole = map spanned_view c.add_choices.new.spans.items in
    let first : put_behind [] (choices_spans here among cs) ≡ Ok ss = ap (λ (v : List Spanned). put_behind (map spanned_view v) (choices_spans here among cs)) (sym c.new-spans.ensures.items) ∙ c.in_ok-add_alternatives.ensures in
    let apart : are_apart [] whole ≡ Ok tt = ap (λ (v : List Spanned). are_apart [] (map spanned_view v)) (sym c.deref-2.ensures.value) ∙ c.in_ok-are_apart.ensures in
    let low : FitsSigned w32 c.args.self.all.least = search rules in
    let high : FitsSigned w32 c.args.self.all.greatest = search rules in
    let needed : c.extent-needed.result ≡ extent To all.least all.greatest = c.extent-needed.ensures ∙ (λ i. extent To (same_word c.args.self.all.least low i) (same_word c.args.self.all.greatest high i)) in
    let few = extent_few all.least all.greatest low high in
    let known = emptied choice_view c.args.last.now in
    let counted : c.numbers_count-spread.result ≡ min (2 ^ 64 - 1) (numbers_count all ss) = c.numbers_count-spread.ensures ∙ ap (λ (v : List Spanned). min (2 ^ 64 - 1) (numbers_count all (map spanned_view v))) c.deref.ensures.value in
    elim c.else-not-is_empty.branch [
      | else-not-is_empty-via-then-not-is_empty+else-numbers_count-needed w ↦
          let every : w.numbers_count.result ≡ min (2 ^ 64 - 1) (numbers_count all whole) = w.numbers_count.ensures ∙ ap (λ (v : List Spanned). min (2 ^ 64 - 1) (numbers_count all (map spanned_view v))) w.deref-then-not-is_empty.ensures.value in
          let complete = finished here c.args.at among all cs ds ss whole first c.in_ok-add_choices.ensures apart w.numbers_count.result every (w.if-numbers_count-needed.false ∙ needed) few in
          serve_ends here c.args.at among all cs ds ss whole first c.in_ok-add_choices.ensures apart c.numbers_count-spread.result complete counted c.if-spread-gt-MAX_NUMBERS.false
      | else-not-is_empty-via-else-not-is_empty w ↦
          let empty : c.is_empty.result ≡ true = first_of (search rules, grind (arith, common_steps)) in
          let complete = given_others here c.args.at among all cs ds ss whole first c.in_ok-add_choices.ensures apart (sym known ∙ sym c.is_empty.ensures ∙ empty) in
          serve_ends here c.args.at among all cs ds ss whole first c.in_ok-add_choices.ensures apart c.numbers_count-spread.result complete counted c.if-spread-gt-MAX_NUMBERS.false
    ]
