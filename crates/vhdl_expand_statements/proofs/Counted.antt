-- The numbers of a case, counted.
use Rattle.std.proofs.Common.{◌≡◌, ℕ, ◌-◌, ◌^◌, min, List, Ok, Err, refl, sym, ap, ◌∙◌, arith}
use Rattle.vhdl_names_rules.specs.units.Expressions as u
use Rattle.vhdl_names_rules.specs.units.Statements as statements
use Rattle.vhdl_names_units.specs.views.Sequential.{Chosen}
use Rattle.vhdl_expand_rules.specs.Elab.{Elab, ◌>>=◌, Told}
use Rattle.vhdl_expand_rules.specs.Computed.{Number, Span}
use Rattle.vhdl_expand_rules.specs.Site.{Site}
use Rattle.vhdl_expand_rules.specs.Expressions.{computed}
use Rattle.vhdl_expand_rules.specs.Statements.{choices_spans, may_choose, numbers_count, spread_choices, spread_count, or_none}
use Rattle.vhdl_expand_rules.proofs.Steps.{given, ok}
use Rattle.vhdl_expand_choices.specs.Views.{all_choices}
use Rattle.vhdl_expand_statements.specs.steps.Statements.{spread_number}
use Rattle.vhdl_expand_statements.proofs.Parts.{cased, spread_known}

module _ (here : Site) (at : ℕ) (x : u.Computed) (gs : List Chosen) (ds : List statements.Choice) (last : statements.Statements) where
  -- those that are spread, and the most that a word holds of them
  count-known : spread_number here at x gs ≡ (spread_count here at x (cased gs ds last) >>= λ n. given (min (2 ^ 64 - 1) n))
  count-known = go (computed here at x) (λ n. choices_spans here.integers (may_choose x n) (all_choices gs)) (λ n. choices_spans here.integers (may_choose x n) (spread_choices (cased gs ds last)))
      (λ n. ap (choices_spans here.integers (may_choose x n)) (sym (spread_known gs ds last)))
    where
      go : (r : Elab Number) (s t : Number → Elab (List (ℕ × Span))) → ((n : Number) → s n ≡ t n) → (r >>= λ n. s n >>= λ ss. given (min (2 ^ 64 - 1) (numbers_count n.span ss)))
          ≡ ((r >>= λ n. t n >>= λ ss. given (numbers_count n.span ss)) >>= λ m. given (min (2 ^ 64 - 1) m))
      go (Err p) s t h = refl
      go (Ok n) s t h = ap (λ q. q >>= λ ss. given (min (2 ^ 64 - 1) (numbers_count n.span ss))) (h n) ∙ inner (t n)
        where
          inner : (q : Elab (List (ℕ × Span))) → (q >>= λ ss. given (min (2 ^ 64 - 1) (numbers_count n.span ss))) ≡ ((q >>= λ ss. given (numbers_count n.span ss)) >>= λ m. given (min (2 ^ 64 - 1) m))
          inner (Ok ss) = refl
          inner (Err p) = refl

  pub turns_counted : (m : ℕ) → spread_number here at x gs ≡ Ok m → min (2 ^ 64 - 1) (or_none (spread_count here at x (cased gs ds last))) ≡ m
  turns_counted m h = by (spread_count here at x (cased gs ds last)) (sym count-known ∙ h)
    where
      by : (r : Elab ℕ) → (r >>= λ n. given (min (2 ^ 64 - 1) n)) ≡ Ok m → min (2 ^ 64 - 1) (or_none r) ≡ m
      by (Ok n) g = ok (min (2 ^ 64 - 1) n) m g
      by (Err p) g = absurd cc

  pub turns_untold : {told : Told} → spread_number here at x gs ≡ Err told → min (2 ^ 64 - 1) (or_none (spread_count here at x (cased gs ds last))) ≡ 0
  turns_untold {told} h = by (spread_count here at x (cased gs ds last)) (sym count-known ∙ h)
    where
      by : (r : Elab ℕ) → (r >>= λ n. given (min (2 ^ 64 - 1) n)) ≡ Err told → min (2 ^ 64 - 1) (or_none r) ≡ 0
      by (Ok n) g = absurd cc
      by (Err p) g = omega arith
