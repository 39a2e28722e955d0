-- What a case is on, and what makes the codes of its choices.
use Rattle.std.proofs.Common.{◌≡◌, ℕ, List, Ok, Err, sym, ap, ◌∙◌}
use Rattle.rtl_model.specs.bodies.Body as bodies
use Rattle.rtl_model.specs.bodies.Fits.{width}
use Rattle.vhdl_names_rules.specs.units.Expressions.{Computed, Value}
use Rattle.vhdl_names_rules.specs.units.Statements.{Choice}
use Rattle.vhdl_names_units.specs.views.Sequential.{Chosen}
use Rattle.vhdl_expand_rules.specs.Elab.{Elab, ◌>>=◌, ◌>>◌, Told}
use Rattle.vhdl_expand_rules.specs.Computed.{Number, Span}
use Rattle.vhdl_expand_rules.specs.Expressions.{computed}
use Rattle.vhdl_expand_rules.specs.Site.{Site}
use Rattle.vhdl_expand_rules.specs.Statements as definition
use Rattle.vhdl_expand_rules.specs.Statements.{may_choose}
use Rattle.vhdl_expand_choices.specs.Views.{all_choices, served, spread}
use Rattle.vhdl_expand_statements.specs.steps.Statements.{Codes, selector}

abbrev chosen_with : bodies.Value → Codes → Elab (bodies.Value × Codes)
chosen_with e codes = Ok (e, codes)

module _ (here : Site) (at : ℕ) (x : Computed) (gs : List Chosen) (ds : List Choice) (n : Number) (among all : Span) (len : ℕ)
    (known : computed here at x ≡ Ok n) (same : among ≡ may_choose x n) (same_all : all ≡ n.span) where
  served-then : selector here at (Value.computed x) gs ds
      ≡ (served here.integers at among all (all_choices gs) ds >> chosen_with (bodies.elements n.digits) (definition.spread here.integers (may_choose x n) n))
  served-then =
      ap (λ r. r >>= λ m. served here.integers at (may_choose x m) m.span (all_choices gs) ds
      >> chosen_with (bodies.elements m.digits) (definition.spread here.integers (may_choose x m) m)) known
      ∙ λ i. served here.integers at (sym same i) (sym same_all i) (all_choices gs) ds >> chosen_with (bodies.elements n.digits) (definition.spread here.integers (may_choose x n) n)

  pub number_selected : len ≡ width n.digits → served here.integers at among all (all_choices gs) ds ≡ Ok tt
      → selector here at (Value.computed x) gs ds ≡ Ok (bodies.elements n.digits, spread here.integers among all len)
  number_selected long h =
      served-then ∙ ap (λ r. r >> chosen_with (bodies.elements n.digits) (definition.spread here.integers (may_choose x n) n)) h
      ∙ λ i. chosen_with (bodies.elements n.digits) (spread here.integers (sym same i) (sym same_all i) (sym long i))

  pub number_unserved : {told : Told} → served here.integers at among all (all_choices gs) ds ≡ Err told → selector here at (Value.computed x) gs ds ≡ Err told
  number_unserved h = served-then ∙ ap (λ r. r >> chosen_with (bodies.elements n.digits) (definition.spread here.integers (may_choose x n) n)) h
