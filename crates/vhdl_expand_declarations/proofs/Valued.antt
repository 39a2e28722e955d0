-- The value of one generic.
use Rattle.std.proofs.Common.{◌≡◌, ℕ, List, Ok, Err, refl, ap, ◌∙◌}
use Rattle.std.specs.Prelude.{◌≢◌}
use Rattle.vhdl_values.specs.declared.scalar.Nine.{Nine}
use Rattle.vhdl_names_rules.specs.units.Units as u
use Rattle.vhdl_names_rules.specs.units.Units.{IntegerSubtype, Form, Fixed}
use Rattle.vhdl_names_units.specs.declared.answers.Fixed as code
use Rattle.vhdl_names_units.specs.declared.answers.Fixed.TheVariants as f
use Rattle.vhdl_names_units.specs.views.Answers.{fixed_view}
use Rattle.vhdl_expand_rules.specs.declared.fault.ElabProblem.TheVariants.{NoGeneric}
use Rattle.vhdl_expand_rules.specs.Elab.{◌>>=◌, Told}
use Rattle.vhdl_expand_rules.specs.Kinds.{ObjectKind, size, kind_of}
use Rattle.vhdl_expand_rules.specs.Site.{Site}
use Rattle.vhdl_expand_rules.specs.Declarations.{fixed_values, generic_values, valued_generic, other_generic, with_constant}
use Rattle.vhdl_expand_rules.proofs.Steps.{given}

module _ (from own : Site) (at : ℕ) where
  -- what is no value of its type
  pub no_integer_given : (type : IntegerSubtype) (x : code.Fixed) → ((s : _) → x ≢ f.Integer s) → valued_generic from own at (u.integers type) (fixed_view x) ≡ Err (NoGeneric, at)
  no_integer_given type (f.Integer s) h = absurd (h s refl)
  no_integer_given type (f.Literal vs) h = refl
  no_integer_given type (f.Position p) h = refl
  no_integer_given type (f.Constant k) h = refl
  no_integer_given type (f.Encoded n m) h = refl
  no_integer_given type (f.Filled y) h = refl
  no_integer_given type (f.Given y) h = refl
  no_integer_given type (f.Aggregate p es) h = refl
  no_integer_given type (f.Truth t) h = refl

  pub no_truth_given : (x : code.Fixed) → ((t : _) → x ≢ f.Truth t) → valued_generic from own at u.truths (fixed_view x) ≡ Err (NoGeneric, at)
  no_truth_given (f.Truth t) h = absurd (h t refl)
  no_truth_given (f.Literal vs) h = refl
  no_truth_given (f.Position p) h = refl
  no_truth_given (f.Constant k) h = refl
  no_truth_given (f.Encoded n m) h = refl
  no_truth_given (f.Filled y) h = refl
  no_truth_given (f.Given y) h = refl
  no_truth_given (f.Aggregate p es) h = refl
  no_truth_given (f.Integer s) h = refl

  -- other values are as those of constants
  pub plain_values : (kind : ObjectKind) (x : code.Fixed) → ((p : _) (es : _) → x ≢ f.Aggregate p es) → generic_values from at kind (fixed_view x) ≡ fixed_values from at (size kind) (fixed_view x)
  plain_values kind (f.Aggregate p es) h = absurd (h p es refl)
  plain_values kind (f.Literal vs) h = refl
  plain_values kind (f.Position p) h = refl
  plain_values kind (f.Constant k) h = refl
  plain_values kind (f.Encoded n m) h = refl
  plain_values kind (f.Filled y) h = refl
  plain_values kind (f.Given y) h = refl
  plain_values kind (f.Integer s) h = refl
  plain_values kind (f.Truth t) h = refl

  module _ (form : Form) (x : Fixed) (kind : ObjectKind) (is : kind_of own.integers at form ≡ Ok kind) where
    other-from : other_generic from own at form x ≡ (generic_values from at kind x >>= λ vs. given (with_constant own (record { kind = kind; values = vs })))
    other-from = ap (λ r. r >>= λ k. generic_values from at k x >>= λ vs. given (with_constant own (record { kind = k; values = vs }))) is

    pub other_valued : (vs : List Nine) → generic_values from at kind x ≡ Ok vs → other_generic from own at form x ≡ Ok (with_constant own (record { kind = kind; values = vs }))
    other_valued vs h = other-from ∙ ap (λ r. r >>= λ ws. given (with_constant own (record { kind = kind; values = ws }))) h

    pub other_refused : {told : Told} → generic_values from at kind x ≡ Err told → other_generic from own at form x ≡ Err told
    other_refused h = other-from ∙ ap (λ r. r >>= λ ws. given (with_constant own (record { kind = kind; values = ws }))) h
