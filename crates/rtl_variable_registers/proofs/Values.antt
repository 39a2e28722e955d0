-- Values that look at what is known alone, and values of nets and of elements.
use Rattle.std.proofs.Common.{◌≡◌, ℕ, ◌<◌, Bool, true, false, ◌&&◌, List, [], ◌∷◌, ◌++◌, length, map, replicate, slice_index, slice_index_or, refl, sym, ap, ◌∙◌, arith, Contains}
use Rattle.std.specs.List.{list_all}
use Rattle.std.proofs.lemmas.Bool.{and_parts}
use Rattle.std.proofs.lemmas.List.Folds.{list_all-append}
use Rattle.vhdl_values.specs.declared.scalar.Nine.{Nine}
use Rattle.vhdl_values.specs.declared.scalar.Nine.TheVariants.{X, Zero}
use Rattle.vhdl_values.specs.Logic.{not_of_all}
use Rattle.vhdl_values.specs.Planes.{code_of-value_of_code}
use Rattle.vhdl_values.specs.Scalar.{code_of, value_of_code}
use Rattle.vhdl_values.specs.Shifts.{counted_of}
use Rattle.vhdl_numbers.specs.Converted as numbers
use Rattle.vhdl_numbers.specs.Counts.{shifted_by}
use Rattle.rtl_model.specs.bodies.Rows.{row_at}
use Rattle.rtl_model.specs.bodies.Body.{Expr, signal, variable, constant, inverse, filled, binary, counted, shifted, converted, chosen}
use Rattle.rtl_model.specs.bodies.Body.{Value, elements, position, position_of, position_in}
use Rattle.rtl_model.specs.bodies.Leaves.{expr_leaves, value_leaves}
use Rattle.rtl_model.specs.bodies.Types.{ElementType, nine_valued, enumeration, limit_of}
use Rattle.rtl_model.specs.bodies.Values.{Seen, element_at, elements_of, value_of, operation_result, chosen_of}
use Rattle.rtl_model.proofs.basics.Lists.{Contains-first}
use Rattle.rtl_variable_registers.specs.Bodies.{of_nets, variable_value}
use Rattle.rtl_variable_registers.specs.Known.{leaf_is_known, is_known}
use Rattle.rtl_variable_registers.proofs.Putting.{Contains-more}

pub on_both : {A B C : Type 0} (f : A → B → C) {a a' : A} {b b' : B} → a ≡ a' → b ≡ b' → f a b ≡ f a' b'
on_both f p q i = f (p i) (q i)

-- ---- values that look at what is known alone

-- what is known of the variables is the same in both
abbrev pub Agree : (known : ℕ → Bool) → (a b : Seen) → Type 0
Agree known a b = (e : ℕ) → known e ≡ true → slice_index a.variables e ≡ slice_index b.variables e

-- in both parts of what looks at known elements alone
pub parts_known : (known : ℕ → Bool) (d e : Expr) → list_all (leaf_is_known known) (expr_leaves d ++ expr_leaves e) ≡ true
    → (list_all (leaf_is_known known) (expr_leaves d) ≡ true) × (list_all (leaf_is_known known) (expr_leaves e) ≡ true)
parts_known known d e h =
    and_parts (list_all (leaf_is_known known) (expr_leaves d)) (list_all (leaf_is_known known) (expr_leaves e))
    (sym (list_all-append (leaf_is_known known) (expr_leaves d) (expr_leaves e)) ∙ h)

module _ (known : ℕ → Bool) (a b : Seen) (agree : Agree known a b) where
  names_known : (es : List ℕ) → list_all known es ≡ true → map (element_at a.variables) es ≡ map (element_at b.variables) es
  names_known [] h = refl
  names_known (e ∷ es) h =
      let (c, d) = and_parts (known e) (list_all known es) h in
      on_both (λ (x : Nine) (xs : List Nine). x ∷ xs) (ap value_of_code (agree e c)) (names_known es d)

  expr_known : (e : Expr) → list_all (leaf_is_known known) (expr_leaves e) ≡ true → elements_of a e ≡ elements_of b e
  expr_known (signal nets) h = absurd cc
  expr_known (variable es) h = names_known es (and_parts (list_all known es) true h).0
  expr_known (constant vs) h = refl
  expr_known (inverse e) h = ap not_of_all (expr_known e h)
  expr_known (filled len e) h = ap (λ vs. replicate len (slice_index_or vs 0 X)) (expr_known e h)
  expr_known (binary op d e) h =
      let (c, k) = parts_known known d e h in
      on_both (operation_result op) (expr_known d c) (expr_known e k)
  expr_known (counted op count e) h = ap (counted_of Zero op count) (expr_known e h)
  expr_known (shifted by count e) h =
      let (c, k) = parts_known known count e h in on_both (shifted_by by) (expr_known count c) (expr_known e k)
  expr_known (converted by e) h = ap (numbers.converted by) (expr_known e h)
  expr_known (chosen index spacing rows) h =
      let (c, k) = parts_known known index rows h in
      on_both (λ (i vs : List Nine). chosen_of spacing.len (row_at spacing vs i)) (expr_known index c) (expr_known rows k)

  pub value_known : (v : Value) → is_known known v ≡ true → value_of a v ≡ value_of b v
  value_known (elements e) h = ap (map code_of) (expr_known e h)
  value_known (position n) h = refl
  value_known (position_of n) h = absurd cc
  value_known (position_in e) h =
      ap (λ (n : ℕ). n ∷ []) (agree e (and_parts (known e) true (and_parts (known e && true) true h).0).0)

-- ---- values that look at nothing

pub value_same : (a b : Seen) (v : Value) → value_leaves v ≡ [] → value_of a v ≡ value_of b v
value_same a b v h = value_known (λ e. false) a b (λ e k. absurd cc) v (ap (list_all (leaf_is_known (λ e. false))) h)

-- ---- values of nets and of elements

coded : (f : ℕ → ℕ) (es : List ℕ) → ((e : ℕ) → Contains es e → f e < 9) → map code_of (map (λ e. value_of_code (f e)) es) ≡ map f es
coded f [] h = refl
coded f (e ∷ es) h = on_both (λ x xs. x ∷ xs) (code_of-value_of_code (f e) (h e (Contains-first e es))) (coded f es (λ d c. h d (Contains-more e es d c)))

at_nets : (now : List ℕ) (net : ℕ → ℕ) (es : List ℕ) → map (element_at now) (map net es) ≡ map (λ e. value_of_code (slice_index now (net e))) es
at_nets now net [] = refl
at_nets now net (e ∷ es) = ap (λ xs. value_of_code (slice_index now (net e)) ∷ xs) (at_nets now net es)

one_only : (f : ℕ → ℕ) (g : List ℕ → ℕ) (es : List ℕ) → length es ≡ 1 → ((e : ℕ) → g (e ∷ []) ≡ f e) → g es ∷ [] ≡ map f es
one_only f g [] l h = absurd (omega arith)
one_only f g (e ∷ []) l h = ap (λ x. x ∷ []) (h e)
one_only f g (d ∷ e ∷ es) l h = absurd (omega arith)

-- elements of a type, as many as a variable of it has
pub record FitTogether (t : ElementType) (es : List ℕ) : Type 0 where
  pub one : (literals : ℕ) → t ≡ enumeration literals → length es ≡ 1

pub nets_value : (seen : Seen) (net : ℕ → ℕ) (t : ElementType) (es : List ℕ) → FitTogether t es
    → ((e : ℕ) → Contains es e → slice_index seen.now (net e) < limit_of t)
    → value_of seen (of_nets t (map net es)) ≡ map (λ e. slice_index seen.now (net e)) es
nets_value seen net nine_valued es fit h = ap (map code_of) (at_nets seen.now net es) ∙ coded (λ e. slice_index seen.now (net e)) es h
nets_value seen net (enumeration n) es fit h =
    one_only (λ e. slice_index seen.now (net e)) (λ ds. slice_index seen.now (slice_index (map net ds) 0)) es (fit.one n refl) (λ e. refl)

pub elements_value : (seen : Seen) (t : ElementType) (es : List ℕ) → FitTogether t es
    → ((e : ℕ) → Contains es e → slice_index seen.variables e < limit_of t)
    → value_of seen (variable_value t es) ≡ map (slice_index seen.variables) es
elements_value seen nine_valued es fit h = coded (slice_index seen.variables) es h
elements_value seen (enumeration n) es fit h =
    one_only (slice_index seen.variables) (λ ds. slice_index seen.variables (slice_index ds 0)) es (fit.one n refl) (λ e. refl)
