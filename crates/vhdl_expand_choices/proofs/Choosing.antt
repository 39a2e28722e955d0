-- The numbers of one choice, and what is put behind others.
use Rattle.std.proofs.Common.{◌≡◌, ℕ, Bool, true, false, if◌then◌else◌, List, [], ◌∷◌, ◌++◌, map, Ok, Err, sym, ap, ◌∙◌}
use Rattle.std.specs.Prelude.{◌&&◌}
use Rattle.std.specs.List.{list_all}
use Rattle.std.proofs.lemmas.List.{append-nil}
use Rattle.vhdl_names_rules.specs.units.Expressions as expressions
use Rattle.vhdl_names_rules.specs.units.Statements.{numbers}
use Rattle.vhdl_expand_rules.specs.declared.fault.ElabProblem.TheVariants.{GenericRange}
use Rattle.vhdl_expand_rules.specs.Elab.{Elab, ◌>>=◌, ◌>>◌, unless, Told}
use Rattle.vhdl_expand_rules.specs.Integers.{IntegerRange, Integers, is_null}
use Rattle.vhdl_expand_rules.specs.Kinds.{range_span}
use Rattle.vhdl_expand_rules.specs.Computed.{Span, covers}
use Rattle.vhdl_names_rules.specs.units.Expressions.{index_start}
use Rattle.vhdl_expand_rules.specs.Statements.{index_range, range_spans, starting, choice_spans}
use Rattle.vhdl_expand_rules.proofs.Steps.{given}
use Rattle.vhdl_expand_operands.proofs.Several.{behind}

-- of a range, in steps
abbrev ranged : (at : ℕ) → (among : Span) → List Span → Elab (List (ℕ × Span))
ranged at among ss = unless GenericRange at (list_all (covers among) ss) >> given (map (starting at) ss)

module _ (here : Integers) (among : Span) (i : expressions.Index) (r : IntegerRange) (there : index_range here i ≡ Ok r) where
  spans-are : (ss : List Span) → range_spans r ≡ ss → choice_spans here among (numbers i) ≡ ranged (index_start i) among ss
  spans-are ss e = ap (λ q. q >>= λ r. ranged (index_start i) among (range_spans r)) there ∙ ap (ranged (index_start i) among) e

  one-span : is_null r.direction r.left r.right ≡ false → range_spans r ≡ range_span r ∷ []
  one-span h = ap (λ (b : Bool). if b then [] else range_span r ∷ []) h

  pub null_adds_none : (old : List (ℕ × Span)) → is_null r.direction r.left r.right ≡ true → behind old (choice_spans here among (numbers i)) ≡ Ok old
  null_adds_none old h = ap (behind old) (spans-are [] (ap (λ (b : Bool). if b then [] else range_span r ∷ []) h)) ∙ ap given (append-nil old)

  pub outside_refuses : (old : List (ℕ × Span)) (at : ℕ) → at ≡ index_start i → is_null r.direction r.left r.right ≡ false → covers among (range_span r) ≡ false
      → behind old (choice_spans here among (numbers i)) ≡ Err (GenericRange, at)
  outside_refuses old at e h k =
      ap (behind old) (spans-are _ (one-span h) ∙ ap (λ (b : Bool). unless GenericRange (index_start i) (b && true) >> given (map (starting (index_start i)) (range_span r ∷ []))) k)
      ∙ ap (λ (n : ℕ). Err (GenericRange, n)) (sym e)

  pub inside_adds_one : (old : List (ℕ × Span)) (at : ℕ) → at ≡ index_start i → is_null r.direction r.left r.right ≡ false → covers among (range_span r) ≡ true
      → behind old (choice_spans here among (numbers i)) ≡ Ok (old ++ (at, range_span r) ∷ [])
  inside_adds_one old at e h k =
      ap (behind old) (spans-are _ (one-span h) ∙ ap (λ (b : Bool). unless GenericRange (index_start i) (b && true) >> given (map (starting (index_start i)) (range_span r ∷ []))) k)
      ∙ ap (λ (n : ℕ). given (old ++ (n, range_span r) ∷ [])) (sym e)
  -- a range that is refused

pub unranged : {told : Told} (here : Integers) (among : Span) (i : expressions.Index) (old : List (ℕ × Span)) → index_range here i ≡ Err told → behind old (choice_spans here among (numbers i)) ≡ Err told
unranged here among i old h = ap (λ q. behind old (q >>= λ r. ranged (index_start i) among (range_spans r))) h
