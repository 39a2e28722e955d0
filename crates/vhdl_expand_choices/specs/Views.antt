-- What contracts see of the numbers of choices, and the rules of a case on an integer, its alternatives in a list.
use Rattle.std.specs.Prelude.{ℕ, ◌-◌, ◌^◌, ◌==◌, min, ◌||◌, Bool, true, false, List, [], ◌∷◌, ◌++◌, map, flat_map, ℤ, Ok}
use Rattle.vhdl_tree.specs.declared.operator.Direction.TheVariants.{To}
use Rattle.vhdl_values.specs.Scalar.{code_of}
use Rattle.vhdl_numbers.specs.TwosComplement.{signed_digits_of}
use Rattle.vhdl_names_rules.specs.units.Statements.{Choice}
use Rattle.vhdl_names_units.specs.views.Sequential.{Chosen}
use Rattle.vhdl_expand_rules.specs.declared.fault.ElabProblem.TheVariants.{StaticError}
use Rattle.vhdl_expand_rules.specs.Elab.{Elab, ◌>>=◌, ◌>>◌, each, unless}
use Rattle.vhdl_expand_rules.specs.Integers.{Integers, extent}
use Rattle.vhdl_expand_rules.specs.Computed.{Span}
use Rattle.vhdl_expand_rules.specs.Statements.{choice, choices_spans, are_apart, numbers_in, numbers_count, may_be_spread}
use Rattle.vhdl_expand_numbers.specs.Views.{limits_view}
use Rattle.vhdl_expand_choices.specs.declared.spans.Spanned.{Spanned}
use Rattle.vhdl_expand_choices.specs.declared.number.NumberChoices.{NumberChoices}
use Rattle.vhdl_expand_choices.specs.declared.coding.Coding.{Coding}
use Rattle.vhdl_expand_choices.specs.declared.coding.Coding.TheVariants as c

abbrev pub spanned_view : Spanned → ℕ × Span
spanned_view s = (s.at, limits_view s.limits)

abbrev pub chosen_span : Spanned → Span
chosen_span s = limits_view s.limits

-- numbers of choices behind those of others
abbrev pub put_behind : List (ℕ × Span) → Elab (List (ℕ × Span)) → Elab (List (ℕ × Span))
put_behind made more = do
  ss ← more
  Ok (made ++ ss)

-- how many there are among all, or the most that a word holds
abbrev pub counted : (all : Span) → Elab (List (ℕ × Span)) → Elab ℕ
counted all spans = do
  ss ← spans
  Ok (min (2 ^ 64 - 1) (numbers_count all ss))

-- those of several alternatives, one after another
abbrev pub all_choices : List Chosen → List Choice
all_choices gs = flat_map (λ (g : Chosen). g.choices) gs

abbrev pub is_empty : {X : Type 0} → List X → Bool
is_empty [] = true
is_empty (x ∷ xs) = false

-- the rules of the choices of a case: those that are spread, and those of a last alternative without others
abbrev pub served : Integers → (at : ℕ) → (among all : Span) → (spread last : List Choice) → Elab (Unit {0})
served here at among all cs ds = do
  ss ← choices_spans here among cs
  ts ← choices_spans here among ds
  are_apart [] (ss ++ ts)
  unless StaticError at (is_empty ds || numbers_count all (ss ++ ts) == extent To all.least all.greatest)
  may_be_spread at all ss

-- a number in so many digits, by their codes
abbrev pub digits : (len : ℕ) → ℤ → List ℕ
digits len n = map code_of (signed_digits_of len n)

-- each number of some choices, of those that the integer may be
abbrev pub spread : Integers → (among all : Span) → (len : ℕ) → List Choice → Elab (List (List ℕ))
spread here among all len cs = do
  ss ← choices_spans here among cs
  Ok (map (digits len) (flat_map (λ (s : ℕ × Span). numbers_in all s.1) ss))

abbrev pub spread_by : Integers → NumberChoices → List Choice → Elab (List (List ℕ))
spread_by here x = spread here (limits_view x.among) (limits_view x.all) x.width.len

-- what makes the codes of choices
abbrev pub codes_by : Integers → (at : ℕ) → Coding → List Choice → Elab (List (List ℕ))
codes_by here at (c.Elements width) = each (choice at width.len)
codes_by here at (c.Numbers x) = spread_by here x
