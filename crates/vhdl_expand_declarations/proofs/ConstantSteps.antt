-- Constants of one declaration, one after another: their value is computed once. And ranges.
use Rattle.std.proofs.Common.{◌≡◌, ℕ, List, [], ◌∷◌, ◌++◌, length, map, Option, Some, Bool, Ok, Err, refl, sym, ap, ◌∙◌, append_assoc, append-nil, ℤ}
use Rattle.std.specs.Prelude.{replicate, flat_map, unwrap_or, option_map, slice_get}
use Rattle.vhdl_tree.specs.declared.expression.Identifier.{Identifier}
use Rattle.vhdl_names_rules.specs.units.Expressions.{Static, StaticTest, Range}
use Rattle.vhdl_names_rules.specs.units.Units as u
use Rattle.vhdl_names_rules.specs.units.Units.{Declaration, Fixed, Form, IntegerSubtype}
use Rattle.vhdl_expand_rules.specs.declared.range.IntegerRange.{IntegerRange}
use Rattle.vhdl_expand_rules.specs.Elab.{Elab, ◌>>=◌, Told}
use Rattle.vhdl_expand_rules.specs.Integers.{Integers, integer_of, decision}
use Rattle.vhdl_expand_rules.specs.Kinds.{Bounds, vector, declared_bounds, kind_of, size, ranges_of}
use Rattle.vhdl_expand_rules.specs.Site.{Constant, Site, with_ranges}
use Rattle.vhdl_expand_rules.specs.Declarations.{declared, fixed_values, position_of, with_constant, with_integer}
use Rattle.vhdl_expand_rules.specs.views.Integers.{range_view, if_any}
use Rattle.vhdl_expand_rules.proofs.Steps.{given}
use Rattle.vhdl_expand_bodies.specs.declared.constant.Constant as code
use Rattle.vhdl_expand_bodies.specs.Sites.{constant_view}
use Rattle.vhdl_expand_declarations.specs.Constants.{constant_of}
use Rattle.vhdl_expand_declarations.specs.Regions.{entered_at, integers_of}
use Rattle.vhdl_expand_declarations.specs.Stepwise.{stepwise}
use Rattle.vhdl_expand_declarations.specs.declared.region.Entered.TheVariants as e
use Rattle.vhdl_expand_declarations.proofs.Elsewhere.{integer_elsewhere, constant_elsewhere}
use Rattle.vhdl_expand_declarations.proofs.Growing.{stays_same, stays_then, kept_same, kept_behind, More, kind_stays, integer_of_stays, decision_stays, Grown, fixed_stays}
use Rattle.vhdl_expand_declarations.proofs.Grown.{known_grown, more_ranges}
use Rattle.vhdl_expand_declarations.proofs.Walks.{first_stops}

-- ---- so many alike

abbrev with_integers : Site → ℤ → ℕ → Site
with_integers here y n = record here { integers = record here.integers { constants = here.integers.constants ++ replicate n y } }

abbrev with_constants : Site → Constant → ℕ → Site
with_constants here c n = record here {
  integers = record here.integers { ranges = here.integers.ranges ++ flat_map (λ (d : Constant). ranges_of d.kind) (replicate n c) };
  constants = here.constants ++ replicate n c;
}

module _ {X : Type 0} (of : X → Declaration) (Has : Site → Type 0) where
  integers-stepped : (y : ℤ) → ((here : Site) (x : X) → Has here → declared here (of x) ≡ Ok (with_integer here y)) → ((here : Site) → Has here → Has (with_integer here y))
      → (xs : List X) (here : Site) → Has here → stepwise declared here (map of xs) ≡ Ok (with_integers here y (length xs))
  integers-stepped y one stays [] here h = ap (λ zs. given (record here { integers = record here.integers { constants = zs } })) (sym (append-nil here.integers.constants))
  integers-stepped y one stays (x ∷ xs) here h =
      ap (λ r. r >>= λ t. stepwise declared t (map of xs)) (one here x h)
      ∙ integers-stepped y one stays xs (with_integer here y) (stays here h)
      ∙ ap (λ zs. given (record here { integers = record here.integers { constants = zs } })) (append_assoc here.integers.constants (y ∷ []) (replicate (length xs) y))

  constants-stepped : (c : Constant) → ((here : Site) (x : X) → Has here → declared here (of x) ≡ Ok (with_constant here c)) → ((here : Site) → Has here → Has (with_constant here c))
      → (xs : List X) (here : Site) → Has here → stepwise declared here (map of xs) ≡ Ok (with_constants here c (length xs))
  constants-stepped c one stays [] here h =
      ap (λ rs. given (record here { integers = record here.integers { ranges = rs } })) (sym (append-nil here.integers.ranges))
      ∙ ap (λ cs. given (record here { integers = record here.integers { ranges = here.integers.ranges ++ [] }; constants = cs })) (sym (append-nil here.constants))
  constants-stepped c one stays (x ∷ xs) here h =
      let rest = replicate (length xs) c in
      let ranges = flat_map (λ (d : Constant). ranges_of d.kind) rest in
      ap (λ r. r >>= λ t. stepwise declared t (map of xs)) (one here x h)
      ∙ constants-stepped c one stays xs (with_constant here c) (stays here h)
      ∙ ap (λ rs. given (record here { integers = record here.integers { ranges = rs }; constants = (here.constants ++ c ∷ []) ++ rest })) (append_assoc here.integers.ranges (ranges_of c.kind) ranges)
      ∙ ap (λ cs. given (record here { integers = record here.integers { ranges = here.integers.ranges ++ (ranges_of c.kind ++ ranges) }; constants = cs })) (append_assoc here.constants (c ∷ []) rest)

-- ---- integers and booleans

more-integers : (here : Integers) (y : ℤ) → More here (record here { constants = here.constants ++ y ∷ [] })
more-integers here y = record {
  generics = kept_same here.generics;
  constants = kept_behind here.constants (y ∷ []);
  generates = kept_same here.generates;
  loops = kept_same here.loops;
  ranges = kept_same here.ranges;
}

-- the value, at whatever byte
abbrev HasInteger : IntegerSubtype → Static → ℤ → Site → Type 0
HasInteger type t y here = (at : ℕ) → integer_of type here.integers at t ≡ Ok y

integer-stays : (type : IntegerSubtype) (t : Static) (y : ℤ) (here : Site) → HasInteger type t y here → HasInteger type t y (with_integer here y)
integer-stays type t y here h at = integer_of_stays here.integers (with_integer here y).integers (more-integers here.integers y) type at t y (h at)

integer-step : (here : Site) (at : ℕ) (type : IntegerSubtype) (t : Static) (y : ℤ) → integer_of type here.integers at t ≡ Ok y → declared here (u.Declaration.integer at type t) ≡ Ok (with_integer here y)
unfolding declared
integer-step here at type t y h = ap (λ r. r >>= λ z. given (with_integer here z)) h

integer-refused : {told : Told} → (here : Site) (at : ℕ) (type : IntegerSubtype) (t : Static) → integer_of type here.integers at t ≡ Err told → declared here (u.Declaration.integer at type t) ≡ Err told
unfolding declared
integer-refused here at type t h = ap (λ r. r >>= λ z. given (with_integer here z)) h

truth-stays : (t : StaticTest) (b : _) (here : Site) → decision here.integers t ≡ Ok b → decision (with_integer here (position_of b)).integers t ≡ Ok b
truth-stays t b here h = decision_stays here.integers (with_integer here (position_of b)).integers (more-integers here.integers (position_of b)) t b h

truth-step : (here : Site) (at : ℕ) (t : StaticTest) (b : _) → decision here.integers t ≡ Ok b → declared here (u.Declaration.truth at t) ≡ Ok (with_integer here (position_of b))
unfolding declared
truth-step here at t b h = ap (λ r. r >>= λ c. given (with_integer here (position_of c))) h

truth-refused : {told : Told} → (here : Site) (at : ℕ) (t : StaticTest) → decision here.integers t ≡ Err told → declared here (u.Declaration.truth at t) ≡ Err told
unfolding declared
truth-refused here at t h = ap (λ r. r >>= λ c. given (with_integer here (position_of c))) h

-- ---- other constants

abbrev HasConstant : Form → Fixed → Constant → Site → Type 0
HasConstant form f c here = (at : ℕ) → constant_of here at form f ≡ Ok c

constant-grown : (here : Site) (c : Constant) → Grown here (with_constant here c)
constant-grown here c = known_grown here (with_constant here c).integers (more_ranges here.integers (ranges_of c.kind)) (c ∷ [])

constant-stays : (form : Form) (f : Fixed) (c : Constant) (here : Site) → HasConstant form f c here → HasConstant form f c (with_constant here c)
constant-stays form f c here h at =
    let more = with_constant here c in
    stays_then (kind_of here.integers at form) (kind_of more.integers at form) _ (λ kind. fixed_values more at (size kind) f >>= λ vs. given (record { kind = kind; values = vs }))
    (kind_stays here.integers more.integers (more_ranges here.integers (ranges_of c.kind)) at form) (λ kind.
    stays_then (fixed_values here at (size kind) f) (fixed_values more at (size kind) f) _ (λ vs. given (record { kind = kind; values = vs }))
    (fixed_stays here more (constant-grown here c) at (size kind) f) (λ vs. stays_same _)) c (h at)

constant-bound : (here : Site) (at : ℕ) (form : Form) (f : Fixed) → declared here (u.Declaration.constant at form f) ≡ (constant_of here at form f >>= λ c. given (with_constant here c))
unfolding declared
constant-bound here at form f = by (kind_of here.integers at form)
  where
    inner : (kind : _) (r : Elab (List _)) → (r >>= λ vs. given (with_constant here (record { kind = kind; values = vs }))) ≡ ((r >>= λ vs. given (record { kind = kind; values = vs })) >>= λ c. given (with_constant here c))
    inner kind (Ok vs) = refl
    inner kind (Err p) = refl

    by : (r : Elab _) → (r >>= λ kind. fixed_values here at (size kind) f >>= λ vs. given (with_constant here (record { kind = kind; values = vs })))
        ≡ ((r >>= λ kind. fixed_values here at (size kind) f >>= λ vs. given (record { kind = kind; values = vs })) >>= λ c. given (with_constant here c))
    by (Ok kind) = inner kind (fixed_values here at (size kind) f)
    by (Err p) = refl

constant-step : (here : Site) (at : ℕ) (form : Form) (f : Fixed) (c : Constant) → constant_of here at form f ≡ Ok c → declared here (u.Declaration.constant at form f) ≡ Ok (with_constant here c)
constant-step here at form f c h = constant-bound here at form f ∙ ap (λ r. r >>= λ d. given (with_constant here d)) h

constant-refused : {told : Told} → (here : Site) (at : ℕ) (form : Form) (f : Fixed) → constant_of here at form f ≡ Err told → declared here (u.Declaration.constant at form f) ≡ Err told
constant-refused here at form f h = constant-bound here at form f ∙ ap (λ r. r >>= λ d. given (with_constant here d)) h

-- ---- of the names of one declaration, of which each is as the first

module _ (here : Site) (names : List Identifier) where
  pub integers_entered : (told_at : Option ℕ) (type : IntegerSubtype) (t : Static) (at : ℕ) (y : ℤ) → integer_of type here.integers at t ≡ Ok y
      → stepwise declared here (integers_of names told_at type t) ≡ Ok (entered_at here (e.Integers y (length names)))
  integers_entered told_at type t at y h =
      integers-stepped (λ (i : Identifier). u.Declaration.integer (unwrap_or told_at i.at) type t) (HasInteger type t y) y
      (λ there i has. integer-step there (unwrap_or told_at i.at) type t y (has (unwrap_or told_at i.at))) (λ there has. integer-stays type t y there has)
      names here (λ other. integer_elsewhere type here.integers at other t y h)

  pub truths_entered : (t : StaticTest) (b : Bool) → decision here.integers t ≡ Ok b
      → stepwise declared here (map (λ (i : Identifier). u.Declaration.truth i.at t) names) ≡ Ok (entered_at here (e.Integers (position_of b) (length names)))
  truths_entered t b h =
      integers-stepped (λ (i : Identifier). u.Declaration.truth i.at t) (λ there. decision there.integers t ≡ Ok b) (position_of b)
      (λ there i has. truth-step there i.at t b has) (λ there has. truth-stays t b there has) names here h

  pub constants_entered : (form : Form) (f : Fixed) (at : ℕ) (c : code.Constant) → constant_of here at form f ≡ Ok (constant_view c)
      → stepwise declared here (map (λ (i : Identifier). u.Declaration.constant i.at form f) names) ≡ Ok (entered_at here (e.Constants c (length names)))
  constants_entered form f at c h =
      constants-stepped (λ (i : Identifier). u.Declaration.constant i.at form f) (HasConstant form f (constant_view c)) (constant_view c)
      (λ there i has. constant-step there i.at form f (constant_view c) (has i.at)) (λ there has. constant-stays form f (constant_view c) there has)
      names here (λ other. constant_elsewhere here at other form f (constant_view c) h)

  module _ {told : Told} (first : Identifier) (is : slice_get names 0 ≡ Some first) where
    pub integers_refused : (told_at : Option ℕ) (type : IntegerSubtype) (t : Static) → integer_of type here.integers (unwrap_or told_at first.at) t ≡ Err told
        → stepwise declared here (integers_of names told_at type t) ≡ Err told
    integers_refused told_at type t h =
        first_stops declared (λ (i : Identifier). u.Declaration.integer (unwrap_or told_at i.at) type t) here names first is (integer-refused here (unwrap_or told_at first.at) type t h)

    pub truths_refused : (t : StaticTest) → decision here.integers t ≡ Err told → stepwise declared here (map (λ (i : Identifier). u.Declaration.truth i.at t) names) ≡ Err told
    truths_refused t h = first_stops declared (λ (i : Identifier). u.Declaration.truth i.at t) here names first is (truth-refused here first.at t h)

    pub constants_refused : (form : Form) (f : Fixed) → constant_of here first.at form f ≡ Err told
        → stepwise declared here (map (λ (i : Identifier). u.Declaration.constant i.at form f) names) ≡ Err told
    constants_refused form f h = first_stops declared (λ (i : Identifier). u.Declaration.constant i.at form f) here names first is (constant-refused here first.at form f h)

-- ---- ranges, and what declares an object

module _ (here : Site) (o : Option IntegerRange) where
  pub vector_entered : (at : ℕ) (r : Range) (b : Bounds) → declared_bounds here.integers at r ≡ Ok b → ranges_of (vector b) ≡ if_any (option_map range_view o)
      → stepwise declared here (u.vector_subtype at r ∷ []) ≡ Ok (entered_at here (e.Range o))
  unfolding declared kind_of
  vector_entered at r b h same = ap (λ q. ((q >>= λ c. given (vector c)) >>= λ kind. given (with_ranges here (ranges_of kind))) >>= λ t. given t) h ∙ ap (λ rs. given (with_ranges here rs)) same

pub vector_refused : {told : Told} → (here : Site) (at : ℕ) (r : Range) → declared_bounds here.integers at r ≡ Err told → stepwise declared here (u.vector_subtype at r ∷ []) ≡ Err told
unfolding declared kind_of
vector_refused here at r h = ap (λ q. ((q >>= λ c. given (vector c)) >>= λ kind. given (with_ranges here (ranges_of kind))) >>= λ t. given t) h

pub signals_entered : (here : Site) (os : List u.Object) → stepwise declared here (map u.Declaration.signal os) ≡ Ok here
unfolding declared
signals_entered here [] = refl
signals_entered here (o ∷ os) = signals_entered here os

pub variables_entered : (here : Site) (os : List u.Object) → stepwise declared here (map u.Declaration.variable os) ≡ Ok here
unfolding declared
variables_entered here [] = refl
variables_entered here (o ∷ os) = variables_entered here os
