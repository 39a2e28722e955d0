-- What declarations of objects declare, by what is known of their names.
use Rattle.std.proofs.Common.{◌≡◌, ℕ, Bool, List, [], ◌∷◌, map, Option, Some, None, refl, sym, ap, ◌∙◌}
use Rattle.vhdl_tree.specs.Tree as t
use Rattle.vhdl_names_rules.specs.units.Units as u
use Rattle.vhdl_names_rules.specs.units.Units.{Fixed}
use Rattle.vhdl_names_rules.specs.Rules.{◌>>=◌, if_any}
use Rattle.vhdl_names_rules.specs.Visibility as visibility
use Rattle.vhdl_names_rules.specs.Visibility.{Meaning, Sight, Declares, names_of, count_of, ranges_count, declared_here, with_declared, with_variables}
use Rattle.vhdl_names_rules.specs.Subtypes.{Subtype, object_subtype, form_range, form_direction, fixed_value, object}
use Rattle.vhdl_names_rules.specs.Declarations.{within, within_variables, is_global, signals, variables, for_each}
use Rattle.vhdl_names_declarations.specs.declared.counts.Counts.{Counts}
use Rattle.vhdl_names_declarations.specs.Counts.{AreCounts}
use Rattle.vhdl_names_declarations.specs.Entered.{entering, entering_variables}
use Rattle.vhdl_names_declarations.specs.Porting.{Standing}
use Rattle.vhdl_names_declarations.specs.Typed.{typed_object}
use Rattle.vhdl_names_declarations.proofs.Settling.{standing_names}
use Rattle.vhdl_names_declarations.proofs.Turns.{declares_all, enters}

abbrev double : {X Y : Type 0} → X → Y → X × Y
double x y = (x, y)

two_steps : {X Y D : Type 0} (o : Option X) (g : X → Option Y) (h : X → Y → D) →
    (o >>= λ x. (g x >>= λ y. Some (h x y))) ≡ ((o >>= λ x. (g x >>= λ y. Some (double x y))) >>= λ z. Some (h z.0 z.1))
two_steps None g h = refl
two_steps {X} {Y} {D} (Some x) g h = go (g x)
  where
    go : (p : Option Y) → (p >>= λ y. Some (h x y)) ≡ ((p >>= λ y. Some (double x y)) >>= λ z. Some (h z.0 z.1))
    go None = refl
    go (Some y) = refl

-- ---- objects with a type and a default

abbrev object_standing : Sight → t.Subtype → (Subtype → ℕ → Meaning) → Subtype × Option Fixed → Standing
object_standing inner i meaning x = record { meaning = meaning x.0; direction = form_direction x.0.form; is_global = is_global inner i }

module _ (inner : Sight) (i : t.Subtype) (v : Option t.Value) (meaning : Subtype → ℕ → Meaning) (class : Meaning → Bool) (ns : List visibility.Name) (a : Subtype × Option Fixed → List u.Declaration) (before : List visibility.Declared) where
  -- with these numbers of the first
  abbrev numbered_from : ℕ → ℕ → Option (Declares u.Declaration)
  numbered_from number ranges =
      typed_object inner i v >>= λ x. Some (record { declared = standing_names (meaning x.0) (form_direction x.0.form) (is_global inner i) number ranges ns; analysed = a x })

  objects_are : (object_subtype inner i >>= λ s. (if_any (fixed_value inner s.type (form_range s.form)) v >>= λ default.
      Some (record { declared = standing_names (meaning s) (form_direction s.form) (is_global inner i) (count_of class before) (ranges_count before) ns; analysed = a (double s default) })))
      ≡ numbered_from (count_of class before) (ranges_count before)
  objects_are =
      two_steps (object_subtype inner i) (λ s. if_any (fixed_value inner s.type (form_range s.form)) v)
      (λ s default. record { declared = standing_names (meaning s) (form_direction s.form) (is_global inner i) (count_of class before) (ranges_count before) ns; analysed = a (double s default) })

  numbers_are : (number ranges : ℕ) → number ≡ count_of class before → ranges ≡ ranges_count before → numbered_from (count_of class before) (ranges_count before) ≡ numbered_from number ranges
  numbers_are number ranges n r = ap (λ k. numbered_from k (ranges_count before)) (sym n) ∙ ap (numbered_from number) (sym r)

-- ---- signals

abbrev pub signals_of : t.Signals → Subtype × Option Fixed → List u.Declaration
signals_of d x = for_each (λ n. u.signal (object x.0 x.1 n)) d.names

abbrev signal_meaning : Subtype → ℕ → Meaning
signal_meaning s k = visibility.signal k s.type

abbrev pub signal_standing : Sight → t.Signals → Subtype × Option Fixed → Standing
signal_standing s d = object_standing (within s d.names) d.subtype signal_meaning

pub signals_is : (s : Sight) (d : t.Signals) (c : Counts) → AreCounts c s.region →
    entering signals s d ≡ (declares_all c (names_of d.names) (signal_standing s d) (signals_of d) (typed_object (within s d.names) d.subtype d.default) >>= enters (λ s. s.region) with_declared s)
unfolding signals
signals_is s d c h =
    let inner = within s d.names in
    let ns = names_of d.names in
    ap (λ o. o >>= enters (λ s. s.region) with_declared s)
    (objects_are inner d.subtype d.default signal_meaning visibility.is_signal ns (signals_of d) s.region
    ∙ numbers_are inner d.subtype d.default signal_meaning visibility.is_signal ns (signals_of d) s.region c.signals c.ranges h.signals h.ranges)

-- ---- variables

abbrev pub variables_of : t.Variables → Subtype × Option Fixed → List u.Declaration
variables_of d x = for_each (λ n. u.variable (object x.0 x.1 n)) d.names

abbrev variable_meaning : Subtype → ℕ → Meaning
variable_meaning s k = visibility.variable k s.type

abbrev pub variable_standing : Sight → t.Variables → Subtype × Option Fixed → Standing
variable_standing s d = object_standing (within_variables s d.names) d.subtype variable_meaning

pub variables_is : (s : Sight) (d : t.Variables) (c : Counts) → AreCounts c (declared_here s) →
    entering_variables variables s d ≡ (declares_all c (names_of d.names) (variable_standing s d) (variables_of d) (typed_object (within_variables s d.names) d.subtype d.default) >>= enters (λ s. s.variables) with_variables s)
unfolding variables
variables_is s d c h =
    let inner = within_variables s d.names in
    let ns = names_of d.names in
    ap (λ o. o >>= enters (λ s. s.variables) with_variables s)
    (objects_are inner d.subtype d.default variable_meaning visibility.is_variable ns (variables_of d) (declared_here s)
    ∙ numbers_are inner d.subtype d.default variable_meaning visibility.is_variable ns (variables_of d) (declared_here s) c.variables c.ranges h.variables h.ranges)

-- ---- names of one declaration

pub map-map : {A B C : Type 0} (f : B → C) (g : A → B) (xs : List A) → map f (map g xs) ≡ map (λ x. f (g x)) xs
map-map f g [] = refl
map-map f g (x ∷ xs) = ap (λ l. f (g x) ∷ l) (map-map f g xs)
