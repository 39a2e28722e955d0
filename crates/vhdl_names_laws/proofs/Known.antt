-- What is known of a region or a process: what is inside, and how many of each class it declares (IEEE 1076-2008, 12.1 and 12.2).
use Rattle.std.proofs.Common.{◌≡◌, ℕ, suc, ◌+◌, Bool, true, false, cond, List, [], ◌∷◌, ◌++◌, length, Option, Some, None, refl, ap, sym, ◌∙◌, subst, arith, append_assoc, append-nil}
use Rattle.std.specs.Prelude.{count_by, is_some}
use Rattle.std.specs.List.{slice_get, AllByRecursion}
use Rattle.std.specs.Option.{option_map}
use Rattle.std.proofs.lemmas.Bool.{lt-ltb}
use Rattle.std.proofs.lemmas.List.{length-append}
use Rattle.std.proofs.lemmas.List.Sums.{sum_by-append}
use Rattle.vhdl_tree.specs.declared.operator.Direction.{Direction}
use Rattle.vhdl_tree.specs.Tree.{Ident}
use Rattle.vhdl_names_rules.specs.declared.kind.ObjectType.{ObjectType}
use Rattle.vhdl_names_rules.specs.units.Units as u
use Rattle.vhdl_names_rules.specs.units.Units.{Form}
use Rattle.vhdl_names_rules.specs.Visibility as visibility
use Rattle.vhdl_names_rules.specs.Visibility.{Name, Meaning, Declared, all_declared, names_of, count_of, ranges_count, Sight, declared_here, with_declared, with_variables}
use Rattle.vhdl_names_rules.specs.Subtypes.{form_direction}
use Rattle.vhdl_names_rules.specs.sound.Expressions.{Inside, shape_of}
use Rattle.vhdl_names_rules.specs.sound.Units.{ranges_of}
use Rattle.vhdl_names_laws.specs.Meanings.{Counts, type_shape, IsCounted, IsForm, DeclaredFits, AllFit, IsInside}
use Rattle.vhdl_names_laws.proofs.Statics.{get_last, each_append, each_weaker, HasMore, more_of, keeps_all, same_numbers, all_more}
use Rattle.vhdl_names_laws.proofs.Ranges.{RangeFits}
use Rattle.vhdl_names_laws.proofs.InOrder.{range_at, next_range, declared_one}

-- ---- what is inside, and in sight

pub inside_more : (i j : Inside) (few more : Counts) (sight : Sight) → HasMore i j few more → i.loops ≡ j.loops → i.generates ≡ j.generates → IsInside i few sight → IsInside j more sight
inside_more i j few more sight m l g h = record {
  loops = all_more i j few more m sight.loops h.loops;
  variables = all_more i j few more m sight.variables h.variables;
  generates = all_more i j few more m sight.generates h.generates;
  region = all_more i j few more m sight.region h.region;
  enclosing = all_more i j few more m sight.enclosing h.enclosing;
  packages = all_more i j few more m sight.packages h.packages;
  loop_count = h.loop_count ∙ l;
  generate_count = h.generate_count ∙ g;
}

pub inside_with : (i : Inside) (counts : Counts) (sight : Sight) (ds : List Declared) → IsInside i counts sight → AllFit i counts ds → IsInside i counts (with_declared sight ds)
inside_with i counts sight ds h a = record {
  loops = h.loops;
  variables = h.variables;
  generates = h.generates;
  region = each_append (DeclaredFits i counts) sight.region ds h.region a;
  enclosing = h.enclosing;
  packages = h.packages;
  loop_count = h.loop_count;
  generate_count = h.generate_count;
}

pub inside_variables : (i : Inside) (counts : Counts) (sight : Sight) (ds : List Declared) → IsInside i counts sight → AllFit i counts ds → IsInside i counts (with_variables sight ds)
inside_variables i counts sight ds h a = record {
  loops = h.loops;
  variables = each_append (DeclaredFits i counts) sight.variables ds h.variables a;
  generates = h.generates;
  region = h.region;
  enclosing = h.enclosing;
  packages = h.packages;
  loop_count = h.loop_count;
  generate_count = h.generate_count;
}

-- names whose declaration isn't finished
unfinished_fit : (i : Inside) (counts : Counts) (ns : List Name) → AllFit i counts (all_declared visibility.unfinished ns)
unfinished_fit i counts [] = tt
unfinished_fit i counts (n ∷ ns) = (record { meaning = tt; range = tt }, unfinished_fit i counts ns)

-- ---- counts

none_first : (n : ℕ) → 0 + n ≡ n
none_first n = omega arith

module _ (q : Declared → Bool) where
  pub count_cons : (d : Declared) (ds : List Declared) → count_by q (d ∷ ds) ≡ cond (q d) 1 0 + count_by q ds
  count_cons d ds = sum_by-append (λ (d : Declared). cond (q d) 1 0) (d ∷ []) ds ∙ ap (λ n. n + count_by q ds) (none_first (cond (q d) 1 0))

  pub count_append : (ds es : List Declared) → count_by q (ds ++ es) ≡ count_by q ds + count_by q es
  count_append ds es = sum_by-append (λ (d : Declared). cond (q d) 1 0) ds es

  -- with one more declaration
  pub counted : (ds : List Declared) (d : Declared) (n : ℕ) → count_by q ds ≡ n → count_by q (ds ++ d ∷ []) ≡ cond (q d) (suc n) n
  counted ds d n h = count_append ds (d ∷ []) ∙ go (q d) refl
    where
      go : (b : Bool) → q d ≡ b → count_by q ds + count_by q (d ∷ []) ≡ cond b (suc n) n
      go true e = let a : count_by q (d ∷ []) ≡ 1 = ap (λ b. 0 + cond b 1 0) e in omega (arith, a, h)
      go false e = let a : count_by q (d ∷ []) ≡ 0 = ap (λ b. 0 + cond b 1 0) e in omega (arith, a, h)

pub one_longer : {A : Type 0} (xs : List A) (x : A) → length (xs ++ x ∷ []) ≡ suc (length xs)
one_longer xs x = let a : length (xs ++ x ∷ []) ≡ length xs + 1 = length-append xs (x ∷ []) in omega (arith, a)

-- ---- objects of a form

pub last_form : (counts : Counts) (type : ObjectType) (form : Form) (fs : List Form) (k : ℕ) → k ≡ length fs → shape_of form ≡ type_shape type → IsCounted counts type
    → IsForm counts type (slice_get (fs ++ form ∷ []) k)
last_form counts type form fs k e h c = record {
  shape = ap (λ k. option_map shape_of (slice_get (fs ++ form ∷ []) k)) e ∙ ap (option_map shape_of) (get_last fs form) ∙ ap Some h;
  counted = c;
}

-- ---- the ranges of what is declared in a form

-- whether one has a range
pub one_range_more : (direction : Option Direction) (k n : ℕ) → cond (is_some (range_at direction k)) (suc n) n ≡ next_range direction n
one_range_more None k n = refl
one_range_more (Some d) k n = refl

pub form_ranges : (f : Form) (n : ℕ) → next_range (form_direction f) n ≡ n + ranges_of f
form_ranges u.element n = omega arith
form_ranges (u.vector r) n = omega arith
form_ranges (u.enumeration count) n = omega arith
form_ranges (u.Form.number s) n = omega arith
form_ranges u.boolean n = omega arith

-- that range is the last
pub last_range : (i : Inside) (direction : Option Direction) (k : ℕ) → i.ranges ≡ next_range direction k → RangeFits i (range_at direction k)
last_range i None k h = tt
last_range i (Some d) k h = lt-ltb k i.ranges (omega (arith, h))

pub form_counts : (f : Form) (k n : ℕ) → cond (is_some (range_at (form_direction f) k)) (suc n) n ≡ n + ranges_of f
form_counts f k n = one_range_more (form_direction f) k n ∙ form_ranges f n

pub last_form_range : (j : Inside) (f : Form) (k n : ℕ) → j.ranges ≡ n + ranges_of f → k ≡ n → RangeFits j (range_at (form_direction f) k)
last_form_range j f k n e h = last_range j (form_direction f) k (e ∙ sym (form_ranges f n) ∙ ap (next_range (form_direction f)) (sym h))

-- ---- where declarations stand: in a region, or among those of a process

pub record Place : Type 0 where
  pub with_more : Sight → List Declared → Sight
  -- what is declared up to there
  pub before : Sight → List Declared
  pub none : (sight : Sight) → with_more sight [] ≡ sight
  pub twice : (sight : Sight) (ds es : List Declared) → with_more (with_more sight ds) es ≡ with_more sight (ds ++ es)
  pub adds : (sight : Sight) (ds : List Declared) → before (with_more sight ds) ≡ before sight ++ ds
  pub inside : (i : Inside) (counts : Counts) (sight : Sight) (ds : List Declared) → IsInside i counts sight → AllFit i counts ds → IsInside i counts (with_more sight ds)

pub nothing_more : (sight : Sight) → with_declared sight [] ≡ sight
nothing_more sight = ap (λ ds. record sight { region = ds }) (append-nil sight.region)

pub more_twice : (sight : Sight) (ds es : List Declared) → with_declared (with_declared sight ds) es ≡ with_declared sight (ds ++ es)
more_twice sight ds es = ap (λ ds. record sight { region = ds }) (append_assoc sight.region ds es)

abbrev pub region : Place
region = record {
  with_more = with_declared;
  before = λ sight. sight.region;
  none = nothing_more;
  twice = more_twice;
  adds = λ sight ds. refl;
  inside = inside_with;
}

pub no_more : (sight : Sight) → with_variables sight [] ≡ sight
no_more sight = ap (λ ds. record sight { variables = ds }) (append-nil sight.variables)

pub variables_twice : (sight : Sight) (ds es : List Declared) → with_variables (with_variables sight ds) es ≡ with_variables sight (ds ++ es)
variables_twice sight ds es = ap (λ ds. record sight { variables = ds }) (append_assoc sight.variables ds es)

abbrev pub in_process : Place
in_process = record {
  with_more = with_variables;
  before = declared_here;
  none = no_more;
  twice = variables_twice;
  adds = λ sight ds. sym (append_assoc sight.region sight.variables ds);
  inside = inside_variables;
}

-- ---- what is declared is counted by what is inside

pub record AreCounted (i : Inside) (counts : Counts) (ds : List Declared) : Type 0 where
  pub generics : count_of visibility.is_generic ds ≡ i.generics
  pub integers : count_of visibility.is_integer_constant ds ≡ i.integers
  pub ranges : ranges_count ds ≡ i.ranges
  pub constants : count_of visibility.is_constant ds ≡ length i.constants
  pub ports : count_of visibility.is_port ds ≡ length i.ports
  pub signals : count_of visibility.is_signal ds ≡ length i.signals
  pub variables : count_of visibility.is_variable ds ≡ length i.variables
  pub enumerations : count_of visibility.is_enumeration_type ds ≡ length counts

pub record IsKnown (p : Place) (i : Inside) (counts : Counts) (sight : Sight) : Type 0 where
  pub inside : IsInside i counts sight
  pub counted : AreCounted i counts (p.before sight)

-- with one more declaration
pub counted_one : (i j : Inside) (counts more : Counts) (ds : List Declared) (d : Declared)
    → cond (visibility.is_generic d.meaning) (suc i.generics) i.generics ≡ j.generics
    → cond (visibility.is_integer_constant d.meaning) (suc i.integers) i.integers ≡ j.integers
    → cond (is_some d.range) (suc i.ranges) i.ranges ≡ j.ranges
    → cond (visibility.is_constant d.meaning) (suc (length i.constants)) (length i.constants) ≡ length j.constants
    → cond (visibility.is_port d.meaning) (suc (length i.ports)) (length i.ports) ≡ length j.ports
    → cond (visibility.is_signal d.meaning) (suc (length i.signals)) (length i.signals) ≡ length j.signals
    → cond (visibility.is_variable d.meaning) (suc (length i.variables)) (length i.variables) ≡ length j.variables
    → cond (visibility.is_enumeration_type d.meaning) (suc (length counts)) (length counts) ≡ length more
    → AreCounted i counts ds → AreCounted j more (ds ++ d ∷ [])
counted_one i j counts more ds d generics integers ranges constants ports signals variables enumerations k = record {
  generics = counted (λ (d : Declared). visibility.is_generic d.meaning) ds d i.generics k.generics ∙ generics;
  integers = counted (λ (d : Declared). visibility.is_integer_constant d.meaning) ds d i.integers k.integers ∙ integers;
  ranges = counted (λ (d : Declared). is_some d.range) ds d i.ranges k.ranges ∙ ranges;
  constants = counted (λ (d : Declared). visibility.is_constant d.meaning) ds d (length i.constants) k.constants ∙ constants;
  ports = counted (λ (d : Declared). visibility.is_port d.meaning) ds d (length i.ports) k.ports ∙ ports;
  signals = counted (λ (d : Declared). visibility.is_signal d.meaning) ds d (length i.signals) k.signals ∙ signals;
  variables = counted (λ (d : Declared). visibility.is_variable d.meaning) ds d (length i.variables) k.variables ∙ variables;
  enumerations = counted (λ (d : Declared). visibility.is_enumeration_type d.meaning) ds d (length counts) k.enumerations ∙ enumerations;
}

-- what is of no class, and has no range, is counted nowhere
pub record IsUncounted (d : Declared) : Type 0 where
  pub generics : visibility.is_generic d.meaning ≡ false
  pub integers : visibility.is_integer_constant d.meaning ≡ false
  pub ranges : is_some d.range ≡ false
  pub constants : visibility.is_constant d.meaning ≡ false
  pub ports : visibility.is_port d.meaning ≡ false
  pub signals : visibility.is_signal d.meaning ≡ false
  pub variables : visibility.is_variable d.meaning ≡ false
  pub enumerations : visibility.is_enumeration_type d.meaning ≡ false

abbrev one_if : Bool → ℕ
one_if b = cond b 1 0

none_counted : (q : Declared → Bool) (es : List Declared) → AllByRecursion (λ (d : Declared). q d ≡ false) es → count_by q es ≡ 0
none_counted q [] h = refl
none_counted q (d ∷ es) h =
    let a = count_cons q d es in
    let b : ◌≡◌ {A = ℕ} (cond (q d) 1 0) 0 = ap (λ (b : Bool). one_if b) h.0 in
    let c = none_counted q es h.1 in
    omega (arith, a, b, c)

still : (q : Declared → Bool) (ds es : List Declared) (n : ℕ) → AllByRecursion (λ (d : Declared). q d ≡ false) es → count_by q ds ≡ n → count_by q (ds ++ es) ≡ n
still q ds es n h k =
    let a = count_append q ds es in
    let b = none_counted q es h in
    omega (arith, a, b, k)

pub uncounted : (i : Inside) (counts : Counts) (ds es : List Declared) → AllByRecursion IsUncounted es → AreCounted i counts ds → AreCounted i counts (ds ++ es)
uncounted i counts ds es h k =
    let each = λ (q : Declared → Bool) (f : (d : Declared) → IsUncounted d → q d ≡ false). each_weaker IsUncounted (λ (d : Declared). q d ≡ false) f es h in
    record {
      generics = still (λ (d : Declared). visibility.is_generic d.meaning) ds es i.generics (each (λ d. visibility.is_generic d.meaning) (λ d u. u.generics)) k.generics;
      integers = still (λ (d : Declared). visibility.is_integer_constant d.meaning) ds es i.integers (each (λ d. visibility.is_integer_constant d.meaning) (λ d u. u.integers)) k.integers;
      ranges = still (λ (d : Declared). is_some d.range) ds es i.ranges (each (λ d. is_some d.range) (λ d u. u.ranges)) k.ranges;
      constants = still (λ (d : Declared). visibility.is_constant d.meaning) ds es (length i.constants) (each (λ d. visibility.is_constant d.meaning) (λ d u. u.constants)) k.constants;
      ports = still (λ (d : Declared). visibility.is_port d.meaning) ds es (length i.ports) (each (λ d. visibility.is_port d.meaning) (λ d u. u.ports)) k.ports;
      signals = still (λ (d : Declared). visibility.is_signal d.meaning) ds es (length i.signals) (each (λ d. visibility.is_signal d.meaning) (λ d u. u.signals)) k.signals;
      variables = still (λ (d : Declared). visibility.is_variable d.meaning) ds es (length i.variables) (each (λ d. visibility.is_variable d.meaning) (λ d u. u.variables)) k.variables;
      enumerations = still (λ (d : Declared). visibility.is_enumeration_type d.meaning) ds es (length counts) (each (λ d. visibility.is_enumeration_type d.meaning) (λ d u. u.enumerations)) k.enumerations;
    }

module _ (p : Place) where
  pub known_more : (i j : Inside) (counts more : Counts) (sight : Sight) (ds : List Declared) → HasMore i j counts more → i.loops ≡ j.loops → i.generates ≡ j.generates → AllFit j more ds
      → AreCounted j more (p.before sight ++ ds) → IsKnown p i counts sight → IsKnown p j more (p.with_more sight ds)
  known_more i j counts more sight ds h l g fit c k = record {
    inside = p.inside j more sight ds (inside_more i j counts more sight h l g k.inside) fit;
    counted = subst (AreCounted j more) (sym (p.adds sight ds)) c;
  }

  pub known_one : (i j : Inside) (counts : Counts) (sight : Sight) (d : Declared) → HasMore i j counts counts → i.loops ≡ j.loops → i.generates ≡ j.generates → DeclaredFits j counts d
      → AreCounted j counts (p.before sight ++ d ∷ []) → IsKnown p i counts sight → IsKnown p j counts (p.with_more sight (d ∷ []))
  known_one i j counts sight d h l g fits c k = known_more i j counts counts sight (d ∷ []) h l g (fits, tt) c k

  -- within a declaration
  abbrev pub within : Sight → List Ident → Sight
  within sight ns = p.with_more sight (all_declared visibility.unfinished (names_of ns))

  pub inside_within : (i : Inside) (counts : Counts) (sight : Sight) (ns : List Ident) → IsInside i counts sight → IsInside i counts (within sight ns)
  inside_within i counts sight ns h = p.inside i counts sight (all_declared visibility.unfinished (names_of ns)) h (unfinished_fit i counts (names_of ns))

  -- how many of a class there are with one more of it, and how many ranges
  pub one_more : (class : Meaning → Bool) (sight : Sight) (d : Declared) → class d.meaning ≡ true → count_of class (p.before (p.with_more sight (d ∷ []))) ≡ suc (count_of class (p.before sight))
  one_more class sight d h =
      let n = count_of class (p.before sight) in
      ap (count_of class) (p.adds sight (d ∷ [])) ∙ counted (λ (d : Declared). class d.meaning) (p.before sight) d n refl ∙ ap (λ b. cond b (suc n) n) h

  pub ranges_more : (sight : Sight) (g : Bool) (direction : Option Direction) (k : ℕ) (m : Meaning) (n : Name)
      → ranges_count (p.before (p.with_more sight (declared_one g direction k m n ∷ []))) ≡ next_range direction (ranges_count (p.before sight))
  ranges_more sight g direction k m n =
      let d = declared_one g direction k m n in
      let r = ranges_count (p.before sight) in
      ap ranges_count (p.adds sight (d ∷ [])) ∙ counted (λ (d : Declared). is_some d.range) (p.before sight) d r refl ∙ one_range_more direction k r

  -- what is counted nowhere
  pub known_besides : (i : Inside) (counts : Counts) (sight : Sight) (es : List Declared) → AllFit i counts es → AllByRecursion IsUncounted es → IsKnown p i counts sight → IsKnown p i counts (p.with_more sight es)
  known_besides i counts sight es fit h k =
      known_more i i counts counts sight es (more_of i i counts (same_numbers i) (keeps_all i.constants) (keeps_all i.ports) (keeps_all i.signals) (keeps_all i.variables)) refl refl fit
      (uncounted i counts (p.before sight) es h k.counted) k

-- ---- labels

pub labels_fit : (i : Inside) (counts : Counts) (ns : List Name) → AllFit i counts (all_declared visibility.label ns)
labels_fit i counts [] = tt
labels_fit i counts (n ∷ ns) = (record { meaning = tt; range = tt }, labels_fit i counts ns)

pub labels_uncounted : (ns : List Name) → AllByRecursion IsUncounted (all_declared visibility.label ns)
labels_uncounted [] = tt
labels_uncounted (n ∷ ns) =
    (record { generics = refl; integers = refl; ranges = refl; constants = refl; ports = refl; signals = refl; variables = refl; enumerations = refl }, labels_uncounted ns)
