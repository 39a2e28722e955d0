-- Static integers and meanings: what is inside stays so where there is more.
use Rattle.std.proofs.Common.{◌≡◌, ℕ, zero, suc, ◌<◌, ◌≤◌, Bool, true, false, List, [], ◌∷◌, ◌++◌, length, Option, Some, None, refl, ap, ◌∙◌, subst, cond, arith}
use Rattle.std.specs.Prelude.{nat_lt, ◌&&◌, IsTrue, IfSome}
use Rattle.std.specs.List.{slice_get, find, AllByRecursion}
use Rattle.std.specs.Option.{option_map}
use Rattle.std.specs.Str.{bytes_eq}
use Rattle.std.proofs.lemmas.Bool.{and_parts, and_from, ltb-true, lt-ltb}
use Rattle.vhdl_values.specs.declared.scalar.Nine.{Nine}
use Rattle.vhdl_names_rules.specs.declared.kind.ElementKind.{ElementKind}
use Rattle.vhdl_names_rules.specs.declared.kind.ElementKind.TheVariants.{Element}
use Rattle.vhdl_names_rules.specs.declared.kind.ObjectType.{ObjectType}
use Rattle.vhdl_names_rules.specs.declared.kind.ObjectType.TheVariants.{Elements, Enumeration, Integers, Booleans}
use Rattle.vhdl_names_rules.specs.units.Expressions as e
use Rattle.vhdl_names_rules.specs.units.Expressions.{Static, Range}
use Rattle.vhdl_names_rules.specs.units.Units as u
use Rattle.vhdl_names_rules.specs.units.Units.{Form}
use Rattle.vhdl_names_rules.specs.Visibility as visibility
use Rattle.vhdl_names_rules.specs.Visibility.{Name, Meaning, DeclaredRange, Declared, Sight, in_sight, declaration, meaning}
use Rattle.vhdl_names_rules.specs.sound.Expressions.{Inside, shape_of, static_fits, range_fits}
use Rattle.vhdl_names_rules.specs.sound.Units.{fixed_fits}
use Rattle.vhdl_names_laws.specs.Meanings.{Counts, kind_shape, type_shape, IsForm, IsCounted, IsLiteralOf, MeaningFits, DeclaredFits, AllFit, IsInside}
use Rattle.vhdl_names_rules.proofs.kept.Keeping.{mapped}

-- ---- lists

pub some_same : {A : Type 0} (x y : A) → Some x ≡ Some y → x ≡ y
some_same x y e = cc

pub get_before : {A : Type 0} (xs rest : List A) (k : ℕ) (x : A) → slice_get xs k ≡ Some x → slice_get (xs ++ rest) k ≡ Some x
get_before [] rest k x h = absurd cc
get_before (y ∷ xs) rest zero x h = h
get_before (y ∷ xs) rest (suc k) x h = get_before xs rest k x h

pub get_last : {A : Type 0} (xs : List A) (x : A) → slice_get (xs ++ x ∷ []) (length xs) ≡ Some x
get_last [] x = refl
get_last (y ∷ xs) x = get_last xs x

pub each_append : {A : Type 0} (P : A → Type 0) (xs ys : List A) → AllByRecursion P xs → AllByRecursion P ys → AllByRecursion P (xs ++ ys)
each_append P [] ys h k = k
each_append P (x ∷ xs) ys h k = (h.0, each_append P xs ys h.1 k)

pub each_weaker : {A : Type 0} (P Q : A → Type 0) → ((x : A) → P x → Q x) → (xs : List A) → AllByRecursion P xs → AllByRecursion Q xs
each_weaker P Q f [] h = tt
each_weaker P Q f (x ∷ xs) h = (f x h.0, each_weaker P Q f xs h.1)

-- ---- more inside

abbrev pub Keeps : {A : Type 0} → List A → List A → Type 0
Keeps {A} xs ys = (k : ℕ) (x : A) → slice_get xs k ≡ Some x → slice_get ys k ≡ Some x

-- numbers that are in range stay so
pub record HasNumbers (i j : Inside) : Type 0 where
  pub generics : i.generics ≤ j.generics
  pub integers : i.integers ≤ j.integers
  pub ranges : i.ranges ≤ j.ranges
  pub generates : i.generates ≤ j.generates
  pub loops : i.loops ≤ j.loops

pub record HasMore (i j : Inside) (few more : Counts) : Type 0 where
  pub numbers : HasNumbers i j
  pub constants : Keeps i.constants j.constants
  pub ports : Keeps i.ports j.ports
  pub signals : Keeps i.signals j.signals
  pub variables : Keeps i.variables j.variables
  pub counts : Keeps few more

below : (k m n : ℕ) → m ≤ n → nat_lt k m ≡ true → nat_lt k n ≡ true
below k m n l t = let a : k < m = ltb-true k m t in lt-ltb k n (omega (arith, a, l))

pub static_more : (i j : Inside) → HasNumbers i j → (s : Static) → static_fits i s ≡ true → static_fits j s ≡ true
static_more i j h (e.number n) t = refl
static_more i j h e.least_integer t = refl
static_more i j h (e.generic k) t = below k i.generics j.generics h.generics t
static_more i j h (e.Static.constant k) t = below k i.integers j.integers h.integers t
static_more i j h (e.generate_parameter k) t = below k i.generates j.generates h.generates t
static_more i j h (e.loop_parameter k) t = below k i.loops j.loops h.loops t
static_more i j h (e.Static.negated at s) t = static_more i j h s t
static_more i j h (e.absolute at s) t = static_more i j h s t
static_more i j h (e.bound b k) t = below k i.ranges j.ranges h.ranges t
static_more i j h (e.slice_bound at b k x d y) t =
    let a = and_parts (nat_lt k i.ranges && static_fits i x) (static_fits i y) t in
    let b = and_parts (nat_lt k i.ranges) (static_fits i x) a.0 in
    and_from (nat_lt k j.ranges && static_fits j x) (static_fits j y)
    (and_from (nat_lt k j.ranges) (static_fits j x) (below k i.ranges j.ranges h.ranges b.0) (static_more i j h x b.1)) (static_more i j h y a.1)
static_more i j h (e.Static.binary at op x y) t =
    let b = and_parts (static_fits i x) (static_fits i y) t in
    and_from (static_fits j x) (static_fits j y) (static_more i j h x b.0) (static_more i j h y b.1)

pub range_more : (i j : Inside) → HasNumbers i j → (r : Range) → range_fits i r ≡ true → range_fits j r ≡ true
range_more i j h r t =
    let b = and_parts (static_fits i r.left) (static_fits i r.right) t in
    and_from (static_fits j r.left) (static_fits j r.right) (static_more i j h r.left b.0) (static_more i j h r.right b.1)

-- whether a literal has a kind doesn't hang on what is inside
literal_more : (i j : Inside) (kind : ElementKind) (vs : List Nine) → fixed_fits i (kind_shape kind) (u.Fixed.literal vs) ≡ true → fixed_fits j (kind_shape kind) (u.Fixed.literal vs) ≡ true
literal_more i j Element (x ∷ []) t = t
literal_more i j _ _ t = t

pub literal_of_more : (i j : Inside) (kind : ElementKind) (vs : Option (List Nine)) → IsLiteralOf i kind vs → IsLiteralOf j kind vs
literal_of_more i j kind None h = tt
literal_of_more i j kind (Some vs) h = literal_more i j kind vs h

counted_more : (counts more : Counts) → Keeps counts more → (type : ObjectType) → IsCounted counts type → IsCounted more type
counted_more counts more c (Elements kind) t = tt
counted_more counts more c (Enumeration n count) t = c n count t
counted_more counts more c Integers t = tt
counted_more counts more c Booleans t = tt

-- an object's form, by its number
form_more : (counts more : Counts) (type : ObjectType) (fs gs : List Form) (k : ℕ) → Keeps counts more → Keeps fs gs → IsForm counts type (slice_get fs k) → IsForm more type (slice_get gs k)
form_more counts more type fs gs k c f h = record { shape = by (slice_get fs k) refl h.shape; counted = counted_more counts more c type h.counted }
  where
    by : (o : Option Form) → slice_get fs k ≡ o → option_map shape_of o ≡ Some (type_shape type) → option_map shape_of (slice_get gs k) ≡ Some (type_shape type)
    by None e t = absurd cc
    by (Some g) e t = ap (option_map shape_of) (f k g e) ∙ t

pub meaning_more : (i j : Inside) (counts more : Counts) → HasMore i j counts more → (d : Meaning) → MeaningFits i counts d → MeaningFits j more d
meaning_more i j counts more h (visibility.generic k) f = below k i.generics j.generics h.numbers.generics f
meaning_more i j counts more h (visibility.integer_constant k) f = below k i.integers j.integers h.numbers.integers f
meaning_more i j counts more h (visibility.generate_parameter k) f = below k i.generates j.generates h.numbers.generates f
meaning_more i j counts more h (visibility.loop_parameter k) f = below k i.loops j.loops h.numbers.loops f
meaning_more i j counts more h (visibility.boolean_generic k) f = below k i.generics j.generics h.numbers.generics f
meaning_more i j counts more h (visibility.boolean_constant k) f = below k i.integers j.integers h.numbers.integers f
meaning_more i j counts more h (visibility.port k mode type) f =
    record { port = f.port; at = h.ports k f.port f.at; mode_is = f.mode_is; shape = f.shape; counted = counted_more counts more h.counts type f.counted }
meaning_more i j counts more h (visibility.signal k type) f = form_more counts more type i.signals j.signals k h.counts h.signals f
meaning_more i j counts more h (visibility.variable k type) f = form_more counts more type i.variables j.variables k h.counts h.variables f
meaning_more i j counts more h (visibility.constant k kind values) f =
    (form_more counts more (Elements kind) i.constants j.constants k h.counts h.constants f.0, literal_of_more i j kind values f.1)
meaning_more i j counts more h (visibility.literal n count p) f = (f.0, h.counts n count f.1)
meaning_more i j counts more h (visibility.vector_type kind r) f = f
meaning_more i j counts more h (visibility.enumeration_type n count) f = (f.0, h.counts n count f.1)
meaning_more i j counts more h _ f = tt

ranged_more : (i j : Inside) → HasNumbers i j → (o : Option DeclaredRange) → IfSome o (λ r. IsTrue (nat_lt r.number i.ranges)) → IfSome o (λ r. IsTrue (nat_lt r.number j.ranges))
ranged_more i j h None f = tt
ranged_more i j h (Some r) f = below r.number i.ranges j.ranges h.ranges f

pub declared_more : (i j : Inside) (counts more : Counts) → HasMore i j counts more → (d : Declared) → DeclaredFits i counts d → DeclaredFits j more d
declared_more i j counts more h d f = record { meaning = meaning_more i j counts more h d.meaning f.meaning; range = ranged_more i j h.numbers d.range f.range }

pub all_more : (i j : Inside) (counts more : Counts) → HasMore i j counts more → (ds : List Declared) → AllFit i counts ds → AllFit j more ds
all_more i j counts more h ds a = each_weaker (DeclaredFits i counts) (DeclaredFits j more) (declared_more i j counts more h) ds a

pub keeps_all : {A : Type 0} (xs : List A) → Keeps xs xs
keeps_all xs k x h = h

pub keeps_before : {A : Type 0} (xs ys : List A) → Keeps xs (xs ++ ys)
keeps_before xs ys k x h = get_before xs ys k x h

-- nothing less of each class, and the same enumerations
pub more_of : (i j : Inside) (counts : Counts) → HasNumbers i j → Keeps i.constants j.constants → Keeps i.ports j.ports → Keeps i.signals j.signals → Keeps i.variables j.variables
    → HasMore i j counts counts
more_of i j counts n c p s v = record { numbers = n; constants = c; ports = p; signals = s; variables = v; counts = keeps_all counts }

pub same_numbers : (i : Inside) → HasNumbers i i
same_numbers i = record { generics = omega arith; integers = omega arith; ranges = omega arith; generates = omega arith; loops = omega arith }

-- ---- what a name means is inside

find_one : (P : Declared → Type 0) (n : Name) (ds : List Declared) (d : Declared) → AllByRecursion P ds → find (λ (d : Declared). bytes_eq n d.name) ds ≡ Some d → P d
find_one P n [] d a t = absurd cc
find_one P n (c ∷ ds) d a t = by (bytes_eq n c.name) t (find_one P n ds d a.1)
  where
    by : (b : Bool) → cond b (Some c) (find (λ (d : Declared). bytes_eq n d.name) ds) ≡ Some d → (find (λ (d : Declared). bytes_eq n d.name) ds ≡ Some d → P d) → P d
    by true t more = subst P (some_same c d t) a.0
    by false t more = more t

-- what holds of all that is in sight holds of what a name is of
pub found_in : (P : Declared → Type 0) (sight : Sight) → AllByRecursion P sight.loops → AllByRecursion P sight.variables → AllByRecursion P sight.generates → AllByRecursion P sight.region
    → AllByRecursion P sight.enclosing → AllByRecursion P sight.packages → (n : Name) (d : Declared) → declaration sight n ≡ Some d → P d
found_in P sight loops variables generates region enclosing packages n d t =
    find_one P n (in_sight sight) d
    (each_append P sight.loops _ loops (each_append P sight.variables _ variables (each_append P sight.generates _ generates
    (each_append P sight.region _ region (each_append P sight.enclosing _ enclosing packages))))) t

pub found : (i : Inside) (counts : Counts) (sight : Sight) → IsInside i counts sight → (n : Name) (d : Declared) → declaration sight n ≡ Some d → DeclaredFits i counts d
found i counts sight h n d t = found_in (DeclaredFits i counts) sight h.loops h.variables h.generates h.region h.enclosing h.packages n d t

pub meant : (i : Inside) (counts : Counts) (sight : Sight) → IsInside i counts sight → (n : Name) (d : Meaning) → meaning sight n ≡ Some d → MeaningFits i counts d
meant i counts sight h n d t =
    let a = mapped (λ (d : Declared). d.meaning) (declaration sight n) d t in
    subst (MeaningFits i counts) a.is (found i counts sight h n a.value a.from).meaning
