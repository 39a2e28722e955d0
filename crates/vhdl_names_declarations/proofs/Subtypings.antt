-- What a subtype declares.
use Rattle.std.proofs.Common.{◌≡◌, ℕ, suc, ◌+◌, Bool, true, false, List, [], ◌∷◌, ◌++◌, length, Option, Some, None, refl, sym, ap, ◌∙◌, arith}
use Rattle.std.specs.Prelude.{not, is_some, if◌then◌else◌, option_map}
use Rattle.vhdl_tree.specs.Tree as t
use Rattle.vhdl_tree.specs.declared.operator.Direction.{Direction}
use Rattle.vhdl_names_rules.specs.declared.fault.NameProblem.TheVariants.{LeftOut}
use Rattle.vhdl_names_rules.specs.units.Expressions.{Range}
use Rattle.vhdl_names_rules.specs.units.Units as u
use Rattle.vhdl_names_rules.specs.units.Units.{IntegerSubtype}
use Rattle.vhdl_names_rules.specs.Rules.{◌>>=◌, rule, if_any, met}
use Rattle.vhdl_names_rules.specs.Visibility as visibility
use Rattle.vhdl_names_rules.specs.Visibility.{Name, Sight, Declared, Declares, Meaning, declaration, declare, declared_here, with_declared, with_variables, ranged, global_if, ranges_count, are_distinct}
use Rattle.vhdl_names_rules.specs.Interfaces.{declared_names}
use Rattle.vhdl_names_rules.specs.Subtypes as subtypes
use Rattle.vhdl_names_rules.specs.Subtypes.{integers_of, integer_subtype, value_range, numbers_direction, form_range, form_direction, class_of}
use Rattle.vhdl_names_rules.specs.Declarations.{within, within_variables, is_global, if_ranged, is_open, subtype_by, subtype_in, subtype_declaration}
use Rattle.vhdl_names_sight.specs.declared.meaning.Entry.{Entry}
use Rattle.vhdl_names_sight.specs.Views.{entry_of}
use Rattle.vhdl_names_values.specs.Marking.{integers_with}
use Rattle.vhdl_names_declarations.specs.declared.counts.Counts.{Counts}
use Rattle.vhdl_names_declarations.specs.Counts.{AreCounts}
use Rattle.vhdl_names_declarations.specs.Entered.{more, entering, entering_variables}
use Rattle.vhdl_names_declarations.specs.Settled.{range_from, finished}
use Rattle.vhdl_names_declarations.specs.Subtyping as typed
use Rattle.vhdl_names_declarations.specs.Subtyping.{Subtype, entered}
use Rattle.vhdl_names_declarations.proofs.Regions.{names-append}
use Rattle.vhdl_names_declarations.proofs.Settling.{finished_by}
use Rattle.vhdl_names_declarations.proofs.Turns.{enters, has_more, more_is, not_more}

abbrev integers_in : u.Integers → Option (ℕ × Range) → IntegerSubtype
integers_in base range = record { base = base; range = range }

-- ---- integers, by what is known of each part

pub integers_given : (s : Sight) (base : u.Integers) (d : t.SubtypeDeclaration) (m : Declared) (x : IntegerSubtype) (y : Subtype) → integers_with s base d.subtype.constraint ≡ Some x →
    y.meaning ≡ m.meaning → y.direction ≡ numbers_direction m x → y.is_global ≡ is_global s d.subtype → y.analysed ≡ if_ranged (λ z. u.integer_subtype d.name.at x) y.direction → typed.integers s base d m ≡ Some y
integers_given s base d m x y numbers meaning direction global analysed =
    let all = analysed ∙ ap (if_ranged (λ z. u.integer_subtype d.name.at x)) direction in
    let same : y ≡ record { meaning = m.meaning; direction = numbers_direction m x; is_global = is_global s d.subtype; analysed = if_ranged (λ z. u.integer_subtype d.name.at x) (numbers_direction m x) } =
    λ i. record { meaning = meaning i; direction = direction i; is_global = global i; analysed = all i } in
    ap (λ o. o >>= λ x. Some (record {
      meaning = m.meaning;
      direction = numbers_direction m x;
      is_global = is_global s d.subtype;
      analysed = if_ranged (λ z. u.integer_subtype d.name.at x) (numbers_direction m x);
    })) numbers ∙ ap Some (sym same)

-- ---- one name behind others

abbrev unfinished_name : Name → Declared
unfinished_name n = declare n visibility.unfinished

last_next : (ds : List Declared) (n : Name) (e : Entry) → finished_by e (length ds) (suc (length ds)) (ds ++ unfinished_name n ∷ []) ≡ ds ++ entry_of n e ∷ []
last_next [] n e = refl
last_next (d ∷ ds) n e = ap (λ l. d ∷ l) (last_next ds n e)

pub finished_last : (ds : List Declared) (n : Name) (e : Entry) → finished e (length ds) (ds ++ unfinished_name n ∷ []) ≡ ds ++ entry_of n e ∷ []
finished_last ds n e =
    let next : length ds + 1 ≡ suc (length ds) = omega arith in
    ap (λ k. finished_by e (length ds) k (ds ++ unfinished_name n ∷ [])) next ∙ last_next ds n e

-- the entry of a subtype's name
entry_is : (n : Name) (x : Subtype) (c : Counts) → global_if x.is_global (ranged x.direction c.ranges (declare n x.meaning ∷ [])) ≡ entered n x c ∷ []
entry_is n x c = go x.direction
  where
    go : (d : Option Direction) → global_if x.is_global (ranged d c.ranges (declare n x.meaning ∷ [])) ≡ record { name = n; meaning = x.meaning; range = range_from d c.ranges; is_global = x.is_global } ∷ []
    go None = refl
    go (Some d) = refl

-- ---- what it declares, behind these counts

module _ (inner : Sight) (before : List Declared) (d : t.SubtypeDeclaration) (c : Counts) (h : AreCounts c before) where
  abbrev named_with : ℕ → Meaning → Option Direction → Bool → List u.Declaration → Declares u.Declaration
  named_with ranges m direction global analysed = record { declared = global_if global (ranged direction ranges (declare d.name.text m ∷ [])); analysed = analysed }

  abbrev named : Subtype → Declares u.Declaration
  named x = named_with c.ranges x.meaning x.direction x.is_global x.analysed

  abbrev subtypes_of : Option Subtype → Option (Declares u.Declaration)
  subtypes_of o = o >>= λ x. Some (named x)

  integers_case : (mark : Declared) → declaration inner d.subtype.mark.text ≡ Some mark → subtype_by inner before d mark subtypes.integers ≡ subtypes_of (typed.by_class inner d mark subtypes.integers)
  unfolding integer_subtype
  integers_case mark is =
      ap (λ o. (if_any (value_range inner) d.subtype.constraint >>= λ range. (o >>= λ m. (integers_of m >>= λ base. Some (integers_in base range))))
      >>= λ s. Some (named_with (ranges_count before) mark.meaning (numbers_direction mark s) (is_global inner d.subtype) (if_ranged (λ x. u.integer_subtype d.name.at s) (numbers_direction mark s)))) is
      ∙ turned (if_any (value_range inner) d.subtype.constraint) (integers_of mark)
    where
      turned : (r : Option (Option (ℕ × Range))) (b : Option u.Integers) →
          ((r >>= λ range. (b >>= λ base. Some (integers_in base range)))
          >>= λ s. Some (named_with (ranges_count before) mark.meaning (numbers_direction mark s) (is_global inner d.subtype) (if_ranged (λ x. u.integer_subtype d.name.at s) (numbers_direction mark s))))
          ≡ subtypes_of (b >>= λ base. (option_map (integers_in base) r >>= λ s. Some (record {
            meaning = mark.meaning;
            direction = numbers_direction mark s;
            is_global = is_global inner d.subtype;
            analysed = if_ranged (λ x. u.integer_subtype d.name.at s) (numbers_direction mark s);
          })))
      turned None None = refl
      turned None (Some base) = refl
      turned (Some range) None = refl
      turned (Some range) (Some base) =
          let s = integers_in base range in
          ap (λ r. Some (named_with r mark.meaning (numbers_direction mark s) (is_global inner d.subtype) (if_ranged (λ x. u.integer_subtype d.name.at s) (numbers_direction mark s)))) (sym h.ranges)

  booleans_case : (mark : Declared) → subtype_by inner before d mark subtypes.booleans ≡ subtypes_of (typed.by_class inner d mark subtypes.booleans)
  booleans_case mark = go (rule LeftOut (not (is_some d.subtype.constraint)))
    where
      go : (o : Option (Unit {0})) → (o >>= λ _. Some (named_with (ranges_count before) mark.meaning None (is_global inner d.subtype) [])) ≡ subtypes_of (o >>= λ _. typed.as_it_was inner d mark)
      go None = refl
      go (Some x) = refl

  others_case : (mark : Declared) → subtype_by inner before d mark subtypes.others ≡ subtypes_of (typed.by_class inner d mark subtypes.others)
  others_case mark = by (is_open mark d.subtype)
    where
      go : (o : Option subtypes.Subtype) → (o >>= λ s. Some (named_with (ranges_count before) mark.meaning (form_direction s.form) (is_global inner d.subtype) (if_ranged (u.vector_subtype d.name.at) (form_range s.form))))
          ≡ subtypes_of (o >>= λ s. Some (record { meaning = mark.meaning; direction = form_direction s.form; is_global = is_global inner d.subtype; analysed = if_ranged (u.vector_subtype d.name.at) (form_range s.form) }))
      go None = refl
      go (Some s) = ap (λ r. Some (named_with r mark.meaning (form_direction s.form) (is_global inner d.subtype) (if_ranged (u.vector_subtype d.name.at) (form_range s.form)))) (sym h.ranges)

      by : (b : Bool) → (if b then Some (named_with (ranges_count before) mark.meaning None (is_global inner d.subtype) [])
          else (subtypes.subtype inner d.subtype >>= λ s. Some (named_with (ranges_count before) mark.meaning (form_direction s.form) (is_global inner d.subtype) (if_ranged (u.vector_subtype d.name.at) (form_range s.form)))))
          ≡ subtypes_of (if b then typed.as_it_was inner d mark else typed.constrained inner d mark)
      by true = refl
      by false = go (subtypes.subtype inner d.subtype)

  pub subtypes_are : subtype_in inner before d ≡ subtypes_of (typed.subtype inner d)
  unfolding subtype_in
  subtypes_are = go (declaration inner d.subtype.mark.text) refl
    where
      by : (mark : Declared) → declaration inner d.subtype.mark.text ≡ Some mark → (k : subtypes.TypeClass) → subtype_by inner before d mark k ≡ subtypes_of (typed.by_class inner d mark k)
      by mark is subtypes.integers = integers_case mark is
      by mark is subtypes.booleans = booleans_case mark
      by mark is subtypes.others = others_case mark

      go : (o : Option Declared) → declaration inner d.subtype.mark.text ≡ o → (o >>= λ mark. subtype_by inner before d mark (class_of mark.meaning)) ≡ subtypes_of (o >>= λ mark. typed.by_class inner d mark (class_of mark.meaning))
      go None is = refl
      go (Some mark) is = by mark is (class_of mark.meaning)

-- ---- it enters a region

module _ (region : Sight → List Declared) (with_region : Sight → List Declared → Sight) (s : Sight) (n : Name) (c : Counts) where
  abbrev pub enters_by : Subtype → Option (Sight × List u.Declaration)
  enters_by x = enters region (λ s ds. with_region s (region s ++ ds)) s (record { declared = global_if x.is_global (ranged x.direction c.ranges (declare n x.meaning ∷ [])); analysed = x.analysed })

  one_name : (x : Subtype) → are_distinct (declared_names (region s ++ global_if x.is_global (ranged x.direction c.ranges (declare n x.meaning ∷ [])))) ≡ are_distinct (declared_names (region s ++ unfinished_name n ∷ []))
  one_name x =
      ap (λ l. are_distinct (declared_names (region s ++ l))) (entry_is n x c)
      ∙ ap are_distinct (names-append (region s) (entered n x c ∷ []) ∙ sym (names-append (region s) (unfinished_name n ∷ [])))

  pub name_refused : more (region s) (unfinished_name n ∷ []) ≡ None → (o : Option Subtype) → (o >>= enters_by) ≡ None
  name_refused h None = refl
  name_refused h (Some x) =
      ap (λ b. met b >>= λ _. Some (with_region s (region s ++ global_if x.is_global (ranged x.direction c.ranges (declare n x.meaning ∷ []))), x.analysed))
      (one_name x ∙ not_more (region s) (unfinished_name n ∷ []) h)

  pub name_settled : (o : Option Subtype) (x : Subtype) (e : Entry) (hid new : List Declared) (place : ℕ) → more (region s) (unfinished_name n ∷ []) ≡ Some hid → o ≡ Some x → entry_of n e ≡ entered n x c →
      place ≡ length (region s) → new ≡ finished e place hid → (o >>= enters_by) ≡ Some (with_region s new, x.analysed)
  name_settled o x e hid new place h given is size settles =
      ap (λ o. o >>= enters_by) given
      ∙ ap (λ b. met b >>= λ _. Some (with_region s (region s ++ global_if x.is_global (ranged x.direction c.ranges (declare n x.meaning ∷ []))), x.analysed))
      (one_name x ∙ has_more (region s) (unfinished_name n ∷ []) hid h)
      ∙ ap (λ l. Some (with_region s (region s ++ l), x.analysed)) (entry_is n x c ∙ ap (λ d. d ∷ []) (sym is))
      ∙ ap (λ l. Some (with_region s l, x.analysed))
      (sym (finished_last (region s) n e) ∙ ap (λ k. finished e k (region s ++ unfinished_name n ∷ [])) (sym size) ∙ ap (finished e place) (sym (more_is (region s) (unfinished_name n ∷ []) hid h)) ∙ sym settles)

-- ---- of a region, and of a process

abbrev pub region_of : Sight → List Declared
region_of s = s.region

abbrev pub with_region : Sight → List Declared → Sight
with_region s r = record s { region = r }

abbrev pub process_of : Sight → List Declared
process_of s = s.variables

abbrev pub with_process : Sight → List Declared → Sight
with_process s r = record s { variables = r }

module _ (region : Sight → List Declared) (with_all : Sight → List Declared → Sight) (s : Sight) (d : t.SubtypeDeclaration) (c : Counts) where
  in_turn : (o : Option Subtype) → ((o >>= λ x. Some (record { declared = global_if x.is_global (ranged x.direction c.ranges (declare d.name.text x.meaning ∷ [])); analysed = x.analysed })) >>= enters region (λ s ds. with_all s (region s ++ ds)) s)
      ≡ (o >>= enters_by region with_all s d.name.text c)
  in_turn None = refl
  in_turn (Some x) = refl

pub subtype_is : (s : Sight) (d : t.SubtypeDeclaration) (c : Counts) → AreCounts c s.region → entering subtype_declaration s d ≡ (typed.subtype (within s (d.name ∷ [])) d >>= enters_by region_of with_region s d.name.text c)
subtype_is s d c h =
    ap (λ o. o >>= enters region_of with_declared s) (subtypes_are (within s (d.name ∷ [])) s.region d c h) ∙ in_turn region_of with_region s d c (typed.subtype (within s (d.name ∷ [])) d)

pub process_subtype_is : (s : Sight) (d : t.SubtypeDeclaration) (c : Counts) → AreCounts c (declared_here s) →
    entering_variables typed.of_process s d ≡ (typed.subtype (within_variables s (d.name ∷ [])) d >>= enters_by process_of with_process s d.name.text c)
process_subtype_is s d c h =
    ap (λ o. o >>= enters process_of with_variables s) (subtypes_are (within_variables s (d.name ∷ [])) (declared_here s) d c h)
    ∙ in_turn process_of with_process s d c (typed.subtype (within_variables s (d.name ∷ [])) d)
