-- What enumerations declare.
use Rattle.std.proofs.Common.{◌≡◌, ℕ, suc, ◌+◌, ◌<◌, ◌≤◌, Bool, true, false, List, [], ◌∷◌, ◌++◌, map, length, drop, get_or, Option, Some, None, Result, Ok, Err, Vec, Global, refl, sym, ap, ◌∙◌, arith}
use Rattle.std.specs.Prelude.{nat_le, bytes_eq}
use Rattle.std.specs.List.{IsDistinct}
use Rattle.std.specs.Map.{keys_of}
use Rattle.std.proofs.lemmas.List.{drop_all}
use Rattle.std.proofs.Math.Seq.{drop-cons}
use Rattle.std.proofs.lemmas.Bool.Decides.{nat_tests}
use Rattle.vhdl_tree.specs.Tree as t
use Rattle.vhdl_tree.specs.declared.expression.Identifier.{Identifier}
use Rattle.vhdl_tree.specs.View.{ident_view}
use Rattle.vhdl_names_rules.specs.units.Units as u
use Rattle.vhdl_names_rules.specs.declared.fault.NameFault.{NameFault}
use Rattle.vhdl_names_rules.specs.declared.fault.NameFault.TheVariants.{At}
use Rattle.vhdl_names_rules.specs.declared.fault.NameProblem.TheVariants.{LeftOut}
use Rattle.vhdl_names_rules.specs.problems.Broken.{Tells, unless}
use Rattle.vhdl_names_rules.specs.problems.Declarations as broken
use Rattle.vhdl_names_rules.specs.problems.Declarations.{standing_twice}
use Rattle.vhdl_names_rules.proofs.Telling.{told_left, behind_kept}
use Rattle.vhdl_names_rules.specs.Gives.{Gives}
use Rattle.vhdl_names_rules.specs.Rules.{◌>>=◌, met}
use Rattle.vhdl_names_rules.specs.Visibility as visibility
use Rattle.vhdl_names_rules.specs.Visibility.{Declared, Sight, Declares, declare, declared_here, names_of, count_of, with_declared, with_variables, are_distinct}
use Rattle.vhdl_names_rules.specs.Interfaces.{declared_names}
use Rattle.vhdl_names_rules.specs.Declarations.{enumeration, enumeration_in, literals}
use Rattle.vhdl_names_declarations.specs.declared.counts.Counts.{Counts}
use Rattle.vhdl_names_declarations.specs.Counts.{AreCounts}
use Rattle.vhdl_names_declarations.specs.Entered.{more, entering, entering_variables}
use Rattle.vhdl_names_declarations.specs.Enumerating.{enumerated, of_process}
use Rattle.vhdl_names_sight.specs.declared.meaning.Entry.{Entry}
use Rattle.vhdl_names_sight.specs.Views.{entry_view}
use Rattle.vhdl_names_declarations.proofs.Regions.{more_split, more_none, names_apart}
use Rattle.vhdl_names_declarations.proofs.Turns.{enters}

-- ---- enumerations

pub next_literal : (ds : List Declared) (e count i : ℕ) (names : List Identifier) (n : Identifier) → i < length names → n ≡ get_or names i n →
    more ds (literals e count i (names_of (map ident_view (drop i names))))
    ≡ (more ds (declare n.text.items (visibility.literal e count i) ∷ []) >>= λ r. more r (literals e count (i + 1) (names_of (map ident_view (drop (i + 1) names)))))
next_literal ds e count i names n lt is =
    let s : suc i ≡ i + 1 = omega arith in
    ap (λ l. more ds (literals e count i (names_of (map ident_view l)))) (drop-cons names i n lt)
    ∙ ap (λ k. more ds (declare k.text.items (visibility.literal e count i) ∷ literals e count (suc i) (names_of (map ident_view (drop (suc i) names))))) (sym is)
    ∙ more_split ds (declare n.text.items (visibility.literal e count i) ∷ []) (literals e count (suc i) (names_of (map ident_view (drop (suc i) names))))
    ∙ ap (λ k. more ds (declare n.text.items (visibility.literal e count i) ∷ []) >>= λ r. more r (literals e count k (names_of (map ident_view (drop k names))))) s

pub too_many : (region : List Declared) (number : ℕ) (d : t.Enumeration) → 256 < length d.literals → enumerated region number d ≡ None
too_many region number d h = let t : nat_le (length d.literals) 256 ≡ false = grind (arith, nat_tests) in rw t refl

pub too_many_told : (region : List Declared) (d : t.Enumeration) → 256 < length d.literals → Tells (broken.enumeration_in region d) (At LeftOut d.name.at)
too_many_told region d h =
    let t : nat_le (length d.literals) 256 ≡ false = grind (arith, nat_tests) in
    told_left (unless LeftOut d.name.at (nat_le (length d.literals) 256)) (standing_twice region (d.name ∷ d.literals)) (At LeftOut d.name.at) (ap (unless LeftOut d.name.at) t)

pub few_enough : (region : List Declared) (d : t.Enumeration) → length d.literals ≤ 256 → broken.enumeration_in region d ≡ standing_twice region (d.name ∷ d.literals)
few_enough region d h =
    let t : nat_le (length d.literals) 256 ≡ true = grind (arith, nat_tests) in
    behind_kept (unless LeftOut d.name.at (nat_le (length d.literals) 256)) (standing_twice region (d.name ∷ d.literals)) (ap (unless LeftOut d.name.at) t)

-- its name first, and its literals behind it
pub enumerated_is : (region : List Declared) (number count : ℕ) (d : t.Enumeration) → count ≡ length d.literals → count ≤ 256 →
    enumerated region number d ≡ (more region (declare d.name.text (visibility.enumeration_type number count) ∷ []) >>= λ r. more r (literals number count 0 (names_of d.literals)))
enumerated_is region number count d size le =
    let t : nat_le (length d.literals) 256 ≡ true = grind (arith, nat_tests) in
    ap (λ b. met b >>= λ _. more region (declare d.name.text (visibility.enumeration_type number (length d.literals)) ∷ literals number (length d.literals) 0 (names_of d.literals))) t
    ∙ more_split region (declare d.name.text (visibility.enumeration_type number (length d.literals)) ∷ []) (literals number (length d.literals) 0 (names_of d.literals))
    ∙ ap (λ n. more region (declare d.name.text (visibility.enumeration_type number n) ∷ []) >>= λ r. more r (literals number n 0 (names_of d.literals))) (sym size)

abbrev pub in_region : Sight → List Declared → Option (Sight × List u.Declaration)
in_region s r = Some (record s { region = r }, [])

abbrev pub in_process : Sight → List Declared → Option (Sight × List u.Declaration)
in_process s r = Some (record s { variables = r }, [])

module _ (s : Sight) (d : t.Enumeration) where
  abbrev declared_from : ℕ → List Declared
  declared_from number = declare d.name.text (visibility.enumeration_type number (length d.literals)) ∷ literals number (length d.literals) 0 (names_of d.literals)

  pub enumeration_is : (c : Counts) → AreCounts c s.region → entering enumeration s d ≡ (enumerated s.region c.enumerations d >>= in_region s)
  unfolding enumeration_in
  enumeration_is c h = go (nat_le (length d.literals) 256) ∙ ap (λ n. enumerated s.region n d >>= in_region s) (sym h.enumerations)
    where
      number : ℕ
      number = count_of visibility.is_enumeration_type s.region

      entered_by : (b : Bool) (l : List Declared) → (met b >>= λ _. Some (record s { region = l }, [])) ≡ ((met b >>= λ _. Some l) >>= in_region s)
      entered_by true l = refl
      entered_by false l = refl

      go : (b : Bool) → ((met b >>= λ _. Some (record { declared = declared_from number; analysed = [] })) >>= λ (x : Declares u.Declaration). enters (λ s. s.region) with_declared s x)
          ≡ ((met b >>= λ _. more s.region (declared_from number)) >>= in_region s)
      go true = entered_by (are_distinct (declared_names (s.region ++ declared_from number))) (s.region ++ declared_from number)
      go false = refl

  pub process_enumeration_is : (c : Counts) → AreCounts c (declared_here s) → entering_variables of_process s d ≡ (enumerated s.variables c.enumerations d >>= in_process s)
  unfolding enumeration_in
  process_enumeration_is c h = go (nat_le (length d.literals) 256) ∙ ap (λ n. enumerated s.variables n d >>= in_process s) (sym h.enumerations)
    where
      number : ℕ
      number = count_of visibility.is_enumeration_type (declared_here s)

      entered_by : (b : Bool) (l : List Declared) → (met b >>= λ _. Some (record s { variables = l }, [])) ≡ ((met b >>= λ _. Some l) >>= in_process s)
      entered_by true l = refl
      entered_by false l = refl

      go : (b : Bool) → ((met b >>= λ _. Some (record { declared = declared_from number; analysed = [] })) >>= λ (x : Declares u.Declaration). enters (λ s. s.variables) with_variables s x)
          ≡ ((met b >>= λ _. more s.variables (declared_from number)) >>= in_process s)
      go true = entered_by (are_distinct (declared_names (s.variables ++ declared_from number))) (s.variables ++ declared_from number)
      go false = refl

pub itself : {X : Type 0} (o : Option X) → o ≡ (o >>= Some)
itself None = refl
itself (Some x) = refl

-- what is answered of a part is answered of the whole
pub gives_through : {X Y Z : Type 0} (v : X → Y) (w : X → Z) (o : Option Y) (whole : Option Z) (k : Y → Option Z) (r : Result X NameFault) → whole ≡ (o >>= k) → ((x : X) → k (v x) ≡ Some (w x)) →
    Gives v o r → Gives w whole r
gives_through v w o whole k (Ok x) is gives h = is ∙ ap (λ o. o >>= k) h ∙ gives x
gives_through v w o whole k (Err f) is gives h = λ n. is ∙ ap (λ o. o >>= k) (h n)

pub no_literals : (es : List (Vec ℕ Global × Entry)) (e count i : ℕ) (names : List Identifier) → length names ≤ i → IsDistinct (λ a b. bytes_eq a.items b.items) (keys_of es) →
    more (map entry_view es) (literals e count i (names_of (map ident_view (drop i names)))) ≡ Some (map entry_view es)
no_literals es e count i names le apart =
    ap (λ l. more (map entry_view es) (literals e count i (names_of (map ident_view l)))) (drop_all i names le) ∙ more_none (map entry_view es) (names_apart es apart)
