-- What is told of a declaration, or of a name that stands twice, is told of the list of declarations that it stands in.
use Rattle.std.proofs.Common.{◌≡◌, ◌≢◌, ℕ, suc, ◌+◌, ◌<◌, cond, Bool, true, false, List, [], ◌∷◌, ◌++◌, map, length, drop, get_or, Option, Some, None, Result, IfErr, sym, ap, subst, ◌∙◌, append_assoc, append-nil, arith}
use Rattle.std.specs.Prelude.{IsErrAnd}
use Rattle.std.proofs.Math.Seq.{drop-cons}
use Rattle.vhdl_tree.specs.Tree as t
use Rattle.vhdl_tree.specs.Tree.{Ident}
use Rattle.vhdl_tree.specs.View.{ident_view}
use Rattle.vhdl_tree.specs.declared.expression.Identifier.{Identifier}
use Rattle.vhdl_names_rules.specs.declared.fault.NameFault.{NameFault}
use Rattle.vhdl_names_rules.specs.declared.fault.NameFault.TheVariants.{At, NoMemory}
use Rattle.vhdl_names_rules.specs.declared.fault.NameProblem.TheVariants.{Twice}
use Rattle.vhdl_names_rules.specs.Rules.{◌>>=◌, met}
use Rattle.vhdl_names_rules.specs.Visibility.{Name, Declared, Sight, Declares, names_of, is_among, are_distinct, all_declared, unfinished}
use Rattle.vhdl_names_rules.specs.Interfaces.{declared_names}
use Rattle.vhdl_names_rules.proofs.laws.Rules.{comes, kept}
use Rattle.vhdl_names_rules.specs.Subtypes.{Subtype, subtype, object_subtype}
use Rattle.vhdl_names_rules.specs.problems.Broken.{Broken, Tells, nothing, refused, where_given, ◌▸◌}
use Rattle.vhdl_names_rules.specs.problems.Subtypes as subtypes_broken
use Rattle.vhdl_names_rules.proofs.kept.Values.{subtype_kept, object_subtype_kept}
use Rattle.vhdl_names_rules.proofs.Passing.{told_first, told_second}
use Rattle.vhdl_names_rules.specs.problems.Twice.{twice}
use Rattle.vhdl_names_rules.specs.problems.Declarations.{in_order, standing_twice}
use Rattle.vhdl_names_rules.proofs.Telling.{IsKept, told_same, told_left, told_right, told_given, told_on, at_is_told}
use Rattle.vhdl_names_rules.proofs.kept.Twice.{apart, twice_kept}
use Rattle.vhdl_names_declarations.specs.Entered.{more}
use Rattle.vhdl_names_declarations.proofs.Regions.{names-append, names-all}
use Rattle.vhdl_names_declarations.proofs.Turns.{has_more, more_is, hidden}
use Rattle.vhdl_names_declarations.proofs.Orders.{pair, first_is}

-- a fault that can only be for want of memory
pub told_never : {A : Type 0} (b : Broken) (o : Option A) (x : A) (f : NameFault) → o ≡ Some x → (f ≢ NoMemory → o ≡ None) → Tells b f
told_never b o x (At p at) is none = absurd (no_value x (sym is ∙ none (at_is_told p at)))
  where
    no_value : {A : Type 0} (x : A) → Some x ≡ None → ⊥
    no_value x e = cc
told_never b o x NoMemory is none = tt

-- ---- names that stand twice

-- a name that is among those before it
pub twice_here : (names : List Name) (i : Ident) (is : List Ident) → is_among i.text names ≡ true → twice names (i ∷ is) ≡ refused Twice i.at
twice_here names i is h = ap (λ b. cond b (refused Twice i.at) (twice (names ++ i.text ∷ []) is)) h

-- of one name nothing else is told
pub twice_alone : (names : List Name) (i : Ident) (f : NameFault) → Tells (twice names (i ∷ [])) f → Tells (refused Twice i.at) f
twice_alone names i NoMemory h = tt
twice_alone names i (At p at) h = go (is_among i.text names) h
  where
    go : (b : Bool) → cond b (refused Twice i.at) (twice (names ++ i.text ∷ []) []) ≡ Some (p, at) → refused Twice i.at ≡ Some (p, at)
    go true h = h
    go false h = absurd cc

-- among more names
pub twice_more : (names : List Name) (is js : List Ident) (f : NameFault) → Tells (twice names is) f → Tells (twice names (is ++ js)) f
twice_more names is js NoMemory h = tt
twice_more names [] js (At p at) h = absurd cc
twice_more names (i ∷ is) js (At p at) h = go (is_among i.text names) (λ k. twice_more (names ++ i.text ∷ []) is js (At p at) k) h
  where
    go : (b : Bool) → (twice (names ++ i.text ∷ []) is ≡ Some (p, at) → twice (names ++ i.text ∷ []) (is ++ js) ≡ Some (p, at)) →
        cond b (refused Twice i.at) (twice (names ++ i.text ∷ []) is) ≡ Some (p, at) → cond b (refused Twice i.at) (twice (names ++ i.text ∷ []) (is ++ js)) ≡ Some (p, at)
    go true more h = h
    go false more h = more h

-- behind names that stand once
twice_behind : (names : List Name) (is js : List Ident) → are_distinct (names ++ names_of is) ≡ true → twice names (is ++ js) ≡ twice (names ++ names_of is) js
twice_behind names [] js e = ap (λ ns. twice ns js) (sym (append-nil names))
twice_behind names (i ∷ is) js e =
    ap (λ b. cond b (refused Twice i.at) (twice (names ++ i.text ∷ []) (is ++ js))) (apart names i.text (names_of is) e)
    ∙ twice_behind (names ++ i.text ∷ []) is js (ap are_distinct (append_assoc names (i.text ∷ []) (names_of is)) ∙ e)
    ∙ ap (λ ns. twice ns js) (append_assoc names (i.text ∷ []) (names_of is))

-- declarations of these names, which enter a region
module _ (ds es : List Declared) (is : List Ident) (names : declared_names es ≡ names_of is) where
  distinct_by : (b : Bool) → are_distinct (declared_names (ds ++ es)) ≡ b → are_distinct (declared_names ds ++ names_of is) ≡ b
  distinct_by b h = ap (λ l. are_distinct (declared_names ds ++ l)) (sym names) ∙ ap are_distinct (sym (names-append ds es)) ∙ h

  pub distinct_once : are_distinct (declared_names (ds ++ es)) ≡ true → IsKept (standing_twice ds is)
  distinct_once h = twice_kept (declared_names ds) is (distinct_by true h)

  module _ (r : List Declared) (h : more ds es ≡ Some r) where
    pub standing_once : IsKept (standing_twice ds is)
    standing_once = distinct_once (has_more ds es r h)

    pub standing_behind : (js : List Ident) → standing_twice ds (is ++ js) ≡ standing_twice r js
    standing_behind js =
        twice_behind (declared_names ds) is js (distinct_by true (has_more ds es r h))
        ∙ ap (λ ns. twice ns js) (ap (λ l. declared_names ds ++ l) (sym names) ∙ sym (names-append ds es) ∙ ap declared_names (sym (more_is ds es r h)))

-- ---- one thing of several that are left

pub from_one : {C A : Type 0} (view : C → A) (cs : List C) (i : ℕ) (c : C) → i < length cs → c ≡ get_or cs i c → map view (drop i cs) ≡ view c ∷ map view (drop (i + 1) cs)
from_one view cs i c lt is =
    let n : suc i ≡ i + 1 = omega arith in
    ap (map view) (drop-cons cs i c lt) ∙ ap (λ k. view k ∷ map view (drop (suc i) cs)) (sym is) ∙ ap (λ j. view c ∷ map view (drop j cs)) n

-- names that are declared one after another
module _ {C : Type 0} (view : C → Ident) (cs : List C) (i : ℕ) (c : C) (lt : i < length cs) (is : c ≡ get_or cs i c) (ds : List Declared) where
  pub name_told : (f : NameFault) → Tells (standing_twice ds (view c ∷ [])) f → Tells (standing_twice ds (map view (drop i cs))) f
  name_told f h =
      told_same (standing_twice ds (view c ∷ map view (drop (i + 1) cs))) (standing_twice ds (map view (drop i cs))) f (ap (standing_twice ds) (sym (from_one view cs i c lt is)))
      (twice_more (declared_names ds) (view c ∷ []) (map view (drop (i + 1) cs)) f h)

  pub name_behind : (d : Declared) (r : List Declared) → d.name ≡ (view c).text → more ds (d ∷ []) ≡ Some r → standing_twice ds (map view (drop i cs)) ≡ standing_twice r (map view (drop (i + 1) cs))
  name_behind d r same h =
      ap (standing_twice ds) (from_one view cs i c lt is) ∙ standing_behind ds (d ∷ []) (view c ∷ []) (ap (λ n. n ∷ []) same) r h (map view (drop (i + 1) cs))

-- ---- declarations one after another

module _ (region : Sight → List Declared) (with_more : Sight → List Declared → Sight) {A B : Type 0} (declares : Sight → A → Option (Declares B)) (broken : Sight → A → Broken)
    (one_kept : (s : Sight) (a : A) (x : Declares B) → declares s a ≡ Some x → are_distinct (declared_names (region s ++ x.declared)) ≡ true → IsKept (broken s a)) where
  abbrev after : Sight → A → List A → Broken
  after s a as' = where_given (declares s a) (λ x. in_order with_more declares broken (with_more s x.declared) as')

  module _ {C : Type 0} (view : C → A) where
    pub told_at : (s : Sight) (cs : List C) (i : ℕ) (c : C) (f : NameFault) → i < length cs → c ≡ get_or cs i c →
        Tells (broken s (view c)) f → Tells (in_order with_more declares broken s (map view (drop i cs))) f
    told_at s cs i c f lt is h =
        subst (λ l. Tells (in_order with_more declares broken s l) f) (sym (from_one view cs i c lt is)) (told_left (broken s (view c)) (after s (view c) (map view (drop (i + 1) cs))) f h)

    pub told_behind : (s t : Sight) (cs : List C) (i : ℕ) (c : C) (ys : List B) (f : NameFault) → i < length cs → c ≡ get_or cs i c →
        (declares s (view c) >>= λ x. (met (are_distinct (declared_names (region s ++ x.declared))) >>= λ _. Some (pair (with_more s x.declared) x.analysed))) ≡ Some (pair t ys) →
        Tells (in_order with_more declares broken t (map view (drop (i + 1) cs))) f → Tells (in_order with_more declares broken s (map view (drop i cs))) f
    told_behind s t cs i c ys f lt is given h =
        let x = comes (declares s (view c)) (λ x. met (are_distinct (declared_names (region s ++ x.declared))) >>= λ _. Some (pair (with_more s x.declared) x.analysed)) (pair t ys) given in
        let k = kept (are_distinct (declared_names (region s ++ x.value.declared))) (Some (pair (with_more s x.value.declared) x.value.analysed)) (pair t ys) x.rest in
        let same = first_is (with_more s x.value.declared) t x.value.analysed ys k.1 in
        subst (λ l. Tells (in_order with_more declares broken s l) f) (sym (from_one view cs i c lt is))
        (told_right (broken s (view c)) (after s (view c) (map view (drop (i + 1) cs))) f (one_kept s (view c) x.value x.is k.0)
        (told_given (λ x. in_order with_more declares broken (with_more s x.declared) (map view (drop (i + 1) cs))) (declares s (view c)) x.value f x.is
        (subst (λ r. Tells (in_order with_more declares broken r (map view (drop (i + 1) cs))) f) (sym same) h)))

-- what is broken behind a subtype indication that is given
module _ {X : Type 0} (sight : Sight) (i : t.Subtype) (by : Subtype → Broken) (x : Subtype) (fault : NameFault) (P : NameFault → Type 0) (r : Result X NameFault) where
  pub behind_subtype : IsErrAnd r P → ((e : NameFault) → P e → e ≡ fault) → subtype sight i ≡ Some x → Tells (by x) fault →
      IfErr r (Tells (subtypes_broken.subtype sight i ▸ where_given (subtype sight i) by))
  behind_subtype h same given told =
      told_second (subtypes_broken.subtype sight i) (where_given (subtype sight i) by) fault P r h same (subtype_kept sight i x given)
      (told_given by (subtype sight i) x fault given told)

  pub behind_object : IsErrAnd r P → ((e : NameFault) → P e → e ≡ fault) → object_subtype sight i ≡ Some x → Tells (by x) fault →
      IfErr r (Tells (subtypes_broken.object_subtype sight i ▸ where_given (object_subtype sight i) by))
  behind_object h same given told =
      told_second (subtypes_broken.object_subtype sight i) (where_given (object_subtype sight i) by) fault P r h same (object_subtype_kept sight i x given)
      (told_given by (object_subtype sight i) x fault given told)

-- ---- names of one declaration, which the code lends

module _ {X : Type 0} (ds : List Declared) (xs ys : List Identifier) (fault : NameFault) (P : NameFault → Type 0) (r : Result X NameFault) where
  -- those that stand twice
  pub twice_first : (b : Broken) → IsErrAnd r P → ((e : NameFault) → P e → e ≡ fault) → xs ≡ ys → Tells (standing_twice ds (map ident_view xs)) fault →
      IfErr r (Tells (standing_twice ds (map ident_view ys) ▸ b))
  twice_first b h same lent told = told_first (standing_twice ds (map ident_view ys)) b fault P r h same (subst (λ l. Tells (standing_twice ds (map ident_view l)) fault) lent told)

  -- what is told where they are hidden
  pub hidden_behind : (hid : List Declared) (b : List Declared → Broken) → IsErrAnd r P → ((e : NameFault) → P e → e ≡ fault) → xs ≡ ys →
      more ds (all_declared unfinished (names_of (map ident_view xs))) ≡ Some hid → Tells (b hid) fault →
      IfErr r (Tells (standing_twice ds (map ident_view ys) ▸ b (ds ++ all_declared unfinished (names_of (map ident_view ys)))))
  hidden_behind hid b h same lent given told =
      let is = map ident_view ys in
      let es = all_declared unfinished (names_of is) in
      let hides = hidden ds xs ys lent hid given in
      told_second (standing_twice ds is) (b (ds ++ es)) fault P r h same (standing_once ds es is (names-all unfinished (names_of is)) hid hides)
      (subst (λ r. Tells (b r) fault) (more_is ds es hid hides) told)

-- a fault for want of memory alone
pub memory_only : {X : Type 0} (b : Broken) (r : Result X NameFault) → IfErr r (Tells nothing) → IfErr r (Tells b)
memory_only b r h = told_on nothing b r by h
  where
    by : (f : NameFault) → Tells nothing f → Tells b f
    by (At p at) h = absurd cc
    by NoMemory h = tt
