-- What is told of one context item is told of the clauses that it begins.
use Rattle.std.proofs.Common.{◌≡◌, ℕ, ◌+◌, ◌<◌, Bool, true, false, not, ◌&&◌, ◌||◌, List, [], ◌∷◌, map, length, drop, get_or, Option, Some, None, refl, sym, ap, subst, ◌∙◌}
use Rattle.std.specs.List.{list_any, list_all}
use Rattle.vhdl_tree.specs.Tree.{Selected, ContextItem, library, uses}
use Rattle.vhdl_names_rules.specs.declared.fault.NameFault.{NameFault}
use Rattle.vhdl_names_rules.specs.declared.fault.NameFault.TheVariants.{At}
use Rattle.vhdl_names_rules.specs.declared.fault.NameProblem.TheVariants.{Undeclared, LeftOut}
use Rattle.vhdl_names_rules.specs.Rules.{◌>>=◌, met}
use Rattle.vhdl_names_rules.specs.Packages as packages
use Rattle.vhdl_names_rules.specs.Packages.{Context, is_ieee, is_library, is_logic, is_numbers}
use Rattle.vhdl_names_rules.specs.problems.Broken.{Broken, Tells, nothing, ◌▸◌, unless, where_given, any_of}
use Rattle.vhdl_names_rules.specs.problems.Declarations.{context, library_named, package_used, packages_used}
use Rattle.vhdl_names_rules.proofs.Telling.{IsKept, told_same, told_left, told_right, told_given, behind_kept, unless_kept, kept_left}
use Rattle.vhdl_names_rules.proofs.kept.Declarations.{packages_kept, context_kept}
use Rattle.vhdl_names_declarations.proofs.Breaking.{from_one}

-- ---- what one item breaks

abbrev pub broken_by : Context → ContextItem → Broken
broken_by before (library ns) = any_of library_named ns
broken_by before (uses ss) = packages_used before ss

abbrev later : Context → ContextItem → List ContextItem → Broken
later before item rest = where_given (packages.context before (item ∷ [])) (λ c. context c rest)

in_turn : (before : Context) (item : ContextItem) (rest : List ContextItem) → (broken_by before item ▸ later before item rest) ≡ context before (item ∷ rest)
in_turn before (library ns) rest = refl
in_turn before (uses ss) rest = refl

before_nothing : (b : Broken) (o : Option Context) → (b ▸ where_given o (λ c. context c [])) ≡ b
unfolding ◌▸◌
before_nothing None None = refl
before_nothing None (Some c) = refl
before_nothing (Some x) o = refl

pub alone : (before : Context) (item : ContextItem) → context before (item ∷ []) ≡ broken_by before item
alone before item = sym (in_turn before item []) ∙ before_nothing (broken_by before item) (packages.context before (item ∷ []))

-- ---- items that are given

abbrev pub is_offered : Selected → Bool
is_offered s = is_logic s || is_numbers s

pub package_kept : (before : Context) (s : Selected) → before.has_ieee ≡ true → is_offered s ≡ true → IsKept (package_used before s)
package_kept before s has offered = kept_left (package_used before s) nothing (packages_kept before (s ∷ []) has (ap (λ b. b && true) offered))

item_kept : (before c : Context) (item : ContextItem) → packages.context before (item ∷ []) ≡ Some c → IsKept (broken_by before item)
item_kept before c item h = sym (alone before item) ∙ context_kept (item ∷ []) before c h

-- ---- what is told

told_item : (before : Context) (item : ContextItem) (rest : List ContextItem) (f : NameFault) → Tells (context before (item ∷ [])) f → Tells (context before (item ∷ rest)) f
told_item before item rest f h =
    told_same (broken_by before item ▸ later before item rest) (context before (item ∷ rest)) f (in_turn before item rest)
    (told_left (broken_by before item) (later before item rest) f (told_same (context before (item ∷ [])) (broken_by before item) f (alone before item) h))

told_items : (before c : Context) (item : ContextItem) (rest : List ContextItem) (f : NameFault) → packages.context before (item ∷ []) ≡ Some c →
    Tells (context c rest) f → Tells (context before (item ∷ rest)) f
told_items before c item rest f is h =
    told_same (broken_by before item ▸ later before item rest) (context before (item ∷ rest)) f (in_turn before item rest)
    (told_right (broken_by before item) (later before item rest) f (item_kept before c item is) (told_given (λ c. context c rest) (packages.context before (item ∷ [])) c f is h))

-- one item after another
pub item_then : (before : Context) (item : ContextItem) (rest : List ContextItem) → packages.context before (item ∷ rest) ≡ (packages.context before (item ∷ []) >>= λ c. packages.context c rest)
item_then before (library ns) rest = go (list_all is_library ns)
  where
    after : Context
    after = record before { has_ieee = before.has_ieee || list_any packages.is_ieee ns }

    go : (b : Bool) → (met b >>= λ _. packages.context after rest) ≡ ((met b >>= λ _. packages.context after []) >>= λ c. packages.context c rest)
    go true = refl
    go false = refl
item_then before (uses ss) rest = go before.has_ieee (list_all (λ s. is_logic s || is_numbers s) ss)
  where
    after : Context
    after = record before { has_logic = before.has_logic || list_any is_logic ss; has_numbers = before.has_numbers || list_any is_numbers ss }

    go : (a b : Bool) → (met a >>= λ _. (met b >>= λ _. packages.context after rest)) ≡ ((met a >>= λ _. (met b >>= λ _. packages.context after [])) >>= λ c. packages.context c rest)
    go true true = refl
    go true false = refl
    go false b = refl

module _ {C : Type 0} (view : C → ContextItem) (cs : List C) (i : ℕ) (item : C) (lt : i < length cs) (is : item ≡ get_or cs i item) where
  abbrev from_item : map view (drop i cs) ≡ view item ∷ map view (drop (i + 1) cs)
  from_item = from_one view cs i item lt is

  pub item_fails : (c : Context) → packages.context c (view item ∷ []) ≡ None → packages.context c (map view (drop i cs)) ≡ None
  item_fails c h = ap (packages.context c) from_item ∙ item_then c (view item) (map view (drop (i + 1) cs)) ∙ ap (λ o. o >>= λ d. packages.context d (map view (drop (i + 1) cs))) h

  pub item_goes : (c d : Context) → packages.context c (view item ∷ []) ≡ Some d → packages.context c (map view (drop i cs)) ≡ packages.context d (map view (drop (i + 1) cs))
  item_goes c d h = ap (packages.context c) from_item ∙ item_then c (view item) (map view (drop (i + 1) cs)) ∙ ap (λ o. o >>= λ d. packages.context d (map view (drop (i + 1) cs))) h

  pub item_told : (c : Context) (f : NameFault) → Tells (context c (view item ∷ [])) f → Tells (context c (map view (drop i cs))) f
  item_told c f h = subst (λ l. Tells (context c l) f) (sym from_item) (told_item c (view item) (map view (drop (i + 1) cs)) f h)

  pub items_told : (c d : Context) (f : NameFault) → packages.context c (view item ∷ []) ≡ Some d → Tells (context d (map view (drop (i + 1) cs))) f → Tells (context c (map view (drop i cs))) f
  items_told c d f given h = subst (λ l. Tells (context c l) f) (sym from_item) (told_items c d (view item) (map view (drop (i + 1) cs)) f given h)

-- ---- a clause, name by name

pub not_false : (b : Bool) → not b ≡ false → b ≡ true
not_false true h = refl
not_false false h = absurd cc

pub neither_offered : (has offered : Bool) → offered ≡ false → (has && offered) ≡ false
neither_offered true offered h = h
neither_offered false offered h = refl

module _ {A C : Type 0} (b : A → Broken) (view : C → A) (cs : List C) (i : ℕ) (c : C) (lt : i < length cs) (is : c ≡ get_or cs i c) where
  pub one_told : (f : NameFault) → any_of b (map view cs) ≡ any_of b (map view (drop i cs)) → Tells (b (view c)) f → Tells (any_of b (map view cs)) f
  one_told f left h =
      told_same (any_of b (map view (drop i cs))) (any_of b (map view cs)) f (sym left)
      (told_same (b (view c) ▸ any_of b (map view (drop (i + 1) cs))) (any_of b (map view (drop i cs))) f (sym (ap (any_of b) (from_one view cs i c lt is)))
      (told_left (b (view c)) (any_of b (map view (drop (i + 1) cs))) f h))

  pub one_behind : IsKept (b (view c)) → any_of b (map view (drop i cs)) ≡ any_of b (map view (drop (i + 1) cs))
  one_behind kept = ap (any_of b) (from_one view cs i c lt is) ∙ behind_kept (b (view c)) (any_of b (map view (drop (i + 1) cs))) kept

  pub one_passes : (p : A → Bool) → p (view c) ≡ true → list_all p (map view (drop i cs)) ≡ list_all p (map view (drop (i + 1) cs))
  one_passes p h = ap (list_all p) (from_one view cs i c lt is) ∙ ap (λ t. t && list_all p (map view (drop (i + 1) cs))) h

-- why a package isn't one that is offered
module _ (before : Context) (s : Selected) where
  abbrev in_ieee : Broken
  in_ieee = unless LeftOut s.library.at (is_ieee s.library)

  abbrev has_library : Broken
  has_library = unless Undeclared s.library.at before.has_ieee

  abbrev offered : Broken
  offered = unless LeftOut s.name.at (is_offered s)

  pub not_ieee : is_ieee s.library ≡ false → Tells (package_used before s) (At LeftOut s.library.at)
  not_ieee h = told_left in_ieee (has_library ▸ offered) (At LeftOut s.library.at) (ap (unless LeftOut s.library.at) h)

  pub no_library : is_ieee s.library ≡ true → before.has_ieee ≡ false → Tells (package_used before s) (At Undeclared s.library.at)
  no_library h k =
      told_right in_ieee (has_library ▸ offered) (At Undeclared s.library.at) (unless_kept LeftOut s.library.at (is_ieee s.library) h)
      (told_left has_library offered (At Undeclared s.library.at) (ap (unless Undeclared s.library.at) k))

  pub not_offered : is_ieee s.library ≡ true → before.has_ieee ≡ true → (before.has_ieee && is_offered s) ≡ false → Tells (package_used before s) (At LeftOut s.name.at)
  not_offered h k none =
      told_right in_ieee (has_library ▸ offered) (At LeftOut s.name.at) (unless_kept LeftOut s.library.at (is_ieee s.library) h)
      (told_right has_library offered (At LeftOut s.name.at) (unless_kept Undeclared s.library.at before.has_ieee k)
      (ap (unless LeftOut s.name.at) (ap (λ b. b && is_offered s) (sym k) ∙ none)))
