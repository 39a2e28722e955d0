-- A component in turn: its entity, its text, its own region, its end, and its name in the region it stands in.
use Rattle.std.proofs.Common.{◌≡◌, ℕ, Bool, true, false, ◌&&◌, List, [], ◌∷◌, ◌++◌, Option, Some, None, Vec, Global, refl, sym, ap, ◌∙◌, append-nil}
use Rattle.vhdl_names_declarations.proofs.Regions.{names-append, refused, grown}
use Rattle.std.specs.Prelude.{bytes_eq, is_some, map}
use Rattle.std.specs.List.{IsDistinct}
use Rattle.std.specs.Map.{keys_of, lookup}
use Rattle.vhdl_names_sight.specs.declared.meaning.Entry.{Entry}
use Rattle.vhdl_names_sight.specs.declared.meaning.Meaning.TheVariants.{Unfinished}
use Rattle.vhdl_names_sight.specs.Views.{entry_view}
use Rattle.vhdl_tree.specs.Tree as t
use Rattle.vhdl_names_rules.specs.units.Units as u
use Rattle.vhdl_names_rules.specs.Rules.{◌>>=◌, met}
use Rattle.vhdl_names_rules.specs.SameText.{same_generics, same_ports}
use Rattle.vhdl_names_rules.specs.Visibility as visibility
use Rattle.vhdl_names_rules.specs.Visibility.{Name, Declared, Sight, Declares, declare, are_distinct, with_declared, ends}
use Rattle.vhdl_names_rules.specs.Interfaces.{Interface, EntityView, declared_names, interface, component, entity_named}
use Rattle.vhdl_names_declarations.specs.Entered.{more, entered, entering}
use Rattle.vhdl_names_interfaces.specs.Components.{inner, has_interface, is_new}
use Rattle.vhdl_names_interfaces.proofs.Interfacing.{pair}

abbrev pub none_analysed : List u.Declaration
none_analysed = []

-- its name enters the region
abbrev pub named : Sight → t.Component → ℕ × EntityView → Option (Sight × List u.Declaration)
named s c e = more s.region (declare c.name.text (visibility.component e.0) ∷ []) >>= λ r. Some (pair (record s { region = r }) none_analysed)

abbrev pub closed : Sight → t.Component → ℕ × EntityView → Option (Sight × List u.Declaration)
closed s c e = met (ends c.name.text c.end_name) >>= λ _. named s c e

abbrev pub same_entity : t.Component → ℕ × EntityView → Bool
same_entity c e = same_generics c.generics e.1.generic_text && same_ports c.ports e.1.port_text

abbrev pub of_entity : Sight → t.Component → ℕ × EntityView → Option (Sight × List u.Declaration)
of_entity s c e = met (same_entity c e) >>= λ _. (has_interface s c >>= λ _. closed s c e)

abbrev pub there : Option (Unit {0})
there = Some tt

abbrev none : {B : Type 0} → Option B
none = None

abbrev declares : t.Component → ℕ × EntityView → Declares u.Declaration
declares c e = record { declared = declare c.name.text (visibility.component e.0) ∷ []; analysed = [] }

in_entity : (es : List EntityView) (s : Sight) (c : t.Component) →
    entering (component es) s c ≡ (entity_named es c.name.text >>= of_entity s c)
unfolding component
in_entity es s c = go (entity_named es c.name.text)
  where
    last : (e : ℕ × EntityView) (b : Bool) →
        (met b >>= λ _. Some (pair (with_declared s (declares c e).declared) none_analysed))
        ≡ ((met b >>= λ _. Some (s.region ++ (declares c e).declared)) >>= λ r. Some (pair (record s { region = r }) none_analysed))
    last e true = refl
    last e false = refl

    closing : (e : ℕ × EntityView) (b : Bool) → ((met b >>= λ _. Some (declares c e)) >>= entered s) ≡ (met b >>= λ _. named s c e)
    closing e true = last e (are_distinct (declared_names (s.region ++ (declares c e).declared)))
    closing e false = refl

    inside : (e : ℕ × EntityView) (o : Option Interface) →
        ((o >>= λ i. (met (ends c.name.text c.end_name) >>= λ _. Some (declares c e))) >>= entered s) ≡ ((o >>= λ _. there) >>= λ _. closed s c e)
    inside e None = refl
    inside e (Some i) = closing e (ends c.name.text c.end_name)

    by : (e : ℕ × EntityView) (b : Bool) →
        ((met b >>= λ _. (interface (inner s) c.generics c.ports >>= λ i. (met (ends c.name.text c.end_name) >>= λ _. Some (declares c e)))) >>= entered s)
        ≡ (met b >>= λ _. (has_interface s c >>= λ _. closed s c e))
    by e true = inside e (interface (inner s) c.generics c.ports)
    by e false = refl

    go : (o : Option (ℕ × EntityView)) →
        ((o >>= λ e. (met (same_entity c e) >>= λ _. (interface (inner s) c.generics c.ports >>= λ i. (met (ends c.name.text c.end_name) >>= λ _. Some (declares c e))))) >>= entered s)
        ≡ (o >>= of_entity s c)
    go None = refl
    go (Some e) = by e (same_entity c e)

-- ---- a name that stands twice first

named_twice : (ds : List Declared) (n : Name) (k : visibility.Meaning) → declared_names (ds ++ declare n k ∷ []) ≡ declared_names (ds ++ declare n visibility.unfinished ∷ [])
named_twice ds n k = names-append ds (declare n k ∷ []) ∙ sym (names-append ds (declare n visibility.unfinished ∷ []))

nothing : {A B : Type 0} (o : Option A) → (o >>= λ _. none {B = B}) ≡ None
nothing None = refl
nothing (Some x) = refl

pub component_in_turn : (es : List EntityView) (s : Sight) (c : t.Component) →
    entering (component es) s c ≡ (is_new s.region c.name.text >>= λ _. (entity_named es c.name.text >>= of_entity s c))
component_in_turn es s c = in_entity es s c ∙ by (are_distinct (declared_names after)) refl
  where
    after : List Declared
    after = s.region ++ declare c.name.text visibility.unfinished ∷ []

    first : Bool → Option (Unit {0})
    first b = (met b >>= λ _. Some after) >>= λ _. Some tt

    twice : are_distinct (declared_names after) ≡ false → (e : ℕ × EntityView) → of_entity s c e ≡ None
    twice h e =
        ap (λ b. met (same_entity c e) >>= λ _. (has_interface s c >>= λ _. (met (ends c.name.text c.end_name) >>= λ _.
        ((met b >>= λ _. Some (s.region ++ declare c.name.text (visibility.component e.0) ∷ [])) >>= λ r. Some (pair (record s { region = r }) none_analysed)))))
        (ap are_distinct (named_twice s.region c.name.text (visibility.component e.0)) ∙ h)
        ∙ ap (λ o. met (same_entity c e) >>= λ _. (has_interface s c >>= λ _. o)) (nothing (met (ends c.name.text c.end_name)))
        ∙ ap (λ o. met (same_entity c e) >>= λ _. o) (nothing (has_interface s c))
        ∙ nothing (met (same_entity c e))

    none_of : are_distinct (declared_names after) ≡ false → (o : Option (ℕ × EntityView)) → (o >>= of_entity s c) ≡ None
    none_of h None = refl
    none_of h (Some e) = twice h e

    by : (b : Bool) → are_distinct (declared_names after) ≡ b → (entity_named es c.name.text >>= of_entity s c)
        ≡ (first (are_distinct (declared_names after)) >>= λ _. (entity_named es c.name.text >>= of_entity s c))
    by true h = sym (ap (λ b. first b >>= λ _. (entity_named es c.name.text >>= of_entity s c)) h)
    by false h =
        none_of h (entity_named es c.name.text)
        ∙ sym (ap (λ b. first b >>= λ _. (entity_named es c.name.text >>= of_entity s c)) h)

-- what a region that has a name says of it, and one that has it not
pub is_twice : (es : List (Vec ℕ Global × Entry)) (n : Name) → IsDistinct (λ a b. bytes_eq a.items b.items) (keys_of es) →
    is_some (lookup (λ k. bytes_eq n k.items) es) ≡ true → is_new (map entry_view es) n ≡ None
is_twice es n unique h = ap (λ o. o >>= λ _. there) (refused es (declare n visibility.unfinished) unique h)

pub is_once : (es : List (Vec ℕ Global × Entry)) (key : Vec ℕ Global) → IsDistinct (λ a b. bytes_eq a.items b.items) (keys_of es) →
    is_some (lookup (λ k. bytes_eq key.items k.items) es) ≡ false → is_new (map entry_view es) key.items ≡ Some tt
is_once es key unique h =
    let e : Entry = record { meaning = Unfinished; range = None; is_global = false } in
    ap (λ o. o >>= λ _. there) (grown es (es ++ (key, e) ∷ []) key.items key e unique h refl refl)

-- ---- a component's own region, which trades places with the one round it

abbrev pub swapped : Sight → Sight
swapped s = record s { region = s.enclosing; enclosing = s.region }

pub swapped_is : (s : Sight) (r e : List Declared) → r ≡ s.enclosing → e ≡ s.region → record s { region = r; enclosing = e } ≡ swapped s
swapped_is s r e at by = ap (λ r. record s { region = r; enclosing = e }) at ∙ ap (λ e. record s { region = s.enclosing; enclosing = e }) by

pub swapped_inner : (s : Sight) → s.enclosing ≡ [] → swapped s ≡ inner s
swapped_inner s h =
    ap (λ ds. record s { region = ds; enclosing = s.region }) h
    ∙ ap (λ ds. record s { region = []; enclosing = ds }) (sym (ap (λ ds. s.region ++ ds) h ∙ append-nil s.region))

pub swapped_back : (s t : Sight) → s.enclosing ≡ [] → t ≡ record (swapped s) { region = t.region } → record t { region = t.enclosing; enclosing = [] } ≡ s
swapped_back s t h kept = ap (λ (x : Sight). record x { region = x.enclosing; enclosing = [] }) kept ∙ ap (λ ds. record s { enclosing = ds }) (sym h)

-- ---- a component that isn't given, by the part of it that isn't

module _ (es : List EntityView) (s : Sight) (c : t.Component) where
  pub none_new : {N : Type 0} → (N → is_new s.region c.name.text ≡ None) → N → entering (component es) s c ≡ None
  none_new h n = component_in_turn es s c ∙ ap (λ o. o >>= λ _. (entity_named es c.name.text >>= of_entity s c)) (h n)

  module _ (new : is_new s.region c.name.text ≡ Some tt) where
    behind_name : entering (component es) s c ≡ (entity_named es c.name.text >>= of_entity s c)
    behind_name = component_in_turn es s c ∙ ap (λ o. o >>= λ _. (entity_named es c.name.text >>= of_entity s c)) new

    pub none_named : {N : Type 0} → (N → entity_named es c.name.text ≡ None) → N → entering (component es) s c ≡ None
    none_named h n = behind_name ∙ ap (λ o. o >>= of_entity s c) (h n)

    module _ (e : ℕ × EntityView) (is : entity_named es c.name.text ≡ Some e) where
      behind_entity : entering (component es) s c ≡ of_entity s c e
      behind_entity = behind_name ∙ ap (λ o. o >>= of_entity s c) is

      pub none_same : {N : Type 0} → (N → met (same_entity c e) ≡ None) → N → entering (component es) s c ≡ None
      none_same h n = behind_entity ∙ ap (λ o. o >>= λ _. (has_interface s c >>= λ _. closed s c e)) (h n)

      module _ (same : met (same_entity c e) ≡ Some tt) where
        behind_text : entering (component es) s c ≡ (has_interface s c >>= λ _. closed s c e)
        behind_text = behind_entity ∙ ap (λ o. o >>= λ _. (has_interface s c >>= λ _. closed s c e)) same

        pub none_within : {N : Type 0} → (N → has_interface s c ≡ None) → N → entering (component es) s c ≡ None
        none_within h n = behind_text ∙ ap (λ o. o >>= λ _. closed s c e) (h n)

        pub none_closed : {N : Type 0} → has_interface s c ≡ Some tt → (N → met (ends c.name.text c.end_name) ≡ None) → N → entering (component es) s c ≡ None
        none_closed i h n = behind_text ∙ ap (λ o. o >>= λ _. closed s c e) i ∙ ap (λ o. o >>= λ _. named s c e) (h n)
