-- The units of a file, of what is gathered of it.
use Rattle.std.proofs.Common.{◌≡◌, Bool, true, false, List, [], ◌∷◌, map, Option, Some, None, refl, ap, sym, ◌∙◌}
use Rattle.std.specs.Prelude.{option_map, filter_map, bytes_eq, find, cond}
use Rattle.vhdl_lexer.specs.declared.language.Language.{Language}
use Rattle.vhdl_tree.specs.Tree as t
use Rattle.vhdl_tree.specs.Tree.{ContextItem, DesignUnit, File}
use Rattle.vhdl_names_rules.specs.units.Units as u
use Rattle.vhdl_names_rules.specs.Rules.{◌>>=◌, ◌>>◌, met, each, if_any}
use Rattle.vhdl_names_rules.specs.Visibility.{Name, are_distinct}
use Rattle.vhdl_names_rules.specs.Interfaces.{EntityView, entity}
use Rattle.vhdl_names_rules.specs.Files.{entities_of, entity_names, described_names, architectures_of, architecture, stand_after, viewed, unit, units_of}
use Rattle.vhdl_names_rules.proofs.laws.Rules.{kept, some_is, each_keeps}
use Rattle.vhdl_names_rules.specs.problems.Files.{with_entities}
use Rattle.vhdl_names_rules.proofs.laws.Parts.{entity_name}
use Rattle.vhdl_names_rules.proofs.kept.Files.{all_entities}
use Rattle.vhdl_names.specs.Views.{Keyed, OutlineView}
use Rattle.vhdl_names.specs.steps.Outlines.{keyed, described_of, outline_of, outlined}
use Rattle.vhdl_names.specs.steps.Entities.{viewed_by}
use Rattle.vhdl_names.specs.steps.Architectures.{own}
use Rattle.vhdl_names.specs.steps.Units.{with_architecture, joined}
use Rattle.vhdl_names.proofs.Tabling.{names_in}
use Rattle.vhdl_names.proofs.Entering.{AllViewed}

-- ---- architectures by name

pub found_keyed : (n : Name) (as' : List (List ContextItem × t.Architecture)) → described_of n (map keyed as') ≡ find (λ a. bytes_eq n a.1.entity.text) as'
found_keyed n [] = refl
found_keyed n (a ∷ as') = by (bytes_eq n a.1.entity.text) (found_keyed n as')
  where
    by : (b : Bool) → described_of n (map keyed as') ≡ find (λ a. bytes_eq n a.1.entity.text) as'
        → option_map (λ (k : Keyed). k.unit) (cond b (Some (keyed a)) (find (λ (k : Keyed). bytes_eq n k.name) (map keyed as')))
        ≡ cond b (Some a) (find (λ a. bytes_eq n a.1.entity.text) as')
    by true h = refl
    by false h = h

pub each_same : {A B : Type 0} (f g : A → Option B) → ((x : A) → f x ≡ g x) → (xs : List A) → each f xs ≡ each g xs
each_same f g h [] = refl
each_same f g h (x ∷ xs) =
    ap (λ o. o >>= λ y. each f xs >>= λ ys. Some (y ∷ ys)) (h x)
    ∙ ap (λ o. g x >>= λ y. o >>= λ ys. Some (y ∷ ys)) (each_same f g h xs)

-- ---- entities

module _ (language : Language) (as' : List Keyed) (ds : List DesignUnit) where
  abbrev vs : List EntityView
  vs = filter_map (viewed_by language as') (entities_of ds)

  pub viewed_names : AllViewed language as' ds → names_in vs ≡ entity_names ds
  viewed_names h =
      each_keeps (viewed_by language as') (λ (e : List ContextItem × t.Entity). e.1.name.text) (λ (e : EntityView). e.name) (λ e v k. entity_name language e.0 e.1 _ v k) (entities_of ds) vs h

  -- where the names of the entities are distinct they are all given
  pub all_given : AllViewed language as' ds → are_distinct (entity_names ds) ≡ true → with_entities [] vs ≡ vs
  all_given h k = all_entities vs [] (ap are_distinct (viewed_names h) ∙ k)

-- ---- units

module _ (language : Language) (ds : List DesignUnit) where
  abbrev all : List Keyed
  all = map keyed (architectures_of ds)

  same_view : (e : List ContextItem × t.Entity) → viewed_by language all e ≡ viewed language ds e
  same_view e = ap (λ o. entity language e.0 e.1 (option_map (λ a. a.1.name.text) o)) (found_keyed e.1.name.text (architectures_of ds))

  module _ (entities : List EntityView) where
    one_unit : (e : EntityView) → unit entities ds e ≡ (own entities all e >>= λ a. Some (with_architecture e a))
    unfolding unit
    one_unit e =
        ap (λ o. if_any (λ p. architecture entities e p.0 p.1) o >>= λ a. let r : Option u.Entity = Some (with_architecture e a) in r)
        (sym (found_keyed e.name (architectures_of ds)))

    each_unit : (es : List EntityView) → each (unit entities ds) es ≡ (each (own entities all) es >>= λ xs. Some (joined es xs))
    each_unit [] = refl
    each_unit (e ∷ es) =
        ap (λ o. o >>= λ y. each (unit entities ds) es >>= λ ys. Some (y ∷ ys)) (one_unit e)
        ∙ go (own entities all e) (each_unit es)
      where
        last : (a : Option u.Architecture) (o : Option (List (Option u.Architecture)))
            → ((o >>= λ xs. let r : Option (List u.Entity) = Some (joined es xs) in r) >>= λ ys. let r : Option (List u.Entity) = Some (with_architecture e a ∷ ys) in r)
            ≡ ((o >>= λ xs. Some (a ∷ xs)) >>= λ xs. let r : Option (List u.Entity) = Some (joined (e ∷ es) xs) in r)
        last a None = refl
        last a (Some xs) = refl

        go : (o : Option (Option u.Architecture)) → each (unit entities ds) es ≡ (each (own entities all) es >>= λ xs. Some (joined es xs))
            → ((o >>= λ a. let r : Option u.Entity = Some (with_architecture e a) in r) >>= λ y. each (unit entities ds) es >>= λ ys. Some (y ∷ ys))
            ≡ ((o >>= λ a. each (own entities all) es >>= λ xs. Some (a ∷ xs)) >>= λ xs. let r : Option (List u.Entity) = Some (joined (e ∷ es) xs) in r)
        go None h = refl
        go (Some a) h = ap (λ o. o >>= λ ys. let r : Option (List u.Entity) = Some (with_architecture e a ∷ ys) in r) h ∙ last a (each (own entities all) es)

-- the whole, where the names are gathered, the entities are given and their architectures too
pub units_given : (language : Language) (f : File) (o : OutlineView) → outlined f.units ≡ Some o → (es : List EntityView) → AllViewed language o.architectures f.units
    → es ≡ with_entities [] (filter_map (viewed_by language o.architectures) (entities_of f.units)) → (os : List (Option u.Architecture)) → each (own es o.architectures) es ≡ Some os
    → units_of language f ≡ Some (joined es os)
unfolding units_of
units_given language f o h es v k os g =
    let a = kept (are_distinct (entity_names f.units)) _ o h in
    let b = kept (are_distinct (described_names f.units)) _ o a.1 in
    let c = kept (stand_after f.units) (Some (outline_of f.units)) o b.1 in
    let is : map keyed (architectures_of f.units) ≡ o.architectures = ap (λ (o : OutlineView). o.architectures) (some_is (outline_of f.units) o c.1) in
    let same : es ≡ vs language o.architectures f.units = k ∙ all_given language o.architectures f.units v a.0 in
    let viewed_all : each (viewed language f.units) (entities_of f.units) ≡ Some es =
    each_same (viewed language f.units) (viewed_by language o.architectures) (λ e. sym (same_view language f.units e) ∙ ap (λ l. viewed_by language l e) is) (entities_of f.units) ∙ v ∙ ap Some (sym same) in
    ap (λ x. met x >> (met (are_distinct (described_names f.units)) >> (met (stand_after f.units) >> (each (viewed language f.units) (entities_of f.units) >>= λ es. each (unit es f.units) es)))) a.0
    ∙ ap (λ x. met x >> (met (stand_after f.units) >> (each (viewed language f.units) (entities_of f.units) >>= λ es. each (unit es f.units) es))) b.0
    ∙ ap (λ x. met x >> (each (viewed language f.units) (entities_of f.units) >>= λ es. each (unit es f.units) es)) c.0
    ∙ ap (λ x. x >>= λ es. each (unit es f.units) es) viewed_all
    ∙ each_unit language f.units es es
    ∙ ap (λ l. each (own es l) es >>= λ xs. let r : Option (List u.Entity) = Some (joined es xs) in r) is
    ∙ ap (λ x. x >>= λ xs. let r : Option (List u.Entity) = Some (joined es xs) in r) g
