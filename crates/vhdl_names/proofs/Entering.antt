-- The entities of a file one after another, past those that are at fault, and the first that is.
use Rattle.std.proofs.Common.{◌≡◌, ◌≢◌, Bool, true, false, List, [], ◌∷◌, ◌++◌, Option, Some, None, Result, Ok, Err, IfOk, IfErr, refl, ap, sym, ◌∙◌}
use Rattle.std.specs.Prelude.{filter_map, if◌then◌else◌}
use Rattle.std.specs.List.{cons_option}
use Rattle.vhdl_lexer.specs.declared.language.Language.{Language}
use Rattle.vhdl_tree.specs.Tree as t
use Rattle.vhdl_tree.specs.Tree.{ContextItem, DesignUnit, LibraryUnit}
use Rattle.vhdl_names_rules.specs.declared.fault.NameFault.{NameFault}
use Rattle.vhdl_names_rules.specs.declared.fault.NameFault.TheVariants.{At, NoMemory}
use Rattle.vhdl_names_rules.specs.Rules.{◌>>=◌, each}
use Rattle.vhdl_names_rules.specs.Gives.{Gives}
use Rattle.vhdl_names_rules.specs.Visibility.{is_among}
use Rattle.vhdl_names_rules.specs.Interfaces.{EntityView}
use Rattle.vhdl_names_rules.specs.Files.{entities_of}
use Rattle.vhdl_names_rules.proofs.laws.Rules.{comes, some_is}
use Rattle.vhdl_names_rules.specs.problems.Broken.{Broken, Tells, nothing, ◌▸◌, any_of}
use Rattle.vhdl_names_rules.specs.problems.Interfaces.{entity}
use Rattle.vhdl_names_rules.specs.problems.Files.{with_entities}
use Rattle.vhdl_names_rules.proofs.Telling.{behind_kept, told_same, at_is_told}
use Rattle.vhdl_names_rules.proofs.kept.Interfaces.{entity_kept}
use Rattle.vhdl_names.specs.Finding.{Finds, HasMemory, first_of}
use Rattle.vhdl_names.specs.Views.{Keyed}
use Rattle.vhdl_names.specs.steps.Entities.{viewed_by, with_unit}
use Rattle.vhdl_names.proofs.Tabling.{names_in}

abbrev pub broken : Language → List ContextItem × t.Entity → Broken
broken language e = entity language e.0 e.1

-- all that are given of the rest, behind these
abbrev pub given_behind : Language → List Keyed → List EntityView → List DesignUnit → List EntityView
given_behind language as' es ds = with_entities es (filter_map (viewed_by language as') (entities_of ds))

-- each is given
abbrev pub AllViewed : Language → List Keyed → List DesignUnit → Type 0
AllViewed language as' ds = each (viewed_by language as') (entities_of ds) ≡ Some (filter_map (viewed_by language as') (entities_of ds))

one_behind : (es : List EntityView) (v : EntityView) (vs : List EntityView) → with_entities es (v ∷ vs) ≡ with_entities (with_entities es (v ∷ [])) vs
one_behind es v vs = go (is_among v.name (names_in es))
  where
    go : (b : Bool) → (if b then with_entities es vs else with_entities (es ++ v ∷ []) vs) ≡ with_entities (if b then es else es ++ v ∷ []) vs
    go true = refl
    go false = refl

module _ (language : Language) (as' : List Keyed) (es : List EntityView) (items : List ContextItem) (rest : List DesignUnit) where
  abbrev of_unit : LibraryUnit → DesignUnit
  of_unit x = record { context = items; unit = x }

  given_more : (o : Option EntityView) (vs : List EntityView) → (o >>= λ v. let r : Option (List EntityView) = Some (with_entities es (v ∷ [])) in r) ≡ Some vs
      → with_entities es (cons_option o (filter_map (viewed_by language as') (entities_of rest))) ≡ given_behind language as' vs rest
  given_more None vs h = cc
  given_more (Some v) vs h =
      one_behind es v (filter_map (viewed_by language as') (entities_of rest)) ∙ ap (λ vs. given_behind language as' vs rest) (some_is (with_entities es (v ∷ [])) vs h)

  given_past : (o : Option EntityView) → (o >>= λ v. let r : Option (List EntityView) = Some (with_entities es (v ∷ [])) in r) ≡ None
      → with_entities es (cons_option o (filter_map (viewed_by language as') (entities_of rest))) ≡ given_behind language as' es rest
  given_past None h = refl
  given_past (Some v) h = cc

  pub unit_more : (y : LibraryUnit) (vs : List EntityView) → with_unit language as' es (of_unit y) ≡ Some vs → given_behind language as' es (of_unit y ∷ rest) ≡ given_behind language as' vs rest
  unit_more (t.LibraryUnit.entity e) vs h = given_more (viewed_by language as' (items, e)) vs h
  unit_more (t.architecture a) vs h = ap (λ vs. given_behind language as' vs rest) (some_is es vs h)

  pub unit_past : (y : LibraryUnit) → with_unit language as' es (of_unit y) ≡ None → given_behind language as' es (of_unit y ∷ rest) ≡ given_behind language as' es rest
  unit_past (t.LibraryUnit.entity e) h = given_past (viewed_by language as' (items, e)) h
  unit_past (t.architecture a) h = cc

  -- ---- where it is given

  left_kept : (y : LibraryUnit) (vs : List EntityView) → with_unit language as' es (of_unit y) ≡ Some vs
      → any_of (broken language) (entities_of (of_unit y ∷ rest)) ≡ any_of (broken language) (entities_of rest)
  left_kept (t.LibraryUnit.entity e) vs h =
      let c = comes (viewed_by language as' (items, e)) (λ v. let r : Option (List EntityView) = Some (with_entities es (v ∷ [])) in r) vs h in
      behind_kept (entity language items e) (any_of (broken language) (entities_of rest)) (entity_kept language items e _ c.value c.is)
  left_kept (t.architecture a) vs h = refl

  all_viewed : (y : LibraryUnit) (vs : List EntityView) → with_unit language as' es (of_unit y) ≡ Some vs → AllViewed language as' rest → AllViewed language as' (of_unit y ∷ rest)
  all_viewed (t.LibraryUnit.entity e) vs h k =
      let c = comes (viewed_by language as' (items, e)) (λ v. let r : Option (List EntityView) = Some (with_entities es (v ∷ [])) in r) vs h in
      ap (λ o. o >>= λ v. each (viewed_by language as') (entities_of rest) >>= λ ys. Some (v ∷ ys)) c.is
      ∙ ap (λ o. o >>= λ ys. let r : Option (List EntityView) = Some (c.value ∷ ys) in r) k
      ∙ ap (λ o. let r : Option (List EntityView) = Some (cons_option o (filter_map (viewed_by language as') (entities_of rest))) in r) (sym c.is)
  all_viewed (t.architecture a) vs h k = k

  -- ---- where it is at fault

  front : (a b : Broken) (f : NameFault) → Tells (a ▸ nothing) f → Tells (a ▸ b) f
  unfolding ◌▸◌
  front None b (At p at) h = absurd cc
  front (Some x) b (At p at) h = h
  front a b NoMemory h = tt

  front_told : (y : LibraryUnit) (f : NameFault) → Tells (any_of (broken language) (entities_of (of_unit y ∷ []))) f → Tells (any_of (broken language) (entities_of (of_unit y ∷ rest))) f
  front_told (t.LibraryUnit.entity e) f h = front (entity language items e) (any_of (broken language) (entities_of rest)) f h
  front_told (t.architecture a) (At p at) h = absurd cc
  front_told (t.architecture a) NoMemory h = tt

-- ---- unit by unit

-- what is entered of the units before the rest, and what is told of them
pub record Entered (language : Language) (as' : List Keyed) (ds : List DesignUnit) (es : List EntityView) (told : Result (Unit {0}) NameFault) (rest : List DesignUnit) : Type 0 where
  pub given : HasMemory told → given_behind language as' [] ds ≡ given_behind language as' es rest
  pub left : IfOk told (λ _. any_of (broken language) (entities_of ds) ≡ any_of (broken language) (entities_of rest))
  pub first : IfErr told (Tells (any_of (broken language) (entities_of ds)))
  pub all : IfOk told (λ _. AllViewed language as' rest → AllViewed language as' ds)

module _ (language : Language) (as' : List Keyed) (ds : List DesignUnit) (es : List EntityView) (items : List ContextItem) (y : LibraryUnit) (rest : List DesignUnit) where
  abbrev unit : DesignUnit
  unit = record { context = items; unit = y }

  pub next_entered : (told r : Result (Unit {0}) NameFault) (vs : List EntityView) → Entered language as' ds es told (record { context = items; unit = y } ∷ rest)
      → Gives (λ _. vs) (with_unit language as' es (record { context = items; unit = y })) r → IfErr r (Tells (any_of (broken language) (entities_of (record { context = items; unit = y } ∷ []))))
      → IfErr r (λ f. f ≢ NoMemory → vs ≡ es) → Entered language as' ds vs (first_of told r) rest
  next_entered (Ok u) (Ok v) vs x g t k = record {
    given = λ n. x.given tt ∙ unit_more language as' es items rest y vs g;
    left = x.left ∙ left_kept language as' es items rest y vs g;
    first = tt;
    all = λ h. x.all (all_viewed language as' es items rest y vs g h);
  }
  next_entered (Ok u) (Err f) vs x g t k = record {
    given = λ n. x.given tt ∙ unit_past language as' es items rest y (g n) ∙ ap (λ es. given_behind language as' es rest) (sym (k n));
    left = tt;
    first = told_same (any_of (broken language) (entities_of (unit ∷ rest))) (any_of (broken language) (entities_of ds)) f (sym x.left) (front_told language as' es items rest y f t);
    all = tt;
  }
  next_entered (Err NoMemory) r vs x g t k = record { given = λ n. absurd (n refl); left = tt; first = tt; all = tt }
  next_entered (Err (At p at)) (Ok v) vs x g t k =
      record { given = λ n. x.given n ∙ unit_more language as' es items rest y vs g; left = tt; first = x.first; all = tt }
  next_entered (Err (At p at)) (Err NoMemory) vs x g t k = record { given = λ n. absurd (n refl); left = tt; first = tt; all = tt }
  next_entered (Err (At p at)) (Err (At q place)) vs x g t k = record {
    given = λ n. x.given n ∙ unit_past language as' es items rest y (g (at_is_told q place)) ∙ ap (λ es. given_behind language as' es rest) (sym (k (at_is_told q place)));
    left = tt;
    first = x.first;
    all = tt;
  }

-- ---- behind all of them

pub entities_found : (language : Language) (as' : List Keyed) (ds : List DesignUnit) (es : List EntityView) (told : Result (Unit {0}) NameFault) → Entered language as' ds es told [] → Finds (any_of (broken language) (entities_of ds)) told
entities_found language as' ds es (Ok u) x = x.left
entities_found language as' ds es (Err f) x = x.first

pub entities_viewed : (language : Language) (as' : List Keyed) (ds : List DesignUnit) (es : List EntityView) (told : Result (Unit {0}) NameFault) → Entered language as' ds es told [] → IfOk told (λ _. AllViewed language as' ds)
entities_viewed language as' ds es (Ok u) x = x.all refl
entities_viewed language as' ds es (Err f) x = tt
