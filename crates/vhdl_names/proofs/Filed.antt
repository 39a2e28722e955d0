-- What a file breaks first, of what is gathered of it.
use Rattle.std.proofs.Common.{◌≡◌, ◌≢◌, ℕ, true, not, List, [], ◌∷◌, map, Option, Some, None, refl, ap, ◌∙◌}
use Rattle.std.specs.Prelude.{◌&&◌, filter_map, option_map}
use Rattle.std.specs.List.{cons_option}
use Rattle.vhdl_lexer.specs.declared.language.Language.{Language}
use Rattle.vhdl_tree.specs.Tree as t
use Rattle.vhdl_tree.specs.Tree.{ContextItem, DesignUnit, File}
use Rattle.vhdl_names_rules.specs.declared.fault.NameFault.{NameFault}
use Rattle.vhdl_names_rules.specs.declared.fault.NameFault.TheVariants.{At, NoMemory}
use Rattle.vhdl_names_rules.specs.units.Units as u
use Rattle.vhdl_names_rules.specs.Visibility.{Name, is_among}
use Rattle.vhdl_names_rules.specs.Packages.{no_context}
use Rattle.vhdl_names_rules.specs.Interfaces.{EntityView, entity, entity_named}
use Rattle.vhdl_names_rules.specs.Files.{entity_names, architectures_of, entities_of, units_of}
use Rattle.vhdl_names_rules.specs.problems.Broken.{Broken, Tells, any_of}
use Rattle.vhdl_names_rules.specs.problems.Declarations.{context}
use Rattle.vhdl_names_rules.specs.problems.Files.{architecture, placed_architectures, seen, with_entities, entities_given, is_hidden, up_to_hidden, described, file}
use Rattle.vhdl_names_rules.proofs.kept.Files.{file_kept}
use Rattle.vhdl_names.specs.Views.{Keyed}
use Rattle.vhdl_names.specs.steps.Outlines.{keyed, described_of}
use Rattle.vhdl_names.specs.steps.Entities.{viewed_by}
use Rattle.vhdl_names.proofs.Entering.{given_behind}
use Rattle.vhdl_names.proofs.Filing.{found_keyed}
use Rattle.vhdl_names.proofs.Tabling.{names_in}

-- ---- the entities that are given

filter_same : {A B : Type 0} (f g : A → Option B) → ((x : A) → f x ≡ g x) → (xs : List A) → filter_map f xs ≡ filter_map g xs
filter_same f g h [] = refl
filter_same f g h (x ∷ xs) = ap (λ o. cons_option o (filter_map f xs)) (h x) ∙ ap (λ l. cons_option (g x) l) (filter_same f g h xs)

-- by architectures that are found as those that stand after their entities
pub given_seen : (language : Language) (ds : List DesignUnit) (as' : List Keyed) → ((n : Name) → described_of n as' ≡ described_of n (map keyed (placed_architectures ds)))
    → given_behind language as' [] ds ≡ entities_given language ds
given_seen language ds as' h = ap (with_entities []) (filter_same (viewed_by language as') (seen language ds) same (entities_of ds))
  where
    same : (e : List ContextItem × t.Entity) → viewed_by language as' e ≡ seen language ds e
    same e = ap (λ o. entity language e.0 e.1 (option_map (λ a. a.1.name.text) o)) (h e.1.name.text ∙ found_keyed e.1.name.text (placed_architectures ds))

-- ---- the architectures, among the names of all entities

module _ (language : Language) (ns ms : List Name) (same : (n : Name) → is_among n ns ≡ is_among n ms) (es : List EntityView) where
  hidden_same : is_hidden ns es ≡ is_hidden ms es
  hidden_same = λ i n. same n i && not (is_among n (names_in es))

  described_same : (a : List ContextItem × t.Architecture) → described language ns es a ≡ described language ms es a
  described_same (items, a) = go (entity_named es a.entity.text)
    where
      by : List Name → Option (ℕ × EntityView) → Broken
      by ns None = context (record (no_context language) { has_ieee = true }) items
      by ns (Some (k, e)) = up_to_hidden (is_hidden ns es) a (architecture es e items a)

      go : (o : Option (ℕ × EntityView)) → by ns o ≡ by ms o
      go None = refl
      go (Some (k, e)) = ap (λ p. up_to_hidden p a (architecture es e items a)) hidden_same

  pub all_same : (as' : List (List ContextItem × t.Architecture)) → any_of (described language ns es) as' ≡ any_of (described language ms es) as'
  all_same as' = ap (λ (f : List ContextItem × t.Architecture → Broken). any_of f as') (λ i a. described_same a i)

pub architectures_same : (language : Language) (ds : List DesignUnit) (ns : List Name) (es : List EntityView) → ((n : Name) → is_among n ns ≡ is_among n (entity_names ds)) → es ≡ entities_given language ds
    → any_of (described language ns es) (architectures_of ds) ≡ any_of (described language (entity_names ds) (entities_given language ds)) (architectures_of ds)
architectures_same language ds ns es h k =
    all_same language ns (entity_names ds) h es (architectures_of ds) ∙ ap (λ es. any_of (described language (entity_names ds) es) (architectures_of ds)) k

-- ---- what is told isn't well typed

not_both : {X : Type 0} (b : Option X) (x : X) → b ≡ None → b ≡ Some x → ⊥
not_both b x h k = cc

pub none_given : (language : Language) (f : File) (x : NameFault) → Tells (file language f) x → x ≢ NoMemory → units_of language f ≡ None
none_given language f NoMemory w n = absurd (n refl)
none_given language f (At p at) w n = go (units_of language f) refl
  where
    go : (o : Option (List u.Entity)) → units_of language f ≡ o → units_of language f ≡ None
    go None q = q
    go (Some units) q = absurd (not_both (file language f) (p, at) (file_kept language f units q) w)
