-- An architecture as that of its entity, which is found by its name.
use Rattle.std.proofs.Common.{◌≡◌, ℕ, true, List, map, set, position, Option, Some, None, Result, Vec, Global, Ok, Err, IfOk, refl, ap, sym, ◌∙◌, zero-add}
use Rattle.std.specs.Prelude.{bytes_eq, option_map}
use Rattle.std.specs.Map.{lookup, keys_of}
use Rattle.vhdl_lexer.specs.declared.language.Language.{Language}
use Rattle.vhdl_tree.specs.Tree as t
use Rattle.vhdl_tree.specs.Tree.{ContextItem}
use Rattle.vhdl_names_rules.specs.units.Units as u
use Rattle.vhdl_names_rules.specs.declared.fault.NameFault.{NameFault}
use Rattle.vhdl_names_rules.specs.Rules.{◌>>=◌}
use Rattle.vhdl_names_rules.specs.Visibility.{Name}
use Rattle.vhdl_names_rules.specs.Packages.{no_context}
use Rattle.vhdl_names_rules.specs.Interfaces.{EntityView, entity_named}
use Rattle.vhdl_names_rules.specs.Files.{architecture}
use Rattle.vhdl_names_rules.specs.problems.Broken.{Broken, nothing, ◌▸◌}
use Rattle.vhdl_names_rules.specs.problems.Declarations.{context}
use Rattle.vhdl_names_rules.specs.problems.Files as broken
use Rattle.vhdl_names_interfaces.specs.declared.interface.EntityInterface.{EntityInterface}
use Rattle.vhdl_names_interfaces.specs.Views.{entity_view, named_view}
use Rattle.vhdl_names_interfaces.proofs.Named.{entry_view, joined, found, found_pair}
use Rattle.vhdl_names.specs.steps.Architectures.{with_described}

-- ---- the entity of a name

module _ (n : Name) (es : List (Vec ℕ Global × EntityInterface)) where
  named_some : (k : ℕ) (e : EntityInterface) → position (λ m. bytes_eq n m.items) (keys_of es) ≡ Some k → lookup (λ m. bytes_eq n m.items) es ≡ Some e
      → entity_named (map entry_view es) n ≡ Some (k, named_view n e)
  named_some k e index value =
      found n 0 es ∙ ap (λ o. joined n 0 o (lookup (λ m. bytes_eq n m.items) es)) index ∙ ap (joined n 0 (Some k)) value
      ∙ ap (λ k. Some (found_pair k (named_view n e))) (zero-add k)

  named_none : position (λ m. bytes_eq n m.items) (keys_of es) ≡ None → entity_named (map entry_view es) n ≡ None
  named_none index = found n 0 es ∙ ap (λ o. joined n 0 o (lookup (λ m. bytes_eq n m.items) es)) index

-- an entity's name says nothing of its architecture
name_apart : (es : List EntityView) (n : Name) (e : EntityInterface) (items : List ContextItem) (a : t.Architecture)
    → architecture es (named_view n e) items a ≡ architecture es (entity_view e) items a
unfolding architecture
name_apart es n e items a = refl

-- ---- an architecture of an entity that a table is asked for by these bytes

module _ (language : Language) (es : List (Vec ℕ Global × EntityInterface)) (items : List ContextItem) (a : t.Architecture) (m : Name) (same : m ≡ a.entity.text) where
  entity_at : (k : ℕ) (e : EntityInterface) → Some k ≡ position (λ x. bytes_eq m x.items) (keys_of es) → Some e ≡ lookup (λ x. bytes_eq m x.items) es
      → entity_named (map entry_view es) a.entity.text ≡ Some (k, named_view m e)
  entity_at k e index value = ap (entity_named (map entry_view es)) (sym same) ∙ named_some m es k e (sym index) (sym value)

  nowhere : None ≡ position (λ x. bytes_eq m x.items) (keys_of es) → entity_named (map entry_view es) a.entity.text ≡ None
  nowhere index = ap (entity_named (map entry_view es)) (sym same) ∙ named_none m es (sym index)

  pub described_at : (ns : List Name) (k : ℕ) (e : EntityInterface) → Some k ≡ position (λ x. bytes_eq m x.items) (keys_of es)
      → Some e ≡ lookup (λ x. bytes_eq m x.items) es
      → broken.described language ns (map entry_view es) (items, a)
      ≡ broken.up_to_hidden (broken.is_hidden ns (map entry_view es)) a (broken.architecture (map entry_view es) (entity_view e) items a)
  described_at ns k e index value = rw (entity_at k e index value) refl

  pub described_nowhere : (ns : List Name) → None ≡ position (λ x. bytes_eq m x.items) (keys_of es)
      → broken.described language ns (map entry_view es) (items, a) ≡ context (record (no_context language) { has_ieee = true }) items
  described_nowhere ns index = rw (nowhere index) refl

  pub with_at : (os : List (Option u.Architecture)) (k : ℕ) (e : EntityInterface) → Some k ≡ position (λ x. bytes_eq m x.items) (keys_of es)
      → Some e ≡ lookup (λ x. bytes_eq m x.items) es
      → with_described (map entry_view es) os (items, a) ≡ (architecture (map entry_view es) (entity_view e) items a >>= λ x. Some (set os k (Some x)))
  with_at os k e index value =
      let there : with_described (map entry_view es) os (items, a) ≡ (architecture (map entry_view es) (named_view m e) items a >>= λ x. Some (set os k (Some x))) =
      rw (entity_at k e index value) refl in
      there ∙ ap (λ o. o >>= λ x. Some (set os k (Some x))) (name_apart (map entry_view es) m e items a)

  pub with_nowhere : (os : List (Option u.Architecture)) → None ≡ position (λ x. bytes_eq m x.items) (keys_of es)
      → with_described (map entry_view es) os (items, a) ≡ Some os
  with_nowhere os index = rw (nowhere index) refl

-- what is given is put at its place
pub put_there : (os : List (Option u.Architecture)) (k : ℕ) (o : Option u.Architecture) (x : Option u.Architecture) → option_map Some o ≡ Some x
    → (o >>= λ y. Some (set os k (Some y))) ≡ Some (set os k x)
put_there os k None x h = absurd cc
put_there os k (Some y) x h = let same : Some y ≡ x = cc in ap (λ z. Some (set os k z)) same

pub ok_all : {X : Type 0} {P : Type 0} (r : Result X NameFault) → P → IfOk r (λ x. P)
ok_all (Ok x) p = p
ok_all (Err f) p = tt

pub alone_is : (b : Broken) → b ≡ b ▸ nothing
unfolding ◌▸◌
alone_is None = refl
alone_is (Some x) = refl
