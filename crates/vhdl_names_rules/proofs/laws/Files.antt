-- Units are the entities in order of the text, and each stands before its architecture.
use Rattle.std.proofs.Common.{◌≡◌, ℕ, zero, suc, ◌+◌, ◌<◌, true, List, [], ◌∷◌, Some, refl, ap, sym, ◌∙◌, arith, ◌⊎◌, inl, inr}
use Rattle.std.specs.List.{slice_get, list_all, enumerate_from}
use Rattle.std.specs.Str.{bytes_eq}
use Rattle.std.proofs.Math.ListN.{take}
use Rattle.std.proofs.lemmas.Bool.{or_cases}
use Rattle.std.proofs.lemmas.Slice.Eq.{bytes_eq-Decides}
use Rattle.vhdl_tree.specs.Tree as t
use Rattle.vhdl_tree.specs.Tree.{File, DesignUnit, LibraryUnit, ContextItem}
use Rattle.vhdl_names_rules.specs.units.Units as u
use Rattle.vhdl_names_rules.specs.Rules.{if_any}
use Rattle.vhdl_names_rules.specs.Visibility.{Name, is_among}
use Rattle.vhdl_names_rules.specs.Interfaces.{EntityView}
use Rattle.vhdl_names_rules.specs.Files.{entities_of, entity_names, described_names, stands_after, stand_after, architecture_of, architecture, viewed, unit}
use Rattle.vhdl_names_rules.specs.laws.Files.{IsEntityAt, EntitiesStandInOrder}
use Rattle.vhdl_names_rules.proofs.laws.Rules.{comes, some_is, each_passes, each_keeps}
use Rattle.vhdl_names_rules.proofs.laws.Parts.{entity_name, file_parts}
use Rattle.vhdl_names_rules.proofs.laws.Once.{stand_once}

-- ---- names

unit_name : (entities : List EntityView) (ds : List DesignUnit) (e : EntityView) (x : u.Entity) → unit entities ds e ≡ Some x → x.name ≡ e.name
unfolding unit
unit_name entities ds e x h =
    let a = comes (if_any (λ (p : List ContextItem × t.Architecture). architecture entities e p.0 p.1) (architecture_of e.name ds)) _ x h in
    ap (λ (x : u.Entity). x.name) (sym (some_is _ x a.rest))

-- ---- an entity before its architecture

record IsEntity (ds : List DesignUnit) (j : ℕ) (name : Name) : Type 0 where
  unit : DesignUnit
  entity : t.Entity
  at : slice_get ds j ≡ Some unit
  is : unit.unit ≡ t.LibraryUnit.entity entity
  named : entity.name.text ≡ name

later : (d : DesignUnit) (ds : List DesignUnit) (n : Name) → (j : ℕ) × IsEntity ds j n → (j : ℕ) × IsEntity (d ∷ ds) j n
later d ds n p = (suc p.0, record { unit = p.1.unit; entity = p.1.entity; at = p.1.at; is = p.1.is; named = p.1.named })

an_entity : (n : Name) (ds : List DesignUnit) → is_among n (entity_names ds) ≡ true → (j : ℕ) × IsEntity ds j n
an_entity n [] e = cc
an_entity n (d ∷ ds) e = go d.context d.unit e (an_entity n ds)
  where
    go : (items : List ContextItem) (x : LibraryUnit)
        → is_among n (entity_names (record { context = items; unit = x } ∷ ds)) ≡ true
        → (is_among n (entity_names ds) ≡ true → (j : ℕ) × IsEntity ds j n)
        → (j : ℕ) × IsEntity (record { context = items; unit = x } ∷ ds) j n
    go items (t.LibraryUnit.entity f) e more =
        found (or_cases (bytes_eq n f.name.text) (is_among n (entity_names ds)) e)
      where
        found : (bytes_eq n f.name.text ≡ true) ⊎ (is_among n (entity_names ds) ≡ true)
            → (j : ℕ) × IsEntity (record { context = items; unit = t.LibraryUnit.entity f } ∷ ds) j n
        found (inl h) = (0, record { unit = record { context = items; unit = t.LibraryUnit.entity f }; entity = f; at = refl; is = refl; named = sym ((bytes_eq-Decides n f.name.text).0 h) })
        found (inr h) = later (record { context = items; unit = t.LibraryUnit.entity f }) ds n (more h)
    go items (t.LibraryUnit.architecture a) e more = later (record { context = items; unit = t.LibraryUnit.architecture a }) ds n (more e)

within_take : (ds : List DesignUnit) (k j : ℕ) (d : DesignUnit) → slice_get (take k ds) j ≡ Some d → (j < k) × (slice_get ds j ≡ Some d)
within_take ds zero j d e = cc
within_take [] (suc k) j d e = cc
within_take (c ∷ ds) (suc k) zero d e = (omega arith, e)
within_take (c ∷ ds) (suc k) (suc j) d e = let h = within_take ds k j d e in (omega arith, h.1)

enumerated : (n k : ℕ) (ds : List DesignUnit) (d : DesignUnit) → slice_get ds k ≡ Some d → slice_get (enumerate_from n ds) k ≡ Some (n + k, d)
enumerated n k [] d e = cc
enumerated n zero (c ∷ ds) d e =
    let h : n ≡ n + 0 = omega arith in
    ap (λ m. Some (m, c)) h ∙ ap (λ c. Some (n + 0, c)) (some_is c d e)
enumerated n (suc k) (c ∷ ds) d e =
    let h : n + 1 + k ≡ n + suc k = omega arith in
    enumerated (n + 1) k ds d e ∙ ap (λ m. Some (m, d)) h

described : (d : DesignUnit) (a : t.Architecture) → d.unit ≡ t.LibraryUnit.architecture a → described_names (d ∷ []) ≡ a.entity.text ∷ []
described d a e = ap (λ x. described_names (record { context = d.context; unit = x } ∷ [])) e

before : (f : File) (k : ℕ) (d : DesignUnit) (a : t.Architecture) → stand_after f.units ≡ true → slice_get f.units k ≡ Some d
    → d.unit ≡ t.LibraryUnit.architecture a → (j : ℕ) × (j < k) × IsEntityAt f j a.entity.text
before f k d a e p h =
    let q : 0 + k ≡ k = omega arith in
    let at = enumerated 0 k f.units d p ∙ ap (λ m. Some (m, d)) q in
    let s = each_passes (stands_after f.units) (enumerate_from 0 f.units) k (k, d) e at in
    let all : list_all (λ n. is_among n (entity_names (take k f.units))) (a.entity.text ∷ []) ≡ true =
    ap (list_all (λ n. is_among n (entity_names (take k f.units)))) (sym (described d a h)) ∙ s in
    let one = each_passes (λ n. is_among n (entity_names (take k f.units))) (a.entity.text ∷ []) 0 a.entity.text all refl in
    let i = an_entity a.entity.text (take k f.units) one in
    let w = within_take f.units k i.0 i.1.unit i.1.at in
    (i.0, w.0, record { unit = i.1.unit; entity = i.1.entity; at = w.1; is = i.1.is; named = i.1.named })

pub entities_stand_in_order : EntitiesStandInOrder
entities_stand_in_order language f units e =
    let p = file_parts language f units e in
    record {
      in_order =
          each_keeps (unit p.views.value f.units) (λ (e : EntityView). e.name) (λ (x : u.Entity). x.name) (unit_name p.views.value f.units) p.views.value units p.gives
          ∙ each_keeps (viewed language f.units) (λ (e : List ContextItem × t.Entity). e.1.name.text) (λ (e : EntityView). e.name)
          (λ e x h. entity_name language e.0 e.1 _ x h) (entities_of f.units) p.views.value p.views.is;
      once = stand_once (entity_names f.units) p.once;
      one_architecture = stand_once (described_names f.units) p.described_once;
      entity_first = λ k d a q h. before f k d a p.after q h;
    }
