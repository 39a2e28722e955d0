-- The rules of a file's entities and architectures, unit by unit.
use Rattle.std.proofs.Common.{◌≡◌, ◌+◌, Bool, true, false, not, List, [], ◌∷◌, ◌++◌, map, length, Option, Some, None, refl, ap, sym, ◌∙◌, append_assoc, append-nil}
use Rattle.std.specs.Prelude.{◌&&◌}
use Rattle.std.specs.List.{list_all, enumerate_from}
use Rattle.std.proofs.Math.Seq.{take-append_seam}
use Rattle.std.proofs.lemmas.List.{map-append, length-append}
use Rattle.std.proofs.lemmas.List.Elements.{filter_map-append}
use Rattle.vhdl_tree.specs.Tree as t
use Rattle.vhdl_tree.specs.Tree.{ContextItem, DesignUnit, LibraryUnit}
use Rattle.vhdl_names_rules.specs.Rules.{◌>>=◌, ◌>>◌, met, then_some}
use Rattle.vhdl_names_rules.specs.Visibility.{Name, is_among, are_distinct}
use Rattle.vhdl_names_rules.specs.Files.{as_entity, entities_of, entity_names, described_names, architectures_of, stands_after, stand_after}
use Rattle.vhdl_names_units.specs.Lists.{in_turn}
use Rattle.vhdl_names_units.specs.Once.{one_name}
use Rattle.vhdl_names_units.proofs.Once.{once}
use Rattle.vhdl_names.specs.Views.{Keyed, OutlineView}
use Rattle.vhdl_names.specs.steps.Outlines.{keyed, names_of, one_described, with_unit, no_outline, outline_of, outlined}

-- ---- architectures after their entities

-- architectures are of names that stand before them
abbrev pub placed : List Name → List DesignUnit → Bool
placed ns [] = true
placed ns (d ∷ ds) = list_all (λ n. is_among n ns) (described_names (d ∷ [])) && placed (ns ++ entity_names (d ∷ [])) ds

pub names-append : (ds es : List DesignUnit) → entity_names (ds ++ es) ≡ entity_names ds ++ entity_names es
names-append ds es =
    ap (map (λ (e : List ContextItem × t.Entity). e.1.name.text)) (filter_map-append as_entity ds es)
    ∙ map-append (λ (e : List ContextItem × t.Entity). e.1.name.text) (entities_of ds) (entities_of es)

pub placed_from : (before ds : List DesignUnit) → list_all (stands_after (before ++ ds)) (enumerate_from (length before) ds) ≡ placed (entity_names before) ds
placed_from before [] = refl
placed_from before (d ∷ ds) =
    ap (λ l. list_all (λ n. is_among n (entity_names l)) (described_names (d ∷ [])) && list_all (stands_after (before ++ d ∷ ds)) (enumerate_from (length before + 1) ds))
    (take-append_seam before (d ∷ ds))
    ∙ ap (λ k. list_all (λ n. is_among n (entity_names before)) (described_names (d ∷ [])) && list_all (stands_after (before ++ d ∷ ds)) (enumerate_from k ds))
    (sym (length-append before (d ∷ [])))
    ∙ ap (λ l. list_all (λ n. is_among n (entity_names before)) (described_names (d ∷ [])) && list_all (stands_after l) (enumerate_from (length (before ++ d ∷ [])) ds))
    (sym (append_assoc before (d ∷ []) ds))
    ∙ ap (λ b. list_all (λ n. is_among n (entity_names before)) (described_names (d ∷ [])) && b) (placed_from (before ++ d ∷ []) ds)
    ∙ ap (λ ns. list_all (λ n. is_among n (entity_names before)) (described_names (d ∷ [])) && placed ns ds) (names-append before (d ∷ []))

-- ---- architectures of entities that differ

abbrev text : List ContextItem × t.Architecture → Name
text a = a.1.entity.text

apart : (ks : List Keyed) (as' : List (List ContextItem × t.Architecture))
    → in_turn one_described ks as' ≡ (in_turn one_name (names_of ks) (map text as') >>= λ _. Some (ks ++ map keyed as'))
apart ks [] = ap Some (sym (append-nil ks))
apart ks (a ∷ as') = by (is_among (text a) (names_of ks)) (apart (ks ++ keyed a ∷ []) as')
  where
    by : (b : Bool) → in_turn one_described (ks ++ keyed a ∷ []) as'
        ≡ (in_turn one_name (names_of (ks ++ keyed a ∷ [])) (map text as') >>= λ _. Some ((ks ++ keyed a ∷ []) ++ map keyed as'))
        → (then_some (not b) (ks ++ keyed a ∷ []) >>= λ z. in_turn one_described z as')
        ≡ ((then_some (not b) (names_of ks ++ text a ∷ []) >>= λ z. in_turn one_name z (map text as')) >>= λ _. Some (ks ++ keyed a ∷ map keyed as'))
    by true h = refl
    by false h =
        h ∙ ap (λ ns. in_turn one_name ns (map text as') >>= λ _. Some ((ks ++ keyed a ∷ []) ++ map keyed as')) (map-append (λ (k : Keyed). k.name) ks (keyed a ∷ []))
        ∙ ap (λ l. in_turn one_name (names_of ks ++ text a ∷ []) (map text as') >>= λ _. Some l) (append_assoc ks (keyed a ∷ []) (map keyed as'))

-- ---- unit by unit

abbrev gathered : Option (List Name) → Option (List Keyed) → Bool → Option OutlineView
gathered es as' b = es >>= λ ns. (as' >>= λ l. (met b >> Some (record { entities = ns; architectures = l })))

not_placed : (es : Option (List Name)) (as' : Option (List Keyed)) → gathered es as' false ≡ None
not_placed None as' = refl
not_placed (Some ns) None = refl
not_placed (Some ns) (Some l) = refl

not_apart : (es : Option (List Name)) (b : Bool) → gathered es None b ≡ None
not_apart None b = refl
not_apart (Some ns) b = refl

abbrev whole : OutlineView → List DesignUnit → Option OutlineView
whole o ds = gathered (in_turn one_name o.entities (entity_names ds)) (in_turn one_described o.architectures (architectures_of ds)) (placed o.entities ds)

turned : (o : OutlineView) (ds : List DesignUnit) → in_turn with_unit o ds ≡ whole o ds
turned o [] = refl
turned o (d ∷ ds) = go d.context d.unit (λ p. turned p ds)
  where
    go : (items : List ContextItem) (x : LibraryUnit) → ((p : OutlineView) → in_turn with_unit p ds ≡ whole p ds)
        → in_turn with_unit o (record { context = items; unit = x } ∷ ds) ≡ whole o (record { context = items; unit = x } ∷ ds)
    go items (t.LibraryUnit.entity e) more = by (is_among e.name.text o.entities)
      where
        by : (b : Bool)
            → ((then_some (not b) (o.entities ++ e.name.text ∷ []) >>= λ ns. let p : Option OutlineView = Some (record o { entities = ns }) in p) >>= λ p. in_turn with_unit p ds)
            ≡ gathered (then_some (not b) (o.entities ++ e.name.text ∷ []) >>= λ ns. in_turn one_name ns (entity_names ds))
            (in_turn one_described o.architectures (architectures_of ds)) (placed (o.entities ++ e.name.text ∷ []) ds)
        by true = refl
        by false = more (record o { entities = o.entities ++ e.name.text ∷ [] })
    go items (t.architecture a) more = by (is_among a.entity.text o.entities)
      where
        new : (c : Bool)
            → ((then_some (not c) (o.architectures ++ keyed (items, a) ∷ []) >>= λ l. let p : Option OutlineView = Some (record o { architectures = l }) in p) >>= λ p. in_turn with_unit p ds)
            ≡ gathered (in_turn one_name o.entities (entity_names ds))
            (then_some (not c) (o.architectures ++ keyed (items, a) ∷ []) >>= λ l. in_turn one_described l (architectures_of ds)) (placed (o.entities ++ []) ds)
        new true = sym (not_apart (in_turn one_name o.entities (entity_names ds)) (placed (o.entities ++ []) ds))
        new false =
            more (record o { architectures = o.architectures ++ keyed (items, a) ∷ [] })
            ∙ ap (λ ns. gathered (in_turn one_name o.entities (entity_names ds)) (in_turn one_described (o.architectures ++ keyed (items, a) ∷ []) (architectures_of ds)) (placed ns ds))
            (sym (append-nil o.entities))

        by : (b : Bool)
            → ((met b >> (one_described o.architectures (items, a) >>= λ l. let p : Option OutlineView = Some (record o { architectures = l }) in p)) >>= λ p. in_turn with_unit p ds)
            ≡ gathered (in_turn one_name o.entities (entity_names ds)) (one_described o.architectures (items, a) >>= λ l. in_turn one_described l (architectures_of ds))
            ((b && true) && placed (o.entities ++ []) ds)
        by true = new (is_among a.entity.text (names_of o.architectures))
        by false = sym (not_placed (in_turn one_name o.entities (entity_names ds)) (one_described o.architectures (items, a) >>= λ l. in_turn one_described l (architectures_of ds)))

pub outlined_in_turn : (ds : List DesignUnit) → outlined ds ≡ in_turn with_unit no_outline ds
outlined_in_turn ds =
    sym (turned no_outline ds
    ∙ ap (λ o. gathered o (in_turn one_described [] (architectures_of ds)) (placed [] ds)) (once (entity_names ds))
    ∙ ap (λ o. gathered (then_some (are_distinct (entity_names ds)) (entity_names ds)) o (placed [] ds))
    (apart [] (architectures_of ds) ∙ ap (λ o. o >>= λ _. let l : Option (List Keyed) = Some (map keyed (architectures_of ds)) in l) (once (described_names ds)))
    ∙ ap (λ b. gathered (then_some (are_distinct (entity_names ds)) (entity_names ds))
    (then_some (are_distinct (described_names ds)) (described_names ds) >>= λ _. Some (map keyed (architectures_of ds))) b) (sym (placed_from [] ds))
    ∙ go (are_distinct (entity_names ds)) (are_distinct (described_names ds)) (stand_after ds))
  where
    go : (c d b : Bool) → gathered (then_some c (entity_names ds)) (then_some d (described_names ds) >>= λ _. Some (map keyed (architectures_of ds))) b
        ≡ (met c >> (met d >> (met b >> Some (outline_of ds))))
    go false d b = refl
    go true false b = refl
    go true true false = refl
    go true true true = refl
