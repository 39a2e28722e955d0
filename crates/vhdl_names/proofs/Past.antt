-- The names of a file's units one after another, past those that are at fault.
use Rattle.std.proofs.Common.{◌≡◌, ℕ, ◌+◌, Bool, true, false, cond, not, List, [], ◌∷◌, ◌++◌, map, length, Option, Some, None, refl, ap, sym, ◌∙◌, subst, append_assoc, append-nil}
use Rattle.std.specs.Prelude.{◌&&◌, ◌||◌, bytes_eq, find, flat_map, option_map, if◌then◌else◌}
use Rattle.std.specs.List.{list_all, enumerate_from}
use Rattle.std.proofs.Math.Seq.{take-append_seam}
use Rattle.std.proofs.lemmas.List.{length-append}
use Rattle.std.proofs.lemmas.List.Folds.{list_any-append}
use Rattle.std.proofs.lemmas.Slice.Eq.{bytes_eq-Decides}
use Rattle.vhdl_tree.specs.Tree as t
use Rattle.vhdl_tree.specs.Tree.{ContextItem, DesignUnit, LibraryUnit}
use Rattle.vhdl_names_rules.specs.Rules.{◌>>=◌, ◌>>◌, met, then_some}
use Rattle.vhdl_names_rules.specs.Visibility.{Name, is_among}
use Rattle.vhdl_names_rules.specs.Files.{entity_names, described_names, architectures_of, stands_after}
use Rattle.vhdl_names_rules.proofs.laws.Rules.{comes, kept, some_is}
use Rattle.vhdl_names_units.specs.Once.{one_name}
use Rattle.vhdl_names_rules.specs.problems.Files.{placed_architectures}
use Rattle.vhdl_names.proofs.Naming.{then_is}
use Rattle.vhdl_names.specs.Views.{Keyed, OutlineView}
use Rattle.vhdl_names.specs.steps.Outlines.{keyed, names_of, one_described, with_unit, described_of}
use Rattle.vhdl_names.proofs.Outlining.{names-append}

-- ---- architectures after their entities

-- those of units behind entities of these names
abbrev pub placed_behind : List Name → List DesignUnit → List (List ContextItem × t.Architecture)
placed_behind ns [] = []
placed_behind ns (d ∷ ds) =
    (if list_all (λ n. is_among n ns) (described_names (d ∷ [])) then architectures_of (d ∷ []) else []) ++ placed_behind (ns ++ entity_names (d ∷ [])) ds

abbrev pick : List DesignUnit → ℕ × DesignUnit → List (List ContextItem × t.Architecture)
pick all d = if stands_after all d then architectures_of (d.1 ∷ []) else []

gathered : (before ds : List DesignUnit) → flat_map (pick (before ++ ds)) (enumerate_from (length before) ds) ≡ placed_behind (entity_names before) ds
gathered before [] = refl
gathered before (d ∷ ds) =
    ap (λ l. (if list_all (λ n. is_among n (entity_names l)) (described_names (d ∷ [])) then architectures_of (d ∷ []) else [])
    ++ flat_map (pick (before ++ d ∷ ds)) (enumerate_from (length before + 1) ds)) (take-append_seam before (d ∷ ds))
    ∙ ap (λ k. here ++ flat_map (pick (before ++ d ∷ ds)) (enumerate_from k ds)) (sym (length-append before (d ∷ [])))
    ∙ ap (λ l. here ++ flat_map (pick l) (enumerate_from (length (before ++ d ∷ [])) ds)) (sym (append_assoc before (d ∷ []) ds))
    ∙ ap (λ l. here ++ l) (gathered (before ++ d ∷ []) ds)
    ∙ ap (λ ns. here ++ placed_behind ns ds) (names-append before (d ∷ []))
  where
    here : List (List ContextItem × t.Architecture)
    here = if list_all (λ n. is_among n (entity_names before)) (described_names (d ∷ [])) then architectures_of (d ∷ []) else []

pub all_placed : (ds : List DesignUnit) → placed_architectures ds ≡ placed_behind [] ds
all_placed ds = gathered [] ds

-- ---- names

among-append : (n : Name) (xs ys : List Name) → is_among n (xs ++ ys) ≡ (is_among n xs || is_among n ys)
among-append n xs ys = list_any-append (bytes_eq n) xs ys

-- ---- architectures by name

skipped : (m : Name) (js : List Keyed) (k : Keyed) (rs : List Keyed) → bytes_eq m k.name ≡ false → described_of m (js ++ k ∷ rs) ≡ described_of m (js ++ rs)
skipped m [] k rs h = ap (λ b. option_map (λ (k : Keyed). k.unit) (cond b (Some k) (find (λ (k : Keyed). bytes_eq m k.name) rs))) h
skipped m (j ∷ js) k rs h = go (bytes_eq m j.name) (skipped m js k rs h)
  where
    go : (b : Bool) → described_of m (js ++ k ∷ rs) ≡ described_of m (js ++ rs)
        → option_map (λ (k : Keyed). k.unit) (cond b (Some j) (find (λ (k : Keyed). bytes_eq m k.name) (js ++ k ∷ rs)))
        ≡ option_map (λ (k : Keyed). k.unit) (cond b (Some j) (find (λ (k : Keyed). bytes_eq m k.name) (js ++ rs)))
    go true e = refl
    go false e = e

hidden : (m : Name) (js : List Keyed) (k : Keyed) (rs : List Keyed) → is_among k.name (names_of js) ≡ true → described_of m (js ++ k ∷ rs) ≡ described_of m (js ++ rs)
hidden m [] k rs h = cc
hidden m (j ∷ js) k rs h = go (bytes_eq m j.name) refl (bytes_eq k.name j.name) refl h (hidden m js k rs)
  where
    go : (b : Bool) → bytes_eq m j.name ≡ b → (c : Bool) → bytes_eq k.name j.name ≡ c → (c || is_among k.name (names_of js)) ≡ true
        → (is_among k.name (names_of js) ≡ true → described_of m (js ++ k ∷ rs) ≡ described_of m (js ++ rs))
        → option_map (λ (k : Keyed). k.unit) (cond b (Some j) (find (λ (k : Keyed). bytes_eq m k.name) (js ++ k ∷ rs)))
        ≡ option_map (λ (k : Keyed). k.unit) (cond b (Some j) (find (λ (k : Keyed). bytes_eq m k.name) (js ++ rs)))
    go true e c f h more = refl
    go false e true f h more = skipped m js k rs (ap (bytes_eq m) ((bytes_eq-Decides k.name j.name).0 f) ∙ e)
    go false e false f h more = more h

-- ---- unit by unit

-- what is gathered of the units before the rest
pub record Outlined (ds : List DesignUnit) (o : OutlineView) (rest : List DesignUnit) : Type 0 where
  pub before : List DesignUnit
  pub units : before ++ rest ≡ ds
  pub entities : (n : Name) → is_among n o.entities ≡ is_among n (entity_names before)
  pub seen : (n : Name) → described_of n (o.architectures ++ map keyed (placed_behind (entity_names before) rest)) ≡ described_of n (map keyed (placed_behind [] ds))

pub all_outlined : (ds : List DesignUnit) (o : OutlineView) → Outlined ds o [] → (n : Name) → described_of n o.architectures ≡ described_of n (map keyed (placed_architectures ds))
all_outlined ds o x n = ap (described_of n) (sym (append-nil o.architectures)) ∙ x.seen n ∙ ap (λ l. described_of n (map keyed l)) (sym (all_placed ds))

pub all_named : (ds : List DesignUnit) (o : OutlineView) → Outlined ds o [] → (n : Name) → is_among n o.entities ≡ is_among n (entity_names ds)
all_named ds o x n = x.entities n ∙ ap (λ l. is_among n (entity_names l)) (sym (append-nil x.before) ∙ x.units)

module _ (ds : List DesignUnit) (o : OutlineView) (items : List ContextItem) (rest : List DesignUnit) where
  abbrev of_entity : t.Entity → DesignUnit
  of_entity e = record { context = items; unit = t.LibraryUnit.entity e }

  abbrev of_architecture : t.Architecture → DesignUnit
  of_architecture a = record { context = items; unit = t.architecture a }

  -- ---- what is gathered behind it

  -- an entity, of a name that is among those gathered from here on
  entity_more : (e : t.Entity) (ns : List Name) → Outlined ds o (of_entity e ∷ rest)
      → ((n : Name) → is_among n ns ≡ is_among n (o.entities ++ e.name.text ∷ [])) → Outlined ds (record o { entities = ns }) rest
  entity_more e ns x same = record {
    before = x.before ++ of_entity e ∷ [];
    units = append_assoc x.before (of_entity e ∷ []) rest ∙ x.units;
    entities = λ n. same n ∙ among-append n o.entities (e.name.text ∷ []) ∙ ap (λ b. b || is_among n (e.name.text ∷ [])) (x.entities n)
        ∙ sym (among-append n (entity_names x.before) (e.name.text ∷ [])) ∙ ap (is_among n) (sym (names-append x.before (of_entity e ∷ [])));
    seen = λ n. ap (λ l. described_of n (o.architectures ++ map keyed (placed_behind l rest))) (names-append x.before (of_entity e ∷ [])) ∙ x.seen n;
  }

  -- an architecture, where those that are seen stay the same
  architecture_more : (a : t.Architecture) (ks : List Keyed) (x : Outlined ds o (of_architecture a ∷ rest))
      → ((n : Name) → described_of n (ks ++ map keyed (placed_behind (entity_names x.before) rest))
      ≡ described_of n (o.architectures ++ map keyed (placed_behind (entity_names x.before) (of_architecture a ∷ rest))))
      → Outlined ds (record o { architectures = ks }) rest
  architecture_more a ks x same = record {
    before = x.before ++ of_architecture a ∷ [];
    units = append_assoc x.before (of_architecture a ∷ []) rest ∙ x.units;
    entities = λ n. x.entities n ∙ ap (is_among n) (sym (none x.before));
    seen = λ n. ap (λ l. described_of n (ks ++ map keyed (placed_behind l rest))) (none x.before) ∙ same n ∙ x.seen n;
  }
    where
      none : (before : List DesignUnit) → entity_names (before ++ of_architecture a ∷ []) ≡ entity_names before
      none before = names-append before (of_architecture a ∷ []) ∙ append-nil (entity_names before)

  -- what is placed where its entity stands before it, or not
  placed_if : (a : t.Architecture) (x : Outlined ds o (of_architecture a ∷ rest)) (b : Bool) → is_among a.entity.text o.entities ≡ b
      → placed_behind (entity_names x.before) (of_architecture a ∷ rest) ≡ (if b then (items, a) ∷ [] else []) ++ placed_behind (entity_names x.before) rest
  placed_if a x b h =
      ap (λ c. (if c && true then (items, a) ∷ [] else []) ++ placed_behind (entity_names x.before ++ []) rest) (sym (x.entities a.entity.text) ∙ h)
      ∙ ap (λ ns. (if b && true then (items, a) ∷ [] else []) ++ placed_behind ns rest) (append-nil (entity_names x.before))
      ∙ ap (λ c. (if c then (items, a) ∷ [] else []) ++ placed_behind (entity_names x.before) rest) (and_true b)
    where
      and_true : (b : Bool) → (b && true) ≡ b
      and_true true = refl
      and_true false = refl

  entity_gathered : (e : t.Entity) (p : OutlineView) → Outlined ds o (of_entity e ∷ rest) → with_unit o (of_entity e) ≡ Some p → Outlined ds p rest
  entity_gathered e p x h =
      let c = comes (one_name o.entities e.name.text) (λ ns. let p : Option OutlineView = Some (record o { entities = ns }) in p) p h in
      along (record o { entities = c.value }) p (some_is (record o { entities = c.value }) p c.rest)
      (entity_more e c.value x (λ n. ap (is_among n) (then_is (not (is_among e.name.text o.entities)) (o.entities ++ e.name.text ∷ []) c.value c.is)))
    where
      along : (q p : OutlineView) → q ≡ p → Outlined ds q rest → Outlined ds p rest
      along q p e x = let P : OutlineView → Type 0 = λ v. Outlined ds v rest in subst P e x

  entity_past : (e : t.Entity) → Outlined ds o (of_entity e ∷ rest) → with_unit o (of_entity e) ≡ None → Outlined ds o rest
  entity_past e x h = entity_more e o.entities x (λ n. same n (bytes_eq n e.name.text) refl)
    where
      there : (b : Bool) → (then_some (not b) (o.entities ++ e.name.text ∷ []) >>= λ ns. let p : Option OutlineView = Some (record o { entities = ns }) in p) ≡ None → b ≡ true
      there true h = refl
      there false h = cc

      or_same : (b c : Bool) → (c ≡ true → b ≡ true) → b ≡ (b || (c || false))
      or_same true c h = refl
      or_same false true h = h refl
      or_same false false h = refl

      same : (n : Name) (b : Bool) → bytes_eq n e.name.text ≡ b → is_among n o.entities ≡ is_among n (o.entities ++ e.name.text ∷ [])
      same n b q =
          or_same (is_among n o.entities) (bytes_eq n e.name.text)
          (λ r. ap (λ m. is_among m o.entities) ((bytes_eq-Decides n e.name.text).0 r) ∙ there (is_among e.name.text o.entities) h)
          ∙ sym (among-append n o.entities (e.name.text ∷ []))

  architecture_gathered : (a : t.Architecture) (p : OutlineView) → Outlined ds o (of_architecture a ∷ rest) → with_unit o (of_architecture a) ≡ Some p → Outlined ds p rest
  architecture_gathered a p x h =
      let c = kept (is_among a.entity.text o.entities) (one_described o.architectures (items, a) >>= λ l. let p : Option OutlineView = Some (record o { architectures = l }) in p) p h in
      let d = comes (one_described o.architectures (items, a)) (λ l. let p : Option OutlineView = Some (record o { architectures = l }) in p) p c.1 in
      let is : d.value ≡ o.architectures ++ keyed (items, a) ∷ [] =
      then_is (not (is_among a.entity.text (names_of o.architectures))) (o.architectures ++ keyed (items, a) ∷ []) d.value d.is in
      along (record o { architectures = d.value }) p (some_is (record o { architectures = d.value }) p d.rest)
      (architecture_more a d.value x
      (λ n. ap (λ l. described_of n (l ++ map keyed (placed_behind (entity_names x.before) rest))) is
      ∙ ap (described_of n) (append_assoc o.architectures (keyed (items, a) ∷ []) (map keyed (placed_behind (entity_names x.before) rest)))
      ∙ ap (λ l. described_of n (o.architectures ++ map keyed l)) (sym (placed_if a x true c.0))))
    where
      along : (q p : OutlineView) → q ≡ p → Outlined ds q rest → Outlined ds p rest
      along q p e x = let P : OutlineView → Type 0 = λ v. Outlined ds v rest in subst P e x

  architecture_past : (a : t.Architecture) → Outlined ds o (of_architecture a ∷ rest) → with_unit o (of_architecture a) ≡ None → Outlined ds o rest
  architecture_past a x h =
      architecture_more a o.architectures x
      (λ n. by n (is_among a.entity.text o.entities) refl h)
    where
      twice_there : (b : Bool) → (then_some (not b) (o.architectures ++ keyed (items, a) ∷ []) >>= λ l. let p : Option OutlineView = Some (record o { architectures = l }) in p) ≡ None → b ≡ true
      twice_there true h = refl
      twice_there false h = cc

      by : (n : Name) (b : Bool) → is_among a.entity.text o.entities ≡ b
          → (met b >> (one_described o.architectures (items, a) >>= λ l. let p : Option OutlineView = Some (record o { architectures = l }) in p)) ≡ None
          → described_of n (o.architectures ++ map keyed (placed_behind (entity_names x.before) rest))
          ≡ described_of n (o.architectures ++ map keyed (placed_behind (entity_names x.before) (of_architecture a ∷ rest)))
      by n true e h =
          sym (hidden n o.architectures (keyed (items, a)) (map keyed (placed_behind (entity_names x.before) rest)) (twice_there (is_among a.entity.text (names_of o.architectures)) h))
          ∙ ap (λ l. described_of n (o.architectures ++ map keyed l)) (sym (placed_if a x true e))
      by n false e h = ap (λ l. described_of n (o.architectures ++ map keyed l)) (sym (placed_if a x false e))

  -- ---- the same of any unit

  pub unit_gathered : (y : LibraryUnit) (p : OutlineView) → Outlined ds o (record { context = items; unit = y } ∷ rest) → with_unit o (record { context = items; unit = y }) ≡ Some p
      → Outlined ds p rest
  unit_gathered (t.LibraryUnit.entity e) p x h = entity_gathered e p x h
  unit_gathered (t.architecture a) p x h = architecture_gathered a p x h

  pub unit_past : (y : LibraryUnit) → Outlined ds o (record { context = items; unit = y } ∷ rest) → with_unit o (record { context = items; unit = y }) ≡ None → Outlined ds o rest
  unit_past (t.LibraryUnit.entity e) x h = entity_past e x h
  unit_past (t.architecture a) x h = architecture_past a x h
