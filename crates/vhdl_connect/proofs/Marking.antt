-- Uses of elements, as more of them are marked.
use Rattle.std.proofs.Common.{◌≡◌, ℕ, zero, suc, ◌+◌, ◌<◌, ◌≤◌, ◌⊎◌, inl, inr, Bool, true, false, ◌==◌, cond, List, [], ◌∷◌, ◌++◌, length, get_or, set, take, map, Option, Some, None, Vec, Global, Result, Ok, Err, refl, sym, ap, ◌∙◌, subst, arith, eq-eqb, ne_eqb, get_or-set_same, get_or-set_other, length-set}
use Rattle.std.specs.Prelude.{count_by, slice_index_or, ◌||◌, ◌↔◌, Contains, flat_map, OnOk}
use Rattle.std.proofs.lemmas.Bool.{cases_eq}
use Rattle.std.proofs.lemmas.List.{append_assoc, append-nil, take_more, get_or_default, flat_map_more}
use Rattle.std.proofs.lemmas.List.Sums.{sum_by-append}
use Rattle.std.proofs.lemmas.List.Folds.{list_any-append}
use Rattle.std.proofs.lemmas.List.{map-append}
use Rattle.rtl_model.specs.bodies.Reads.{reads}
use Rattle.rtl_body_facts.proofs.Members.{same_members}
use Rattle.vhdl_expand_rules.specs.Prefixes.{is_among}
use Rattle.vhdl_expand_rules.specs.Tree as tree
use Rattle.vhdl_expand_rules.specs.Tree.{Role, input, output, internal, Object}
use Rattle.vhdl_elab_rules.specs.Numbering.{actuals_of, process_reads, driven_in, read_in}
use Rattle.vhdl_expand_tree.specs.declared.tree.Object as t
use Rattle.vhdl_expand_tree.specs.declared.tree.Process as q
use Rattle.vhdl_expand_tree.specs.declared.tree.InstancePart.{InstancePart}
use Rattle.vhdl_expand_tree.specs.declared.tree.InstancePart.TheVariants as p
use Rattle.vhdl_expand_tree.proofs.Parts.{view_instance}
use Rattle.vhdl_expand_tree.specs.Views.{object_view, process_view, part_before, parts_of}
use Rattle.vhdl_connect_processes.proofs.Lists.{take_whole}
use Rattle.vhdl_connect.specs.declared.uses.Sources.{Sources}
use Rattle.vhdl_connect.specs.declared.uses.Sources.TheVariants.{Zero}
use Rattle.vhdl_connect.specs.declared.uses.Use.{Use}
use Rattle.vhdl_connect.specs.Uses.{sources_of, one_more, use_of, AreUses, listed_by}

more_sources : (n : ℕ) → one_more (sources_of n) ≡ sources_of (n + 1)
more_sources (suc (suc n)) = ap sources_of (let e : suc (suc (suc n)) ≡ suc (suc n) + 1 = omega arith in e)
more_sources _ = refl

count-more : (ds : List ℕ) (d e : ℕ) → count_by (λ x. x == e) (ds ++ d ∷ []) ≡ count_by (λ x. x == e) ds + cond (d == e) 1 0
count-more ds d e = sum_by-append (λ x. cond (x == e) 1 0) ds (d ∷ []) ∙ ap (λ n. count_by (λ x. x == e) ds + n) (let z : 0 + cond (d == e) 1 0 ≡ cond (d == e) 1 0 = omega arith in z)

among-more : (ds : List ℕ) (d e : ℕ) → is_among (ds ++ d ∷ []) e ≡ (is_among ds e || (d == e))
among-more ds d e = list_any-append (λ x. x == e) ds (d ∷ []) ∙ ap (λ b. is_among ds e || b) (or-false (d == e))
  where
    or-false : (b : Bool) → (b || false) ≡ b
    or-false true = refl
    or-false false = refl

or-true : (b : Bool) → (b || true) ≡ true
or-true true = refl
or-true false = refl

or-none : (b : Bool) → (b || false) ≡ b
or-none true = refl
or-none false = refl

module _ (driven read : List ℕ) (us : List Use) (k : ℕ) where
  -- an element that is there gets one more source
  driven-there : (u : Use) → k < length us → u ≡ get_or us k u → AreUses driven read us
      → AreUses (driven ++ k ∷ []) read (set us k (record u { sources = one_more u.sources }))
  driven-there u l is h = record { each = λ e d m. go e d m (cases_eq k e) }
    where
      here : u ≡ use_of driven read k
      here = is ∙ h.each k u l

      go : (e : ℕ) (d : Use) → e < length (set us k (record u { sources = one_more u.sources })) → (k ≡ e) ⊎ (k ≡ e → ⊥)
          → slice_index_or (set us k (record u { sources = one_more u.sources })) e d ≡ use_of (driven ++ k ∷ []) read e
      go e d m (inl same) =
          subst (λ j. slice_index_or (set us k (record u { sources = one_more u.sources })) j d ≡ use_of (driven ++ k ∷ []) read j) same
          (get_or-set_same us k (record u { sources = one_more u.sources }) d l
          ∙ ap (λ (v : Use). record v { sources = one_more v.sources }) here
          ∙ ap (λ s. record (use_of driven read k) { sources = s })
          (more_sources (count_by (λ x. x == k) driven)
          ∙ ap sources_of (ap (λ b. count_by (λ x. x == k) driven + cond b 1 0) (sym (eq-eqb k k refl)) ∙ sym (count-more driven k k))))
      go e d m (inr other) =
          get_or-set_other us k e _ d (λ z. other (sym z)) ∙ h.each e d (omega (arith, m, length-set us k (record u { sources = one_more u.sources })))
          ∙ ap (λ n. record (use_of driven read e) { sources = sources_of n })
          ((let z : count_by (λ x. x == e) driven ≡ count_by (λ x. x == e) driven + 0 = omega arith in z)
          ∙ ap (λ b. count_by (λ x. x == e) driven + cond b 1 0) (sym (ne_eqb k e other)) ∙ sym (count-more driven k e))

  pub driven_there : (u d : Use) (s : Sources) → k < length us → u ≡ get_or us k d → s ≡ one_more u.sources → AreUses driven read us
      → AreUses (driven ++ k ∷ []) read (set us k (record { sources = s; is_read = u.is_read }))
  driven_there u d s l is e h =
      subst (λ r. AreUses (driven ++ k ∷ []) read (set us k (record u { sources = r }))) (sym e) (driven-there u l (is ∙ get_or_default us k d u l) h)

  -- one that is not there changes nothing
  pub driven_behind : length us ≤ k → AreUses driven read us → AreUses (driven ++ k ∷ []) read us
  driven_behind l h = record {
    each = λ e d m.
        h.each e d m
        ∙ ap (λ n. record (use_of driven read e) { sources = sources_of n })
        ((let z : count_by (λ x. x == e) driven ≡ count_by (λ x. x == e) driven + 0 = omega arith in z)
        ∙ ap (λ b. count_by (λ x. x == e) driven + cond b 1 0) (sym (ne_eqb k e (λ z. absurd (omega (arith, z, l, m))))) ∙ sym (count-more driven k e));
  }

  read-there : (u : Use) → k < length us → u ≡ get_or us k u → AreUses driven read us
      → AreUses driven (read ++ k ∷ []) (set us k (record u { is_read = true }))
  read-there u l is h = record { each = λ e d m. go e d m (cases_eq k e) }
    where
      here : u ≡ use_of driven read k
      here = is ∙ h.each k u l

      go : (e : ℕ) (d : Use) → e < length (set us k (record u { is_read = true })) → (k ≡ e) ⊎ (k ≡ e → ⊥)
          → slice_index_or (set us k (record u { is_read = true })) e d ≡ use_of driven (read ++ k ∷ []) e
      go e d m (inl same) =
          subst (λ j. slice_index_or (set us k (record u { is_read = true })) j d ≡ use_of driven (read ++ k ∷ []) j) same
          (get_or-set_same us k (record u { is_read = true }) d l
          ∙ ap (λ (v : Use). record v { is_read = true }) here
          ∙ ap (λ b. record (use_of driven read k) { is_read = b })
          (sym (or-true (is_among read k)) ∙ ap (λ b. is_among read k || b) (sym (eq-eqb k k refl)) ∙ sym (among-more read k k)))
      go e d m (inr other) =
          get_or-set_other us k e _ d (λ z. other (sym z)) ∙ h.each e d (omega (arith, m, length-set us k (record u { is_read = true })))
          ∙ ap (λ b. record (use_of driven read e) { is_read = b })
          (sym (or-none (is_among read e)) ∙ ap (λ b. is_among read e || b) (sym (ne_eqb k e other)) ∙ sym (among-more read k e))

  pub read_there : (u d : Use) → k < length us → u ≡ get_or us k d → AreUses driven read us → AreUses driven (read ++ k ∷ []) (set us k (record u { is_read = true }))
  read_there u d l is h = read-there u l (is ∙ get_or_default us k d u l) h

  pub read_behind : length us ≤ k → AreUses driven read us → AreUses driven (read ++ k ∷ []) us
  read_behind l h = record {
    each = λ e d m.
        h.each e d m
        ∙ ap (λ b. record (use_of driven read e) { is_read = b })
        (sym (or-none (is_among read e)) ∙ ap (λ b. is_among read e || b) (sym (ne_eqb k e (λ z. absurd (omega (arith, z, l, m))))) ∙ sym (among-more read k e));
  }

-- what is driven and read may be said in other words
pub uses_same : (driven read ds rs : List ℕ) (us : List Use) → driven ≡ ds → ((n : ℕ) → is_among read n ≡ is_among rs n) → AreUses driven read us → AreUses ds rs us
uses_same driven read ds rs us e f h = record { each = λ k d l. h.each k d l ∙ (λ i. record { sources = sources_of (count_by (λ x. x == k) (e i)); is_read = f k i }) }

-- ---- one after another

pub driven_next : (driven read xs : List ℕ) (i x d : ℕ) (us : List Use) → i < length xs → x ≡ get_or xs i d → AreUses ((driven ++ take i xs) ++ x ∷ []) read us
    → AreUses (driven ++ take (i + 1) xs) read us
driven_next driven read xs i x d us l is h =
    uses_same ((driven ++ take i xs) ++ x ∷ []) read (driven ++ take (i + 1) xs) read us
    (append_assoc driven (take i xs) (x ∷ []) ∙ ap (λ ys. driven ++ ys) (ap (λ y. take i xs ++ y ∷ []) is ∙ sym (take_more xs i d l))) (λ n. refl) h

pub read_next : (driven read xs : List ℕ) (i x d : ℕ) (us : List Use) → i < length xs → x ≡ get_or xs i d → AreUses driven ((read ++ take i xs) ++ x ∷ []) us
    → AreUses driven (read ++ take (i + 1) xs) us
read_next driven read xs i x d us l is h =
    uses_same driven ((read ++ take i xs) ++ x ∷ []) driven (read ++ take (i + 1) xs) us refl
    (λ n. ap (λ ns. is_among ns n) (append_assoc read (take i xs) (x ∷ []) ∙ ap (λ ys. read ++ ys) (ap (λ y. take i xs ++ y ∷ []) is ∙ sym (take_more xs i d l)))) h

pub uses_whole : (driven read ds rs : List ℕ) (us : List Use) → driven ≡ ds → read ≡ rs → AreUses driven read us → AreUses ds rs us
uses_whole driven read ds rs us e f h = uses_same driven read ds rs us e (λ n. ap (λ ns. is_among ns n) f) h

-- ---- ports, one after another

actuals-append : (role : Role) (os ps : List Object) → actuals_of role (os ++ ps) ≡ actuals_of role os ++ actuals_of role ps
actuals-append role [] ps = refl
actuals-append role (o ∷ os) ps =
    let one = actuals_of role (o ∷ []) in
    cons role o (os ++ ps) ∙ ap (λ es. one ++ es) (actuals-append role os ps) ∙ sym (append_assoc one (actuals_of role os) (actuals_of role ps))
    ∙ ap (λ es. es ++ actuals_of role ps) (sym (cons role o os))
  where
    cons : (role : Role) (o : Object) (os : List Object) → actuals_of role (o ∷ os) ≡ actuals_of role (o ∷ []) ++ actuals_of role os
    cons role o os = ap (λ es. es ++ actuals_of role os) (sym (append-nil _))

module _ (objects : List t.Object) (i : ℕ) (x : t.Object) (l : i < length objects) (is : x ≡ get_or objects i x) where
  actuals-more : (role : Role) → actuals_of role (map object_view (take (i + 1) objects)) ≡ actuals_of role (map object_view (take i objects)) ++ actuals_of role (map object_view (x ∷ []))
  actuals-more role =
      ap (λ os. actuals_of role (map object_view os)) (take_more objects i x l ∙ ap (λ y. take i objects ++ y ∷ []) (sym is))
      ∙ ap (actuals_of role) (map-append object_view (take i objects) (x ∷ []))
      ∙ actuals-append role (map object_view (take i objects)) (map object_view (x ∷ []))

  pub ports_next : (driven read : List ℕ) (us : List Use)
      → AreUses ((driven ++ actuals_of output (map object_view (take i objects))) ++ actuals_of output (map object_view (x ∷ [])))
      ((read ++ actuals_of input (map object_view (take i objects))) ++ actuals_of input (map object_view (x ∷ []))) us
      → AreUses (driven ++ actuals_of output (map object_view (take (i + 1) objects))) (read ++ actuals_of input (map object_view (take (i + 1) objects))) us
  ports_next driven read us h =
      uses_whole _ _ _ _ us
      (append_assoc driven (actuals_of output (map object_view (take i objects))) (actuals_of output (map object_view (x ∷ []))) ∙ ap (λ es. driven ++ es) (sym (actuals-more output)))
      (append_assoc read (actuals_of input (map object_view (take i objects))) (actuals_of input (map object_view (x ∷ []))) ∙ ap (λ es. read ++ es) (sym (actuals-more input))) h

-- ---- processes

reads_listed : (x : tree.Process) → process_reads x ≡ reads x.body ++ listed_by x.sensitivity
reads_listed x = go x.sensitivity
  where
    go : (s : tree.Sensitivity) → process_reads (record x { sensitivity = s }) ≡ reads x.body ++ listed_by s
    go (tree.listed es) = refl
    go (tree.every es) = refl
    go tree.as_read = refl

pub process_marked : (x : tree.Process) (found : List ℕ) → ((n : ℕ) → Contains found n ↔ Contains (reads x.body) n) → (driven read : List ℕ) (us : List Use)
    → AreUses (driven ++ x.drives) ((read ++ found) ++ listed_by x.sensitivity) us → AreUses (driven ++ x.drives) (read ++ process_reads x) us
process_marked x found same driven read us h = uses_same (driven ++ x.drives) ((read ++ found) ++ listed_by x.sensitivity) (driven ++ x.drives) (read ++ process_reads x) us refl among h
  where
    append3 : (xs ys zs : List ℕ) (n : ℕ) → is_among ((xs ++ ys) ++ zs) n ≡ (is_among xs n || (is_among ys n || is_among zs n))
    append3 xs ys zs n =
        ap (λ ns. is_among ns n) (append_assoc xs ys zs) ∙ list_any-append (λ m. m == n) xs (ys ++ zs) ∙ ap (λ b. is_among xs n || b) (list_any-append (λ m. m == n) ys zs)

    among : (n : ℕ) → is_among ((read ++ found) ++ listed_by x.sensitivity) n ≡ is_among (read ++ process_reads x) n
    among n =
        append3 read found (listed_by x.sensitivity) n
        ∙ ap (λ b. is_among read n || (b || is_among (listed_by x.sensitivity) n)) (same_members found (reads x.body) n ((same n).0) ((same n).1))
        ∙ sym (append3 read (reads x.body) (listed_by x.sensitivity) n)
        ∙ ap (λ ns. is_among ns n) (append_assoc read (reads x.body) (listed_by x.sensitivity) ∙ ap (λ ns. read ++ ns) (sym (reads_listed x)))

-- ---- one port

module _ (o : Object) (driven read : List ℕ) (us : List Use) where
  abbrev PortMarked : Type 0
  PortMarked = AreUses (driven ++ actuals_of output (o ∷ [])) (read ++ actuals_of input (o ∷ [])) us

  by-ports : (ds rs : List ℕ) → actuals_of output (o ∷ []) ≡ ds → actuals_of input (o ∷ []) ≡ rs → AreUses (driven ++ ds) (read ++ rs) us → PortMarked
  by-ports ds rs e f h = uses_whole (driven ++ ds) (read ++ rs) _ _ us (ap (λ es. driven ++ es) (sym e)) (ap (λ es. read ++ es) (sym f)) h

  plain : AreUses driven read us → AreUses (driven ++ []) (read ++ []) us
  plain h = uses_whole driven read (driven ++ []) (read ++ []) us (sym (append-nil driven)) (sym (append-nil read)) h

  abbrev with-both : Role → Option (List ℕ) → Object
  with-both r a = record o { role = r; actual = a }

  same-both : (role r : Role) (a : Option (List ℕ)) → o.role ≡ r → o.actual ≡ a → actuals_of role (o ∷ []) ≡ actuals_of role (with-both r a ∷ [])
  same-both role r a h k = λ i. actuals_of role (with-both (h i) (k i) ∷ [])

  pub input_marked : (es : List ℕ) → o.role ≡ input → o.actual ≡ Some es → AreUses driven (read ++ es) us → PortMarked
  input_marked es h k m =
      by-ports [] es (same-both output input (Some es) h k) (same-both input input (Some es) h k ∙ append-nil es)
      (uses_whole driven (read ++ es) (driven ++ []) (read ++ es) us (sym (append-nil driven)) refl m)

  pub output_marked : (es : List ℕ) → o.role ≡ output → o.actual ≡ Some es → AreUses (driven ++ es) read us → PortMarked
  output_marked es h k m =
      by-ports es [] (same-both output output (Some es) h k ∙ append-nil es) (same-both input output (Some es) h k)
      (uses_whole (driven ++ es) read (driven ++ es) (read ++ []) us refl (sym (append-nil read)) m)

  pub internal_marked : (es : List ℕ) → o.role ≡ internal → o.actual ≡ Some es → AreUses driven read us → PortMarked
  internal_marked es h k m = by-ports [] [] (same-both output internal (Some es) h k) (same-both input internal (Some es) h k) (plain m)

  pub open_marked : o.actual ≡ None → AreUses driven read us → PortMarked
  open_marked k m = by-ports [] [] (same-both output o.role None refl k ∙ none output o.role) (same-both input o.role None refl k ∙ none input o.role) (plain m)
    where
      none : (role r : Role) → actuals_of role (with-both r None ∷ []) ≡ []
      none input input = refl
      none input output = refl
      none input internal = refl
      none output input = refl
      none output output = refl
      none output internal = refl
      none internal input = refl
      none internal output = refl
      none internal internal = refl

-- ---- parts, one after another

abbrev pub driven_by : InstancePart → List ℕ
driven_by x = driven_in (part_before tree.no_parts x)

abbrev pub read_by : InstancePart → List ℕ
read_by x = read_in (part_before tree.no_parts x)

driven-before : (x : InstancePart) (rest : tree.Parts) → driven_in (part_before rest x) ≡ driven_by x ++ driven_in rest
driven-before (p.Process q) rest = ap (λ es. es ++ driven_in rest) (sym (append-nil (process_view q).drives))
driven-before (p.Instance' label objects turns shape parts) rest = ap (λ es. es ++ driven_in rest) (sym (append-nil (actuals_of output (map object_view objects.items))))

read-before : (x : InstancePart) (rest : tree.Parts) → read_in (part_before rest x) ≡ read_by x ++ read_in rest
read-before (p.Process q) rest = ap (λ es. es ++ read_in rest) (sym (append-nil (process_reads (process_view q))))
read-before (p.Instance' label objects turns shape parts) rest = ap (λ es. es ++ read_in rest) (sym (append-nil (actuals_of input (map object_view objects.items))))

pub all_driven : (xs : List InstancePart) → flat_map driven_by xs ≡ driven_in (parts_of xs)
all_driven [] = refl
all_driven (x ∷ xs) = ap (λ es. driven_by x ++ es) (all_driven xs) ∙ sym (driven-before x (parts_of xs))

pub all_read : (xs : List InstancePart) → flat_map read_by xs ≡ read_in (parts_of xs)
all_read [] = refl
all_read (x ∷ xs) = ap (λ es. read_by x ++ es) (all_read xs) ∙ sym (read-before x (parts_of xs))

module _ (xs : List InstancePart) (i : ℕ) (x : InstancePart) (l : i < length xs) (is : x ≡ get_or xs i x) where
  flat-more : (f : InstancePart → List ℕ) → flat_map f (take (i + 1) xs) ≡ flat_map f (take i xs) ++ f x
  flat-more f = ap (flat_map f) (take_more xs i x l ∙ ap (λ y. take i xs ++ y ∷ []) (sym is)) ∙ sym (flat_map_more f [] (take i xs) x)

  pub parts_next : (us : List Use) → AreUses (flat_map driven_by (take i xs) ++ driven_by x) (flat_map read_by (take i xs) ++ read_by x) us
      → AreUses (flat_map driven_by (take (i + 1) xs)) (flat_map read_by (take (i + 1) xs)) us
  parts_next us h = uses_whole _ _ _ _ us (sym (flat-more driven_by)) (sym (flat-more read_by)) h

pub parts_all : (xs : List InstancePart) (i : ℕ) (us : List Use) → length xs ≤ i → AreUses (flat_map driven_by (take i xs)) (flat_map read_by (take i xs)) us
    → AreUses (driven_in (parts_of xs)) (read_in (parts_of xs)) us
parts_all xs i us l h =
    let e = take_whole xs i l in
    uses_whole _ _ _ _ us (ap (flat_map driven_by) e ∙ all_driven xs) (ap (flat_map read_by) e ∙ all_read xs) h

process_part : (x : InstancePart) (q : q.Process) → x ≡ p.Process q → (driven read : List ℕ) (us : List Use)
    → AreUses (driven ++ q.drives.items) (read ++ process_reads (process_view q)) us → AreUses (driven ++ driven_by x) (read ++ read_by x) us
process_part x q e driven read us h =
    uses_whole _ _ _ _ us
    (ap (λ es. driven ++ es) (sym (append-nil q.drives.items) ∙ ap driven_by (sym e)))
    (ap (λ es. read ++ es) (sym (append-nil (process_reads (process_view q))) ∙ ap read_by (sym e))) h

pub instance_part : (x : InstancePart) (label : Vec ℕ Global) (objects : Vec t.Object Global) (turns : ℕ) (parts : Vec InstancePart Global)
    → x ≡ p.Instance label (record { objects = objects; turns = turns; parts = parts }) → (driven read : List ℕ) (us : List Use)
    → AreUses (driven ++ actuals_of output (map object_view objects.items)) (read ++ actuals_of input (map object_view objects.items)) us
    → AreUses (driven ++ driven_by x) (read ++ read_by x) us
instance_part x label objects turns parts e driven read us h =
    let v = view_instance tree.no_parts label objects turns parts in
    uses_whole _ _ _ _ us
    (ap (λ es. driven ++ es) (sym (append-nil (actuals_of output (map object_view objects.items))) ∙ ap driven_in (sym v) ∙ ap driven_by (sym e)))
    (ap (λ es. read ++ es) (sym (append-nil (actuals_of input (map object_view objects.items))) ∙ ap read_in (sym v) ∙ ap read_by (sym e))) h

-- ---- none

abbrev unused : Use
unused = record { sources = Zero; is_read = false }

pub unused_more : (us : List Use) → AreUses [] [] us → AreUses [] [] (us ++ record { sources = Zero; is_read = false } ∷ [])
unused_more us h = record { each = go us h.each }
  where
    go : (xs : List Use) → ((e : ℕ) (d : Use) → e < length xs → slice_index_or xs e d ≡ unused) → (e : ℕ) (d : Use) → e < length (xs ++ unused ∷ []) → slice_index_or (xs ++ unused ∷ []) e d ≡ unused
    go [] k zero d l = refl
    go [] k (suc e) d l = absurd (omega (arith, l))
    go (x ∷ xs) k zero d l = k 0 d (omega arith)
    go (x ∷ xs) k (suc e) d l = go xs (λ j c m. k (suc j) c (omega (arith, m))) e d (omega (arith, l))

pub process_if : {A E : Type 0} (r : Result A E) (x : InstancePart) (q : q.Process) (old new : List Use) → x ≡ p.Process q
    → OnOk r ((driven read : List ℕ) → AreUses driven read old → AreUses (driven ++ q.drives.items) (read ++ process_reads (process_view q)) new)
    → OnOk r ((driven read : List ℕ) → AreUses driven read old → AreUses (driven ++ driven_by x) (read ++ read_by x) new)
process_if (Ok y) x q old new e h = λ driven read k. process_part x q e driven read new (h driven read k)
process_if (Err z) x q old new e h = tt
