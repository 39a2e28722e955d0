-- What instances see of an entity whose names are distinct.
use Rattle.std.proofs.Common.{◌≡◌, ◌⊎◌, inl, inr, Bool, true, false, not, List, [], ◌∷◌, ◌++◌, map, Option, Some, None, refl, ap, sym, ◌∙◌, append_assoc, append-nil}
use Rattle.std.specs.Prelude.{◌&&◌, ◌||◌, option_map, filter_map, bytes_eq}
use Rattle.std.specs.List.{cons_option}
use Rattle.vhdl_names_rules.specs.Rules.{◌>>=◌, then_some}
use Rattle.vhdl_names_rules.specs.Visibility as visibility
use Rattle.vhdl_names_rules.specs.Visibility.{Name, Meaning, DeclaredRange, Declared, is_among, are_distinct}
use Rattle.vhdl_names_rules.specs.Interfaces.{declared_names}
use Rattle.vhdl_names_rules.specs.Instances as rules
use Rattle.vhdl_names_rules.specs.Instances.{Formal, GenericFormal, generic_formal, port_formal}
use Rattle.vhdl_names_rules.proofs.laws.Rules.{both, not_true, neither}
use Rattle.vhdl_names_units.specs.Lists.{in_turn}
use Rattle.vhdl_names_units.specs.Once.{one_name}
use Rattle.vhdl_names_units.proofs.Once.{once}
use Rattle.vhdl_names_instances.specs.Table.{Seen, type_of, kind_of}
use Rattle.vhdl_names_instances.specs.steps.Tables.{with_generic, with_port, with_declared, no_formals}
use Rattle.vhdl_names_instances.specs.declared.actuals.PortType.{PortType}
use Rattle.vhdl_names_instances.specs.declared.generics.GenericKind.{GenericKind}

-- ---- what a declaration is

record IsGeneric (d : Declared) : Type 0 where
  formal : GenericFormal
  is : generic_formal d ≡ Some formal
  own : formal.name ≡ d.name
  turns : (f : Seen) → with_declared f d ≡ with_generic f formal.name (kind_of formal)
  no_port : port_formal d ≡ None

record IsPort (d : Declared) : Type 0 where
  formal : Formal
  is : port_formal d ≡ Some formal
  own : formal.name ≡ d.name
  turns : (f : Seen) → with_declared f d ≡ with_port f formal.name (type_of formal)
  no_generic : generic_formal d ≡ None

record IsNeither (d : Declared) : Type 0 where
  turns : (f : Seen) → with_declared f d ≡ Some f
  no_generic : generic_formal d ≡ None
  no_port : port_formal d ≡ None

abbrev IsEither : Declared → Type 0
IsEither d = IsGeneric d ⊎ (IsPort d ⊎ IsNeither d)

either : (d : Declared) → IsEither d
either d = by d.name d.meaning d.range d.is_global
  where
    by : (n : Name) (m : Meaning) (r : Option DeclaredRange) (g : Bool) → IsEither (record { name = n; meaning = m; range = r; is_global = g })
    by n (visibility.generic k) r g = inl (record { formal = record { name = n; kind = rules.integer }; is = refl; own = refl; turns = λ f. refl; no_port = refl })
    by n (visibility.boolean_generic k) r g = inl (record { formal = record { name = n; kind = rules.boolean }; is = refl; own = refl; turns = λ f. refl; no_port = refl })
    by n (visibility.constant k kind values) r g =
        inl (record { formal = record { name = n; kind = rules.GenericKind.elements kind }; is = refl; own = refl; turns = λ f. refl; no_port = refl })
    by n (visibility.port k mode type) r g = inr (inl (record { formal = record { name = n; mode = mode; type = type }; is = refl; own = refl; turns = λ f. refl; no_generic = refl }))
    by n m r g = inr (inr (record { turns = λ f. refl; no_generic = refl; no_port = refl }))

-- ---- a part of distinct names is distinct

module _ (g : Declared → Option Name) (own : (d : Declared) → (g d ≡ Some d.name) ⊎ (g d ≡ None)) where
  among : (n : Name) (ds : List Declared) → is_among n (declared_names ds) ≡ false → is_among n (filter_map g ds) ≡ false
  among n [] h = refl
  among n (d ∷ ds) h =
      let k = neither (bytes_eq n d.name) (is_among n (declared_names ds)) h in
      go (own d) k.0 (among n ds k.1)
    where
      go : (g d ≡ Some d.name) ⊎ (g d ≡ None) → bytes_eq n d.name ≡ false → is_among n (filter_map g ds) ≡ false → is_among n (filter_map g (d ∷ ds)) ≡ false
      go (inl e) p q = ap (λ o. is_among n (cons_option o (filter_map g ds))) e ∙ ap (λ b. b || is_among n (filter_map g ds)) p ∙ q
      go (inr e) p q = ap (λ o. is_among n (cons_option o (filter_map g ds))) e ∙ q

  part : (ds : List Declared) → are_distinct (declared_names ds) ≡ true → are_distinct (filter_map g ds) ≡ true
  part [] h = refl
  part (d ∷ ds) h =
      let k = both (not (is_among d.name (declared_names ds))) (are_distinct (declared_names ds)) h in
      go (own d) (among d.name ds (not_true (is_among d.name (declared_names ds)) k.0)) (part ds k.1)
    where
      go : (g d ≡ Some d.name) ⊎ (g d ≡ None) → is_among d.name (filter_map g ds) ≡ false → are_distinct (filter_map g ds) ≡ true
          → are_distinct (filter_map g (d ∷ ds)) ≡ true
      go (inl e) p q = ap (λ o. are_distinct (cons_option o (filter_map g ds))) e ∙ ap (λ b. not b && are_distinct (filter_map g ds)) p ∙ q
      go (inr e) p q = ap (λ o. are_distinct (cons_option o (filter_map g ds))) e ∙ q

-- the names of what some declarations are
module _ {F : Type 0} (formal : Declared → Option F) (name : F → Name) where
  abbrev name_if : Declared → Option Name
  name_if d = option_map name (formal d)

  by_name : (ds : List Declared) → map name (filter_map formal ds) ≡ filter_map name_if ds
  by_name [] = refl
  by_name (d ∷ ds) = go (formal d) (by_name ds)
    where
      go : (o : Option F) → map name (filter_map formal ds) ≡ filter_map name_if ds → map name (cons_option o (filter_map formal ds)) ≡ cons_option (option_map name o) (filter_map name_if ds)
      go None h = h
      go (Some f) h = ap (λ ns. name f ∷ ns) h

  distinct_by : ((d : Declared) → (name_if d ≡ Some d.name) ⊎ (name_if d ≡ None)) → (ds : List Declared) → are_distinct (declared_names ds) ≡ true
      → are_distinct (map name (filter_map formal ds)) ≡ true
  distinct_by own ds h = ap are_distinct (by_name ds) ∙ part name_if own ds h

abbrev generic_name : GenericFormal → Name
generic_name f = f.name

abbrev port_name : Formal → Name
port_name f = f.name

own_generic : (d : Declared) → (option_map generic_name (generic_formal d) ≡ Some d.name) ⊎ (option_map generic_name (generic_formal d) ≡ None)
own_generic d = go (either d)
  where
    go : IsEither d → (option_map generic_name (generic_formal d) ≡ Some d.name) ⊎ (option_map generic_name (generic_formal d) ≡ None)
    go (inl x) = inl (ap (option_map generic_name) x.is ∙ ap Some x.own)
    go (inr (inl x)) = inr (ap (option_map generic_name) x.no_generic)
    go (inr (inr x)) = inr (ap (option_map generic_name) x.no_generic)

own_port : (d : Declared) → (option_map port_name (port_formal d) ≡ Some d.name) ⊎ (option_map port_name (port_formal d) ≡ None)
own_port d = go (either d)
  where
    go : IsEither d → (option_map port_name (port_formal d) ≡ Some d.name) ⊎ (option_map port_name (port_formal d) ≡ None)
    go (inl x) = inr (ap (option_map port_name) x.no_port)
    go (inr (inl x)) = inl (ap (option_map port_name) x.is ∙ ap Some x.own)
    go (inr (inr x)) = inr (ap (option_map port_name) x.no_port)

-- ---- declaration by declaration

abbrev put : Seen → List GenericKind → List PortType → Option (List Name) → Option (List Name) → Option Seen
put f ks ts gs ps = gs >>= λ ns. (ps >>= λ ms. Some (record f { generics = ns; generic_kinds = ks; ports = ms; port_types = ts }))

abbrev of_formals : Seen → List GenericFormal → List Formal → Option Seen
of_formals f gs ps =
    put f (f.generic_kinds ++ map kind_of gs) (f.port_types ++ map type_of ps) (in_turn one_name f.generics (map generic_name gs)) (in_turn one_name f.ports (map port_name ps))

abbrev whole : Seen → List Declared → Option Seen
whole f ds = of_formals f (filter_map generic_formal ds) (filter_map port_formal ds)

no_ports : (f : Seen) (ks : List GenericKind) (ts : List PortType) (gs : Option (List Name)) → put f ks ts gs None ≡ None
no_ports f ks ts None = refl
no_ports f ks ts (Some ns) = refl

turned : (f : Seen) (ds : List Declared) → in_turn with_declared f ds ≡ whole f ds
turned f [] = ap (λ ks. Some (record f { generic_kinds = ks })) (sym (append-nil f.generic_kinds)) ∙ ap (λ ts. Some (record f { generic_kinds = f.generic_kinds ++ []; port_types = ts })) (sym (append-nil f.port_types))
turned f (d ∷ ds) = go (either d) (λ g. turned g ds)
  where
    gs : List GenericFormal
    gs = filter_map generic_formal ds

    ps : List Formal
    ps = filter_map port_formal ds

    same : (o : Option GenericFormal) (p : Option Formal) → generic_formal d ≡ o → port_formal d ≡ p → of_formals f (cons_option o gs) (cons_option p ps) ≡ whole f (d ∷ ds)
    same o p e h = ap (λ p. of_formals f (cons_option o gs) (cons_option p ps)) (sym h) ∙ ap (λ o. of_formals f (cons_option o gs) (cons_option (port_formal d) ps)) (sym e)

    of_generic : ((g : Seen) → in_turn with_declared g ds ≡ whole g ds) → (x : GenericFormal) → (with_generic f x.name (kind_of x) >>= λ g. in_turn with_declared g ds) ≡ of_formals f (x ∷ gs) ps
    of_generic more x = new (is_among x.name f.generics)
      where
        new : (b : Bool) → ((then_some (not b) (f.generics ++ x.name ∷ []) >>= λ ns. let g : Option Seen = Some (record f { generics = ns; generic_kinds = f.generic_kinds ++ kind_of x ∷ [] }) in g)
            >>= λ g. in_turn with_declared g ds)
            ≡ put f (f.generic_kinds ++ kind_of x ∷ map kind_of gs) (f.port_types ++ map type_of ps) (then_some (not b) (f.generics ++ x.name ∷ []) >>= λ ns. in_turn one_name ns (map generic_name gs)) (in_turn one_name f.ports (map port_name ps))
        new true = refl
        new false =
            more (record f { generics = f.generics ++ x.name ∷ []; generic_kinds = f.generic_kinds ++ kind_of x ∷ [] })
            ∙ ap (λ ks. put f ks (f.port_types ++ map type_of ps) (in_turn one_name (f.generics ++ x.name ∷ []) (map generic_name gs)) (in_turn one_name f.ports (map port_name ps)))
            (append_assoc f.generic_kinds (kind_of x ∷ []) (map kind_of gs))

    of_port : ((g : Seen) → in_turn with_declared g ds ≡ whole g ds) → (x : Formal) → (with_port f x.name (type_of x) >>= λ g. in_turn with_declared g ds) ≡ of_formals f gs (x ∷ ps)
    of_port more x = new (is_among x.name f.ports)
      where
        new : (b : Bool) → ((then_some (not b) (f.ports ++ x.name ∷ []) >>= λ ns. let g : Option Seen = Some (record f { ports = ns; port_types = f.port_types ++ type_of x ∷ [] }) in g)
            >>= λ g. in_turn with_declared g ds)
            ≡ put f (f.generic_kinds ++ map kind_of gs) (f.port_types ++ type_of x ∷ map type_of ps) (in_turn one_name f.generics (map generic_name gs)) (then_some (not b) (f.ports ++ x.name ∷ []) >>= λ ns. in_turn one_name ns (map port_name ps))
        new true = sym (no_ports f (f.generic_kinds ++ map kind_of gs) (f.port_types ++ type_of x ∷ map type_of ps) (in_turn one_name f.generics (map generic_name gs)))
        new false =
            more (record f { ports = f.ports ++ x.name ∷ []; port_types = f.port_types ++ type_of x ∷ [] })
            ∙ ap (λ ts. put f (f.generic_kinds ++ map kind_of gs) ts (in_turn one_name f.generics (map generic_name gs)) (in_turn one_name (f.ports ++ x.name ∷ []) (map port_name ps)))
            (append_assoc f.port_types (type_of x ∷ []) (map type_of ps))

    go : IsEither d → ((g : Seen) → in_turn with_declared g ds ≡ whole g ds) → in_turn with_declared f (d ∷ ds) ≡ whole f (d ∷ ds)
    go (inl x) more = ap (λ o. o >>= λ g. in_turn with_declared g ds) (x.turns f) ∙ of_generic more x.formal ∙ same (Some x.formal) None x.is x.no_port
    go (inr (inl x)) more = ap (λ o. o >>= λ g. in_turn with_declared g ds) (x.turns f) ∙ of_port more x.formal ∙ same None (Some x.formal) x.no_generic x.is
    go (inr (inr x)) more = ap (λ o. o >>= λ g. in_turn with_declared g ds) (x.turns f) ∙ more f ∙ same None None x.no_generic x.no_port

-- what is seen of these declarations
abbrev pub seen_in : Option Name → List Declared → Seen
seen_in architecture ds = record {
  architecture = architecture;
  generics = map (λ (f : GenericFormal). f.name) (filter_map generic_formal ds);
  generic_kinds = map kind_of (filter_map generic_formal ds);
  ports = map (λ (f : Formal). f.name) (filter_map port_formal ds);
  port_types = map type_of (filter_map port_formal ds);
}

taken : (ns : List Name) → are_distinct ns ≡ true → in_turn one_name [] ns ≡ Some ns
taken ns h = once ns ∙ ap (λ b. then_some b ns) h

pub all_seen : (architecture : Option Name) (ds : List Declared) → are_distinct (declared_names ds) ≡ true
    → in_turn with_declared (no_formals architecture) ds ≡ Some (seen_in architecture ds)
all_seen architecture ds h =
    let gs = filter_map generic_formal ds in
    let ps = filter_map port_formal ds in
    turned (no_formals architecture) ds
    ∙ ap (λ o. put (no_formals architecture) (map kind_of gs) (map type_of ps) o (in_turn one_name [] (map port_name ps))) (taken (map generic_name gs) (distinct_by generic_formal generic_name own_generic ds h))
    ∙ ap (λ o. put (no_formals architecture) (map kind_of gs) (map type_of ps) (Some (map generic_name gs)) o) (taken (map port_name ps) (distinct_by port_formal port_name own_port ds h))
