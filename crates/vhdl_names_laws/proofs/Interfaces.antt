-- The generics and ports of an entity fit, and are what its architecture and its instances know of it (IEEE 1076-2008, 3.2 and 6.5).
use Rattle.std.proofs.Common.{◌≡◌, ℕ, Bool, true, false, ◌&&◌, ◌||◌, not, List, [], ◌∷◌, ◌++◌, map, Option, Some, None, refl, ap, sym, ◌∙◌, subst, arith, append_assoc, append-nil}
use Rattle.std.specs.Prelude.{if◌then◌else◌}
use Rattle.std.specs.List.{list_all, filter_map, cons_option, AllByRecursion}
use Rattle.std.specs.Str.{bytes_eq}
use Rattle.std.proofs.lemmas.Bool.{and_parts, and_from}
use Rattle.vhdl_lexer.specs.declared.language.Language.{Language}
use Rattle.vhdl_lexer.specs.declared.language.Language.TheVariants.{Profile, Wide}
use Rattle.vhdl_tree.specs.Tree as t
use Rattle.vhdl_names_rules.specs.units.Units as u
use Rattle.vhdl_names_rules.specs.Rules.{all_of}
use Rattle.vhdl_names_rules.specs.Visibility as visibility
use Rattle.vhdl_names_rules.specs.Visibility.{Name, Meaning, DeclaredRange, Declared, declare, all_declared, is_among, are_distinct, with_declared}
use Rattle.vhdl_names_rules.specs.Packages.{standard, std_logic_1164, numeric_std, Context, visible, sight_of}
use Rattle.vhdl_names_rules.specs.Declarations.{in_order, generic, port}
use Rattle.vhdl_names_rules.specs.Interfaces.{Interface, EntityView, declared_names, interface, assertion_labels, with_labels, entity}
use Rattle.vhdl_names_rules.specs.Instances.{Formal, generic_formal, port_formal}
use Rattle.vhdl_names_rules.specs.sound.Expressions.{Inside}
use Rattle.vhdl_names_rules.specs.sound.Units as w
use Rattle.vhdl_names_rules.specs.sound.Units.{object_fits, objects_fit, port_fits, generics_fit, nothing_inside}
use Rattle.vhdl_names_laws.specs.Meanings.{Counts, MeaningFits, DeclaredFits, AllFit, IsInside}
use Rattle.vhdl_names_laws.proofs.Statics.{some_same, each_append, HasNumbers, Keeps, keeps_all}
use Rattle.vhdl_names_laws.proofs.Subtypes.{object_more}
use Rattle.vhdl_names_laws.proofs.InOrder as r
use Rattle.vhdl_names_laws.proofs.Formals.{IsFormal, IsGeneric, AreFormals, AreGenerics, same_formals}
use Rattle.vhdl_names_laws.proofs.Known.{region, IsKnown, known_besides, labels_fit, labels_uncounted}
use Rattle.vhdl_names_laws.proofs.Ports.{Generics, KnownGenerics, with_generic, generic_fits, generic_step, KnownPorts, with_port, port_is, port_step, without, without_range, unranged}
use Rattle.vhdl_names_rules.proofs.laws.Rules.{comes, kept, neither, not_true}
use Rattle.vhdl_names_rules.proofs.laws.Parts.{entity_parts}

-- ---- what packages declare

fit : {i : Inside} {counts : Counts} (n : Name) (m : Meaning) → MeaningFits i counts m → DeclaredFits i counts (declare n m)
fit n m h = record { meaning = h; range = tt }

numbers_fit : (i : Inside) (counts : Counts) (l : Language) (b : Bool) → AllFit i counts (if b then numeric_std l else [])
numbers_fit i counts Profile true = (fit _ _ refl, (fit _ _ tt, (fit _ _ tt, (fit _ _ tt, (fit _ _ tt, tt)))))
numbers_fit i counts Wide true = (fit _ _ refl, (fit _ _ tt, (fit _ _ tt, (fit _ _ tt, (fit _ _ tt, (fit _ _ tt, tt))))))
numbers_fit i counts l false = tt

logic_fits : (i : Inside) (counts : Counts) (b : Bool) → AllFit i counts (if b then std_logic_1164 else [])
logic_fits i counts true = (fit _ _ tt, (fit _ _ tt, (fit _ _ refl, (fit _ _ refl, (fit _ _ tt, (fit _ _ tt, tt))))))
logic_fits i counts false = tt

standard_fits : (i : Inside) (counts : Counts) (l : Language) → AllFit i counts (standard l)
standard_fits i counts Profile = (fit _ _ tt, (fit _ _ tt, (fit _ _ tt, tt)))
standard_fits i counts Wide = (fit _ _ tt, (fit _ _ tt, (fit _ _ tt, (fit _ _ tt, (fit _ _ tt, (fit _ _ tt, tt))))))

visible_fits : (i : Inside) (counts : Counts) (c : Context) → AllFit i counts (visible c)
visible_fits i counts c =
    let P = DeclaredFits i counts in
    each_append P (if c.has_numbers then numeric_std c.language else []) ((if c.has_logic then std_logic_1164 else []) ++ standard c.language) (numbers_fit i counts c.language c.has_numbers)
    (each_append P (if c.has_logic then std_logic_1164 else []) (standard c.language) (logic_fits i counts c.has_logic) (standard_fits i counts c.language))

-- where nothing is declared yet
nothing_known : (c : Context) → IsKnown region nothing_inside [] (sight_of c [])
nothing_known c = record {
  inside = record { loops = tt; variables = tt; generates = tt; region = tt; enclosing = tt; packages = visible_fits nothing_inside [] c; loop_count = refl; generate_count = refl };
  counted = record { generics = refl; integers = refl; ranges = refl; constants = refl; ports = refl; signals = refl; variables = refl; enumerations = refl };
}

-- the same region in another context
pub in_context : (i : Inside) (counts : Counts) (c d : Context) (ds : List Declared) → IsKnown region i counts (sight_of c ds) → IsKnown region i counts (sight_of d ds)
in_context i counts c d ds k = record {
  inside = record {
    loops = tt;
    variables = tt;
    generates = tt;
    region = k.inside.region;
    enclosing = tt;
    packages = visible_fits i counts d;
    loop_count = k.inside.loop_count;
    generate_count = k.inside.generate_count;
  };
  counted = k.counted;
}

-- ---- generics and ports, one after another

abbrev each_generic : Generics → List u.Generic → Bool
each_generic = r.all_fit with_generic generic_fits with_declared KnownGenerics

generics_are : (gs : List u.Generic) (x : Generics) → each_generic x gs ≡ true → generics_fit x.inside gs ≡ true
generics_are [] x h = refl
generics_are (g ∷ gs) x h =
    let a = and_parts (generic_fits x g) (each_generic (with_generic x g) gs) h in
    and_from (generic_fits x g) (generics_fit (w.with_generic x.inside g.type) gs) a.0 (generics_are gs (with_generic x g) a.1)

added_generics : (gs : List u.Generic) (x : Generics) → r.all_added with_generic generic_fits with_declared KnownGenerics x gs ≡ record { inside = w.with_generics x.inside gs; generics = x.generics ++ gs }
added_generics [] x = ap (λ gs. record { inside = x.inside; generics = gs }) (sym (append-nil x.generics))
added_generics (g ∷ gs) x =
    added_generics gs (with_generic x g)
    ∙ ap (λ l. record { inside = w.with_generics (w.with_generic x.inside g.type) gs; generics = l }) (append_assoc x.generics (g ∷ []) gs)

record PortsAre (i : Inside) (ps : List u.Port) : Type 0 where
  objects : objects_fit i (map (λ (p : u.Port). p.object) ps) ≡ true
  kinds : list_all port_fits ps ≡ true

module _ (ranges : ℕ) (gs : List u.Generic) where
  abbrev each_port : Inside → List u.Port → Bool
  each_port = r.all_fit with_port (port_is ranges gs) with_declared (KnownPorts ranges gs)

  added_ports : (ps : List u.Port) (i : Inside) → r.all_added with_port (port_is ranges gs) with_declared (KnownPorts ranges gs) i ps ≡ w.with_ports i ps
  added_ports [] i = refl
  added_ports (p ∷ ps) i = added_ports ps (with_port i p)

  -- each fits also without the ports before it
  ports_alone : (ps : List u.Port) (i j : Inside) → HasNumbers (without ranges gs j) i → Keeps j.constants i.constants → each_port j ps ≡ true → PortsAre i ps
  ports_alone [] i j h c k = record { objects = refl; kinds = refl }
  ports_alone (p ∷ ps) i j h c k =
      let a = and_parts (port_is ranges gs j p) (each_port (with_port j p) ps) k in
      let b = and_parts (object_fits (without ranges gs j) p.object) (port_fits p) a.0 in
      let more = ports_alone ps i (with_port j p) (record { generics = h.generics; integers = h.integers; ranges = h.ranges; generates = h.generates; loops = h.loops }) c a.1 in
      record {
        objects = and_from (object_fits i p.object) (objects_fit i (map (λ (p : u.Port). p.object) ps)) (object_more (without ranges gs j) i h c p.object b.0) more.objects;
        kinds = and_from (port_fits p) (list_all port_fits ps) b.1 more.kinds;
      }

-- ---- names of ports

formal_name : (n : Name) (d : Meaning) (r : Option DeclaredRange) (b : Bool) (f : Formal) → port_formal (record { name = n; meaning = d; range = r; is_global = b }) ≡ Some f → f.name ≡ n
formal_name n (visibility.port k mode kind) r b f q = ap (λ (f : Formal). f.name) (sym (some_same _ f q))
formal_name n _ r b f q = absurd cc

abbrev names_of_formals : List Declared → List Name
names_of_formals ds = map (λ (f : Formal). f.name) (filter_map port_formal ds)

-- formals are among what is declared
formal_among : (n : Name) (ds : List Declared) → is_among n (declared_names ds) ≡ false → is_among n (names_of_formals ds) ≡ false
formal_among n [] h = refl
formal_among n (d ∷ ds) h =
    let b = neither (bytes_eq n d.name) (is_among n (declared_names ds)) h in
    go (port_formal d) refl b.0 (formal_among n ds b.1)
  where
    go : (o : Option Formal) → port_formal d ≡ o → bytes_eq n d.name ≡ false → is_among n (names_of_formals ds) ≡ false
        → is_among n (map (λ (f : Formal). f.name) (cons_option o (filter_map port_formal ds))) ≡ false
    go None q b more = more
    go (Some f) q b more =
        ap (λ m. bytes_eq n m || is_among n (names_of_formals ds)) (formal_name d.name d.meaning d.range d.is_global f q)
        ∙ (ap (λ c. c || is_among n (names_of_formals ds)) b ∙ more)

formals_distinct : (ds : List Declared) → are_distinct (declared_names ds) ≡ true → are_distinct (names_of_formals ds) ≡ true
formals_distinct [] h = refl
formals_distinct (d ∷ ds) h =
    let b = and_parts (not (is_among d.name (declared_names ds))) (are_distinct (declared_names ds)) h in
    go (port_formal d) refl b.0 (formals_distinct ds b.1)
  where
    go : (o : Option Formal) → port_formal d ≡ o → not (is_among d.name (declared_names ds)) ≡ true → are_distinct (names_of_formals ds) ≡ true
        → are_distinct (map (λ (f : Formal). f.name) (cons_option o (filter_map port_formal ds))) ≡ true
    go None q b more = more
    go (Some f) q b more =
        ap (λ m. not (is_among m (names_of_formals ds)) && are_distinct (names_of_formals ds)) (formal_name d.name d.meaning d.range d.is_global f q)
        ∙ and_from (not (is_among d.name (names_of_formals ds))) (are_distinct (names_of_formals ds))
        (ap not (formal_among d.name ds (not_true (is_among d.name (declared_names ds)) b))) more

abbrev pub port_names : List u.Port → List Name
port_names ps = map (λ (p : u.Port). p.object.name) ps

same_port_names : (fs : List Formal) (ps : List u.Port) → AreFormals fs ps → port_names ps ≡ map (λ (f : Formal). f.name) fs
same_port_names [] [] h = refl
same_port_names (f ∷ fs) (p ∷ ps) h = ap (λ n. n ∷ map (λ (p : u.Port). p.object.name) ps) h.0.name ∙ ap (λ ns. f.name ∷ ns) (same_port_names fs ps h.1)
same_port_names _ _ h = absurd h

-- ---- interfaces

-- what is inside an entity
abbrev pub inside_entity : List u.Generic → List u.Port → Inside
inside_entity gs ps = w.with_ports (w.with_generics nothing_inside gs) ps

pub record InterfaceFits (x : Interface) : Type 0 where
  pub generics : generics_fit nothing_inside x.generics ≡ true
  pub objects : objects_fit (w.with_generics nothing_inside x.generics) (map (λ (p : u.Port). p.object) x.ports) ≡ true
  pub kinds : list_all port_fits x.ports ≡ true
  pub counts : Counts
  pub known : (c : Context) → IsKnown region (inside_entity x.generics x.ports) counts (sight_of c x.declared)
  pub formals : AreFormals (filter_map port_formal x.declared) x.ports
  pub generic_formals : AreGenerics (filter_map generic_formal x.declared) x.generics
  pub distinct : are_distinct (map (λ (p : u.Port). p.object.name) x.ports) ≡ true

-- generics bring no ports
generic_ports : (gs : List u.Generic) (i : Inside) → (w.with_generics i gs).ports ≡ i.ports
generic_ports [] i = refl
generic_ports (g ∷ gs) i = generic_ports gs (w.with_generic i g.type) ∙ by g.type
  where
    by : (type : u.GenericType) → (w.with_generic i type).ports ≡ i.ports
    by (u.integers s) = refl
    by u.truths = refl
    by (u.values f) = refl

added_to : (ps : List u.Port) (i : Inside) → (w.with_ports i ps).ports ≡ i.ports ++ ps
added_to [] i = sym (append-nil i.ports)
added_to (p ∷ ps) i = added_to ps (with_port i p) ∙ append_assoc i.ports (p ∷ []) ps

ports_inside : (gs : List u.Generic) (ps : List u.Port) → (inside_entity gs ps).ports ≡ ps
ports_inside gs ps = added_to ps (w.with_generics nothing_inside gs) ∙ ap (λ qs. qs ++ ps) (generic_ports gs nothing_inside)

all_any : {A : Type 0} (xs : List A) → AllByRecursion (λ (x : A). Unit {0}) xs
all_any [] = tt
all_any (x ∷ xs) = (tt, all_any xs)

-- generics without ports
no_range : (ds : List Declared) → filter_map port_formal ds ≡ [] → map without_range ds ≡ ds
no_range [] h = refl
no_range (d ∷ ds) h = by d.name d.meaning d.range d.is_global (no_range ds) h
  where
    by : (n : Name) (m : Meaning) (r : Option DeclaredRange) (b : Bool) → (filter_map port_formal ds ≡ [] → map without_range ds ≡ ds) → cons_option (port_formal (record { name = n; meaning = m; range = r; is_global = b })) (filter_map port_formal ds) ≡ []
        → without_range (record { name = n; meaning = m; range = r; is_global = b }) ∷ map without_range ds ≡ record { name = n; meaning = m; range = r; is_global = b } ∷ ds
    by n (visibility.port k mode kind) r b more h = absurd cc
    by n m r b more h = ap (λ ds. record { name = n; meaning = m; range = r; is_global = b } ∷ ds) (more h)

pub interface_fits : (c : Context) (gs : Option (List t.Generic)) (ps : Option (List t.Port)) (x : Interface) → interface (sight_of c []) gs ps ≡ Some x → InterfaceFits x
unfolding interface
interface_fits c gs ps x q =
    let g = comes (in_order with_declared generic (sight_of c []) (all_of gs)) _ x q in
    let p = comes (in_order with_declared port (with_declared (sight_of c []) g.value.declared) (all_of ps)) _ x g.rest in
    let k = kept (are_distinct (declared_names (g.value.declared ++ p.value.declared))) _ x p.rest in
    let first =
    r.steps with_generic generic_fits with_declared KnownGenerics region.none region.twice (λ (g : t.Generic). Unit {0}) generic (λ x counts sight d y u h e. generic_step x counts sight d y h e)
    (all_of gs) (all_any (all_of gs)) (record { inside = nothing_inside; generics = [] }) [] (sight_of c []) g.value (record { known = nothing_known c; formals = tt; no_ports = refl }) g.is in
    let after : KnownGenerics (record { inside = w.with_generics nothing_inside g.value.analysed; generics = g.value.analysed }) first.more (with_declared (sight_of c []) g.value.declared) =
    subst (λ x. KnownGenerics x first.more (with_declared (sight_of c []) g.value.declared)) (added_generics g.value.analysed (record { inside = nothing_inside; generics = [] })) first.after in
    let j = w.with_generics nothing_inside g.value.analysed in
    let outer = with_declared (sight_of c []) g.value.declared in
    let unseen : IsInside j first.more (unranged outer) =
    subst (λ ds. IsInside j first.more (record outer { region = ds })) (sym (no_range g.value.declared after.no_ports)) after.known.inside in
    let second =
    r.steps with_port (port_is j.ranges g.value.analysed) with_declared (KnownPorts j.ranges g.value.analysed) region.none region.twice (λ (p : t.Port). Unit {0}) port
    (λ i counts sight d y u h e. port_step j.ranges g.value.analysed i counts sight d y h e)
    (all_of ps) (all_any (all_of ps)) j first.more outer p.value
    (record { known = after.known; unseen = unseen; formals = subst (λ fs. AreFormals fs j.ports) (sym after.no_ports) (subst (AreFormals []) (sym (generic_ports g.value.analysed nothing_inside)) tt); generics = after.formals }) p.is in
    let there : KnownPorts j.ranges g.value.analysed (inside_entity g.value.analysed p.value.analysed) second.more (sight_of c (g.value.declared ++ p.value.declared)) =
    subst (λ i. KnownPorts j.ranges g.value.analysed i second.more (sight_of c (g.value.declared ++ p.value.declared))) (added_ports j.ranges g.value.analysed p.value.analysed j) second.after in
    let formals : AreFormals (filter_map port_formal (g.value.declared ++ p.value.declared)) p.value.analysed =
    subst (AreFormals (filter_map port_formal (g.value.declared ++ p.value.declared))) (ports_inside g.value.analysed p.value.analysed) there.formals in
    let ports = ports_alone j.ranges g.value.analysed p.value.analysed j j (record { generics = omega arith; integers = omega arith; ranges = omega arith; generates = omega arith; loops = omega arith }) (keeps_all j.constants) second.fit in
    subst InterfaceFits (some_same _ x k.1) (record {
      generics = generics_are g.value.analysed (record { inside = nothing_inside; generics = [] }) first.fit;
      objects = ports.objects;
      kinds = ports.kinds;
      counts = second.more;
      known = λ d. in_context (inside_entity g.value.analysed p.value.analysed) second.more c d (g.value.declared ++ p.value.declared) there.known;
      formals = formals;
      generic_formals = there.generics;
      distinct =
          ap are_distinct (same_port_names (filter_map port_formal (g.value.declared ++ p.value.declared)) p.value.analysed formals)
          ∙ formals_distinct (g.value.declared ++ p.value.declared) k.0;
    })

-- ---- labels of an entity's assertions

no_port_labels : (ns : List Name) → filter_map port_formal (all_declared visibility.label ns) ≡ []
no_port_labels [] = refl
no_port_labels (n ∷ ns) = no_port_labels ns

no_generic_labels : (ns : List Name) → filter_map generic_formal (all_declared visibility.label ns) ≡ []
no_generic_labels [] = refl
no_generic_labels (n ∷ ns) = no_generic_labels ns

labels_besides : (x : Interface) (ns : List Name) → InterfaceFits x → InterfaceFits (with_labels x ns)
labels_besides x [] h = h
labels_besides x (n ∷ ns) h =
    let i = inside_entity x.generics x.ports in
    let ls = all_declared visibility.label (n ∷ ns) in
    record {
      generics = h.generics;
      objects = h.objects;
      kinds = h.kinds;
      counts = h.counts;
      known = λ c. known_besides region i h.counts (sight_of c x.declared) ls (labels_fit i h.counts (n ∷ ns)) (labels_uncounted (n ∷ ns)) (h.known c);
      formals = same_formals IsFormal port_formal x.declared ls x.ports (no_port_labels (n ∷ ns)) h.formals;
      generic_formals = same_formals IsGeneric generic_formal x.declared ls x.generics (no_generic_labels (n ∷ ns)) h.generic_formals;
      distinct = h.distinct;
    }

pub entity_fits_interface : (language : Language) (items : List t.ContextItem) (e : t.Entity) (a : Option Name) (v : EntityView) → entity language items e a ≡ Some v → InterfaceFits v.interface
entity_fits_interface language items e a v q =
    let p = entity_parts language items e a v q in
    subst (λ (v : EntityView). InterfaceFits v.interface) p.is
    (labels_besides p.own.value (assertion_labels e.statements) (interface_fits p.seen.value e.generics e.ports p.own.value p.own.is))
