-- An interface, its generics first and then its ports.
use Rattle.std.proofs.Common.{◌≡◌, Bool, true, false, List, [], ◌++◌, Option, Some, None, refl, sym, ap, subst, ◌∙◌}
use Rattle.vhdl_names_rules.specs.declared.fault.NameFault.{NameFault}
use Rattle.vhdl_names_rules.specs.declared.fault.NameFault.TheVariants.{At, NoMemory}
use Rattle.vhdl_lexer.specs.declared.language.Language.{Language}
use Rattle.vhdl_tree.specs.Tree as t
use Rattle.vhdl_names_rules.specs.units.Units as u
use Rattle.vhdl_names_rules.specs.Rules.{◌>>=◌, met, all_of}
use Rattle.vhdl_names_rules.specs.Visibility.{Declared, Sight, Declares, are_distinct, with_declared}
use Rattle.vhdl_names_rules.specs.Declarations.{in_order, generic, port}
use Rattle.vhdl_names_rules.specs.Visibility.{Name}
use Rattle.vhdl_names_rules.specs.Packages.{Context, no_context, context, sight_of}
use Rattle.vhdl_names_rules.specs.Interfaces.{Interface, declared_names, interface, entity}
use Rattle.vhdl_names_interfaces.specs.Views.{behind_interface}
use Rattle.vhdl_names_rules.proofs.laws.Rules.{some_is, comes, kept}
use Rattle.vhdl_names_rules.specs.problems.Broken.{Broken, Tells, nothing, ◌▸◌, where_given}
use Rattle.vhdl_names_rules.specs.problems.Declarations as broken
use Rattle.vhdl_names_rules.specs.problems.Interfaces as interfaces_broken
use Rattle.vhdl_names_rules.proofs.Telling.{told_left, told_right, told_same, told_given}
use Rattle.vhdl_names_rules.proofs.kept.Declarations.{context_kept}
use Rattle.vhdl_names_rules.proofs.kept.Interfaces.{generics_kept}
use Rattle.vhdl_names_declarations.specs.Entered.{entering, entered}
use Rattle.vhdl_names_declarations.proofs.Orders.{first_is}
use Rattle.vhdl_names_declarations.proofs.Regions.{names-append, still_twice}

abbrev pub pair : {A B : Type 0} → A → B → A × B
pair x y = (x, y)

abbrev pub made : List Declared → List u.Generic → List u.Port → Interface
made ds gs ps = record { declared = ds; generics = gs; ports = ps }

abbrev pub in_turn : Sight → Option (List t.Generic) → Option (List t.Port) → Option Interface
in_turn s gs ps = entering (in_order with_declared generic) s (all_of gs) >>= λ x. (entering (in_order with_declared port) x.0 (all_of ps) >>= λ y. Some (made y.0.region x.1 y.1))

pub interface_in_turn : (s : Sight) (gs : Option (List t.Generic)) (ps : Option (List t.Port)) → s.region ≡ [] → interface s gs ps ≡ in_turn s gs ps
unfolding interface
interface_in_turn s gs ps empty = go (in_order with_declared generic s (all_of gs))
  where
    start : (g : Declares u.Generic) → s.region ++ g.declared ≡ g.declared
    start g = ap (λ r. r ++ g.declared) empty

    last : (g : Declares u.Generic) (p : Declares u.Port) →
        (met (are_distinct (declared_names (g.declared ++ p.declared))) >>= λ _. Some (made (g.declared ++ p.declared) g.analysed p.analysed))
        ≡ (entered (with_declared s g.declared) p >>= λ y. Some (made y.0.region g.analysed y.1))
    last g p =
        ap (λ r. met (are_distinct (declared_names (r ++ p.declared))) >>= λ _. Some (made (r ++ p.declared) g.analysed p.analysed)) (sym (start g))
        ∙ out (are_distinct (declared_names ((s.region ++ g.declared) ++ p.declared)))
      where
        out : (b : Bool) → (met b >>= λ _. Some (made ((s.region ++ g.declared) ++ p.declared) g.analysed p.analysed))
            ≡ ((met b >>= λ _. Some (pair (with_declared (with_declared s g.declared) p.declared) p.analysed)) >>= λ y. Some (made y.0.region g.analysed y.1))
        out true = refl
        out false = refl

    none : (g : Declares u.Generic) → are_distinct (declared_names g.declared) ≡ false → (o : Option (Declares u.Port)) →
        (o >>= λ p. (met (are_distinct (declared_names (g.declared ++ p.declared))) >>= λ _. Some (made (g.declared ++ p.declared) g.analysed p.analysed))) ≡ None
    none g h None = refl
    none g h (Some p) =
        ap (λ b. met b >>= λ _. Some (made (g.declared ++ p.declared) g.analysed p.analysed))
        (ap are_distinct (names-append g.declared p.declared) ∙ still_twice (declared_names g.declared) (declared_names p.declared) h)

    some : (g : Declares u.Generic) (o : Option (Declares u.Port)) →
        (o >>= λ p. (met (are_distinct (declared_names (g.declared ++ p.declared))) >>= λ _. Some (made (g.declared ++ p.declared) g.analysed p.analysed)))
        ≡ ((o >>= entered (with_declared s g.declared)) >>= λ y. Some (made y.0.region g.analysed y.1))
    some g None = refl
    some g (Some p) = last g p

    by : (g : Declares u.Generic) (b : Bool) → are_distinct (declared_names (s.region ++ g.declared)) ≡ b →
        (in_order with_declared port (with_declared s g.declared) (all_of ps) >>= λ p. (met (are_distinct (declared_names (g.declared ++ p.declared))) >>= λ _. Some (made (g.declared ++ p.declared) g.analysed p.analysed)))
        ≡ ((met b >>= λ _. Some (pair (with_declared s g.declared) g.analysed)) >>= λ x. (entering (in_order with_declared port) x.0 (all_of ps) >>= λ y. Some (made y.0.region x.1 y.1)))
    by g true h = some g (in_order with_declared port (with_declared s g.declared) (all_of ps))
    by g false h = none g (ap (λ r. are_distinct (declared_names r)) (sym (start g)) ∙ h) (in_order with_declared port (with_declared s g.declared) (all_of ps))

    go : (o : Option (Declares u.Generic)) →
        (o >>= λ g. (in_order with_declared port (with_declared s g.declared) (all_of ps) >>= λ p. (met (are_distinct (declared_names (g.declared ++ p.declared))) >>= λ _. Some (made (g.declared ++ p.declared) g.analysed p.analysed))))
        ≡ ((o >>= entered s) >>= λ x. (entering (in_order with_declared port) x.0 (all_of ps) >>= λ y. Some (made y.0.region x.1 y.1)))
    go None = refl
    go (Some g) = by g (are_distinct (declared_names (s.region ++ g.declared))) refl

-- ---- what is told of generics and ports is told of their interface

abbrev generics_in : Sight → Option (List t.Generic) → Broken
generics_in s gs = interfaces_broken.generics s (all_of gs)

abbrev ports_behind : Sight → Option (List t.Generic) → Option (List t.Port) → Broken
ports_behind s gs ps = where_given (in_order with_declared generic s (all_of gs)) (λ g. interfaces_broken.ports (with_declared s g.declared) (all_of ps))

pub generics_told : (s : Sight) (gs : Option (List t.Generic)) (ps : Option (List t.Port)) (f : NameFault) →
    Tells (interfaces_broken.generics s (all_of gs)) f → Tells (interfaces_broken.interface s gs ps) f
generics_told s gs ps f h = told_left (generics_in s gs) (ports_behind s gs ps) f h

pub ports_told : (s w : Sight) (gs : Option (List t.Generic)) (ps : Option (List t.Port)) (x : List u.Generic) (f : NameFault) →
    entering (in_order with_declared generic) s (all_of gs) ≡ Some (pair w x) → Tells (interfaces_broken.ports w (all_of ps)) f → Tells (interfaces_broken.interface s gs ps) f
ports_told s w gs ps x f given h =
    let g = comes (in_order with_declared generic s (all_of gs)) (entered s) (pair w x) given in
    let k = kept (are_distinct (declared_names (s.region ++ g.value.declared))) (Some (pair (with_declared s g.value.declared) g.value.analysed)) (pair w x) g.rest in
    let same = first_is (with_declared s g.value.declared) w g.value.analysed x k.1 in
    told_right (generics_in s gs) (ports_behind s gs ps) f (generics_kept s (all_of gs) g.value g.is k.0)
    (told_given (λ g. interfaces_broken.ports (with_declared s g.declared) (all_of ps)) (in_order with_declared generic s (all_of gs)) g.value f g.is
    (subst (λ r. Tells (interfaces_broken.ports r (all_of ps)) f) (sym same) h))

-- ---- and of the entity

abbrev of_interface : Language → List t.ContextItem → t.Entity → Broken
of_interface language items e =
    where_given (context (no_context language) items) (λ c. interfaces_broken.interface (sight_of c []) e.generics e.ports ▸ interfaces_broken.assertions (sight_of c []) e)

abbrev ends_so : t.Entity → Broken
ends_so e = broken.end_name e.name e.end_name

pub context_told : (language : Language) (items : List t.ContextItem) (e : t.Entity) (f : NameFault) → Tells (broken.context (no_context language) items) f → Tells (interfaces_broken.entity language items e) f
context_told language items e f = told_left (broken.context (no_context language) items) (of_interface language items e ▸ ends_so e) f

grouped : (a b c : Broken) → (a ▸ (b ▸ c)) ≡ ((a ▸ b) ▸ c)
unfolding ◌▸◌
grouped None b c = refl
grouped (Some x) b c = refl

-- behind its context clauses
pub behind_told : (language : Language) (items : List t.ContextItem) (e : t.Entity) (c : Context) (s : Sight) → context (no_context language) items ≡ Some c → Some (sight_of c []) ≡ Some s →
    (f : NameFault) → Tells (interfaces_broken.interface s e.generics e.ports ▸ interfaces_broken.assertions s e ▸ ends_so e) f → Tells (interfaces_broken.entity language items e) f
behind_told language items e c s h k f told =
    let of_sight = λ (s : Sight). interfaces_broken.interface s e.generics e.ports ▸ interfaces_broken.assertions s e in
    told_right (broken.context (no_context language) items) (of_interface language items e ▸ ends_so e) f (context_kept items (no_context language) c h)
    (told_same (interfaces_broken.interface s e.generics e.ports ▸ interfaces_broken.assertions s e ▸ ends_so e) (of_interface language items e ▸ ends_so e) f
    (grouped (interfaces_broken.interface s e.generics e.ports) (interfaces_broken.assertions s e) (ends_so e)
    ∙ sym (ap (λ o. where_given o (λ c. of_sight (sight_of c [])) ▸ ends_so e) h ∙ ap (λ s. of_sight s ▸ ends_so e) (some_is (sight_of c []) s k))) told)

-- of nothing that is broken nothing is told
pub told_nothing : (b : Broken) (f : NameFault) → Tells nothing f → Tells b f
told_nothing b (At p at) h = absurd cc
told_nothing b NoMemory h = tt

-- ---- entities

pub no_entity : (language : Language) (items : List t.ContextItem) (e : t.Entity) (a : Option Name) → context (no_context language) items ≡ None → entity language items e a ≡ None
unfolding entity
no_entity language items e a h = ap (λ o. o >>= λ c. behind_interface c e a (interface (sight_of c []) e.generics e.ports)) h

pub entity_is : (language : Language) (items : List t.ContextItem) (e : t.Entity) (a : Option Name) (c : Context) (s : Sight) → context (no_context language) items ≡ Some c → Some (sight_of c []) ≡ Some s →
    entity language items e a ≡ behind_interface c e a (interface s e.generics e.ports)
unfolding entity
entity_is language items e a c s h k =
    ap (λ o. o >>= λ c. behind_interface c e a (interface (sight_of c []) e.generics e.ports)) h
    ∙ ap (λ s. behind_interface c e a (interface s e.generics e.ports)) (some_is (sight_of c []) s k)
