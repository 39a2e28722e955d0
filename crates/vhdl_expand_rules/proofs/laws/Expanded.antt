-- What expansion keeps: of the objects of an instance, in its declarations and associations; and of parts, over concurrent statements.
use Rattle.std.proofs.Common.{◌≡◌, ℕ, zero, suc, Bool, true, false, cond, not, ◌||◌, ◌==◌, List, [], ◌∷◌, ◌++◌, length, map, Option, Some, None, Ok, All, refl, sym, ap, ◌∙◌, subst, append_assoc, append-nil}
use Rattle.std.specs.Prelude.{⊤, ℤ, slice_get, is_some, bytes_eq}
use Rattle.std.specs.Char.{to_ascii_lowercase}
use Rattle.std.specs.List.{AllZip}
use Rattle.std.proofs.lemmas.Bool.{eqb-true}
use Rattle.std.proofs.lemmas.Option.{slice_get-get_or}
use Rattle.std.proofs.lemmas.List.Elements.{All-append, All-cons, All-nil, All-head, All-tail}
use Rattle.vhdl_names_rules.specs.units.Expressions.{Range, StaticTest, SignalPart}
use Rattle.vhdl_names_rules.specs.units.Units as u
use Rattle.vhdl_names_rules.specs.units.Units.{Fixed, Port, Declaration, Architecture, Entity, Units}
use Rattle.vhdl_expand_rules.specs.declared.fault.ElabProblem.TheVariants.{GenericRange, Length, Unassociated}
use Rattle.vhdl_expand_rules.specs.Elab.{Elab, ◌>>=◌, unless, each, same_length}
use Rattle.vhdl_expand_rules.specs.Integers.{decision, turns}
use Rattle.vhdl_expand_rules.specs.Kinds.{ObjectKind, size, kind_of}
use Rattle.vhdl_expand_rules.specs.Site.{Site, no_site, signal_kind, place_elements}
use Rattle.vhdl_expand_rules.specs.Tops.{Top}
use Rattle.vhdl_expand_rules.specs.Tree.{Role, internal, Object, Instance, Parts, no_parts, inner, followed_by, EachInstance, EachInner}
use Rattle.vhdl_expand_rules.specs.Tree as t
use Rattle.vhdl_expand_rules.specs.Declarations.{first_of, rest_of, generics, starts, object, role_of, InstanceObjects, with_port, with_signal, ports, interface, declared, declaration, declarations, is_input, may_flow, association, associations}
use Rattle.vhdl_expand_rules.specs.Expansion.{Spot, in_turn, in_branch, process, joined_parts, instance, concurrent, concurrents, instance_of, entity_named, Design, expanded_design}
use Rattle.vhdl_expand_rules.proofs.Steps.{given, ok, bound, kept}
use Rattle.vhdl_expand_rules.proofs.Items.{all_any, all_get, all_found}
use Rattle.vhdl_expand_rules.proofs.laws.Names.{zip_push}
use Rattle.vhdl_expand_rules.proofs.laws.Made.{instance_made, instance_built, design_made}
use Rattle.vhdl_expand_rules.proofs.laws.Targets.{each_with}

-- ---- objects

-- what an object was made of
pub record MadeObject (here : Site) (role : Role) (o : u.Object) (x : Object) : Type 0 where
  pub kind : ObjectKind
  pub values : List ℕ
  pub gave : starts here o.at kind o.default ≡ Ok values
  pub is : ◌≡◌ {A = Object} (record { at = o.at; name = o.name; role = role; kind = kind; is_resolved = o.is_resolved; starts = values; actual = None }) x

pub object_made : (here : Site) (role : Role) (o : u.Object) (x : Object) → object here role o ≡ Ok x → MadeObject here role o x
unfolding object
object_made here role o x h =
    let k = bound (kind_of here.integers o.at o.form) _ x h in
    let vs = bound (starts here o.at k.x o.default) _ x k.then_gave in
    record { kind = k.x; values = vs.x; gave = vs.gave; is = ok _ x vs.then_gave }

-- Where S holds of what ports and signals declare: R holds of each port and its object, also once that is joined, and P of each signal.
pub record OfObjects (S : u.Object → Type 0) (R : Port → Object → Type 0) (P : Object → Type 0) : Type 0 where
  pub of_port : (here : Site) (p : Port) (x : Object) → S p.object → object here (role_of p.mode) p.object ≡ Ok x → R p x
  pub of_actual : (p : Port) (o : Object) (es : List ℕ) → R p o → length es ≡ size o.kind → R p (record o { actual = Some es })
  pub of_signal : (here : Site) (o : u.Object) (x : Object) → S o → object here internal o ≡ Ok x → P x

-- more objects, which are signals
pub record WithSignals (P : Object → Type 0) (before after : List Object) : Type 0 where
  pub signals : List Object
  pub are : after ≡ before ++ signals
  pub hold : All P signals

pub with_signals : (P : Object → Type 0) (before after : List Object) → All P before → WithSignals P before after → All P after
with_signals P before after h w = subst (All P) (sym w.are) (All-append P before w.signals h w.hold)

-- of the object of a signal's declaration
abbrev pub OfSignal : (u.Object → Type 0) → Declaration → Type 0
OfSignal S (u.Declaration.signal o) = S o
OfSignal S _ = ⊤

-- nothing needs to be known of what is declared
abbrev pub Any : {A : Type 0} → A → Type 0
Any x = ⊤

pub any_ports : (ps : List Port) → All (λ (p : Port). Any p.object) ps
any_ports ps = all_any (λ (p : Port). Any p.object) (λ p. tt) ps

pub any_signals : (xs : List Declaration) → All (OfSignal Any) xs
any_signals xs = all_any (OfSignal Any) any xs
  where
    any : (x : Declaration) → OfSignal Any x
    any (u.Declaration.signal o) = tt
    any _ = tt

no-signals : (P : Object → Type 0) (d e : InstanceObjects) → d ≡ e → WithSignals P d.objects e.objects
no-signals P d e same = subst (λ (y : InstanceObjects). WithSignals P d.objects y.objects) same (record { signals = []; are = sym (append-nil d.objects); hold = All-nil P })

module _ (S : u.Object → Type 0) (R : Port → Object → Type 0) (P : Object → Type 0) (of : OfObjects S R P) where
  ports-hold : (before ps : List Port) (d e : InstanceObjects) → AllZip R before d.objects → All (λ (p : Port). S p.object) ps → ports d ps ≡ Ok e → AllZip R (before ++ ps) e.objects
  unfolding ports
  ports-hold before [] d e h s k =
      subst (λ (x : InstanceObjects). AllZip R (before ++ []) x.objects) (ok d e k) (subst (λ (fs : List Port). AllZip R fs d.objects) (sym (append-nil before)) h)
  ports-hold before (p ∷ ps) d e h s k =
      let o = bound (object d.site (role_of p.mode) p.object) _ e k in
      let fits = of.of_port d.site p o.x (All-head (λ (q : Port). S q.object) p ps s) o.gave in
      subst (λ (fs : List Port). AllZip R fs e.objects) (append_assoc before (p ∷ []) ps)
      (ports-hold (before ++ p ∷ []) ps (with_port d o.x) e (zip_push R before d.objects p o.x h fits) (All-tail (λ (q : Port). S q.object) p ps s) o.then_gave)

  pub interface_holds : (above : Site) (actuals : List (Option Fixed)) (unit : Entity) (d : InstanceObjects) → All (λ (p : Port). S p.object) unit.ports → interface above actuals unit ≡ Ok d → AllZip R unit.ports d.objects
  unfolding interface
  interface_holds above actuals unit d s h =
      let here = bound (generics above no_site actuals unit.generics) _ d h in
      ports-hold [] unit.ports (record { site = here.x; objects = [] }) d tt s here.then_gave

  association-holds : (above : Site) (at : ℕ) (p : Port) (actual : Option SignalPart) (o x : Object) → R p o → association above at p actual o ≡ Ok x → R p x
  unfolding association
  association-holds above at p None o x h k =
      let a = bound (unless Unassociated at (not (is_input o.role) || is_some p.object.default)) _ x k in
      subst (R p) (ok o x a.then_gave) h
  association-holds above at p (Some place) o x h k =
      let es = bound (place_elements above place) _ x k in
      let a = bound (same_length place.at (length es.x) (size o.kind)) _ x es.then_gave in
      let flows = bound (unless GenericRange place.at (may_flow o.role (signal_kind above place.signal) o.kind)) _ x a.then_gave in
      subst (R p) (ok (record o { actual = Some es.x }) x flows.then_gave)
      (of.of_actual p o es.x h (eqb-true (length es.x) (size o.kind) (kept (Length (length es.x) (size o.kind)) place.at (length es.x == size o.kind) a.x a.gave)))

  pub associations_hold : (above : Site) (at : ℕ) (ps : List Port) (actuals : List (Option SignalPart)) (os xs : List Object) → AllZip R ps os → associations above at ps actuals os ≡ Ok xs → AllZip R ps xs
  unfolding associations
  associations_hold above at [] actuals [] xs h k = subst (λ (ys : List Object). AllZip R [] ys) (ok [] xs k) tt
  associations_hold above at (p ∷ ps) actuals (o ∷ os) xs h k =
      let y = bound (association above at p (first_of actuals) o) _ xs k in
      let ys = bound (associations above at ps (rest_of actuals) os) _ xs y.then_gave in
      subst (λ (zs : List Object). AllZip R (p ∷ ps) zs) (ok (y.x ∷ ys.x) xs ys.then_gave)
      (association-holds above at p (first_of actuals) o y.x h.0 y.gave, associations_hold above at ps (rest_of actuals) os ys.x h.1 ys.gave)
  associations_hold above at _ actuals _ xs h k = elim h [ ]

  -- a constant or a subtype
  plain-adds : (x : Declaration) (d e : InstanceObjects) → (declared d.site x >>= λ here. given (record d { site = here })) ≡ Ok e → WithSignals P d.objects e.objects
  plain-adds x d e k = let here = bound (declared d.site x) _ e k in no-signals P _ e (ok _ e here.then_gave)

  declaration-adds : (x : Declaration) (d e : InstanceObjects) → OfSignal S x → declaration d x ≡ Ok e → WithSignals P d.objects e.objects
  unfolding declaration
  declaration-adds (u.Declaration.signal o) d e w k =
      let x = bound (object d.site internal o) _ e k in
      subst (λ (y : InstanceObjects). WithSignals P d.objects y.objects) (ok (with_signal d x.x) e x.then_gave)
      (record { signals = x.x ∷ []; are = refl; hold = All-cons P x.x [] (of.of_signal d.site o x.x w x.gave) (All-nil P) })
  declaration-adds x d e w k = plain-adds x d e k

  pub declarations_add : (xs : List Declaration) (d e : InstanceObjects) → All (OfSignal S) xs → declarations d xs ≡ Ok e → WithSignals P d.objects e.objects
  unfolding declarations
  declarations_add [] d e w k = no-signals P d e (ok d e k)
  declarations_add (x ∷ xs) d e w k =
      let y = bound (declaration d x) _ e k in
      let a = declaration-adds x d y.x (All-head (OfSignal S) x xs w) y.gave in
      let b = declarations_add xs y.x e (All-tail (OfSignal S) x xs w) y.then_gave in
      record {
        signals = a.signals ++ b.signals;
        are = b.are ∙ ap (λ (os : List Object). os ++ b.signals) a.are ∙ append_assoc d.objects a.signals b.signals;
        hold = All-append P a.signals b.signals a.hold b.hold;
      }

-- ---- concurrent statements

-- a value that the parameter of a generate takes
abbrev pub IsTurn : Spot → ℕ → Range → ℤ → Type 0
IsTurn here at r j = (is : List ℤ) × (turns here.site.integers at r ≡ Ok is) × ((k : ℕ) × (slice_get is k ≡ Some j))

-- Where One is known of a statement at its spot, and Many of several: Holds is kept by the parts that they become.
pub record OfParts (One : Spot → u.Concurrent → Type 0) (Many : Spot → u.Concurrents → Type 0) (Holds : Parts → Type 0) : Type 0 where
  pub none : Holds no_parts
  pub followed : (a b : Parts) → Holds a → Holds b → Holds (followed_by a b)
  pub split : (here : Spot) (x : u.Concurrent) (rest : u.Concurrents) → Many here (u.concurrent x rest) → One here x × Many here rest
  pub of_process : (here : Spot) (p : u.Process) (q : t.Process) → One here (u.process p) → process here p ≡ Ok q → Holds (t.process q no_parts)
  pub in_for : (here : Spot) (at : ℕ) (label : List ℕ) (r : Range) (body : u.Concurrents) (j : ℤ) → IsTurn here at r j → One here (u.generate_for at label r body) → Many (in_turn here label j) body
  pub in_if : (here : Spot) (at : ℕ) (label : List ℕ) (r : StaticTest) (body : u.Concurrents) → One here (u.generate_if at label r body) → Many (in_branch here label) body

module _ (units : Units) (go : ℕ → Entity → InstanceObjects → Elab Instance) (One : Spot → u.Concurrent → Type 0) (Many : Spot → u.Concurrents → Type 0) (Holds : Parts → Type 0) (of : OfParts One Many Holds)
    (of-instance : (here : Spot) (x : u.Instance) (i : Instance) → One here (u.instance x) → instance units go here x ≡ Ok i → Holds (inner (here.prefix ++ x.label) i no_parts)) where
  joined-hold : (ps : List Parts) → All Holds ps → Holds (joined_parts ps)
  joined-hold [] h = of.none
  joined-hold (p ∷ ps) h = of.followed p (joined_parts ps) (All-head Holds p ps h) (joined-hold ps (All-tail Holds p ps h))

  chosen-holds : (b : Bool) (r : Elab Parts) (ps : Parts) → ((qs : Parts) → r ≡ Ok qs → Holds qs) → cond b r (Ok no_parts) ≡ Ok ps → Holds ps
  chosen-holds true r ps h k = h ps k
  chosen-holds false r ps h k = subst Holds (ok no_parts ps k) of.none

  mutual
    unfolding concurrent

    concurrent-holds : (x : u.Concurrent) (here : Spot) (ps : Parts) → One here x → concurrent units go here x ≡ Ok ps → Holds ps
    concurrent-holds (u.process p) here ps s h =
        let q = bound (process here p) _ ps h in
        subst Holds (ok (t.process q.x no_parts) ps q.then_gave) (of.of_process here p q.x s q.gave)
    concurrent-holds (u.instance x) here ps s h =
        let i = bound (instance units go here x) _ ps h in
        subst Holds (ok _ ps i.then_gave) (of-instance here x i.x s i.gave)
    concurrent-holds (u.generate_for at label r body) here ps s h =
        let is = bound (turns here.site.integers at r) _ ps h in
        let qs = bound (each (λ i. concurrents units go (in_turn here label i) body) is.x) _ ps is.then_gave in
        subst Holds (ok (joined_parts qs.x) ps qs.then_gave)
        (joined-hold qs.x (each_with (λ i. (k : ℕ) × (slice_get is.x k ≡ Some i)) Holds (λ i. concurrents units go (in_turn here label i) body) is.x qs.x
        (λ i q m. concurrents_hold body (in_turn here label i) q (of.in_for here at label r body i (is.x, is.gave, m) s)) (λ k d l. (k, slice_get-get_or is.x k d l)) qs.gave))
    concurrent-holds (u.generate_if at label r body) here ps s h =
        let b = bound (decision here.site.integers r) _ ps h in
        chosen-holds b.x (concurrents units go (in_branch here label) body) ps (λ qs. concurrents_hold body (in_branch here label) qs (of.in_if here at label r body s)) b.then_gave

    pub concurrents_hold : (xs : u.Concurrents) (here : Spot) (ps : Parts) → Many here xs → concurrents units go here xs ≡ Ok ps → Holds ps
    concurrents_hold u.no_concurrents here ps s h = subst Holds (ok no_parts ps h) of.none
    concurrents_hold (u.concurrent x rest) here ps s h =
        let both = of.split here x rest s in
        let a = bound (concurrent units go here x) _ ps h in
        let b = bound (concurrents units go here rest) _ ps a.then_gave in
        subst Holds (ok (followed_by a.x b.x) ps b.then_gave) (of.followed a.x b.x (concurrent-holds x here a.x both.0 a.gave) (concurrents_hold rest here b.x both.1 b.gave))

-- ---- whole trees

-- an instance of a unit: of its ports, its signals and its parts
pub record Filled (R : Port → Object → Type 0) (P : Object → Type 0) (Holds : Parts → Type 0) (unit : Entity) (i : Instance) : Type 0 where
  pub ports : List Object
  pub signals : List Object
  pub turns : ℕ
  pub parts : Parts
  pub is : t.instance (ports ++ signals) turns parts ≡ i
  pub of_ports : AllZip R unit.ports ports
  pub of_signals : All P signals
  pub of_parts : Holds parts

-- where Known holds of each unit
pub record OfUnits (Known : Entity → Type 0) (S : u.Object → Type 0) (R : Port → Object → Type 0) (P : Object → Type 0)
    (One : Spot → u.Concurrent → Type 0) (Many : Spot → u.Concurrents → Type 0) (Holds : Parts → Type 0) : Type 0 where
  pub objects : OfObjects S R P
  pub parts : OfParts One Many Holds
  pub of_unit : (unit : Entity) → Known unit → All (λ (p : Port). S p.object) unit.ports
  pub of_architecture : (unit : Entity) (a : Architecture) (site : Site) → Known unit → unit.architecture ≡ Some a
      → All (OfSignal S) a.declarations × Many (record { site = site; prefix = [] }) a.statements
  pub of_instance : (here : Spot) (x : u.Instance) (unit : Entity) (i : Instance) → One here (u.instance x) → Filled R P Holds unit i → Holds (inner (here.prefix ++ x.label) i no_parts)

pub record FilledDesign (Known : Entity → Type 0) (R : Port → Object → Type 0) (P : Object → Type 0) (Holds : Parts → Type 0) (units : Units) (top : Top) (design : Design) : Type 0 where
  pub unit : Entity
  pub known : Known unit
  pub there : entity_named units top.name ≡ Some unit
  pub tree : Instance
  pub filled : Filled R P Holds unit tree
  pub is : ◌≡◌ {A = Design} (record { name = unit.name; top = tree }) design

module _ (Known : Entity → Type 0) (S : u.Object → Type 0) (R : Port → Object → Type 0) (P : Object → Type 0) (One : Spot → u.Concurrent → Type 0) (Many : Spot → u.Concurrents → Type 0) (Holds : Parts → Type 0)
    (of : OfUnits Known S R P One Many Holds) (units : Units) (known : All Known units) where
  instance-fills : (levels at : ℕ) (unit : Entity) (d : InstanceObjects) (i : Instance) → Known unit → AllZip R unit.ports d.objects → instance_of units levels at unit d ≡ Ok i → Filled R P Holds unit i
  unfolding instance_of
  instance-fills zero at unit d i k h e = absurd cc
  instance-fills (suc levels) at unit d i k h e =
      let m = instance_built units levels at unit d i e in
      let spot : Spot = record { site = m.inside.site; prefix = [] } in
      let both = of.of_architecture unit m.architecture m.inside.site k m.there in
      let added = declarations_add S R P of.objects m.architecture.declarations d m.inside both.0 m.declares in
      record {
        ports = d.objects;
        signals = added.signals;
        turns = m.turns;
        parts = m.parts;
        is = ap (λ (os : List Object). t.instance os m.turns m.parts) (sym added.are) ∙ m.is;
        of_ports = h;
        of_signals = added.hold;
        of_parts = concurrents_hold units (instance_of units levels) One Many Holds of.parts (λ here x j s g.
            let n = instance_made units (instance_of units levels) here x j g in
            let there : Known n.unit = all_get Known units x.unit n.unit known n.there in
            let declared = interface_holds S R P of.objects here.site x.generics n.unit n.declared (of.of_unit n.unit there) n.declares in
            let joined = associations_hold S R P of.objects here.site x.at n.unit.ports x.ports n.declared.objects n.objects declared n.joins in
            of.of_instance here x n.unit j s (instance-fills levels x.at n.unit (record n.declared { objects = n.objects }) j there joined n.gave)) m.architecture.statements spot m.parts both.1 m.gave;
      }

  pub design_filled : (top : Top) (design : Design) → expanded_design units top ≡ Ok design → FilledDesign Known R P Holds units top design
  design_filled top design h =
      let m = design_made units top design h in
      let there : Known m.unit = all_found Known (λ (x : Entity). bytes_eq x.name (map to_ascii_lowercase top.name)) units m.unit known m.there in
      let declared = interface_holds S R P of.objects no_site m.actuals m.unit m.declared (of.of_unit m.unit there) m.declares in
      record { unit = m.unit; known = there; there = m.there; tree = m.tree; filled = instance-fills 32 m.unit.at m.unit m.declared m.tree there declared m.gave; is = m.is }

-- ---- trees where this holds of the objects of each instance

-- nothing needs to be known of a statement
abbrev AnyAt : {A : Type 0} → Spot → A → Type 0
AnyAt here x = ⊤

-- where it holds of each instance's ports with its signals
pub record OfInstances (Known : Entity → Type 0) (S : u.Object → Type 0) (R : Port → Object → Type 0) (P : Object → Type 0) (Holds : List Object → Type 0) : Type 0 where
  pub objects : OfObjects S R P
  pub of_unit : (unit : Entity) → Known unit → All (λ (p : Port). S p.object) unit.ports
  pub of_architecture : (unit : Entity) (a : Architecture) → Known unit → unit.architecture ≡ Some a → All (OfSignal S) a.declarations
  pub of_instance : (unit : Entity) (ports signals : List Object) → AllZip R unit.ports ports → All P signals → Holds (ports ++ signals)

module _ (Known : Entity → Type 0) (S : u.Object → Type 0) (R : Port → Object → Type 0) (P : Object → Type 0) (Holds : List Object → Type 0) (of : OfInstances Known S R P Holds) where
  followed-each : (a b : Parts) → EachInner Holds a → EachInner Holds b → EachInner Holds (followed_by a b)
  followed-each no_parts b h k = k
  followed-each (t.process p rest) b h k = followed-each rest b h k
  followed-each (inner label i rest) b h k = (h.0, followed-each rest b h.1 k)

  pub instance_holds : (unit : Entity) (i : Instance) → Filled R P (EachInner Holds) unit i → EachInstance Holds i
  instance_holds unit i f =
      subst (EachInstance Holds) {x = t.instance (f.ports ++ f.signals) f.turns f.parts} f.is (of.of_instance unit f.ports f.signals f.of_ports f.of_signals, f.of_parts)

  each-unit : OfUnits Known S R P AnyAt AnyAt (EachInner Holds)
  each-unit = record {
    objects = of.objects;
    parts = record {
      none = tt;
      followed = followed-each;
      split = λ here x rest s. (tt, tt);
      of_process = λ here p q s h. tt;
      in_for = λ here at label r body j turn s. tt;
      in_if = λ here at label r body s. tt;
    };
    of_unit = of.of_unit;
    of_architecture = λ unit a site k there. (of.of_architecture unit a k there, tt);
    of_instance = λ here x unit i s f. (instance_holds unit i f, tt);
  }

  pub each_filled : (units : Units) → All Known units → (top : Top) (design : Design) → expanded_design units top ≡ Ok design → FilledDesign Known R P (EachInner Holds) units top design
  each_filled units known = design_filled Known S R P AnyAt AnyAt (EachInner Holds) each-unit units known

  pub design_holds : (units : Units) → All Known units → (top : Top) (design : Design) → expanded_design units top ≡ Ok design → EachInstance Holds design.top
  design_holds units known top design h =
      let m = each_filled units known top design h in subst (λ (x : Design). EachInstance Holds x.top) m.is (instance_holds m.unit m.tree m.filled)
