-- Ports and generics of sound entities become sound objects and sites.
use Rattle.std.proofs.Common.{◌≡◌, ℕ, ◌<◌, true, ◌&&◌, List, [], ◌∷◌, ◌++◌, map, Option, Some, None, Ok, All, refl, sym, ap, ◌∙◌, subst, append_assoc, append-nil}
use Rattle.std.specs.Prelude.{ℤ}
use Rattle.std.specs.List.{AllZip, list_all}
use Rattle.std.proofs.lemmas.Bool.{and_parts}
use Rattle.std.proofs.lemmas.List.{map-append}
use Rattle.std.proofs.lemmas.List.Elements.{All-cons, All-nil, All-head, All-tail}
use Rattle.rtl_model.specs.bodies.Types.{nine_valued, limit_of}
use Rattle.vhdl_names_rules.specs.units.Units as u
use Rattle.vhdl_names_rules.specs.units.Units.{Form, Fixed, GenericType, Generic, Port, Entity}
use Rattle.vhdl_names_rules.specs.sound.Expressions.{Inside, shape_of, is_elements, port_form}
use Rattle.vhdl_names_rules.specs.sound.Units.{form_fits, default_fits, may_be_resolved, object_fits, objects_fit, port_fits, generic_type_fits, generic_default_fits, with_constant, with_generic, with_generics, generics_fit, nothing_inside}
use Rattle.vhdl_expand_rules.specs.declared.fault.ElabProblem.TheVariants.{NoGeneric}
use Rattle.vhdl_expand_rules.specs.Elab.{item_or}
use Rattle.vhdl_expand_rules.specs.Integers.{numbers_of, integer_among, decision}
use Rattle.vhdl_expand_rules.specs.Kinds.{ObjectKind, element_type, kind_of}
use Rattle.vhdl_expand_rules.specs.Site.{Constant, Site, no_site}
use Rattle.vhdl_expand_rules.specs.Tree.{Role, Object}
use Rattle.vhdl_expand_rules.specs.Declarations as declares
use Rattle.vhdl_expand_rules.specs.Declarations.{first_of, rest_of, position_of, generic_values, valued_generic, generic, generics, starts, object, role_of, InstanceObjects, with_port, ports, interface}
use Rattle.vhdl_expand_rules.specs.laws.Sites.{IsOf, IsConstant, IsSite}
use Rattle.vhdl_expand_rules.specs.laws.Trees.{object_kinds, is_port, ObjectIsSound}
use Rattle.vhdl_expand_rules.proofs.Steps.{ok, bound}
use Rattle.vhdl_expand_rules.proofs.laws.Kinds.{kind_is_of, is_kind, port_kind, resolved_kind, starts_below}
use Rattle.vhdl_expand_rules.proofs.laws.Names.{zip_push}
use Rattle.vhdl_expand_rules.proofs.laws.KnownSites.{Knows, site_knows, port_knows}

-- ---- one object

-- as it is declared, with no actual
pub record Plain (role : Role) (o : u.Object) (x : Object) : Type 0 where
  pub kind : IsOf o.form x.kind
  pub role_is : x.role ≡ role
  pub starts : All (λ v. v < limit_of (element_type x.kind)) x.starts
  pub resolved : x.is_resolved ≡ true → element_type x.kind ≡ nine_valued
  pub none : x.actual ≡ None

pub object-plain : (i : Inside) (here : Site) (role : Role) (o : u.Object) (x : Object) → Knows here → object_fits i o ≡ true → object here role o ≡ Ok x → Plain role o x
unfolding object
object-plain i here role o x known h e =
    let both = and_parts (form_fits i o.form && may_be_resolved o.form o.is_resolved) (default_fits i (shape_of o.form) o.default) h in
    let first = and_parts (form_fits i o.form) (may_be_resolved o.form o.is_resolved) both.0 in
    let k = bound (kind_of here.integers o.at o.form) _ x e in
    let vs = bound (starts here o.at k.x o.default) _ x k.then_gave in
    let of = kind_is_of i here.integers o.at o.form k.x (λ q. known) first.0 k.gave in
    subst (Plain role o) (ok _ x vs.then_gave) (record {
      kind = of;
      role_is = refl;
      starts = starts_below i here o.at o.form k.x o.default vs.x of both.1 vs.gave;
      resolved = λ r. resolved_kind o.form k.x o.is_resolved of first.1 r;
      none = refl;
    })

pub plain-sound : (above : List Object) (role : Role) (o : u.Object) (x : Object) → Plain role o x → (is_port role ≡ true → element_type x.kind ≡ nine_valued) → ObjectIsSound above x
plain-sound above role o x p nine = record {
  kind = is_kind o.form x.kind p.kind;
  starts = p.starts;
  ports_are_nine = λ h. nine (ap is_port (sym p.role_is) ∙ h);
  resolved_are_nine = p.resolved;
  signals_have_none = λ h. p.none;
  actual = λ es e. absurd (let n = p.none in cc);
  driven = λ es e r. absurd (let n = p.none in cc);
}

-- ---- ports

pub record PortObject (p : Port) (o : Object) : Type 0 where
  pub plain : Plain (role_of p.mode) p.object o
  pub nine : element_type o.kind ≡ nine_valued

pub record Interface (i : Inside) (done : List Port) (d : InstanceObjects) : Type 0 where
  pub site : IsSite (record i { ports = done }) d.site
  pub known : Knows d.site
  pub kinds : object_kinds d.objects ≡ d.site.ports
  pub no_signals : d.site.signals ≡ []
  pub objects : AllZip PortObject done d.objects

abbrev PortFits : Inside → Port → Type 0
PortFits i p = (object_fits i p.object ≡ true) × (port_fits p ≡ true)

port-object : (i : Inside) (here : Site) (p : Port) (o : Object) → Knows here → PortFits i p → object here (role_of p.mode) p.object ≡ Ok o → PortObject p o
port-object i here p o known h e =
    let w = object-plain i here (role_of p.mode) p.object o known h.0 e in
    record { plain = w; nine = port_kind p.object.form o.kind w.kind h.1 }

port-added : (i : Inside) (done : List Port) (d : InstanceObjects) (p : Port) (o : Object) → Interface i done d → PortObject p o → Knows (with_port d o).site → Interface i (done ++ p ∷ []) (with_port d o)
port-added i done d p o h w known = record {
  site = record {
    constants = h.site.constants;
    ports = subst (λ (fs : List Form). AllZip IsOf fs (d.site.ports ++ o.kind ∷ [])) (sym (map-append port_form done (p ∷ [])))
        (zip_push IsOf (map port_form done) d.site.ports (port_form p) o.kind h.site.ports w.plain.kind);
    signals = h.site.signals;
    variables = h.site.variables;
  };
  known = known;
  kinds = map-append (λ (x : Object). x.kind) d.objects (o ∷ []) ∙ ap (λ (ks : List ObjectKind). ks ++ o.kind ∷ []) h.kinds;
  no_signals = h.no_signals;
  objects = zip_push PortObject done d.objects p o h.objects w;
}

ports-stand : (ps : List Port) (i : Inside) (done : List Port) (d e : InstanceObjects) → Interface i done d → All (PortFits i) ps → ports d ps ≡ Ok e → Interface i (done ++ ps) e
unfolding ports
ports-stand [] i done d e h fit k = subst (λ (xs : List Port). Interface i xs e) (sym (append-nil done)) (subst (Interface i done) (ok d e k) h)
ports-stand (p ∷ ps) i done d e h fit k =
    let o = bound (object d.site (role_of p.mode) p.object) _ e k in
    let w = port-object i d.site p o.x h.known (All-head (PortFits i) p ps fit) o.gave in
    subst (λ (xs : List Port). Interface i xs e) (append_assoc done (p ∷ []) ps)
    (ports-stand ps i (done ++ p ∷ []) (with_port d o.x) e (port-added i done d p o.x h w (port_knows d p o.x h.known o.gave)) (All-tail (PortFits i) p ps fit) o.then_gave)

port-fits : (i : Inside) (ps : List Port) → objects_fit i (map (λ (p : Port). p.object) ps) ≡ true → list_all port_fits ps ≡ true → All (PortFits i) ps
port-fits i [] h e = All-nil (PortFits i)
port-fits i (p ∷ ps) h e =
    let a = and_parts (object_fits i p.object) (objects_fit i (map (λ (q : Port). q.object) ps)) h in
    let b = and_parts (port_fits p) (list_all port_fits ps) e in
    All-cons (PortFits i) p ps (a.0, b.0) (port-fits i ps a.1 b.1)

-- ---- generics

-- what is declared beside constants stays
record SameObjects (i j : Inside) : Type 0 where
  ports : j.ports ≡ i.ports
  signals : j.signals ≡ i.signals
  variables : j.variables ≡ i.variables

with-generic : (i : Inside) (type : GenericType) → SameObjects i (with_generic i type)
with-generic i (u.integers s) = record { ports = refl; signals = refl; variables = refl }
with-generic i u.truths = record { ports = refl; signals = refl; variables = refl }
with-generic i (u.values f) = record { ports = refl; signals = refl; variables = refl }

with-generics : (gs : List Generic) (i : Inside) → SameObjects i (with_generics i gs)
with-generics [] i = record { ports = refl; signals = refl; variables = refl }
with-generics (g ∷ gs) i =
    let one = with-generic i g.type in
    let all = with-generics gs (with_generic i g.type) in
    record { ports = all.ports ∙ one.ports; signals = all.signals ∙ one.signals; variables = all.variables ∙ one.variables }

integer-site : (i : Inside) (own : Site) (x : ℤ) (n : ℕ) → IsSite i own → IsSite (record i { generics = n }) (declares.with_generic own x)
integer-site i own x n h = record { constants = h.constants; ports = h.ports; signals = h.signals; variables = h.variables }

pub constant-site : (i : Inside) (own : Site) (f : Form) (c : Constant) → IsSite i own → IsOf f c.kind → IsSite (with_constant i f) (declares.with_constant own c)
constant-site i own f c h of = record {
  constants = zip_push IsConstant i.constants own.constants f c h.constants of;
  ports = h.ports;
  signals = h.signals;
  variables = h.variables;
}

valued-stands : (i : Inside) (from own here : Site) (at : ℕ) (type : GenericType) (f : Fixed) → generic_type_fits i type ≡ true → IsSite i own → valued_generic from own at type f ≡ Ok here
    → IsSite (with_generic i type) here
valued-stands i from own here at (u.integers type) (u.Fixed.integer s) fit h k =
    let numbers = bound (numbers_of own.integers at type) _ here k in
    let x = bound (integer_among from.integers at numbers.x s) _ here numbers.then_gave in
    subst (IsSite (with_generic i (u.integers type))) (ok (declares.with_generic own x.x) here x.then_gave) (integer-site i own x.x _ h)
valued-stands i from own here at u.truths (u.Fixed.truth t) fit h k =
    let b = bound (decision from.integers t) _ here k in
    subst (IsSite (with_generic i u.truths)) (ok (declares.with_generic own (position_of b.x)) here b.then_gave) (integer-site i own (position_of b.x) _ h)
valued-stands i from own here at (u.values form) f fit h k =
    let both = and_parts (form_fits i form) (is_elements (shape_of form)) fit in
    let kind = bound (kind_of own.integers at form) _ here k in
    let vs = bound (generic_values from at kind.x f) _ here kind.then_gave in
    subst (IsSite (with_constant i form)) (ok (declares.with_constant own (record { kind = kind.x; values = vs.x })) here vs.then_gave)
    (constant-site i own form (record { kind = kind.x; values = vs.x }) h
    (kind_is_of i own.integers at form kind.x (λ q. absurd (let e = sym (ap is_elements q) ∙ both.1 in cc)) both.0 kind.gave))
valued-stands i from own here at _ f fit h k = absurd cc

generic-stands : (i : Inside) (above own here : Site) (actual : Option Fixed) (g : Generic) → generic_type_fits i g.type ≡ true → IsSite i own → generic above own actual g ≡ Ok here
    → IsSite (with_generic i g.type) here
generic-stands i above own here (Some actual) g fit h k = valued-stands i above own here g.at g.type actual fit h k
generic-stands i above own here None g fit h k =
    let default = bound (item_or NoGeneric g.at g.default) _ here k in
    valued-stands i own own here g.at g.type default.x fit h default.then_gave

generics-stand : (gs : List Generic) (i : Inside) (above own here : Site) (actuals : List (Option Fixed)) → generics_fit i gs ≡ true → IsSite i own → generics above own actuals gs ≡ Ok here
    → IsSite (with_generics i gs) here
unfolding generics
generics-stand [] i above own here actuals fit h k = subst (IsSite i) (ok own here k) h
generics-stand (g ∷ gs) i above own here actuals fit h k =
    let both = and_parts (generic_type_fits i g.type && generic_default_fits i g.type g.default) (generics_fit (with_generic i g.type) gs) fit in
    let first = and_parts (generic_type_fits i g.type) (generic_default_fits i g.type g.default) both.0 in
    let next = bound (generic above own (first_of actuals) g) _ here k in
    generics-stand gs (with_generic i g.type) above next.x here (rest_of actuals) both.1 (generic-stands i above own next.x (first_of actuals) g first.0 h next.gave) next.then_gave

-- generics declare no port and no signal
record Bare (here : Site) : Type 0 where
  ports : here.ports ≡ []
  signals : here.signals ≡ []

valued-bare : (from own here : Site) (at : ℕ) (type : GenericType) (f : Fixed) → Bare own → valued_generic from own at type f ≡ Ok here → Bare here
valued-bare from own here at (u.integers type) (u.Fixed.integer s) h k =
    let numbers = bound (numbers_of own.integers at type) _ here k in
    let x = bound (integer_among from.integers at numbers.x s) _ here numbers.then_gave in
    subst Bare (ok (declares.with_generic own x.x) here x.then_gave) (record { ports = h.ports; signals = h.signals })
valued-bare from own here at u.truths (u.Fixed.truth t) h k =
    let b = bound (decision from.integers t) _ here k in
    subst Bare (ok (declares.with_generic own (position_of b.x)) here b.then_gave) (record { ports = h.ports; signals = h.signals })
valued-bare from own here at (u.values form) f h k =
    let kind = bound (kind_of own.integers at form) _ here k in
    let vs = bound (generic_values from at kind.x f) _ here kind.then_gave in
    subst Bare (ok (declares.with_constant own (record { kind = kind.x; values = vs.x })) here vs.then_gave) (record { ports = h.ports; signals = h.signals })
valued-bare from own here at _ f h k = absurd cc

generic-bare : (above own here : Site) (actual : Option Fixed) (g : Generic) → Bare own → generic above own actual g ≡ Ok here → Bare here
generic-bare above own here (Some actual) g h k = valued-bare above own here g.at g.type actual h k
generic-bare above own here None g h k =
    let default = bound (item_or NoGeneric g.at g.default) _ here k in
    valued-bare own own here g.at g.type default.x h default.then_gave

generics-bare : (gs : List Generic) (above own here : Site) (actuals : List (Option Fixed)) → Bare own → generics above own actuals gs ≡ Ok here → Bare here
unfolding generics
generics-bare [] above own here actuals h k = subst Bare (ok own here k) h
generics-bare (g ∷ gs) above own here actuals h k =
    let next = bound (generic above own (first_of actuals) g) _ here k in
    generics-bare gs above next.x here (rest_of actuals) (generic-bare above own next.x (first_of actuals) g h next.gave) next.then_gave

-- what holds inside an entity before its ports
abbrev pub before_ports : Entity → Inside
before_ports unit = with_generics nothing_inside unit.generics

pub none_before : (unit : Entity) → ((before_ports unit).ports ≡ []) × ((before_ports unit).variables ≡ [])
none_before unit = let w = with-generics unit.generics nothing_inside in (w.ports, w.variables)

pub interface-stands : (above : Site) (actuals : List (Option Fixed)) (unit : Entity) (d : InstanceObjects) → Knows above → generics_fit nothing_inside unit.generics ≡ true
    → objects_fit (before_ports unit) (map (λ (p : Port). p.object) unit.ports) ≡ true → list_all port_fits unit.ports ≡ true → interface above actuals unit ≡ Ok d → Interface (before_ports unit) unit.ports d
unfolding interface
interface-stands above actuals unit d known g h e k =
    let i = before_ports unit in
    let here = bound (generics above no_site actuals unit.generics) _ d k in
    let site = generics-stand unit.generics nothing_inside above no_site here.x actuals g (record { constants = tt; ports = tt; signals = tt; variables = tt }) here.gave in
    let bare = generics-bare unit.generics above no_site here.x actuals (record { ports = refl; signals = refl }) here.gave in
    ports-stand unit.ports i [] (record { site = here.x; objects = [] }) d (record {
      site = record {
        constants = site.constants;
        ports = subst (λ (ks : List ObjectKind). AllZip IsOf [] ks) (sym bare.ports) tt;
        signals = site.signals;
        variables = site.variables;
      };
      known = site_knows above actuals unit here.x known here.gave;
      kinds = sym bare.ports;
      no_signals = bare.signals;
      objects = tt;
    }) (port-fits i unit.ports h e) here.then_gave
