-- What is known where an instance and a process declare lies within the integers, where it does above.
use Rattle.std.proofs.Common.{◌≡◌, ℕ, Bool, true, false, List, [], ◌∷◌, ◌++◌, Option, Some, None, Ok, All, refl, subst}
use Rattle.std.specs.Prelude.{ℤ}
use Rattle.std.proofs.lemmas.List.Elements.{All-cons, All-nil, All-append}
use Rattle.vhdl_names_rules.specs.units.Units as u
use Rattle.vhdl_names_rules.specs.units.Units.{Fixed, GenericType, Generic, Port, Declaration, Entity}
use Rattle.vhdl_expand_rules.specs.declared.fault.ElabProblem.TheVariants.{NoGeneric}
use Rattle.vhdl_expand_rules.specs.Elab.{item_or}
use Rattle.vhdl_expand_rules.specs.Integers.{IntegerRange, Numbers, of_type, of_range, numbers_of, integer_among, integer_of, decision}
use Rattle.vhdl_expand_rules.specs.Kinds.{size, ranges_of, kind_of}
use Rattle.vhdl_expand_rules.specs.Site.{Constant, Site, no_site, with_ranges, in_generate}
use Rattle.vhdl_expand_rules.specs.Tree.{Role, internal, Object, Variable}
use Rattle.vhdl_expand_rules.specs.Declarations as declares
use Rattle.vhdl_expand_rules.specs.Declarations.{first_of, rest_of, position_of, generic_values, valued_generic, generic, generics, fixed_values, starts, object, role_of, InstanceObjects, with_port, with_signal, ports, with_integer, numbers_ranges, declared, variable, ProcessVariables, with_variable}
use Rattle.vhdl_expand_rules.proofs.Steps.{ok, bound}
use Rattle.vhdl_expand_rules.proofs.Digits.{IsInteger, AreIntegral}
use Rattle.vhdl_expand_rules.proofs.laws.Known.{AreIntegers, AreNumbers, numbers_has, among_has, integer_of_has, kind_has}

abbrev pub Knows : Site → Type 0
Knows here = AreIntegers here.integers

pub knows_nothing : Knows no_site
knows_nothing = record {
  generics = All-nil IsInteger;
  constants = All-nil IsInteger;
  generates = All-nil IsInteger;
  loops = All-nil IsInteger;
  ranges = All-nil AreIntegral;
}

-- ---- more that is known

one-more : (xs : List ℤ) (x : ℤ) → All IsInteger xs → IsInteger x → All IsInteger (xs ++ x ∷ [])
one-more xs x h k = All-append IsInteger xs (x ∷ []) h (All-cons IsInteger x [] k (All-nil IsInteger))

more-ranges : (here : Site) (rs : List IntegerRange) → Knows here → All AreIntegral rs → Knows (with_ranges here rs)
more-ranges here rs h k = record {
  generics = h.generics;
  constants = h.constants;
  generates = h.generates;
  loops = h.loops;
  ranges = All-append AreIntegral here.integers.ranges rs h.ranges k;
}

more-generics : (here : Site) (x : ℤ) → Knows here → IsInteger x → Knows (declares.with_generic here x)
more-generics here x h k = record {
  generics = one-more here.integers.generics x h.generics k;
  constants = h.constants;
  generates = h.generates;
  loops = h.loops;
  ranges = h.ranges;
}

more-integers : (here : Site) (x : ℤ) → Knows here → IsInteger x → Knows (with_integer here x)
more-integers here x h k = record {
  generics = h.generics;
  constants = one-more here.integers.constants x h.constants k;
  generates = h.generates;
  loops = h.loops;
  ranges = h.ranges;
}

pub generate_knows : (here : Site) (x : ℤ) → Knows here → IsInteger x → Knows (in_generate here x)
generate_knows here x h k = record {
  generics = h.generics;
  constants = h.constants;
  generates = one-more here.integers.generates x h.generates k;
  loops = h.loops;
  ranges = h.ranges;
}

more-constants : (here : Site) (c : Constant) → Knows here → All AreIntegral (ranges_of c.kind) → Knows (declares.with_constant here c)
more-constants here c h k = more-ranges (record here { constants = here.constants ++ c ∷ [] }) (ranges_of c.kind) h k

position-has : (b : Bool) → IsInteger (position_of b)
position-has true = refl
position-has false = refl

-- ---- generics

valued-knows : (from own here : Site) (at : ℕ) (type : GenericType) (f : Fixed) → Knows from → Knows own → valued_generic from own at type f ≡ Ok here → Knows here
valued-knows from own here at (u.integers type) (u.Fixed.integer s) h k e =
    let numbers = bound (numbers_of own.integers at type) _ here e in
    let x = bound (integer_among from.integers at numbers.x s) _ here numbers.then_gave in
    subst Knows (ok (declares.with_generic own x.x) here x.then_gave) (more-generics own x.x k (among_has from.integers h at numbers.x s x.x x.gave))
valued-knows from own here at u.truths (u.Fixed.truth t) h k e =
    let b = bound (decision from.integers t) _ here e in
    subst Knows (ok (declares.with_generic own (position_of b.x)) here b.then_gave) (more-generics own (position_of b.x) k (position-has b.x))
valued-knows from own here at (u.values form) f h k e =
    let kind = bound (kind_of own.integers at form) _ here e in
    let vs = bound (generic_values from at kind.x f) _ here kind.then_gave in
    let c : Constant = record { kind = kind.x; values = vs.x } in
    subst Knows (ok (declares.with_constant own c) here vs.then_gave) (more-constants own c k (kind_has own.integers k at form kind.x kind.gave))
valued-knows from own here at _ f h k e = absurd cc

generic-knows : (above own here : Site) (actual : Option Fixed) (g : Generic) → Knows above → Knows own → generic above own actual g ≡ Ok here → Knows here
generic-knows above own here (Some actual) g h k e = valued-knows above own here g.at g.type actual h k e
generic-knows above own here None g h k e =
    let default = bound (item_or NoGeneric g.at g.default) _ here e in
    valued-knows own own here g.at g.type default.x k k default.then_gave

generics-know : (gs : List Generic) (above own here : Site) (actuals : List (Option Fixed)) → Knows above → Knows own → generics above own actuals gs ≡ Ok here → Knows here
unfolding generics
generics-know [] above own here actuals h k e = subst Knows (ok own here e) k
generics-know (g ∷ gs) above own here actuals h k e =
    let next = bound (generic above own (first_of actuals) g) _ here e in
    generics-know gs above next.x here (rest_of actuals) h (generic-knows above own next.x (first_of actuals) g h k next.gave) next.then_gave

pub site_knows : (above : Site) (actuals : List (Option Fixed)) (unit : Entity) (here : Site) → Knows above → generics above no_site actuals unit.generics ≡ Ok here → Knows here
site_knows above actuals unit here h e = generics-know unit.generics above no_site here actuals h knows_nothing e

-- ---- ports, signals and variables

object-ranges : (here : Site) (role : Role) (o : u.Object) (x : Object) → Knows here → object here role o ≡ Ok x → All AreIntegral (ranges_of x.kind)
unfolding object
object-ranges here role o x h e =
    let k = bound (kind_of here.integers o.at o.form) _ x e in
    let vs = bound (starts here o.at k.x o.default) _ x k.then_gave in
    subst (λ (y : Object). All AreIntegral (ranges_of y.kind)) (ok _ x vs.then_gave) (kind_has here.integers h o.at o.form k.x k.gave)

pub port_knows : (d : InstanceObjects) (p : Port) (o : Object) → Knows d.site → object d.site (role_of p.mode) p.object ≡ Ok o → Knows (with_port d o).site
port_knows d p o h e =
    more-ranges (record d.site { ports = d.site.ports ++ o.kind ∷ [] }) (ranges_of o.kind) h (object-ranges d.site (role_of p.mode) p.object o h e)

pub signal_knows : (d : InstanceObjects) (o : u.Object) (x : Object) → Knows d.site → object d.site internal o ≡ Ok x → Knows (with_signal d x).site
signal_knows d o x h e =
    more-ranges (record d.site { signals = d.site.signals ++ x.kind ∷ [] }) (ranges_of x.kind) h (object-ranges d.site internal o x h e)

pub variable_knows : (d : ProcessVariables) (o : u.Object) (v : Variable) → Knows d.site → variable d.site o ≡ Ok v → Knows (with_variable d v).site
unfolding variable
variable_knows d o v h e =
    let k = bound (kind_of d.site.integers o.at o.form) _ v e in
    let vs = bound (starts d.site o.at k.x o.default) _ v k.then_gave in
    more-ranges (record d.site { variables = d.site.variables ++ v.kind ∷ [] }) (ranges_of v.kind) h
    (subst (λ (w : Variable). All AreIntegral (ranges_of w.kind)) (ok _ v vs.then_gave) (kind_has d.site.integers h o.at o.form k.x k.gave))

-- ---- constants and subtypes

ranges-have : (n : Numbers) → AreNumbers n → All AreIntegral (numbers_ranges n)
ranges-have (of_type w) h = All-nil AreIntegral
ranges-have (of_range r) h = All-cons AreIntegral r [] h (All-nil AreIntegral)

pub declared_knows : (x : Declaration) (here e : Site) → Knows here → declared here x ≡ Ok e → Knows e
unfolding declared
declared_knows (u.Declaration.integer at type s) here e h k =
    let x = bound (integer_of type here.integers at s) _ e k in
    subst Knows (ok (with_integer here x.x) e x.then_gave) (more-integers here x.x h (integer_of_has type here.integers h at s x.x x.gave))
declared_knows (u.Declaration.truth at t) here e h k =
    let b = bound (decision here.integers t) _ e k in
    subst Knows (ok (with_integer here (position_of b.x)) e b.then_gave) (more-integers here (position_of b.x) h (position-has b.x))
declared_knows (u.Declaration.constant at form f) here e h k =
    let kind = bound (kind_of here.integers at form) _ e k in
    let vs = bound (fixed_values here at (size kind.x) f) _ e kind.then_gave in
    let c : Constant = record { kind = kind.x; values = vs.x } in
    subst Knows (ok (declares.with_constant here c) e vs.then_gave) (more-constants here c h (kind_has here.integers h at form kind.x kind.gave))
declared_knows (u.vector_subtype at r) here e h k =
    let kind = bound (kind_of here.integers at (u.vector r)) _ e k in
    subst Knows (ok (with_ranges here (ranges_of kind.x)) e kind.then_gave) (more-ranges here (ranges_of kind.x) h (kind_has here.integers h at (u.vector r) kind.x kind.gave))
declared_knows (u.integer_subtype at s) here e h k =
    let numbers = bound (numbers_of here.integers at s) _ e k in
    subst Knows (ok (with_ranges here (numbers_ranges numbers.x)) e numbers.then_gave)
    (more-ranges here (numbers_ranges numbers.x) h (ranges-have numbers.x (numbers_has here.integers h at s numbers.x numbers.gave)))
declared_knows (u.Declaration.signal o) here e h k = subst Knows (ok here e k) h
declared_knows (u.Declaration.variable o) here e h k = subst Knows (ok here e k) h
