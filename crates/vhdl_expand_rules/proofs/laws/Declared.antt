-- Ports of sound units are soundly joined, and their declarations become sound objects.
use Rattle.std.proofs.Common.{◌≡◌, ℕ, Bool, true, false, not, ◌||◌, List, [], ◌∷◌, ◌++◌, length, Option, Some, None, Ok, All, refl, sym, ap, ◌∙◌, subst, append_assoc}
use Rattle.std.specs.Prelude.{⊤, is_some}
use Rattle.std.specs.List.{AllZip, list_any}
use Rattle.std.proofs.lemmas.Bool.{and_parts}
use Rattle.std.proofs.lemmas.List.{map-append}
use Rattle.std.proofs.lemmas.List.Elements.{All-cons, All-nil, All-append}
use Rattle.vhdl_tree.specs.declared.declaration.Mode.{Mode}
use Rattle.vhdl_tree.specs.declared.declaration.Mode.TheVariants.{In, Out}
use Rattle.rtl_model.specs.bodies.Types.{ElementType, HasType}
use Rattle.vhdl_names_rules.specs.units.Expressions.{SignalPart}
use Rattle.vhdl_names_rules.specs.units.Units as u
use Rattle.vhdl_names_rules.specs.units.Units.{Port, Declaration}
use Rattle.vhdl_names_rules.specs.sound.Expressions.{Inside, shape_of, place_shape, fits_shape}
use Rattle.vhdl_names_rules.specs.sound.Statements.{is_driven}
use Rattle.vhdl_names_rules.specs.sound.Units.{form_fits, fixed_fits, is_variable, declaration_fits, with_declaration, declarations_fit, with_declarations, may_join, actual_fits, actuals_fit}
use Rattle.vhdl_expand_rules.specs.declared.fault.ElabProblem.TheVariants.{GenericRange, Unassociated}
use Rattle.vhdl_expand_rules.specs.Elab.{◌>>=◌, unless, same_length}
use Rattle.vhdl_expand_rules.specs.Integers.{Integers, integer_of, numbers_of, decision}
use Rattle.vhdl_expand_rules.specs.Kinds.{ObjectKind, size, element_type, kind_of}
use Rattle.vhdl_expand_rules.specs.Site.{Site, signal_kind, place_elements}
use Rattle.vhdl_expand_rules.specs.Tree.{internal, Object}
use Rattle.vhdl_expand_rules.specs.Declarations.{fixed_values, object, role_of, InstanceObjects, with_signal, declared, declaration, declarations, is_input, may_flow, association, associations}
use Rattle.vhdl_expand_rules.specs.laws.Sites.{IsOf, IsSite, scope_at}
use Rattle.vhdl_expand_rules.specs.laws.Trees.{object_kinds, object_types, MayBeDriven, is_port, ObjectIsSound}
use Rattle.vhdl_expand_rules.proofs.Steps.{given, ok, bound}
use Rattle.vhdl_expand_rules.proofs.laws.Kinds.{kind_is_of}
use Rattle.vhdl_expand_rules.proofs.laws.Names.{zip_push, each-name-fits, whole}
use Rattle.vhdl_expand_rules.proofs.laws.KnownSites.{Knows, declared_knows, signal_knows}
use Rattle.vhdl_expand_rules.proofs.laws.Tests.{has_shape}
use Rattle.vhdl_expand_rules.proofs.laws.Driven.{IsDeclared, site-types, driven_elements}
use Rattle.vhdl_expand_rules.proofs.laws.Interfaces.{PortObject, constant-site, object-plain, plain-sound}

-- ---- associations

-- a port that is joined, or open, in an instance that stands in one with these objects
pub record Joined (above : List Object) (p : Port) (o : Object) : Type 0 where
  pub role_is : o.role ≡ role_of p.mode
  pub sound : ObjectIsSound above o

pub port-sound : (above : List Object) (p : Port) (o : Object) → PortObject p o → Joined above p o
port-sound above p o h = record { role_is = h.plain.role_is; sound = plain-sound above (role_of p.mode) p.object o h.plain (λ r. h.nine) }

same-list : (xs ys : List ℕ) → Some xs ≡ Some ys → xs ≡ ys
same-list xs ys h = cc

joined-driven : (i : Inside) (m : Mode) (p : SignalPart) → may_join i m p.signal ≡ true → is_input (role_of m) ≡ false → is_driven i p.signal ≡ true
joined-driven i Out p h e = h
joined-driven i In p h e = absurd cc

association-sound : (i : Inside) (here : Site) (at : ℕ) (ps ss : List Object) (p : Port) (actual : Option SignalPart) (o x : Object) → IsDeclared i here ps ss → PortObject p o → actual_fits i p actual ≡ true
    → association here at p actual o ≡ Ok x → (x.kind ≡ o.kind) × Joined (ps ++ ss) p x
unfolding association
association-sound i here at ps ss p None o x h w fit e =
    let a = bound (unless Unassociated at (not (is_input o.role) || is_some p.object.default)) _ x e in
    subst (λ (y : Object). (y.kind ≡ o.kind) × Joined (ps ++ ss) p y) (ok o x a.then_gave) (refl, port-sound (ps ++ ss) p o w)
association-sound i here at ps ss p (Some place) o x h w fit e =
    let both = and_parts (fits_shape (shape_of p.object.form) (place_shape i place)) (may_join i p.mode place.signal) fit in
    let es = bound (place_elements here place) _ x e in
    let a = bound (same_length place.at (length es.x) (size o.kind)) _ x es.then_gave in
    let flows = bound (unless GenericRange place.at (may_flow o.role (signal_kind here place.signal) o.kind)) _ x a.then_gave in
    let n = each-name-fits i here place (shape_of p.object.form) es.x h.site (has_shape (shape_of p.object.form) (place_shape i place) both.0) es.gave in
    let type_is = (whole p.object.form o.kind w.plain.kind).type_is in
    let plain = (port-sound (ps ++ ss) p o w).sound in
    let typed : All (HasType (object_types (ps ++ ss)) (element_type o.kind)) es.x =
    subst (λ (ts : List ElementType). All (HasType ts (element_type o.kind)) es.x) (site-types i here ps ss h)
    (subst (λ (t : ElementType). All (HasType (scope_at here).nets t) es.x) type_is n.typed) in
    subst (λ (y : Object). (y.kind ≡ o.kind) × Joined (ps ++ ss) p y) (ok (record o { actual = Some es.x }) x flows.then_gave) (
      refl,
      record {
        role_is = w.plain.role_is;
        sound = record {
          kind = plain.kind;
          starts = plain.starts;
          ports_are_nine = plain.ports_are_nine;
          resolved_are_nine = plain.resolved_are_nine;
          signals_have_none = λ r. absurd (port-is p.mode (ap is_port (sym w.plain.role_is) ∙ r));
          actual = λ fs q. subst (λ (gs : List ℕ). All (HasType (object_types (ps ++ ss)) (element_type o.kind)) gs) (same-list es.x fs q) typed;
          driven = λ fs q r. subst (λ (gs : List ℕ). All (MayBeDriven (ps ++ ss)) gs) (same-list es.x fs q)
              (driven_elements i here place.at ps ss place.signal place.part es.x h (joined-driven i p.mode place both.1 (ap is_input (sym w.plain.role_is) ∙ r)) es.gave);
        };
      },
    )
  where
    port-is : (m : Mode) → is_port (role_of m) ≡ false → ⊥
    port-is In h = absurd cc
    port-is Out h = absurd cc

pub record AllJoined (above : List Object) (fs : List Port) (os xs : List Object) : Type 0 where
  pub kinds : object_kinds xs ≡ object_kinds os
  pub joined : AllZip (Joined above) fs xs

pub associations-sound : (i : Inside) (here : Site) (at : ℕ) (ps ss : List Object) (fs : List Port) (actuals : List (Option SignalPart)) (os xs : List Object) → IsDeclared i here ps ss → AllZip PortObject fs os
    → actuals_fit i fs actuals ≡ true → associations here at fs actuals os ≡ Ok xs → AllJoined (ps ++ ss) fs os xs
unfolding associations
associations-sound i here at ps ss [] [] [] xs h w fit e = subst (AllJoined (ps ++ ss) [] []) (ok [] xs e) (record { kinds = refl; joined = tt })
associations-sound i here at ps ss [] [] (o ∷ os) xs h w fit e = elim w [ ]
associations-sound i here at ps ss (f ∷ fs) (a ∷ as') [] xs h w fit e = elim w [ ]
associations-sound i here at ps ss (f ∷ fs) (a ∷ as') (o ∷ os) xs h w fit e =
    let both = and_parts (actual_fits i f a) (actuals_fit i fs as') fit in
    let y = bound (association here at f a o) _ xs e in
    let ys = bound (associations here at fs as' os) _ xs y.then_gave in
    let first = association-sound i here at ps ss f a o y.x h w.0 both.0 y.gave in
    let rest = associations-sound i here at ps ss fs as' os ys.x h w.1 both.1 ys.gave in
    subst (AllJoined (ps ++ ss) (f ∷ fs) (o ∷ os)) (ok (y.x ∷ ys.x) xs ys.then_gave) (record {
      kinds = ap (λ (k : ObjectKind). k ∷ object_kinds ys.x) first.0 ∙ ap (λ (ks : List ObjectKind). o.kind ∷ ks) rest.kinds;
      joined = (first.1, rest.joined);
    })
associations-sound i here at ps ss _ _ _ xs h w fit e = absurd cc

-- ---- declarations of an architecture

-- the objects are the ports and these signals, which are sound wherever the instance stands
pub record Stands (i : Inside) (d : InstanceObjects) (ps : List Object) : Type 0 where
  pub signals : List Object
  pub objects : d.objects ≡ ps ++ signals
  pub declared : IsDeclared i d.site ps signals
  pub sound : All (λ (o : Object). (above : List Object) → ObjectIsSound above o) signals
  -- no variable is declared outside of processes
  pub alone : i.variables ≡ []

abbrev pub Anywhere : Object → Type 0
Anywhere o = (above : List Object) → ObjectIsSound above o

-- what is no object
abbrev pub IsPlain : Declaration → Type 0
IsPlain (u.Declaration.signal o) = ⊥
IsPlain (u.Declaration.variable o) = ⊥
IsPlain _ = ⊤

pub record DeclaredSite (j : Inside) (here e : Site) : Type 0 where
  pub site : IsSite j e
  pub ports : e.ports ≡ here.ports
  pub signals : e.signals ≡ here.signals
  pub variables : e.variables ≡ here.variables

-- with more integers and ranges
more-known : (j : Inside) (here : Site) (known : Integers) → IsSite j here → DeclaredSite j here (record here { integers = known })
more-known j here known h = record {
  site = record { constants = h.constants; ports = h.ports; signals = h.signals; variables = h.variables };
  ports = refl;
  signals = refl;
  variables = refl;
}

-- where no more is said to be declared than integers and ranges
fewer : (i : Inside) (here : Site) (m n : ℕ) → IsSite i here → IsSite (record i { integers = m; ranges = n }) here
fewer i here m n h = record { constants = h.constants; ports = h.ports; signals = h.signals; variables = h.variables }

pub declared-site : (x : Declaration) (i : Inside) (here e : Site) → Knows here → IsPlain x → declaration_fits i x ≡ true → IsSite i here → declared here x ≡ Ok e → DeclaredSite (with_declaration i x) here e
unfolding declared
declared-site (u.Declaration.integer at type s) i here e known plain fit h k =
    let x = bound (integer_of type here.integers at s) _ e k in
    subst (DeclaredSite (with_declaration i (u.Declaration.integer at type s)) here) (ok _ e x.then_gave) (more-known _ here _ (fewer i here _ _ h))
declared-site (u.Declaration.truth at t) i here e known plain fit h k =
    let b = bound (decision here.integers t) _ e k in
    subst (DeclaredSite (with_declaration i (u.Declaration.truth at t)) here) (ok _ e b.then_gave) (more-known _ here _ (fewer i here _ _ h))
declared-site (u.Declaration.constant at form f) i here e known plain fit h k =
    let both = and_parts (form_fits i form) (fixed_fits i (shape_of form) f) fit in
    let kind = bound (kind_of here.integers at form) _ e k in
    let vs = bound (fixed_values here at (size kind.x) f) _ e kind.then_gave in
    let of = kind_is_of i here.integers at form kind.x (λ q. known) both.0 kind.gave in
    subst (DeclaredSite (with_declaration i (u.Declaration.constant at form f)) here) (ok _ e vs.then_gave)
    (record { site = constant-site i here form (record { kind = kind.x; values = vs.x }) h of; ports = refl; signals = refl; variables = refl })
declared-site (u.vector_subtype at r) i here e known plain fit h k =
    let kind = bound (kind_of here.integers at (u.vector r)) _ e k in
    subst (DeclaredSite (with_declaration i (u.vector_subtype at r)) here) (ok _ e kind.then_gave) (more-known _ here _ (fewer i here _ _ h))
declared-site (u.integer_subtype at s) i here e known plain fit h k =
    let numbers = bound (numbers_of here.integers at s) _ e k in
    subst (DeclaredSite (with_declaration i (u.integer_subtype at s)) here) (ok _ e numbers.then_gave) (more-known _ here _ (fewer i here _ _ h))
declared-site _ i here e known plain fit h k = absurd plain

pub plain-objects : (x : Declaration) (i : Inside) → IsPlain x → ((with_declaration i x).ports ≡ i.ports) × ((with_declaration i x).variables ≡ i.variables)
plain-objects (u.Declaration.signal o) i plain = absurd plain
plain-objects (u.Declaration.variable o) i plain = absurd plain
plain-objects _ i plain = (refl, refl)

plain-stands : (x : Declaration) (i : Inside) (d e : InstanceObjects) (ps : List Object) → IsPlain x → declaration_fits i x ≡ true → Stands i d ps
    → (declared d.site x >>= λ here. given (record d { site = here })) ≡ Ok e → Stands (with_declaration i x) e ps
plain-stands x i d e ps plain fit h k =
    let here = bound (declared d.site x) _ e k in
    let w = h.declared in
    let s = declared-site x i d.site here.x w.known plain fit w.site here.gave in
    let same = plain-objects x i plain in
    subst (λ (y : InstanceObjects). Stands (with_declaration i x) y ps) (ok _ e here.then_gave) (record {
      signals = h.signals;
      objects = h.objects;
      declared = record {
        site = s.site;
        known = declared_knows x d.site here.x w.known here.gave;
        ports = w.ports ∙ sym s.ports;
        signals = w.signals ∙ sym s.signals;
        roles = subst (λ (fs : List Port). AllZip (λ (p : Port) (o : Object). o.role ≡ role_of p.mode) fs ps) (sym same.0) w.roles;
        internals = w.internals;
      };
      sound = h.sound;
      alone = same.1 ∙ h.alone;
    })

declaration-stands : (x : Declaration) (i : Inside) (d e : InstanceObjects) (ps : List Object) → is_variable x ≡ false → declaration_fits i x ≡ true → Stands i d ps → declaration d x ≡ Ok e
    → Stands (with_declaration i x) e ps
unfolding declaration
declaration-stands (u.Declaration.signal o) i d e ps none fit h k =
    let x = bound (object d.site internal o) _ e k in
    let w = h.declared in
    let plain = object-plain i d.site internal o x.x w.known fit x.gave in
    subst (λ (y : InstanceObjects). Stands (with_declaration i (u.Declaration.signal o)) y ps) (ok (with_signal d x.x) e x.then_gave) (record {
      signals = h.signals ++ x.x ∷ [];
      objects = ap (λ (os : List Object). os ++ x.x ∷ []) h.objects ∙ append_assoc ps h.signals (x.x ∷ []);
      declared = record {
        site = record {
          constants = w.site.constants;
          ports = w.site.ports;
          signals = zip_push IsOf i.signals d.site.signals o.form x.x.kind w.site.signals plain.kind;
          variables = w.site.variables;
        };
        known = signal_knows d o x.x w.known x.gave;
        ports = w.ports;
        signals = map-append (λ (y : Object). y.kind) h.signals (x.x ∷ []) ∙ ap (λ (ks : List ObjectKind). ks ++ x.x.kind ∷ []) w.signals;
        roles = w.roles;
        internals = All-append (λ (y : Object). y.role ≡ internal) h.signals (x.x ∷ []) w.internals
            (All-cons (λ (y : Object). y.role ≡ internal) x.x [] plain.role_is (All-nil (λ (y : Object). y.role ≡ internal)));
      };
      sound = All-append Anywhere h.signals (x.x ∷ []) h.sound
          (All-cons Anywhere x.x [] (λ above. plain-sound above internal o x.x plain (λ r. absurd cc)) (All-nil Anywhere));
      alone = h.alone;
    })
declaration-stands (u.Declaration.variable o) i d e ps none fit h k = absurd cc
declaration-stands x i d e ps none fit h k = plain-stands x i d e ps tt fit h k

-- none of them is such
pub none_such : (p : Declaration → Bool) (x : Declaration) (xs : List Declaration) → not (list_any p (x ∷ xs)) ≡ true → (p x ≡ false) × (not (list_any p xs) ≡ true)
none_such p x xs h = by (p x) (list_any p xs) h
  where
    by : (a b : Bool) → not (a || b) ≡ true → (a ≡ false) × (not b ≡ true)
    by true b h = absurd cc
    by false b h = (refl, h)

pub declarations-stand : (xs : List Declaration) (i : Inside) (d e : InstanceObjects) (ps : List Object) → not (list_any is_variable xs) ≡ true → declarations_fit i xs ≡ true → Stands i d ps
    → declarations d xs ≡ Ok e → Stands (with_declarations i xs) e ps
unfolding declarations
declarations-stand [] i d e ps none fit h k = subst (λ (y : InstanceObjects). Stands i y ps) (ok d e k) h
declarations-stand (x ∷ xs) i d e ps none fit h k =
    let both = and_parts (declaration_fits i x) (declarations_fit (with_declaration i x) xs) fit in
    let no = none_such is_variable x xs none in
    let y = bound (declaration d x) _ e k in
    declarations-stand xs (with_declaration i x) y.x e ps no.1 both.1 (declaration-stands x i d y.x ps no.0 both.0 h y.gave) y.then_gave
