-- Ports and signals, one after another.
use Rattle.std.proofs.Common.{◌≡◌, ℕ, List, [], ◌∷◌, map, Option, Some, Ok, Err, refl, sym, ap, ◌∙◌, subst}
use Rattle.std.specs.Prelude.{◌≢◌, slice_get}
use Rattle.vhdl_tree.specs.declared.declaration.Mode.{Mode}
use Rattle.vhdl_tree.specs.declared.declaration.Mode.TheVariants.{In, Out}
use Rattle.vhdl_names_rules.specs.units.Units as u
use Rattle.vhdl_names_rules.specs.units.Units.{Fixed, Form, Port, Declaration}
use Rattle.vhdl_expand_rules.specs.Elab.{Elab, ◌>>=◌, Told}
use Rattle.vhdl_expand_rules.specs.Kinds.{ObjectKind, kind_of, ranges_of}
use Rattle.vhdl_expand_rules.specs.Site.{Site}
use Rattle.vhdl_expand_rules.specs.Tree.{Role, input, output, internal, Object}
use Rattle.vhdl_expand_rules.specs.Declarations.{InstanceObjects, object, starts, ports, declaration, declarations, role_of, with_port, with_signal}
use Rattle.vhdl_expand_rules.proofs.Steps.{given, ok, bound}
use Rattle.vhdl_expand_rules.proofs.Chains.{err_first}
use Rattle.vhdl_expand_declarations.specs.Objects.{next_object, shape_of, shaped, with_object}
use Rattle.vhdl_expand_declarations.specs.Stepwise.{stepwise}
use Rattle.vhdl_expand_declarations.proofs.Growing.{stays_same, stays_then, More, Grown, kind_stays, starts_stay}
use Rattle.vhdl_expand_declarations.proofs.Grown.{ports_grown, signals_grown, more_ranges}
use Rattle.vhdl_expand_declarations.proofs.Walks.{first_stops}
use Rattle.vhdl_expand_declarations.proofs.Stepping.{goes_alike, of_both, walks_alike}

object-by : (here : Site) (role : Role) (o : u.Object) → object here role o ≡ shape_of here o.at o.form o.default >>= λ (p : ObjectKind × List ℕ). given (shaped p role o)
unfolding object
object-by here role o = of_both (kind_of here.integers o.at o.form) (λ kind. starts here o.at kind o.default) (λ kind vs. shaped (kind, vs) role o)

-- what is made of an object that is given
made : (r : Elab (ObjectKind × List ℕ)) (o : u.Object) (role : Role) (f g : Object → InstanceObjects) → ((p : ObjectKind × List ℕ) → f (shaped p role o) ≡ g (shaped p role o))
    → ((r >>= λ (p : ObjectKind × List ℕ). given (shaped p role o)) >>= λ x. given (f x)) ≡ ((r >>= λ (p : ObjectKind × List ℕ). given (shaped p role o)) >>= λ x. given (g x))
made (Ok p) o role f g h = ap given (h p)
made (Err p) o role f g h = refl

made-of-object : (here : Site) (o : u.Object) (role : Role) (f g : Object → InstanceObjects) → ((p : ObjectKind × List ℕ) → f (shaped p role o) ≡ g (shaped p role o))
    → (object here role o >>= λ x. given (f x)) ≡ (object here role o >>= λ x. given (g x))
made-of-object here o role f g h =
    ap (λ r. r >>= λ x. given (f x)) (object-by here role o) ∙ made (shape_of here o.at o.form o.default) o role f g h ∙ ap (λ r. r >>= λ x. given (g x)) (sym (object-by here role o))

-- ---- one more object

pub object_given : (d : InstanceObjects) (role : Role) (o : u.Object) (p : ObjectKind × List ℕ) (x : Object) (new : InstanceObjects) → shape_of d.site o.at o.form o.default ≡ Ok p
    → x ≡ shaped p role o → new ≡ with_object d x → next_object role d o ≡ Ok new
object_given d role o p x new h e f =
    ap (λ r. r >>= λ y. given (with_object d y)) (object-by d.site role o ∙ ap (λ r. r >>= λ (q : ObjectKind × List ℕ). given (shaped q role o)) h)
    ∙ ap (λ y. given (with_object d y)) (sym e) ∙ ap given (sym f)

pub object_refused : {told : Told} → (d : InstanceObjects) (role : Role) (o : u.Object) → (shape_of d.site o.at o.form o.default) ≡ Err told → (next_object role d o) ≡ Err told
object_refused {told} d role o h =
    err_first (object d.site role o) (λ y. given (with_object d y))
    (subst (λ (r : Elab Object). r ≡ Err told) (sym (object-by d.site role o)) (err_first (shape_of d.site o.at o.form o.default) (λ (q : ObjectKind × List ℕ). given (shaped q role o)) h))

-- what is declared before an object that is a port is no signal
abbrev pub MayHold : Role → InstanceObjects → Type 0
MayHold role d = role ≢ internal → d.site.signals ≡ []

grown : (d : InstanceObjects) (x : Object) → MayHold x.role d → Grown d.site (with_object d x).site
grown d x none = by x.role none
  where
    more : More d.site.integers (with_port d x).site.integers
    more = more_ranges d.site.integers (ranges_of x.kind)

    by : (role : Role) → MayHold role d → Grown d.site (with_object d (record x { role = role })).site
    by input h = ports_grown d.site (with_port d x).site.integers more (x.kind ∷ []) (h (λ e. absurd cc))
    by output h = ports_grown d.site (with_port d x).site.integers more (x.kind ∷ []) (h (λ e. absurd cc))
    by internal h = signals_grown d.site (with_signal d x).site.integers more (x.kind ∷ [])

-- the next object of the declaration is like it
pub shape_stays : (d new : InstanceObjects) (x : Object) (at : ℕ) (form : Form) (default : Option Fixed) (p : ObjectKind × List ℕ) → MayHold x.role d → new ≡ with_object d x
    → shape_of d.site at form default ≡ Ok p → shape_of new.site at form default ≡ Ok p
shape_stays d new x at form default p none e h =
    let more = (with_object d x).site in
    let g = grown d x none in
    ap (λ (n : InstanceObjects). shape_of n.site at form default) e
    ∙ stays_then (kind_of d.site.integers at form) (kind_of more.integers at form) _ (λ kind. starts more at kind default >>= λ vs. given (kind, vs))
    (kind_stays d.site.integers more.integers g.integers at form) (λ kind.
    stays_then (starts d.site at kind default) (starts more at kind default) _ (λ vs. given (kind, vs))
    (starts_stay d.site more g at kind default) (λ vs. stays_same _)) p h

pub first_refused : {told : Told} → {X : Type 0} (role : Role) (d : InstanceObjects) (v : X → u.Object) (xs : List X) (x : X) → slice_get xs 0 ≡ Some x
    → (shape_of d.site (v x).at (v x).form (v x).default) ≡ Err told → (stepwise (next_object role) d (map v xs)) ≡ Err told
first_refused role d v xs x h e = first_stops (next_object role) v d xs x h (object_refused d role (v x) e)

-- ---- ports

abbrev pub next_port : InstanceObjects → Port → Elab InstanceObjects
next_port d p = object d.site (role_of p.mode) p.object >>= λ o. given (with_port d o)

-- which declare no signal
pub port_holds : (role : Role) → role ≢ internal → (d e : InstanceObjects) (o : u.Object) → d.site.signals ≡ [] → next_object role d o ≡ Ok e → e.site.signals ≡ []
port_holds role port d e o none h =
    let x = bound (object d.site role o) _ e h in
    let p = bound (shape_of d.site o.at o.form o.default) (λ (p : ObjectKind × List ℕ). given (shaped p role o)) x.x (sym (object-by d.site role o) ∙ x.gave) in
    ap (λ (y : InstanceObjects). y.site.signals) (sym (ok (with_object d x.x) e x.then_gave))
    ∙ ap (λ (y : Object). (with_object d y).site.signals) (sym (ok (shaped p.x role o) x.x p.then_gave)) ∙ held (shaped p.x role o) role port
  where
    held : (x : Object) (r : Role) → r ≢ internal → (with_object d (record x { role = r })).site.signals ≡ []
    held x input k = none
    held x output k = none
    held x internal k = absurd (k refl)

pub ports_hold : (role : Role) → role ≢ internal → (d e : InstanceObjects) (os : List u.Object) → d.site.signals ≡ [] → stepwise (next_object role) d os ≡ Ok e → e.site.signals ≡ []
ports_hold role port d e [] none h = ap (λ (x : InstanceObjects). x.site.signals) (sym (ok d e h)) ∙ none
ports_hold role port d e (o ∷ os) none h =
    let next = bound (next_object role d o) _ e h in
    ports_hold role port next.x e os (port_holds role port d next.x o none next.gave) next.then_gave

pub role_port : (mode : Mode) → role_of mode ≢ internal
role_port In e = absurd cc
role_port Out e = absurd cc

pub ports_walk : (d : InstanceObjects) (ps : List Port) → ports d ps ≡ stepwise next_port d ps
unfolding ports
ports_walk d [] = refl
ports_walk d (p ∷ ps) = go (object d.site (role_of p.mode) p.object) (λ o. ports_walk (with_port d o) ps)
  where
    go : (r : Elab Object) → ((o : Object) → ports (with_port d o) ps ≡ stepwise next_port (with_port d o) ps)
        → (r >>= λ o. ports (with_port d o) ps) ≡ (r >>= λ o. given (with_port d o)) >>= λ t. stepwise next_port t ps
    go (Ok o) h = h o
    go (Err q) h = refl

pub port_objects : (mode : Mode) (d : InstanceObjects) (os : List u.Object)
    → stepwise next_port d (map (λ o. record { mode = mode; object = o }) os) ≡ stepwise (next_object (role_of mode)) d os
port_objects In d os = walks_alike (next_object input) next_port (λ o. record { mode = In; object = o })
    (λ s o. made-of-object s.site o input (with_port s) (with_object s) (λ p. refl)) d os
port_objects Out d os = walks_alike (next_object output) next_port (λ o. record { mode = Out; object = o })
    (λ s o. made-of-object s.site o output (with_port s) (with_object s) (λ p. refl)) d os

-- ---- declarations

pub declarations_walk : (d : InstanceObjects) (xs : List Declaration) → declarations d xs ≡ stepwise declaration d xs
unfolding declarations
declarations_walk d [] = refl
declarations_walk d (x ∷ xs) = goes_alike (declaration d x) (λ e. declarations e xs) (λ e. stepwise declaration e xs) (λ e. declarations_walk e xs)

signal-objects : (s : InstanceObjects) (o : u.Object) → declaration s (u.Declaration.signal o) ≡ next_object internal s o
unfolding declaration
signal-objects s o = made-of-object s.site o internal (with_signal s) (with_object s) (λ p. refl)

pub signals_walk : (d : InstanceObjects) (os : List u.Object) → declarations d (map u.Declaration.signal os) ≡ stepwise (next_object internal) d os
signals_walk d os = declarations_walk d (map u.Declaration.signal os) ∙ walks_alike (next_object internal) declaration u.Declaration.signal signal-objects d os
