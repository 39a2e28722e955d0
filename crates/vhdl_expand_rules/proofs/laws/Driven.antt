-- What stands declared where a statement stands, and that the elements of a name that may be driven are no in port's.
use Rattle.std.proofs.Common.{◌≡◌, ℕ, zero, suc, ◌+◌, ◌<◌, true, List, [], ◌∷◌, ◌++◌, length, map, replicate, take, Option, Some, None, Ok, All, refl, sym, ap, ◌∙◌, subst, arith}
use Rattle.std.specs.Prelude.{slice_get}
use Rattle.std.specs.List.{AllZip}
use Rattle.std.proofs.lemmas.Option.{same_Some}
use Rattle.std.proofs.lemmas.List.{length-append, length-replicate, map-append, append_assoc}
use Rattle.std.proofs.lemmas.List.Elements.{All-map, All-weaker, All-head, All-tail}
use Rattle.vhdl_tree.specs.declared.declaration.Mode.{Mode}
use Rattle.vhdl_tree.specs.declared.declaration.Mode.TheVariants.{In, Out}
use Rattle.rtl_model.specs.bodies.Types.{ElementType}
use Rattle.vhdl_names_rules.specs.units.Expressions as u
use Rattle.vhdl_names_rules.specs.units.Expressions.{Signal, Part}
use Rattle.vhdl_names_rules.specs.units.Units.{Port}
use Rattle.vhdl_names_rules.specs.sound.Expressions.{Inside}
use Rattle.vhdl_names_rules.specs.sound.Statements.{is_out, is_driven}
use Rattle.vhdl_expand_rules.specs.declared.fault.ElabProblem.TheVariants.{Index}
use Rattle.vhdl_expand_rules.specs.Elab.{item_or}
use Rattle.vhdl_expand_rules.specs.Integers.{Integers}
use Rattle.vhdl_expand_rules.specs.Kinds.{ObjectKind, size, element_type, places}
use Rattle.vhdl_expand_rules.specs.Site.{Site, elements_count, part_elements, signal_elements}
use Rattle.vhdl_expand_rules.specs.Tree.{Role, output, internal, Object}
use Rattle.vhdl_expand_rules.specs.Declarations.{role_of}
use Rattle.vhdl_expand_rules.specs.laws.Sites.{IsSite, kinds_types}
use Rattle.vhdl_expand_rules.specs.laws.Trees.{object_kinds, object_types, object_roles, MayBeDriven}
use Rattle.vhdl_expand_rules.proofs.Steps.{ok, bound}
use Rattle.vhdl_expand_rules.proofs.laws.Names.{was_found, zip_at, get-past, get-before, get-replicate, count-cons}
use Rattle.vhdl_expand_rules.proofs.laws.Prefixes.{places_below}
use Rattle.vhdl_expand_rules.proofs.laws.KnownSites.{Knows}

-- What is known of a site, whose ports and signals are these objects.
pub record IsDeclared (i : Inside) (here : Site) (ps ss : List Object) : Type 0 where
  pub site : IsSite i here
  pub known : Knows here
  pub ports : object_kinds ps ≡ here.ports
  pub signals : object_kinds ss ≡ here.signals
  pub roles : AllZip (λ (p : Port) (o : Object). o.role ≡ role_of p.mode) i.ports ps
  pub internals : All (λ (o : Object). o.role ≡ internal) ss

-- ---- roles of elements

pub length-roles : (os : List Object) → length (object_roles os) ≡ elements_count (object_kinds os)
length-roles [] = refl
length-roles (o ∷ os) =
    length-append (replicate (size o.kind) o.role) (object_roles os) ∙ ap (λ n. n + length (object_roles os)) (length-replicate (size o.kind) o.role)
    ∙ ap (λ n. size o.kind + n) (length-roles os) ∙ sym (count-cons o.kind (object_kinds os))

plus-assoc : (a b c : ℕ) → a + b + c ≡ a + (b + c)
plus-assoc a b c = omega arith

pub role_at : (os : List Object) (n : ℕ) (o : Object) (p : ℕ) → slice_get os n ≡ Some o → p < size o.kind → slice_get (object_roles os) (elements_count (take n (object_kinds os)) + p) ≡ Some o.role
role_at [] n o p h l = absurd cc
role_at (q ∷ os) zero o p h l =
    let same : q ≡ o = same_Some q o h in
    ap (slice_get (object_roles (q ∷ os))) (let e : 0 + p ≡ p = omega arith in e)
    ∙ subst (λ (x : Object). slice_get (replicate (size x.kind) x.role ++ object_roles os) p ≡ Some o.role) (sym same)
    (get-before (replicate (size o.kind) o.role) (object_roles os) p o.role (get-replicate (size o.kind) o.role p l))
role_at (q ∷ os) (suc n) o p h l =
    let front : List Role = replicate (size q.kind) q.role in
    let len : length front ≡ size q.kind = length-replicate (size q.kind) q.role in
    let c : ℕ = elements_count (take n (object_kinds os)) in
    let here : elements_count (q.kind ∷ take n (object_kinds os)) + p ≡ length front + (c + p) =
    ap (λ m. m + p) (count-cons q.kind (take n (object_kinds os))) ∙ plus-assoc (size q.kind) c p ∙ ap (λ m. m + (c + p)) (sym len) in
    ap (slice_get (front ++ object_roles os)) here ∙ get-past front (object_roles os) (c + p) ∙ role_at os n o p h l

pub roles-append : (ps ss : List Object) → object_roles (ps ++ ss) ≡ object_roles ps ++ object_roles ss
roles-append [] ss = refl
roles-append (p ∷ ps) ss =
    ap (λ (rs : List Role). replicate (size p.kind) p.role ++ rs) (roles-append ps ss) ∙ sym (append_assoc (replicate (size p.kind) p.role) (object_roles ps) (object_roles ss))

types-of-append : (ks js : List ObjectKind) → kinds_types (ks ++ js) ≡ kinds_types ks ++ kinds_types js
types-of-append [] js = refl
types-of-append (k ∷ ks) js =
    ap (λ (ts : List ElementType). replicate (size k) (element_type k) ++ ts) (types-of-append ks js) ∙ sym (append_assoc (replicate (size k) (element_type k)) (kinds_types ks) (kinds_types js))

-- the types of the elements of these objects are those that the site has
pub site-types : (i : Inside) (here : Site) (ps ss : List Object) → IsDeclared i here ps ss → kinds_types here.ports ++ kinds_types here.signals ≡ object_types (ps ++ ss)
site-types i here ps ss h =
    ap (λ (ks : List ObjectKind). kinds_types ks ++ kinds_types here.signals) (sym h.ports) ∙ ap (λ (ks : List ObjectKind). kinds_types (object_kinds ps) ++ kinds_types ks) (sym h.signals)
    ∙ sym (types-of-append (object_kinds ps) (object_kinds ss)) ∙ ap kinds_types (sym (map-append (λ (o : Object). o.kind) ps ss))

count-append : (ks js : List ObjectKind) → elements_count (ks ++ js) ≡ elements_count ks + elements_count js
count-append [] js = let e : (n : ℕ) → n ≡ 0 + n = λ n. omega arith in e (elements_count js)
count-append (k ∷ ks) js =
    count-cons k (ks ++ js) ∙ ap (λ n. size k + n) (count-append ks js) ∙ sym (plus-assoc (size k) (elements_count ks) (elements_count js))
    ∙ ap (λ n. n + elements_count js) (sym (count-cons k ks))

pub site-count : (i : Inside) (here : Site) (ps ss : List Object) → IsDeclared i here ps ss → elements_count here.ports + elements_count here.signals ≡ elements_count (object_kinds (ps ++ ss))
site-count i here ps ss h =
    ap (λ (ks : List ObjectKind). elements_count ks + elements_count here.signals) (sym h.ports) ∙ ap (λ (ks : List ObjectKind). elements_count (object_kinds ps) + elements_count ks) (sym h.signals)
    ∙ sym (count-append (object_kinds ps) (object_kinds ss)) ∙ ap elements_count (sym (map-append (λ (o : Object). o.kind) ps ss))

-- ---- elements of a part

part-all : (P : ℕ → Type 0) (here : Integers) (at from : ℕ) (kinds : List ObjectKind) (n : ℕ) (part : Part) (es : List ℕ) → part_elements here at from kinds n part ≡ Ok es
    → ((kind : ObjectKind) (p : ℕ) → slice_get kinds n ≡ Some kind → p < size kind → P (from + elements_count (take n kinds) + p)) → All P es
part-all P here at from kinds n part es h go =
    let kind = bound (item_or Index at (slice_get kinds n)) _ es h in
    let ps = bound (places here at kind.x part) _ es kind.then_gave in
    let f : ℕ → ℕ = λ p. from + elements_count (take n kinds) + p in
    subst (All P) (ok (map f ps.x) es ps.then_gave)
    (All-map P f ps.x (All-weaker (λ p. p < size kind.x) (λ p. P (f p)) (λ p l. go kind.x p (was_found Index at (slice_get kinds n) kind.x kind.gave) l) ps.x (places_below here at kind.x part ps.x ps.gave)))

-- the object of this number, where there is a kind
record AnObject (os : List Object) (n : ℕ) (k : ObjectKind) : Type 0 where
  object : Object
  is : slice_get os n ≡ Some object
  kind_is : object.kind ≡ k

an-object : (os : List Object) (n : ℕ) (k : ObjectKind) → slice_get (object_kinds os) n ≡ Some k → AnObject os n k
an-object [] n k h = absurd cc
an-object (o ∷ os) zero k h = record { object = o; is = refl; kind_is = same_Some o.kind k h }
an-object (o ∷ os) (suc n) k h = let a = an-object os n k h in record { object = a.object; is = a.is; kind_is = a.kind_is }

all-at : (P : Object → Type 0) (os : List Object) (n : ℕ) (o : Object) → All P os → slice_get os n ≡ Some o → P o
all-at P [] n o h e = absurd cc
all-at P (q ∷ os) zero o h e = subst P (same_Some q o e) (All-head P q os h)
all-at P (q ∷ os) (suc n) o h e = all-at P os n o (All-tail P q os h) e

record OutPort (i : Inside) (n : ℕ) : Type 0 where
  port : Port
  is : slice_get i.ports n ≡ Some port
  role : role_of port.mode ≡ output

out-port : (i : Inside) (n : ℕ) → is_driven i (u.port n) ≡ true → OutPort i n
out-port i n h = by (slice_get i.ports n) refl h
  where
    of : (p : Port) (m : Mode) → p.mode ≡ m → is_out (Some p) ≡ true → role_of p.mode ≡ output
    of p Out e k = ap role_of e
    of p In e k = absurd (let f : is_out (Some (record p { mode = In })) ≡ true = subst (λ (m : Mode). is_out (Some (record p { mode = m })) ≡ true) e k in cc)

    by : (o : Option Port) → slice_get i.ports n ≡ o → is_out o ≡ true → OutPort i n
    by None e k = absurd cc
    by (Some p) e k = record { port = p; is = e; role = of p p.mode refl k }

none-plus : (n : ℕ) → 0 + n ≡ n
none-plus n = omega arith

pub driven_elements : (i : Inside) (here : Site) (at : ℕ) (ps ss : List Object) (x : Signal) (part : Part) (es : List ℕ) → IsDeclared i here ps ss → is_driven i x ≡ true → signal_elements here at x part ≡ Ok es
    → All (MayBeDriven (ps ++ ss)) es
unfolding signal_elements
driven_elements i here at ps ss (u.port n) part es h d e =
    let out = out-port i n d in
    let there : part_elements here.integers at 0 (object_kinds ps) n part ≡ Ok es = ap (λ (ks : List ObjectKind). part_elements here.integers at 0 ks n part) h.ports ∙ e in
    part-all (MayBeDriven (ps ++ ss)) here.integers at 0 (object_kinds ps) n part es there (λ kind p k l.
    let a = an-object ps n kind k in
    let role : a.object.role ≡ output = zip_at (λ (q : Port) (o : Object). o.role ≡ role_of q.mode) i.ports ps n out.port a.object h.roles out.is a.is ∙ out.role in
    let c : ℕ = elements_count (take n (object_kinds ps)) in (
      output,
      ap (λ (rs : List Role). slice_get rs (0 + c + p)) (roles-append ps ss)
          ∙ get-before (object_roles ps) (object_roles ss) (0 + c + p) output
          (ap (λ m. slice_get (object_roles ps) (m + p)) (none-plus c)
          ∙ role_at ps n a.object p a.is (subst (λ (q : ObjectKind). p < size q) (sym a.kind_is) l) ∙ ap Some role),
      refl,
    ))
driven_elements i here at ps ss (u.Signal.signal n) part es h d e =
    let from : ℕ = elements_count (object_kinds ps) in
    let there : part_elements here.integers at from (object_kinds ss) n part ≡ Ok es =
    ap (λ (ks : List ObjectKind). part_elements here.integers at (elements_count ks) (object_kinds ss) n part) h.ports ∙ ap (λ (ks : List ObjectKind). part_elements here.integers at (elements_count here.ports) ks n part) h.signals ∙ e in
    part-all (MayBeDriven (ps ++ ss)) here.integers at from (object_kinds ss) n part es there (λ kind p k l.
    let a = an-object ss n kind k in
    let role : a.object.role ≡ internal = all-at (λ (o : Object). o.role ≡ internal) ss n a.object h.internals a.is in
    let c : ℕ = elements_count (take n (object_kinds ss)) in (
      internal,
      ap (λ (rs : List Role). slice_get rs (from + c + p)) (roles-append ps ss)
          ∙ ap (slice_get (object_roles ps ++ object_roles ss)) (plus-assoc from c p ∙ ap (λ m. m + (c + p)) (sym (length-roles ps)))
          ∙ get-past (object_roles ps) (object_roles ss) (c + p)
          ∙ role_at ss n a.object p a.is (subst (λ (q : ObjectKind). p < size q) (sym a.kind_is) l) ∙ ap Some role,
      refl,
    ))
