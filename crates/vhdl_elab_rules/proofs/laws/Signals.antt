-- Signals fit their netlist: the nets of a name are those of its elements.
use Rattle.std.proofs.Common.{◌≡◌, ℕ, zero, suc, ◌+◌, ◌-◌, ◌<◌, ◌≤◌, Bool, cond, List, [], ◌∷◌, ◌++◌, length, map, replicate, All, refl, sym, ap, ◌∙◌, subst, arith, append_assoc, ◌⊎◌, inl, inr}
use Rattle.std.specs.Prelude.{max, min, pos, ◌-ℤ◌, nat_abs, slice_range, flat_map}
use Rattle.std.specs.List.{AllZip, enumerate_from}
use Rattle.std.proofs.lemmas.Bool.{cases_lt, lt-ltb}
use Rattle.std.proofs.lemmas.List.{length-append, length-map, length-replicate}
use Rattle.std.proofs.lemmas.List.Elements.{All-nil, All-cons, All-append, All-head, All-tail}
use Rattle.vhdl_tree.specs.declared.operator.Direction.{Direction}
use Rattle.vhdl_tree.specs.declared.operator.Direction.TheVariants.{To, Downto}
use Rattle.rtl_model.specs.bodies.Types.{ElementType, HasType}
use Rattle.rtl_model.specs.bodies.Fits.{IsWidth}
use Rattle.rtl_net.specs.Elaborated.{width_of}
use Rattle.vhdl_expand_rules.specs.Integers.{extent}
use Rattle.vhdl_expand_rules.specs.Kinds.{ObjectKind, vector, size, element_type}
use Rattle.vhdl_expand_rules.specs.Tree.{Object, Variable}
use Rattle.vhdl_expand_rules.specs.Expansion.{expanded_design}
use Rattle.vhdl_expand_rules.specs.laws.Trees.{IsKind, object_types, ObjectIsSound, VariableIsSound}
use Rattle.vhdl_expand_rules.proofs.Steps.{bound}
use Rattle.vhdl_expand_rules.proofs.laws.Kinds.{width_of_kind}
use Rattle.vhdl_expand_rules.proofs.laws.Places.{extent-to, extent-downto}
use Rattle.vhdl_elab_rules.specs.Numbering.{Placed, Numbered, numbered_design, Located}
use Rattle.vhdl_elab_rules.specs.Wiring.{flat_variable, flat_process, flat_net}
use Rattle.vhdl_elab_rules.specs.Names.{scope_of, is_port_role, signals_from, signals_of, named_variable, named_process}
use Rattle.vhdl_elab_rules.specs.Elaboration.{Elaborated, net_of, elaborated_net}
use Rattle.vhdl_elab_rules.specs.laws.Signals.{kind_view, SignalFits, EachSignalFits, VariableFits, VariablesFit, EachVariableFits}
use Rattle.vhdl_elab_rules.proofs.Segments.{segment}
use Rattle.vhdl_elab_rules.proofs.laws.Typed.{zip_lengths}
use Rattle.vhdl_elab_rules.proofs.laws.Walk.{types_of, PlacedIsSound, SoFar, LocatedIsSound}
use Rattle.vhdl_elab_rules.proofs.laws.Processes.{walked}
use Rattle.vhdl_elab_rules.proofs.laws.Sound.{accepted}

-- ---- the width of a kind

between-up : (l r : ℕ) → l ≤ r → suc (max l r - min l r) ≡ suc (r - l)
between-up l r h = omega (arith, h)

between-down : (l r : ℕ) → r ≤ l → suc (max l r - min l r) ≡ suc (l - r)
between-down l r h = omega (arith, h)

no-places : (n : ℕ) → n ≡ 0 → 1 ≤ n → ⊥
no-places n e h = omega (arith, e, h)

up : (l r : ℕ) → (r < l) ⊎ (l ≤ r) → 1 ≤ extent To (pos l) (pos r) → suc (max l r - min l r) ≡ extent To (pos l) (pos r)
up l r (inl null) h = absurd (no-places (extent To (pos l) (pos r)) (ap (λ (t : Bool). cond t 0 (nat_abs (pos l -ℤ pos r) + 1)) (lt-ltb r l null)) h)
up l r (inr le) h = between-up l r le ∙ sym (extent-to l r le)

down : (l r : ℕ) → (l < r) ⊎ (r ≤ l) → 1 ≤ extent Downto (pos l) (pos r) → suc (max l r - min l r) ≡ extent Downto (pos l) (pos r)
down l r (inl null) h = absurd (no-places (extent Downto (pos l) (pos r)) (ap (λ (t : Bool). cond t 0 (nat_abs (pos l -ℤ pos r) + 1)) (lt-ltb l r null)) h)
down l r (inr le) h = between-down l r le ∙ sym (extent-downto l r le)

some-bounds : (l : ℕ) (d : Direction) (r : ℕ) → 1 ≤ extent d (pos l) (pos r) → suc (max l r - min l r) ≡ extent d (pos l) (pos r)
some-bounds l To r h = up l r (cases_lt r l) h
some-bounds l Downto r h = down l r (cases_lt l r) h

pub width-of_kind : (q : ObjectKind) → IsKind q → width_of (kind_view q) ≡ size q
width-of_kind (vector b) h = some-bounds b.left b.direction b.right h.0
width-of_kind _ h = refl

-- ---- the nets of a name

record Cut {A : Type 0} (R : A → ℕ → Type 0) (xs ys : List A) (ns : List ℕ) : Type 0 where
  left : List ℕ
  right : List ℕ
  is : ns ≡ left ++ right
  first : AllZip R xs left
  rest : AllZip R ys right

cut : {A : Type 0} (R : A → ℕ → Type 0) (xs ys : List A) (ns : List ℕ) → AllZip R (xs ++ ys) ns → Cut R xs ys ns
cut {A} R [] ys ns h = record { left = []; right = ns; is = refl; first = tt; rest = h }
cut {A} R (x ∷ xs) ys [] h = elim h [ ]
cut {A} R (x ∷ xs) ys (n ∷ ns) h =
    let c = cut R xs ys ns h.1 in
    record { left = n ∷ c.left; right = c.right; is = ap (λ (ms : List ℕ). n ∷ ms) c.is; first = (h.0, c.first); rest = c.rest }

block-typed : (types : List ElementType) (n : ℕ) (t : ElementType) (ns : List ℕ) → AllZip (HasType types) (replicate n t) ns → All (HasType types t) ns
block-typed types zero t [] h = All-nil (HasType types t)
block-typed types (suc n) t (m ∷ ns) h = All-cons (HasType types t) m ns h.0 (block-typed types n t ns h.1)
block-typed types _ t _ h = elim h [ ]

signals-fit : (types : List ElementType) (scopes scope : ℕ) (os outer : List Object) (front ns : List ℕ) (first : ℕ) → scope < scopes → All (ObjectIsSound outer) os → AllZip (HasType types) (object_types os) ns → length front ≡ first
    → All (SignalFits types scopes) (signals_from scope (front ++ ns) first os)
signals-fit types scopes scope [] outer front ns first s h z l = All-nil (SignalFits types scopes)
signals-fit types scopes scope (o ∷ os) outer front ns first s h z l =
    let n : ℕ = size o.kind in
    let t : ElementType = element_type o.kind in
    let c = cut (HasType types) (replicate n t) (object_types os) ns z in
    let kind : IsKind o.kind = (All-head (ObjectIsSound outer) o os h).kind in
    let len : length c.left ≡ n = sym (zip_lengths (HasType types) (replicate n t) c.left c.first) ∙ length-replicate n t in
    let mine : slice_range (front ++ ns) first (first + n) ≡ c.left =
    ap (λ (ms : List ℕ). slice_range (front ++ ms) first (first + n)) c.is ∙ segment front c.left c.right first (first + n) l (ap (λ m. first + m) len) in
    let long : length (slice_range (front ++ ns) first (first + n)) ≡ n = ap length mine ∙ len in
    let all : front ++ ns ≡ (front ++ c.left) ++ c.right = ap (λ (ms : List ℕ). front ++ ms) c.is ∙ sym (append_assoc front c.left c.right) in
    All-cons (SignalFits types scopes)
    (record { at = o.at; scope = scope; name = o.name; is_port = is_port_role o.role; kind = o.kind; nets = slice_range (front ++ ns) first (first + n) })
    (signals_from scope (front ++ ns) (first + n) os)
    (record {
      scope = s;
      width = subst IsWidth (sym long) (width_of_kind o.kind kind);
      as_declared = long ∙ sym (width-of_kind o.kind kind);
      nets = subst (All (HasType types t)) (sym mine) (block-typed types n t c.left c.first);
    })
    (subst (λ (ms : List ℕ). All (SignalFits types scopes) (signals_from scope ms (first + n) os)) (sym all)
    (signals-fit types scopes scope os outer (front ++ c.left) c.right (first + n) s (All-tail (ObjectIsSound outer) o os h) c.rest (length-append front c.left ∙ ap (λ m. m + length c.left) l ∙ ap (λ m. first + m) len)))

all-signals : (types : List ElementType) (scopes from : ℕ) (ps : List Placed) → from + length ps ≤ scopes → All (PlacedIsSound types) ps → All (SignalFits types scopes) (flat_map signals_of (enumerate_from from ps))
all-signals types scopes from [] l h = All-nil (SignalFits types scopes)
all-signals types scopes from (p ∷ ps) l h =
    let w = All-head (PlacedIsSound types) p ps h in
    All-append (SignalFits types scopes) (signals_of (from, p)) (flat_map signals_of (enumerate_from (from + 1) ps))
    (signals-fit types scopes from p.objects w.outer [] p.nets 0 (omega (arith, l)) w.sound w.nets refl)
    (all-signals types scopes (from + 1) ps (omega (arith, l)) (All-tail (PlacedIsSound types) p ps h))

in-net : (d : Numbered) → SoFar d → All (SignalFits (flat_net d).types (length (map scope_of d.instances))) (net_of d).signals
unfolding flat_net
in-net d h =
    subst (λ n. All (SignalFits (types_of d.instances) n) (flat_map signals_of (enumerate_from 0 d.instances))) (sym (length-map d.instances scope_of))
    (all-signals (types_of d.instances) (length d.instances) 0 d.instances (omega arith) h.instances)

pub each-signal-fits : EachSignalFits
unfolding elaborated_net
each-signal-fits units top x sound e =
    let design = bound (expanded_design units top) _ x e in
    let w = accepted design.x x design.then_gave in
    subst (λ (y : Elaborated). All (SignalFits y.flat.types (length y.scopes)) y.signals) w.is (in-net (numbered_design design.x) (walked units top design.x sound design.gave))

-- ---- variables

variables-fit : (vs : List Variable) → All VariableIsSound vs → AllZip VariableFits (map named_variable vs) (map flat_variable vs)
variables-fit [] h = tt
variables-fit (v ∷ vs) h =
    let s = All-head VariableIsSound v vs h in
    ((s.as_declared ∙ sym (width-of_kind v.kind s.kind), refl), variables-fit vs (All-tail VariableIsSound v vs h))

all-variables : (types : List ElementType) (count : ℕ) (xs : List Located) → All (LocatedIsSound types) xs → AllZip VariablesFit (map named_process xs) (map (flat_process count) xs)
all-variables types count [] h = tt
all-variables types count (x ∷ xs) h =
    (variables-fit x.process.variables (All-head (LocatedIsSound types) x xs h).process.variables, all-variables types count xs (All-tail (LocatedIsSound types) x xs h))

variables-in : (d : Numbered) → SoFar d → AllZip VariablesFit (net_of d).processes (flat_net d).processes
unfolding flat_net
variables-in d h = all-variables (types_of d.instances) d.nets d.processes h.processes

pub each-variable-fits : EachVariableFits
unfolding elaborated_net
each-variable-fits units top x sound e =
    let design = bound (expanded_design units top) _ x e in
    let w = accepted design.x x design.then_gave in
    subst (λ (y : Elaborated). AllZip VariablesFit y.processes y.flat.processes) w.is (variables-in (numbered_design design.x) (walked units top design.x sound design.gave))
