-- The walk over instances and what stands in them, one part after another.
use Rattle.std.proofs.Common.{◌≡◌, ℕ, zero, suc, ◌+◌, ◌<◌, ◌≤◌, List, [], ◌∷◌, ◌++◌, length, get_or, set, drop, map, Some, Result, Ok, Err, Vec, Global, refl, sym, ap, ◌∙◌, subst, arith}
use Rattle.std.specs.Prelude.{OnOk, is_none, codes, flat_map}
use Rattle.std.specs.List.{AllZip}
use Rattle.std.proofs.lemmas.List.{length-map, length-append, map-append}
use Rattle.rtl_net.specs.declared.process.Process as net
use Rattle.rtl_net.specs.declared.signal.Scope.{Scope}
use Rattle.rtl_net.specs.Nets.{scope_view, signal_view, type_of}
use Rattle.vhdl_expand_rules.specs.Tree as tree
use Rattle.vhdl_expand_rules.specs.Tree.{Instance, instance, Parts, no_parts, process, inner}
use Rattle.vhdl_elab_rules.specs.Names.{scope_of, signals_from}
use Rattle.vhdl_elab_rules.specs.Numbering as elab
use Rattle.vhdl_elab_rules.specs.Numbering.{Placed, Numbered, placed_instance, with_placed, with_instance, with_parts, element_nets, above_parts, own_sizes}
use Rattle.vhdl_elab_rules.specs.Wiring.{defaults_of}
use Rattle.vhdl_elab_rules.specs.Shown.{signal_shown}
use Rattle.vhdl_expand_tree.specs.declared.tree.Object.{Object}
use Rattle.vhdl_expand_tree.specs.declared.tree.Process.{Process}
use Rattle.vhdl_expand_tree.specs.declared.tree.InstancePart.{InstancePart}
use Rattle.vhdl_expand_tree.specs.declared.tree.InstancePart.TheVariants as p
use Rattle.vhdl_expand_tree.specs.Views.{objects_view, process_view, part_before, parts_of, parts_view}
use Rattle.vhdl_expand_tree.proofs.Parts.{view_instance}
use Rattle.vhdl_connect_processes.specs.Located.{IsOf}
use Rattle.vhdl_connect_processes.specs.declared.process.Round.{Round}
use Rattle.vhdl_elab.specs.declared.made.Made.{Made}
use Rattle.vhdl_elab.specs.declared.place.InstancePlace.{InstancePlace}
use Rattle.vhdl_elab.specs.Made.{element_view, IsLocated, IsMade}
use Rattle.vhdl_elab.specs.Adding.{statics_from, own_types}
use Rattle.vhdl_elab.specs.Placing.{AddsPlaced}
use Rattle.vhdl_elab.specs.declared.walk.Above.{Above}
use Rattle.vhdl_elab.specs.Ready.{PartsAreReady}
use Rattle.vhdl_elab.specs.Walking.{above_at, instance_nets, parts_nets, IsIn}
use Rattle.vhdl_elab.proofs.Placing.{placed_made, types-count}

pub on_ok : {T E P Q : Type 0} (r : Result T E) → OnOk r P → (P → Q) → OnOk r Q
on_ok (Ok x) h f = f h
on_ok (Err e) h f = h

-- ---- parts

abbrev pub alone : InstancePart → Parts
alone x = part_before no_parts x

parts-before : (n : ℕ) (r : Placed) (x : InstancePart) (rest : Parts) (d : Numbered) → with_parts n r (part_before rest x) d ≡ with_parts n r rest (with_parts n r (alone x) d)
parts-before n r (p.Process q) rest d = refl
parts-before n r (p.Instance' label objects turns shape parts) rest d = refl

ready-before : (x : InstancePart) (rest : Parts) → PartsAreReady (part_before rest x) → PartsAreReady (alone x) × PartsAreReady rest
ready-before (p.Process q) rest h = ((h.0, tt), h.1)
ready-before (p.Instance' label objects turns shape parts) rest h = ((h.0, tt), h.1)

-- the part that is next, and those behind it, which a change of it leaves alone
pub dropped : (xs : List InstancePart) (i : ℕ) (d new : InstancePart) → i < length xs → parts_of (drop i xs) ≡ part_before (parts_of (drop (i + 1) (set xs i new))) (get_or xs i d)
dropped xs i d new l = go i xs l ∙ ap (λ n. part_before (parts_of (drop n (set xs i new))) (get_or xs i d)) (let e : suc i ≡ i + 1 = omega arith in e)
  where
    go : (j : ℕ) (ys : List InstancePart) → j < length ys → parts_of (drop j ys) ≡ part_before (parts_of (drop (suc j) (set ys j new))) (get_or ys j d)
    go j [] m = absurd (omega (arith, m))
    go zero (z ∷ zs) m = refl
    go (suc j) (z ∷ zs) m = go j zs (omega (arith, m))

pub none_left : (xs : List InstancePart) (i : ℕ) → length xs ≤ i → parts_of (drop i xs) ≡ no_parts
none_left [] zero l = refl
none_left [] (suc i) l = refl
none_left (x ∷ xs) zero l = absurd (omega (arith, l))
none_left (x ∷ xs) (suc i) l = none_left xs i (omega (arith, l))

-- ---- how much there is

abbrev mutual
  pub weight : Instance → ℕ
  weight (instance os turns parts) = 2 + weights parts

  pub weights : Parts → ℕ
  weights no_parts = 0
  weights (process p rest) = 1 + weights rest
  weights (inner label i rest) = 1 + (weight i + weights rest)

pub weights_before : (x : InstancePart) (rest : Parts) → weights (part_before rest x) ≡ weights (alone x) + weights rest
weights_before (p.Process q) rest = omega arith
weights_before (p.Instance' label objects turns shape parts) rest = omega arith

pub next_lighter : (rest more : Parts) (x : InstancePart) → rest ≡ part_before more x → weights rest ≡ weights (alone x) + weights more
next_lighter rest more x h = ap weights h ∙ weights_before x more

-- ---- how many nets

nets-before : (x : InstancePart) (rest : Parts) → parts_nets (part_before rest x) ≡ parts_nets (alone x) + parts_nets rest
nets-before (p.Process q) rest = omega arith
nets-before (p.Instance' label objects turns shape parts) rest = omega arith

pub next_nets : (rest more : Parts) (x : InstancePart) → rest ≡ part_before more x → parts_nets rest ≡ parts_nets (alone x) + parts_nets more
next_nets rest more x h = ap parts_nets h ∙ nets-before x more

pub process_nets : (x : InstancePart) (q : Process) → x ≡ p.Process q → parts_nets (alone x) ≡ 0
process_nets x q is = ap (λ y. parts_nets (alone y)) is

pub inner_nets : (x : InstancePart) (label : Vec ℕ Global) (objects : Vec Object Global) (turns : ℕ) (parts : Vec InstancePart Global)
    → x ≡ p.Instance label (record { objects = objects; turns = turns; parts = parts })
    → parts_nets (alone x) ≡ instance_nets (instance (objects_view objects) turns (parts_view parts))
inner_nets x label objects turns parts is =
    let i = instance (objects_view objects) turns (parts_view parts) in
    ap parts_nets (ap alone is ∙ view_instance no_parts label objects turns parts) ∙ (let e : instance_nets i + 0 ≡ instance_nets i = omega arith in e)

-- an instance without what stands in it
pub own_nets : (place : InstancePlace) (scope : Scope) (objects : List tree.Object) (turns : ℕ) (parts : Parts) (a b : Made) → AddsPlaced place scope (instance objects turns parts) a b
    → length b.kinds.items ≡ length a.kinds.items + own_sizes objects
own_nets place scope objects turns parts a b k =
    sym (length-map b.kinds.items type_of) ∙ ap length k.kinds ∙ length-append (map type_of a.kinds.items) (flat_map own_types objects)
    ∙ (λ i. length-map a.kinds.items type_of i + types-count objects i)

-- ---- so far

-- what is numbered with the parts so far, and then those that are left, is what is with all
pub record SoFar (n : ℕ) (r : Placed) (all rest : Parts) (d : Numbered) (m : Made) : Type 0 where
  pub now : Numbered
  pub made : IsMade now m
  pub same : with_parts n r all d ≡ with_parts n r rest now

pub so_far_begins : (n : ℕ) (r : Placed) (all : Parts) (d : Numbered) (m : Made) → IsMade d m → SoFar n r all all d m
so_far_begins n r all d m k = record { now = d; made = k; same = refl }

pub so_far_next : (n : ℕ) (r : Placed) (all rest more : Parts) (x : InstancePart) (d : Numbered) (m new : Made) → rest ≡ part_before more x
    → ((e : Numbered) → IsMade e m → IsMade (with_parts n r (alone x) e) new) → SoFar n r all rest d m → SoFar n r all more d new
so_far_next n r all rest more x d m new h k s = record {
  now = with_parts n r (alone x) s.now;
  made = k s.now s.made;
  same = s.same ∙ ap (λ ps. with_parts n r ps s.now) h ∙ parts-before n r x more s.now;
}

pub so_far_ends : (n : ℕ) (r : Placed) (all rest : Parts) (d : Numbered) (m : Made) → rest ≡ no_parts → SoFar n r all rest d m → IsMade (with_parts n r all d) m
so_far_ends n r all rest d m h s = subst (λ e. IsMade e m) (sym (s.same ∙ ap (λ ps. with_parts n r ps s.now) h)) s.made

pub next_ready : (rest more : Parts) (x : InstancePart) → rest ≡ part_before more x → PartsAreReady rest → PartsAreReady (alone x)
next_ready rest more x h k = (ready-before x more (subst PartsAreReady h k)).0

pub others_ready : (rest more : Parts) (x : InstancePart) → rest ≡ part_before more x → PartsAreReady rest → PartsAreReady more
others_ready rest more x h k = (ready-before x more (subst PartsAreReady h k)).1

-- ---- a process

zip-push : {A B : Type 0} (R : A → B → Type 0) (xs : List A) (ys : List B) (x : A) (y : B) → AllZip R xs ys → R x y → AllZip R (xs ++ x ∷ []) (ys ++ y ∷ [])
zip-push R [] [] x y h k = (k, tt)
zip-push R [] (b ∷ bs) x y h k = absurd h
zip-push R (a ∷ xs) [] x y h k = absurd h
zip-push R (a ∷ xs) (b ∷ bs) x y h k = (h.0, zip-push R xs bs x y h.1 k)

-- new is m with a process of a part, which stands in the instance r
pub process_made : (round : Round) (r : Placed) (x : InstancePart) (q : Process) (d : Numbered) (m : Made) (ps : Vec net.Process Global) (made : net.Process)
    → x ≡ p.Process q → IsIn r round → IsMade d m
    → IsOf round.scope round.nets.now round.defaults.now (process_view q) made → ps.items ≡ m.processes.items ++ made ∷ []
    → IsMade (with_parts round.scope r (alone x) d) (record m { processes = ps })
process_made round r x q d m ps made is at h k e =
    let at_r : IsOf round.scope r.nets (defaults_of r.objects) (process_view q) made = subst (λ ds. IsOf round.scope r.nets ds (process_view q) made) (sym at.defaults) (subst (λ ns. IsOf round.scope ns round.defaults.now (process_view q) made) (sym at.nets) k) in
    subst (λ y. IsMade (with_parts round.scope r (alone y) d) (record m { processes = ps })) (sym is)
    (record {
      scopes = h.scopes;
      signals = h.signals;
      processes = subst (λ ys. AllZip IsLocated (d.processes ++ record { scope = round.scope; round = r; process = process_view q } ∷ []) ys) (sym e) (zip-push IsLocated d.processes m.processes.items _ made h.processes at_r);
      kinds = h.kinds;
      defaults = h.defaults;
      nets = h.nets;
      elements = h.elements;
      uses = h.uses;
    })

-- ---- an instance

pub inner_lighter : (x : InstancePart) (label : Vec ℕ Global) (objects : Vec Object Global) (turns : ℕ) (parts : Vec InstancePart Global)
    → x ≡ p.Instance label (record { objects = objects; turns = turns; parts = parts }) → weights (alone x) ≡ 3 + weights (parts_view parts)
inner_lighter x label objects turns parts is = ap weights (ap alone is ∙ view_instance no_parts label objects turns parts) ∙ (let e : 1 + (2 + weights (parts_view parts) + 0) ≡ 3 + weights (parts_view parts) = omega arith in e)

pub inner_ready : (x : InstancePart) (label : Vec ℕ Global) (objects : Vec Object Global) (turns : ℕ) (parts : Vec InstancePart Global)
    → x ≡ p.Instance label (record { objects = objects; turns = turns; parts = parts }) → PartsAreReady (alone x) → PartsAreReady (parts_view parts)
inner_ready x label objects turns parts is h = (subst PartsAreReady (ap alone is ∙ view_instance no_parts label objects turns parts) h).0

-- an instance that stands in the instance r
pub inner_made : {E : Type 0} (round : Round) (above : Above) (r : Placed) (x : InstancePart) (label : Vec ℕ Global) (objects : Vec Object Global) (turns : ℕ) (parts : Vec InstancePart Global) (d : Numbered) (result : Result Unit E) (new : Made)
    → x ≡ p.Instance label (record { objects = objects; turns = turns; parts = parts }) → IsIn r round → above.parent ≡ Some round.scope → above.nets.now ≡ round.nets.now
    → OnOk result (IsMade (with_instance (above_at above (r.path ++ codes ".")) label.items (instance (objects_view objects) turns (parts_view parts)) d) new)
    → OnOk result (IsMade (with_parts round.scope r (alone x) d) new)
inner_made round above r x label objects turns parts d result new is at parent nets h =
    subst (λ ps. OnOk result (IsMade (with_parts round.scope r ps d) new)) (sym (ap alone is ∙ view_instance no_parts label objects turns parts))
    (subst (λ (a : elab.Above). OnOk result (IsMade (with_instance a label.items (instance (objects_view objects) turns (parts_view parts)) d) new)) same h)
  where
    same : above_at above (r.path ++ codes ".") ≡ above_parts round.scope r
    same = λ i. record { parent = parent i; path = r.path ++ codes "."; nets = (nets ∙ sym at.nets) i }

scopes-count : (d : Numbered) (m : Made) → IsMade d m → length m.scopes.items ≡ length d.instances
scopes-count d m h =
    sym (length-map m.scopes.items scope_view) ∙ ap length h.scopes
    ∙ length-map (map scope_of d.instances) (λ s. record { label = s.label; parent = s.parent }) ∙ length-map d.instances scope_of

-- where an instance stands: its scope is the next one, and its own nets begin with the next one
pub record StandsAt (above : elab.Above) (label : List ℕ) (objects : List tree.Object) (a : Made) (scope : Scope) (place : InstancePlace) : Type 0 where
  pub number : place.scope ≡ length a.scopes.items
  pub top : place.is_top ≡ is_none above.parent
  pub nets : place.nets.now ≡ element_nets above.nets (length a.kinds.items) objects
  pub label_is : scope.label.items ≡ label
  pub parent_is : scope.parent ≡ above.parent

-- what an instance adds before what stands in it
instance-placed : (above : elab.Above) (label : List ℕ) (objects : List tree.Object) (turns : ℕ) (parts : Parts) (scope : Scope) (place : InstancePlace) (d : Numbered) (a b : Made)
    → IsMade d a → StandsAt above label objects a scope place → AddsPlaced place scope (instance objects turns parts) a b
    → IsMade (with_placed (placed_instance above label d.nets (instance objects turns parts)) d) b
instance-placed above label objects turns parts scope place d a b h at k =
    let r = placed_instance above label d.nets (instance objects turns parts) in
    let number = at.number ∙ scopes-count d a h in
    let nets = at.nets ∙ ap (λ n. element_nets above.nets n objects) h.nets in
    placed_made d r a b h
    (ap (map scope_view) k.scopes ∙ map-append scope_view a.scopes.items (scope ∷ [])
    ∙ (λ i. map scope_view a.scopes.items ++ record { label = at.label_is i; parent = at.parent_is i } ∷ []))
    (k.signals ∙ (λ i. map signal_view a.signals.items ++ map signal_shown (signals_from (number i) (nets i) 0 objects)))
    (ap (λ v. v.items) k.processes) k.kinds k.defaults
    (k.elements ∙ (λ i. map element_view a.elements.items ++ statics_from (at.top i) (nets i) 0 objects))
    k.uses

-- an instance, and what stands in it behind it
pub instance_made : {E : Type 0} (above : elab.Above) (label : List ℕ) (objects : List tree.Object) (turns : ℕ) (parts left : Parts) (scope : Scope) (place : InstancePlace) (round : Round)
    (d : Numbered) (a b new : Made) (result : Result Unit E)
    → IsMade d a → StandsAt above label objects a scope place → AddsPlaced place scope (instance objects turns parts) a b
    → round.scope ≡ place.scope → round.nets.now ≡ place.nets.now → round.defaults.now ≡ defaults_of objects → left ≡ parts
    → ((e : Numbered) (p : Placed) → IsIn p round → IsMade e b → OnOk result (IsMade (with_parts round.scope p left e) new))
    → OnOk result (IsMade (with_instance above label (instance objects turns parts) d) new)
instance_made above label objects turns parts left scope place round d a b new result h at k same_scope same_nets defaults same_parts walked =
    let r = placed_instance above label d.nets (instance objects turns parts) in
    let nets = same_nets ∙ at.nets ∙ ap (λ n. element_nets above.nets n objects) h.nets in
    subst (λ n. OnOk result (IsMade (with_parts n r parts (with_placed r d)) new)) (same_scope ∙ at.number ∙ scopes-count d a h)
    (subst (λ ps. OnOk result (IsMade (with_parts round.scope r ps (with_placed r d)) new)) same_parts
    (walked (with_placed r d) r (record { nets = sym nets; defaults = sym defaults }) (instance-placed above label objects turns parts scope place d a b h at k)))
