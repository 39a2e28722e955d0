-- No element that may be driven has the net of one of the top's in ports: going through the tree in order of the text.
use Rattle.std.proofs.Common.{◌≡◌, ℕ, zero, suc, ◌+◌, ◌<◌, ◌≤◌, false, List, [], ◌∷◌, ◌++◌, length, map, replicate, Option, Some, None, All, refl, sym, ap, ◌∙◌, subst, arith, append-nil, append_assoc}
use Rattle.std.specs.Prelude.{slice_get, slice_index, filter}
use Rattle.std.specs.List.{AllZip, range_with_len}
use Rattle.std.proofs.lemmas.Option.{same_Some, slice_get_within}
use Rattle.std.proofs.lemmas.List.{length-append, length-replicate}
use Rattle.std.proofs.lemmas.List.Elements.{All-cons, All-nil, All-append, All-head, All-tail, filter-append}
use Rattle.vhdl_expand_rules.specs.Kinds.{size}
use Rattle.vhdl_expand_rules.specs.Tree.{Role, Object, Instance, instance, Parts, no_parts, process, inner}
use Rattle.vhdl_expand_rules.specs.Declarations.{is_input}
use Rattle.vhdl_expand_rules.specs.laws.Lengths.{ObjectFits, InstanceFits, PartsFit}
use Rattle.vhdl_expand_rules.specs.laws.Trees.{object_roles, MayBeDriven, ObjectIsSound, InstanceIsSound, PartsAreSound}
use Rattle.vhdl_elab_rules.specs.Numbering.{object_nets, own_size, element_nets, own_sizes, Placed, Located, Numbered, Above, above_parts, placed_instance, with_process, with_placed, with_instance, with_parts}
use Rattle.vhdl_elab_rules.specs.Wiring.{is_top}
use Rattle.vhdl_elab_rules.proofs.laws.Nets.{own-nets, actual-nets, own-is_size}
use Rattle.vhdl_elab_rules.proofs.laws.Typed.{zip_append, zip_weaker, zip_read}
use Rattle.vhdl_elab_rules.proofs.Segments.{run-append}

-- the roles of the top's elements, whose nets are the first ones
module _ (roles : List Role) where
  -- no in port of the top has this net
  abbrev pub NoInput : ℕ → Type 0
  NoInput n = (r : Role) → slice_get roles n ≡ Some r → is_input r ≡ false

  -- an element that is no in port's has a net that no in port of the top has
  abbrev pub Kept : Role → ℕ → Type 0
  Kept r n = is_input r ≡ false → NoInput n

  abbrev pub KeepsInputs : Placed → Type 0
  KeepsInputs p = AllZip Kept (object_roles p.objects) p.nets

  past-top : (n : ℕ) → length roles ≤ n → NoInput n
  past-top n l r e = absurd (let k : n < length roles = slice_get_within roles n r e in omega (arith, k, l))

  own-kept : (n : ℕ) (r : Role) (first : ℕ) → length roles ≤ first → AllZip Kept (replicate n r) (range_with_len first n)
  own-kept zero r first l = tt
  own-kept (suc n) r first l = (λ i. past-top first l, own-kept n r (first + 1) (omega (arith, l)))

  joined-kept : (n : ℕ) (r : Role) (outer : List Object) (above es : List ℕ) → AllZip Kept (object_roles outer) above → length es ≡ n → (is_input r ≡ false → All (MayBeDriven outer) es)
      → AllZip Kept (replicate n r) (map (slice_index above) es)
  joined-kept zero r outer above [] z l h = tt
  joined-kept (suc n) r outer above (e ∷ es) z l h = (
    λ i. let m = All-head (MayBeDriven outer) e es (h i) in zip_read Kept (object_roles outer) above e m.0 z m.1 m.2,
    joined-kept n r outer above es z (omega (arith, l)) (λ i. All-tail (MayBeDriven outer) e es (h i)),
  )
  joined-kept _ r outer above _ z l h = absurd (omega (arith, l))

  nets-kept : (os outer : List Object) (above : List ℕ) (first : ℕ) → All (ObjectIsSound outer) os → All ObjectFits os → AllZip Kept (object_roles outer) above → length roles ≤ first
      → AllZip Kept (object_roles os) (element_nets above first os)
  nets-kept [] outer above first h fit z l = tt
  nets-kept (o ∷ os) outer above first h fit z l =
      zip_append Kept (replicate (size o.kind) o.role) (object_nets above first o) (object_roles os) (element_nets above (first + own_size o) os)
      (by o.actual refl (All-head (ObjectIsSound outer) o os h) (All-head ObjectFits o os fit))
      (nets-kept os outer above (first + own_size o) (All-tail (ObjectIsSound outer) o os h) (All-tail ObjectFits o os fit) z (omega (arith, l)))
    where
      by : (a : Option (List ℕ)) → o.actual ≡ a → ObjectIsSound outer o → ObjectFits o → AllZip Kept (replicate (size o.kind) o.role) (object_nets above first o)
      by None e sound fits = subst (AllZip Kept (replicate (size o.kind) o.role)) (sym (own-nets above first o e)) (own-kept (size o.kind) o.role first l)
      by (Some es) e sound fits =
          subst (AllZip Kept (replicate (size o.kind) o.role)) (sym (actual-nets above first o es e)) (joined-kept (size o.kind) o.role outer above es z (fits.actual es e) (λ i. sound.driven es e i))

  pub record KeptSoFar (d : Numbered) : Type 0 where
    pub past : length roles ≤ d.nets
    pub instances : All KeepsInputs d.instances
    pub processes : All (λ (x : Located). KeepsInputs x.round) d.processes

  mutual
    pub instance-keeps : (i : Instance) (outer : List Object) (a : Above) (label : List ℕ) (d : Numbered) → InstanceFits i → InstanceIsSound outer i → KeptSoFar d → AllZip Kept (object_roles outer) a.nets
        → KeptSoFar (with_instance a label i d)
    instance-keeps (instance os turns parts) outer a label d fit sound so_far z =
        let p : Placed = placed_instance a label d.nets (instance os turns parts) in
        let is : KeepsInputs p = nets-kept os outer a.nets d.nets sound.0 fit.0 z so_far.past in
        let past : length roles ≤ d.nets = so_far.past in
        parts-keep parts (length d.instances) p (with_placed p d) fit.1 sound.1 (record {
          past = omega (arith, past);
          instances = All-append KeepsInputs d.instances (p ∷ []) so_far.instances (All-cons KeepsInputs p [] is (All-nil KeepsInputs));
          processes = so_far.processes;
        }) is

    pub parts-keep : (ps : Parts) (number : ℕ) (round : Placed) (d : Numbered) → PartsFit ps → PartsAreSound round.objects ps → KeptSoFar d → KeepsInputs round → KeptSoFar (with_parts number round ps d)
    parts-keep no_parts number round d fit sound so_far is = so_far
    parts-keep (process q rest) number round d fit sound so_far is =
        let x : Located = record { scope = number; round = round; process = q } in
        parts-keep rest number round (with_process number round q d) fit sound.1 (record {
          past = so_far.past;
          instances = so_far.instances;
          processes = All-append (λ (y : Located). KeepsInputs y.round) d.processes (x ∷ []) so_far.processes
              (All-cons (λ (y : Located). KeepsInputs y.round) x [] is (All-nil (λ (y : Located). KeepsInputs y.round)));
        }) is
    parts-keep (inner label i rest) number round d fit sound so_far is =
        parts-keep rest number round (with_instance (above_parts number round) label i d) fit.1 sound.1 (instance-keeps i round.objects (above_parts number round) label d fit.0 sound.0 so_far is) is

-- ---- the top's nets are the first ones

abbrev pub NotJoined : Object → Type 0
NotJoined o = o.actual ≡ None

-- a role at each place, from this one on
abbrev pub RoleAt : List Role → Role → ℕ → Type 0
RoleAt roles r n = slice_get roles n ≡ Some r

pub roles-at : (front roles : List Role) (first : ℕ) → length front ≡ first → AllZip (RoleAt (front ++ roles)) roles (range_with_len first (length roles))
roles-at front [] first l = tt
roles-at front (r ∷ roles) first l = (
  at front first l,
  subst (λ (rs : List Role). AllZip (RoleAt rs) roles (range_with_len (first + 1) (length roles))) (append_assoc front (r ∷ []) roles)
      (roles-at (front ++ r ∷ []) roles (first + 1) (length-append front (r ∷ []) ∙ ap (λ n. n + 1) l)),
)
  where
    at : (front : List Role) (first : ℕ) → length front ≡ first → slice_get (front ++ r ∷ roles) first ≡ Some r
    at [] first l = ap (slice_get (r ∷ roles)) (sym l)
    at (q ∷ front) zero l = absurd (omega (arith, l))
    at (q ∷ front) (suc first) l = at front first (omega (arith, l))

pub own-sizes-of : (os : List Object) → All NotJoined os → own_sizes os ≡ length (object_roles os)
own-sizes-of [] h = refl
own-sizes-of (o ∷ os) h =
    ap (λ n. n + own_sizes os) (own-is_size o (All-head NotJoined o os h)) ∙ ap (λ n. size o.kind + n) (own-sizes-of os (All-tail NotJoined o os h))
    ∙ ap (λ n. n + length (object_roles os)) (sym (length-replicate (size o.kind) o.role)) ∙ sym (length-append (replicate (size o.kind) o.role) (object_roles os))

pub top-nets : (os : List Object) (above : List ℕ) (first : ℕ) → All NotJoined os → element_nets above first os ≡ range_with_len first (own_sizes os)
top-nets [] above first h = refl
top-nets (o ∷ os) above first h =
    let none = All-head NotJoined o os h in
    ap (λ (ns : List ℕ). ns ++ element_nets above (first + own_size o) os) (own-nets above first o none ∙ ap (range_with_len first) (sym (own-is_size o none)))
    ∙ ap (λ (ns : List ℕ). range_with_len first (own_size o) ++ ns) (top-nets os above (first + own_size o) (All-tail NotJoined o os h))
    ∙ run-append first (own_size o) (own_sizes os)

top-kept : (roles : List Role) (qs : List Role) (ns : List ℕ) → AllZip (RoleAt roles) qs ns → AllZip (Kept roles) qs ns
top-kept roles qs ns h = zip_weaker (RoleAt roles) (Kept roles) (λ r n e i s f. subst (λ (q : Role). is_input q ≡ false) (same_Some r s (sym e ∙ f)) i) qs ns h

pub top-keeps : (os : List Object) (a : Above) (label : List ℕ) (turns : ℕ) (parts : Parts) (d : Numbered) → d.nets ≡ 0 → d.instances ≡ [] → d.processes ≡ [] → All NotJoined os → All ObjectFits os → PartsFit parts
    → PartsAreSound os parts → KeptSoFar (object_roles os) (with_instance a label (instance os turns parts) d)
top-keeps os a label turns parts d none no_instance no_process alone fit fits sound =
    let roles : List Role = object_roles os in
    let p : Placed = placed_instance a label d.nets (instance os turns parts) in
    let count : own_sizes os ≡ length roles = own-sizes-of os alone in
    let is : KeepsInputs roles p =
    subst (AllZip (Kept roles) roles) (sym (top-nets os a.nets d.nets alone ∙ ap (λ n. range_with_len n (own_sizes os)) none ∙ ap (range_with_len 0) count))
    (top-kept roles roles (range_with_len 0 (length roles)) (roles-at [] roles 0 refl)) in
    parts-keep roles parts (length d.instances) p (with_placed p d) fits sound (record {
      past = omega (arith, count);
      instances = All-append (KeepsInputs roles) d.instances (p ∷ []) (subst (All (KeepsInputs roles)) (sym no_instance) (All-nil (KeepsInputs roles))) (All-cons (KeepsInputs roles) p [] is (All-nil (KeepsInputs roles)));
      processes = subst (All (λ (x : Located). KeepsInputs roles x.round)) (sym no_process) (All-nil (λ (x : Located). KeepsInputs roles x.round));
    }) is

-- ---- only the top stands in nothing

abbrev pub tops : Numbered → List Placed
tops d = filter is_top d.instances

mutual
  instance-inside : (i : Instance) (number : ℕ) (round : Placed) (label : List ℕ) (d : Numbered) → tops (with_instance (above_parts number round) label i d) ≡ tops d
  instance-inside (instance os turns parts) number round label d =
      let p : Placed = placed_instance (above_parts number round) label d.nets (instance os turns parts) in
      parts-inside parts (length d.instances) p (with_placed p d) ∙ filter-append is_top d.instances (p ∷ []) ∙ append-nil (tops d)

  pub parts-inside : (ps : Parts) (number : ℕ) (round : Placed) (d : Numbered) → tops (with_parts number round ps d) ≡ tops d
  parts-inside no_parts number round d = refl
  parts-inside (process q rest) number round d = parts-inside rest number round (with_process number round q d)
  parts-inside (inner label i rest) number round d =
      parts-inside rest number round (with_instance (above_parts number round) label i d) ∙ instance-inside i number round label d
