-- The ports of the top, and the inputs, which are the elements of its in ports.
use Rattle.std.proofs.Common.{◌≡◌, ℕ, zero, suc, ◌+◌, ◌<◌, ◌≤◌, Bool, true, false, cond, List, [], ◌∷◌, ◌++◌, length, map, All, Contains, refl, sym, ap, ◌∙◌, subst, arith, append_assoc, append-nil, ◌⊎◌, inl, inr}
use Rattle.std.specs.Prelude.{filter, flat_map, slice_index, slice_index_or, is_none}
use Rattle.std.specs.List.{range_with_len}
use Rattle.std.proofs.lemmas.List.{length-append, map-append}
use Rattle.std.proofs.lemmas.List.FromFn.{length-range_with_len, get_or-range_with_len}
use Rattle.std.proofs.lemmas.List.Elements.{All-nil, All-cons, All-head, All-tail, All-weaker, All-append, All-contains, filter-append}
use Rattle.rtl_model.proofs.basics.Lists.{Contains-none, Contains-first}
use Rattle.rtl_net.specs.Nets.{SignalView}
use Rattle.rtl_net.specs.Elaborated.{IsInOrOut, IsOfPort}
use Rattle.vhdl_expand_rules.specs.Kinds.{size}
use Rattle.vhdl_expand_rules.specs.Tree.{Role, input, output, internal, Object}
use Rattle.vhdl_expand_rules.specs.laws.Lengths.{ObjectFits}
use Rattle.vhdl_elab_rules.specs.Numbering.{object_nets, own_size, element_nets, own_sizes, Placed, Numbered}
use Rattle.vhdl_elab_rules.specs.Wiring.{Element, element_of, elements_from, elements_of, is_input, is_top, inputs_of}
use Rattle.vhdl_elab_rules.specs.Names.{is_port_role}
use Rattle.vhdl_elab_rules.proofs.Segments.{reads-all}
use Rattle.vhdl_elab_rules.proofs.laws.Nets.{own-nets, own-is_size, nets-length}
use Rattle.vhdl_elab_rules.proofs.laws.Inputs.{NotJoined}
use Rattle.vhdl_elab_rules.proofs.Placed.{IsBelow, StandsIn, as_top, inside, Follow, run-within}
use Rattle.vhdl_elab_rules.proofs.Objects.{object_signal, object_signals, all_signals, first-signals}
use Rattle.vhdl_elab_rules.proofs.Order.{FromScope, from-scope}

-- ---- the nets of in ports

-- the nets of these objects' in ports, the own nets of which begin at this one
abbrev pub input_nets : (above : List ℕ) → (first : ℕ) → List Object → List ℕ
input_nets above first [] = []
input_nets above first (o ∷ os) = cond (is_input o.role) (object_nets above first o) [] ++ input_nets above (first + own_size o) os

abbrev of_input : Element → Bool
of_input e = is_input e.role

abbrev net : Element → ℕ
net e = e.net

role-filter : (b : Bool) (f : ℕ → Element) (ks : List ℕ) → ((k : ℕ) → of_input (f k) ≡ b) → map net (filter of_input (map f ks)) ≡ cond b (map (λ k. net (f k)) ks) []
role-filter true f [] h = refl
role-filter false f [] h = refl
role-filter true f (k ∷ ks) h = ap (λ (b : Bool). map net (cond b (f k ∷ filter of_input (map f ks)) (filter of_input (map f ks)))) (h k) ∙ ap (λ ns. net (f k) ∷ ns) (role-filter true f ks h)
role-filter false f (k ∷ ks) h = ap (λ (b : Bool). map net (cond b (f k ∷ filter of_input (map f ks)) (filter of_input (map f ks)))) (h k) ∙ role-filter false f ks h

inputs-from : (os : List Object) (p : Placed) (above front : List ℕ) (first start : ℕ) → p.nets ≡ front ++ element_nets above first os → length front ≡ start → All ObjectFits os
    → map net (filter of_input (elements_from p start os)) ≡ input_nets above first os
inputs-from [] p above front first start h len fit = refl
inputs-from (o ∷ os) p above front first start h len fit =
    let mine : List Element = map (λ k. element_of p o (start + k) k) (range_with_len 0 (size o.kind)) in
    let theirs : List Element = elements_from p (start + size o.kind) os in
    let xs : List ℕ = object_nets above first o in
    let rest : List ℕ = element_nets above (first + own_size o) os in
    let sized : length xs ≡ size o.kind = nets-length above first o (All-head ObjectFits o os fit) in
    let nets : map (λ k. slice_index p.nets (start + k)) (range_with_len 0 (size o.kind)) ≡ xs =
    ap (λ (ns : List ℕ). map (λ k. slice_index ns (start + k)) (range_with_len 0 (size o.kind))) h
    ∙ ap (λ n. map (λ k. slice_index (front ++ (xs ++ rest)) (start + k)) (range_with_len 0 n)) (sym sized) ∙ reads-all front xs rest start len in
    ap (map net) (filter-append of_input mine theirs) ∙ map-append net (filter of_input mine) (filter of_input theirs)
    ∙ ap (λ (ns : List ℕ). ns ++ map net (filter of_input theirs)) (role-filter (is_input o.role) (λ k. element_of p o (start + k) k) (range_with_len 0 (size o.kind)) (λ k. refl)
    ∙ ap (λ (ns : List ℕ). cond (is_input o.role) ns []) nets)
    ∙ ap (λ (ns : List ℕ). cond (is_input o.role) xs [] ++ ns)
    (inputs-from os p above (front ++ xs) (first + own_size o) (start + size o.kind) (h ∙ sym (append_assoc front xs rest))
    (length-append front xs ∙ ap (λ n. n + length xs) len ∙ ap (λ n. start + n) sized) (All-tail ObjectFits o os fit))

-- ---- only the first instance is the top

not-top : (before : List Placed) (p : Placed) → 0 < length before → StandsIn before p → is_top p ≡ false
not-top before p l (as_top e parent is alone) = absurd (let z : length before ≡ 0 = ap length e in omega (arith, z, l))
not-top before p l (inside m round there parent is) = ap is_none parent

no-tops : (before : List Placed) (count : ℕ) (ps : List Placed) (total : ℕ) → 0 < length before → Follow before count ps total → filter is_top ps ≡ []
no-tops before count [] total l h = refl
no-tops before count (p ∷ ps) total l h =
    let len : length (before ++ p ∷ []) ≡ length before + 1 = length-append before (p ∷ []) in
    ap (λ (b : Bool). cond b (p ∷ filter is_top ps) (filter is_top ps)) (not-top before p l h.0.stands) ∙ no-tops (before ++ p ∷ []) (count + own_sizes p.objects) ps total (omega (arith, len)) h.1

pub record TopIs (p : Placed) : Type 0 where
  pub no_parent : is_top p ≡ true
  pub alone : All NotJoined p.objects

pub top-is : (p : Placed) → StandsIn [] p → TopIs p
top-is p (as_top e parent is alone) = record { no_parent = ap is_none parent; alone = alone }
top-is p (inside m round there parent is) = absurd cc

pub inputs-are : (d : Numbered) (p : Placed) (ps : List Placed) (total : ℕ) → d.instances ≡ p ∷ ps → (h : Follow [] 0 (p ∷ ps) total) → inputs_of d ≡ input_nets h.0.above 0 p.objects
inputs-are d p ps total e h =
    let tops : filter is_top d.instances ≡ p ∷ [] =
    ap (filter is_top) e ∙ ap (λ (b : Bool). cond b (p ∷ filter is_top ps) (filter is_top ps)) (top-is p h.0.stands).no_parent ∙ ap (λ (qs : List Placed). p ∷ qs) (no-tops (p ∷ []) (0 + own_sizes p.objects) ps total (omega arith) h.1) in
    ap (λ (qs : List Placed). map net (filter of_input (flat_map elements_of qs))) tops ∙ ap (λ (es : List Element). map net (filter of_input es)) (append-nil (elements_of p))
    ∙ inputs-from p.objects p h.0.above [] 0 0 h.0.nets refl h.0.fits

-- ---- ports of the top are in or out

pub contains-left : {A : Type 0} (xs ys : List A) (x : A) → Contains xs x → Contains (xs ++ ys) x
contains-left [] ys x c = absurd (Contains-none x c)
contains-left (y ∷ xs) ys x (zero, l, e) = (0, omega arith, e)
contains-left (y ∷ xs) ys x (suc k, l, e) = let c = contains-left xs ys x (k, omega (arith, l), e) in let (j, m, g) = c in (suc j, omega (arith, m), g)

pub contains-right : {A : Type 0} (xs ys : List A) (x : A) → Contains ys x → Contains (xs ++ ys) x
contains-right [] ys x c = c
contains-right (y ∷ xs) ys x c = let (j, m, g) = contains-right xs ys x c in (suc j, omega (arith, m), g)

pub contains-either : {A : Type 0} (xs ys : List A) (x : A) → Contains (xs ++ ys) x → Contains xs x ⊎ Contains ys x
contains-either [] ys x c = inr c
contains-either (y ∷ xs) ys x (zero, l, e) = inl (0, omega arith, e)
contains-either {A} (y ∷ xs) ys x (suc k, l, e) = by (contains-either xs ys x (k, omega (arith, l), e))
  where
    by : Contains xs x ⊎ Contains ys x → Contains (y ∷ xs) x ⊎ Contains ys x
    by (inl (j, m, g)) = inl (suc j, omega (arith, m), g)
    by (inr c) = inr c

all-contained : {A : Type 0} (xs : List A) → All (Contains xs) xs
all-contained [] k d l = absurd (omega (arith, l))
all-contained (x ∷ xs) zero d l = Contains-first x xs
all-contained (x ∷ xs) (suc k) d l = let (j, m, g) = all-contained xs k d (omega (arith, l)) in (suc j, omega (arith, m), g)

abbrev pub AtLeast : ℕ → ℕ → Type 0
AtLeast m n = m ≤ n

run-from : (n first : ℕ) → All (AtLeast first) (range_with_len first n)
run-from n first k d l =
    let len : length (range_with_len first n) ≡ n = length-range_with_len first n in
    let is : slice_index_or (range_with_len first n) k d ≡ first + k = get_or-range_with_len first n k d (omega (arith, l, len)) in
    omega (arith, is)

pub cond-all : {A : Type 0} (P : A → Type 0) (b : Bool) (xs : List A) → All P xs → All P (cond b xs [])
cond-all P true xs h = h
cond-all P false xs h = All-nil P

-- an object that isn't joined
pub own-run : (above : List ℕ) (first : ℕ) (o : Object) → NotJoined o → object_nets above first o ≡ range_with_len first (own_size o)
own-run above first o e = own-nets above first o e ∙ ap (range_with_len first) (sym (own-is_size o e))

pub inputs-from-on : (os : List Object) (above : List ℕ) (first : ℕ) → All NotJoined os → All (AtLeast first) (input_nets above first os)
inputs-from-on [] above first h = All-nil (AtLeast first)
inputs-from-on (o ∷ os) above first h =
    All-append (AtLeast first) (cond (is_input o.role) (object_nets above first o) []) (input_nets above (first + own_size o) os)
    (cond-all (AtLeast first) (is_input o.role) (object_nets above first o) (subst (All (AtLeast first)) (sym (own-run above first o (All-head NotJoined o os h))) (run-from (own_size o) first)))
    (All-weaker (AtLeast (first + own_size o)) (AtLeast first) (λ n l. omega (arith, l)) (input_nets above (first + own_size o) os) (inputs-from-on os above (first + own_size o) (All-tail NotJoined o os h)))

-- ports have one role
port-of : (r : Role) → is_port_role r ≡ true → (is_input r ≡ true) ⊎ (is_input r ≡ false)
port-of input h = inl refl
port-of output h = inr refl
port-of internal h = absurd cc

module _ (above : List ℕ) where
  in-or-out : (os : List Object) (first : ℕ) (left : List ℕ) → All NotJoined os → All (IsBelow first) left → All (IsInOrOut (left ++ input_nets above first os)) (object_signals 0 above first os)
  in-or-out [] first left h b = All-nil (IsInOrOut (left ++ []))
  in-or-out (o ∷ os) first left h b =
      let mine : List ℕ = object_nets above first o in
      let some : List ℕ = cond (is_input o.role) mine [] in
      let later : List ℕ = input_nets above (first + own_size o) os in
      let run : mine ≡ range_with_len first (own_size o) = own-run above first o (All-head NotJoined o os h) in
      let below : All (IsBelow (first + own_size o)) mine = subst (All (IsBelow (first + own_size o))) (sym run) (run-within (own_size o) first (first + own_size o) (omega arith)) in
      let left_below : All (IsBelow (first + own_size o)) left = All-weaker (IsBelow first) (IsBelow (first + own_size o)) (λ n l. omega (arith, l)) left b in
      All-cons (IsInOrOut (left ++ (some ++ later))) (object_signal 0 mine o) (object_signals 0 above (first + own_size o) os)
      (λ port. one o first left mine later port.1 below b (subst (All (AtLeast first)) (sym run) (run-from (own_size o) first)) (inputs-from-on os above (first + own_size o) (All-tail NotJoined o os h)))
      (subst (λ (ns : List ℕ). All (IsInOrOut ns) (object_signals 0 above (first + own_size o) os)) (append_assoc left some later)
      (in-or-out os (first + own_size o) (left ++ some) (All-tail NotJoined o os h) (All-append (IsBelow (first + own_size o)) left some left_below (cond-all (IsBelow (first + own_size o)) (is_input o.role) mine below))))
    where
      one : (o : Object) (first : ℕ) (left mine later : List ℕ) → is_port_role o.role ≡ true → All (IsBelow (first + own_size o)) mine → All (IsBelow first) left → All (AtLeast first) mine
          → All (AtLeast (first + own_size o)) later
          → All (Contains (left ++ (cond (is_input o.role) mine [] ++ later))) mine ⊎ All (λ n. Contains (left ++ (cond (is_input o.role) mine [] ++ later)) n → ⊥) mine
      one o first left mine later port below b from on = by (port-of o.role port)
        where
          by : (is_input o.role ≡ true) ⊎ (is_input o.role ≡ false) → All (Contains (left ++ (cond (is_input o.role) mine [] ++ later))) mine ⊎ All (λ n. Contains (left ++ (cond (is_input o.role) mine [] ++ later)) n → ⊥) mine
          by (inl e) =
              inl (subst (λ (t : Bool). All (Contains (left ++ (cond t mine [] ++ later))) mine) (sym e)
              (All-weaker (Contains mine) (Contains (left ++ (mine ++ later))) (λ n c. contains-right left (mine ++ later) n (contains-left mine later n c)) mine (all-contained mine)))
          by (inr e) =
              inr (subst (λ (t : Bool). All (λ n. Contains (left ++ (cond t mine [] ++ later)) n → ⊥) mine) (sym e)
              (λ k d l c. apart (slice_index_or mine k d) (from k d l) (below k d l) (contains-either left later (slice_index_or mine k d) c)))
            where
              apart : (n : ℕ) → first ≤ n → n < first + own_size o → Contains left n ⊎ Contains later n → ⊥
              apart n l m (inl c) = let z : n < first = All-contains (IsBelow first) left n b c in omega (arith, l, z)
              apart n l m (inr c) = let z : first + own_size o ≤ n = All-contains (AtLeast (first + own_size o)) later n on c in omega (arith, m, z)

  -- each input is an element of one of these ports
  of-more : (ss ts : List SignalView) (n : ℕ) → IsOfPort ts n → IsOfPort (ss ++ ts) n
  of-more ss ts n h = record { port = h.port; there = contains-right ss ts h.port h.there; is_port = h.is_port; has = h.has }

  input-is-port : (r : Role) → is_input r ≡ true → is_port_role r ≡ true
  input-is-port input h = refl
  input-is-port _ h = absurd cc

  are-of-ports : (os : List Object) (first : ℕ) → All (IsOfPort (object_signals 0 above first os)) (input_nets above first os)
  are-of-ports [] first = All-nil (IsOfPort [])
  are-of-ports (o ∷ os) first =
      let s : SignalView = object_signal 0 (object_nets above first o) o in
      let later : List SignalView = object_signals 0 above (first + own_size o) os in
      All-append (IsOfPort (s ∷ later)) (cond (is_input o.role) (object_nets above first o) []) (input_nets above (first + own_size o) os)
      (by (is_input o.role) refl)
      (All-weaker (IsOfPort later) (IsOfPort (s ∷ later)) (λ n h. of-more (s ∷ []) later n h) (input_nets above (first + own_size o) os) (are-of-ports os (first + own_size o)))
    where
      by : (t : Bool) → is_input o.role ≡ t → All (IsOfPort (object_signals 0 above first (o ∷ os))) (cond t (object_nets above first o) [])
      by false e = All-nil (IsOfPort (object_signals 0 above first (o ∷ os)))
      by true e =
          All-weaker (Contains (object_nets above first o)) (IsOfPort (object_signals 0 above first (o ∷ os)))
          (λ n c. record { port = object_signal 0 (object_nets above first o) o; there = Contains-first (object_signal 0 (object_nets above first o) o) (object_signals 0 above (first + own_size o) os); is_port = (refl, input-is-port o.role e); has = c })
          (object_nets above first o) (all-contained (object_nets above first o))

-- ---- the whole

further-in : (inputs : List ℕ) (s : SignalView) → FromScope 1 s → IsInOrOut inputs s
further-in inputs s l port = absurd (let e : s.scope ≡ 0 = port.0 in omega (arith, e, l))

pub ports-in-or-out : (p : Placed) (ps : List Placed) (total : ℕ) (h : Follow [] 0 (p ∷ ps) total) → All (IsInOrOut (input_nets h.0.above 0 p.objects)) (all_signals 0 (p ∷ ps))
ports-in-or-out p ps total h =
    let inputs : List ℕ = input_nets h.0.above 0 p.objects in
    let mine : List SignalView = object_signals 0 h.0.above 0 p.objects in
    subst (All (IsInOrOut inputs)) (sym (first-signals 0 [] 0 p ps h.0))
    (All-append (IsInOrOut inputs) mine (all_signals 1 ps) (in-or-out h.0.above p.objects 0 [] (top-is p h.0.stands).alone (All-nil (IsBelow 0)))
    (All-weaker (FromScope 1) (IsInOrOut inputs) (further-in inputs) (all_signals 1 ps) (from-scope 1 (p ∷ []) (0 + own_sizes p.objects) ps total h.1)))

pub inputs-of-ports : (p : Placed) (ps : List Placed) (total : ℕ) (h : Follow [] 0 (p ∷ ps) total) → All (IsOfPort (all_signals 0 (p ∷ ps))) (input_nets h.0.above 0 p.objects)
inputs-of-ports p ps total h =
    let inputs : List ℕ = input_nets h.0.above 0 p.objects in
    let mine : List SignalView = object_signals 0 h.0.above 0 p.objects in
    subst (λ (ss : List SignalView). All (IsOfPort ss) inputs) (sym (first-signals 0 [] 0 p ps h.0))
    (All-weaker (IsOfPort mine) (IsOfPort (mine ++ all_signals 1 ps))
    (λ n w. record { port = w.port; there = contains-left mine (all_signals 1 ps) w.port w.there; is_port = w.is_port; has = w.has }) inputs (are-of-ports h.0.above p.objects 0))
