-- The signals that kept variables are: what they are in range of, and which nets they have.
use Rattle.std.proofs.Common.{◌≡◌, ℕ, zero, suc, ◌+◌, ◌-◌, ◌<◌, ◌≤◌, ◌⊎◌, inl, inr, Bool, true, false, List, [], ◌∷◌, ◌++◌, length, map, flat_map, replicate, slice_get, Some, All, Contains, refl, sym, ap, ◌∙◌, subst, arith, codes}
use Rattle.std.specs.Prelude.{◌≢◌, option_map}
use Rattle.std.specs.List.{range_with_len}
use Rattle.std.proofs.lemmas.Bool.{cases_lt}
use Rattle.std.proofs.lemmas.List.{length-append, length-map, length-replicate}
use Rattle.std.proofs.lemmas.List.Elements.{All-nil, All-cons, All-head, All-tail, All-append, Contains-append_left, Contains-append_right}
use Rattle.std.proofs.lemmas.List.FromFn.{length-range_with_len, get_or-range_with_len}
use Rattle.rtl_model.specs.bodies.Types.{ElementType}
use Rattle.rtl_model.specs.bodies.Fits.{IsWidth}
use Rattle.rtl_model.specs.nets.FlatNetlist.{FlatProcess, VariableInRange, ProcessInRange}
use Rattle.rtl_net.specs.declared.process.Process.{Process}
use Rattle.rtl_net.specs.declared.process.Variable.{Variable}
use Rattle.rtl_net.specs.Names.{generates_prefix, label_or_number}
use Rattle.rtl_net.specs.Nets.{SignalView, variable_view, process_view, element_type}
use Rattle.rtl_net.specs.Elaborated.{VariableIsNamed, ProcessIsNamed, SignalInRange}
use Rattle.rtl_kept_bodies.specs.Rules.{NamedAlike}
use Rattle.rtl_variable_registers.specs.Processes.{kept_elements, kept_types}
use Rattle.rtl_keeping.specs.Kept.{kept_name, kept_signal, variables_kept, signals_kept}
use Rattle.rtl_keeping.specs.Steps.{marked, types_of, starts_of, signals_of}
use Rattle.rtl_keeping.proofs.Marks.{signals_marked, marks_of, types_marked, starts_marked}

-- ---- lists

slice_right : {X : Type 0} (xs ys : List X) (n k : ℕ) → length xs ≡ n → slice_get (xs ++ ys) (n + k) ≡ slice_get ys k
slice_right [] ys n k e = ap (slice_get ys) (let s : n + k ≡ k = omega (arith, e) in s)
slice_right (x ∷ xs) ys zero k e = absurd (omega (arith, e))
slice_right (x ∷ xs) ys (suc n) k e = ap (slice_get (x ∷ (xs ++ ys))) (let s : suc n + k ≡ suc (n + k) = omega arith in s) ∙ slice_right xs ys n k (omega (arith, e))

pub slice_left : {X : Type 0} (xs ys : List X) (k : ℕ) (x : X) → slice_get xs k ≡ Some x → slice_get (xs ++ ys) k ≡ Some x
slice_left [] ys k x h = absurd cc
slice_left (y ∷ xs) ys zero x h = h
slice_left (y ∷ xs) ys (suc k) x h = slice_left xs ys k x h

replicated : (n : ℕ) (t : ElementType) (k : ℕ) → k < n → slice_get (replicate n t) k ≡ Some t
replicated zero t k l = absurd (omega (arith, l))
replicated (suc n) t zero l = refl
replicated (suc n) t (suc k) l = replicated n t k (omega (arith, l))

all_marked : (P : Variable → Type 0) (marks : List Bool) (vs : List Variable) → All P vs → All P (marked marks vs)
all_marked P [] vs h = All-nil P
all_marked P (true ∷ marks) [] h = All-nil P
all_marked P (false ∷ marks) [] h = All-nil P
all_marked P (true ∷ marks) (v ∷ vs) h = All-cons P v (marked marks vs) (All-head P v vs h) (all_marked P marks vs (All-tail P v vs h))
all_marked P (false ∷ marks) (v ∷ vs) h = all_marked P marks vs (All-tail P v vs h)

-- ---- of a process

-- the types from this net on begin with these
abbrev pub StandFrom : (types : List ElementType) (net : ℕ) (own : List ElementType) → Type 0
StandFrom types net own = (k : ℕ) (t : ElementType) → slice_get own k ≡ Some t → slice_get types (net + k) ≡ Some t

stand_further : (types : List ElementType) (net n m : ℕ) (xs ys : List ElementType) → length xs ≡ n → net + n ≡ m → StandFrom types net (xs ++ ys) → StandFrom types m ys
stand_further types net n m xs ys e f h = λ k t at. ap (slice_get types) (let s : m + k ≡ net + (n + k) = omega (arith, f) in s) ∙ h (n + k) t (slice_right xs ys n k e ∙ at)

is_named : (p : Process) (number : ℕ) (v : Variable) → kept_name p number v ≢ []
is_named p number v e =
    let front = generates_prefix p.generates.items ++ label_or_number number (option_map (λ l. l.items) p.label) in
    let n = length-append (front ++ codes ".") v.name.items in
    let m = length-append front (codes ".") in
    let dot : length (codes ".") ≡ 1 = refl in
    let none : length (kept_name p number v) ≡ 0 = ap length e in
    absurd (omega (arith, n, m, dot, none))

record Fits (v : Variable) : Type 0 where
  named : VariableIsNamed v
  in_range : VariableInRange (variable_view v)

fits_all : (vs : List Variable) → All VariableIsNamed vs → All VariableInRange (map variable_view vs) → All Fits vs
fits_all [] h g = All-nil Fits
fits_all (v ∷ vs) h g =
    All-cons Fits v vs (record { named = All-head VariableIsNamed v vs h; in_range = All-head VariableInRange (variable_view v) (map variable_view vs) g })
    (fits_all vs (All-tail VariableIsNamed v vs h) (All-tail VariableInRange (variable_view v) (map variable_view vs) g))

module _ (types : List ElementType) (scopes : ℕ) (p : Process) (number : ℕ) (there : p.scope < scopes) where
  in_range_of : (vs : List Variable) (net : ℕ) → All Fits vs → StandFrom types net (flat_map types_of vs) → All (SignalInRange types scopes) (signals_of p number net vs)
  in_range_of [] net h at = All-nil (SignalInRange types scopes)
  in_range_of (v ∷ vs) net h at =
      let fit = All-head Fits v vs h in
      let len = length v.starts.items in
      let long = length-range_with_len net (length v.starts.items) in
      All-cons (SignalInRange types scopes) (kept_signal p number net v) (signals_of p number (net + length v.starts.items) vs)
      (record {
        scope = there;
        name = is_named p number v;
        width = subst IsWidth (sym long) fit.in_range.width;
        as_declared = long ∙ fit.named.as_declared;
        nets = λ k d l.
            let m : k < length v.starts.items = omega (arith, l, long) in
            ap (slice_get types) (get_or-range_with_len net (length v.starts.items) k d m)
            ∙ at k (element_type v.kind) (slice_left (types_of v) (flat_map types_of vs) k (element_type v.kind) (replicated (length v.starts.items) (element_type v.kind) k m));
      })
      (in_range_of vs (net + length v.starts.items) (All-tail Fits v vs h)
      (stand_further types net (length v.starts.items) (net + length v.starts.items) (types_of v) (flat_map types_of vs) (length-types v) refl at))
    where
      length-types : (w : Variable) → length (types_of w) ≡ length w.starts.items
      length-types w = length-replicate (length w.starts.items) (element_type w.kind)

-- an element of a signal has this net
pub record Has (ss : List SignalView) (n : ℕ) : Type 0 where
  pub signal : SignalView
  pub there : Contains ss signal
  pub net : Contains signal.nets n

pub has_left : (xs ys : List SignalView) (n : ℕ) → Has xs n → Has (xs ++ ys) n
has_left xs ys n h = record { signal = h.signal; there = Contains-append_left xs ys h.signal h.there; net = h.net }

pub has_right : (xs ys : List SignalView) (n : ℕ) → Has ys n → Has (xs ++ ys) n
has_right xs ys n h = record { signal = h.signal; there = Contains-append_right xs ys h.signal h.there; net = h.net }

in_row : (first n e : ℕ) → first ≤ e → e < first + n → Contains (range_with_len first n) e
in_row first n e l m =
    let s : first + (e - first) ≡ e = omega (arith, l) in
    (e - first, omega (arith, l, m, length-range_with_len first n), get_or-range_with_len first n (e - first) e (omega (arith, l, m)) ∙ s)

has_of : (p : Process) (number : ℕ) (vs : List Variable) (net n : ℕ) → net ≤ n → n < net + length (flat_map starts_of vs) → Has (signals_of p number net vs) n
has_of p number [] net n l m = absurd (omega (arith, l, m))
has_of p number (v ∷ vs) net n l m =
    by (cases_lt n (net + length v.starts.items)) (λ g. has_of p number vs (net + length v.starts.items) n g (omega (arith, m, length-append v.starts.items (flat_map starts_of vs))))
  where
    by : (n < net + length v.starts.items) ⊎ (net + length v.starts.items ≤ n) → (net + length v.starts.items ≤ n → Has (signals_of p number (net + length v.starts.items) vs) n) → Has (signals_of p number net (v ∷ vs)) n
    by (inl g) more = record { signal = kept_signal p number net v; there = (0, omega arith, refl); net = in_row net (length v.starts.items) n l g }
    by (inr g) more = has_right (kept_signal p number net v ∷ []) (signals_of p number (net + length v.starts.items) vs) n (more g)

-- ---- of all processes

own_alike : (p : Process) → NamedAlike p p
own_alike p = record { wakes = refl; variables = refl; scope = refl; generates = refl; label = refl; at = refl; bytes = refl }

marked_signals : (p : Process) (number net : ℕ) → signals_of p number net (marked (marks_of p) p.variables.items) ≡ variables_kept p number 0 net p.variables.items
marked_signals p number net = signals_marked p p (own_alike p) number p.variables.items 0 net

pub length_kept_types : (p : FlatProcess) → length (kept_types p) ≡ length (kept_elements p)
length_kept_types p = length-map (kept_elements p) _

length_marked : (p : Process) → length (flat_map starts_of (marked (marks_of p) p.variables.items)) ≡ length (kept_elements (process_view p))
length_marked p = ap length (starts_marked p) ∙ length-map (kept_elements (process_view p)) _

pub all_in_range : (types all : List ElementType) (scopes number net : ℕ) (ps : List Process) → All (ProcessIsNamed scopes) ps → All (ProcessInRange types) (map process_view ps)
    → StandFrom all net (flat_map kept_types (map process_view ps)) → All (SignalInRange all scopes) (signals_kept number net ps)
all_in_range types all scopes number net [] h g at = All-nil (SignalInRange all scopes)
all_in_range types all scopes number net (p ∷ ps) h g at =
    let named = All-head (ProcessIsNamed scopes) p ps h in
    let fit = All-head (ProcessInRange types) (process_view p) (map process_view ps) g in
    let more = flat_map kept_types (map process_view ps) in
    All-append (SignalInRange all scopes) (variables_kept p number 0 net p.variables.items) (signals_kept (suc number) (net + length (kept_elements (process_view p))) ps)
    (subst (All (SignalInRange all scopes)) (marked_signals p number net)
    (in_range_of all scopes p number named.scope (marked (marks_of p) p.variables.items) net
    (all_marked Fits (marks_of p) p.variables.items (fits_all p.variables.items named.variables fit.variables))
    (λ k t i. at k t (slice_left (kept_types (process_view p)) (flat_map kept_types (map process_view ps)) k t (ap (λ ts. slice_get ts k) (sym (types_marked p)) ∙ i)))))
    (all_in_range types all scopes (suc number) (net + length (kept_elements (process_view p))) ps (All-tail (ProcessIsNamed scopes) p ps h) (All-tail (ProcessInRange types) (process_view p) (map process_view ps) g)
    (stand_further all net (length (kept_elements (process_view p))) (net + length (kept_elements (process_view p))) (kept_types (process_view p)) (flat_map kept_types (map process_view ps)) (length_kept_types (process_view p)) refl at))

pub has_kept : (number net : ℕ) (ps : List Process) (n : ℕ) → net ≤ n → n < net + length (flat_map kept_elements (map process_view ps)) → Has (signals_kept number net ps) n
has_kept number net [] n l m = absurd (omega (arith, l, m))
has_kept number net (p ∷ ps) n l m =
    by (cases_lt n (net + length (kept_elements (process_view p))))
    (λ g. has_kept (suc number) (net + length (kept_elements (process_view p))) ps n g (omega (arith, m, length-append (kept_elements (process_view p)) (flat_map kept_elements (map process_view ps)))))
  where
    own : List SignalView
    own = variables_kept p number 0 net p.variables.items

    others : List SignalView
    others = signals_kept (suc number) (net + length (kept_elements (process_view p))) ps

    by : (n < net + length (kept_elements (process_view p))) ⊎ (net + length (kept_elements (process_view p)) ≤ n) → (net + length (kept_elements (process_view p)) ≤ n → Has others n) → Has (own ++ others) n
    by (inl g) more = has_left own others n (subst (λ ss. Has ss n) (marked_signals p number net) (has_of p number (marked (marks_of p) p.variables.items) net n l (omega (arith, g, length_marked p))))
    by (inr g) more = has_right own others n (more g)

-- whatever holds of each signal that a variable is kept as holds of all
pub all_kept : (P : SignalView → Type 0) → ((p : Process) (number net : ℕ) (v : Variable) → P (kept_signal p number net v)) → (number net : ℕ) (ps : List Process) → All P (signals_kept number net ps)
all_kept P h number net [] = All-nil P
all_kept P h number net (p ∷ ps) =
    All-append P (variables_kept p number 0 net p.variables.items) (signals_kept (suc number) (net + length (kept_elements (process_view p))) ps)
    (subst (All P) (marked_signals p number net) (each (marked (marks_of p) p.variables.items) net)) (all_kept P h (suc number) (net + length (kept_elements (process_view p))) ps)
  where
    each : (vs : List Variable) (first : ℕ) → All P (signals_of p number first vs)
    each [] first = All-nil P
    each (v ∷ vs) first = All-cons P (kept_signal p number first v) (signals_of p number (first + length v.starts.items) vs) (h p number first v) (each vs (first + length v.starts.items))
