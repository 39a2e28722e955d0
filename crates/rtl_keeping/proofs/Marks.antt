-- What is added for marked variables is what their process keeps.
use Rattle.std.proofs.Common.{◌≡◌, ℕ, suc, ◌+◌, ◌-◌, ◌<◌, Bool, true, false, cond, List, [], ◌∷◌, ◌++◌, length, map, flat_map, slice_index_or, refl, sym, ap, ◌∙◌, arith, codes, append_assoc}
use Rattle.std.specs.Prelude.{option_map}
use Rattle.std.specs.List.{list_any, range_with_len}
use Rattle.std.proofs.lemmas.List.{length-append, length-replicate, map-append, get_or_append_left, get_or-append_right, ext_get_or}
use Rattle.std.proofs.lemmas.List.FromFn.{length-map-range_with_len, get_or-map-range_with_len}
use Rattle.rtl_model.specs.bodies.Types.{nine_valued}
use Rattle.rtl_model.specs.nets.FlatNetlist.{element_starts, element_types}
use Rattle.rtl_net.specs.declared.process.Process.{Process}
use Rattle.rtl_net.specs.declared.process.Variable.{Variable}
use Rattle.rtl_net.specs.Names.{generates_prefix, label_or_number}
use Rattle.rtl_net.specs.Nets.{variable_view, process_view, body_of, element_type}
use Rattle.rtl_kept_bodies.specs.Rules.{keeps_each, NamedAlike}
use Rattle.rtl_variable_registers.specs.Bodies.{keeps_element, KeptVariable}
use Rattle.rtl_variable_registers.specs.Processes.{kept_among, kept_types, kept_starts}
use Rattle.rtl_keeping.specs.Kept.{kept_signal, variables_kept}
use Rattle.rtl_keeping.specs.Steps.{marked, types_of, starts_of, signals_of}

-- ---- signals

module _ (p q : Process) (alike : NamedAlike p q) (number : ℕ) where
  signal_alike : (net : ℕ) (v : Variable) → kept_signal q number net v ≡ kept_signal p number net v
  signal_alike net v = λ i. record {
    scope = alike.scope i;
    name = generates_prefix (alike.generates i).items ++ label_or_number number (option_map (λ l. l.items) (alike.label i)) ++ codes "." ++ v.name.items;
    port = false;
    kind = v.kind;
    nets = range_with_len net (length v.starts.items);
    at = alike.at i;
  }

  pub signals_marked : (vs : List Variable) (first net : ℕ)
      → signals_of q number net (marked (keeps_each (keeps_element (body_of p)) first (map variable_view vs)) vs) ≡ variables_kept p number first net vs
  signals_marked [] first net = refl
  signals_marked (v ∷ vs) first net =
      by (list_any (keeps_element (body_of p)) (range_with_len first (length v.starts.items)))
      (signals_marked vs (first + length v.starts.items) (net + length v.starts.items)) (signals_marked vs (first + length v.starts.items) net)
    where
      len : ℕ
      len = length v.starts.items

      marks : List Bool
      marks = keeps_each (keeps_element (body_of p)) (first + length v.starts.items) (map variable_view vs)

      by : (b : Bool) → signals_of q number (net + length v.starts.items) (marked marks vs) ≡ variables_kept p number (first + length v.starts.items) (net + length v.starts.items) vs
          → signals_of q number net (marked marks vs) ≡ variables_kept p number (first + length v.starts.items) net vs
          → signals_of q number net (marked (b ∷ marks) (v ∷ vs))
          ≡ cond b (kept_signal p number net v ∷ variables_kept p number (first + length v.starts.items) (net + length v.starts.items) vs) (variables_kept p number (first + length v.starts.items) net vs)
      by true more other = λ i. signal_alike net v i ∷ more i
      by false more other = other

pub as_many_marks : (keeps : ℕ → Bool) (first : ℕ) (vs : List Variable) → length (keeps_each keeps first (map variable_view vs)) ≡ length vs
as_many_marks keeps first [] = refl
as_many_marks keeps first (v ∷ vs) = ap suc (as_many_marks keeps (first + length v.starts.items) vs)

-- ---- types and starts

flat_types : (vs : List Variable) → element_types (map variable_view vs) ≡ flat_map types_of vs
flat_types [] = refl
flat_types (v ∷ vs) = ap (λ ts. types_of v ++ ts) (flat_types vs)

flat_starts : (vs : List Variable) → element_starts (map variable_view vs) ≡ flat_map starts_of vs
flat_starts [] = refl
flat_starts (v ∷ vs) = ap (λ ns. starts_of v ++ ns) (flat_starts vs)

-- a part of a list, place by place
part : {X : Type 0} (d : X) (front xs back : List X) (first n : ℕ) → length front ≡ first → length xs ≡ n
    → map (λ e. slice_index_or (front ++ (xs ++ back)) e d) (range_with_len first n) ≡ xs
part d front xs back first n at long =
    ext_get_or d _ xs (length-map-range_with_len (λ e. slice_index_or (front ++ (xs ++ back)) e d) first n ∙ sym long)
    (λ k l.
    let m : k < n = omega (arith, l, length-map-range_with_len (λ e. slice_index_or (front ++ (xs ++ back)) e d) first n) in
    let s : first + k - first ≡ k = omega arith in
    get_or-map-range_with_len (λ e. slice_index_or (front ++ (xs ++ back)) e d) first n k (first + k) d m refl
    ∙ get_or-append_right front (xs ++ back) first (first + k) d at (omega arith)
    ∙ ap (λ j. slice_index_or (xs ++ back) j d) s
    ∙ get_or_append_left xs back d k (omega (arith, m, long)))

-- for each element of a variable `piece` has one, and `all` has those of all variables
module _ {X : Type 0} (d : X) (piece : Variable → List X) (as_long : (v : Variable) → length (piece v) ≡ length v.starts.items) (all : List X) (keeps : ℕ → Bool) where
  pieces_marked : (front : List X) (vs : List Variable) (first : ℕ) → all ≡ front ++ flat_map piece vs → length front ≡ first
      → flat_map piece (marked (keeps_each keeps first (map variable_view vs)) vs)
      ≡ map (λ e. slice_index_or all e d) (flat_map (λ (k : KeptVariable). k.elements) (kept_among keeps first (map variable_view vs)))
  pieces_marked front [] first is at = refl
  pieces_marked front (v ∷ vs) first is at =
      by (list_any keeps (range_with_len first (length v.starts.items)))
      (ap (λ xs. map (λ e. slice_index_or xs e d) (range_with_len first (length v.starts.items))) is ∙ part d front (piece v) (flat_map piece vs) first (length v.starts.items) at (as_long v))
      (pieces_marked (front ++ piece v) vs (first + length v.starts.items) (is ∙ sym (append_assoc front (piece v) (flat_map piece vs))) (omega (arith, length-append front (piece v), as_long v, at)))
    where
      es : List ℕ
      es = range_with_len first (length v.starts.items)

      marks : List Bool
      marks = keeps_each keeps (first + length v.starts.items) (map variable_view vs)

      more : List KeptVariable
      more = kept_among keeps (first + length v.starts.items) (map variable_view vs)

      by : (b : Bool) → map (λ e. slice_index_or all e d) es ≡ piece v
          → flat_map piece (marked marks vs) ≡ map (λ e. slice_index_or all e d) (flat_map (λ (k : KeptVariable). k.elements) more)
          → flat_map piece (marked (b ∷ marks) (v ∷ vs))
          ≡ map (λ e. slice_index_or all e d) (flat_map (λ (k : KeptVariable). k.elements) (cond b (record { type_of = element_type v.kind; elements = es } ∷ more) more))
      by true own rest =
          (λ i. sym own i ++ rest i) ∙ sym (map-append (λ e. slice_index_or all e d) es (flat_map (λ (k : KeptVariable). k.elements) more))
      by false own rest = rest

abbrev pub marks_of : Process → List Bool
marks_of p = keeps_each (keeps_element (body_of p)) 0 (map variable_view p.variables.items)

pub types_marked : (p : Process) → flat_map types_of (marked (marks_of p) p.variables.items) ≡ kept_types (process_view p)
types_marked p =
    pieces_marked nine_valued types_of (λ v. length-replicate (length v.starts.items) (element_type v.kind)) (element_types (map variable_view p.variables.items)) (keeps_element (body_of p)) [] p.variables.items 0
    (flat_types p.variables.items) refl

pub starts_marked : (p : Process) → flat_map starts_of (marked (marks_of p) p.variables.items) ≡ kept_starts (process_view p)
starts_marked p =
    pieces_marked 0 starts_of (λ v. refl) (element_starts (map variable_view p.variables.items)) (keeps_element (body_of p)) [] p.variables.items 0 (flat_starts p.variables.items) refl
