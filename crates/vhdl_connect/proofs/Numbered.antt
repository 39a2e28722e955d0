-- Nets of elements, object after object.
use Rattle.std.proofs.Common.{◌≡◌, ℕ, zero, suc, ◌+◌, ◌<◌, ◌≤◌, List, [], ◌∷◌, ◌++◌, length, get_or, take, map, Option, Some, None, Result, Ok, Err, refl, sym, ap, ◌∙◌, arith}
use Rattle.std.specs.Prelude.{slice_index, IfOk, OnOk}
use Rattle.std.specs.List.{range_with_len}
use Rattle.std.proofs.lemmas.List.{append_assoc, append-nil, take_more, map-append}
use Rattle.vhdl_expand_rules.specs.Kinds.{size}
use Rattle.vhdl_expand_rules.specs.Tree as tree
use Rattle.vhdl_elab_rules.specs.Numbering.{object_nets, own_size, own_sizes, element_nets}
use Rattle.vhdl_elab_rules.specs.Wiring.{defaults_of}
use Rattle.vhdl_expand_tree.specs.declared.tree.Object.{Object}
use Rattle.vhdl_expand_tree.specs.Views.{object_view}
use Rattle.vhdl_connect_processes.proofs.Runs.{range-more}

-- ---- objects behind objects

defaults-behind : (os ps : List tree.Object) → defaults_of (os ++ ps) ≡ defaults_of os ++ defaults_of ps
defaults-behind [] ps = refl
defaults-behind (o ∷ os) ps = ap (λ vs. o.starts ++ vs) (defaults-behind os ps) ∙ sym (append_assoc o.starts (defaults_of os) (defaults_of ps))

nets-behind : (above : List ℕ) (first : ℕ) (os : List tree.Object) (o : tree.Object)
    → element_nets above first (os ++ o ∷ []) ≡ element_nets above first os ++ object_nets above (first + own_sizes os) o
nets-behind above first [] o = append-nil (object_nets above first o) ∙ ap (λ n. object_nets above n o) (let e : first ≡ first + 0 = omega arith in e)
nets-behind above first (p ∷ os) o =
    ap (λ ns. object_nets above first p ++ ns)
    (nets-behind above (first + own_size p) os o ∙ ap (λ n. element_nets above (first + own_size p) os ++ object_nets above n o)
    (let e : first + own_size p + own_sizes os ≡ first + (own_size p + own_sizes os) = omega arith in e))
    ∙ sym (append_assoc (object_nets above first p) (element_nets above (first + own_size p) os) (object_nets above (first + (own_size p + own_sizes os)) o))

sizes-behind : (os : List tree.Object) (o : tree.Object) → own_sizes (os ++ o ∷ []) ≡ own_sizes os + own_size o
sizes-behind [] o = let e : own_size o + 0 ≡ 0 + own_size o = omega arith in e
sizes-behind (p ∷ os) o = let h = sizes-behind os o in omega arith

first-sizes : (objects : List Object) (i : ℕ) → own_sizes (map object_view (take i objects)) ≤ own_sizes (map object_view objects)
first-sizes objects zero = omega arith
first-sizes [] (suc i) = omega arith
first-sizes (x ∷ xs) (suc i) = omega (arith, first-sizes xs i)

module _ (objects : List Object) (i : ℕ) (x : Object) (l : i < length objects) (is : x ≡ get_or objects i x) where
  next-objects : map object_view (take (i + 1) objects) ≡ map object_view (take i objects) ++ object_view x ∷ []
  next-objects = ap (map object_view) (take_more objects i x l ∙ ap (λ y. take i objects ++ y ∷ []) (sym is)) ∙ map-append object_view (take i objects) (x ∷ [])

  pub has_room : (first next most : ℕ) → next ≡ first + own_sizes (map object_view (take i objects)) → first + own_sizes (map object_view objects) ≤ most
      → next + own_size (object_view x) ≤ most
  has_room first next most h room =
      omega (arith, h, room, ap own_sizes next-objects, sizes-behind (map object_view (take i objects)) (object_view x), first-sizes objects (i + 1))

  pub defaults_next : (found more : List ℕ) → found ≡ defaults_of (map object_view (take i objects)) → more ≡ x.starts.items
      → found ++ more ≡ defaults_of (map object_view (take (i + 1) objects))
  defaults_next found more h e =
      (λ k. h k ++ e k) ∙ ap (λ vs. defaults_of (map object_view (take i objects)) ++ vs) (sym (append-nil x.starts.items))
      ∙ sym (defaults-behind (map object_view (take i objects)) (object_view x ∷ [])) ∙ ap defaults_of (sym next-objects)

  pub nets_next : (above : List ℕ) (first next : ℕ) (nets new : List ℕ) → next ≡ first + own_sizes (map object_view (take i objects))
      → nets ≡ element_nets above first (map object_view (take i objects)) → new ≡ nets ++ object_nets above next (object_view x)
      → new ≡ element_nets above first (map object_view (take (i + 1) objects))
  nets_next above first next nets new h k e =
      e ∙ (λ j. k j ++ object_nets above (h j) (object_view x)) ∙ sym (nets-behind above first (map object_view (take i objects)) (object_view x))
      ∙ ap (element_nets above first) (sym next-objects)

  pub sizes_next : (first next more : ℕ) → next ≡ first + own_sizes (map object_view (take i objects)) → more ≡ next + own_size (object_view x)
      → more ≡ first + own_sizes (map object_view (take (i + 1) objects))
  sizes_next first next more h e =
      e ∙ ap (λ n. n + own_size (object_view x)) h
      ∙ (let z : first + own_sizes (map object_view (take i objects)) + own_size (object_view x) ≡ first + (own_sizes (map object_view (take i objects)) + own_size (object_view x)) = omega arith in z)
      ∙ ap (λ n. first + n) (sym (sizes-behind (map object_view (take i objects)) (object_view x)) ∙ ap own_sizes (sym next-objects))

-- ---- one object

module _ (above : List ℕ) (first : ℕ) (o : tree.Object) where
  with-actual : (a : Option (List ℕ)) → o.actual ≡ a → object_nets above first o ≡ object_nets above first (record o { actual = a })
  with-actual a h = ap (λ b. object_nets above first (record o { actual = b })) h

  with-size : (a : Option (List ℕ)) → o.actual ≡ a → own_size o ≡ own_size (record o { actual = a })
  with-size a h = ap (λ b. own_size (record o { actual = b })) h

  pub actual_next : {E : Type 0} (r : Result ℕ E) (es : List ℕ) → o.actual ≡ Some es → IfOk r (λ next. next ≡ first) → IfOk r (λ next. next ≡ first + own_size o)
  actual_next (Ok n) es h k = let e = with-size (Some es) h in k ∙ (let z : first ≡ first + 0 = omega arith in z) ∙ ap (λ m. first + m) (sym e)
  actual_next (Err x) es h k = k

  pub actual_nets : {E : Type 0} (r : Result ℕ E) (es ds old new : List ℕ) → o.actual ≡ Some es → ds ≡ es → OnOk r (new ≡ old ++ map (slice_index above) ds)
      → OnOk r (new ≡ old ++ object_nets above first o)
  actual_nets (Ok n) es ds old new h e k = k ∙ ap (λ xs. old ++ map (slice_index above) xs) e ∙ ap (λ ns. old ++ ns) (sym (with-actual (Some es) h))
  actual_nets (Err x) es ds old new h e k = k

  pub own_next : {E : Type 0} (r : Result ℕ E) → o.actual ≡ None → IfOk r (λ next. next ≡ first + size o.kind) → IfOk r (λ next. next ≡ first + own_size o)
  own_next (Ok n) h k = k ∙ ap (λ m. first + m) (sym (with-size None h))
  own_next (Err e) h k = k

  pub own_nets : {E : Type 0} (r : Result ℕ E) (old new : List ℕ) → o.actual ≡ None → OnOk r (new ≡ old ++ range_with_len first (size o.kind)) → OnOk r (new ≡ old ++ object_nets above first o)
  own_nets (Ok n) old new h k = k ∙ ap (λ ns. old ++ ns) (sym (with-actual None h))
  own_nets (Err e) old new h k = k

-- ---- runs

pub run_next : (old new : List ℕ) (first k x : ℕ) → new ≡ old ++ range_with_len first k → x ≡ first + k → new ++ x ∷ [] ≡ old ++ range_with_len first (k + 1)
run_next old new first k x h e =
    (λ i. h i ++ e i ∷ []) ∙ append_assoc old (range_with_len first k) ((first + k) ∷ []) ∙ ap (λ ns. old ++ ns) (sym (range-more first k))
