-- Assignments one by one.
use Rattle.std.proofs.Common.{◌≡◌, ℕ, ◌+◌, ◌<◌, ◌≤◌, List, [], ◌∷◌, length, drop, slice_index, slice_set, Option, Some, ap, refl, sym}
use Rattle.std.specs.List.{range_with_len}
use Rattle.std.proofs.lemmas.List.{at_drop_more, drop_all}
use Rattle.rtl_drives.specs.Spans.{written}
use Rattle.rtl_model.specs.bodies.Variables.{values_put}
use Rattle.rtl_eval.specs.Running.{assigned}

-- the number at a place is the first of what is left from there
number_first : (ns : List ℕ) (i : ℕ) → i < length ns → drop i ns ≡ slice_index ns i ∷ drop (i + 1) ns
number_first ns i l = at_drop_more (λ xs. xs) ns i 0 l

pub assigned_more : (ns vs : List ℕ) (i : ℕ) (old : _) → i < length ns → i < length vs
    → assigned (drop (i + 1) ns) (drop (i + 1) vs) (slice_set old (slice_index ns i) (Some (slice_index vs i))) ≡ assigned (drop i ns) (drop i vs) old
assigned_more ns vs i old l m =
    let p = number_first ns i l in
    let q = number_first vs i m in
    sym (λ k. assigned (p k) (q k) old)

pub none_to_assign : (ns vs : List ℕ) (i : ℕ) (old : _) → length ns ≤ i → old ≡ assigned (drop i ns) (drop i vs) old
none_to_assign ns vs i old l = sym (ap (λ ps. assigned ps (drop i vs) old) (drop_all i ns l))

-- at places one after another
pub assigned_span : (first : ℕ) (vs : List ℕ) (old : List (Option ℕ)) → assigned (range_with_len first (length vs)) vs old ≡ written first vs old
assigned_span first [] old = refl
assigned_span first (v ∷ vs) old = assigned_span (first + 1) vs (slice_set old first (Some v))

pub put_more : (ns vs : List ℕ) (i : ℕ) (old : List ℕ) → i < length ns → i < length vs
    → values_put (drop (i + 1) ns) (drop (i + 1) vs) (slice_set old (slice_index ns i) (slice_index vs i)) ≡ values_put (drop i ns) (drop i vs) old
put_more ns vs i old l m =
    let p = number_first ns i l in
    let q = number_first vs i m in
    sym (λ k. values_put (p k) (q k) old)

pub none_to_put : (ns vs : List ℕ) (i : ℕ) (old : List ℕ) → length ns ≤ i → old ≡ values_put (drop i ns) (drop i vs) old
none_to_put ns vs i old l = sym (ap (λ es. values_put es (drop i vs) old) (drop_all i ns l))
