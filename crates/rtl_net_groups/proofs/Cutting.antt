-- Cuts, one behind the other.
use Rattle.std.proofs.Common.{◌≡◌, ℕ, zero, suc, ◌+◌, ◌-◌, ◌<◌, ◌≤◌, List, [], ◌∷◌, ◌++◌, length, get_or, take, replicate, refl, sym, ap, subst, ◌∙◌, arith, add-zero, zero-add, length-append, ◌⊎◌, inl, inr}
use Rattle.std.specs.List.{range_with_len, flat_map}
use Rattle.std.proofs.lemmas.Bool.{cases_lt}
use Rattle.std.proofs.lemmas.List.{append-nil, append_assoc, get_or_append_left, get_or-append_right, get_or-replicate, get_or_push, get_or-take, length_push, length-replicate, length-take-le, take_all}
use Rattle.std.proofs.lemmas.List.Elements.{All-push, All-nil}
use Rattle.rtl_net_groups.specs.declared.cuts.Cut.{Cut}
use Rattle.rtl_net_groups.specs.Cuts.{Cutting, AreCuts, AreCutsOf, IsCut, HasPlace, places_of, no_cut}
use Rattle.rtl_net_groups.specs.steps.Cutting.{AreCutsTo, IsRun}

-- ---- places

range_then : (a n m : ℕ) → range_with_len a (n + m) ≡ range_with_len a n ++ range_with_len (a + n) m
range_then a zero m = ap (λ (k : ℕ). range_with_len a k) (zero-add m) ∙ ap (λ (k : ℕ). range_with_len k m) (sym (add-zero a))
range_then a (suc n) m =
    let e : suc n + m ≡ suc (n + m) = omega arith in
    let f : a + 1 + n ≡ a + suc n = omega arith in
    ap (λ (k : ℕ). range_with_len a k) e
    ∙ ap (λ (xs : List ℕ). a ∷ xs) (range_then (a + 1) n m ∙ ap (λ (k : ℕ). range_with_len (a + 1) n ++ range_with_len k m) f)

flat_map-push : (cuts : List Cut) (cut : Cut) → flat_map places_of (cuts ++ cut ∷ []) ≡ flat_map places_of cuts ++ places_of cut
flat_map-push [] cut = append-nil (places_of cut)
flat_map-push (c ∷ cuts) cut = ap (λ (xs : List ℕ). places_of c ++ xs) (flat_map-push cuts cut) ∙ sym (append_assoc (places_of c) (flat_map places_of cuts) (places_of cut))

-- ---- one process

module _ (of_net targets : List ℕ) where
  pub no_cuts : AreCutsTo of_net targets 0 [] []
  no_cuts = record {
    within = omega arith;
    are_cuts = All-nil (IsCut of_net targets);
    each_place = refl;
    each_number = refl;
    numbers_are = λ place l. absurd (omega arith);
  }

  pub cut_is : (place net len group : ℕ) → net ≡ get_or targets place 0 → group ≡ get_or of_net net 0 → IsRun of_net targets place len
      → IsCut of_net targets (record { place = place; net = net; len = len; group = group })
  cut_is place net len group net_is group_is R = record {
    some = R.some;
    there = R.there;
    nets = λ k l. R.nets k l ∙ ap (λ (m : ℕ). m + k) (sym net_is);
    in_group = λ k l. ap (λ (m : ℕ). get_or of_net (m + k) 0) net_is ∙ R.in_group k l ∙ ap (λ (m : ℕ). get_or of_net m 0) (sym net_is) ∙ sym group_is;
  }

  module _ (end : ℕ) (cuts : List Cut) (numbers : List ℕ) (C : AreCutsTo of_net targets end cuts numbers) (cut : Cut) (I : IsCut of_net targets cut) (at_end : cut.place ≡ end) where
    pub cuts_more : AreCutsTo of_net targets (end + cut.len) (cuts ++ cut ∷ []) (numbers ++ replicate cut.len (length cuts))
    cuts_more = record {
      within = omega (arith, I.there, at_end);
      are_cuts = All-push (IsCut of_net targets) cuts cut C.are_cuts I;
      each_place = flat_map-push cuts cut ∙ ap (λ (xs : List ℕ). xs ++ places_of cut) C.each_place
          ∙ ap (λ (p : ℕ). range_with_len 0 end ++ range_with_len p cut.len) (at_end ∙ sym (zero-add end)) ∙ sym (range_then 0 end cut.len);
      each_number = length-append numbers (replicate cut.len (length cuts)) ∙ (let r = length-replicate cut.len (length cuts) in omega (arith, r, C.each_number));
      numbers_are = λ place l. by place l (cases_lt place end);
    }
      where
        old : (place : ℕ) → place < end → get_or (numbers ++ replicate cut.len (length cuts)) place 0 ≡ get_or numbers place 0
        old place l = get_or_append_left numbers (replicate cut.len (length cuts)) 0 place (omega (arith, C.each_number))

        new : (place : ℕ) → end ≤ place → place < end + cut.len → get_or (numbers ++ replicate cut.len (length cuts)) place 0 ≡ length cuts
        new place from l =
            get_or-append_right numbers (replicate cut.len (length cuts)) end place 0 C.each_number from
            ∙ get_or-replicate cut.len (place - end) (length cuts) 0 (omega arith)

        by : (place : ℕ) → place < end + cut.len → (place < end) ⊎ (end ≤ place)
            → (get_or (numbers ++ replicate cut.len (length cuts)) place 0 < length (cuts ++ cut ∷ []))
            × HasPlace (get_or (cuts ++ cut ∷ []) (get_or (numbers ++ replicate cut.len (length cuts)) place 0) no_cut) place
        by place l (inl less) =
            let (there, has) = C.numbers_are place less in
            let is = get_or_append_left cuts (cut ∷ []) no_cut (get_or numbers place 0) there in
            rw (old place less) (omega (arith, there, length_push cuts cut), subst (λ (c : Cut). HasPlace c place) (sym is) has)
        by place l (inr from) =
            let is = get_or_push cuts cut no_cut (length cuts) refl in
            let has : HasPlace cut place = record { from = omega (arith, at_end); before = omega (arith, at_end) } in
            rw (new place from l) (omega (arith, length_push cuts cut), subst (λ (c : Cut). HasPlace c place) (sym is) has)

  pub cuts_all : (end : ℕ) (cuts : List Cut) (numbers : List ℕ) → length targets ≤ end → AreCutsTo of_net targets end cuts numbers → AreCuts of_net targets cuts numbers
  cuts_all end cuts numbers done C =
      let same : end ≡ length targets = omega (arith, C.within) in
      record {
        are_cuts = C.are_cuts;
        each_place = C.each_place ∙ ap (λ (n : ℕ). range_with_len 0 n) same;
        each_number = C.each_number ∙ same;
        numbers_are = λ place l. C.numbers_are place (omega (arith, l, same));
      }

-- ---- process by process

module _ (of_net : List ℕ) (targets : List (List ℕ)) where
  pub cuts_of_none : AreCutsOf of_net (take 0 targets) (record { cuts = []; numbers = [] })
  cuts_of_none = record { each_process = refl; each_row = refl; each = λ p l. absurd (omega arith) }

  pub cuts_of_more : (k : ℕ) (cuts : List (List Cut)) (numbers : List (List ℕ)) (row : List Cut) (row_numbers : List ℕ) → k < length targets
      → AreCutsOf of_net (take k targets) (record { cuts = cuts; numbers = numbers }) → AreCuts of_net (get_or targets k []) row row_numbers
      → AreCutsOf of_net (take (k + 1) targets) (record { cuts = cuts ++ row ∷ []; numbers = numbers ++ row_numbers ∷ [] })
  cuts_of_more k cuts numbers row row_numbers within A C = record {
    each_process = length_push cuts row ∙ (let e = length-take-le (k + 1) targets (omega arith) in omega (arith, many, e));
    each_row = length_push numbers row_numbers ∙ (let e = length-take-le (k + 1) targets (omega arith) in omega (arith, many_rows, e));
    each = λ p l. by p (cases_lt p k) (omega (arith, l, length-take-le (k + 1) targets (omega arith)));
  }
    where
      many : length cuts ≡ k
      many = A.each_process ∙ length-take-le k targets (omega arith)

      many_rows : length numbers ≡ k
      many_rows = A.each_row ∙ length-take-le k targets (omega arith)

      by : (p : ℕ) → (p < k) ⊎ (k ≤ p) → p < k + 1 → AreCuts of_net (get_or (take (k + 1) targets) p []) (get_or (cuts ++ row ∷ []) p []) (get_or (numbers ++ row_numbers ∷ []) p [])
      by p (inl l) _ =
          rw (
            get_or-take (k + 1) targets p [] (omega arith) ∙ sym (get_or-take k targets p [] l),
            get_or_append_left cuts (row ∷ []) [] p (rw many l),
            get_or_append_left numbers (row_numbers ∷ []) [] p (rw many_rows l),
          )
          (A.each p (rw (length-take-le k targets (omega arith)) l))
      by p (inr l) m =
          let e : p ≡ k = omega arith in
          rw (e, get_or-take (k + 1) targets k [] (omega arith), get_or_push cuts row [] k many, get_or_push numbers row_numbers [] k many_rows) C

  pub cuts_of_all : (k : ℕ) (cuts : Cutting) → length targets ≤ k → AreCutsOf of_net (take k targets) cuts → AreCutsOf of_net targets cuts
  cuts_of_all k cuts done A = subst (λ (ts : List (List ℕ)). AreCutsOf of_net ts cuts) (take_all k targets done) A
