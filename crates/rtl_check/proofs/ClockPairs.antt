-- The pairs of net and edge that clocked processes test, each once and in order.
use Rattle.std.proofs.Common.{◌≡◌, ℕ, zero, suc, ◌<◌, ◌≤◌, Bool, true, false, ◌==◌, List, [], ◌∷◌, ◌++◌, length, get_or, refl, sym, ap, subst, ◌∙◌, arith, ◌⊎◌, inl, inr, Contains, append_assoc, append-nil}
use Rattle.std.specs.List.{list_any, AllPairs}
use Rattle.std.specs.List.Sorted.{IsStrictlyIncreasing}
use Rattle.std.proofs.lemmas.Bool.{eqb-true, eq-eqb, and_parts, and_from}
use Rattle.std.proofs.lemmas.List.{get_or_default}
use Rattle.std.proofs.lemmas.List.Elements.{Contains-append_left, Contains-append_right, Contains-append_cases}
use Rattle.std.proofs.lemmas.List.Kept.{AllPairs-from_increasing}
use Rattle.rtl_model.specs.basics.Lists.{IsLess, RisesBy}
use Rattle.rtl_model.specs.simulation.Netlist as m
use Rattle.rtl_model.specs.simulation.Netlist.{Netlist, Edge, IsClockedBy, process}
use Rattle.rtl_model.specs.simulation.Report.{edge_number, clock_key, AreClocks}
use Rattle.rtl_model.proofs.basics.Lists.{any_at, any_true, in_contains, Contains-none, Contains-one}
use Rattle.rtl_body_facts.specs.declared.kinds.ProcessKind.{ProcessKind}
use Rattle.rtl_body_facts.specs.declared.kinds.ProcessKind.TheVariants as k
use Rattle.rtl_body_facts.specs.Reading.{is_in}
use Rattle.rtl_check.specs.Views.{AreClockNets}
use Rattle.rtl_process_kinds.specs.KindViews.{IsKind, AreKinds}
use Rattle.rtl_check.specs.ClockEdges.{tests, AreEdgeNets, pair_if, tested_at, edges_at, pairs_of}
use Rattle.rtl_check.proofs.Joined.{pairs_append}
use Rattle.rtl_check.proofs.Processes.{clock_there}

pub edge_same : (a b : Edge) → edge_number a ≡ edge_number b → a ≡ b
edge_same m.Rising m.Rising e = refl
edge_same m.Falling m.Falling e = refl
edge_same m.To1 m.To1 e = refl
edge_same m.To0 m.To0 e = refl
edge_same _ _ e = absurd cc

-- ---- the nets of one edge

module _ (net : Netlist) (edge : Edge) where
  pub tests_to : (p n : ℕ) (kind : ProcessKind) → IsKind (process net p) kind → tests edge n kind ≡ true → IsClockedBy net p n edge
  tests_to p n (k.Clocked c) d t =
      let (a, b) = and_parts (edge_number c.edge == edge_number edge) (c.clock == n) t in
      let same : c.edge ≡ edge = edge_same c.edge edge (eqb-true (edge_number c.edge) (edge_number edge) a) in
      let is : c.clock ≡ n = eqb-true c.clock n b in
      (d.reset, subst (λ (i : ℕ). (process net p).kind ≡ m.Clocked i edge d.reset) is (subst (λ (x : Edge). (process net p).kind ≡ m.Clocked c.clock x d.reset) same d.kind))
  tests_to p n _ d t = absurd cc

  pub tests_from : (p n : ℕ) (kind : ProcessKind) → IsKind (process net p) kind → IsClockedBy net p n edge → tests edge n kind ≡ true
  tests_from p n k.Combinational d (reset, same) = let z : m.Combinational ≡ m.Clocked n edge reset = sym d ∙ same in absurd cc
  tests_from p n (k.Clocked c) d (reset, same) =
      let z : m.Clocked c.clock c.edge d.reset ≡ m.Clocked n edge reset = sym d.kind ∙ same in
      let e : c.clock ≡ n = cc in
      let g : c.edge ≡ edge = cc in
      and_from (edge_number c.edge == edge_number edge) (c.clock == n) (eq-eqb (edge_number c.edge) (edge_number edge) (ap edge_number g)) (eq-eqb c.clock n e)
  tests_from p n k.Mixed d (reset, same) = let z : m.Mixed ≡ m.Clocked n edge reset = sym d ∙ same in absurd cc

module _ (net : Netlist) (kinds : List ProcessKind) (ks : AreKinds net kinds) (edge : Edge) where
  pub edge_nets_are : (nets : List ℕ) → IsStrictlyIncreasing nets → ((n : ℕ) → is_in n nets ≡ list_any (tests edge n) kinds) → AreEdgeNets net edge nets
  edge_nets_are nets rise same = record { rise = rise; are = λ n. (to n, from n) }
    where
      to : (n : ℕ) → is_in n nets ≡ true → (p : ℕ) × IsClockedBy net p n edge
      to n t =
          let (kind, (p, l, at), h) = any_at (tests edge n) kinds (sym (same n) ∙ t) in
          let there : p < length net.processes = rw (← ks.each_process) l in
          (p, tests_to net edge p n kind (subst (IsKind (process net p)) (get_or_default kinds p k.Mixed kind l ∙ at) (ks.each p there)) h)

      from : (n : ℕ) → (p : ℕ) × IsClockedBy net p n edge → is_in n nets ≡ true
      from n (p, c) =
          let there = clock_there net p n (edge, c) in
          let l : p < length kinds = rw ks.each_process there in
          let kind = get_or kinds p k.Mixed in
          same n ∙ any_true (tests edge n) kinds kind (p, l, get_or_default kinds p kind k.Mixed l) (tests_from net edge p n kind (ks.each p there) c)

-- ---- the pairs of one net

module _ (nets : Edge → List ℕ) where
  -- all of these are of the net, by edges whose number is this or a greater one
  Among : ℕ → (n : ℕ) → List (ℕ × Edge) → Type 0
  Among least n xs = (x : ℕ × Edge) → Contains xs x → (edge : Edge) × (x ≡ (n, edge)) × (is_in n (nets edge) ≡ true) × (least ≤ edge_number edge)

  in_pair : (b : Bool) (n : ℕ) (edge : Edge) (x : ℕ × Edge) → Contains (pair_if b n edge) x → (b ≡ true) × (x ≡ (n, edge))
  in_pair true n edge x h = (refl, sym (Contains-one (n, edge) x h))
  in_pair false n edge x h = absurd (Contains-none x h)

  among_one : (least n : ℕ) (edge : Edge) → least ≤ edge_number edge → Among least n (tested_at nets n edge)
  unfolding Among
  among_one least n edge l x h = let (t, e) = in_pair (is_in n (nets edge)) n edge x h in (edge, e, t, l)

  among_more : (least n : ℕ) (xs ys : List (ℕ × Edge)) → Among least n xs → Among least n ys → Among least n (xs ++ ys)
  unfolding Among
  among_more least n xs ys a b x h = go (Contains-append_cases xs ys x h)
    where
      go : Contains xs x ⊎ Contains ys x → (edge : Edge) × (x ≡ (n, edge)) × (is_in n (nets edge) ≡ true) × (least ≤ edge_number edge)
      go (inl c) = a x c
      go (inr c) = b x c

  among_last : (n : ℕ) → Among 2 n (tested_at nets n m.To1 ++ tested_at nets n m.To0)
  among_last n = among_more 2 n (tested_at nets n m.To1) (tested_at nets n m.To0) (among_one 2 n m.To1 (omega arith)) (among_one 2 n m.To0 (omega arith))

  weaker : (least less n : ℕ) (xs : List (ℕ × Edge)) → less ≤ least → Among least n xs → Among less n xs
  unfolding Among
  weaker least less n xs l a x h = let (edge, e, t, g) = a x h in (edge, e, t, omega (arith, l, g))

  among_later : (n : ℕ) → Among 1 n (tested_at nets n m.Falling ++ (tested_at nets n m.To1 ++ tested_at nets n m.To0))
  among_later n = among_more 1 n (tested_at nets n m.Falling) (tested_at nets n m.To1 ++ tested_at nets n m.To0) (among_one 1 n m.Falling (omega arith))
      (weaker 2 1 n (tested_at nets n m.To1 ++ tested_at nets n m.To0) (omega arith) (among_last n))

  among_all : (n : ℕ) → Among 0 n (edges_at nets n)
  among_all n = among_more 0 n (tested_at nets n m.Rising) (tested_at nets n m.Falling ++ (tested_at nets n m.To1 ++ tested_at nets n m.To0)) (among_one 0 n m.Rising (omega arith))
      (weaker 1 0 n (tested_at nets n m.Falling ++ (tested_at nets n m.To1 ++ tested_at nets n m.To0)) (omega arith) (among_later n))

  one_rises : (b : Bool) (n : ℕ) (edge : Edge) → RisesBy clock_key (pair_if b n edge)
  one_rises true n edge i j d l m = absurd (omega arith)
  one_rises false n edge i j d l m = absurd (omega arith)

  -- a pair in front of those by later edges
  front : (n : ℕ) (edge : Edge) (ys : List (ℕ × Edge)) → RisesBy clock_key ys → Among (suc (edge_number edge)) n ys → RisesBy clock_key (tested_at nets n edge ++ ys)
  unfolding Among
  front n edge ys rise a =
      pairs_append (λ x y. IsLess (clock_key x) (clock_key y)) (tested_at nets n edge) ys (one_rises (is_in n (nets edge)) n edge) rise across
    where
      across : (x y : ℕ × Edge) → Contains (tested_at nets n edge) x → Contains ys y → IsLess (clock_key x) (clock_key y)
      across x y h g =
          let (t, e) = in_pair (is_in n (nets edge)) n edge x h in
          let (later, is, u, l) = a y g in
          subst (λ (z : ℕ × Edge). IsLess (clock_key z) (clock_key y)) (sym e)
          (subst (λ (z : ℕ × Edge). IsLess (clock_key (n, edge)) (clock_key z)) (sym is) (inr (refl, inl (omega (arith, l)))))

  edges_rise : (n : ℕ) → RisesBy clock_key (edges_at nets n)
  edges_rise n =
      front n m.Rising (tested_at nets n m.Falling ++ (tested_at nets n m.To1 ++ tested_at nets n m.To0))
      (front n m.Falling (tested_at nets n m.To1 ++ tested_at nets n m.To0)
      (front n m.To1 (tested_at nets n m.To0) (one_rises (is_in n (nets m.To0)) n m.To0) (among_one 3 n m.To0 (omega arith))) (among_last n))
      (among_later n)

  here : (n : ℕ) (edge : Edge) → is_in n (nets edge) ≡ true → Contains (tested_at nets n edge) (n, edge)
  here n edge t = subst (λ (b : Bool). Contains (pair_if b n edge) (n, edge)) (sym t) (0, first, refl)
    where
      first : 0 < 1
      first = omega arith

  edge_there : (n : ℕ) (edge : Edge) → is_in n (nets edge) ≡ true → Contains (edges_at nets n) (n, edge)
  edge_there n m.Rising t =
      Contains-append_left (tested_at nets n m.Rising) (tested_at nets n m.Falling ++ (tested_at nets n m.To1 ++ tested_at nets n m.To0)) (n, m.Rising) (here n m.Rising t)
  edge_there n m.Falling t =
      Contains-append_right (tested_at nets n m.Rising) (tested_at nets n m.Falling ++ (tested_at nets n m.To1 ++ tested_at nets n m.To0)) (n, m.Falling)
      (Contains-append_left (tested_at nets n m.Falling) (tested_at nets n m.To1 ++ tested_at nets n m.To0) (n, m.Falling) (here n m.Falling t))
  edge_there n m.To1 t =
      Contains-append_right (tested_at nets n m.Rising) (tested_at nets n m.Falling ++ (tested_at nets n m.To1 ++ tested_at nets n m.To0)) (n, m.To1)
      (Contains-append_right (tested_at nets n m.Falling) (tested_at nets n m.To1 ++ tested_at nets n m.To0) (n, m.To1)
      (Contains-append_left (tested_at nets n m.To1) (tested_at nets n m.To0) (n, m.To1) (here n m.To1 t)))
  edge_there n m.To0 t =
      Contains-append_right (tested_at nets n m.Rising) (tested_at nets n m.Falling ++ (tested_at nets n m.To1 ++ tested_at nets n m.To0)) (n, m.To0)
      (Contains-append_right (tested_at nets n m.Falling) (tested_at nets n m.To1 ++ tested_at nets n m.To0) (n, m.To0)
      (Contains-append_right (tested_at nets n m.To1) (tested_at nets n m.To0) (n, m.To0) (here n m.To0 t)))

  -- ---- the pairs of some nets

  in_pairs : (ns : List ℕ) (x : ℕ × Edge) → Contains (pairs_of nets ns) x → (n : ℕ) × Contains ns n × ((edge : Edge) × (x ≡ (n, edge)) × (is_in n (nets edge) ≡ true))
  unfolding Among
  in_pairs [] x h = absurd (Contains-none x h)
  in_pairs (n ∷ ns) x h = go (λ c. in_pairs ns x c) (Contains-append_cases (edges_at nets n) (pairs_of nets ns) x h)
    where
      go : (Contains (pairs_of nets ns) x → (o : ℕ) × Contains ns o × ((edge : Edge) × (x ≡ (o, edge)) × (is_in o (nets edge) ≡ true)))
          → Contains (edges_at nets n) x ⊎ Contains (pairs_of nets ns) x → (o : ℕ) × Contains (n ∷ ns) o × ((edge : Edge) × (x ≡ (o, edge)) × (is_in o (nets edge) ≡ true))
      go rest (inl c) = let (edge, e, t, l) = among_all n x c in (n, (0, omega arith, refl), (edge, e, t))
      go rest (inr c) = let (o, (i, l, at), is) = rest c in (o, (suc i, omega (arith, l), at), is)

  pair_there : (ns : List ℕ) (n : ℕ) (edge : Edge) → Contains ns n → is_in n (nets edge) ≡ true → Contains (pairs_of nets ns) (n, edge)
  pair_there [] n edge c t = absurd (Contains-none n c)
  pair_there (o ∷ ns) n edge (zero, l, e) t =
      Contains-append_left (edges_at nets o) (pairs_of nets ns) (n, edge) (subst (λ (i : ℕ). Contains (edges_at nets i) (n, edge)) (sym e) (edge_there n edge t))
  pair_there (o ∷ ns) n edge (suc i, l, e) t = Contains-append_right (edges_at nets o) (pairs_of nets ns) (n, edge) (pair_there ns n edge (i, omega (arith, l), e) t)

  pairs_rise : (ns : List ℕ) → AllPairs (λ (a : ℕ) (b : ℕ). a < b) ns → RisesBy clock_key (pairs_of nets ns)
  unfolding Among
  pairs_rise [] a = λ i j d l m. absurd (omega arith)
  pairs_rise (n ∷ ns) a =
      pairs_append (λ x y. IsLess (clock_key x) (clock_key y)) (edges_at nets n) (pairs_of nets ns) (edges_rise n)
      (pairs_rise ns (λ i j d l h. a (suc i) (suc j) d (omega (arith, l)) (omega (arith, h)))) across
    where
      across : (x y : ℕ × Edge) → Contains (edges_at nets n) x → Contains (pairs_of nets ns) y → IsLess (clock_key x) (clock_key y)
      across x y h g =
          let (edge, e, t, l) = among_all n x h in
          let (o, (i, k, at), (other, is, u)) = in_pairs ns y g in
          let less : n < get_or ns i o = a 0 (suc i) o (omega arith) (omega (arith, k)) in
          subst (λ (z : ℕ × Edge). IsLess (clock_key z) (clock_key y)) (sym e)
          (subst (λ (z : ℕ × Edge). IsLess (clock_key (n, edge)) (clock_key z)) (sym is) (inl (subst (λ (i : ℕ). n < i) at less)))

  -- one net more
  pub pairs_push : (ns : List ℕ) (n : ℕ) → pairs_of nets (ns ++ n ∷ []) ≡ pairs_of nets ns ++ edges_at nets n
  pairs_push [] n = append-nil (edges_at nets n)
  pairs_push (o ∷ ns) n = ap (λ (xs : List (ℕ × Edge)). edges_at nets o ++ xs) (pairs_push ns n) ∙ sym (append_assoc (edges_at nets o) (pairs_of nets ns) (edges_at nets n))

pub clocks_listed : (net : Netlist) (nets : Edge → List ℕ) (clocks : List ℕ) → AreClockNets net clocks → ((edge : Edge) → AreEdgeNets net edge (nets edge)) → AreClocks net (pairs_of nets clocks)
clocks_listed net nets clocks cs each = record { are = λ n edge. (to n edge, from n edge); rise = pairs_rise nets clocks (AllPairs-from_increasing clocks cs.rise) }
  where
    to : (n : ℕ) (edge : Edge) → Contains (pairs_of nets clocks) (n, edge) → (p : ℕ) × IsClockedBy net p n edge
    to n edge h =
        let (o, c, (other, is, t)) = in_pairs nets clocks (n, edge) h in
        let a : n ≡ o = ap (λ (x : ℕ × Edge). x.0) is in
        let b : edge ≡ other = ap (λ (x : ℕ × Edge). x.1) is in
        ((each edge).are n).0 (subst (λ (i : ℕ). is_in i (nets edge) ≡ true) (sym a) (subst (λ (x : Edge). is_in o (nets x) ≡ true) (sym b) t))

    from : (n : ℕ) (edge : Edge) → (p : ℕ) × IsClockedBy net p n edge → Contains (pairs_of nets clocks) (n, edge)
    from n edge (p, c) = pair_there nets clocks n edge (in_contains clocks n ((cs.are n).1 (p, (edge, c)))) (((each edge).are n).1 (p, c))
