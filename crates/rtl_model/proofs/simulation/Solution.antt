-- One valuation solves an accepted netlist, and no other.
use Rattle.std.proofs.Common.{◌≡◌, ℕ, zero, suc, ◌<◌, ◌≤◌, true, false, List, [], ◌∷◌, length, get_or, Option, Some, None, refl, sym, ap, ◌∙◌, arith, if◌then◌else◌, ◌⊎◌, inl, inr, subst, IsSome, Contains, ◌==◌}
use Rattle.std.specs.List.{list_any}
use Rattle.std.proofs.lemmas.List.{ext_get_or, get_or_past}
use Rattle.std.proofs.lemmas.List.FromFn.{length-map-range_with_len, get_or-map-range_with_len}
use Rattle.std.proofs.lemmas.Bool.{cases_lt, cases_Bool, cond-true, cond-false, false_from_ne_true}
use Rattle.rtl_model.proofs.basics.Lists.{Contains-first}
use Rattle.rtl_model.proofs.simulation.Faultless.{kinds}
use Rattle.rtl_model.specs.simulation.Netlist.{Clocked, Combinational, Driver, Edge, HasPlace, Idle, IsClockedBy, IsCombinational, IsInput, ProcessKind, Mixed, Netlist, process, Source, sources_of, table, target, IsDriven}
use Rattle.rtl_model.specs.simulation.Cycle.{after_inputs}
use Rattle.rtl_model.specs.simulation.Machine.{entry_or, Solves}
use Rattle.rtl_model.specs.simulation.Laws.{OneSolution}
use Rattle.rtl_model.proofs.simulation.Numbered.{Numbered, assigned, sole, driven_or_not}
use Rattle.rtl_model.proofs.simulation.Levels.{numbered}

pub get_or-table : (n : ℕ) (f : ℕ → ℕ) (k : ℕ) → k < n → get_or (table n f) k 0 ≡ f k
get_or-table n f k h = get_or-map-range_with_len f 0 n k k 0 h (omega arith)

pub length-table : (n : ℕ) (f : ℕ → ℕ) → length (table n f) ≡ n
length-table n f = length-map-range_with_len f 0 n

some_entry : (o : Option ℕ) → IsSome o → o ≡ Some (entry_or o 0)
some_entry (Some v) h = refl
some_entry None h = cc

-- two valuations agree on driven nets below this number, and on what no process drives
pub record AgreeBelow (net : Netlist) (N : Numbered net) (d : ℕ) (v w : List ℕ) : Type 0 where
  pub on_driven : (p place : ℕ) → HasPlace net p place → N.of_net (target net p place) < d → get_or v (target net p place) 0 ≡ get_or w (target net p place) 0
  pub on_rest : (n : ℕ) → (IsDriven net n → ⊥) → get_or v n 0 ≡ get_or w n 0

-- a value for net n, from the values of v: what its one source, its given value or its start says
abbrev pub by_kind : ProcessKind → ℕ → ℕ → ℕ
by_kind Combinational x r = x
by_kind (Clocked clock edge reset) x r = r
by_kind Mixed x r = 0

abbrev pub evaluated : Netlist → (ℕ → ℕ) → (List ℕ → ℕ → ℕ) → List ℕ → ℕ → List Source → ℕ
evaluated net inputs registers v n [] = if list_any (λ m. m == n) net.inputs then inputs n else get_or net.start n 0
evaluated net inputs registers v n (Idle value ∷ more) = get_or net.start n 0
evaluated net inputs registers v n (Driver p place ∷ more) =
    by_kind (process net p).kind (entry_or (get_or ((process net p).effect v v) place None) 0) (registers v n)

abbrev pub evaluate : Netlist → (ℕ → ℕ) → (List ℕ → ℕ → ℕ) → List ℕ → List ℕ
evaluate net inputs registers v = table (length net.start) (λ n. evaluated net inputs registers v n (sources_of net n))

abbrev pub evaluations : Netlist → (ℕ → ℕ) → (List ℕ → ℕ → ℕ) → ℕ → List ℕ
evaluations net inputs registers zero = net.start
evaluations net inputs registers (suc d) = evaluate net inputs registers (evaluations net inputs registers d)

-- What registers have in a valuation depends on driven nets of lower numbers alone.
abbrev pub RegistersRise : (net : Netlist) → Numbered net → (List ℕ → ℕ → ℕ) → Type 0
RegistersRise net N registers =
    (p place clock : ℕ) (edge : Edge) (v w : List ℕ) → IsClockedBy net p clock edge → HasPlace net p place → AgreeBelow net N (N.of_net (target net p place)) v w
    → registers v (target net p place) ≡ registers w (target net p place)

module _ (net : Netlist) (L : Numbered net) where
  lower : (d e : ℕ) (v w : List ℕ) → e ≤ d → AgreeBelow net L d v w → AgreeBelow net L e v w
  lower d e v w l a = record { on_driven = λ p place h k. a.on_driven p place h (omega arith); on_rest = a.on_rest }

  -- valuations that agree on driven nets below a net's number agree on any net with a lower one
  pub agree_at : (d n : ℕ) (v w : List ℕ) → AgreeBelow net L d v w → (IsDriven net n → L.of_net n < d) → get_or v n 0 ≡ get_or w n 0
  agree_at d n v w a rises = go (driven_or_not net L n)
    where
      go : IsDriven net n ⊎ (IsDriven net n → ⊥) → get_or v n 0 ≡ get_or w n 0
      go (inl (q, place, h, t)) =
          let l = rises (q, place, h, t) in
          let e : L.of_net (target net q place) ≡ L.of_net n = ap L.of_net t in
          subst (λ (m : ℕ). get_or v m 0 ≡ get_or w m 0) t (a.on_driven q place h (omega arith))
      go (inr free) = a.on_rest n free

  entries_agree : (p place : ℕ) (v w : List ℕ) → AgreeBelow net L (L.of_net (target net p place)) v w → IsCombinational net p → HasPlace net p place
      → get_or ((process net p).effect v v) place None ≡ get_or ((process net p).effect w w) place None
  entries_agree p place v w a c h = L.elaborated.bodies.entry_looks p place v v w w c h (λ n looks. agree_at (L.of_net (target net p place)) n v w a (λ driven. L.rises p place n c h looks))

  same_values : (v w : List ℕ) → length v ≡ length w → AgreeBelow net L (suc L.greatest) v w → v ≡ w
  same_values v w e a = ext_get_or 0 v w e (λ n l. agree_at (suc L.greatest) n v w a (λ driven. let k = L.net_within n in omega arith))

  module _ (inputs : ℕ → ℕ) (registers : List ℕ → ℕ → ℕ) (rise : RegistersRise net L registers) where
    rest_agrees : (v w : List ℕ) → Solves net inputs (registers v) v → Solves net inputs (registers w) w → (n : ℕ) → (IsDriven net n → ⊥) → get_or v n 0 ≡ get_or w n 0
    rest_agrees v w s t n free = go (cases_lt n (length net.start)) (cases_Bool (list_any (λ m. m == n) net.inputs))
      where
        go : (n < length net.start) ⊎ (length net.start ≤ n) → (list_any (λ m. m == n) net.inputs ≡ true) ⊎ (list_any (λ m. m == n) net.inputs ≡ false) → get_or v n 0 ≡ get_or w n 0
        go (inl l) (inl is) = s.on_inputs n is ∙ sym (t.on_inputs n is)
        go (inl l) (inr is) = s.on_others n l (λ (h : IsInput net n). cc) free ∙ sym (t.on_others n l (λ (h : IsInput net n). cc) free)
        go (inr l) k =
            let a = s.each_net in
            let b = t.each_net in
            get_or_past v n 0 (omega arith) ∙ sym (get_or_past w n 0 (omega arith))

    -- two solutions agree, number by number
    solutions_agree : (d : ℕ) (v w : List ℕ) → Solves net inputs (registers v) v → Solves net inputs (registers w) w → AgreeBelow net L d v w
    solutions_agree zero v w s t = record { on_driven = λ p place h l. absurd (omega arith); on_rest = rest_agrees v w s t }
    solutions_agree (suc d) v w s t = let below = solutions_agree d v w s t in record { on_driven = λ p place h l. go p place h (lower d _ v w (omega arith) below) (kinds net L.faultless p place h); on_rest = rest_agrees v w s t }
      where
        go : (p place : ℕ) → HasPlace net p place → AgreeBelow net L (L.of_net (target net p place)) v w → IsCombinational net p ⊎ ((clock : ℕ) × (edge : Edge) × IsClockedBy net p clock edge) → get_or v (target net p place) 0 ≡ get_or w (target net p place) 0
        go p place h below (inl c) =
            let a = s.on_combinational p place c h in
            let b = t.on_combinational p place c h in
            let e = entries_agree p place v w below c h in
            cc
        go p place h below (inr (clock, edge, is)) = s.on_registers p place clock edge is h ∙ rise p place clock edge v w is h below ∙ sym (t.on_registers p place clock edge is h)

    pub evaluate_at : (v : List ℕ) (n : ℕ) → n < length net.start → get_or (evaluate net inputs registers v) n 0 ≡ evaluated net inputs registers v n (sources_of net n)
    evaluate_at v n l = get_or-table (length net.start) (λ m. evaluated net inputs registers v m (sources_of net m)) n l

    evaluate_target : (v : List ℕ) (p place : ℕ) → HasPlace net p place → get_or (evaluate net inputs registers v) (target net p place) 0 ≡ by_kind (process net p).kind (entry_or (get_or ((process net p).effect v v) place None) 0) (registers v (target net p place))
    evaluate_target v p place h = evaluate_at v (target net p place) (L.elaborated.wiring.targets_are_nets p place h) ∙ ap (λ (xs : List Source). evaluated net inputs registers v (target net p place) xs) (sole net L p place h)

    evaluate_register : (v : List ℕ) (p place clock : ℕ) (edge : Edge) → HasPlace net p place → IsClockedBy net p clock edge → get_or (evaluate net inputs registers v) (target net p place) 0 ≡ registers v (target net p place)
    evaluate_register v p place clock edge h is = evaluate_target v p place h ∙ ap (λ (k : ProcessKind). by_kind k (entry_or (get_or ((process net p).effect v v) place None) 0) (registers v (target net p place))) is.1

    evaluate_combinational : (v : List ℕ) (p place : ℕ) → HasPlace net p place → IsCombinational net p → get_or (evaluate net inputs registers v) (target net p place) 0 ≡ entry_or (get_or ((process net p).effect v v) place None) 0
    evaluate_combinational v p place h is = evaluate_target v p place h ∙ ap (λ (k : ProcessKind). by_kind k (entry_or (get_or ((process net p).effect v v) place None) 0) (registers v (target net p place))) is.1

    -- what no process drives is the same after every evaluation
    evaluate_rest : (v w : List ℕ) (n : ℕ) → (IsDriven net n → ⊥) → get_or (evaluate net inputs registers v) n 0 ≡ get_or (evaluate net inputs registers w) n 0
    evaluate_rest v w n free = go (cases_lt n (length net.start)) (sources_of net n) refl
      where
        go : (n < length net.start) ⊎ (length net.start ≤ n) → (xs : List Source) → sources_of net n ≡ xs → get_or (evaluate net inputs registers v) n 0 ≡ get_or (evaluate net inputs registers w) n 0
        go (inl l) [] e = rw (evaluate_at v n l, evaluate_at w n l, e) refl
        go (inl l) (Idle value ∷ more) e = rw (evaluate_at v n l, evaluate_at w n l, e) refl
        go (inl l) (Driver p place ∷ more) e =
            let f = L.elaborated.wiring.sources_are_drivers n p place (subst (λ (xs : List Source). Contains xs (Driver p place)) (sym e) (Contains-first (Driver p place) more)) in
            absurd (free (p, place, f.0, f.1))
        go (inr l) xs e = get_or_past (evaluate net inputs registers v) n 0 (rw length-table l) ∙ sym (get_or_past (evaluate net inputs registers w) n 0 (rw length-table l))

    -- an evaluation more changes nothing below its number
    evaluations_agree : (d : ℕ) → AgreeBelow net L d (evaluations net inputs registers (suc d)) (evaluations net inputs registers (suc (suc d)))
    evaluations_agree zero = record { on_driven = λ p place h l. absurd (omega arith); on_rest = evaluate_rest _ _ }
    evaluations_agree (suc d) = let below = evaluations_agree d in record { on_driven = λ p place h l. go p place h (lower d _ _ _ (omega arith) below) (kinds net L.faultless p place h); on_rest = evaluate_rest _ _ }
      where
        go : (p place : ℕ) → HasPlace net p place → AgreeBelow net L (L.of_net (target net p place)) (evaluations net inputs registers (suc d)) (evaluations net inputs registers (suc (suc d))) → IsCombinational net p ⊎ ((clock : ℕ) × (edge : Edge) × IsClockedBy net p clock edge)
            → get_or (evaluations net inputs registers (suc (suc d))) (target net p place) 0 ≡ get_or (evaluations net inputs registers (suc (suc (suc d)))) (target net p place) 0
        go p place h below (inl c) =
            let e = entries_agree p place _ _ below c h in
            evaluate_combinational _ p place h c ∙ ap (λ (o : Option ℕ). entry_or o 0) e ∙ sym (evaluate_combinational _ p place h c)
        go p place h below (inr (clock, edge, is)) = evaluate_register _ p place clock edge h is ∙ rise p place clock edge _ _ is h below ∙ sym (evaluate_register _ p place clock edge h is)

    fixed_solves : (v : List ℕ) → v ≡ evaluate net inputs registers v → Solves net inputs (registers v) v
    fixed_solves v e = record {
      each_net = ap length e ∙ length-table _ _;
      on_inputs = λ n is. at n ∙ evaluate_at v n (L.elaborated.wiring.inputs_are_nets n is) ∙ ap (λ (xs : List Source). evaluated net inputs registers v n xs) (L.elaborated.wiring.inputs_have_no_source n is) ∙ cond-true _ _ _ is;
      on_registers = λ p place clock edge is h. at (target net p place) ∙ evaluate_register v p place clock edge h is;
      on_others = λ n l after_inputs free. at n ∙ evaluate_at v n l ∙ other n after_inputs free (sources_of net n) refl;
      on_combinational = λ p place c h. some_entry _ (assigned net L p place v v c h) ∙ ap (λ (x : ℕ). Some x) (sym (at (target net p place) ∙ evaluate_combinational v p place h c));
    }
      where
        at : (n : ℕ) → get_or v n 0 ≡ get_or (evaluate net inputs registers v) n 0
        at n = ap (λ (u : List ℕ). get_or u n 0) e

        other : (n : ℕ) → (IsInput net n → ⊥) → (IsDriven net n → ⊥) → (xs : List Source) → sources_of net n ≡ xs → evaluated net inputs registers v n (sources_of net n) ≡ get_or net.start n 0
        other n after_inputs free [] k = ap (λ (xs : List Source). evaluated net inputs registers v n xs) k ∙ cond-false _ _ _ (false_from_ne_true _ after_inputs)
        other n after_inputs free (Idle value ∷ more) k = ap (λ (xs : List Source). evaluated net inputs registers v n xs) k
        other n after_inputs free (Driver p place ∷ more) k =
            let f = L.elaborated.wiring.sources_are_drivers n p place (subst (λ (xs : List Source). Contains xs (Driver p place)) (sym k) (Contains-first (Driver p place) more)) in
            absurd (free (p, place, f.0, f.1))

    -- the evaluation after the greatest number
    pub solution : List ℕ
    solution = evaluations net inputs registers (suc (suc L.greatest))

    pub solution_is : solution ≡ evaluations net inputs registers (suc (suc L.greatest))
    unfolding solution
    solution_is = refl

    pub solution_solves : Solves net inputs (registers solution) solution
    unfolding solution
    solution_solves = fixed_solves solution (same_values solution _ (length-table _ _ ∙ sym (length-table _ _)) (evaluations_agree (suc L.greatest)))

    pub one_solves : (v w : List ℕ) → Solves net inputs (registers v) v → Solves net inputs (registers w) w → v ≡ w
    one_solves v w s t = same_values v w (s.each_net ∙ sym t.each_net) (solutions_agree (suc L.greatest) v w s t)

-- the solution for given inputs and registers
pub one_solution : OneSolution
one_solution net E A inputs registers =
    let L = numbered net E A in
    let rise : RegistersRise net L (λ v. registers) = λ p place clock edge v w is h below. refl in
    (solution net L inputs (λ v. registers) rise, solution_solves net L inputs (λ v. registers) rise, λ w t. one_solves net L inputs (λ v. registers) rise _ _ t (solution_solves net L inputs (λ v. registers) rise))
