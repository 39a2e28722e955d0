-- Values stay in range: in the solution, and in the machine's run.
use Rattle.std.proofs.Common.{◌≡◌, ℕ, zero, suc, ◌<◌, Bool, true, false, List, [], ◌∷◌, length, get_or, Option, Some, None, refl, sym, if◌then◌else◌, ◌⊎◌, inl, inr, subst, IsSome, Contains, ◌==◌}
use Rattle.std.specs.List.{list_any}
use Rattle.std.proofs.lemmas.Bool.{cases_Bool, cond-true, cond-false}
use Rattle.rtl_model.proofs.basics.Lists.{Contains-first}
use Rattle.rtl_model.specs.basics.Valuations.{or_else, entry_where}
use Rattle.rtl_model.specs.simulation.Netlist.{Clocked, Combinational, Driver, HasPlace, Idle, ProcessKind, Mixed, Netlist, process, Source, sources_of, target}
use Rattle.rtl_model.specs.simulation.Machine.{entry_or, IsMachineRun, Solves}
use Rattle.rtl_model.specs.simulation.Range.{AreInputs, AreRegisters, IsValuation, KeepsRange, limit}
use Rattle.rtl_model.specs.simulation.Laws.{RunsInRange, SolutionsInRange}
use Rattle.rtl_model.proofs.simulation.Faultless.{place_in_range}
use Rattle.rtl_model.proofs.simulation.Levels.{numbered}
use Rattle.rtl_model.proofs.simulation.Numbered.{Numbered, assigned}
use Rattle.rtl_model.proofs.simulation.Solution.{length-table, by_kind, evaluated, evaluations, RegistersRise, evaluate_at, solution_is, solution_solves, one_solves}

-- every entry is below a limit
abbrev pub EntryBelow : ℕ → Option ℕ → Type 0
EntryBelow most o = (x : ℕ) → o ≡ Some x → x < most

pub entry_or_below : (most old : ℕ) (o : Option ℕ) → EntryBelow most o → old < most → entry_or o old < most
entry_or_below most old None e l = l
entry_or_below most old (Some x) e l = e x refl

pub none_below : (most : ℕ) → EntryBelow most None
none_below most x e = cc

pub where_below : (most : ℕ) (holds : Bool) (o : Option ℕ) → EntryBelow most o → EntryBelow most (entry_where holds o)
where_below most true o h = h
where_below most false o h = none_below most

pub or_below : (most : ℕ) (a b : Option ℕ) → EntryBelow most a → EntryBelow most b → EntryBelow most (or_else a b)
or_below most (Some v) b ha hb x e = ha x e
or_below most None b ha hb x e = hb x e

some_below : (most : ℕ) (o : Option ℕ) → EntryBelow most o → IsSome o → entry_or o 0 < most
some_below most None e h = cc
some_below most (Some x) e h = e x refl

module _ (net : Netlist) (L : Numbered net) (K : KeepsRange net) where
  module _ (inputs registers : ℕ → ℕ) (I : AreInputs net inputs) (R : AreRegisters net registers) where
    abbrev fixed : List ℕ → ℕ → ℕ
    fixed v = registers

    rise : RegistersRise net L fixed
    rise p place clock edge v w is h below = refl

    value_in_range : (v : List ℕ) → IsValuation net v → (n : ℕ) → n < length net.start → (xs : List Source) → sources_of net n ≡ xs → evaluated net inputs fixed v n xs < limit net n
    value_in_range v is n l [] e = go (cases_Bool (list_any (λ m. m == n) net.inputs))
      where
        go : (list_any (λ m. m == n) net.inputs ≡ true) ⊎ (list_any (λ m. m == n) net.inputs ≡ false) → (if list_any (λ m. m == n) net.inputs then inputs n else get_or net.start n 0) < limit net n
        go (inl t) = rw (cond-true _ (inputs n) (get_or net.start n 0) t) (I n t)
        go (inr f) = rw (cond-false _ (inputs n) (get_or net.start n 0) f) (K.starts_in_range.in_range n l)
    value_in_range v is n l (Idle value ∷ more) e = K.starts_in_range.in_range n l
    value_in_range v is n l (Driver p place ∷ more) e =
        let (h, t) = L.elaborated.wiring.sources_are_drivers n p place (subst (λ (xs : List Source). Contains xs (Driver p place)) (sym e) (Contains-first (Driver p place) more)) in
        go h t (process net p).kind refl
      where
        go : HasPlace net p place → target net p place ≡ n → (k : ProcessKind) → (process net p).kind ≡ k → by_kind k (entry_or (get_or ((process net p).effect v v) place None) 0) (registers n) < limit net n
        go h t Combinational k =
            subst (λ (m : ℕ). entry_or (get_or ((process net p).effect v v) place None) 0 < limit net m) t
            (some_below (limit net (target net p place)) (get_or ((process net p).effect v v) place None) (λ x e. K.effect_in_range p place x v v is is h e) (assigned net L p place v v (place_in_range net p place h, k) h))
        go h t (Clocked clock edge reset) k = subst (λ (m : ℕ). registers m < limit net m) t (R p place clock edge (reset, k) h)
        go h t Mixed k = absurd (L.faultless.not_mixed p k)

    evaluations_in_range : (d : ℕ) → IsValuation net (evaluations net inputs fixed d)
    evaluations_in_range zero = K.starts_in_range
    evaluations_in_range (suc d) =
        let below = evaluations_in_range d in
        let v = evaluations net inputs fixed d in
        record {
          each_net = length-table (length net.start) _;
          in_range = λ n l. rw (evaluate_at net L inputs fixed rise v n l) (value_in_range v below n l (sources_of net n) refl);
        }

    pub solves_in_range : (v : List ℕ) → Solves net inputs registers v → IsValuation net v
    solves_in_range v s =
        subst (λ (w : List ℕ). IsValuation net w)
        (one_solves net L inputs fixed rise _ v (solution_solves net L inputs fixed rise) s)
        (rw (solution_is net L inputs fixed rise) (evaluations_in_range (suc (suc L.greatest))))

  module _ (stimulus : ℕ → ℕ → ℕ) (I : (m : ℕ) → AreInputs net (stimulus m)) (v : ℕ → List ℕ) (run : IsMachineRun net stimulus v) where
    run_in_range : (m : ℕ) → IsValuation net (v m)
    run_in_range zero =
        solves_in_range (stimulus 0) run.first.registers (I 0)
        (λ p place clock edge is h. rw (run.first.next p place clock edge is h)
        (entry_or_below _ _ _ (where_below _ _ _ (λ x e. K.reset_in_range p place x h e)) (K.starts_in_range.in_range _ (L.elaborated.wiring.targets_are_nets p place h))))
        (v 0) run.first.solves
    run_in_range (suc m) =
        let before = run_in_range m in
        let step = run.step m in
        solves_in_range (stimulus (suc m)) step.registers (I (suc m))
        (λ p place clock edge is h. rw (step.next p place clock edge is h)
        (entry_or_below _ _ _ (or_below _ _ _ (where_below _ _ _ (λ x e. K.reset_in_range p place x h e)) (where_below _ _ _ (λ x e. K.branch_in_range p place clock x edge (v m) is before h e))) (before.in_range _ (L.elaborated.wiring.targets_are_nets p place h))))
        (v (suc m)) step.solves

pub solutions_in_range : SolutionsInRange
solutions_in_range net E A' K inputs registers I R v s =
    solves_in_range net (numbered net E A') K inputs registers I R v s

pub runs_in_range : RunsInRange
runs_in_range net E A' K stimulus I v run m =
    run_in_range net (numbered net E A') K stimulus I v run m
