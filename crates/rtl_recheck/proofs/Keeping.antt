-- A process keeps the rules just where none of its nets is a fault.
use Rattle.std.proofs.Common.{◌≡◌, ℕ, ◌<◌, Bool, true, false, not, ◌&&◌, ◌==◌, List, [], ◌∷◌, length, get_or, refl, sym, ap, subst, ◌∙◌, ◌⊎◌, inl, inr, arith}
use Rattle.std.proofs.lemmas.Bool.{cases_Bool, or_cases, or_left, and_parts, and_from, not-true, not_from_false, eqb-true, eq-eqb}
use Rattle.rtl_model.specs.bodies.Assigns.{must_assign}
use Rattle.rtl_model.specs.simulation.Netlist as m
use Rattle.rtl_model.specs.simulation.Netlist.{Netlist, Edge, process}
use Rattle.rtl_model.specs.simulation.Accepted as f
use Rattle.rtl_model.specs.simulation.Accepted.{Fault, IsFault, IsAccepted, IsByNets, HasUnsteadyReset}
use Rattle.rtl_model.specs.simulation.Calm.{follows_inputs}
use Rattle.rtl_model.specs.simulation.Faults.{AreFaultsButLoops, is_no_loop}
use Rattle.rtl_model.specs.simulation.Report.{AreClocks}
use Rattle.rtl_net.specs.declared.process.Process.{Process}
use Rattle.rtl_net.specs.Nets.{NetlistView, body_of}
use Rattle.rtl_net.specs.Elaborated.{ReadsOfBody}
use Rattle.rtl_body_facts.specs.declared.kinds.Clocking.{Clocking}
use Rattle.rtl_body_facts.specs.declared.kinds.ProcessKind.{ProcessKind}
use Rattle.rtl_body_facts.specs.declared.kinds.ProcessKind.TheVariants as k
use Rattle.rtl_body_facts.specs.Reading.{is_in}
use Rattle.rtl_body_facts.specs.Paths.{driven, to_net}
use Rattle.rtl_check.specs.declared.rule.Rule.{Rule}
use Rattle.rtl_check.specs.declared.rule.Rule.TheVariants.{ClockNotInput, EdgeNotSensitive, ClockAsData, MissingSensitivity, Latch}
use Rattle.rtl_net.specs.Core.{core}
use Rattle.rtl_process_kinds.specs.KindViews.{nets_tested, IsKind}
use Rattle.rtl_check.specs.Rules.{is_data, breaks, fault_of}
use Rattle.rtl_check.specs.Standing.{HasNoMixed}
use Rattle.rtl_check.proofs.Processes.{process_there}
use Rattle.rtl_check.proofs.Joined.{no_faults}
use Rattle.rtl_check.proofs.Broken.{breaks_to, breaks_from}
use Rattle.rtl_recheck.specs.Kept.{clock_nets, AreWithin, ClockedKeeps, HasNoLatch, CombinationalKeeps, KeepsBy, KeepsRules, HaveOneSource, AllKeep}
use Rattle.rtl_recheck.proofs.Clocks.{sorted_clocks, same_clocks, clocks_are}

-- no net breaks a rule
abbrev pub BreaksNone : (inputs clocks : List ℕ) → Process → ProcessKind → Type 0
BreaksNone inputs clocks x kind = (rule : Rule) (n : ℕ) → breaks inputs clocks x kind rule n ≡ true → ⊥

clash : (b : Bool) → b ≡ true → b ≡ false → ⊥
clash b t f = let h : true ≡ false = sym t ∙ f in cc

-- nothing of one list is missing in the other
within_to : (ns others : List ℕ) → AreWithin ns others → (n : ℕ) → (is_in n ns && not (is_in n others)) ≡ true → ⊥
within_to ns others w n t = let (a, b) = and_parts (is_in n ns) (not (is_in n others)) t in clash (is_in n others) (w n a) (not-true (is_in n others) b)

within_from : (ns others : List ℕ) → ((n : ℕ) → (is_in n ns && not (is_in n others)) ≡ true → ⊥) → AreWithin ns others
within_from ns others none n a = go (cases_Bool (is_in n others))
  where
    go : (is_in n others ≡ true) ⊎ (is_in n others ≡ false) → is_in n others ≡ true
    go (inl t) = t
    go (inr e) = absurd (none n (and_from (is_in n ns) (not (is_in n others)) a (not_from_false (is_in n others) e)))

false_from : (b : Bool) → (b ≡ true → ⊥) → b ≡ false
false_from true h = absurd (h refl)
false_from false h = refl

module _ (inputs clocks : List ℕ) (x : Process) where
  combinational_to : CombinationalKeeps x → BreaksNone inputs clocks x k.Combinational
  combinational_to c MissingSensitivity n t = within_to x.reads.items x.wakes.items c.awake n t
  combinational_to c Latch n t =
      let (a, b) = and_parts (is_in n (driven x.drives.items)) (not (must_assign (to_net x.drives.items n) (body_of x))) t in
      clash (must_assign (to_net x.drives.items n) (body_of x)) (c.assigns n a) (not-true (must_assign (to_net x.drives.items n) (body_of x)) b)
  combinational_to c _ n t = cc

  combinational_from : BreaksNone inputs clocks x k.Combinational → CombinationalKeeps x
  combinational_from none = record { awake = within_from x.reads.items x.wakes.items (none MissingSensitivity); assigns = assigns }
    where
      assigns : HasNoLatch x
      assigns n a = go (cases_Bool (must_assign (to_net x.drives.items n) (body_of x)))
        where
          go : (must_assign (to_net x.drives.items n) (body_of x) ≡ true) ⊎ (must_assign (to_net x.drives.items n) (body_of x) ≡ false) → must_assign (to_net x.drives.items n) (body_of x) ≡ true
          go (inl t) = t
          go (inr e) = absurd (none Latch n (and_from (is_in n (driven x.drives.items)) (not (must_assign (to_net x.drives.items n) (body_of x))) a (not_from_false (must_assign (to_net x.drives.items n) (body_of x)) e)))

  clocked_to : (c : Clocking) → ClockedKeeps inputs clocks x c → BreaksNone inputs clocks x (k.Clocked c)
  clocked_to c h ClockNotInput n t = within_to (c.clock ∷ []) inputs own n t
    where
      own : AreWithin (c.clock ∷ []) inputs
      own n a = go (or_cases (c.clock == n) false a)
        where
          go : ((c.clock == n) ≡ true) ⊎ (false ≡ true) → is_in n inputs ≡ true
          go (inl e) = subst (λ (i : ℕ). is_in i inputs ≡ true) (eqb-true c.clock n e) h.clock
          go (inr e) = absurd cc
  clocked_to c h EdgeNotSensitive n t = within_to (nets_tested c) x.wakes.items h.awake n t
  clocked_to c h ClockAsData n t =
      let (a, b) = and_parts (is_in n x.reads.items) (is_in n clocks && is_data c n) t in
      clash (is_in n clocks && is_data c n) b (h.no_clock_read n a)
  clocked_to c h _ n t = cc

  clocked_from : (c : Clocking) → BreaksNone inputs clocks x (k.Clocked c) → ClockedKeeps inputs clocks x c
  clocked_from c none = record {
    clock = within_from (c.clock ∷ []) inputs (none ClockNotInput) c.clock (or_left (c.clock == c.clock) false (eq-eqb c.clock c.clock refl));
    awake = within_from (nets_tested c) x.wakes.items (none EdgeNotSensitive);
    no_clock_read = λ n a. false_from (is_in n clocks && is_data c n) (λ b. none ClockAsData n (and_from (is_in n x.reads.items) (is_in n clocks && is_data c n) a b));
  }

  keeps_to : (kind : ProcessKind) → KeepsBy inputs clocks x kind → BreaksNone inputs clocks x kind
  keeps_to k.Combinational h rule n t = combinational_to h rule n t
  keeps_to (k.Clocked c) h rule n t = clocked_to c h rule n t
  keeps_to k.Mixed h rule n t = cc

  keeps_from : (kind : ProcessKind) → BreaksNone inputs clocks x kind → KeepsBy inputs clocks x kind
  keeps_from k.Combinational none = combinational_from none
  keeps_from (k.Clocked c) none = clocked_from c none
  keeps_from k.Mixed none = tt

-- the same clocks in another order
same_breaks : (inputs xs ys : List ℕ) (x : Process) (kind : ProcessKind) (rule : Rule) (n : ℕ) → is_in n xs ≡ is_in n ys → breaks inputs xs x kind rule n ≡ breaks inputs ys x kind rule n
same_breaks inputs xs ys x (k.Clocked c) ClockNotInput n e = refl
same_breaks inputs xs ys x (k.Clocked c) EdgeNotSensitive n e = refl
same_breaks inputs xs ys x (k.Clocked c) ClockAsData n e = ap (λ (b : Bool). is_in n x.reads.items && (b && is_data c n)) e
same_breaks inputs xs ys x (k.Clocked c) MissingSensitivity n e = refl
same_breaks inputs xs ys x (k.Clocked c) Latch n e = refl
same_breaks inputs xs ys x _ _ n e = refl

module _ (net : NetlistView) (clocks : List (ℕ × Edge)) (A : AreClocks (core net) clocks) (p : ℕ) (x : Process) (there : p < length net.processes) (at : x ≡ get_or net.processes p x)
    (listed : ReadsOfBody x) (kind : ProcessKind) (d : IsKind (process (core net) p) kind) where
  pub rules_to : KeepsBy net.inputs (clock_nets clocks) x kind → KeepsRules (core net) p
  rules_to h rule n is =
      keeps_to net.inputs (clock_nets clocks) x kind h rule n
      (sym (same_breaks net.inputs (sorted_clocks (clock_nets clocks)) (clock_nets clocks) x kind rule n (same_clocks (clock_nets clocks) n))
      ∙ breaks_from net (sorted_clocks (clock_nets clocks)) (clocks_are (core net) clocks A) p x there at listed kind d rule n is)

  pub rules_from : KeepsRules (core net) p → KeepsBy net.inputs (clock_nets clocks) x kind
  rules_from none = keeps_from net.inputs (clock_nets clocks) x kind breaks_none
    where
      breaks_none : BreaksNone net.inputs (clock_nets clocks) x kind
      breaks_none rule n t =
          none rule n (breaks_to net (sorted_clocks (clock_nets clocks)) (clocks_are (core net) clocks A) p x there at listed kind d rule n
          (same_breaks net.inputs (sorted_clocks (clock_nets clocks)) (clock_nets clocks) x kind rule n (same_clocks (clock_nets clocks) n) ∙ t))

-- ---- of all processes

module _ (net : Netlist) where
  differ : {a b : ℕ} → a ≡ b → (a < b) ⊎ (b < a) → ⊥
  differ e (inl l) = omega (arith, e, l)
  differ e (inr l) = omega (arith, e, l)

  pub rule_there : (rule : Rule) (p n : ℕ) → IsFault net (fault_of rule p n) → p < length net.processes
  rule_there ClockNotInput p n is = process_there net (f.ClockNotInput p n) is (λ e. differ e (inr (omega arith))) (λ e. differ e (inl (omega arith)))
  rule_there EdgeNotSensitive p n is = process_there net (f.EdgeNotSensitive p n) is (λ e. differ e (inr (omega arith))) (λ e. differ e (inl (omega arith)))
  rule_there ClockAsData p n is = process_there net (f.ClockAsData p n) is (λ e. differ e (inr (omega arith))) (λ e. differ e (inl (omega arith)))
  rule_there MissingSensitivity p n is = process_there net (f.MissingSensitivity p n) is (λ e. differ e (inr (omega arith))) (λ e. differ e (inl (omega arith)))
  rule_there Latch p n is = process_there net (f.Latch p n) is (λ e. differ e (inr (omega arith))) (λ e. differ e (inl (omega arith)))

  pub stored_there : (p v t : ℕ) → IsFault net (f.StoredVariable p v t) → p < length net.processes
  stored_there p v t is = process_there net (f.StoredVariable p v t) is (λ e. differ e (inr (omega arith))) (λ e. differ e (inr (omega arith)))

  pub mixed_there : (p : ℕ) → (process net p).kind ≡ m.Mixed → p < length net.processes
  mixed_there p is = process_there net (f.MixedProcess p) (inl is) (λ e. differ e (inr (omega arith))) (λ e. differ e (inl (omega arith)))

  -- judged by processes, it has no unsteady reset: what no process drives comes from outside
  steady : (IsByNets net → ⊥) → (p : ℕ) → HasUnsteadyReset net p → ⊥
  steady other p u = u.not_calm (follows_inputs u.reset.net (λ value. value == u.reset.value) (inl (undriven, u.no_clock)))
    where
      undriven : m.IsDriven net u.reset.net → ⊥
      undriven has = other (u.is_wide, inr (p, u.reset.net, ((u.reset, u.is_reset, refl), has)))

  pub no_fault : HasNoMixed net → (IsByNets net → ⊥) → HaveOneSource net → AllKeep net → AreFaultsButLoops net []
  no_fault clear other one keep = no_faults net is_no_loop none
    where
      none : (fault : Fault) → IsFault net fault → is_no_loop fault ≡ true → ⊥
      none (f.TwoDrivers n s t) is e = one n s t is
      none (f.MixedProcess p) (inl is) e = clear p is
      none (f.MixedProcess p) (inr is) e = steady other p is
      none (f.ClockNotInput p n) is e = (keep p).0 ClockNotInput n is
      none (f.EdgeNotSensitive p n) is e = (keep p).0 EdgeNotSensitive n is
      none (f.ClockAsData p n) is e = (keep p).0 ClockAsData n is
      none (f.MissingSensitivity p n) is e = (keep p).0 MissingSensitivity n is
      none (f.Latch p n) is e = (keep p).0 Latch n is
      none (f.Loop ps) is e = absurd cc
      none (f.NetLoop ns) is e = absurd cc
      none (f.StoredVariable p v t) is e = (keep p).1 v t is

  pub keeps : IsAccepted net → AllKeep net
  keeps a p = (rules, λ v t is. a (f.StoredVariable p v t) is)
    where
      rules : KeepsRules net p
      rules rule n is = a (fault_of rule p n) is
