-- A net of a process breaks a rule just where the two are a fault.
use Rattle.std.proofs.Common.{◌≡◌, ℕ, ◌<◌, true, false, not, ◌&&◌, ◌||◌, ◌==◌, List, [], ◌∷◌, length, get_or, map, refl, sym, ap, subst, ◌∙◌, ◌⊎◌, inl, inr, Option, Some, None, Contains}
use Rattle.std.specs.Prelude.{option_map}
use Rattle.std.specs.Option.{option_to_list}
use Rattle.std.proofs.lemmas.Bool.{cases_Bool, and_parts, and_from, or_cases, or_left, or_right, not-true, not_from_false, eqb-true, eq-eqb}
use Rattle.rtl_model.specs.bodies.Reads.{reads}
use Rattle.rtl_model.specs.bodies.Assigns.{of_drivers, must_assign}
use Rattle.rtl_model.specs.nets.FlatNetlist.{FlatDriver}
use Rattle.rtl_model.specs.nets.CoreNetlist.{core_process, drives_net}
use Rattle.rtl_model.specs.simulation.Netlist as m
use Rattle.rtl_model.specs.simulation.Netlist.{Edge, Reset, process, kind_reset}
use Rattle.rtl_model.specs.simulation.Accepted as f
use Rattle.rtl_model.specs.simulation.Accepted.{IsFault, IsClockOf, IsResetOf}
use Rattle.rtl_model.proofs.basics.Lists.{in_contains, contains_in}
use Rattle.rtl_net.specs.declared.process.Driver.{Driver}
use Rattle.rtl_net.specs.declared.process.Process.{Process}
use Rattle.rtl_net.specs.Nets.{NetlistView, driver_view, process_view, body_of}
use Rattle.rtl_net.specs.Elaborated.{ReadsOfBody}
use Rattle.rtl_body_facts.specs.declared.kinds.Clocking.{Clocking}
use Rattle.rtl_body_facts.specs.declared.kinds.ProcessKind.{ProcessKind}
use Rattle.rtl_body_facts.specs.declared.kinds.ProcessKind.TheVariants as k
use Rattle.rtl_body_facts.specs.Reading.{is_in}
use Rattle.rtl_body_facts.specs.Paths.{driven, to_net}
use Rattle.rtl_body_facts.proofs.Members.{same_members}
use Rattle.rtl_check.specs.declared.rule.Rule.{Rule}
use Rattle.rtl_check.specs.declared.rule.Rule.TheVariants.{ClockNotInput, EdgeNotSensitive, ClockAsData, MissingSensitivity, Latch}
use Rattle.rtl_net.specs.Core.{core}
use Rattle.rtl_check.specs.Views.{AreClockNets}
use Rattle.rtl_process_kinds.specs.KindViews.{reset_net, nets_tested, IsClocking, IsKind}
use Rattle.rtl_check.specs.Rules.{fault_of, is_data, clocked_breaks, combinational_breaks, breaks}
use Rattle.rtl_process_kinds.proofs.Processes.{many_processes, process_is}

driven_is : (ds : List Driver) → map (λ (d : FlatDriver). d.net) (map driver_view ds) ≡ driven ds
driven_is [] = refl
driven_is (d ∷ ds) = ap (λ (ns : List ℕ). d.net ∷ ns) (driven_is ds)

reset_in : (n : ℕ) (o : Option Reset) (r : Option ℕ) → option_map reset_net o ≡ r → is_in n (option_to_list r) ≡ true → (reset : Reset) × (o ≡ Some reset) × (reset.net ≡ n)
reset_in n None None e t = absurd cc
reset_in n (Some x) (Some r) e t = let h : x.net ≡ r = cc in (x, refl, h ∙ only (or_cases (r == n) false t))
  where
    only : ((r == n) ≡ true) ⊎ (false ≡ true) → r ≡ n
    only (inl g) = eqb-true r n g
    only (inr g) = absurd cc
reset_in n _ _ e t = absurd cc

reset_back : (n : ℕ) (o : Option Reset) (r : Option ℕ) (reset : Reset) → option_map reset_net o ≡ r → o ≡ Some reset → reset.net ≡ n → is_in n (option_to_list r) ≡ true
reset_back n o r reset e is at =
    let h : r ≡ Some reset.net = sym e ∙ ap (option_map reset_net) is in
    ap (λ (x : Option ℕ). is_in n (option_to_list x)) h ∙ or_left (reset.net == n) false (eq-eqb reset.net n at)

module _ (net : NetlistView) (clocks : List ℕ) (cs : AreClockNets (core net) clocks) (p : ℕ) (x : Process) (there : p < length net.processes) (at : x ≡ get_or net.processes p x)
    (listed : ReadsOfBody x) where
  is : process (core net) p ≡ core_process net.wide net.inputs (process_view x)
  is = process_is net p x there at

  wakes_are : (process (core net) p).wakes ≡ x.wakes.items
  wakes_are = ap (λ (q : m.Process). q.wakes) is

  reads_are : (n : ℕ) → is_in n x.reads.items ≡ is_in n (process (core net) p).reads
  reads_are n = same_members x.reads.items (reads (body_of x)) n (listed.all n).0 (listed.all n).1 ∙ ap (λ (q : m.Process). is_in n q.reads) (sym is)

  drives_are : (process (core net) p).drives ≡ driven x.drives.items
  drives_are = ap (λ (q : m.Process). q.drives) is ∙ driven_is x.drives.items

  assigns_are : (n : ℕ) → (process (core net) p).assigns n ≡ must_assign (to_net x.drives.items n) (body_of x)
  assigns_are n = ap (λ (q : m.Process). q.assigns n) is ∙ ap (λ (ns : List ℕ). must_assign (of_drivers (drives_net ns n)) (body_of x)) (driven_is x.drives.items)

  in_core : p < length (core net).processes
  in_core = rw (many_processes net) there

  awake : (n : ℕ) → Contains (process (core net) p).wakes n → is_in n x.wakes.items ≡ true
  awake n c = contains_in x.wakes.items n (subst (λ (ns : List ℕ). Contains ns n) wakes_are c)

  asleep : (n : ℕ) → not (is_in n x.wakes.items) ≡ true → Contains (process (core net) p).wakes n → ⊥
  asleep n t c = let a = awake n c in let b = not-true (is_in n x.wakes.items) t in let h : true ≡ false = sym a ∙ b in cc

  not_awake : (n : ℕ) → (Contains (process (core net) p).wakes n → ⊥) → not (is_in n x.wakes.items) ≡ true
  not_awake n none = go (cases_Bool (is_in n x.wakes.items))
    where
      go : (is_in n x.wakes.items ≡ true) ⊎ (is_in n x.wakes.items ≡ false) → not (is_in n x.wakes.items) ≡ true
      go (inl e) = absurd (none (subst (λ (ns : List ℕ). Contains ns n) (sym wakes_are) (in_contains x.wakes.items n e)))
      go (inr e) = not_from_false (is_in n x.wakes.items) e

  -- ---- a combinational process

  combinational_to : (rule : Rule) (n : ℕ) → (process (core net) p).kind ≡ m.Combinational → combinational_breaks x rule n ≡ true → IsFault (core net) (fault_of rule p n)
  combinational_to MissingSensitivity n c t =
      let (a, b) = and_parts (is_in n x.reads.items) (not (is_in n x.wakes.items)) t in
      ((in_core, c), in_contains (process (core net) p).reads n (sym (reads_are n) ∙ a), asleep n b)
  combinational_to Latch n c t =
      let (a, b) = and_parts (is_in n (driven x.drives.items)) (not (must_assign (to_net x.drives.items n) (body_of x))) t in
      ((in_core, c), subst (λ (ns : List ℕ). Contains ns n) (sym drives_are) (in_contains (driven x.drives.items) n a), assigns_are n ∙ not-true (must_assign (to_net x.drives.items n) (body_of x)) b)
  combinational_to _ n c t = absurd cc

  missing_from : (n : ℕ) → IsFault (core net) (f.MissingSensitivity p n) → combinational_breaks x MissingSensitivity n ≡ true
  missing_from n (c, r, w) = and_from (is_in n x.reads.items) (not (is_in n x.wakes.items)) (reads_are n ∙ contains_in (process (core net) p).reads n r) (not_awake n w)

  latch_from : (n : ℕ) → IsFault (core net) (f.Latch p n) → combinational_breaks x Latch n ≡ true
  latch_from n (c, d, a) =
      and_from (is_in n (driven x.drives.items)) (not (must_assign (to_net x.drives.items n) (body_of x)))
      (contains_in (driven x.drives.items) n (subst (λ (ns : List ℕ). Contains ns n) drives_are d))
      (not_from_false (must_assign (to_net x.drives.items n) (body_of x)) (sym (assigns_are n) ∙ a))

  -- ---- a clocked process

  module _ (c : Clocking) (d : IsClocking (process (core net) p) c) where
    clock_of : (n : ℕ) → c.clock ≡ n → IsClockOf (core net) p n
    clock_of n e = subst (IsClockOf (core net) p) e (c.edge, (d.reset, d.kind))

    clock_back : (n : ℕ) → IsClockOf (core net) p n → c.clock ≡ n
    clock_back n (edge, (reset, same)) = let h : m.Clocked c.clock c.edge d.reset ≡ m.Clocked n edge reset = sym d.kind ∙ same in cc

    reset_to : (n : ℕ) → is_in n (option_to_list c.reset) ≡ true → IsResetOf (core net) p n
    reset_to n t = let (reset, e, l) = reset_in n d.reset c.reset d.reset_is t in (reset, ap kind_reset d.kind ∙ e, l)

    reset_from : (n : ℕ) → IsResetOf (core net) p n → is_in n (option_to_list c.reset) ≡ true
    reset_from n (reset, e, l) = reset_back n d.reset c.reset reset d.reset_is (sym (ap kind_reset d.kind) ∙ e) l

    alone : (n : ℕ) → ((c.clock == n) || false) ≡ true → c.clock ≡ n
    alone n t = go (or_cases (c.clock == n) false t)
      where
        go : ((c.clock == n) ≡ true) ⊎ (false ≡ true) → c.clock ≡ n
        go (inl e) = eqb-true c.clock n e
        go (inr e) = absurd cc

    data_to : (n : ℕ) → is_in n x.reads.items ≡ true → is_data c n ≡ true
        → ((clock : ℕ) × IsClockOf (core net) p clock × Contains (process (core net) p).acting_reads n) ⊎ IsResetOf (core net) p n
    data_to n r u = go (cases_Bool (is_in n (process (core net) p).acting_reads)) (cases_Bool (is_in n (option_to_list c.reset)))
      where
        go : (is_in n (process (core net) p).acting_reads ≡ true) ⊎ (is_in n (process (core net) p).acting_reads ≡ false)
            → (is_in n (option_to_list c.reset) ≡ true) ⊎ (is_in n (option_to_list c.reset) ≡ false)
            → ((clock : ℕ) × IsClockOf (core net) p clock × Contains (process (core net) p).acting_reads n) ⊎ IsResetOf (core net) p n
        go (inl e) w = inl (c.clock, clock_of c.clock refl, in_contains (process (core net) p).acting_reads n e)
        go (inr e) (inl w) = inr (reset_to n w)
        go (inr e) (inr w) =
            let both : (is_in n (nets_tested c) || is_in n (process (core net) p).acting_reads) ≡ true = sym (d.reads n) ∙ (sym (reads_are n) ∙ r) in
            clocked (or_cases (is_in n (nets_tested c)) (is_in n (process (core net) p).acting_reads) both)
          where
            own : (c.clock == n) ≡ true → (c.reads_clock ≡ true)
            own g = by (or_cases (not (n == c.clock)) (c.reads_clock || is_in n (option_to_list c.reset)) u)
              where
                same : (n == c.clock) ≡ true
                same = eq-eqb n c.clock (sym (eqb-true c.clock n g))

                inner : (c.reads_clock ≡ true) ⊎ (is_in n (option_to_list c.reset) ≡ true) → c.reads_clock ≡ true
                inner (inl h) = h
                inner (inr h) = let z : true ≡ false = sym h ∙ w in absurd cc

                by : (not (n == c.clock) ≡ true) ⊎ ((c.reads_clock || is_in n (option_to_list c.reset)) ≡ true) → c.reads_clock ≡ true
                by (inl h) = let z : true ≡ false = sym same ∙ not-true (n == c.clock) h in absurd cc
                by (inr h) = inner (or_cases c.reads_clock (is_in n (option_to_list c.reset)) h)

            clocked : (is_in n (nets_tested c) ≡ true) ⊎ (is_in n (process (core net) p).acting_reads ≡ true)
                → ((clock : ℕ) × IsClockOf (core net) p clock × Contains (process (core net) p).acting_reads n) ⊎ IsResetOf (core net) p n
            clocked (inr h) = let z : true ≡ false = sym h ∙ e in absurd cc
            clocked (inl h) = by (or_cases (c.clock == n) (is_in n (option_to_list c.reset)) h)
              where
                by : ((c.clock == n) ≡ true) ⊎ (is_in n (option_to_list c.reset) ≡ true)
                    → ((clock : ℕ) × IsClockOf (core net) p clock × Contains (process (core net) p).acting_reads n) ⊎ IsResetOf (core net) p n
                by (inr g) = let z : true ≡ false = sym g ∙ w in absurd cc
                by (inl g) =
                    let seen : is_in c.clock (process (core net) p).acting_reads ≡ true = sym d.reads_clock ∙ own g in
                    let z : true ≡ false = sym seen ∙ (ap (λ (i : ℕ). is_in i (process (core net) p).acting_reads) (eqb-true c.clock n g) ∙ e) in
                    absurd cc

    data_from : (n : ℕ) → ((clock : ℕ) × IsClockOf (core net) p clock × Contains (process (core net) p).acting_reads n) ⊎ IsResetOf (core net) p n
        → (is_in n x.reads.items ≡ true) × (is_data c n ≡ true)
    data_from n (inl (clock, same, r)) =
        let acts = contains_in (process (core net) p).acting_reads n r in
        (reads_are n ∙ (d.reads n ∙ or_right (is_in n (nets_tested c)) (is_in n (process (core net) p).acting_reads) acts), go acts (cases_Bool (n == c.clock)))
      where
        go : is_in n (process (core net) p).acting_reads ≡ true → ((n == c.clock) ≡ true) ⊎ ((n == c.clock) ≡ false) → is_data c n ≡ true
        go acts (inl e) =
            let own : c.reads_clock ≡ true = d.reads_clock ∙ (ap (λ (i : ℕ). is_in i (process (core net) p).acting_reads) (sym (eqb-true n c.clock e)) ∙ acts) in
            or_right (not (n == c.clock)) (c.reads_clock || is_in n (option_to_list c.reset)) (or_left c.reads_clock (is_in n (option_to_list c.reset)) own)
        go acts (inr e) = or_left (not (n == c.clock)) (c.reads_clock || is_in n (option_to_list c.reset)) (not_from_false (n == c.clock) e)
    data_from n (inr r) =
        let w = reset_from n r in (
          reads_are n ∙ (d.reads n ∙ or_left (is_in n (nets_tested c)) (is_in n (process (core net) p).acting_reads) (or_right (c.clock == n) (is_in n (option_to_list c.reset)) w)),
          or_right (not (n == c.clock)) (c.reads_clock || is_in n (option_to_list c.reset)) (or_right c.reads_clock (is_in n (option_to_list c.reset)) w),
        )

    clocked_to : (rule : Rule) (n : ℕ) → clocked_breaks net.inputs clocks x c rule n ≡ true → IsFault (core net) (fault_of rule p n)
    clocked_to ClockNotInput n t =
        let (a, b) = and_parts (is_in n (c.clock ∷ [])) (not (is_in n net.inputs)) t in
        (clock_of n (alone n a), λ i. let h : true ≡ false = sym i ∙ not-true (is_in n net.inputs) b in cc)
    clocked_to EdgeNotSensitive n t =
        let (a, b) = and_parts (is_in n (nets_tested c)) (not (is_in n x.wakes.items)) t in
        (go (or_cases (c.clock == n) (is_in n (option_to_list c.reset)) a), asleep n b)
      where
        go : ((c.clock == n) ≡ true) ⊎ (is_in n (option_to_list c.reset) ≡ true) → IsClockOf (core net) p n ⊎ IsResetOf (core net) p n
        go (inl e) = inl (clock_of n (eqb-true c.clock n e))
        go (inr e) = inr (reset_to n e)
    clocked_to ClockAsData n t =
        let (a, b) = and_parts (is_in n x.reads.items) (is_in n clocks && is_data c n) t in
        let (g, h) = and_parts (is_in n clocks) (is_data c n) b in
        ((cs.are n).0 g, data_to n a h)
    clocked_to _ n t = absurd cc

    input_from : (n : ℕ) → IsFault (core net) (f.ClockNotInput p n) → clocked_breaks net.inputs clocks x c ClockNotInput n ≡ true
    input_from n (k, i) = and_from (is_in n (c.clock ∷ [])) (not (is_in n net.inputs)) (or_left (c.clock == n) false (eq-eqb c.clock n (clock_back n k))) (go (cases_Bool (is_in n net.inputs)))
      where
        go : (is_in n net.inputs ≡ true) ⊎ (is_in n net.inputs ≡ false) → not (is_in n net.inputs) ≡ true
        go (inl e) = absurd (i e)
        go (inr e) = not_from_false (is_in n net.inputs) e

    edge_from : (n : ℕ) → IsFault (core net) (f.EdgeNotSensitive p n) → clocked_breaks net.inputs clocks x c EdgeNotSensitive n ≡ true
    edge_from n (k, w) = and_from (is_in n (nets_tested c)) (not (is_in n x.wakes.items)) (go k) (not_awake n w)
      where
        go : IsClockOf (core net) p n ⊎ IsResetOf (core net) p n → is_in n (nets_tested c) ≡ true
        go (inl h) = or_left (c.clock == n) (is_in n (option_to_list c.reset)) (eq-eqb c.clock n (clock_back n h))
        go (inr h) = or_right (c.clock == n) (is_in n (option_to_list c.reset)) (reset_from n h)

    data_fault : (n : ℕ) → IsFault (core net) (f.ClockAsData p n) → clocked_breaks net.inputs clocks x c ClockAsData n ≡ true
    data_fault n (k, w) =
        let (a, b) = data_from n w in
        and_from (is_in n x.reads.items) (is_in n clocks && is_data c n) a (and_from (is_in n clocks) (is_data c n) ((cs.are n).1 k) b)

  -- ---- any process

  pub breaks_to : (kind : ProcessKind) → IsKind (process (core net) p) kind → (rule : Rule) (n : ℕ) → breaks net.inputs clocks x kind rule n ≡ true → IsFault (core net) (fault_of rule p n)
  breaks_to k.Combinational d rule n t = combinational_to rule n d t
  breaks_to (k.Clocked c) d rule n t = clocked_to c d rule n t
  breaks_to k.Mixed d rule n t = absurd cc

  not_clock : (n : ℕ) (kind : m.ProcessKind) → (process (core net) p).kind ≡ kind → ((clock : ℕ) (edge : Edge) (reset : Option Reset) → kind ≡ m.Clocked clock edge reset → ⊥) → IsClockOf (core net) p n → ⊥
  not_clock n kind e odd (edge, (reset, same)) = odd n edge reset (sym e ∙ same)

  not_reset : (n : ℕ) (kind : m.ProcessKind) → (process (core net) p).kind ≡ kind → kind_reset kind ≡ None → IsResetOf (core net) p n → ⊥
  not_reset n kind e none (reset, has, l) = let h : Some reset ≡ None = sym has ∙ (ap kind_reset e ∙ none) in cc

  untimed : (kind : m.ProcessKind) → (process (core net) p).kind ≡ kind → ((clock : ℕ) (edge : Edge) (reset : Option Reset) → kind ≡ m.Clocked clock edge reset → ⊥) → kind_reset kind ≡ None
      → (rule : Rule) (n : ℕ) → (rule ≡ MissingSensitivity → ⊥) → (rule ≡ Latch → ⊥) → IsFault (core net) (fault_of rule p n) → ⊥
  untimed kind e odd none ClockNotInput n u v (k, w) = not_clock n kind e odd k
  untimed kind e odd none EdgeNotSensitive n u v (inl k, w) = not_clock n kind e odd k
  untimed kind e odd none EdgeNotSensitive n u v (inr k, w) = not_reset n kind e none k
  untimed kind e odd none ClockAsData n u v (k, inl (clock, o, w)) = not_clock clock kind e odd o
  untimed kind e odd none ClockAsData n u v (k, inr w) = not_reset n kind e none w
  untimed kind e odd none MissingSensitivity n u v w = u refl
  untimed kind e odd none Latch n u v w = v refl

  pub breaks_from : (kind : ProcessKind) → IsKind (process (core net) p) kind → (rule : Rule) (n : ℕ) → IsFault (core net) (fault_of rule p n) → breaks net.inputs clocks x kind rule n ≡ true
  breaks_from k.Combinational d ClockNotInput n h = absurd (untimed m.Combinational d (λ clock edge reset e. cc) refl ClockNotInput n (λ e. cc) (λ e. cc) h)
  breaks_from k.Combinational d EdgeNotSensitive n h = absurd (untimed m.Combinational d (λ clock edge reset e. cc) refl EdgeNotSensitive n (λ e. cc) (λ e. cc) h)
  breaks_from k.Combinational d ClockAsData n h = absurd (untimed m.Combinational d (λ clock edge reset e. cc) refl ClockAsData n (λ e. cc) (λ e. cc) h)
  breaks_from k.Combinational d MissingSensitivity n h = missing_from n h
  breaks_from k.Combinational d Latch n h = latch_from n h
  breaks_from (k.Clocked c) d ClockNotInput n h = input_from c d n h
  breaks_from (k.Clocked c) d EdgeNotSensitive n h = edge_from c d n h
  breaks_from (k.Clocked c) d ClockAsData n h = data_fault c d n h
  breaks_from (k.Clocked c) d MissingSensitivity n ((l, e), r, w) = let z : m.Clocked c.clock c.edge d.reset ≡ m.Combinational = sym d.kind ∙ e in absurd cc
  breaks_from (k.Clocked c) d Latch n ((l, e), r, w) = let z : m.Clocked c.clock c.edge d.reset ≡ m.Combinational = sym d.kind ∙ e in absurd cc
  breaks_from k.Mixed d ClockNotInput n h = absurd (untimed m.Mixed d (λ clock edge reset e. cc) refl ClockNotInput n (λ e. cc) (λ e. cc) h)
  breaks_from k.Mixed d EdgeNotSensitive n h = absurd (untimed m.Mixed d (λ clock edge reset e. cc) refl EdgeNotSensitive n (λ e. cc) (λ e. cc) h)
  breaks_from k.Mixed d ClockAsData n h = absurd (untimed m.Mixed d (λ clock edge reset e. cc) refl ClockAsData n (λ e. cc) (λ e. cc) h)
  breaks_from k.Mixed d MissingSensitivity n ((l, e), r, w) = let z : m.Mixed ≡ m.Combinational = sym d ∙ e in absurd cc
  breaks_from k.Mixed d Latch n ((l, e), r, w) = let z : m.Mixed ≡ m.Combinational = sym d ∙ e in absurd cc
