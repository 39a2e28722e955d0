-- Marks of clocks, the one source of a net, the places of all steps, and unsteady resets.
use Rattle.std.proofs.Common.{◌≡◌, ◌≢◌, ◌↔◌, ℕ, zero, suc, ◌+◌, ◌*◌, ◌/◌, ◌%◌, ◌<◌, ◌≤◌, ◌==◌, Bool, true, false, not, List, [], ◌∷◌, ◌++◌, length, get_or, set, take, drop, map, replicate, Vec, Global, Some, None, IsTrue, refl, sym, ap, subst, ◌∙◌, arith, ◌⊎◌, inl, inr, Contains}
use Rattle.std.proofs.lemmas.Bool.{cases_eq, cases_lt}
use Rattle.std.proofs.lemmas.List.{length-map, get_or_past, get_or-set_same, get_or-set_other}
use Rattle.std.proofs.Math.ListN.{length-set}
use Rattle.rtl_model.specs.simulation.Netlist as m
use Rattle.rtl_model.specs.simulation.Netlist.{Netlist, Source, Driver, Idle, Reset, HasPlace, HasReset, IsClock, IsDriven, IsClockOf, process, sources_of, reset_of}
use Rattle.rtl_model.specs.simulation.Elaborated.{IsWired}
use Rattle.rtl_model.specs.simulation.Accepted.{HasUnsteadyReset}
use Rattle.rtl_model.specs.simulation.Calm.{IsCalm, IsFromOutside, follows_inputs}
use Rattle.rtl_net.specs.declared.net.Source.{Source as Kept}
use Rattle.rtl_net.specs.Nets.{source_view}
use Rattle.rtl_body_facts.specs.declared.kinds.ProcessKind.{ProcessKind}
use Rattle.rtl_body_facts.specs.declared.kinds.ProcessKind.TheVariants as k
use Rattle.rtl_body_facts.specs.declared.kinds.Clocking.{Clocking}
use Rattle.rtl_process_kinds.specs.KindViews.{IsKind, AreKinds}
use Rattle.rtl_process_kinds.proofs.Processes.{kind_at}
use Rattle.rtl_calm_nets.proofs.Lists.{written_back}
use Rattle.rtl_process_kinds.specs.Drivers.{is_driven}
use Rattle.rtl_process_kinds.proofs.Drivers.{driven_is, is_driven_by}
use Rattle.rtl_process_kinds.specs.declared.asked.Asked.{Asked}
use Rattle.rtl_process_kinds.specs.declared.asked.Asked.TheVariants as a
use Rattle.rtl_calm_nets.specs.declared.resets.ResetTest.{ResetTest}
use Rattle.rtl_calm_nets.specs.declared.origins.Origin.{Origin}
use Rattle.rtl_calm_nets.specs.declared.origins.Origin.TheVariants as o
use Rattle.rtl_calm_nets.specs.declared.search.Step.{Step}
use Rattle.rtl_calm_nets.specs.declared.search.Step.TheVariants as s
use Rattle.rtl_process_kinds.specs.AskedValues.{is_asked, number_of, numbered}
use Rattle.rtl_calm_nets.specs.NetOrigins.{AreClockMarks, AreOutside, with_clock, IsResetTest, IsOrigin, without, given_at}
use Rattle.rtl_calm_nets.specs.InnerResets.{HasInnerReset}
use Rattle.rtl_calm_nets.specs.CalmPlaces.{place_of, AreCalm, AreSteps, calm_step}

-- ---- clocks

-- the clock of a process of this kind, if it has one
pub clock_is : (net : Netlist) (p : ℕ) (c : Clocking) → IsKind (process net p) (k.Clocked c) → IsClockOf net p c.clock
clock_is net p c is = (c.edge, (is.reset, is.kind))

pub is_the_clock : (net : Netlist) (p n : ℕ) (kind : ProcessKind) → IsKind (process net p) kind → IsClockOf net p n → (c : Clocking) × (kind ≡ k.Clocked c) × (c.clock ≡ n)
is_the_clock net p n k.Combinational is (edge, (reset, e)) = let h : m.Combinational ≡ m.Clocked n edge reset = sym is ∙ e in absurd cc
is_the_clock net p n (k.Clocked c) is (edge, (reset, e)) = let h : m.Clocked c.clock c.edge is.reset ≡ m.Clocked n edge reset = sym is.kind ∙ e in (c, refl, cc)
is_the_clock net p n k.Mixed is (edge, (reset, e)) = let h : m.Mixed ≡ m.Clocked n edge reset = sym is ∙ e in absurd cc

-- the clocks of the first processes are marked, and nothing else
pub record Marked (net : Netlist) (nets many : ℕ) (clocks : List Bool) : Type 0 where
  pub each_net : length clocks ≡ nets
  pub are_clocks : (n : ℕ) → IsTrue (get_or clocks n false) → IsClock net n
  pub all : (p n : ℕ) → p < many → IsClockOf net p n → n < nets → IsTrue (get_or clocks n false)

one_more : (p many : ℕ) → p < many + 1 → (p < many) ⊎ (many ≡ p)
one_more p many l = grind arith

module _ (net : Netlist) (nets many : ℕ) (clocks : List Bool) (h : Marked net nets many clocks) (kind : ProcessKind) (is : IsKind (process net many) kind) where
  -- a process without a clock, or one whose clock isn't there
  pub marks_none : ((n : ℕ) → IsClockOf net many n → n < nets → ⊥) → Marked net nets (many + 1) clocks
  marks_none none = record { each_net = h.each_net; are_clocks = h.are_clocks; all = λ p n l c b. go p n c b (one_more p many l) }
    where
      go : (p n : ℕ) → IsClockOf net p n → n < nets → (p < many) ⊎ (many ≡ p) → IsTrue (get_or clocks n false)
      go p n c b (inl l) = h.all p n l c b
      go p n c b (inr e) = absurd (none n (subst (λ (q : ℕ). IsClockOf net q n) (sym e) c) b)

  pub marks_not : ((c : Clocking) → kind ≡ k.Clocked c → ⊥) → Marked net nets (many + 1) clocks
  marks_not other = marks_none (λ n c b. let (clocking, e, same) = is_the_clock net many n kind is c in other clocking e)

  pub marks_past : (c : Clocking) → kind ≡ k.Clocked c → nets ≤ c.clock → Marked net nets (many + 1) clocks
  marks_past c e l = marks_none past
    where
      past : (n : ℕ) → IsClockOf net many n → n < nets → ⊥
      past n x b =
          let (other, f, same) = is_the_clock net many n kind is x in
          let g : k.Clocked c ≡ k.Clocked other = sym e ∙ f in
          let one : c ≡ other = cc in
          let clock : c.clock ≡ n = ap (λ (y : Clocking). y.clock) one ∙ same in
          omega arith

  pub marks_one : (c : Clocking) → kind ≡ k.Clocked c → c.clock < nets → Marked net nets (many + 1) (set clocks c.clock true)
  marks_one c e l = record {
    each_net = length-set clocks c.clock true ∙ h.each_net;
    are_clocks = λ n t. known n t (cases_eq n c.clock);
    all = λ p n before x b. go p n x b (one_more p many before);
  }
    where
      inside : c.clock < length clocks
      inside = let n = h.each_net in omega arith

      here : IsTrue (get_or (set clocks c.clock true) c.clock false)
      here = get_or-set_same clocks c.clock true false inside

      known : (n : ℕ) → IsTrue (get_or (set clocks c.clock true) n false) → (n ≡ c.clock) ⊎ (n ≢ c.clock) → IsClock net n
      known n t (inl same) = (many, subst (λ (j : ℕ). IsClockOf net many j) (sym same) (clock_is net many c (subst (IsKind (process net many)) e is)))
      known n t (inr other) = h.are_clocks n (sym (get_or-set_other clocks c.clock n true false other) ∙ t)

      kept : (n : ℕ) → IsTrue (get_or clocks n false) → (n ≡ c.clock) ⊎ (n ≢ c.clock) → IsTrue (get_or (set clocks c.clock true) n false)
      kept n t (inl same) = subst (λ (j : ℕ). IsTrue (get_or (set clocks c.clock true) j false)) (sym same) here
      kept n t (inr other) = get_or-set_other clocks c.clock n true false other ∙ t

      go : (p n : ℕ) → IsClockOf net p n → n < nets → (p < many) ⊎ (many ≡ p) → IsTrue (get_or (set clocks c.clock true) n false)
      go p n x b (inl l) = kept n (h.all p n l x b) (cases_eq n c.clock)
      go p n x b (inr same) =
          let (other, f, clock) = is_the_clock net many n kind is (subst (λ (q : ℕ). IsClockOf net q n) (sym same) x) in
          let g : k.Clocked c ≡ k.Clocked other = sym e ∙ f in
          let one : c ≡ other = cc in
          subst (λ (j : ℕ). IsTrue (get_or (set clocks c.clock true) j false)) (ap (λ (y : Clocking). y.clock) one ∙ clock) here

set_past : (xs : List Bool) (k : ℕ) (b : Bool) → length xs ≤ k → set xs k b ≡ xs
set_past [] k b l = refl
set_past (x ∷ xs) zero b l = absurd (omega arith)
set_past (x ∷ xs) (suc k) b l = ap (λ ys. x ∷ ys) (set_past xs k b (omega arith))

pub unmarked_past : (clocks : List Bool) (k : ℕ) → length clocks ≤ k → clocks ≡ set clocks k true
unmarked_past clocks k l = sym (set_past clocks k true l)

pub marks_more : (net : Netlist) (nets many : ℕ) (clocks new : List Bool) (kind : ProcessKind) → Marked net nets many clocks → IsKind (process net many) kind → new ≡ with_clock kind clocks → Marked net nets (many + 1) new
marks_more net nets many clocks new k.Combinational h is e = subst (Marked net nets (many + 1)) (sym e) (marks_not net nets many clocks h k.Combinational is (λ c f. absurd cc))
marks_more net nets many clocks new k.Mixed h is e = subst (Marked net nets (many + 1)) (sym e) (marks_not net nets many clocks h k.Mixed is (λ c f. absurd cc))
marks_more net nets many clocks new (k.Clocked c) h is e = subst (Marked net nets (many + 1)) (sym e) (go (cases_lt c.clock nets))
  where
    go : (c.clock < nets) ⊎ (nets ≤ c.clock) → Marked net nets (many + 1) (set clocks c.clock true)
    go (inl l) = marks_one net nets many clocks h (k.Clocked c) is c refl l
    go (inr l) =
        let n = h.each_net in
        subst (Marked net nets (many + 1)) (unmarked_past clocks c.clock (omega arith)) (marks_past net nets many clocks h (k.Clocked c) is c refl l)

length_with_clock : (kind : ProcessKind) (clocks : List Bool) → length (with_clock kind clocks) ≡ length clocks
length_with_clock k.Combinational clocks = refl
length_with_clock (k.Clocked c) clocks = length-set clocks c.clock true
length_with_clock k.Mixed clocks = refl

pub marks_back : (net : Netlist) (nets many : ℕ) (clocks : Vec Bool Global) (new seen : List Bool) (kinds : List ProcessKind) (d : ProcessKind) → Marked net nets many clocks.items → AreKinds net kinds → many < length kinds
    → seen ≡ clocks.items → new ≡ with_clock (get_or kinds many d) seen → Marked net nets (many + 1) (take clocks.len (new ++ drop (length new) clocks.items))
marks_back net nets many clocks new seen kinds d h K l same e =
    let is : new ≡ with_clock (get_or kinds many d) clocks.items = e ∙ ap (with_clock (get_or kinds many d)) same in
    let n : length new ≡ clocks.len = ap (λ (xs : List Bool). length xs) is ∙ (length_with_clock (get_or kinds many d) clocks.items ∙ sym clocks.ok.0) in
    subst (Marked net nets (many + 1)) (sym (written_back clocks.len new clocks.items n))
    (marks_more net nets many clocks.items new (get_or kinds many d) h (kind_at net kinds K many l d (get_or kinds many d) refl) is)

pub none_marked : (many n : ℕ) → get_or (replicate {A = Bool} many false) n false ≡ false
none_marked zero n = refl
none_marked (suc many) zero = refl
none_marked (suc many) (suc n) = none_marked many n

pub marks_begin : (net : Netlist) (nets : ℕ) (clocks : List Bool) → clocks ≡ replicate nets false → length clocks ≡ nets → Marked net nets 0 clocks
marks_begin net nets clocks e n = record {
  each_net = n;
  are_clocks = λ n t. let h : false ≡ true = sym (ap (λ (xs : List Bool). get_or xs n false) e ∙ none_marked nets n) ∙ t in absurd cc;
  all = λ p n l. absurd (omega arith);
}

pub marks_end : (net : Netlist) (nets many : ℕ) (clocks : List Bool) → Marked net nets many clocks → length net.start ≡ nets → length net.processes ≤ many → AreClockMarks net clocks
marks_end net nets many clocks h n l = record { each_net = h.each_net ∙ sym n; each = λ k b. (h.are_clocks k, λ (p, c). h.all p k (there p k c) c (omega (arith, n, b))) }
  where
    there : (p k : ℕ) → IsClockOf net p k → p < many
    there p k (edge, (reset, e)) = go (cases_lt p (length net.processes))
      where
        go : (p < length net.processes) ⊎ (length net.processes ≤ p) → p < many
        go (inl b) = omega arith
        go (inr b) = let x : (process net p).kind ≡ m.Combinational = ap (λ (q : m.Process). q.kind) (get_or_past net.processes p m.no_process b) in
            let y : m.Combinational ≡ m.Clocked k edge reset = sym x ∙ e in
            absurd cc

-- ---- nets from outside

module _ (net : Netlist) (W : IsWired net) (clocks : List Bool) (C : AreClockMarks net clocks) (n : ℕ) (l : n < length net.start) (driven marked : Bool) (d : driven ≡ is_driven net n) (m : marked ≡ get_or clocks n false) where
  pub outside_if : driven ≡ false → IsTrue (not marked) ↔ IsFromOutside net n
  outside_if f = (λ t. (no_driver, no_clock t), from)
    where
      no_driver : IsDriven net n → ⊥
      no_driver x = let t = driven_is net W n x in let h : true ≡ false = sym t ∙ (sym d ∙ f) in cc

      no_clock : IsTrue (not marked) → IsClock net n → ⊥
      no_clock t x = let u = (C.each n l).1 x in let h : marked ≡ true = m ∙ u in let g : not true ≡ true = sym (ap not h) ∙ t in cc

      from : IsFromOutside net n → IsTrue (not marked)
      from x = go marked refl
        where
          go : (b : Bool) → marked ≡ b → IsTrue (not marked)
          go false e = ap not e
          go true e = absurd (x.1 ((C.each n l).0 (sym m ∙ e)))

  pub inside_if : driven ≡ true → IsTrue (not driven) ↔ IsFromOutside net n
  inside_if t = (λ u. let g : not true ≡ true = sym (ap not t) ∙ u in absurd cc, λ x. absurd (x.0 (is_driven_by net W n (sym d ∙ t))))

pub odd_net : (net : Netlist) (outside : List Bool) → AreOutside net outside → (n : ℕ) → n < length net.start → get_or outside n false ≡ false → IsFromOutside net n → ⊥
odd_net net outside O n l f x = let t = (O.each n l).1 x in let h : true ≡ false = sym t ∙ f in cc

-- ---- the one source

pub one_at : (xs : List Kept) (x d : Kept) → length xs ≡ 1 → get_or xs 0 d ≡ x → map source_view xs ≡ source_view x ∷ []
one_at [] x d l e = absurd (omega arith)
one_at (y ∷ []) x d l e = ap (λ (z : Kept). source_view z ∷ []) e
one_at (y ∷ z ∷ zs) x d l e = absurd (omega arith)

module _ (net : Netlist) (n : ℕ) (odd : IsFromOutside net n → ⊥) where
  pub not_one : (xs : List Kept) → sources_of net n ≡ map source_view xs → (length xs ≡ 1 → ⊥) → IsOrigin net n o.Other
  not_one xs e many = without odd (λ p place f. many (sym (length-map xs source_view) ∙ ap (λ (ys : List Source). length ys) (sym e ∙ f)))

  pub idle_one : (v : ℕ) → sources_of net n ≡ Idle v ∷ [] → IsOrigin net n o.Other
  idle_one v e = without odd (λ p place f. let h : Idle v ∷ [] ≡ Driver p place ∷ [] = sym e ∙ f in absurd cc)

pub place_there : (net : Netlist) → IsWired net → (n p place : ℕ) → sources_of net n ≡ Driver p place ∷ [] → HasPlace net p place × (p < length net.processes)
place_there net W n p place e = let (h, t) = W.sources_are_drivers n p place (subst (λ (xs : List Source). Contains xs (Driver p place)) (sym e) (0, omega arith, refl)) in (h, go h (cases_lt p (length net.processes)))
  where
    go : HasPlace net p place → (p < length net.processes) ⊎ (length net.processes ≤ p) → p < length net.processes
    go h (inl l) = l
    go h (inr l) = let none : length (process net p).drives ≡ 0 = ap (λ (q : m.Process). length q.drives) (get_or_past net.processes p m.no_process l) in absurd (omega arith)

-- ---- the places of steps

number_below : (asked : Asked) → number_of asked < 4
number_below a.Zero = omega arith
number_below a.One = omega arith
number_below a.Low = omega arith
number_below a.High = omega arith

number_back : (asked : Asked) → numbered (number_of asked) ≡ asked
number_back a.Zero = refl
number_back a.One = refl
number_back a.Low = refl
number_back a.High = refl

pub all_steps : (origins : List Origin) (made : List Bool) (starts : List ℕ) (steps : List Step) → length steps ≡ 4 * length origins
    → ((k : ℕ) → k < 4 * length origins → get_or steps k (s.Ends false) ≡ calm_step origins made starts (given_at origins (k / 4)) (numbered (k % 4))) → AreSteps origins made starts steps
all_steps origins made starts steps many each = record { each_place = many; each = at }
  where
    at : (n : ℕ) (asked : Asked) → n < length origins → get_or steps (place_of n asked) (s.Ends false) ≡ calm_step origins made starts (given_at origins n) asked
    at n asked l =
        let small = number_below asked in
        let k = place_of n asked in
        let q : k / 4 ≡ n = omega arith in
        let r : k % 4 ≡ number_of asked = omega arith in
        each k (omega arith) ∙ ((λ i. calm_step origins made starts (given_at origins (q i)) (numbered (r i))) ∙ ap (calm_step origins made starts (given_at origins n)) (number_back asked))

-- ---- unsteady resets

module _ (net : Netlist) (clocks calm : List Bool) (C : AreClockMarks net clocks) (A : AreCalm net calm) (wide : IsTrue net.wide) (p : ℕ) (test : ResetTest) (is : IsResetTest net p (Some test)) where
  asked_is : (reset : Reset) → ((w : ℕ) → is_asked test.asked w ≡ (w == reset.value)) → is_asked test.asked ≡ (λ (w : ℕ). w == reset.value)
  asked_is reset all = λ i w. all w i

  pub unsteady_to : get_or clocks test.net false ≡ false → get_or calm (place_of test.net test.asked) false ≡ false → HasUnsteadyReset net p
  unsteady_to c f = go is
    where
      go : IsResetTest net p (Some test) → HasUnsteadyReset net p
      go (l, nine, (reset, has, same, all)) = record {
        is_wide = wide;
        reset = reset;
        is_reset = has;
        no_clock = λ k. let t = (C.each test.net l).1 (subst (IsClock net) same k) in let h : true ≡ false = sym t ∙ c in cc;
        not_calm = λ x.
            let y : IsCalm net reset.net (is_asked test.asked) = subst (IsCalm net reset.net) (sym (asked_is reset all)) x in
            let t = (A.each test.net test.asked l).1 (subst (λ (n : ℕ). IsCalm net n (is_asked test.asked)) same y) in
            let h : true ≡ false = sym t ∙ f in
            cc;
      }

  same_reset : (u : HasUnsteadyReset net p) (reset : Reset) → HasReset net p reset → u.reset ≡ reset
  same_reset u reset has = let h : Some u.reset ≡ Some reset = sym u.is_reset ∙ has in cc

  pub unsteady_clock : get_or clocks test.net false ≡ true → HasUnsteadyReset net p → ⊥
  unsteady_clock t u = go is
    where
      go : IsResetTest net p (Some test) → ⊥
      go (l, nine, (reset, has, same, all)) = u.no_clock (subst (λ (r : Reset). IsClock net r.net) (sym (same_reset u reset has)) (subst (IsClock net) (sym same) ((C.each test.net l).0 t)))

  pub unsteady_calm : get_or calm (place_of test.net test.asked) false ≡ true → HasUnsteadyReset net p → ⊥
  unsteady_calm t u = go is
    where
      go : IsResetTest net p (Some test) → ⊥
      go (l, nine, (reset, has, same, all)) =
          let x : IsCalm net test.net (is_asked test.asked) = (A.each test.net test.asked l).0 t in
          let y : IsCalm net reset.net (λ (w : ℕ). w == reset.value) = subst (λ (n : ℕ). IsCalm net n (λ (w : ℕ). w == reset.value)) (sym same) (subst (IsCalm net test.net) (asked_is reset all) x) in
          u.not_calm (subst (λ (r : Reset). IsCalm net r.net (λ (w : ℕ). w == r.value)) (sym (same_reset u reset has)) y)

  not_true : (b : Bool) → IsTrue (not b) → b ≡ false
  not_true false t = refl
  not_true true t = absurd cc

  pub judged_calm : (clock calm_there : Bool) (place : ℕ) → clock ≡ get_or clocks test.net false → calm_there ≡ get_or calm place false → place ≡ place_of test.net test.asked → clock ≡ false
      → IsTrue (not calm_there) ↔ HasUnsteadyReset net p
  judged_calm clock calm_there place c k e f = (λ t. unsteady_to (sym c ∙ f) (sym there ∙ not_true calm_there t), from)
    where
      there : calm_there ≡ get_or calm (place_of test.net test.asked) false
      there = k ∙ ap (λ (i : ℕ). get_or calm i false) e

      from : HasUnsteadyReset net p → IsTrue (not calm_there)
      from u = go calm_there refl
        where
          go : (b : Bool) → calm_there ≡ b → IsTrue (not calm_there)
          go false g = ap not g
          go true g = absurd (unsteady_calm (sym there ∙ g) u)

  pub judged_clock : (clock : Bool) → clock ≡ get_or clocks test.net false → clock ≡ true → IsTrue (not clock) ↔ HasUnsteadyReset net p
  judged_clock clock c t = (λ u. let g : not true ≡ true = sym (ap not t) ∙ u in absurd cc, λ u. absurd (unsteady_clock (sym c ∙ t) u))

pub unsteady_none : (net : Netlist) (p : ℕ) → reset_of net p ≡ None → HasUnsteadyReset net p → ⊥
unsteady_none net p e u = let h : None ≡ Some u.reset = sym e ∙ u.is_reset in cc

pub unsteady_inner : (net : Netlist) (p : ℕ) → HasUnsteadyReset net p → (HasInnerReset net → ⊥) → ⊥
unsteady_inner net p u outer =
    let n = u.reset.net in
    u.not_calm (follows_inputs n (λ value. value == u.reset.value) (inl (λ driven. outer (u.is_wide, (p, n, ((u.reset, u.is_reset, refl), driven))), u.no_clock)))
