-- Which registers a reset assigns: those that its branch, which is one of constants, assigns on every path.
use Rattle.std.proofs.Common.{◌≡◌, ℕ, zero, suc, ◌<◌, ◌⊎◌, inl, inr, Bool, true, false, ◌||◌, ◌&&◌, ◌==◌, List, [], ◌∷◌, length, get_or, map, drop, nat_lt, Option, Some, None, refl, sym, ap, subst, ◌∙◌, arith, IsSome, IsTrue}
use Rattle.std.specs.Prelude.{slice_index, if◌then◌else◌}
use Rattle.std.specs.List.{list_any, range_with_len}
use Rattle.std.proofs.lemmas.Bool.{cases_Bool, and_parts, and_from, eqb-true, eq-eqb, ltb-true, ltb-false}
use Rattle.std.proofs.lemmas.List.{length-map}
use Rattle.std.proofs.lemmas.List.FromFn.{get_or-map-range_with_len}
use Rattle.rtl_model.specs.basics.Lists.{is_empty}
use Rattle.rtl_model.specs.basics.Valuations.{or_else}
use Rattle.rtl_model.specs.bodies.Body.{Stmt, null_of, assign, Stmts, done, step}
use Rattle.rtl_model.specs.bodies.Reads.{value_reads, events}
use Rattle.rtl_model.specs.bodies.Values.{Seen, value_of}
use Rattle.rtl_model.specs.bodies.Variables.{after_stmt}
use Rattle.rtl_model.specs.bodies.Effect.{entries, effect}
use Rattle.rtl_model.specs.bodies.Assigns.{of_drivers, must_assign}
use Rattle.rtl_model.specs.bodies.Kinds.{assigns_constants, Clocking, ResetPart, IsClocked, clocking}
use Rattle.rtl_model.specs.nets.FlatNetlist.{FlatDriver, FlatProcess, targets}
use Rattle.rtl_model.specs.nets.CoreNetlist.{core_kind, core_process, part_effect, seen_from}
use Rattle.rtl_model.specs.simulation.Netlist as m
use Rattle.rtl_model.specs.simulation.Netlist.{Reset, kind_reset, reset_entry}
use Rattle.rtl_model.proofs.bodies.Assigned.{each_run_assigns}
use Rattle.rtl_model.proofs.bodies.Clocking.{clocked_is}
use Rattle.rtl_net.specs.declared.process.Driver.{Driver}
use Rattle.rtl_body_facts.specs.Reading.{is_in}
use Rattle.rtl_body_facts.specs.Paths.{driven, covers, to_net}
use Rattle.rtl_process_kinds.specs.ResetBranches.{reset_branch}
use Rattle.rtl_process_kinds.proofs.ResetBranches.{resets_by}

-- these are the nets of the drivers for which the process's reset has an entry
abbrev pub AreRegistersOf : m.Process → List ℕ → Type 0
AreRegistersOf p registers =
    (n : ℕ) → (is_in n registers ≡ true → (place : ℕ) × (place < length p.drives) × (get_or p.drives place 0 ≡ n) × IsSome (reset_entry (kind_reset p.kind) place))
    × ((place : ℕ) → place < length p.drives → get_or p.drives place 0 ≡ n → IsSome (reset_entry (kind_reset p.kind) place) → is_in n registers ≡ true)

-- ---- what a branch of constants has an entry for it assigns

or_right : (a b : Bool) → b ≡ true → (a || b) ≡ true
or_right true b t = refl
or_right false b t = t

or_left : (a b : Bool) → a ≡ true → (a || b) ≡ true
or_left true b t = refl
or_left false b t = absurd cc

module _ (these : ℕ → Bool) (place : ℕ) (is_one : these place ≡ true) where
  among : (ps values : List ℕ) → IsSome (entries ps values place) → list_any these ps ≡ true
  among [] values some = absurd cc
  among (p ∷ ps) values some = go (entries ps (drop 1 values) place) (among ps (drop 1 values)) (p == place) refl some
    where
      go : (o : Option ℕ) → (IsSome o → list_any these ps ≡ true) → (b : Bool) → (p == place) ≡ b
          → IsSome (or_else o (if b then Some (slice_index values 0) else None)) → (these p || list_any these ps) ≡ true
      go (Some v) later b e h = or_right (these p) (list_any these ps) (later refl)
      go None later true e h = or_left (these p) (list_any these ps) (ap these (eqb-true p place e) ∙ is_one)
      go None later false e h = absurd cc

  assigned : (s : Stmts) (seen : Seen) → assigns_constants s ≡ true → IsSome (effect seen s place) → must_assign (of_drivers these) s ≡ true
  assigned done seen constants some = absurd cc
  assigned (step null_of rest) seen constants some = go (effect (after_stmt seen null_of) rest place) (assigned rest (after_stmt seen null_of) constants) some
    where
      go : (o : Option ℕ) → (IsSome o → must_assign (of_drivers these) rest ≡ true) → IsSome (or_else o None) → must_assign (of_drivers these) rest ≡ true
      go (Some v) later h = later refl
      go None later h = absurd cc
  assigned (step (assign places v) rest) seen constants some =
      go (effect (after_stmt seen (assign places v)) rest place)
      (assigned rest (after_stmt seen (assign places v)) (and_parts (is_empty (value_reads v)) (assigns_constants rest) constants).1) some
    where
      go : (o : Option ℕ) → (IsSome o → must_assign (of_drivers these) rest ≡ true) → IsSome (or_else o (entries places (value_of seen v) place))
          → (list_any these places || must_assign (of_drivers these) rest) ≡ true
      go (Some w) later h = or_right (list_any these places) (must_assign (of_drivers these) rest) (later refl)
      go None later h = or_left (list_any these places) (must_assign (of_drivers these) rest) (among places (value_of seen v) h)
  assigned (step _ rest) seen constants some = absurd cc

-- ---- of a process with a reset

-- what its reset is made of
record IsMadeOf (p : FlatProcess) (o : Option Clocking) (reset : Reset) : Type 0 where
  clocked : Clocking
  part : ResetPart
  is : o ≡ Some clocked
  has : clocked.reset ≡ Some part
  entries_are : reset.entries ≡ part_effect p part.branch [] []

made_of : (p : FlatProcess) (o : Option Clocking) (ns : List ℕ) (reset : Reset) → kind_reset (core_kind p o ns) ≡ Some reset → IsMadeOf p o reset
made_of p None [] reset e = absurd cc
made_of p None (n ∷ ns) reset e = absurd cc
made_of p (Some c) ns reset e = go c.reset refl e
  where
    go : (r : Option ResetPart) → c.reset ≡ r → kind_reset (core_kind p (Some (record { test = c.test; branch = c.branch; reset = r })) ns) ≡ Some reset → IsMadeOf p (Some c) reset
    go None f e = absurd cc
    go (Some part) f e = record {
      clocked = c;
      part = part;
      is = refl;
      has = f;
      entries_are = cc;
    }

constants_of : (wide : Bool) (inputs : List ℕ) (body : Stmts) (c : Clocking) (r : ResetPart) → IsClocked wide inputs body c → c.reset ≡ Some r → assigns_constants r.branch ≡ true
constants_of wide inputs body c r (inl alone) e = let h : None ≡ Some r = sym alone.no_reset ∙ e in absurd cc
constants_of wide inputs body c r (inr (inl a)) e = let same : Some a.reset ≡ Some r = sym a.reset_is ∙ e in let b : a.reset ≡ r = cc in subst (λ (x : ResetPart). assigns_constants x.branch ≡ true) b a.constants
constants_of wide inputs body c r (inr (inr a)) e = let same : Some a.reset ≡ Some r = sym a.reset_is ∙ e in let b : a.reset ≡ r = cc in subst (λ (x : ResetPart). assigns_constants x.branch ≡ true) b a.constants

pub registers_of : (wide : Bool) (inputs : List ℕ) (p : FlatProcess) (drives : List Driver) (reset : Reset) (registers : List ℕ) → targets p ≡ driven drives
    → kind_reset (core_process wide inputs p).kind ≡ Some reset → ((n : ℕ) → is_in n registers ≡ must_assign (to_net drives n) (reset_branch p.body))
    → AreRegistersOf (core_process wide inputs p) registers
registers_of wide inputs p drives reset registers same has are n = (to, from)
  where
    made : IsMadeOf p (clocking wide inputs p.body) reset
    made = made_of p (clocking wide inputs p.body) (events p.body) reset has

    is_clocked : IsClocked wide inputs p.body made.clocked
    is_clocked = clocked_is wide inputs p.body made.clocked made.is

    branch_is : reset_branch p.body ≡ made.part.branch
    branch_is = resets_by wide inputs p.body made.clocked made.part is_clocked made.has

    entry : (place : ℕ) → place < length (targets p) → reset_entry (kind_reset (core_process wide inputs p).kind) place ≡ effect (seen_from p [] []) made.part.branch place
    entry place h =
        ap (λ (o : Option Reset). reset_entry o place) has ∙ ap (λ (xs : List (Option ℕ)). get_or xs place None) made.entries_are
        ∙ get_or-map-range_with_len (effect (seen_from p [] []) made.part.branch) 0 (length p.drivers) place place None (let e = length-map p.drivers (λ (d : FlatDriver). d.net) in omega arith) (omega arith)

    to : is_in n registers ≡ true → (place : ℕ) × (place < length (targets p)) × (get_or (targets p) place 0 ≡ n) × IsSome (reset_entry (kind_reset (core_process wide inputs p).kind) place)
    to here =
        let assigns : must_assign (to_net drives n) made.part.branch ≡ true = ap (must_assign (to_net drives n)) (sym branch_is) ∙ sym (are n) ∙ here in
        let (place, one, some) = each_run_assigns made.part.branch (covers drives n) (seen_from p [] []) assigns in
        let (small, at) = and_parts (nat_lt place (length (driven drives))) (get_or (driven drives) place 0 == n) one in
        let h : place < length (targets p) = subst (λ (xs : List ℕ). place < length xs) (sym same) (ltb-true place (length (driven drives)) small) in
        (place, h, ap (λ (xs : List ℕ). get_or xs place 0) same ∙ eqb-true (get_or (driven drives) place 0) n at, subst (λ (o : Option ℕ). IsSome o) (sym (entry place h)) some)

    from : (place : ℕ) → place < length (targets p) → get_or (targets p) place 0 ≡ n → IsSome (reset_entry (kind_reset (core_process wide inputs p).kind) place) → is_in n registers ≡ true
    from place h at some =
        let covered : covers drives n place ≡ true = (let g = lt_is place (length (driven drives)) (subst (λ (xs : List ℕ). place < length xs) same h) in
        and_from (nat_lt place (length (driven drives))) (get_or (driven drives) place 0 == n) g (eq-eqb (get_or (driven drives) place 0) n (ap (λ (xs : List ℕ). get_or xs place 0) (sym same) ∙ at))) in
        are n ∙ ap (must_assign (to_net drives n)) branch_is
        ∙ assigned (covers drives n) place covered made.part.branch (seen_from p [] []) (constants_of wide inputs p.body made.clocked made.part is_clocked made.has) (subst (λ (o : Option ℕ). IsSome o) (entry place h) some)
      where
        lt_is : (a b : ℕ) → a < b → nat_lt a b ≡ true
        lt_is a b l = elim (cases_Bool (nat_lt a b)) [ inl e ↦ e | inr e ↦ absurd (let k = ltb-false a b e in omega arith) ]
