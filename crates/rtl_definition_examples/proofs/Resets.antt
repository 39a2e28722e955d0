-- Which nets resets may be, and what registers do.
use Rattle.std.proofs.Common.{◌≡◌, ℕ, zero, suc, Bool, true, false, ◌==◌, List, [], ◌∷◌, Option, Some, None, IsTrue, refl, sym, ap, ◌∙◌, subst, arith, inl, inr, Contains}
use Rattle.vhdl_values.specs.declared.scalar.Nine.{Nine}
use Rattle.vhdl_values.specs.declared.scalar.Nine.TheVariants.{Zero, One}
use Rattle.vhdl_values.specs.Scalar.{code_of}
use Rattle.rtl_model.specs.bodies.Copies.{passed_on}
use Rattle.rtl_model.specs.nets.FlatNetlist.{FlatNetlist}
use Rattle.rtl_model.specs.nets.CoreNetlist.{core_netlist}
use Rattle.rtl_model.specs.simulation.Netlist.{Clocked, Combinational, Copy, Driver, Edge, HasReset, IsCombinational, kind_reset, Netlist, process, Reset, reset_entry, reset_of, Rising, Source, sources_of}
use Rattle.rtl_model.specs.simulation.Accepted.{IsFault, MixedProcess}
use Rattle.rtl_model.specs.simulation.Calm.{copies_calm, copies_made, Copies, follows, follows_inputs, FollowsInputs, IsCalm, IsCombinationalNet, IsFromOutside, IsMadeOfInputs, IsRegister, ends_reset, reset_by_inputs, resets_to_these, starts_without, StartsQuietly}
use Rattle.rtl_model.specs.simulation.Elaborated.{IsWired}
use Rattle.rtl_model.proofs.basics.Lists.{Contains-first, Contains-none}
use Rattle.rtl_definition_examples.specs.Resets.{inverted, in_turn, of_inputs, of_clock, before_edge, leaves_out}
use Rattle.rtl_definition_examples.specs.Resets.{CopiesAsResets, RegistersAsResets, InputsAsResets, RegistersOfResets}
use Rattle.rtl_definition_examples.proofs.Deciding.{clock_is, is_clock}
use Rattle.rtl_definition_examples.proofs.DecidingByNets.{levels_by}
use Rattle.rtl_definition_examples.proofs.Sound.{fits, elaborated_by}

module _ (net : FlatNetlist) (fit : fits net ≡ true) where
  abbrev core : Netlist
  core = core_netlist net

  wired : IsWired core
  wired = (elaborated_by net fit).wiring

  outside : (n : ℕ) → sources_of core n ≡ [] → is_clock core n ≡ false → IsFromOutside core n
  outside n none no_clock = (
    λ (p, place, h, t). Contains-none (Driver p place) (subst (λ (xs : List Source). Contains xs (Driver p place)) none (subst (λ (m : ℕ). Contains (sources_of core m) (Driver p place)) t (wired.drivers_are_sources p place h))),
    λ c. let e = clock_is core n c in cc,
  )

  -- the net of this driver alone
  module _ (n p place : ℕ) (is : sources_of core n ≡ Driver p place ∷ []) where
    same : (q qp : ℕ) → sources_of core n ≡ Driver q qp ∷ [] → (q ≡ p) × (qp ≡ place)
    same q qp e = let f : Driver q qp ∷ [] ≡ Driver p place ∷ [] = sym e ∙ is in (cc, cc)

    not_outside : IsFromOutside core n → ⊥
    not_outside f =
        let (h, t) = wired.sources_are_drivers n p place (subst (λ (xs : List Source). Contains xs (Driver p place)) (sym is) (Contains-first (Driver p place) [])) in
        f.0 (p, place, h, t)

    -- of a clocked process
    module _ (clock : ℕ) (edge : Edge) (reset : Option Reset) (clocked : (process core p).kind ≡ Clocked clock edge reset) where
      not_combinational : (q qp : ℕ) → IsCombinationalNet core n q qp → ⊥
      not_combinational q qp c =
          let e : (process core p).kind ≡ Combinational = subst (λ (x : ℕ). (process core x).kind ≡ Combinational) (same q qp c.1).0 c.0.1 in
          cc

      not_following : FollowsInputs core n → ⊥
      not_following (inl f) = not_outside f
      not_following (inr (q, qp, c, all)) = not_combinational q qp c

    -- of a combinational one
    not_clocked : IsCombinational core p → (q qp : ℕ) → IsRegister core n q qp → ⊥
    not_clocked c q qp ((clock, (edge, (reset, e))), h) =
        let f : (process core p).kind ≡ Clocked clock edge reset = subst (λ (x : ℕ). (process core x).kind ≡ Clocked clock edge reset) (same q qp h).0 e in
        let g = c.1 in
        cc

    not_from_outside : (m : ℕ) → Contains ((process core p).looks place) m → (IsFromOutside core m → ⊥) → FollowsInputs core n → ⊥
    not_from_outside m looks not (inl f) = not_outside f
    not_from_outside m looks not (inr (q, qp, c, all)) =
        let (a, b) = same q qp c.1 in
        not (all m (subst (λ (x : ℕ). Contains ((process core x).looks qp) m) (sym a) (subst (λ (x : ℕ). Contains ((process core p).looks x) m) (sym b) looks)))

  not_made : (n p place clock : ℕ) (edge : Edge) (reset : Option Reset) → sources_of core n ≡ Driver p place ∷ [] → (process core p).kind ≡ Clocked clock edge reset → IsMadeOfInputs core n → ⊥
  not_made n p place clock edge reset is clocked (follows m f) = not_following n p place is clock edge reset clocked f
  not_made n p place clock edge reset is clocked (copies_made m q qp copy c copies made) = not_combinational n p place is clock edge reset clocked q qp c

  -- a register that is reset to another value, by what isn't made of inputs
  register_not_calm : (n p place clock value : ℕ) (edge : Edge) (reset : Reset) (these : ℕ → Bool) → sources_of core n ≡ Driver p place ∷ [] → (process core p).kind ≡ Clocked clock edge (Some reset)
      → reset_entry (Some reset) place ≡ Some value → these value ≡ false → (IsMadeOfInputs core reset.net → ⊥) → IsCalm core n these → ⊥
  register_not_calm n p place clock value edge reset these is clocked entry other not (follows_inputs m those f) = not_following n p place is clock edge (Some reset) clocked f
  register_not_calm n p place clock value edge reset these is clocked entry other not (ends_reset m those (q, qp, r, all)) =
      let (a, b) = same n p place is q qp r.1 in
      let e : reset_entry (reset_of core q) qp ≡ reset_entry (reset_of core p) place = (λ i. reset_entry (reset_of core (a i)) (b i)) in
      let f : reset_of core p ≡ Some reset = ap kind_reset clocked in
      let g = all value (e ∙ ap (λ (o : Option Reset). reset_entry o place) f ∙ entry) in
      cc
  register_not_calm n p place clock value edge reset these is clocked entry other not (reset_by_inputs m q qp those by r has made) =
      let f : Some by ≡ Some reset = sym has ∙ ap (λ (x : ℕ). reset_of core x) (same n p place is q qp r.1).0 ∙ ap kind_reset clocked in
      let e : by ≡ reset = cc in
      not (subst (λ (x : Reset). IsMadeOfInputs core x.net) e made)
  register_not_calm n p place clock value edge reset these is clocked entry other not (copies_calm m q qp those copy c copies quiet calm) =
      not_combinational n p place is clock edge (Some reset) clocked q qp c

  -- what looks at what isn't from outside is calm by its copy alone
  by_copy : (n p place m : ℕ) (these : ℕ → Bool) → IsCombinational core p → sources_of core n ≡ Driver p place ∷ [] → Contains ((process core p).looks place) m → (IsFromOutside core m → ⊥)
      → ((copy : Copy) → Copies core p place copy → StartsQuietly core copy.net (λ value. these (copy.passed value)) → ⊥) → IsCalm core n these → ⊥
  by_copy n p place m these c is looks not loud (follows_inputs k those f) = not_from_outside n p place is m looks not f
  by_copy n p place m these c is looks not loud (ends_reset k those (q, qp, r, all)) = not_clocked n p place is c q qp r
  by_copy n p place m these c is looks not loud (reset_by_inputs k q qp those other r has made) = not_clocked n p place is c q qp r
  by_copy n p place m these c is looks not loud (copies_calm k q qp those copy d copies quiet calm) =
      let (a, b) = same n p place is q qp d.1 in
      loud copy (subst (λ (x : ℕ). (process core p).copies x ≡ Some copy) b (subst (λ (x : ℕ). (process core x).copies qp ≡ Some copy) a copies)) quiet

  -- this is process p's reset, whose net is no clock and isn't calm
  unsteady : (p : ℕ) (reset : Reset) → IsTrue net.wide → HasReset core p reset → is_clock core reset.net ≡ false → (IsCalm core reset.net (λ value. value == reset.value) → ⊥) → IsFault core (MixedProcess p)
  unsteady p reset wide has other not = inr (record {
    is_wide = wide;
    reset = reset;
    is_reset = has;
    no_clock = λ c. let e = clock_is core reset.net c in cc;
    not_calm = not;
  })

-- with this net, value and entry, in front of the edge
abbrev at : (net value entry : ℕ) → Reset
at net value entry = record { net = net; value = value; entries = Some entry ∷ []; gates = true }

-- s is reset by an input, and n copies it
copy_calm : (start : ℕ) (of_reset : Nine) (fit : fits (inverted start of_reset) ≡ true) → StartsQuietly (core_netlist (inverted start of_reset)) 3 (λ value. passed_on true value == 2)
    → IsCalm (core_netlist (inverted start of_reset)) 4 (λ value. value == 2)
copy_calm start of_reset fit quiet =
    copies_calm 4 1 0 (λ value. value == 2) (record { net = 3; passed = passed_on true }) ((omega arith, refl), refl) refl quiet
    (reset_by_inputs 3 0 0 (λ value. passed_on true value == 2) (at 1 3 (code_of of_reset)) ((0, (Rising, (_, refl))), refl) refl (follows 1 (inl (outside (inverted start of_reset) fit 1 refl refl))))

pub copies_as_resets : CopiesAsResets
copies_as_resets = record {
  calm = copy_calm 0 One refl (starts_without refl);
  held_by_reset = copy_calm 3 One refl (resets_to_these (0, 0, ((0, (Rising, (_, refl))), refl), λ value e. let same : 3 ≡ value = cc in subst (λ (v : ℕ). IsTrue (passed_on true v == 2)) same refl));
  released_at_once = unsteady (inverted 3 Zero) refl 2 (at 4 2 2) refl refl refl (by_copy (inverted 3 Zero) refl 4 1 0 3 (λ value. value == 2) (omega arith, refl) refl (0, omega arith, refl) (not_outside (inverted 3 Zero) refl 3 0 0 refl) loud);
  levels = levels_by (core_netlist (inverted 0 One)) (None ∷ Some 1 ∷ Some 2 ∷ []) (0 ∷ 0 ∷ 0 ∷ 0 ∷ 1 ∷ 2 ∷ []) 2 refl;
  bound_is = refl;
}
  where
    net : Netlist
    net = core_netlist (inverted 3 Zero)

    -- s starts with '1', and is reset to '0'
    of_copy : StartsQuietly net 3 (λ value. passed_on true value == 2) → ⊥
    of_copy (starts_without e) = cc
    of_copy (resets_to_these (p, place, r, all)) =
        let (a, b) = same (inverted 3 Zero) refl 3 0 0 refl p place r.1 in
        let entry : reset_entry (reset_of net p) place ≡ Some 2 = subst (λ (x : ℕ). reset_entry (reset_of net x) place ≡ Some 2) (sym a) (subst (λ (x : ℕ). reset_entry (reset_of net 0) x ≡ Some 2) (sym b) refl) in
        let e = all 2 entry in
        cc

    loud : (copy : Copy) → Copies net 1 0 copy → StartsQuietly net copy.net (λ value. copy.passed value == 2) → ⊥
    loud copy is quiet =
        let e : record { net = 3; passed = passed_on true } ≡ copy = cc in
        of_copy (subst (λ (c : Copy). StartsQuietly net c.net (λ value. c.passed value == 2)) (sym e) quiet)

pub registers_as_resets : RegistersAsResets
registers_as_resets = record {
  no_reset = ends_reset 1 (λ value. value == 3) (0, 0, ((0, (Rising, (None, refl))), refl), λ value e. cc);
  reset_to_another = unsteady (in_turn Zero) refl 2 (at 2 3 2) refl refl refl
      (register_not_calm (in_turn Zero) refl 2 1 0 0 2 Rising (at 1 3 2) (λ value. value == 3) refl refl refl refl (not_made (in_turn Zero) refl 1 0 0 0 Rising None refl refl));
  reset_to_it = ends_reset 2 (λ value. value == 3) (1, 0, ((0, (Rising, (_, refl))), refl), λ value e. let same : 3 ≡ value = cc in subst (λ (v : ℕ). IsTrue (v == 3)) same refl);
}

pub inputs_as_resets : InputsAsResets
inputs_as_resets = record {
  calm = reset_by_inputs 4 1 0 (λ value. value == 3) (at 3 3 3) ((0, (Rising, (_, refl))), refl) refl (follows 3 (inr (0, 0, ((omega arith, refl), refl), from_outside)));
  levels = levels_by (core_netlist of_inputs) (Some 1 ∷ Some 2 ∷ Some 3 ∷ []) (0 ∷ 0 ∷ 0 ∷ 1 ∷ 2 ∷ 3 ∷ []) 3 refl;
  clock_in_it = unsteady of_clock refl 1 (at 3 3 3) refl refl refl
      (by_copy of_clock refl 3 0 0 0 (λ value. value == 3) (omega arith, refl) refl (1, omega arith, refl) (λ f. f.1 (1, (Rising, (_, refl)))) (λ copy is quiet. cc));
}
  where
    from_outside : (m : ℕ) → Contains {X = ℕ} (1 ∷ 2 ∷ []) m → IsFromOutside (core_netlist of_inputs) m
    from_outside m (zero, l, e) = subst (IsFromOutside (core_netlist of_inputs)) e (outside of_inputs refl 1 refl refl)
    from_outside m (suc zero, l, e) = subst (IsFromOutside (core_netlist of_inputs)) e (outside of_inputs refl 2 refl refl)
    from_outside m (suc (suc k), l, e) = absurd (omega arith)

pub registers_of_resets : RegistersOfResets
registers_of_resets = record {
  levels = levels_by (leaves_out before_edge) (None ∷ Some 1 ∷ []) (0 ∷ 0 ∷ 0 ∷ 0 ∷ 1 ∷ 0 ∷ []) 1 refl;
  asserted = refl;
  left_out = refl;
  released = refl;
  held_back = refl;
  released_behind = refl;
  not_held_back = refl;
}
