-- Levels by nets of small netlists.
use Rattle.std.proofs.Common.{◌≡◌, ℕ, zero, suc, ◌+◌, true, [], ◌∷◌, slice_index, Some, None, refl, arith, inl, inr, ◌⊎◌, Contains}
use Rattle.rtl_model.proofs.basics.Lists.{Contains-one}
use Rattle.rtl_model.specs.nets.CoreNetlist.{core_netlist}
use Rattle.rtl_model.specs.simulation.Netlist.{HasPlace, IsCombinational, process}
use Rattle.rtl_model.specs.simulation.Accepted.{IsResetBy, LooksAt}
use Rattle.rtl_model.specs.simulation.NetLevels.{AreLevelsByNets}
use Rattle.rtl_definition_examples.specs.Nets.{ring}
use Rattle.rtl_definition_examples.specs.ByNets.{widened, ripple, LevelsOfRipple, LoopsOfNets, reset_in_turn, own_reset, LevelsOfResets}
use Rattle.rtl_model.proofs.nets.Widened.{wide_accepts_all}
use Rattle.rtl_definition_examples.specs.Rows.{sibling}
use Rattle.rtl_definition_examples.proofs.Sound.{sound_by}
use Rattle.rtl_definition_examples.proofs.DecidingByNets.{levels_by, no_net_loop}

ripple_levels : AreLevelsByNets (core_netlist ripple) (Some 5 ∷ []) (0 ∷ 4 ∷ 3 ∷ 2 ∷ 1 ∷ []) 5
ripple_levels = levels_by (core_netlist ripple) (Some 5 ∷ []) (0 ∷ 4 ∷ 3 ∷ 2 ∷ 1 ∷ []) 5 refl

pub levels_of_ripple : LevelsOfRipple
levels_of_ripple = record {
  levels = ripple_levels;
  not_by_reads = λ is. let l = is.1.none_above 1 4 (1, omega arith, refl) (ripple_levels.of_nets 1 (omega arith)) in omega arith;
  judged = (refl, inl (0 ∷ [], record { feeder = (omega arith, refl); fed = (omega arith, refl); place = 0; drives = omega arith; wakes = (1, omega arith, refl) }));
}

ring_looks : LooksAt (core_netlist (widened ring)) 0 2 × LooksAt (core_netlist (widened ring)) 2 1 × LooksAt (core_netlist (widened ring)) 1 0
ring_looks = (
  record { driver = 0; place = 0; drives = omega arith; net_is = refl; looks = inl ((omega arith, refl), (0, omega arith, refl)) },
  record { driver = 2; place = 0; drives = omega arith; net_is = refl; looks = inl ((omega arith, refl), (0, omega arith, refl)) },
  record { driver = 1; place = 0; drives = omega arith; net_is = refl; looks = inl ((omega arith, refl), (0, omega arith, refl)) },
)

-- x doesn't look at y
ring_not : LooksAt (core_netlist (widened ring)) 0 1 → ⊥
ring_not l = go l.driver l.place l.drives l.net_is l.looks
  where
    looking : (IsCombinational (core_netlist (widened ring)) 0 × Contains {X = ℕ} (2 ∷ []) 1) ⊎ IsResetBy (core_netlist (widened ring)) 0 0 1 → ⊥
    looking (inl (c, looks)) = let e = Contains-one 2 1 looks in cc
    looking (inr (((r, has, at), driven), some)) = cc

    go : (p place : ℕ) → HasPlace (core_netlist (widened ring)) p place → slice_index (process (core_netlist (widened ring)) p).drives place ≡ 0
        → (IsCombinational (core_netlist (widened ring)) p × Contains ((process (core_netlist (widened ring)) p).looks place) 1) ⊎ IsResetBy (core_netlist (widened ring)) p place 1 → ⊥
    go zero zero h t looks = looking looks
    go zero (suc place) h t looks = absurd (omega arith)
    go (suc zero) zero h t looks = cc
    go (suc zero) (suc place) h t looks = absurd (omega arith)
    go (suc (suc zero)) zero h t looks = cc
    go (suc (suc zero)) (suc place) h t looks = absurd (omega arith)
    go (suc (suc (suc p))) place h t looks = absurd (omega arith)

pub loops_of_nets : LoopsOfNets
loops_of_nets = record {
  loop = (refl, (ring_looks.0, (ring_looks.1, ring_looks.2)));
  other_way = λ h. ring_not h.0;
  by_processes = let sound = sound_by sibling (λ p. p + 1) refl in (wide_accepts_all sibling sound.in_range sound.connected refl sound.accepted).1;
}

in_turn_levels : AreLevelsByNets reset_in_turn (Some 1 ∷ Some 2 ∷ Some 3 ∷ []) (0 ∷ 0 ∷ 1 ∷ 2 ∷ 3 ∷ 0 ∷ []) 3
in_turn_levels = levels_by reset_in_turn (Some 1 ∷ Some 2 ∷ Some 3 ∷ []) (0 ∷ 0 ∷ 1 ∷ 2 ∷ 3 ∷ 0 ∷ []) 3 refl

own_levels : AreLevelsByNets own_reset (Some 1 ∷ []) (0 ∷ 0 ∷ 0 ∷ 1 ∷ []) 1
own_levels = levels_by own_reset (Some 1 ∷ []) (0 ∷ 0 ∷ 0 ∷ 1 ∷ []) 1 refl

pub levels_of_resets : LevelsOfResets
levels_of_resets = record {
  in_turn = in_turn_levels;
  bound_in_turn = refl;
  own = own_levels;
  no_loop = no_net_loop own_reset (0 ∷ 0 ∷ 0 ∷ 1 ∷ []) refl;
  judged = (refl, inr (0, 2, ((record { net = 2; value = 3; entries = None ∷ Some 2 ∷ []; gates = true }, refl, refl), (0, 0, omega arith, refl))));
}
