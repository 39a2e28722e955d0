-- The cuts of a process whose entries are taken over.
use Rattle.std.proofs.Common.{◌≡◌, ℕ, ◌<◌, List, [], Option, Some, length, get_or, ap, sym, subst, ◌∙◌, arith}
use Rattle.std.specs.List.{range_with_len}
use Rattle.std.proofs.lemmas.List.{get_or_default, length-map}
use Rattle.rtl_model.proofs.basics.Lists.{get_or-map_within}
use Rattle.rtl_model.specs.nets.FlatNetlist.{process_at}
use Rattle.rtl_model.specs.simulation.Netlist.{Process, no_process, process}
use Rattle.rtl_model.proofs.simulation.Levels.{numbered}
use Rattle.rtl_model.proofs.simulation.Numbered.{Numbered}
use Rattle.rtl_eval.specs.Runs.{IsOf}
use Rattle.rtl_drives.specs.Outcomes.{Outcome}
use Rattle.rtl_net.specs.Core.{core}
use Rattle.rtl_net.specs.Nets.{NetlistView, flat}
use Rattle.rtl_net_groups.specs.Cuts.{AreCuts}
use Rattle.rtl_levels.specs.declared.schedule.Schedule.{Schedule}
use Rattle.rtl_levels.specs.declared.state.State.{State}
use Rattle.rtl_levels.specs.Kept.{IsPlanned}
use Rattle.rtl_levels.specs.Pieces.{AreCutFor}
use Rattle.rtl_levels.specs.Scheduled.{whole_first}
use Rattle.rtl_levels.specs.States.{HaveReaders, StandTogether}
use Rattle.rtl_levels.proofs.Settling.{one_place}
use Rattle.rtl_levels.proofs.Whole.{in_one_group, nets_there, targets_are}
use Rattle.rtl_levels.proofs.Wired.{driven_many, processes_many}

module _ (net : NetlistView) (schedule : Schedule) (P : IsPlanned (core net) schedule) (p : ℕ) (there : p < length net.processes) where
  abbrev drives : List ℕ
  drives = (process (core net) p).drives

  abbrev of_net : List ℕ
  of_net = schedule.readers.of_net

  L : Numbered (core net)
  L = numbered (core net) P.elaborated P.accepted

  in_core : p < length (core net).processes
  in_core = rw (processes_many net) there

  in_cuts : p < length schedule.cuts.cuts
  in_cuts = rw (P.cuts.each_process, length-map (core net).processes (λ (x : Process). x.drives)) in_core

  each_net : length of_net ≡ length (core net).start
  each_net = sym (length-map of_net (λ (g : ℕ). get_or schedule.readers.listed g [])) ∙ P.each_reader

  pub cut_for : AreCutFor schedule drives p
  cut_for = record {
    there = in_cuts;
    cuts = subst (λ (ns : List ℕ). AreCuts of_net ns (get_or schedule.cuts.cuts p []) (get_or schedule.cuts.numbers p []))
        (get_or-map_within (λ (x : Process). x.drives) (core net).processes p no_process [] in_core)
        (P.cuts.each p (rw (length-map (core net).processes (λ (x : Process). x.drives)) in_core));
    once = λ j k l m e. one_place (core net) L p j k l m e;
    nets = λ k d l. rw each_net (subst (λ (n : ℕ). n < length (core net).start) (get_or_default drives k 0 d l) (L.elaborated.wiring.targets_are_nets p k l));
  }

  -- if they are one cut
  module _ (o : Outcome) (own : IsOf (process_at (flat net) p) o) (whole : Option ℕ) (first : ℕ) (is : whole ≡ get_or schedule.wholes.items p whole) (some : whole ≡ Some first) where
    told : whole_first (get_or schedule.cuts.cuts p []) ≡ Some first
    told = sym (get_or-map_within whole_first schedule.cuts.cuts p [] whole in_cuts) ∙ sym (ap (λ (ws : List (Option ℕ)). get_or ws p whole) P.wholes) ∙ sym is ∙ some

    pub whole_are : range_with_len first (length o.entries) ≡ drives
    whole_are = sym (targets_are of_net drives _ _ cut_for.cuts first told ∙ ap (range_with_len first) (driven_many net p o own))

    pub whole_together : (s : State) → HaveReaders schedule.readers s → StandTogether schedule.readers first (length o.entries) s
    whole_together s I = record {
      have_readers = I;
      there = omega (arith, nets_there of_net drives _ _ cut_for.cuts first told (length of_net) cut_for.nets, driven_many net p o own, each_net, P.each_reader, I.each_net);
      together = λ k l. in_one_group of_net drives _ _ cut_for.cuts first told k (omega (arith, l, driven_many net p o own));
    }
