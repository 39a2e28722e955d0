-- States whose changes are have_readers.
use Rattle.std.proofs.Common.{ℕ, refl, sym, ◌∙◌}
use Rattle.rtl_model.specs.simulation.Range.{IsValuation}
use Rattle.rtl_model.specs.simulation.Netlist.{Netlist}
use Rattle.rtl_net_groups.specs.Groups.{Grouping}
use Rattle.rtl_levels.specs.declared.schedule.Schedule.{Schedule}
use Rattle.rtl_levels.specs.declared.state.State.{State}
use Rattle.rtl_levels.specs.Kept.{IsPlanned, IsStateOf}
use Rattle.rtl_levels.specs.States.{Advances, HaveReaders, StandTogether}
use Rattle.rtl_levels.proofs.Marking.{marks_same, marks_then, marks_wider}
use Rattle.rtl_levels.proofs.Sweeping.{readers_below}
use Rattle.rtl_net_groups.proofs.Touching.{touches_none, touches_then}

module _ (readers : Grouping) where
  pub advances_none : (nets : ℕ → Type 0) (a : State) → Advances readers nets a a
  advances_none nets a = record {
    as_many = refl;
    marks = marks_same _ nets a.values.items a.values.items a.dirty.items (λ n. refl);
    touched = touches_none a.touched a.values.items;
  }

  pub advances_then : (nets : ℕ → Type 0) (a b c : State) → Advances readers nets a b → Advances readers nets b c → Advances readers nets a c
  advances_then nets a b c F G = record {
    as_many = G.as_many ∙ F.as_many;
    marks = marks_then _ nets a.values.items b.values.items c.values.items a.dirty.items b.dirty.items c.dirty.items F.marks G.marks;
    touched = touches_then a.touched b.touched c.touched a.values.items b.values.items c.values.items F.touched G.touched;
  }

  pub advances_wider : (nets more : ℕ → Type 0) → ((n : ℕ) → nets n → more n) → (a b : State) → Advances readers nets a b → Advances readers more a b
  advances_wider nets more wider a b F = record {
    as_many = F.as_many;
    marks = marks_wider _ nets more wider a.values.items b.values.items a.dirty.items b.dirty.items F.marks;
    touched = F.touched;
  }

  module _ (nets : ℕ → Type 0) (a b : State) (F : Advances readers nets a b) where
    pub still_have_readers : HaveReaders readers a → HaveReaders readers b
    still_have_readers I = record {
      each_net = I.each_net ∙ sym F.as_many;
      below = λ n k f. rw (F.marks.as_many) (I.below n k f);
      each_chunk = F.touched.nets_stay ∙ I.each_chunk ∙ sym F.as_many;
    }

    pub still_together : (first many : ℕ) → StandTogether readers first many a → StandTogether readers first many b
    still_together first many T = record { have_readers = still_have_readers T.have_readers; there = rw (F.as_many) T.there; together = T.together }

module _ (net : Netlist) (schedule : Schedule) where
  pub have_readers : IsPlanned net schedule → (s : State) → IsStateOf net schedule s → HaveReaders schedule.readers s
  have_readers P s S = record {
    each_net = P.each_reader ∙ sym S.in_range.each_net;
    below = readers_below net schedule P _ S.each_rank;
    each_chunk = S.each_chunk;
  }

  pub still_state : (nets : ℕ → Type 0) (a b : State) → IsStateOf net schedule a → Advances schedule.readers nets a b → IsValuation net b.values.items → IsStateOf net schedule b
  still_state nets a b S F V = record { in_range = V; each_rank = F.marks.as_many ∙ S.each_rank; each_chunk = F.touched.nets_stay ∙ S.each_chunk ∙ sym F.as_many }
