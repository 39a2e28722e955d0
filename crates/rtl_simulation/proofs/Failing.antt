-- What a watch was told of a moment that doesn't settle.
use Rattle.std.proofs.Common.{◌≡◌, ℕ, ◌<◌, List, length, sym, subst, ap, ◌∙◌, arith}
use Rattle.std.specs.Prelude.{slice_index}
use Rattle.rtl_model.specs.simulation.Moments.{Begun}
use Rattle.rtl_net.specs.Core.{core}
use Rattle.rtl_net.specs.Nets.{SignalView}
use Rattle.rtl_stim.specs.Stimuli.{moments, inputs_at}
use Rattle.byte_streams.specs.Stands.{Stand}
use Rattle.rtl_simulation.specs.declared.summary.RunFault.{RunFault}
use Rattle.rtl_simulation.specs.Engines.{CourseView, IsStuck}
use Rattle.rtl_simulation.specs.Answered.{Fails, StopsAt}
use Rattle.rtl_simulation.specs.Watched.{StandsFrom, WasTold}
use Rattle.rtl_simulation.proofs.Stands.{HasHeard}
use Rattle.byte_streams.specs.Written.{SinkState}

module _ (r : CourseView) (m time : ℕ) (Tells : (before now : List ℕ) → Type 0) (fault : RunFault) (S : IsStuck r m time Tells fault) where
  pub told_stuck : (Told Now : List Stand → Type 0) (Stuck : List Stand → (before now : List ℕ) → (time : ℕ) → Type 0) → (H : HasHeard (StandsFrom r.net r.stimulus) Told m)
      → m < length (moments r.stimulus) → slice_index (moments r.stimulus) m ≡ time
      → ((before now : List ℕ) → Tells before now → Stuck H.stands before now time) → WasTold r.net r.stimulus r.limit Now Stuck fault
  told_stuck Told Now Stuck H there is_at stuck =
      subst (λ (f : RunFault). WasTold r.net r.stimulus r.limit Now Stuck f) (sym S.is) (record {
        stands = H.stands;
        are = H.are;
        more = let many = H.many in omega (arith, there, many);
        is_at = ap (λ (k : ℕ). slice_index (moments r.stimulus) k) H.many ∙ is_at;
        never = record {
          begun = S.never.begun;
          is_begun = subst (λ (k : ℕ). Begun (core r.net) (inputs_at r.stimulus) k S.never.begun) (sym H.many) S.never.is_begun;
          state = S.never.state;
          unsettled = S.never.unsettled;
        };
        stuck = stuck S.never.state.before S.never.state.now S.tells;
      })

  pub stops_stuck : (names : List SignalView) (old new : SinkState) → StopsAt r.net names r.stimulus r.limit old new time → Fails r.net names r.stimulus r.limit old new fault
  stops_stuck names old new stops = subst (λ (f : RunFault). Fails r.net names r.stimulus r.limit old new f) (sym S.is) stops
