-- Nets of one group that get values together.
use Rattle.std.proofs.Common.{◌≡◌, ◌<◌, ◌+◌, ℕ, List, [], Vec, get_or, length, ap, sym, subst, ◌∙◌, arith}
use Rattle.std.specs.Global.{Global}
use Rattle.std.proofs.lemmas.List.{length-map}
use Rattle.rtl_net_groups.specs.Groups.{Grouping}
use Rattle.rtl_net_groups.specs.Touching.{MarksRun}
use Rattle.rtl_net_groups.specs.Written.{IsOther, IsWritten}
use Rattle.rtl_kernel.specs.wakes.Woken.{AddsPlaces, wakers_of}
use Rattle.rtl_kernel.proofs.Grouped.{wakers_at}
use Rattle.rtl_net_groups.proofs.Replaced.{same_values}
use Rattle.rtl_levels.specs.declared.state.State.{State}
use Rattle.rtl_levels.specs.States.{GetValues, StandTogether}
use Rattle.rtl_levels.proofs.Marking.{marks_run, marks_same}
use Rattle.rtl_net_groups.proofs.Touching.{touches_run, touches_same}

module _ (readers : Grouping) (first : ℕ) (given : List ℕ) (a : State) where
  pub get_new : (b : State) → StandTogether readers first (length given) a → IsWritten first given a.values.items b.values.items → IsOther first given a.values.items → (listed : List ℕ)
      → listed ≡ get_or (wakers_of readers) first [] → length b.dirty.items ≡ length a.dirty.items → AddsPlaces listed a.dirty.items b.dirty.items
      → MarksRun first (first + length given) a.touched b.touched → GetValues readers first given a b
  get_new b T W one listed are lasting adds M = record {
    written = W;
    advances = record {
      as_many = W.as_many;
      marks = marks_run (wakers_of readers) a.values.items b.values.items first given a.dirty.items b.dirty.items one alike W lasting
          (subst (λ (xs : List ℕ). AddsPlaces xs a.dirty.items b.dirty.items) are adds);
      touched = touches_run a.touched b.touched first given a.values.items b.values.items W M;
    };
  }
    where
      in_nets : (n : ℕ) → n < length a.values.items → n < length readers.of_net
      in_nets n l = omega (arith, l, T.have_readers.each_net, length-map readers.of_net (λ (g : ℕ). get_or readers.listed g []))

      alike : (k : ℕ) → k < length given → get_or (wakers_of readers) (first + k) [] ≡ get_or (wakers_of readers) first []
      alike k l =
          wakers_at readers (first + k) (in_nets (first + k) (omega (arith, l, T.there))) ∙ ap (λ (g : ℕ). get_or readers.listed g []) (T.together k l)
          ∙ sym (wakers_at readers first (in_nets first (omega (arith, T.there, one.there))))

  -- those that they have
  pub get_same : (w : Vec ℕ Global) → IsWritten first given a.values.items w.items → ((k : ℕ) → k < length given → get_or a.values.items (first + k) 0 ≡ get_or given k 0)
      → GetValues readers first given a (record a { values = w })
  get_same w W same =
      let stay = same_values first given a.values.items w.items W same in
      let at : (n : ℕ) → get_or a.values.items n 0 ≡ get_or w.items n 0 = λ n. ap (λ (vs : List ℕ). get_or vs n 0) stay in
      record {
        written = W;
        advances = record {
          as_many = W.as_many;
          marks = marks_same _ _ a.values.items w.items a.dirty.items at;
          touched = touches_same a.touched a.values.items w.items at;
        };
      }
