-- Moments settle in one way, so what two simulations answer and write is the same.
use Rattle.std.proofs.Common.{◌≡◌, ℕ, zero, suc, pred, ◌<◌, ◌≤◌, List, [], ◌∷◌, length, Ok, Err, Some, Result, ⊎_elim, refl, sym, ap, subst, ◌∙◌, arith}
use Rattle.std.specs.Prelude.{slice_get, slice_index}
use Rattle.std.proofs.lemmas.Bool.{cases_lt}
use Rattle.rtl_model.specs.simulation.Cycle.{State}
use Rattle.rtl_model.specs.simulation.Laws.{EveryOrderIsOne}
use Rattle.rtl_model.specs.simulation.Moments.{HasSettled, SettlesIn, IsMost}
use Rattle.rtl_net.specs.Nets.{NetlistView, SignalView}
use Rattle.byte_streams.specs.Written.{SinkState, TakesAll}
use Rattle.rtl_stim.specs.Stimuli.{StimulusView, moments, inputs_at}
use Rattle.rtl_simulation.specs.declared.summary.Summary.{Summary}
use Rattle.rtl_simulation.specs.declared.summary.RunFault.{RunFault}
use Rattle.rtl_simulation.specs.declared.summary.RunFault.TheVariants.{NoSettling, Memory, Output}
use Rattle.rtl_simulation.specs.Answered.{Answers, IsWhole, StopsAt}
use Rattle.rtl_net.specs.Core.{core}
use Rattle.rtl_simulation.specs.Simulated.{Settled, SettlesAs, AreMoments, NeverSettles}
use Rattle.rtl_simulation.specs.Traced.{text_so_far, whole_text}
use Rattle.rtl_simulation.specs.Laws.{EachOrderIsWrittenAlike, IsComplete, AreAlike}

-- lists of one length whose elements agree place by place
same_lists : (xs ys : List Settled) → length xs ≡ length ys
    → ((k : ℕ) (x y : Settled) → slice_get xs k ≡ Some x → slice_get ys k ≡ Some y → x ≡ y) → xs ≡ ys
same_lists [] [] long same = refl
same_lists [] (y ∷ ys) long same = absurd (omega (arith, long))
same_lists (x ∷ xs) [] long same = absurd (omega (arith, long))
same_lists (x ∷ xs) (y ∷ ys) long same =
    let first = same 0 x y refl refl in
    let rest = same_lists xs ys (omega (arith, long)) (λ k a b is also. same (suc k) a b is also) in
    λ i. first i ∷ rest i

-- there is an element at a place inside a list
element : (xs : List Settled) (k : ℕ) → k < length xs → (x : Settled) × (slice_get xs k ≡ Some x)
element [] k inside = absurd (omega (arith, inside))
element (x ∷ xs) zero inside = (x, refl)
element (x ∷ xs) (suc k) inside = element xs k (omega (arith, inside))

module _ (agree : EveryOrderIsOne) (net : NetlistView) (s : StimulusView) (limit : ℕ) where
  -- a moment settles in one way
  in_one_way : (m : ℕ) (x y : Settled) → SettlesAs net s m x → SettlesAs net s m y → x ≡ y
  in_one_way m x y X Y =
      let both = (agree (core net) (inputs_at s) m).1 x.deltas y.deltas X.state Y.state X.settled Y.settled in
      let values = sym X.values ∙ ap (λ (t : State). t.now) both.1 ∙ Y.values in
      λ i. record { deltas = both.0 i; values = values i }

  settles_within : (m k : ℕ) (t begun state : State) → HasSettled (core net) (inputs_at s) m k t → k ≤ limit → (N : NeverSettles net s limit m) → ⊥
  settles_within m k t begun state (from, is_begun, settles) within N =
      let same = (agree (core net) (inputs_at s) m).0 from N.begun is_begun N.is_begun in
      N.unsettled.never k within (subst (λ (b : State). SettlesIn (core net) b k) same settles.0)

  -- a moment that settles within the limit is none that doesn't
  not_both : (xs : List Settled) (m : ℕ) → AreMoments net s limit xs → m < length xs → NeverSettles net s limit m → ⊥
  not_both xs m A inside N =
      let x = (element xs m inside).0 in
      let is = (element xs m inside).1 in
      let settles = A.each m x is in
      settles_within m x.deltas settles.state N.begun N.state settles.settled (A.within m x is) N

  same_settled : (xs ys : List Settled) → AreMoments net s limit xs → AreMoments net s limit ys → length xs ≡ length ys → xs ≡ ys
  same_settled xs ys A B long = same_lists xs ys long (λ k x y is also. in_one_way k x y (A.each k x is) (B.each k y also))

  -- the greatest number of delta cycles is one
  at_most : (last a b : ℕ) → IsMost (core net) (inputs_at s) last a → IsMost (core net) (inputs_at s) last b → a ≤ b
  at_most last a b A B = let (m, within, takes) = A.met in B.at_most m a within takes

  module _ (names : List SignalView) (old one other : SinkState) where
    whole : (summary also : Summary) → IsWhole net names s limit old one summary → IsWhole net names s limit old other also → AreAlike old one other (Ok summary) (Ok also)
    whole summary also A B = record {
      same = λ i. Ok (record { moments = count i; most_deltas = most i });
      text = whole_text net names s A.all.settled;
      one_took = (A.all.text.whole A.all.intact).1;
      other_took = subst (λ (settled : List Settled). TakesAll old other (whole_text net names s settled)) (sym same) (B.all.text.whole B.all.intact).1;
    }
      where
        same : A.all.settled ≡ B.all.settled
        same = same_settled A.all.settled B.all.settled A.all.are B.all.are (A.all.all ∙ sym B.all.all)

        count : summary.moments ≡ also.moments
        count = A.all.count_is ∙ A.all.all ∙ sym B.all.all ∙ sym B.all.count_is

        most : summary.most_deltas ≡ also.most_deltas
        most =
            let last = pred summary.moments in
            let other_most = subst (λ (k : ℕ). IsMost (core net) (inputs_at s) k also.most_deltas) (ap pred (sym count)) B.most in
            let up = at_most last summary.most_deltas also.most_deltas A.most other_most in
            let down = at_most last also.most_deltas summary.most_deltas other_most A.most in
            omega (arith, up, down)

    stops : (time also : ℕ) → StopsAt net names s limit old one time → StopsAt net names s limit old other also
        → AreAlike old one other (Err (NoSettling time)) (Err (NoSettling also))
    stops time also A B = record {
      same = λ i. Err (NoSettling (times i));
      text = text_so_far net names s A.settled;
      one_took = (A.text.whole A.intact).1;
      other_took = subst (λ (settled : List Settled). TakesAll old other (text_so_far net names s settled)) (sym same) (B.text.whole B.intact).1;
    }
      where
        none_less : length A.settled < length B.settled → ⊥
        none_less less = not_both B.settled (length A.settled) B.are less A.never

        none_more : length B.settled < length A.settled → ⊥
        none_more more = not_both A.settled (length B.settled) A.are more B.never

        long : length A.settled ≡ length B.settled
        long =
            ⊎_elim (λ less. absurd (none_less less))
            (λ least. ⊎_elim (λ more. absurd (none_more more)) (λ most. omega (arith, least, most)) (cases_lt (length B.settled) (length A.settled)))
            (cases_lt (length A.settled) (length B.settled))

        same : A.settled ≡ B.settled
        same = same_settled A.settled B.settled A.are B.are long

        times : time ≡ also
        times = sym A.is_at ∙ ap (λ (settled : List Settled). slice_index (moments s) (length settled)) same ∙ B.is_at

    alike : (answer also : Result Summary RunFault) → Answers net names s limit old one answer → Answers net names s limit old other also
        → IsComplete answer → IsComplete also → AreAlike old one other answer also
    alike (Ok summary) (Ok also) A B is too = whole summary also A B
    alike (Err (NoSettling time)) (Err (NoSettling also)) A B is too = stops time also A B
    alike (Ok summary) (Err (NoSettling time)) A B is too = absurd (not_both A.all.settled (length B.settled) A.all.are (let all = A.all.all in let more = B.more in omega (arith, all, more)) B.never)
    alike (Err (NoSettling time)) (Ok summary) A B is too = absurd (not_both B.all.settled (length A.settled) B.all.are (let all = B.all.all in let more = A.more in omega (arith, all, more)) A.never)
    alike (Err Memory) also A B is too = absurd is
    alike (Err Output) also A B is too = absurd is
    alike (Ok summary) (Err Memory) A B is too = absurd too
    alike (Ok summary) (Err Output) A B is too = absurd too
    alike (Err (NoSettling time)) (Err Memory) A B is too = absurd too
    alike (Err (NoSettling time)) (Err Output) A B is too = absurd too

pub each_order_is_written_alike : EveryOrderIsOne → EachOrderIsWrittenAlike
each_order_is_written_alike agree net names s limit old one other answer also A B is too = alike agree net s limit names old one other answer also A B is too
