-- A simulation begins, goes on, and stops.
use Rattle.std.proofs.Common.{◌≡◌, ℕ, suc, ◌+◌, ◌<◌, Bool, List, [], ◌∷◌, ◌++◌, length, get_or, inl, inr, refl, sym, ap, subst, ◌∙◌, append-nil, arith}
use Rattle.std.specs.Prelude.{if◌then◌else◌}
use Rattle.std.proofs.KnownBytes.{Appends-nil}
use Rattle.byte_streams.specs.Written.{SinkState, IsIntact, Goes}
use Rattle.byte_streams.proofs.Writing.{Goes-append}
use Rattle.rtl_net.specs.Nets.{SignalView}
use Rattle.rtl_vcd.specs.Header.{header_text}
use Rattle.rtl_vcd.specs.Trace.{first_text, moment_text, end_text, are_some, changes}
use Rattle.rtl_stim.specs.Stimuli.{moments}
use Rattle.rtl_stim.proofs.Next.{each_begins_at_zero}
use Rattle.rtl_simulation.specs.declared.progress.Progress.{Progress}
use Rattle.rtl_simulation.specs.Simulated.{Settled, SettlesAs, AreMoments, NeverSettles}
use Rattle.rtl_simulation.specs.Traced.{text_so_far, whole_text}
use Rattle.rtl_simulation.specs.Answered.{WritesAll, StopsAt, LeavesBeginning}
use Rattle.rtl_simulation.specs.Engines.{CourseView, ComesTo}
use Rattle.rtl_simulation.specs.Progress.{last_values, last_printed_of, HasCome, IsNextMoment}
use Rattle.rtl_simulation.proofs.MomentTexts.{text_more, last_more, text_end, values_more}
use Rattle.rtl_simulation.proofs.Moments.{are_more, are_none}
use Rattle.rtl_simulation.proofs.Stands.{one_more}

-- what a moment comes to, as one of several
abbrev as_settled : (r : CourseView) (m : ℕ) (values : List ℕ) → ComesTo r m values → Settled
as_settled r m values C = record { deltas = C.deltas; values = values }

module _ (r : CourseView) (names : List SignalView) (start : SinkState) where
  pub nothing_leaves : LeavesBeginning r.net names r.stimulus r.limit start start
  nothing_leaves = record {
    settled = [];
    are = are_none r.net r.stimulus r.limit;
    text = _;
    is = inl refl;
    taken = (0, Appends-nil start.taken);
  }

  -- ---- the first moment

  -- nothing but a beginning of the header
  pub header_leaves : (new : SinkState) → IsIntact start → Goes start new (header_text r.net.scopes names) → LeavesBeginning r.net names r.stimulus r.limit start new
  header_leaves new intact text = record { settled = []; are = are_none r.net r.stimulus r.limit; text = _; is = inl refl; taken = text.beginning intact }

  module _ (mid : SinkState) (header : Goes start mid (header_text r.net.scopes names)) where
    pub never_begins : IsIntact mid → NeverSettles r.net r.stimulus r.limit 0 → StopsAt r.net names r.stimulus r.limit start mid 0
    never_begins intact never = record {
      settled = [];
      are = are_none r.net r.stimulus r.limit;
      more = (each_begins_at_zero r.stimulus).0;
      is_at = (each_begins_at_zero r.stimulus).1;
      never = never;
      text = header;
      intact = intact;
    }

    module _ (new : SinkState) (values : List ℕ) (C : ComesTo r 0 values) (text : Goes mid new (first_text names values)) where
      first_are : AreMoments r.net r.stimulus r.limit (as_settled r 0 values C ∷ [])
      first_are =
          are_more r.net r.stimulus r.limit [] (as_settled r 0 values C) (are_none r.net r.stimulus r.limit) (each_begins_at_zero r.stimulus).0 C.settles C.within

      first_goes : Goes start new (text_so_far r.net names r.stimulus (as_settled r 0 values C ∷ []))
      first_goes =
          subst (λ (t : List ℕ). Goes start new t) (sym (append-nil _))
          (Goes-append start mid new (header_text r.net.scopes names) (first_text names values) header text)

      -- the values at 0 don't go out as a whole, or memory is refused behind them
      pub first_leaves : IsIntact start → LeavesBeginning r.net names r.stimulus r.limit start new
      first_leaves intact = record {
        settled = as_settled r 0 values C ∷ [];
        are = first_are;
        text = _;
        is = inl refl;
        taken = first_goes.beginning intact;
      }

      pub begins : (p : Progress) → IsIntact new → p.now ≡ 0 → p.shown.items ≡ values → p.printed ≡ 0 → p.moments ≡ 1 → HasCome r names start new p
      begins p intact now shown printed count = record {
        first = as_settled r 0 values C;
        rest = [];
        count = sym count;
        are = first_are;
        text = first_goes;
        intact = intact;
        time = (each_begins_at_zero r.stimulus).1 ∙ sym now;
        values = sym shown;
        printed = sym printed;
      }

  -- ---- the next moment

  module _ (mid : SinkState) (p : Progress) (C : HasCome r names start mid p) where
    pub come_leaves : IsIntact start → LeavesBeginning r.net names r.stimulus r.limit start mid
    come_leaves intact = record { settled = C.first ∷ C.rest; are = C.are; text = _; is = inl refl; taken = C.text.beginning intact }

    -- the last moment so far
    pub at_last : (m : ℕ) → suc m ≡ p.moments → (get_or (moments r.stimulus) m 0 ≡ p.now) × (m < length (moments r.stimulus))
    at_last m count =
        let last : length C.rest ≡ m = omega (arith, count, C.count) in
        (subst (λ (k : ℕ). get_or (moments r.stimulus) k 0 ≡ p.now) last C.time, omega (arith, last, C.are.there))

    module _ (time : ℕ) (N : IsNextMoment r p time) where
      there : length (C.first ∷ C.rest) < length (moments r.stimulus)
      there = let more = N.there in omega (arith, more, C.count)

      at : get_or (moments r.stimulus) (suc (length C.rest)) 0 ≡ time
      at = ap (λ (m : ℕ). get_or (moments r.stimulus) m 0) C.count ∙ N.is

      pub never_more : NeverSettles r.net r.stimulus r.limit p.moments → StopsAt r.net names r.stimulus r.limit start mid time
      never_more never = record {
        settled = C.first ∷ C.rest;
        are = C.are;
        more = there;
        is_at = at;
        never = subst (λ (m : ℕ). NeverSettles r.net r.stimulus r.limit m) (sym C.count) never;
        text = C.text;
        intact = C.intact;
      }

      module _ (new : SinkState) (values : List ℕ) (to : ComesTo r p.moments values) (text : Goes mid new (moment_text names time p.shown.items values)) where
        abbrev next : Settled
        next = as_settled r p.moments values to

        next_are : AreMoments r.net r.stimulus r.limit (C.first ∷ (C.rest ++ next ∷ []))
        next_are =
            are_more r.net r.stimulus r.limit (C.first ∷ C.rest) next C.are there (subst (λ (m : ℕ). SettlesAs r.net r.stimulus m next) (sym C.count) to.settles) to.within

        next_goes : Goes start new (text_so_far r.net names r.stimulus (C.first ∷ (C.rest ++ next ∷ [])))
        next_goes =
            let said = subst (λ (t : ℕ). Goes mid new (moment_text names t (last_values C.first.values C.rest) values)) (sym at)
            (subst (λ (vs : List ℕ). Goes mid new (moment_text names time vs values)) (sym C.values) text) in
            subst (λ (t : List ℕ). Goes start new t) (sym (text_more r.net names r.stimulus C.first C.rest next there))
            (Goes-append start mid new (text_so_far r.net names r.stimulus (C.first ∷ C.rest))
            (moment_text names (get_or (moments r.stimulus) (suc (length C.rest)) 0) (last_values C.first.values C.rest) values) C.text said)

        pub next_leaves : IsIntact start → LeavesBeginning r.net names r.stimulus r.limit start new
        next_leaves intact = record {
          settled = C.first ∷ (C.rest ++ next ∷ []);
          are = next_are;
          text = _;
          is = inl refl;
          taken = next_goes.beginning intact;
        }

        pub goes_further : (q : Progress) (is_printed : Bool) → IsIntact new → is_printed ≡ are_some (changes names p.shown.items values)
            → q.now ≡ time → q.shown.items ≡ values → q.printed ≡ (if is_printed then time else p.printed) → q.moments ≡ p.moments + 1 → HasCome r names start new q
        goes_further q is_printed intact some now shown printed count = record {
          first = C.first;
          rest = C.rest ++ next ∷ [];
          count = let long = one_more C.rest next in omega (arith, long, C.count, count);
          are = next_are;
          text = next_goes;
          intact = intact;
          time = ap (λ (m : ℕ). get_or (moments r.stimulus) m 0) (one_more C.rest next) ∙ at ∙ sym now;
          values = values_more C.first.values C.rest next ∙ sym shown;
          printed = last_more names r.stimulus C.first C.rest next there ∙ last_is ∙ sym printed;
        }
          where
            last_is : (if are_some (changes names (last_values C.first.values C.rest) values) then get_or (moments r.stimulus) (suc (length C.rest)) 0 else last_printed_of names r.stimulus (C.first ∷ C.rest))
                ≡ (if is_printed then time else p.printed)
            last_is =
                ap (λ (vs : List ℕ). if are_some (changes names vs values) then get_or (moments r.stimulus) (suc (length C.rest)) 0 else last_printed_of names r.stimulus (C.first ∷ C.rest)) C.values
                ∙ ap (λ (b : Bool). if b then get_or (moments r.stimulus) (suc (length C.rest)) 0 else last_printed_of names r.stimulus (C.first ∷ C.rest)) (sym some)
                ∙ ap (λ (t : ℕ). if is_printed then t else last_printed_of names r.stimulus (C.first ∷ C.rest)) at
                ∙ ap (λ (t : ℕ). if is_printed then time else t) C.printed

    -- ---- the end

    module _ (new : SinkState) (all : p.moments ≡ length (moments r.stimulus)) (text : Goes mid new (end_text p.printed r.stimulus.schedule.stop)) where
      every : length (C.first ∷ C.rest) ≡ length (moments r.stimulus)
      every = C.count ∙ all

      whole_goes : Goes start new (whole_text r.net names r.stimulus (C.first ∷ C.rest))
      whole_goes =
          let said = subst (λ (t : ℕ). Goes mid new (end_text t r.stimulus.schedule.stop)) (sym C.printed) text in
          subst (λ (t : List ℕ). Goes start new t) (sym (text_end r.net names r.stimulus C.first C.rest))
          (Goes-append start mid new (text_so_far r.net names r.stimulus (C.first ∷ C.rest)) (end_text (last_printed_of names r.stimulus (C.first ∷ C.rest)) r.stimulus.schedule.stop) C.text said)

      pub is_whole : IsIntact new → WritesAll r.net names r.stimulus r.limit start new p.moments
      is_whole intact = record {
        settled = C.first ∷ C.rest;
        are = C.are;
        all = every;
        text = whole_goes;
        intact = intact;
        count_is = sym C.count;
      }

      pub end_leaves : IsIntact start → LeavesBeginning r.net names r.stimulus r.limit start new
      end_leaves intact = record {
        settled = C.first ∷ C.rest;
        are = C.are;
        text = _;
        is = inr (every, refl);
        taken = whole_goes.beginning intact;
      }
