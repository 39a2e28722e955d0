-- What is shown once one more stands.
use Rattle.std.proofs.Common.{◌≡◌, ℕ, ◌<◌, ◌≤◌, max, List, [], ◌∷◌, ◌++◌, true, false, refl, ap, sym, ◌∙◌, subst, append_assoc, append-nil, arith}
use Rattle.std.specs.Prelude.{nat_lt}
use Rattle.std.proofs.lemmas.Bool.Decides.{nat_tests}
use Rattle.byte_streams.specs.Written.{SinkState, Goes}
use Rattle.byte_streams.proofs.Writing.{Goes-nil, Goes-append}
use Rattle.byte_streams.specs.Stands.{Stand}
use Rattle.rtl_progress.specs.Shown.{HasShown, hundredths, shown_after, shown_text, text_of_hundredths, text_of_more}

noted_more : (stop shown : ℕ) (stands : List Stand) (x : Stand)
    → shown_after stop shown (stands ++ x ∷ []) ≡ max (shown_after stop shown stands) (hundredths stop x.until)
noted_more stop shown [] x = refl
noted_more stop shown (y ∷ stands) x = noted_more stop (max shown (hundredths stop y.until)) stands x

text_more : (stop shown : ℕ) (stands : List Stand) (x : Stand)
    → shown_text stop shown (stands ++ x ∷ []) ≡ shown_text stop shown stands ++ text_of_more (shown_after stop shown stands) (hundredths stop x.until)
text_more stop shown [] x = append-nil (text_of_more shown (hundredths stop x.until))
text_more stop shown (y ∷ stands) x =
    ap (λ (t : List ℕ). text_of_more shown (hundredths stop y.until) ++ t) (text_more stop (max shown (hundredths stop y.until)) stands x)
    ∙ simp append_assoc

one_more : (stop shown : ℕ) (old : SinkState) (stands : List Stand) (so_far : ℕ) (between : SinkState) (x : Stand) (new_stop now : ℕ) (new : SinkState)
    → HasShown stop shown old stands new_stop so_far between → now ≡ max so_far (hundredths new_stop x.until)
    → Goes between new (text_of_more so_far (hundredths new_stop x.until)) → HasShown stop shown old (stands ++ x ∷ []) new_stop now new
one_more stop shown old stands so_far between x new_stop now new h is goes =
    record {
      same_stop = h.same_stop;
      noted = is ∙ ap (λ (n : ℕ). max n (hundredths new_stop x.until)) h.noted
          ∙ ap (λ (s : ℕ). max (shown_after stop shown stands) (hundredths s x.until)) h.same_stop ∙ sym (noted_more stop shown stands x);
      text = subst (Goes old new) (sym (text_more stop shown stands x)) (Goes-append old between new _ _ h.text
          (subst (λ (n : ℕ). Goes between new (text_of_more n (hundredths stop x.until))) h.noted
          (subst (λ (s : ℕ). Goes between new (text_of_more so_far (hundredths s x.until))) h.same_stop goes)));
    }

pub risen : (stop shown : ℕ) (old : SinkState) (stands : List Stand) (so_far : ℕ) (between : SinkState) (x : Stand) (new_stop now : ℕ) (new : SinkState)
    → HasShown stop shown old stands new_stop so_far between → now ≡ hundredths new_stop x.until → so_far < now → Goes between new (text_of_hundredths now)
    → HasShown stop shown old (stands ++ x ∷ []) new_stop now new
risen stop shown old stands so_far between x new_stop now new h is less goes =
    let test : nat_lt so_far now ≡ true = grind (arith, nat_tests) in
    let most : now ≡ max so_far now = omega (arith, less) in
    let text : Goes between new (text_of_more so_far now) = rw test goes in
    one_more stop shown old stands so_far between x new_stop now new h (subst (λ (n : ℕ). now ≡ max so_far n) is most)
    (subst (λ (n : ℕ). Goes between new (text_of_more so_far n)) is text)

pub same : (stop shown : ℕ) (old : SinkState) (stands : List Stand) (so_far : ℕ) (between : SinkState) (x : Stand) (new_stop now : ℕ)
    → HasShown stop shown old stands new_stop so_far between → now ≡ hundredths new_stop x.until → now ≤ so_far
    → HasShown stop shown old (stands ++ x ∷ []) new_stop so_far between
same stop shown old stands so_far between x new_stop now h is less =
    let test : nat_lt so_far now ≡ false = grind (arith, nat_tests) in
    let most : so_far ≡ max so_far now = omega (arith, less) in
    let text : Goes between between (text_of_more so_far now) = rw test (Goes-nil between) in
    one_more stop shown old stands so_far between x new_stop so_far between h (subst (λ (n : ℕ). so_far ≡ max so_far n) is most)
    (subst (λ (n : ℕ). Goes between between (text_of_more so_far n)) is text)
