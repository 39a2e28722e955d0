-- Skipping passes over separators and comments, and over nothing else.
use Rattle.std.proofs.Common.{◌≡◌, ℕ, ◌≤◌, ◌==◌, ◌&&◌, ◌||◌, Bool, true, false, cond, not, List, [], ◌∷◌, ◌++◌, length, drop, ◌⊎◌, inl, inr, refl, sym, ap, ◌∙◌, subst, true≢false, length-append, append_assoc, arith}
use Rattle.std.proofs.lemmas.Bool.{eqb-true}
use Rattle.vhdl_lexer.specs.Bytes.{star, dash, slash, ends_line, is_separator, begins}
use Rattle.vhdl_lexer.specs.Separators.{stays_on_line, LineEnds, has_close, IsSeparation, LeadsTo}
use Rattle.vhdl_lexer.specs.Scan.{skip, skip_line, skip_star, skip_comment, skip_slash, Stands}
use Rattle.vhdl_lexer.proofs.Choices.{both_true, either_false, not_true, begins_with}

ends_separates : (b : ℕ) → ends_line b ≡ true → is_separator b ≡ true
ends_separates b e = by_case (b == 32) (b == 9) (ends_line b) e
  where
    by_case : (s t l : Bool) → l ≡ true → ((s || t) || l) ≡ true
    by_case true t l e = refl
    by_case false true l e = refl
    by_case false false l e = e

-- ---- what is skipped is separators and comments

-- pieces lead from a text to what is left of it, where none begins any more
pub record Skipped (text left : List ℕ) : Type 0 where
  pub pieces : List (List ℕ)
  pub led : LeadsTo pieces text left
  pub stands : Stands left

-- the same behind the rest of a line, and behind that of a comment
record LineSkipped (text left : List ℕ) : Type 0 where
  body : List ℕ
  after : List ℕ
  whole : text ≡ body ++ after
  stays : stays_on_line body ≡ true
  ends : LineEnds after
  skipped : Skipped after left

record CommentSkipped (text left : List ℕ) : Type 0 where
  body : List ℕ
  after : List ℕ
  whole : text ≡ body ++ star ∷ slash ∷ after
  inside : has_close body ≡ false
  skipped : Skipped after left

space_more : (b : ℕ) (text left : List ℕ) → is_separator b ≡ true → Skipped text left → Skipped (b ∷ text) left
space_more b text left e s = record { pieces = (b ∷ []) ∷ s.pieces; led = (text, refl, inl (b, refl, e), s.led); stands = s.stands }

line_more : (b : ℕ) (text left : List ℕ) → ends_line b ≡ false → LineSkipped text left → LineSkipped (b ∷ text) left
line_more b text left e l = record { body = b ∷ l.body; after = l.after; whole = ap (λ x. b ∷ x) l.whole; stays = rw e l.stays; ends = l.ends; skipped = l.skipped }

-- behind the first dash, where a second one comes
dashes_more : (b : ℕ) (text left : List ℕ) → b ≡ dash → begins dash text ≡ true → LineSkipped text left → Skipped (b ∷ text) left
dashes_more b text left e second l = by_body l.body l.stays l.whole
  where
    ended : (rest : List ℕ) → begins dash rest ≡ true → LineEnds rest → ⊥
    ended [] d h = true≢false (sym d)
    ended (c ∷ rest) d h = let ends : ends_line dash ≡ true = ap ends_line (sym (eqb-true c dash d)) ∙ h in true≢false (sym ends)

    by_body : (body : List ℕ) → stays_on_line body ≡ true → text ≡ body ++ l.after → Skipped (b ∷ text) left
    by_body [] s w = absurd (ended l.after (ap (begins dash) (sym w) ∙ second) l.ends)
    by_body (c ∷ body) s w =
        let c_is : c ≡ dash = eqb-true c dash (ap (begins dash) (sym w) ∙ second) in
        record {
          pieces = (dash ∷ dash ∷ body) ∷ l.skipped.pieces;
          led = (
            l.after,
            ap (λ x. x ∷ text) e ∙ ap (λ x. dash ∷ x) w ∙ ap (λ x. dash ∷ x ∷ (body ++ l.after)) c_is,
            inr (inl (body, refl, (both_true (not (ends_line c)) (stays_on_line body) s).1, l.ends)),
            l.skipped.led,
          );
          stands = l.skipped.stands;
        }

closed_more : (b : ℕ) (text left : List ℕ) → (b == star && begins slash text) ≡ false → CommentSkipped text left → CommentSkipped (b ∷ text) left
closed_more b text left e c = record {
  body = b ∷ c.body;
  after = c.after;
  whole = ap (λ x. b ∷ x) c.whole;
  inside = ap (λ t. t || has_close c.body) (by_body (b == star) c.body (ap (λ x. b == star && begins slash x) (sym c.whole) ∙ e)) ∙ c.inside;
  skipped = c.skipped;
}
  where
    by_body : (t : Bool) (body : List ℕ) → (t && begins slash (body ++ star ∷ slash ∷ c.after)) ≡ false → (t && begins slash body) ≡ false
    by_body true [] e = refl
    by_body false [] e = refl
    by_body t (d ∷ body) e = e

comment_more : (b : ℕ) (text left : List ℕ) → b ≡ slash → begins star text ≡ true → CommentSkipped (drop 1 text) left → Skipped (b ∷ text) left
comment_more b [] left e second c = absurd (true≢false (sym second))
comment_more b (s ∷ text) left e second c = record {
  pieces = (slash ∷ star ∷ (c.body ++ star ∷ slash ∷ [])) ∷ c.skipped.pieces;
  led = (
    c.after,
    ap (λ x. x ∷ s ∷ text) e ∙ ap (λ x. slash ∷ x ∷ text) (eqb-true s star second) ∙ ap (λ x. slash ∷ star ∷ x) (c.whole ∙ sym (append_assoc c.body (star ∷ slash ∷ []) c.after)),
    inr (inr (c.body, refl, c.inside)),
    c.skipped.led,
  );
  stands = c.skipped.stands;
}

stays_open : (b : ℕ) (text : List ℕ) → is_separator b ≡ false → (b == dash && begins dash text) ≡ false → has_close (drop 1 text) ≡ false → Stands (b ∷ text)
stays_open b text s d o = (s, d, λ body e. ap has_close (sym (ap (λ (x : List ℕ). drop 2 x) e)) ∙ o)

pub stays_plain : (b : ℕ) (text : List ℕ) → is_separator b ≡ false → (b == dash && begins dash text) ≡ false → (b == slash && begins star text) ≡ false → Stands (b ∷ text)
stays_plain b text s d o = (s, d, λ body e. absurd (true≢false (sym (ap first_two e) ∙ o)))
  where
    first_two : List ℕ → Bool
    first_two [] = false
    first_two (b ∷ text) = b == slash && begins star text

mutual
  unfolding skip

  pub skip_skipped : (text : List ℕ) → Skipped text (skip text)
  skip_skipped [] = record { pieces = []; led = refl; stands = tt }
  skip_skipped (b ∷ text) =
      by_test (is_separator b) refl (b == dash && begins dash text) refl (b == slash && begins star text) refl (skip_skipped text) (line_skipped text) (star_cases (b ∷ text) text)
    where
      by_test : (s : Bool) → is_separator b ≡ s → (d : Bool) → (b == dash && begins dash text) ≡ d → (o : Bool) → (b == slash && begins star text) ≡ o →
          Skipped text (skip text) → LineSkipped text (skip_line text) → CommentSkipped (drop 1 text) (skip_star (b ∷ text) text) ⊎ ((skip_star (b ∷ text) text ≡ b ∷ text) × (has_close (drop 1 text) ≡ false)) →
          Skipped (b ∷ text) (cond s (skip text) (cond d (skip_line text) (cond o (skip_star (b ∷ text) text) (b ∷ text))))
      by_test true es d ed o eo later line star_later = space_more b text (skip text) es later
      by_test false es true ed o eo later line star_later =
          let e = both_true (b == dash) (begins dash text) ed in dashes_more b text (skip_line text) (eqb-true b dash e.0) e.1 line
      by_test false es false ed true eo later line (inl c) =
          let e = both_true (b == slash) (begins star text) eo in comment_more b text (skip_star (b ∷ text) text) (eqb-true b slash e.0) e.1 c
      by_test false es false ed true eo later line (inr c) =
          subst (Skipped (b ∷ text)) (sym c.0) (record { pieces = []; led = refl; stands = stays_open b text es ed c.1 })
      by_test false es false ed false eo later line star_later = record { pieces = []; led = refl; stands = stays_plain b text es ed eo }

  line_skipped : (text : List ℕ) → LineSkipped text (skip_line text)
  line_skipped [] = record { body = []; after = []; whole = refl; stays = refl; ends = tt; skipped = record { pieces = []; led = refl; stands = tt } }
  line_skipped (b ∷ text) = by_test (ends_line b) refl (skip_skipped text) (line_skipped text)
    where
      by_test : (t : Bool) → ends_line b ≡ t → Skipped text (skip text) → LineSkipped text (skip_line text) → LineSkipped (b ∷ text) (cond t (skip text) (skip_line text))
      by_test true e later line = record { body = []; after = b ∷ text; whole = refl; stays = refl; ends = e; skipped = space_more b text (skip text) (ends_separates b e) later }
      by_test false e later line = line_more b text (skip_line text) e line

  star_cases : (opened text : List ℕ) → CommentSkipped (drop 1 text) (skip_star opened text) ⊎ ((skip_star opened text ≡ opened) × (has_close (drop 1 text) ≡ false))
  star_cases opened [] = inr (refl, refl)
  star_cases opened (b ∷ text) = comment_cases opened text

  comment_cases : (opened text : List ℕ) → CommentSkipped text (skip_comment opened text) ⊎ ((skip_comment opened text ≡ opened) × (has_close text ≡ false))
  comment_cases opened [] = inr (refl, refl)
  comment_cases opened (b ∷ text) = by_test (b == star && begins slash text) refl (slash_skipped text) (comment_cases opened text)
    where
      by_test : (t : Bool) → (b == star && begins slash text) ≡ t → Skipped (drop 1 text) (skip_slash text) → CommentSkipped text (skip_comment opened text) ⊎ ((skip_comment opened text ≡ opened) × (has_close text ≡ false)) →
          CommentSkipped (b ∷ text) (cond t (skip_slash text) (skip_comment opened text)) ⊎ ((cond t (skip_slash text) (skip_comment opened text) ≡ opened) × ((t || has_close text) ≡ false))
      by_test true e later found =
          let f = both_true (b == star) (begins slash text) e in
          let w = begins_with slash text f.1 in
          inl (record {
            body = [];
            after = drop 1 text;
            whole = ap (λ x. x ∷ text) (eqb-true b star f.0) ∙ ap (λ x. star ∷ x) w.1 ∙ ap (λ (x : List ℕ). star ∷ slash ∷ drop 1 x) (sym w.1);
            inside = refl;
            skipped = later;
          })
      by_test false e later (inl c) = inl (closed_more b text (skip_comment opened text) e c)
      by_test false e later (inr c) = inr c

  slash_skipped : (text : List ℕ) → Skipped (drop 1 text) (skip_slash text)
  slash_skipped [] = record { pieces = []; led = refl; stands = tt }
  slash_skipped (b ∷ text) = skip_skipped text

-- ---- separators and comments are skipped

skip_space : (b : ℕ) (after : List ℕ) → is_separator b ≡ true → skip (b ∷ after) ≡ skip after
unfolding skip
skip_space b after e = rw e refl

line_end : (body after : List ℕ) → stays_on_line body ≡ true → LineEnds after → skip_line (body ++ after) ≡ skip after
unfolding skip
line_end [] [] s e = refl
line_end [] (c ∷ after) s e = ap (λ t. cond t (skip after) (skip_line after)) e ∙ sym (skip_space c after (ends_separates c e))
line_end (b ∷ body) after s e =
    let f = both_true (not (ends_line b)) (stays_on_line body) s in
    let stays : ends_line b ≡ false = not_true (ends_line b) f.0 in
    rw stays (line_end body after f.1 e)

comment_end : (opened body after : List ℕ) → has_close body ≡ false → skip_comment opened (body ++ star ∷ slash ∷ after) ≡ skip after
unfolding skip
comment_end opened [] after h = refl
comment_end opened (b ∷ body) after h =
    let f = either_false (b == star && begins slash body) (has_close body) h in
    let goes_on : (b == star && begins slash (body ++ star ∷ slash ∷ after)) ≡ false = by_body (b == star) body f.0 in
    rw goes_on (comment_end opened body after f.1)
  where
    by_body : (t : Bool) (body : List ℕ) → (t && begins slash body) ≡ false → (t && begins slash (body ++ star ∷ slash ∷ after)) ≡ false
    by_body true [] e = refl
    by_body false [] e = refl
    by_body t (d ∷ body) e = e

never_closed : (opened text : List ℕ) → has_close text ≡ false → skip_comment opened text ≡ opened
unfolding skip
never_closed opened [] h = refl
never_closed opened (b ∷ text) h =
    let f = either_false (b == star && begins slash text) (has_close text) h in
    let goes_on : (b == star && begins slash text) ≡ false = f.0 in
    rw goes_on (never_closed opened text f.1)

pub stands_skip : (text : List ℕ) → Stands text → skip text ≡ text
unfolding skip
stands_skip [] s = refl
stands_skip (b ∷ text) s =
    let separator : is_separator b ≡ false = s.0 in
    let dashes : (b == dash && begins dash text) ≡ false = s.1 in
    rw (separator, dashes) (by_test (b == slash && begins star text) refl)
  where
    opened_again : (w : (after : List ℕ) × (text ≡ star ∷ after)) → b ≡ slash → skip_star (b ∷ text) text ≡ b ∷ text
    opened_again w e = ap (skip_star (b ∷ text)) w.1 ∙ never_closed (b ∷ text) w.0 (s.2 w.0 (ap (λ x. x ∷ text) e ∙ ap (λ x. slash ∷ x) w.1))

    by_test : (t : Bool) → (b == slash && begins star text) ≡ t → cond t (skip_star (b ∷ text) text) (b ∷ text) ≡ b ∷ text
    by_test true e = let f = both_true (b == slash) (begins star text) e in opened_again (begins_with star text f.1) (eqb-true b slash f.0)
    by_test false e = refl

piece_skip : (piece after : List ℕ) → IsSeparation piece after → skip (piece ++ after) ≡ skip after
unfolding skip
piece_skip piece after (inl s) = ap (λ x. skip (x ++ after)) s.1 ∙ skip_space s.0 after s.2
piece_skip piece after (inr (inl l)) = ap (λ x. skip (x ++ after)) l.1 ∙ line_end l.0 after l.2 l.3
piece_skip piece after (inr (inr c)) =
    ap (λ x. skip (x ++ after)) c.1
    ∙ ap (λ x. skip_comment (slash ∷ star ∷ ((c.0 ++ star ∷ slash ∷ []) ++ after)) x) (append_assoc c.0 (star ∷ slash ∷ []) after)
    ∙ comment_end (slash ∷ star ∷ ((c.0 ++ star ∷ slash ∷ []) ++ after)) c.0 after c.2

pub leads_skip : (pieces : List (List ℕ)) (text ahead : List ℕ) → LeadsTo pieces text ahead → Stands ahead → skip text ≡ ahead
leads_skip [] text ahead l s = ap skip l ∙ stands_skip ahead s
leads_skip (piece ∷ pieces) text ahead l s = ap skip l.1 ∙ piece_skip piece l.0 l.2 ∙ leads_skip pieces l.0 ahead l.3 s

piece_shorter : (piece after text : List ℕ) → text ≡ piece ++ after → length after ≤ length text
piece_shorter piece after text e = omega (arith, ap (λ (x : List ℕ). length x) e, length-append piece after)

-- what is ahead is a part of the text
pub leads_shorter : (pieces : List (List ℕ)) (text ahead : List ℕ) → LeadsTo pieces text ahead → length ahead ≤ length text
leads_shorter [] text ahead l = omega (arith, ap (λ (x : List ℕ). length x) l)
leads_shorter (piece ∷ pieces) text ahead l = omega (arith, leads_shorter pieces l.0 ahead l.3, piece_shorter piece l.0 text l.1)
