-- What skipping leaves of a text, by the definition of separators and comments.
use Rattle.std.proofs.Common.{◌≡◌, ℕ, ◌-◌, ◌≤◌, ◌<◌, ◌==◌, ◌&&◌, Bool, true, false, cond, List, [], ◌∷◌, length, take, drop, refl, sym, ap, ◌∙◌, subst, length-drop, arith}
use Rattle.std.proofs.lemmas.List.{take_all}
use Rattle.vhdl_lexer.specs.Bytes.{star, slash, begins}
use Rattle.vhdl_lexer.specs.Scan.{from_close, skip, skip_star, skip_comment, skip_slash}
use Rattle.vhdl_lexer.proofs.Choices.{both_true, begins_with}

-- ---- where a comment ends

-- skipping a comment goes on behind its end
pub comment_skipped : (opened text : List ℕ) → 2 ≤ length (from_close text) → skip_comment opened text ≡ skip (drop 2 (from_close text))
unfolding skip skip_comment skip_slash
comment_skipped opened [] le = absurd (omega (arith, le))
comment_skipped opened (b ∷ text) le = by_test (b == star && begins slash text) refl (comment_skipped opened text) le
  where
    by_test : (t : Bool) → (b == star && begins slash text) ≡ t → (2 ≤ length (from_close text) → skip_comment opened text ≡ skip (drop 2 (from_close text))) →
        2 ≤ length (cond t (b ∷ text) (from_close text)) → cond t (skip_slash text) (skip_comment opened text) ≡ skip (drop 2 (cond t (b ∷ text) (from_close text)))
    by_test false e later le = later le
    by_test true e later le = let w = begins_with slash text (both_true (b == star) (begins slash text) e).1 in ap skip_slash w.1 ∙ sym (ap (λ x. skip (drop 2 (b ∷ x))) w.1)

pub comment_open : (opened text : List ℕ) → length (from_close text) < 2 → skip_comment opened text ≡ opened
unfolding skip_comment
comment_open opened [] le = refl
comment_open opened (b ∷ text) le = by_test (b == star && begins slash text) refl (comment_open opened text) le
  where
    by_test : (t : Bool) → (b == star && begins slash text) ≡ t → (length (from_close text) < 2 → skip_comment opened text ≡ opened) →
        length (cond t (b ∷ text) (from_close text)) < 2 → cond t (skip_slash text) (skip_comment opened text) ≡ opened
    by_test false e later le = later le
    by_test true e later le = let w = begins_with slash text (both_true (b == star) (begins slash text) e).1 in absurd (omega (arith, le, ap (λ (x : List ℕ). length x) w.1))

-- the same behind the star of the opening
pub star_skipped : (opened text close : List ℕ) → 1 ≤ length text → close ≡ from_close (take (length text - 1) (drop 1 text)) → 2 ≤ length close → skip_star opened text ≡ skip (take (length close - 2) (drop 2 close))
unfolding skip_star
star_skipped opened [] close some e le = absurd (omega (arith, some))
star_skipped opened (b ∷ text) close some e le =
    let is : close ≡ from_close text = e ∙ ap from_close (take_all (length (b ∷ text) - 1) text (omega arith)) in
    comment_skipped opened text (subst (λ x. 2 ≤ length x) is le) ∙ ap (λ x. skip (drop 2 x)) (sym is) ∙ ap skip (sym (take_all (length close - 2) (drop 2 close) (omega (arith, length-drop 2 close))))

pub star_open : (opened text close : List ℕ) → 1 ≤ length text → close ≡ from_close (take (length text - 1) (drop 1 text)) → length close < 2 → skip_star opened text ≡ opened
unfolding skip_star
star_open opened [] close some e le = absurd (omega (arith, some))
star_open opened (b ∷ text) close some e le =
    let is : close ≡ from_close text = e ∙ ap from_close (take_all (length (b ∷ text) - 1) text (omega arith)) in
    comment_open opened text (subst (λ x. length x < 2) is le)
