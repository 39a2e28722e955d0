use Rattle.std.proofs.Common.{◌≡◌, ℕ, ◌-◌, ◌≤◌, ◌<◌, true, cond, List, [], ◌∷◌, length, get_or, take, drop, refl, sym, ap, ◌∙◌, length-take, length-drop, arith, ◌==◌, ◌&&◌}
use Rattle.std.proofs.lemmas.List.{take_all}
use Rattle.vhdl_lexer.specs.Bytes.{dash, slash, star, is_separator, begins}
use Rattle.vhdl_lexer.specs.Scan.{skip, skip_line, skip_star}
use Rattle.vhdl_lexer.proofs.separator.skip.Goals as goal

-- behind a separator
separator_skipped : (text : List ℕ) (n : ℕ) → 1 ≤ length text → n ≡ length text → is_separator (get_or text 0 0) ≡ true → skip (take (n - 1) (drop 1 text)) ≡ skip text
unfolding skip
separator_skipped [] n some is e = absurd (omega (arith, some))
separator_skipped (b ∷ text) n some is e =
    ap skip (take_all (n - 1) text (omega (arith, is)))
    ∙ ap (λ t. cond t (skip text) (cond (b == dash && begins dash text) (skip_line text) (cond (b == slash && begins star text) (skip_star (b ∷ text) text) (b ∷ text)))) (sym e)

shorter : (text : List ℕ) (n m : ℕ) → length text ≤ m → length (take n (drop 1 text)) ≤ m
shorter text n m le = omega (arith, length-take n (drop 1 text), length-drop 1 text, le)

none_left : (text : List ℕ) → length text < 1 → text ≡ skip text
unfolding skip
none_left [] none = refl
none_left (b ∷ text) none = absurd (omega (arith, none))

pub loop-text-preserved-then-is_separator : goal.loop-text-preserved-then-is_separator
loop-text-preserved-then-is_separator c = (
  separator_skipped c.loop-text.text.now _ c.in-len1-up.len_at_least refl (sym c.is_separator.ensures ∙ c.if-is_separator.true) ∙ c.loop-text.invariant.0,
  shorter c.loop-text.text.now _ _ c.loop-text.invariant.1,
)

pub returns-clause-value : goal.returns-clause-value
returns-clause-value c = none_left c.loop-text.text.now c.in_default.len_below ∙ c.loop-text.invariant.0
