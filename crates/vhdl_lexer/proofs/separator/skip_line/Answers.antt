use Rattle.std.proofs.Common.{◌≡◌, ℕ, ◌-◌, ◌≤◌, ◌<◌, true, false, cond, List, [], ◌∷◌, length, get_or, take, drop, refl, sym, ap, ◌∙◌, length-take, length-drop, arith}
use Rattle.std.proofs.lemmas.List.{take_all}
use Rattle.vhdl_lexer.specs.Bytes.{ends_line}
use Rattle.vhdl_lexer.specs.Scan.{skip, skip_line}
use Rattle.vhdl_lexer.proofs.separator.skip_line.Goals as goal

-- behind a byte that ends the line, and behind another
line_ends : (text : List ℕ) (n : ℕ) → 1 ≤ length text → n ≡ length text → ends_line (get_or text 0 0) ≡ true → skip (take (n - 1) (drop 1 text)) ≡ skip_line text
unfolding skip skip_line
line_ends [] n some is e = absurd (omega (arith, some))
line_ends (b ∷ text) n some is e =
    ap skip (take_all (n - 1) text (omega (arith, is))) ∙ ap (λ t. cond t (skip text) (skip_line text)) (sym e)

line_goes_on : (text : List ℕ) (n : ℕ) → 1 ≤ length text → n ≡ length text → ends_line (get_or text 0 0) ≡ false → skip_line (take (n - 1) (drop 1 text)) ≡ skip_line text
unfolding skip skip_line
line_goes_on [] n some is e = absurd (omega (arith, some))
line_goes_on (b ∷ text) n some is e =
    ap skip_line (take_all (n - 1) text (omega (arith, is))) ∙ ap (λ t. cond t (skip text) (skip_line text)) (sym e)

shorter : (text : List ℕ) (n m : ℕ) → length text ≤ m → length (take n (drop 1 text)) ≤ m
shorter text n m le = omega (arith, length-take n (drop 1 text), length-drop 1 text, le)

none_left : (text : List ℕ) → length text < 1 → skip text ≡ skip_line text
unfolding skip skip_line
none_left [] none = refl
none_left (b ∷ text) none = absurd (omega (arith, none))

pub loop-text-init : goal.loop-text-init
loop-text-init c = (refl, omega arith)

pub returns-then-ends_line-clause-value : goal.returns-then-ends_line-clause-value
returns-then-ends_line-clause-value c =
    line_ends c.loop-text.text.now _ c.in-len1-up.len_at_least refl (sym c.ends_line.ensures ∙ c.if-ends_line.true) ∙ c.loop-text.invariant.0

pub loop-text-preserved : goal.loop-text-preserved
loop-text-preserved c = (
  line_goes_on c.loop-text.text.now _ c.in-len1-up.len_at_least refl (sym c.ends_line.ensures ∙ c.if-ends_line.false) ∙ c.loop-text.invariant.0,
  shorter c.loop-text.text.now _ _ c.loop-text.invariant.1,
)

pub returns-clause-value : goal.returns-clause-value
returns-clause-value c = none_left c.loop-text.text.now c.in_default.len_below ∙ c.loop-text.invariant.0

pub returns-then-ends_line-clause-within : goal.returns-then-ends_line-clause-within
returns-then-ends_line-clause-within c = shorter c.loop-text.text.now _ _ c.loop-text.invariant.1

pub returns-clause-within : goal.returns-clause-within
returns-clause-within c = c.loop-text.invariant.1
