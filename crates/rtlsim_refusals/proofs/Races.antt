-- Reading a stimulus line by line, for the line that a race is told at.
use Rattle.std.proofs.Common.{◌≡◌, ℕ, suc, ◌+◌, Bool, true, false, List, take, drop, position, Option, Some, None, ap, ◌∙◌}
use Rattle.std.specs.Prelude.{if◌then◌else◌}
use Rattle.rtl_stim_lines.specs.Lines.{ends_line, lines_of, without_return}
use Rattle.rtl_stim_lines.proofs.Parts.{lines_end, lines_more}
use Rattle.rtlsim_refusals.specs.Races.{line_among, line_sets}

module _ (port : List ℕ) (asked : Option ℕ) (number : ℕ) (text : List ℕ) where
  first_is : (k : ℕ) → position ends_line text ≡ Some k → line_among port asked number (lines_of text)
      ≡ (if line_sets port asked (without_return (take k text)) then Some number else line_among port asked (suc number) (lines_of (drop (k + 1) text)))
  first_is k here = ap (line_among port asked number) (lines_more text k here)

  pub set_here : (k : ℕ) → position ends_line text ≡ Some k → line_sets port asked (without_return (take k text)) ≡ true
      → line_among port asked number (lines_of text) ≡ Some number
  set_here k here sets =
      first_is k here ∙ ap (λ (b : Bool). if b then Some number else line_among port asked (suc number) (lines_of (drop (k + 1) text))) sets

  pub set_behind : (k : ℕ) → position ends_line text ≡ Some k → line_sets port asked (without_return (take k text)) ≡ false
      → line_among port asked number (lines_of text) ≡ line_among port asked (suc number) (lines_of (drop (k + 1) text))
  set_behind k here sets =
      first_is k here ∙ ap (λ (b : Bool). if b then Some number else line_among port asked (suc number) (lines_of (drop (k + 1) text))) sets

  pub set_last : (b : Bool) → position ends_line text ≡ None → line_sets port asked text ≡ b → line_among port asked number (lines_of text) ≡ (if b then Some number else None)
  set_last b none sets = ap (line_among port asked number) (lines_end text none) ∙ ap (λ (b : Bool). if b then Some number else None) sets
