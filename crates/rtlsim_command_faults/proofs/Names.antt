-- The names of nets that still change.
use Rattle.std.proofs.Common.{◌≡◌, ◌≢◌, ℕ, zero, suc, ◌-◌, ◌≤◌, Bool, false, List, [], ◌∷◌, ◌++◌, length, refl, sym, ap, subst, ◌∙◌, append_assoc, arith, codes}
use Rattle.std.specs.Prelude.{if◌then◌else◌, slice_index, drop, take}
use Rattle.std.proofs.Math.Seq.{take-length}
use Rattle.rtl_net.specs.Names.{net_name}
use Rattle.rtl_net.specs.Nets.{NetlistView}
use Rattle.rtlsim_findings.specs.Ranges.{follows, range_text}
use Rattle.rtlsim_command_faults.specs.Changing.{names_from}

-- ---- the text, net by net

regroup : (a b c d : List ℕ) → a ++ b ++ c ++ d ≡ a ++ (b ++ c ++ d)
regroup a b c d = append_assoc (a ++ b) c d ∙ append_assoc a b (c ++ d) ∙ ap (λ (text : List ℕ). a ++ text) (sym (append_assoc b c d))

all_but_first : (numbers : List ℕ) → 1 ≤ length numbers → take (length numbers - 1) (drop 1 numbers) ≡ drop 1 numbers
all_but_first [] more = absurd (omega (arith, more))
all_but_first (number ∷ numbers) more = ap (λ (count : ℕ). take count numbers) (omega arith) ∙ take-length numbers

-- an element that the next isn't beside ends a range
goes_on : (net : NetlistView) (first : List ℕ) (last room : ℕ) (numbers : List ℕ) → 1 ≤ length numbers → room ≢ 0
    → follows (net_name net last) (net_name net (slice_index numbers 0)) ≡ false
    → names_from net first last room numbers
    ≡ range_text first (net_name net last) ++ codes ", " ++ names_from net (net_name net (slice_index numbers 0)) (slice_index numbers 0) (room - 1) (drop 1 numbers)
goes_on net first last room [] more some apart = absurd (omega (arith, more))
goes_on net first last zero (number ∷ numbers) more some apart = absurd (some refl)
goes_on net first last (suc room) (number ∷ numbers) more some apart =
    ap (λ (b : Bool). if b then names_from net first number room numbers else range_text first (net_name net last) ++ codes ", " ++ names_from net (net_name net number) number room numbers) apart
    ∙ ap (λ (left : ℕ). range_text first (net_name net last) ++ codes ", " ++ names_from net (net_name net number) number left numbers) (omega arith)

module _ (net : NetlistView) (first : List ℕ) (last room : ℕ) (numbers : List ℕ) (more : 1 ≤ length numbers) (some : room ≢ 0) where
  abbrev number : ℕ
  number = slice_index numbers 0

  abbrev others : (next : List ℕ) → List ℕ
  others next = names_from net next number (room - 1) (take (length numbers - 1) (drop 1 numbers))

  -- the text of the range and of what is behind it
  pub ends_range : (end next : List ℕ) → end ≡ net_name net last → next ≡ net_name net number → follows end next ≡ false
      → (said behind before mid new : List ℕ) → said ≡ net_name net last → behind ≡ net_name net number
      → mid ≡ before ++ range_text first said ++ codes ", " → new ≡ mid ++ others behind → new ≡ before ++ names_from net first last room numbers
  ends_range end next end_is next_is apart said behind before mid new said_is behind_is mid_is new_is =
      let apart_named = subst (λ (y : List ℕ). follows (net_name net last) y ≡ false) next_is (subst (λ (x : List ℕ). follows x next ≡ false) end_is apart) in
      new_is
      ∙ ap (λ (text : List ℕ). text ++ others behind) mid_is
      ∙ regroup before (range_text first said) (codes ", ") (others behind)
      ∙ ap (λ (text : List ℕ). before ++ (range_text first text ++ codes ", " ++ others behind)) said_is
      ∙ ap (λ (text : List ℕ). before ++ (range_text first (net_name net last) ++ codes ", " ++ others text)) behind_is
      ∙ ap (λ (rest : List ℕ). before ++ (range_text first (net_name net last) ++ codes ", " ++ names_from net (net_name net number) number (room - 1) rest)) (all_but_first numbers more)
      ∙ ap (λ (text : List ℕ). before ++ text) (sym (goes_on net first last room numbers more some apart_named))
