use Rattle.std.proofs.Common.{◌≡◌, ◌≢◌, ℕ, zero, suc, ◌-◌, ◌<◌, ◌≤◌, Bool, true, List, [], ◌∷◌, ◌++◌, length, refl, ap, sym, subst, ◌∙◌, append_assoc, arith, codes}
use Rattle.std.specs.Prelude.{if◌then◌else◌, slice_index, drop, take}
use Rattle.std.proofs.Math.Seq.{take-length}
use Rattle.std.proofs.lemmas.Result.{on_ok_weaker}
use Rattle.rtl_net.specs.Names.{net_name}
use Rattle.rtl_net.specs.Nets.{NetlistView}
use Rattle.rtlsim_findings.specs.Ranges.{follows, range_text}
use Rattle.rtlsim_command_faults.specs.Changing.{names_from}
use Rattle.rtlsim_command_faults.proofs.Names.{ends_range}
use Rattle.rtlsim_command_faults.proofs.changing.+push_names.Goals as goal

module _ (net : NetlistView) (first : List ℕ) (last : ℕ) where
  -- no number is left
  ends : (room : ℕ) (numbers end old new : List ℕ) → length numbers < 1 → end ≡ net_name net last → new ≡ old ++ range_text first end
      → new ≡ old ++ names_from net first last room numbers
  ends room [] end old new none is said = said ∙ ap (λ (text : List ℕ). old ++ range_text first text) is
  ends room (number ∷ numbers) end old new none is said = absurd (omega (arith, none))

  -- no room is left
  cut : (room : ℕ) (numbers end old mid new : List ℕ) → 1 ≤ length numbers → room ≡ 0 → end ≡ net_name net last → mid ≡ old ++ range_text first end → new ≡ mid ++ codes " and more"
      → new ≡ old ++ names_from net first last room numbers
  cut room [] end old mid new more none is mid_is new_is = absurd (omega (arith, more))
  cut (suc room) (number ∷ numbers) end old mid new more none is mid_is new_is = absurd (omega (arith, none))
  cut zero (number ∷ numbers) end old mid new more none is mid_is new_is =
      new_is ∙ ap (λ (text : List ℕ). text ++ codes " and more") mid_is ∙ append_assoc old (range_text first end) (codes " and more")
      ∙ ap (λ (text : List ℕ). old ++ (range_text first text ++ codes " and more")) is

  either : (number room : ℕ) (numbers : List ℕ) (b : Bool) → follows (net_name net last) (net_name net number) ≡ b
      → names_from net first last (suc room) (number ∷ numbers)
      ≡ (if b then names_from net first number room numbers else range_text first (net_name net last) ++ codes ", " ++ names_from net (net_name net number) number room numbers)
  either number room numbers b is =
      ap (λ (x : Bool). if x then names_from net first number room numbers else range_text first (net_name net last) ++ codes ", " ++ names_from net (net_name net number) number room numbers) is

  -- the next is beside it
  goes : (room : ℕ) (numbers end next old new : List ℕ) → 1 ≤ length numbers → room ≢ 0 → end ≡ net_name net last → next ≡ net_name net (slice_index numbers 0) → follows end next ≡ true
      → new ≡ old ++ names_from net first (slice_index numbers 0) (room - 1) (take (length numbers - 1) (drop 1 numbers)) → new ≡ old ++ names_from net first last room numbers
  goes room [] end next old new more some end_is next_is beside new_is = absurd (omega (arith, more))
  goes zero (number ∷ numbers) end next old new more some end_is next_is beside new_is = absurd (some refl)
  goes (suc room) (number ∷ numbers) end next old new more some end_is next_is beside new_is =
      let named = subst (λ (y : List ℕ). follows (net_name net last) y ≡ true) next_is (subst (λ (x : List ℕ). follows x next ≡ true) end_is beside) in
      let all : take (length (number ∷ numbers) - 1) numbers ≡ numbers = ap (λ (count : ℕ). take count numbers) (omega arith) ∙ take-length numbers in
      let left : suc room - 1 ≡ room = omega arith in
      new_is ∙ ap (λ (rest : List ℕ). old ++ names_from net first number (suc room - 1) rest) all ∙ ap (λ (count : ℕ). old ++ names_from net first number count numbers) left
      ∙ ap (λ (text : List ℕ). old ++ text) (sym (either number room numbers true named))

pub returns-in_default : goal.returns-in_default
returns-in_default t c =
    on_ok_weaker c.push_range.result
    (ends c.args.net.now c.args.first.now c.args.last c.args.room c.args.numbers.now c.deref.result.now c.args.line.now.items c.push_range.new.text.items c.in_default.len_below (c.deref.ensures.value ∙ c.in_ok-end.ensures))
    c.push_range.ensures

pub returns-then-follows : goal.returns-then-follows
returns-then-follows t c =
    on_ok_weaker c.push_names.result
    (goes c.args.net.now c.args.first.now c.args.last c.args.room c.args.numbers.now c.deref-2.result.now c.deref-3.result.now c.args.line.now.items c.push_names.new.line.items
    c.in-len1-up.len_at_least c.if-room-eq0.false (c.deref-2.ensures.value ∙ c.in_ok-end.ensures) (c.deref-3.ensures.value ∙ c.in_ok-next.ensures) (sym c.follows.ensures ∙ c.if-follows.true))
    c.push_names.ensures

pub returns-then-room-eq0 : goal.returns-then-room-eq0
returns-then-room-eq0 t c =
    cut c.args.net.now c.args.first.now c.args.last c.args.room c.args.numbers.now c.deref-then-room-eq0.result.now c.args.line.now.items c.push_range-then-room-eq0.new.text.items _
    c.in-len1-up.len_at_least c.if-room-eq0.true (c.deref-then-room-eq0.ensures.value ∙ c.in_ok-end.ensures) c.in_ok-push_range.ensures c.in_ok-extend_from_slice.ensures.items

pub returns : goal.returns
returns t c =
    on_ok_weaker c.push_names-2.result
    (ends_range c.args.net.now c.args.first.now c.args.last c.args.room c.args.numbers.now c.in-len1-up.len_at_least c.if-room-eq0.false
    c.deref-2.result.now c.deref-3.result.now (c.deref-2.ensures.value ∙ c.in_ok-end.ensures) (c.deref-3.ensures.value ∙ c.in_ok-next.ensures) (sym c.follows.ensures ∙ c.if-follows.false)
    c.deref-4.result.now c.deref-5.result.now c.args.line.now.items c.push_before.new.line.items c.push_names-2.new.line.items
    (c.deref-4.ensures.value ∙ c.in_ok-end.ensures) (c.deref-5.ensures.value ∙ c.in_ok-next.ensures) c.in_ok-push_before.ensures)
    c.push_names-2.ensures
