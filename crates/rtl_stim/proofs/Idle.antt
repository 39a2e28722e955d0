-- A clock doesn't toggle before its next toggle.
use Rattle.std.proofs.Common.{◌≡◌, ℕ, ◌<◌, ◌≤◌, Bool, true, false, cond, [], ◌∷◌, Option, Some, None, refl, sym, ap, ◌∙◌, arith}
use Rattle.std.specs.Prelude.{nat_le, IfSome}
use Rattle.std.proofs.lemmas.Bool.Decides.{nat_tests}
use Rattle.rtl_stim_lines.specs.Courses.{toggles}
use Rattle.rtl_stim.specs.Pushes.{next_time, up_to}
use Rattle.rtl_stim.specs.Quiet.{found_or_past}
use Rattle.rtl_stim.proofs.Due.{next_is, next_exists}

only_some : (stop : ℕ) (o : Option ℕ) (t : ℕ) → t ∷ [] ≡ up_to stop o → o ≡ Some t
only_some stop None t h = cc
only_some stop (Some s) t h = by (nat_le s stop) h
  where
    by : (b : Bool) → t ∷ [] ≡ cond b (s ∷ []) [] → Some s ≡ Some t
    by true e = cc
    by false e = cc

-- `found` is the next toggle, where that is not after the stop
pub idle_ticks : (first half now stop : ℕ) (found : Option ℕ) → up_to stop found ≡ up_to stop (next_time first half now) → IfSome found (λ t. t ≤ stop)
    → (b : ℕ) → now < b → b < found_or_past found stop → toggles first half b ≡ false
idle_ticks first half now stop (Some t) same within b after before =
    let le : nat_le t stop ≡ true = let h = within in grind (arith, nat_tests) in
    let is = only_some stop (next_time first half now) t (ap (λ b. cond b (t ∷ []) []) (sym le) ∙ same) in
    (next_is first half now t is).none_between b after before
idle_ticks first half now stop None same within b after before = by (toggles first half b) refl
  where
    by : (r : Bool) → toggles first half b ≡ r → r ≡ false
    by true on =
        let n = next_exists first half now b after on in
        let le : nat_le n.0 stop ≡ true = let a = n.2 in let c = before in grind (arith, nat_tests) in
        let none : [] ≡ n.0 ∷ [] = same ∙ ap (up_to stop) n.1 ∙ ap (λ b. cond b (n.0 ∷ []) []) le in cc
    by false off = refl

-- and the clock toggles there
pub toggles_found : (first half now stop : ℕ) (found : Option ℕ) → up_to stop found ≡ up_to stop (next_time first half now) → IfSome found (λ t. t ≤ stop) → IfSome found (λ t. toggles first half t ≡ true)
toggles_found first half now stop None same within = tt
toggles_found first half now stop (Some t) same within =
    let le : nat_le t stop ≡ true = let h = within in grind (arith, nat_tests) in
    (next_is first half now t (only_some stop (next_time first half now) t (ap (λ b. cond b (t ∷ []) []) (sym le) ∙ same))).toggling
