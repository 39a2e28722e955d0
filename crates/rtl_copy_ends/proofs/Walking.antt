-- A walk down copies, by where its places lead.
use Rattle.std.proofs.Common.{◌≡◌, ℕ, zero, suc, ◌+◌, ◌*◌, ◌-◌, ◌/◌, ◌%◌, ◌<◌, ◌≤◌, Bool, true, false, List, Option, Some, None, refl, sym, ap, subst, ◌∙◌, length, arith}
use Rattle.std.specs.Prelude.{All, is_some, nat_lt, slice_get, slice_index, if◌then◌else◌}
use Rattle.std.proofs.lemmas.Bool.{ltb-true}
use Rattle.std.proofs.lemmas.List.Elements.{All-from_get_or}
use Rattle.rtl_model.specs.bodies.Copies.{CopyPart, copying}
use Rattle.rtl_model.specs.nets.FlatNetlist.{flat_sources}
use Rattle.rtl_net.specs.declared.process.Process.{Process}
use Rattle.rtl_net.specs.Nets.{NetlistView, body_of, flat}
use Rattle.rtl_body_facts.specs.declared.kinds.ProcessKind.{ProcessKind}
use Rattle.rtl_body_facts.specs.declared.kinds.ProcessKind.TheVariants as k
use Rattle.rtl_process_kinds.specs.AskedValues.{number_of, numbered}
use Rattle.rtl_process_kinds.specs.declared.asked.Asked.{Asked}
use Rattle.rtl_process_kinds.specs.declared.asked.Asked.TheVariants as a
use Rattle.rtl_process_kinds.specs.declared.copies.Copied.{Copied}
use Rattle.rtl_copy_ends.specs.declared.sight.End.{End}
use Rattle.rtl_copy_ends.specs.declared.sight.End.TheVariants.{Starts}
use Rattle.rtl_copy_ends.specs.declared.sight.Sight.{Sight}
use Rattle.rtl_copy_ends.specs.declared.sight.Sight.TheVariants.{Ends, Copies}
use Rattle.rtl_copy_ends.specs.declared.sight.Standing.{Standing}
use Rattle.rtl_copy_ends.specs.Ends.{driver_of, if_driven, copied_in, driven_copy, starts_held, kind_in, sight_of_copy, sight_of_logic, sight_of_kind, sight_of_process, sight_of_driver, sole_driver, look, end_or, walk_copies}
use Rattle.rtl_copy_ends.specs.Steps.{place_of, standing_at, place_or, next, after, AreSteps, AreAfter}
use Rattle.rtl_copy_ends.proofs.Stepping.{after-ended, after-same}

-- ---- places

net-of : (n : ℕ) (asked : Asked) → (4 * n + number_of asked) / 4 ≡ n
net-of n a.Zero = omega arith
net-of n a.One = omega arith
net-of n a.Low = omega arith
net-of n a.High = omega arith

asked-of : (n : ℕ) (asked : Asked) → numbered ((4 * n + number_of asked) % 4) ≡ asked
asked-of n a.Zero = ap numbered (let e : (4 * n + 0) % 4 ≡ 0 = omega arith in e)
asked-of n a.One = ap numbered (let e : (4 * n + 1) % 4 ≡ 1 = omega arith in e)
asked-of n a.Low = ap numbered (let e : (4 * n + 2) % 4 ≡ 2 = omega arith in e)
asked-of n a.High = ap numbered (let e : (4 * n + 3) % 4 ≡ 3 = omega arith in e)

pub place-within : (n many : ℕ) (asked : Asked) → n < many → 4 * n + number_of asked < 4 * many
place-within n many a.Zero l = omega arith
place-within n many a.One l = omega arith
place-within n many a.Low l = omega arith
place-within n many a.High l = omega arith

at-place : (s : Standing) → s.copied ≡ true → standing_at (place_of s) ≡ s
at-place s e = λ i. record { net = net-of s.net s.asked i; asked = asked-of s.net s.asked i; copied = sym e i }

-- ---- a net that is copied is there

module _ (net : NetlistView) where
  abbrev IsThere : Standing → Type 0
  IsThere s = (s.copied ≡ true) × (s.net < length net.types)

  abbrev Leads : Sight → Type 0
  Leads (Ends end) = Unit {0}
  Leads (Copies s) = IsThere s

  abbrev IsDriven : Option Copied → Type 0
  IsDriven None = Unit {0}
  IsDriven (Some c) = c.net < length net.types

  driven-there : (c : Copied) → IsDriven (if_driven net c)
  driven-there c = go (nat_lt c.net (length net.types)) refl (driver_of (flat_sources (flat net) c.net))
    where
      go : (b : Bool) → nat_lt c.net (length net.types) ≡ b → (o : Option ℕ) → IsDriven (if is_some (if b then o else None) then Some c else None)
      go true is None = tt
      go true is (Some n) = ltb-true c.net (length net.types) is
      go false is o = tt

  copied-there : (o : Option CopyPart) → IsDriven (copied_in net o)
  copied-there None = tt
  copied-there (Some c) = driven-there (record { net = c.net; inverted = c.inverted })

  of-copy : (s : Standing) (o : Option Copied) → IsDriven o → Leads (sight_of_copy s o)
  of-copy s None is = tt
  of-copy s (Some c) is = (refl, is)

  of-logic : (s : Standing) (o : Option Copied) → IsDriven o → Leads (sight_of_logic net s o)
  of-logic s o is = go (starts_held net s) (of-copy s o is)
    where
      go : (b : Bool) → Leads (sight_of_copy s o) → Leads (if b then Ends (Starts s.net) else sight_of_copy s o)
      go true l = tt
      go false l = l

  of-kind : (s : Standing) (p : Process) (kind : ProcessKind) → Leads (sight_of_kind net s p kind)
  of-kind s p k.Combinational = of-logic s (driven_copy net p) (copied-there (copying (body_of p)))
  of-kind s p (k.Clocked c) = tt
  of-kind s p k.Mixed = tt

  of-process : (s : Standing) (o : Option Process) → Leads (sight_of_process net s o)
  of-process s None = tt
  of-process s (Some p) = of-kind s p (kind_in net p)

  of-driver : (s : Standing) (o : Option ℕ) → Leads (sight_of_driver net s o)
  of-driver s None = tt
  of-driver s (Some q) = of-process s (slice_get net.processes q)

  pub copied-is : (s t : Standing) → Copies t ≡ look net s → IsThere t
  copied-is s t is = subst Leads (sym is) (of-driver s (sole_driver net s.net))

  -- ---- many steps, and what is seen then

  abbrev circle : Standing → End
  circle = walk_copies net zero

  walked : (k : ℕ) (s : Standing) → s.copied ≡ true → walk_copies net (suc k) s ≡ end_or circle (look net (standing_at (after (next net) k (place_of s))))
  walked zero s e = ap (λ (x : Standing). end_or circle (look net x)) (sym (at-place s e))
  walked (suc k) s e = go (look net s) refl (λ t c. walked k t c)
    where
      seen : look net (standing_at (place_of s)) ≡ look net s
      seen = ap (look net) (at-place s e)

      go : (x : Sight) → look net s ≡ x → ((t : Standing) → t.copied ≡ true → walk_copies net (suc k) t ≡ end_or circle (look net (standing_at (after (next net) k (place_of t)))))
          → walk_copies net (suc (suc k)) s ≡ end_or circle (look net (standing_at (after (next net) (suc k) (place_of s))))
      go (Ends end) is more =
          ap (end_or (walk_copies net (suc k))) is
          ∙ sym (ap (λ (p : ℕ). end_or circle (look net (standing_at p))) (after-ended (next net) (place_of s) (ap (place_or (place_of s)) (seen ∙ is)) (suc k))
          ∙ ap (end_or circle) (seen ∙ is))
      go (Copies t) is more =
          ap (end_or (walk_copies net (suc k))) is
          ∙ (more t (copied-is s t (sym is)).0
          ∙ ap (λ (p : ℕ). end_or circle (look net (standing_at (after (next net) k p)))) (sym (ap (place_or (place_of s)) (seen ∙ is))))

  -- ---- a walk of as many steps as there are processes

  pub first-ends : (many : ℕ) (s : Standing) (end : End) → 0 < many → Ends end ≡ look net s → end ≡ walk_copies net many s
  first-ends zero s end l is = absurd (omega arith)
  first-ends (suc k) s end l is = ap (end_or (walk_copies net k)) is

  pub last-seen : (many place : ℕ) (s t : Standing) → 2 ≤ many → Copies t ≡ look net s → place ≡ after (next net) (many - 2) (place_of t)
      → end_or circle (look net (standing_at place)) ≡ walk_copies net many s
  last-seen zero place s t l is at = absurd (omega arith)
  last-seen (suc zero) place s t l is at = absurd (omega arith)
  last-seen (suc (suc k)) place s t l is at =
      let many : suc (suc k) - 2 ≡ k = omega arith in
      ap (λ (p : ℕ). end_or circle (look net (standing_at p))) (at ∙ ap (λ (n : ℕ). after (next net) n (place_of t)) many)
      ∙ (sym (walked k t (copied-is s t is).0)
      ∙ ap (end_or (walk_copies net (suc k))) is)

  -- ---- the table of all walks

  next-within : (place : ℕ) → place < 4 * length net.types → next net place < 4 * length net.types
  next-within place l = go (look net (standing_at place)) refl
    where
      go : (x : Sight) → look net (standing_at place) ≡ x → place_or place x < 4 * length net.types
      go (Ends end) is = l
      go (Copies t) is = place-within t.net (length net.types) t.asked (copied-is (standing_at place) t (sym is)).1

  stays : (steps : List ℕ) → AreSteps net steps → (p : ℕ) → p < length steps → slice_index steps p < length steps
  stays steps are p l =
      let inside : p < 4 * length net.types = subst (λ (n : ℕ). p < n) are.many l in
      subst (λ (q : ℕ). q < length steps) (sym (are.each p inside)) (subst (λ (n : ℕ). next net p < n) (sym are.many) (next-within p inside))

  pub steps-within : (steps : List ℕ) → AreSteps net steps → All (λ p. p < length steps) steps
  steps-within steps are = All-from_get_or (λ p. p < length steps) steps 0 (stays steps are)

  pub all-far : (steps far : List ℕ) (many : ℕ) → AreSteps net steps → AreAfter steps many far → (p : ℕ) → p < 4 * length net.types → slice_index far p ≡ after (next net) many p
  all-far steps far many are is p l =
      let inside : p < length steps = subst (λ (n : ℕ). p < n) (sym are.many) l in
      is.each p inside ∙ after-same (slice_index steps) (length steps) (stays steps are) (next net) (λ q m. are.each q (subst (λ (n : ℕ). q < n) are.many m)) many p inside
