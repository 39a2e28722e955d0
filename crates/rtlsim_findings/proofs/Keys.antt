-- Causes as keys of a set: the derived test of two says what the definition says.
use Rattle.std.proofs.Common.{◌≡◌, ℕ, ◌+◌, ◌==◌, Bool, true, false, ◌&&◌, List, Option, Some, None, refl, sym, ap, ◌∙◌, arith}
use Rattle.std.specs.List.{position_or_len}
use Rattle.std.specs.Option.{option_eq}
use Rattle.std.specs.Prelude.{if◌then◌else◌, cond}
use Rattle.std.proofs.lemmas.List.Recursion.{is_position_or_len}
use Rattle.rtl_latches.specs.declared.omission.Omission.{Omission}
use Rattle.rtl_latches.specs.declared.omission.Omission.TheVariants.{NoElse, Branch, Alternative, Row}
use Rattle.rtl_latches.specs.contracts.omission.OmissionPartialEq.TheImpl as omission
use Rattle.rtlsim_findings.specs.Causes.{is_same, is_same_number, is_same_obstacle}
use Rattle.rtlsim_findings.specs.Omitted as omitted
use Rattle.rtlsim_findings.specs.contracts.cause.CausePartialEq.TheImpl.{ghosts}
use Rattle.rtlsim_findings.specs.contracts.cause.ObstaclePartialEq.TheImpl as obstacle
use Rattle.rtlsim_findings.specs.declared.cause.Cause.{Cause}
use Rattle.rtlsim_findings.specs.declared.cause.Obstacle.{Obstacle}
use Rattle.rtlsim_findings.specs.steps.Joining.{place_in}

pub numbers : (a b : Option ℕ) → option_eq ◌==◌ a b ≡ is_same_number a b
numbers None None = refl
numbers (Some x) (Some y) = refl
numbers _ _ = refl

omissions : (a b : Omission) → omission.ghosts.eq a b ≡ omitted.is_same a b
omissions (NoElse at) (NoElse by) = refl
omissions (Branch at n) (Branch by m) = refl
omissions (Alternative at n) (Alternative by m) = refl
omissions (Row at) (Row by) = refl
omissions _ _ = refl

some-omissions : (a b : Option Omission) → option_eq omission.ghosts.eq a b ≡ omitted.are_same a b
some-omissions None None = refl
some-omissions (Some x) (Some y) = omissions x y
some-omissions _ _ = refl

obstacles : (a b : Option Obstacle) → option_eq obstacle.ghosts.eq a b ≡ is_same_obstacle a b
obstacles None None = refl
obstacles (Some x) (Some y) = refl
obstacles _ _ = refl

five : (a b c d e : Bool) → (a && (b && (c && (d && e)))) ≡ ((((a && b) && c) && d) && e)
five false b c d e = refl
five true false c d e = refl
five true true false d e = refl
five true true true false e = refl
five true true true true e = refl

pub same : (a b : Cause) → ghosts.eq a b ≡ is_same a b
same a b =
    (λ i. (a.number == b.number) && (numbers a.first b.first i && (numbers a.second b.second i && (some-omissions a.omission b.omission i && obstacles a.obstacle b.obstacle i))))
    ∙ five (a.number == b.number) (is_same_number a.first b.first) (is_same_number a.second b.second) (omitted.are_same a.omission b.omission) (is_same_obstacle a.obstacle b.obstacle)

pub placed : (c : Cause) (cs : List Cause) → place_in c cs ≡ position_or_len (ghosts.eq c) cs
placed c cs = is_position_or_len (place_in c) (ghosts.eq c) refl (λ x xs. step (place_in c xs) (is_same c x) ∙ ap (λ b. cond b 0 (1 + place_in c xs)) (sym (same c x))) cs
  where
    step : (n : ℕ) (b : Bool) → (if b then 0 else n + 1) ≡ cond b 0 (1 + n)
    step n true = refl
    step n false = omega arith
