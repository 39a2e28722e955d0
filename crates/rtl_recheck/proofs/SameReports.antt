-- A netlist's reports by nets say the same, and what says the same is such a report.
use Rattle.std.proofs.Common.{◌≡◌, Bool, true, false, not, eqb, List, ℕ, Option, Some, None, refl, sym, ap, subst, ◌∙◌}
use Rattle.std.specs.Bool.{Decides}
use Rattle.std.specs.Option.{option_eq}
use Rattle.std.specs.Cmp.Lexicographic.{pointwise}
use Rattle.std.proofs.lemmas.Bool.{eqb-true, eq-eqb}
use Rattle.std.proofs.lemmas.Slice.Eq.{slice_eq-Decides}
use Rattle.rtl_model.specs.simulation.Netlist.{Netlist, Edge}
use Rattle.rtl_model.specs.simulation.Laws.{OneNetReport}
use Rattle.rtl_model.specs.simulation.NetLevels.{IsNetReport}
use Rattle.rtl_check.specs.declared.reporting.NetReport.{NetReport}
use Rattle.rtl_check.specs.Verdicts.{IsNetReportOf}
use Rattle.rtl_recheck.specs.Kept.{SayTheSame}

-- ---- lists that are tested to be the same

pub numbers : (a b : ℕ) → Decides (eqb a b) (a ≡ b)
numbers a b = (eqb-true a b, eq-eqb a b)

pub options : (a b : Option ℕ) → Decides (option_eq eqb a b) (a ≡ b)
options None None = (λ e. refl, λ e. refl)
options None (Some y) = (λ e. absurd cc, λ e. absurd cc)
options (Some x) None = (λ e. absurd cc, λ e. absurd cc)
options (Some x) (Some y) = (λ e. ap (λ (n : ℕ). Some n) (eqb-true x y e), λ e. (let same : x ≡ y = cc in eq-eqb x y same))

pub same_lists : {A : Type 0} (E : A → A → Bool) → ((a b : A) → Decides (E a b) (a ≡ b)) → (xs ys : List A) (differ : Bool) → differ ≡ not (pointwise E xs ys)
    → (differ ≡ false → xs ≡ ys) × (xs ≡ ys → differ ≡ false)
same_lists E each xs ys differ is = (λ e. decides.0 (back (pointwise E xs ys) (sym is ∙ e)), λ e. is ∙ ap not (decides.1 e))
  where
    decides : Decides (pointwise E xs ys) (xs ≡ ys)
    decides = slice_eq-Decides each xs ys (pointwise E xs ys) refl

    back : (b : Bool) → not b ≡ false → b ≡ true
    back true e = refl
    back false e = absurd cc

-- ---- reports

module _ (net : Netlist) (own other : NetReport) (R : IsNetReportOf net own) where
  pub one : OneNetReport → IsNetReportOf net other → SayTheSame own other
  one law S =
      let (levels, from, nets, looks, clocks, bound) = law net own.levels.items other.levels.items own.from.items other.from.items own.nets.items other.nets.items own.looks.items other.looks.items own.clocks.items other.clocks.items own.bound other.bound R S in
      record { levels = levels; from = from; nets = nets; looks = looks; clocks = clocks; bound = bound }

  pub other_is : SayTheSame own other → IsNetReportOf net other
  other_is same =
      subst (λ (n : ℕ). IsNetReport net other.levels.items other.from.items other.nets.items other.looks.items other.clocks.items n) same.bound
      (subst (λ (xs : List (ℕ × Edge)). IsNetReport net other.levels.items other.from.items other.nets.items other.looks.items xs own.bound) same.clocks
      (subst (λ (xs : List (Option ℕ)). IsNetReport net other.levels.items other.from.items other.nets.items xs own.clocks.items own.bound) same.looks
      (subst (λ (xs : List ℕ). IsNetReport net other.levels.items other.from.items xs own.looks.items own.clocks.items own.bound) same.nets
      (subst (λ (xs : List (Option ℕ)). IsNetReport net other.levels.items xs own.nets.items own.looks.items own.clocks.items own.bound) same.from
      (subst (λ (xs : List (Option ℕ)). IsNetReport net xs own.from.items own.nets.items own.looks.items own.clocks.items own.bound) same.levels R)))))
