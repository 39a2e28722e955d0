-- Of two parts that stand among each other the fault at the earlier byte is told.
use Rattle.std.proofs.Common.{◌≡◌, arith, Bool, true, false, Some, if◌then◌else◌, nat_le, nat_lt, Result, Ok, Err, IfOk, IfErr, refl, ap, sym, subst, ◌∙◌, ltb-true, ltb-false, leb-true, leb-false}
use Rattle.vhdl_names_rules.specs.declared.fault.NameFault.{NameFault}
use Rattle.vhdl_names_rules.specs.declared.fault.NameFault.TheVariants.{At, NoMemory}
use Rattle.vhdl_names_rules.specs.problems.Broken as broken
use Rattle.vhdl_names_rules.specs.problems.Broken.{Broken, Tells, nothing}
use Rattle.vhdl_names_units.specs.Faults.{earlier}

pub told_earlier : (a b : Broken) (f g : NameFault) → Tells a f → Tells b g → Tells (broken.earlier a b) (earlier f g)
unfolding broken.earlier
told_earlier a b NoMemory g ha hb = tt
told_earlier a b (At p at) NoMemory ha hb = tt
told_earlier a b (At p at) (At q place) ha hb = go (nat_lt place at) (nat_le at place) refl refl
  where
    both : broken.earlier a b ≡ broken.earlier (Some (p, at)) (Some (q, place))
    both = ap (λ x. broken.earlier x b) ha ∙ ap (broken.earlier (Some (p, at))) hb

    go : (less le : Bool) → nat_lt place at ≡ less → nat_le at place ≡ le → Tells (broken.earlier a b) (if less then At q place else At p at)
    go true true l m = absurd (omega (arith, ltb-true place at l, leb-true at place m))
    go true false l m = both ∙ ap (λ x. if x then Some (p, at) else Some (q, place)) m
    go false true l m = both ∙ ap (λ x. if x then Some (p, at) else Some (q, place)) m
    go false false l m = absurd (omega (arith, ltb-false place at l, leb-false at place m))

-- where the other part breaks nothing
pub told_alone : (a b : Broken) (f : NameFault) → Tells a f → b ≡ nothing → Tells (broken.earlier a b) f
unfolding broken.earlier
told_alone a b NoMemory ha hb = tt
told_alone a b (At p at) ha hb = both
  where
    both : broken.earlier a b ≡ Some (p, at)
    both = ap (λ x. broken.earlier x b) ha ∙ ap (broken.earlier (Some (p, at))) hb

pub told_as : (a b : Broken) (f g r : NameFault) → r ≡ earlier f g → Tells a f → Tells b g → Tells (broken.earlier a b) r
told_as a b f g r e ha hb = subst (Tells (broken.earlier a b)) (sym e) (told_earlier a b f g ha hb)

-- ---- an answer that is refused or not

pub answer_taken : {X : Type 0} (a b : Broken) (f : NameFault) (r : Result X NameFault) (x : X) → r ≡ Ok x → Tells a f → IfOk r (λ _. b ≡ nothing)
    → Tells (broken.earlier a b) f
answer_taken a b f (Ok y) x e h o = told_alone a b f h o
answer_taken a b f (Err g) x e h o = absurd cc

pub answer_refused : {X : Type 0} (b : Broken) (g : NameFault) (r : Result X NameFault) → r ≡ Err g → IfErr r (Tells b) → Tells b g
answer_refused b g (Ok y) e o = absurd cc
answer_refused b g (Err f) e o = let same : f ≡ g = cc in subst (Tells b) same o
