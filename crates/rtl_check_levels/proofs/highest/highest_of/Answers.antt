use Rattle.std.proofs.Common.{◌≡◌, ℕ, ◌+◌, ◌<◌, ◌++◌, ◌∷◌, [], List, length, get_or, take, Option, None, true, sym, subst}
use Rattle.std.specs.Prelude.{IsSome}
use Rattle.std.specs.Option.{is_some}
use Rattle.std.proofs.lemmas.List.{take_more}
use Rattle.rtl_check_levels.specs.declared.counting.Counting.{Counting}
use Rattle.rtl_check_levels.specs.declared.highest.Highest.{Highest}
use Rattle.rtl_check_levels.specs.Levels.{IsHighest}
use Rattle.rtl_check_levels.proofs.OneMore.{highest_more, nothing_is_highest}
use Rattle.rtl_check_levels.proofs.highest.highest_of.Goals as goal
use Rattle.rtl_check_levels.proofs.highest.highest_of.Goals.{in-Some, in_default}

stands : (counting : Counting) (ps : List ℕ) (i : ℕ) (levels from : List (Option ℕ)) (h r : Highest) → i < length ps → h ≡ r
    → IsHighest counting (take i ps ++ get_or ps i 0 ∷ []) levels from r.level r.row → IsHighest counting (take (i + 1) ps) levels from h.level h.row
stands counting ps i levels from h r l e k = rw (take_more ps i 0 l) (subst (λ (x : Highest). IsHighest counting (take i ps ++ get_or ps i 0 ∷ []) levels from x.level x.row) (sym e) k)

none_has : {o : Option ℕ} → IsSome o → o ≡ None → ⊥
none_has h e = let k : is_some {T = ℕ} None ≡ true = subst IsSome e h in cc

pub loop-row-init : goal.loop-row-init
loop-row-init c = nothing_is_highest _ _ _

pub loop-row-preserved : goal.loop-row-preserved
loop-row-preserved c =
    let l = c.loop-row-test.true in
    let ps = c.args.rows.now in
    let i = c.loop-row.row-index in
    elim c.match-levels-row.branch [
      | in-Some w ↦ stands c.args.counting ps i _ _ _ _ l w.highest-is
          (highest_more c.args.counting (take i ps) _ _ c.loop-row.highest w.higher-highest.result (get_or ps i 0) w.in-Some.level w.seen_of.result c.loop-row.invariant w.in-Some.is
          (c.requires.seen (get_or ps i 0) w.in-Some.level w.in-Some.is) w.seen_of.ensures w.higher-highest.ensures)
      | in_default w ↦ (absurd (none_has (c.requires.each i 0 l) w.in_default.is))
    ]
