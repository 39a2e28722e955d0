use Rattle.std.proofs.Common.{◌≡◌, ℕ, ◌+◌, ◌<◌, ◌++◌, ◌∷◌, [], Bool, true, false, not, List, length, get_or, take, Option, Some, None, sym, subst, refl}
use Rattle.std.specs.Option.{is_some}
use Rattle.std.proofs.lemmas.List.{take_more}
use Rattle.rtl_check_levels.specs.Lowest.{LowestOpen}
use Rattle.rtl_check_levels.proofs.Rotating.{lowest_stays, lowest_keeps, lowest_goes}
use Rattle.rtl_check_levels.proofs.rounds.lowest_open.Goals as goal
use Rattle.rtl_check_levels.proofs.rounds.lowest_open.Goals.{then-is_none+then-is_lower, else-is_none, else-is_none-via-then-is_none+else-is_lower, else-is_none-via-else-is_none}

stands : (ps : List ℕ) (i : ℕ) (levels : List (Option ℕ)) (o r : Option ℕ) → i < length ps → o ≡ r
    → LowestOpen (take i ps ++ get_or ps i 0 ∷ []) levels r → LowestOpen (take (i + 1) ps) levels o
stands ps i levels o r l e k = rw (take_more ps i 0 l) (subst (LowestOpen (take i ps ++ get_or ps i 0 ∷ []) levels) (sym e) k)

lacks : (o : Option ℕ) (b : Bool) → is_some o ≡ not b → b ≡ true → o ≡ None
lacks None b e t = refl
lacks (Some x) b e t = let k : true ≡ not true = subst (λ (z : Bool). true ≡ not z) t e in absurd cc

has : (o : Option ℕ) (b : Bool) → is_some o ≡ not b → b ≡ false → o ≡ None → ⊥
has None b e t u = let k : false ≡ not false = subst (λ (z : Bool). false ≡ not z) t e in absurd cc
has (Some x) b e t u = cc

pub loop-p-preserved : goal.loop-p-preserved
loop-p-preserved c =
    let l = c.loop-p-test.true in
    let ps = c.args.processes.now in
    let i = c.loop-p.p-index in
    let x = get_or ps i 0 in
    let ls = c.args.levels.now in
    let v = c.loop-p.invariant in
    elim c.if-is_none.branch [
      | then-is_none+then-is_lower w ↦ stands ps i ls c.if-is_none.lowest (Some x) l w.lowest-is (lowest_goes (take i ps) ls x c.loop-p.lowest v (lacks (get_or ls x None) c.is_none.result c.is_none.ensures w.if-is_none.true) (w.is_lower.ensures.0 w.if-is_lower.true))
      | else-is_none w ↦ elim w.else-is_none.branch [
        | else-is_none-via-then-is_none+else-is_lower w' ↦ stands ps i ls c.if-is_none.lowest c.loop-p.lowest l w.lowest-is
            (lowest_keeps (take i ps) ls x c.loop-p.lowest v (λ k. let t = w'.is_lower.ensures.1 k in let f = w'.if-is_lower.false in absurd cc))
        | else-is_none-via-else-is_none w' ↦ stands ps i ls c.if-is_none.lowest c.loop-p.lowest l w.lowest-is (lowest_stays (take i ps) ls x c.loop-p.lowest v (has (get_or ls x None) c.is_none.result c.is_none.ensures w'.if-is_none.false))
      ]
    ]
