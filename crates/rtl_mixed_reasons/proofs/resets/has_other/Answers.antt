use Rattle.std.proofs.Common.{◌≡◌, ◌<◌, ℕ, Bool, List, Option, not, take, length, get_or, ap, sym, ◌∙◌, arith}
use Rattle.std.specs.Prelude.{is_some}
use Rattle.rtl_model.specs.bodies.Body.{Test}
use Rattle.rtl_net.specs.declared.body.Branch.{Branch}
use Rattle.rtl_net.specs.Bodies.{test_view}
use Rattle.rtl_mixed_reasons.specs.Reasons.{is_reset, reset_net, tests_of}
use Rattle.rtl_mixed_reasons.proofs.Branching.{test-at, test-there}
use Rattle.rtl_mixed_reasons.proofs.Searches.{any-found, any-passed, taken-at, taken-there, from-not}
use Rattle.rtl_mixed_reasons.proofs.resets.has_other.Goals as goal

-- a branch among the first so many has its test among theirs
taken-test : (n : ℕ) (bs : List Branch) (i : ℕ) (b : Branch) → i < n → i < length bs → b ≡ get_or bs i b
    → (i < length (take n (tests_of bs))) × (test_view b.test ≡ get_or (take n (tests_of bs)) i (test_view b.test))
taken-test n bs i b before within is = (taken-there n (tests_of bs) i before (test-there bs i within), taken-at n (tests_of bs) i (test_view b.test) before (test-at bs i b within is))

-- whether a branch's test is another than a reset's, by what is found of it
asked : {b x : Branch} {net : Option ℕ} {so : Bool} → b ≡ x → net ≡ reset_net (test_view x.test) → not (is_some net) ≡ so → not (is_reset (test_view b.test)) ≡ so
asked is found so = ap (λ (x : Branch). not (is_some (reset_net (test_view x.test)))) is ∙ (ap (λ (o : Option ℕ). not (is_some o)) (sym found) ∙ so)

pub returns-then-is_none : goal.returns-then-is_none
returns-then-is_none c =
    let l = c.loop-i in
    let (there, is) = taken-test c.args.before c.args.branches.now l.i c.index-branches-i.result (omega (arith, c.min-i-end.ensures, c.loop-i-test.true)) (omega (arith, c.min-i-end.ensures, c.loop-i-test.true)) c.index-branches-i.is in
    any-found (λ (t : Test). not (is_reset t)) (take c.args.before (tests_of c.args.branches.now)) l.i (test_view c.index-branches-i.result.test) _ there is l.invariant (asked c.index-branches-i.is c.reset_net.ensures (from-not _ _ _ c.is_none.ensures c.if-is_none.true))

pub loop-i-preserved : goal.loop-i-preserved
loop-i-preserved c =
    let l = c.loop-i in
    let (there, is) = taken-test c.args.before c.args.branches.now l.i c.index-branches-i.result (omega (arith, c.min-i-end.ensures, c.loop-i-test.true)) (omega (arith, c.min-i-end.ensures, c.loop-i-test.true)) c.index-branches-i.is in
    any-passed (λ (t : Test). not (is_reset t)) (take c.args.before (tests_of c.args.branches.now)) l.i (test_view c.index-branches-i.result.test) _ there is l.invariant (asked c.index-branches-i.is c.reset_net.ensures (from-not _ _ _ c.is_none.ensures c.if-is_none.false))
