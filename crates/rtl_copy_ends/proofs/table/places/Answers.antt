use Rattle.std.proofs.Common.{◌≡◌, ℕ, refl, subst, arith}
use Rattle.rtl_copy_ends.specs.Steps.{IsEach}
use Rattle.rtl_copy_ends.proofs.Stepping.{one-more}
use Rattle.rtl_copy_ends.proofs.table.places.Goals as goal

pub loop-place-preserved : goal.loop-place-preserved
loop-place-preserved c =
    let l = c.loop-place in
    let more = one-more (λ (k : ℕ). k) l.places.items c.push.new.self.items l.place l.place l.invariant.many c.in_ok-push.ensures.items l.invariant.each refl in
    record { many = more.0; each = more.1 }

pub returns : goal.returns
returns c =
    let l = c.loop-place in
    let all : l.place ≡ c.args.many = (let h = l.auto.place-end in let g = c.loop-place-test.false in omega arith) in
    subst (λ (n : ℕ). IsEach n l.places.items) all l.invariant
