use Rattle.std.proofs.Common.{rules, ◌≡◌, ℕ, length, Option, Some, sym, subst, arith}
use Rattle.std.proofs.lemmas.Grind.{common_steps}
use Rattle.rtl_looks.specs.declared.hubs.Look.{Look}
use Rattle.rtl_looks.specs.declared.hubs.Look.TheVariants as l
use Rattle.rtl_looks.specs.Evaluating.{Joins}
use Rattle.rtl_looks.proofs.Joining.{no_right, alone, both}
use Rattle.rtl_looks.proofs.hubs.Hubs.join.Goals as goal

pub returns-in_default-None : goal.returns-in_default-None
returns-in_default-None c =
    let hs = c.args.self.now.hubs.items in
    subst (λ (o : Option Look). Joins hs hs c.args.left o c.args.left) (sym c.in_default-None.is-1) (no_right hs c.args.left)

pub returns-in_ok-push-in-Some-Some : goal.returns-in_ok-push-in-Some-Some
returns-in_ok-push-in-Some-Some c =
    let a = c.in-Some-Some in
    let hs = c.args.self.now.hubs.items in
    let ns = c.push.new.self.items in
    let many : length hs ≡ c.len-number.result = omega (arith, c.args.self.now.hubs.ok.0) in
    let made = both hs ns a.left a.right c.in_ok-push-in-Some-Some.ensures.items in
    subst (λ (o : Option Look). Joins hs ns o c.args.right (Some (l.Hub c.len-number.result))) (sym a.is-0)
    (subst (λ (o : Option Look). Joins hs ns (Some a.left) o (Some (l.Hub c.len-number.result))) (sym a.is-1)
    (subst (λ (n : ℕ). Joins hs ns (Some a.left) (Some a.right) (Some (l.Hub n))) many made))

pub returns-then-eq : goal.returns-then-eq
returns-then-eq c =
    let a = c.in-Some-Some in
    let hs = c.args.self.now.hubs.items in
    let same : a.left ≡ a.right = first_of (search rules, grind (arith, common_steps)) in
    subst (λ (o : Option Look). Joins hs hs o c.args.right (Some a.left)) (sym a.is-0)
    (subst (λ (o : Option Look). Joins hs hs (Some a.left) o (Some a.left)) (sym a.is-1)
    (subst (λ (o : Look). Joins hs hs (Some a.left) (Some o) (Some a.left)) same (alone hs (Some a.left))))
