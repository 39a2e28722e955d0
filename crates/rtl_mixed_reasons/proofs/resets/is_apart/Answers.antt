use Rattle.std.proofs.Common.{◌≡◌, ℕ, ◌&&◌, Bool, true, false, Option, Some, None, refl, ap, sym, ◌∙◌}
use Rattle.std.specs.Prelude.{is_some, is_none}
use Rattle.rtl_body_facts.specs.Reading.{is_in}
use Rattle.rtl_mixed_reasons.specs.Reasons.{assigns_in, first_net}
use Rattle.rtl_mixed_reasons.proofs.Driven.{net-is}
use Rattle.rtl_mixed_reasons.proofs.Searches.{from-not}
use Rattle.rtl_mixed_reasons.proofs.resets.is_apart.Goals as goal

apart-none : (o : Option ℕ) (b : Bool) → is_none o ≡ true → (is_some o && b) ≡ false
apart-none None b e = refl
apart-none (Some n) b e = absurd cc

apart-some : (o : Option ℕ) (b : Bool) → is_none o ≡ false → (is_some o && b) ≡ b
apart-some (Some n) b e = refl
apart-some None b e = absurd cc

pub returns-then-is_none : goal.returns-then-is_none
returns-then-is_none c =
    let p = c.args.process.now in
    let x = c.args.statement.now in
    let first : c.first_net.result ≡ first_net p (assigns_in p x) = c.first_net.ensures ∙ net-is p _ _ (λ n. ap (is_in n) c.deref.ensures.value ∙ c.in_ok-nets.ensures.are n) in
    let none : is_none (first_net p (assigns_in p x)) ≡ true = ap is_none (sym first) ∙ from-not _ _ _ c.is_none.ensures c.if-is_none.true in
    sym (apart-none _ _ none)

pub returns : goal.returns
returns c =
    let p = c.args.process.now in
    let x = c.args.statement.now in
    let edge : ℕ → Bool = λ n. is_in n c.args.edge.now in
    let first : c.first_net.result ≡ first_net p (assigns_in p x) = c.first_net.ensures ∙ net-is p _ _ (λ n. ap (is_in n) c.deref.ensures.value ∙ c.in_ok-nets.ensures.are n) in
    let some : is_none (first_net p (assigns_in p x)) ≡ false = ap is_none (sym first) ∙ from-not _ _ _ c.is_none.ensures c.if-is_none.false in
    sym (from-not _ _ _ c.is_none-2.ensures refl)
    ∙ (ap is_none (c.first_common.ensures ∙ net-is p _ _ (λ n. ap (λ (b : Bool). b && edge n) (ap (is_in n) c.deref-2.ensures.value ∙ c.in_ok-nets.ensures.are n)))
    ∙ sym (apart-some _ _ some))
