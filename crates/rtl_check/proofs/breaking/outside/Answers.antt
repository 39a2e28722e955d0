use Rattle.std.proofs.Common.{◌≡◌, ℕ, Bool, true, false, cond, ◌||◌, ◌==◌, List, [], ◌∷◌, refl, sym, ap, subst, ◌∙◌}
use Rattle.std.specs.Prelude.{not}
use Rattle.std.specs.List.{filter}
use Rattle.std.proofs.lemmas.Bool.{eq-eqb}
use Rattle.std.proofs.lemmas.Bool.Decides.{Decides-eqb}
use Rattle.std.proofs.lemmas.Slice.Eq.{slice_eq-Decides}
use Rattle.rtl_body_facts.specs.Reading.{is_in}
use Rattle.rtl_check.proofs.breaking.outside.Goals as goal

-- none of some numbers is outside of numbers among which all of them are
none_outside : (xs zs : List ℕ) → ((n : ℕ) → is_in n xs ≡ true → is_in n zs ≡ true) → filter (λ n. not (is_in n zs)) xs ≡ []
none_outside [] zs h = refl
none_outside (x ∷ xs) zs h =
    ap (λ (b : Bool). cond (not b) (x ∷ filter (λ n. not (is_in n zs)) xs) (filter (λ n. not (is_in n zs)) xs))
    (h x (ap (λ (b : Bool). b || is_in x xs) (eq-eqb x x refl)))
    ∙ none_outside xs zs (λ n e. h n (later (x == n) (is_in n xs) e))
  where
    later : (a b : Bool) → b ≡ true → (a || b) ≡ true
    later true b e = refl
    later false b e = e

pub returns-then-eq : goal.returns-then-eq
returns-then-eq c =
    c.new.ensures.items ∙ sym (none_outside c.args.nets.now c.args.others.now (λ n e. subst (λ (xs : List ℕ). is_in n xs ≡ true) alike e))
  where
    alike : c.args.nets.now ≡ c.args.others.now
    alike = (slice_eq-Decides (λ a b. Decides-eqb a b) c.args.nets.now c.args.others.now c.eq.result c.eq.ensures).0 c.if-eq.true
