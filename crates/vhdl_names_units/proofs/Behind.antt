-- Of things one behind another, what is left behind those that went well.
use Rattle.std.proofs.Common.{◌≡◌, ℕ, suc, ◌+◌, ◌<◌, arith, List, ◌∷◌, map, length, get_or, drop, drop-cons, ap, sym, ◌∙◌}
use Rattle.vhdl_names_rules.specs.declared.fault.NameFault.{NameFault}
use Rattle.vhdl_names_rules.specs.problems.Broken.{Broken, Tells, ◌▸◌, any_of}
use Rattle.vhdl_names_rules.proofs.Telling.{IsKept, behind_kept, told_same, told_left}

-- the next thing, and what is left behind it
pub next : {A : Type 0} (xs : List A) (i : ℕ) (x : A) → i < length xs → x ≡ get_or xs i x → drop i xs ≡ x ∷ drop (i + 1) xs
next xs i x lt is =
    let e : suc i ≡ i + 1 = omega arith in
    drop-cons xs i x lt ∙ ap (λ y. y ∷ drop (suc i) xs) (sym is) ∙ ap (λ k. x ∷ drop k xs) e

-- what is told of each
module _ {A B : Type 0} (view : A → B) (xs : List A) (i : ℕ) (x : A) (lt : i < length xs) (is : x ≡ get_or xs i x) where
  pub next_told : (b : B → Broken) (f : NameFault) → any_of b (map view xs) ≡ any_of b (map view (drop i xs)) → Tells (b (view x)) f → Tells (any_of b (map view xs)) f
  next_told b f inv h =
      told_same (b (view x) ▸ any_of b (map view (drop (i + 1) xs))) (any_of b (map view xs)) f (sym (inv ∙ ap (λ l. any_of b (map view l)) (next xs i x lt is)))
      (told_left (b (view x)) (any_of b (map view (drop (i + 1) xs))) f h)

  pub next_left : (b : B → Broken) → any_of b (map view xs) ≡ any_of b (map view (drop i xs)) → IsKept (b (view x))
      → any_of b (map view xs) ≡ any_of b (map view (drop (i + 1) xs))
  next_left b inv kept =
      inv ∙ ap (λ l. any_of b (map view l)) (next xs i x lt is) ∙ behind_kept (b (view x)) (any_of b (map view (drop (i + 1) xs))) kept
