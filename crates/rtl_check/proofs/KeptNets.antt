-- Nets that break a rule, in lists.
use Rattle.std.proofs.Common.{◌≡◌, ℕ, Bool, ◌&&◌, List, sym, ap, subst, ◌∙◌, Result, Ok, Err}
use Rattle.std.specs.Prelude.{IfOk}
use Rattle.std.specs.List.{filter}
use Rattle.std.specs.List.Sorted.{IsStrictlyIncreasing}
use Rattle.std.proofs.lemmas.List.Kept.{IsStrictlyIncreasing-filter}
use Rattle.rtl_body_facts.specs.Reading.{is_in}
use Rattle.rtl_body_facts.proofs.EveryPath.{in_filter}

pub if_ok : {T E : Type 0} (P Q : T → Type 0) (r : Result T E) → ((v : T) → P v → Q v) → IfOk r P → IfOk r Q
if_ok P Q (Ok v) on h = on v h
if_ok P Q (Err e) on h = h

pub kept_rise : (f : ℕ → Bool) (v xs ys : List ℕ) → v ≡ filter f xs → xs ≡ ys → IsStrictlyIncreasing ys → IsStrictlyIncreasing v
kept_rise f v xs ys is e rise = subst IsStrictlyIncreasing (sym (is ∙ ap (filter f) e)) (IsStrictlyIncreasing-filter f ys rise)

pub kept_are : (f : ℕ → Bool) (v xs : List ℕ) (n : ℕ) (b : Bool) → v ≡ filter f xs → is_in n xs ≡ b → is_in n v ≡ (b && f n)
kept_are f v xs n b is e = ap (is_in n) is ∙ (in_filter f xs n ∙ ap (λ (c : Bool). c && f n) e)
