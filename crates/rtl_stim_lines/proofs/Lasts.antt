-- What is set last.
use Rattle.std.proofs.Common.{◌≡◌, ℕ, Bool, true, false, cond, not, nat_lt, List, [], ◌∷◌, ◌++◌, Option, Some, refl, ap, sym, ◌∙◌, arith}
use Rattle.std.specs.Prelude.{◌==◌, nat_le, filter, option_map}
use Rattle.std.specs.Ordering.{is_lt, nat_cmp}
use Rattle.std.specs.declared.cmp.Ordering.TheVariants.{Less, Equal, Greater}
use Rattle.std.specs.declared.ops.Bound.TheVariants.{Included, Unbounded}
use Rattle.std.specs.BTreeMap.Range.{entries_between}
use Rattle.std.proofs.lemmas.Bool.Decides.{nat_tests}
use Rattle.vhdl_values.specs.declared.scalar.Nine.{Nine}
use Rattle.rtl_stim_lines.specs.Courses.{last_of, set_by}

last_push : (xs : List (ℕ × List Nine)) (x : ℕ × List Nine) → last_of (xs ++ x ∷ []) ≡ Some x
last_push [] x = refl
last_push (a ∷ []) x = refl
last_push (a ∷ b ∷ xs) x = last_push (b ∷ xs) x

tested : (a b : Bool) (t q : ℕ) → nat_lt t q ≡ a → not (is_lt (cond a Less (cond b Equal Greater))) ≡ nat_le q t
tested true b t q e = let f : nat_le q t ≡ false = grind (arith, nat_tests) in sym f
tested false true t q e = let f : nat_le q t ≡ true = grind (arith, nat_tests) in sym f
tested false false t q e = let f : nat_le q t ≡ true = grind (arith, nat_tests) in sym f

-- what a map has up to a time is what isn't after it
not_after : (t : ℕ) (es : List (ℕ × List Nine)) → entries_between nat_cmp Unbounded (Included t) es ≡ filter (λ s. nat_le s.0 t) es
not_after t [] = refl
not_after t (e ∷ es) =
    ap (λ b. cond b (e ∷ entries_between nat_cmp Unbounded (Included t) es) (entries_between nat_cmp Unbounded (Included t) es)) (tested (nat_lt t e.0) (t == e.0) t e.0 refl)
    ∙ ap (λ r. cond (nat_le e.0 t) (e ∷ r) r) (not_after t es)

pub last_set : (t : ℕ) (es front : List (ℕ × List Nine)) (e : ℕ × List Nine) → entries_between nat_cmp Unbounded (Included t) es ≡ front ++ e ∷ [] → set_by es t ≡ Some e
last_set t es front e h = ap last_of (sym (not_after t es) ∙ h) ∙ last_push front e
