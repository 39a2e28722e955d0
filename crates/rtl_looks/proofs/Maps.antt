-- Maps by numbers: what a key has after one is taken or put.
use Rattle.std.proofs.Common.{◌≡◌, ℕ, nat_lt, Bool, true, false, cond, [], Option, None, refl, ap, ◌∙◌, ◌↔◌, ◌<◌, IsSome, List, ◌∷◌, length, subst, arith, sym, ◌⊎◌, inl, inr, ◌==◌, if◌then◌else◌, Some, unwrap_or}
use Rattle.std.proofs.lemmas.Bool.{cases_eq, eq-eqb, ne_eqb}
use Rattle.std.specs.declared.cmp.Ordering.TheVariants.{Less, Equal, Greater}
use Rattle.std.specs.Ordering.{nat_cmp, is_eq}
use Rattle.std.specs.Map.{lookup}
use Rattle.std.specs.BTreeMap.{BTreeMap, get, Updates, is_at}
use Rattle.rtl_looks.specs.declared.ends.End.{End}
use Rattle.rtl_looks.specs.Parts.{end_at, no_end}

apart : (x q : ℕ) → (x ≡ q → ⊥) → is_eq (nat_cmp x q) ≡ false
apart x q ne = ap (λ (b : Bool). is_eq (cond (nat_lt x q) Less (cond b Equal Greater))) (ne_eqb x q ne) ∙ go (nat_lt x q)
  where
    go : (b : Bool) → is_eq (cond b Less (cond false Equal Greater)) ≡ false
    go true = refl
    go false = refl

-- the key x has w, and others have what they had
pub record Moves {X : Type 0} (old new : BTreeMap ℕ X) (x : ℕ) (w : Option X) : Type 0 where
  pub here : get nat_cmp new x ≡ w
  pub others : (q : ℕ) → (x ≡ q → ⊥) → get nat_cmp new q ≡ get nat_cmp old q

pub moves : {X : Type 0} {old new : BTreeMap ℕ X} (x : ℕ) (w : Option X) → Updates nat_cmp old new x w → Moves old new x w
moves x w u = record { here = u.1; others = λ q ne. u.2 q (apart x q ne) }

pub get_empty : {X : Type 0} (m : BTreeMap ℕ X) → m.entries ≡ [] → (q : ℕ) → get nat_cmp m q ≡ None
get_empty m is q = ap (lookup (is_at (nat_cmp q))) is

-- none is left to take
pub none_left : {X : Type 0} (es : List X) (o : Option X) → (IsSome o ↔ (0 < length es)) → o ≡ None → es ≡ []
none_left [] o h e = refl
none_left {X} (x ∷ xs) o h e = let bad : false ≡ true = subst (λ (w : Option X). IsSome w) e (h.1 (omega arith)) in absurd cc

-- an end is put
pub end_put : (ends ends' : BTreeMap ℕ End) (x : ℕ) (end : End) → Moves ends ends' x (Some end) → (k : ℕ) → end_at ends' k ≡ (if x == k then end else end_at ends k)
end_put ends ends' x end m k = go (cases_eq x k)
  where
    go : (x ≡ k) ⊎ (x ≡ k → ⊥) → end_at ends' k ≡ (if x == k then end else end_at ends k)
    go (inl e) =
        subst (λ (i : ℕ). end_at ends' i ≡ end) e (ap (λ (w : Option End). unwrap_or w no_end) m.here)
        ∙ sym (ap (λ (b : Bool). if b then end else end_at ends k) (eq-eqb x k e))
    go (inr ne) = ap (λ (w : Option End). unwrap_or w no_end) (m.others k ne) ∙ sym (ap (λ (b : Bool). if b then end else end_at ends k) (ne_eqb x k ne))
