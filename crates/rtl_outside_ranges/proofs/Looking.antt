-- What was looked at, where leaves were told one after another.
use Rattle.std.proofs.Common.{◌≡◌, ℕ, Bool, true, false, ◌&&◌, ◌||◌, List, [], ◌∷◌, refl, sym, ap, ◌∙◌}
use Rattle.std.specs.List.{list_any, list_all}
use Rattle.rtl_model.specs.bodies.Leaves.{Leaf, read_of}
use Rattle.rtl_net.specs.Visits.{Tells}
use Rattle.rtl_body_facts.specs.Reading.{is_in}
use Rattle.rtl_body_facts.proofs.Anys.{or_assoc, or_none, and_assoc}
use Rattle.rtl_outside_ranges.specs.Outside.{is_apart, also}
use Rattle.rtl_outside_ranges.specs.declared.looked.Looked.{Looked}
use Rattle.rtl_outside_ranges.specs.declared.looked.Apart.{Apart}

-- ---- nets

abbrev Takes : (old : Looked) (leaf : Leaf) (new : Looked) → Type 0
Takes old leaf new = new.refused ≡ false → (old.refused ≡ false) × ((n : ℕ) → is_in n new.nets.items ≡ (is_in n old.nets.items || is_in n (read_of leaf)))

told : (old new : Looked) (ls : List Leaf) → Tells Takes old ls new → new.refused ≡ false → (old.refused ≡ false) × ((n : ℕ) → is_in n new.nets.items ≡ also (λ m. is_in m old.nets.items) ls n)
told old new [] h held = (ap (λ (x : Looked). x.refused) h ∙ held, λ n. ap (λ (x : Looked). is_in n x.nets.items) (sym h) ∙ or_none (is_in n old.nets.items))
told old new (x ∷ xs) (mid, one, rest) held =
    let later = told mid new xs rest held in
    let first = one later.0 in (
      first.0,
      λ n. later.1 n ∙ ap (λ (b : Bool). b || list_any (λ leaf. is_in n (read_of leaf)) xs) (first.1 n)
          ∙ or_assoc (is_in n old.nets.items) (is_in n (read_of x)) (list_any (λ leaf. is_in n (read_of leaf)) xs),
    )

-- from some nets on, put in order
pub looked_by : (old new : Looked) (nets found : List ℕ) (ls : List Leaf) → Tells Takes old ls new → old.nets.items ≡ nets → new.refused ≡ false → ((n : ℕ) → is_in n found ≡ is_in n new.nets.items)
    → (n : ℕ) → is_in n found ≡ also (λ m. is_in m nets) ls n
looked_by old new nets found ls tells from held are n =
    are n ∙ (told old new ls tells held).1 n ∙ ap (λ (ns : List ℕ). is_in n ns || list_any (λ leaf. is_in n (read_of leaf)) ls) from

-- ---- what is told apart

abbrev TakesApart : (old : Apart) (leaf : Leaf) (new : Apart) → Type 0
TakesApart old leaf new = (new.nets.now ≡ old.nets.now) × (new.so_far ≡ (old.so_far && is_apart (λ n. is_in n old.nets.now) leaf))

and_true : (b : Bool) → b ≡ (b && true)
and_true true = refl
and_true false = refl

pub told_apart : (old new : Apart) (ls : List Leaf) → Tells TakesApart old ls new → new.so_far ≡ (old.so_far && list_all (is_apart (λ n. is_in n old.nets.now)) ls)
told_apart old new [] h = ap (λ (x : Apart). x.so_far) (sym h) ∙ and_true old.so_far
told_apart old new (x ∷ xs) (mid, (same, one), rest) =
    told_apart mid new xs rest
    ∙ ap (λ (b : Bool). b && list_all (is_apart (λ n. is_in n mid.nets.now)) xs) one
    ∙ ap (λ (ns : List ℕ). (old.so_far && is_apart (λ n. is_in n old.nets.now) x) && list_all (is_apart (λ n. is_in n ns)) xs) same
    ∙ and_assoc old.so_far (is_apart (λ n. is_in n old.nets.now) x) (list_all (is_apart (λ n. is_in n old.nets.now)) xs)
