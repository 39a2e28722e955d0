-- What a search has found, where it was told leaves one after another.
use Rattle.std.proofs.Common.{◌≡◌, ℕ, ◌||◌, not, false, List, [], ◌∷◌, ◌++◌, refl, sym, ap, ◌∙◌}
use Rattle.std.specs.Prelude.{flat_map}
use Rattle.std.specs.List.{list_any}
use Rattle.rtl_model.specs.bodies.Leaves.{Leaf}
use Rattle.rtl_net.specs.Visits.{Tells}
use Rattle.rtl_body_facts.specs.declared.search.Search.{Search}
use Rattle.rtl_body_facts.specs.declared.search.Sought.{Sought}
use Rattle.rtl_body_facts.specs.declared.search.Sought.TheVariants as sights
use Rattle.rtl_model.specs.basics.Lists.{is_empty}
use Rattle.rtl_body_facts.specs.Reading.{is_in, some}
use Rattle.rtl_body_facts.specs.Searching.{seeks}
use Rattle.rtl_body_facts.proofs.Anys.{or_assoc, or_none}
use Rattle.rtl_body_facts.proofs.Members.{in_append}

-- a leaf of a search
abbrev Takes : (old : Search) (leaf : Leaf) (new : Search) → Type 0
Takes old leaf new = (new.sought ≡ old.sought) × (new.found ≡ (old.found || seeks old.sought leaf))

told_more : (old new : Search) (ls : List Leaf) → Tells Takes old ls new → new.found ≡ (old.found || list_any (seeks old.sought) ls)
told_more old new [] h = ap (λ (x : Search). x.found) (sym h) ∙ or_none old.found
told_more old new (x ∷ xs) (mid, (same, one), rest) =
    told_more mid new xs rest
    ∙ ap (λ b. b || list_any (seeks mid.sought) xs) one
    ∙ ap (λ (k : Sought). (old.found || seeks old.sought x) || list_any (seeks k) xs) same
    ∙ or_assoc old.found (seeks old.sought x) (list_any (seeks old.sought) xs)

pub told_any : (sought : Sought) (old new : Search) (ls : List Leaf) → old ≡ record { sought = sought; found = false } → Tells Takes old ls new → new.found ≡ list_any (seeks sought) ls
told_any sought old new ls is h = told_more old new ls h ∙ ap (λ (x : Search). x.found || list_any (seeks x.sought) ls) is

-- ---- what stands in lists of leaves

pub some_in : (f : Leaf → List ℕ) (ls : List Leaf) → list_any (λ l. some (f l)) ls ≡ some (flat_map f ls)
some_in f [] = refl
some_in f (l ∷ ls) = ap (λ b. some (f l) || b) (some_in f ls) ∙ append (f l) (flat_map f ls)
  where
    append : (xs ys : List ℕ) → (some xs || some ys) ≡ some (xs ++ ys)
    append [] ys = refl
    append (x ∷ xs) ys = refl

pub in_some : (n : ℕ) (f : Leaf → List ℕ) (ls : List Leaf) → list_any (λ l. is_in n (f l)) ls ≡ is_in n (flat_map f ls)
in_some n f [] = refl
in_some n f (l ∷ ls) = ap (λ b. is_in n (f l) || b) (in_some n f ls) ∙ sym (in_append n (f l) (flat_map f ls))

pub none_stands : (ls : List Leaf) → not (list_any (seeks sights.Anything) ls) ≡ is_empty ls
none_stands [] = refl
none_stands (l ∷ ls) = refl
