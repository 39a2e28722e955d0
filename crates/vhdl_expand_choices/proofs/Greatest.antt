-- Numbers that are chosen once: those that are greater than all before them overlap none.
use Rattle.std.proofs.Common.{◌≡◌, ℕ, ◌+◌, ◌<◌, Bool, true, false, List, [], ◌∷◌, ◌++◌, length, map, get_or, take, drop, drop-cons, add-one, All, refl, sym, ap, ◌∙◌, subst, arith}
use Rattle.std.specs.Prelude.{ℤ, ◌&&◌, int_le, not}
use Rattle.std.specs.List.{list_any}
use Rattle.std.proofs.lemmas.Int.{ints}
use Rattle.std.proofs.lemmas.List.{map-append, take_more}
use Rattle.std.proofs.lemmas.List.Folds.{list_any_none}
use Rattle.std.proofs.lemmas.List.Elements.{All-cons, All-nil, All-append, All-weaker}
use Rattle.vhdl_expand_rules.specs.declared.fault.ElabProblem.TheVariants.{Index}
use Rattle.vhdl_expand_rules.specs.Elab.{Elab, ◌>>=◌, ◌>>◌, unless}
use Rattle.vhdl_expand_rules.specs.Computed.{Span}
use Rattle.vhdl_expand_rules.specs.Statements.{overlap, are_apart}
use Rattle.vhdl_expand_choices.specs.declared.spans.Spanned.{Spanned}
use Rattle.vhdl_expand_choices.specs.Views.{chosen_span, spanned_view}

-- each of some numbers is this at most
abbrev pub Reach : ℤ → List Span → Type 0
Reach z ss = All (λ (s : Span). int_le s.greatest z ≡ true) ss

less-than : (x y z : ℤ) → int_le y z ≡ true → int_le x z ≡ false → int_le x y ≡ false
less-than x y z h k = grind (arith, ints)

le-trans : (x y z : ℤ) → int_le x y ≡ true → int_le y z ≡ true → int_le x z ≡ true
le-trans x y z h k = grind (arith, ints)

past : (s t : Span) (z : ℤ) → int_le t.greatest z ≡ true → int_le s.least z ≡ false → overlap s t ≡ false
past s t z h k = ap (λ b. b && int_le t.least s.greatest) (less-than s.least t.greatest z h k)

pub none_past : (s : Span) (z : ℤ) (ts : List Span) → Reach z ts → int_le s.least z ≡ false → list_any (overlap s) ts ≡ false
none_past s z ts h k =
    list_any_none (overlap s) ts
    (All-weaker (λ (t : Span). int_le t.greatest z ≡ true) (λ (t : Span). overlap s t ≡ false) (λ t p. past s t z p k) ts h)

pub none_reach : (z : ℤ) → Reach z []
none_reach z = All-nil (λ (s : Span). int_le s.greatest z ≡ true)

taken : (xs : List Spanned) (i : ℕ) (d : Spanned) → i < length xs → map chosen_span (take (i + 1) xs) ≡ map chosen_span (take i xs) ++ chosen_span (get_or xs i d) ∷ []
taken xs i d below = ap (map chosen_span) (take_more xs i d below) ∙ map-append chosen_span (take i xs) (get_or xs i d ∷ [])

pub reach_more : (z w : ℤ) (xs : List Spanned) (i : ℕ) (d : Spanned) → i < length xs → Reach z (map chosen_span (take i xs)) → int_le z w ≡ true → int_le (chosen_span (get_or xs i d)).greatest w ≡ true
    → Reach w (map chosen_span (take (i + 1) xs))
reach_more z w xs i d below h k e =
    subst (Reach w) (sym (taken xs i d below))
    (All-append (λ (s : Span). int_le s.greatest w ≡ true) (map chosen_span (take i xs)) (chosen_span (get_or xs i d) ∷ [])
    (All-weaker (λ (s : Span). int_le s.greatest z ≡ true) (λ (s : Span). int_le s.greatest w ≡ true) (λ s p. le-trans s.greatest z w p k) (map chosen_span (take i xs)) h)
    (All-cons (λ (s : Span). int_le s.greatest w ≡ true) (chosen_span (get_or xs i d)) [] e (All-nil (λ (s : Span). int_le s.greatest w ≡ true))))

pub apart_goes : (total : Elab (Unit {0})) (xs : List Spanned) (i : ℕ) (d : Spanned) → i < length xs → total ≡ are_apart (map chosen_span (take i xs)) (map spanned_view (drop i xs))
    → list_any (overlap (chosen_span (get_or xs i d))) (map chosen_span (take i xs)) ≡ false → total ≡ are_apart (map chosen_span (take (i + 1) xs)) (map spanned_view (drop (i + 1) xs))
apart_goes total xs i d below so_far h =
    so_far ∙ ap (λ ys. are_apart (map chosen_span (take i xs)) (map spanned_view ys)) (drop-cons xs i d below ∙ ap (λ j. get_or xs i d ∷ drop j xs) (sym (add-one i)))
    ∙ ap (λ b. unless Index (get_or xs i d).at (not b) >> are_apart (map chosen_span (take i xs) ++ chosen_span (get_or xs i d) ∷ []) (map spanned_view (drop (i + 1) xs))) h
    ∙ ap (λ ss. are_apart ss (map spanned_view (drop (i + 1) xs))) (sym (taken xs i d below))

-- none of some is no one of them
pub none_of : (b r : Bool) → r ≡ not b → r ≡ true → b ≡ false
none_of true r h k = absurd cc
none_of false r h k = refl
