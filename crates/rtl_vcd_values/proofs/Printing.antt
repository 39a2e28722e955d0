-- When names print otherwise.
use Rattle.std.proofs.Common.{◌≡◌, ℕ, ◌<◌, false, List, ◌++◌, length, map, get_or, slice_index, refl, sym, ap, ◌∙◌, arith, ⊎_elim}
use Rattle.std.specs.Prelude.{◌==◌, codes, ℤ}
use Rattle.std.specs.Str.{bytes_eq}
use Rattle.std.proofs.lemmas.Bool.{cases_Bool, false_from_ne_true, both_ways, eqb-false}
use Rattle.std.proofs.lemmas.Slice.Eq.{bytes_eq-Decides}
use Rattle.std.proofs.lemmas.List.{append_cancel_left, append_cancel_right, get_or-map, length-map}
use Rattle.rtl_net.specs.declared.signal.SignalKind.{SignalKind}
use Rattle.rtl_net.specs.declared.signal.SignalKind.TheVariants.{One, Vector, Enumeration, Integer, Boolean}
use Rattle.rtl_vcd_values.specs.Values.{character, value_change}

pub same_test : (a b c d : List ℕ) → (a ≡ b → c ≡ d) → (c ≡ d → a ≡ b) → bytes_eq a b ≡ bytes_eq c d
same_test a b c d to from =
    ⊎_elim (λ t. t ∙ sym ((bytes_eq-Decides c d).1 (to ((bytes_eq-Decides a b).0 t))))
    (λ f. f ∙ sym (false_from_ne_true (bytes_eq c d) (λ t. both_ways (bytes_eq a b) f ((bytes_eq-Decides a b).1 (from ((bytes_eq-Decides c d).0 t))))))
    (cases_Bool (bytes_eq a b))

-- one element prints otherwise where its character does
one_tells : (code old new : List ℕ)
    → bytes_eq (map character old) (map character new) ≡ bytes_eq (map character old ++ code ++ codes "\n") (map character new ++ code ++ codes "\n")
one_tells code old new =
    same_test (map character old) (map character new) (map character old ++ code ++ codes "\n") (map character new ++ code ++ codes "\n")
    (λ e. ap (λ cs. cs ++ code ++ codes "\n") e)
    (λ e. append_cancel_right (map character old) (map character new) code (append_cancel_right (map character old ++ code) (map character new ++ code) (codes "\n") e))

-- one element or several print otherwise where their characters do
pub characters_tell : (kind : SignalKind) (code old new : List ℕ) → ((count : ℕ) → kind ≡ Enumeration count → ⊥)
    → ((least greatest : ℤ) → kind ≡ Integer least greatest → ⊥)
    → bytes_eq (map character old) (map character new) ≡ bytes_eq (value_change kind code old) (value_change kind code new)
characters_tell One code old new other no_integer = one_tells code old new
characters_tell Boolean code old new other no_integer = one_tells code old new
characters_tell (Vector left right) code old new other no_integer =
    same_test (map character old) (map character new) (value_change (Vector left right) code old) (value_change (Vector left right) code new)
    (λ e. ap (λ cs. codes "b" ++ cs ++ codes " " ++ code ++ codes "\n") e)
    (λ e. append_cancel_left (codes "b") (map character old) (map character new)
    (append_cancel_right (codes "b" ++ map character old) (codes "b" ++ map character new) (codes " ")
    (append_cancel_right (codes "b" ++ map character old ++ codes " ") (codes "b" ++ map character new ++ codes " ") code
    (append_cancel_right (codes "b" ++ map character old ++ codes " " ++ code) (codes "b" ++ map character new ++ codes " " ++ code) (codes "\n") e))))
characters_tell (Enumeration count) code old new other no_integer = absurd (other count refl)
characters_tell (Integer least greatest) code old new other no_integer = absurd (no_integer least greatest refl)

character_at : (values nets : List ℕ) (i : ℕ) → i < length nets
    → get_or (map character (map (slice_index values) nets)) i 0 ≡ character (slice_index values (slice_index nets i))
character_at values nets i lt =
    get_or-map character (map (slice_index values) nets) i 0 0 (omega (arith, lt, length-map nets (slice_index values)))
    ∙ ap character (get_or-map (slice_index values) nets i 0 0 lt)

-- one net that prints otherwise
pub other_at : (old new nets : List ℕ) (i : ℕ) → i < length nets
    → (character (slice_index old (slice_index nets i)) == character (slice_index new (slice_index nets i))) ≡ false
    → bytes_eq (map character (map (slice_index old) nets)) (map character (map (slice_index new) nets)) ≡ false
other_at old new nets i lt differ =
    let before : List ℕ = map character (map (slice_index old) nets) in
    let now : List ℕ = map character (map (slice_index new) nets) in
    false_from_ne_true (bytes_eq before now)
    (λ t. eqb-false _ _ differ (sym (character_at old nets i lt) ∙ ap (λ cs. get_or cs i 0) ((bytes_eq-Decides before now).0 t) ∙ character_at new nets i lt))
