-- Looks that have a property, each and all: side by side, one behind another, in rows.
use Rattle.std.proofs.Common.{ℕ, zero, suc, List, [], ◌∷◌, ◌++◌, ◌-◌, ◌*◌, ◌%◌, min, length, take, drop, map, replicate, slice_index_or}
use Rattle.std.proofs.Common.{subst, Contains, inl, inr}
use Rattle.std.specs.Prelude.{⊤}
use Rattle.std.proofs.lemmas.List.Elements.{Contains-append_cases}
use Rattle.vhdl_values.specs.declared.kinds.Counted.{Counted}
use Rattle.vhdl_values.specs.declared.kinds.Counted.TheVariants.{Resize, ResizeSigned, Shift}
use Rattle.vhdl_values.specs.declared.kinds.Shift.{Shift as Shifting}
use Rattle.vhdl_values.specs.declared.kinds.Shift.TheVariants.{Left, Right, RightSigned, RotateLeft}
use Rattle.vhdl_values.specs.Logic.{zip_with}
use Rattle.vhdl_values.specs.Shifts.{leftmost, shifted_of, counted_of}
use Rattle.rtl_model.specs.bodies.Rows.{Spacing, row}
use Rattle.rtl_model.specs.bodies.Looks.{Sight, whole, chosen_looks}
use Rattle.rtl_model.proofs.basics.Lists.{Contains-none, Contains-one}

module _ (P : Sight → Type 0) where
  abbrev pub Within : List Sight → Type 0
  Within sights = (sight : Sight) → Contains sights sight → P sight

  pub within_none : Within []
  within_none s c = absurd (Contains-none s c)

  pub within_one : (s : Sight) → P s → Within (s ∷ [])
  within_one s h t c = subst P (Contains-one s t c) h

  pub within_both : (ls rs : List Sight) → Within ls → Within rs → Within (ls ++ rs)
  within_both ls rs h k s c =
      elim (Contains-append_cases ls rs s c) [
        | inl l ↦ h s l
        | inr r ↦ k s r
      ]

  abbrev pub EachWithin : List (List Sight) → Type 0
  EachWithin [] = ⊤
  EachWithin (l ∷ ls) = Within l × EachWithin ls

  pub each_append : (ls rs : List (List Sight)) → EachWithin ls → EachWithin rs → EachWithin (ls ++ rs)
  each_append [] rs h k = k
  each_append (l ∷ ls) rs h k = (h.0, each_append ls rs h.1 k)

  pub each_side : (ls rs : List (List Sight)) → EachWithin ls → EachWithin rs → EachWithin (zip_with (λ l r. l ++ r) ls rs)
  each_side [] rs h k = tt
  each_side (l ∷ ls) [] h k = tt
  each_side (l ∷ ls) (r ∷ rs) h k = (within_both l r h.0 k.0, each_side ls rs h.1 k.1)

  pub each_replicate : (n : ℕ) (l : List Sight) → Within l → EachWithin (replicate n l)
  each_replicate zero l h = tt
  each_replicate (suc n) l h = (h, each_replicate n l h)

  pub whole_within : (ls : List (List Sight)) → EachWithin ls → Within (whole ls)
  whole_within [] h = within_none
  whole_within (l ∷ ls) h = within_both l (whole ls) h.0 (whole_within ls h.1)

  pub first_within : (ls : List (List Sight)) → EachWithin ls → Within (slice_index_or ls 0 [])
  first_within [] h = within_none
  first_within (l ∷ ls) h = h.0

  pub each_drop : (n : ℕ) (ls : List (List Sight)) → EachWithin ls → EachWithin (drop n ls)
  each_drop zero ls h = h
  each_drop (suc n) [] h = tt
  each_drop (suc n) (l ∷ ls) h = each_drop n ls h.1

  pub each_take : (n : ℕ) (ls : List (List Sight)) → EachWithin ls → EachWithin (take n ls)
  each_take zero ls h = tt
  each_take (suc n) [] h = tt
  each_take (suc n) (l ∷ ls) h = (h.0, each_take n ls h.1)

  pub leftmost_within : (ls : List (List Sight)) → EachWithin ls → Within (leftmost [] ls)
  leftmost_within [] h = within_none
  leftmost_within (l ∷ ls) h = h.0

  pub each_shifted : (by : Shifting) (count : ℕ) (ls : List (List Sight)) → EachWithin ls → EachWithin (shifted_of [] by count ls)
  each_shifted Left count ls h =
      each_drop count (ls ++ replicate count []) (each_append ls (replicate count []) h (each_replicate count [] within_none))
  each_shifted Right count ls h =
      each_take (length ls) (replicate count [] ++ ls) (each_append (replicate count []) ls (each_replicate count [] within_none) h)
  each_shifted RightSigned count ls h =
      each_take (length ls) (replicate count (leftmost [] ls) ++ ls) (each_append (replicate count (leftmost [] ls)) ls (each_replicate count (leftmost [] ls) (leftmost_within ls h)) h)
  each_shifted RotateLeft count ls h = each_append (drop (count % length ls) ls) (take (count % length ls) ls) (each_drop (count % length ls) ls h) (each_take (count % length ls) ls h)

  pub each_counted : (op : Counted) (count : ℕ) (ls : List (List Sight)) → EachWithin ls → EachWithin (counted_of [] op count ls)
  each_counted Resize count ls h =
      each_append (replicate (count - length ls) []) (drop (length ls - count) ls) (each_replicate (count - length ls) [] within_none) (each_drop (length ls - count) ls h)
  each_counted ResizeSigned count ls h =
      let others = min count (length ls) - 1 in
      each_append (replicate (count - others) (leftmost [] ls)) (drop (length ls - others) ls) (each_replicate (count - others) (leftmost [] ls) (leftmost_within ls h)) (each_drop (length ls - others) ls h)
  each_counted (Shift by) count ls h = each_shifted by count ls h

  abbrev pub EachRow : List (List (List Sight)) → Type 0
  EachRow [] = ⊤
  EachRow (r ∷ rows) = EachWithin r × EachRow rows

  pub each_of_rows : (spacing : Spacing) (ls : List (List Sight)) (ns : List ℕ) → EachWithin ls → EachRow (map (row spacing ls) ns)
  each_of_rows spacing ls [] h = tt
  each_of_rows spacing ls (n ∷ ns) h = (each_take spacing.len (drop (n * spacing.step) ls) (each_drop (n * spacing.step) ls h), each_of_rows spacing ls ns h)

  pub each_chosen : (index : List Sight) (len : ℕ) (rows : List (List (List Sight))) → Within index → EachRow rows → EachWithin (chosen_looks index len rows)
  each_chosen index len [] h k = each_replicate len index h
  each_chosen index len (r ∷ rows) h k = each_side r (chosen_looks index len rows) k.0 (each_chosen index len rows h k.1)
