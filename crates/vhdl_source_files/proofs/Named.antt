-- The names of a list, told one after another, and the folder of its own name.
use Rattle.std.proofs.Common.{◌≡◌, ℕ, ◌+◌, ◌-◌, ◌≤◌, List, [], ◌∷◌, ◌++◌, Bor, All, IsUtf8, length, map, take, slice_index_or, arith}
use Rattle.std.proofs.lemmas.List.Elements.{All-head, All-tail}
use Rattle.std.specs.List.{suffix_len}
use Rattle.vhdl_source_files.specs.Listed.{is_no_slash, told_from}

module _ (folder : List ℕ) where
  abbrev pub told : List (Bor (List ℕ)) → List (List ℕ)
  told names = map (told_from folder) (map (λ name. name.now) names)

  -- one isn't UTF-8
  pub none : (before : List (List ℕ)) (left : List (Bor (List ℕ))) (d : Bor (List ℕ)) → 1 ≤ length left
      → (IsUtf8 (told_from folder (slice_index_or left 0 d).now) → ⊥) → All IsUtf8 (before ++ told left) → ⊥
  none before [] d some bad all = absurd (omega (arith, some))
  none [] (name ∷ left) d some bad all = bad (All-head IsUtf8 _ _ all)
  none (text ∷ before) (name ∷ left) d some bad all = none before (name ∷ left) d some bad (All-tail IsUtf8 _ _ all)

-- ---- from the end of a list's name back to its last slash

module _ (list : List ℕ) where
  -- no slash stands from here on
  abbrev pub Ends : (end : ℕ) → Type 0
  Ends end = (suffix_len is_no_slash (take end list) + (length list - end) ≡ suffix_len is_no_slash list) × (end ≤ length list)
