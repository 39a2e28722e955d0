-- Each byte is told by its file: by the files in order, and by the bytes of each.
use Rattle.std.proofs.Common.{◌≡◌, ℕ, zero, suc, ◌<◌, ◌≤◌, ◌-◌, ◌⊎◌, inl, inr, ⊎_elim, Bool, true, false, List, [], ◌∷◌, ◌++◌, length, refl, sym, ap, ◌∙◌, arith}
use Rattle.std.proofs.lemmas.Bool.{leb-true, leb-false}
use Rattle.std.specs.Prelude.{nat_le, if◌then◌else◌, drop, take}
use Rattle.vhdl_source_files.specs.Files.{FileView, Holds, byte_at, joined, line_feed, spot, spot_in}
use Rattle.vhdl_source_files.specs.Laws.{EachByteIsToldByItsFile}

-- a byte up to the end of the text in front
within : (text rest : List ℕ) (at : ℕ) → at ≤ length text
    → (byte_at text at ≡ byte_at (text ++ line_feed ∷ rest) at) ⊎ ((at ≡ length text) × (byte_at (text ++ line_feed ∷ rest) at ≡ line_feed ∷ []))
within [] rest zero up = inr (refl, refl)
within [] rest (suc at) up = absurd (omega (arith, up))
within (byte ∷ text) rest zero up = inl refl
within (byte ∷ text) rest (suc at) up =
    ⊎_elim (λ same. inl same) (λ end. inr (ap suc end.0, end.1)) (within text rest at (omega (arith, up)))

-- a byte behind the line feed
behind : (text rest : List ℕ) (at : ℕ) → length text < at → drop at (text ++ line_feed ∷ rest) ≡ drop (at - length text - 1) rest
behind [] rest zero past = absurd (omega (arith, past))
behind [] rest (suc at) past = let same : at ≡ suc at - 0 - 1 = omega arith in ap (λ n. drop n rest) same
behind (byte ∷ text) rest zero past = absurd (omega (arith, past))
behind (byte ∷ text) rest (suc at) past =
    let same : at - length text - 1 ≡ suc at - length (byte ∷ text) - 1 = omega arith in
    behind text rest at (omega (arith, past)) ∙ ap (λ n. drop n rest) same

-- by whether the byte is one of the first file, its end with it
module _ (file next : FileView) (files : List FileView) (at : ℕ) where
  after : Holds (joined (next ∷ files)) (at - length file.text - 1) (spot_in (next ∷ files) (at - length file.text - 1))
      → (is_up : Bool) → nat_le at (length file.text) ≡ is_up
      → Holds (joined (file ∷ next ∷ files)) at (if is_up then spot file at else spot_in (next ∷ files) (at - length file.text - 1))
  after others true up = within file.text (joined (next ∷ files)) at (leb-true at (length file.text) up)
  after others false over =
      let past = leb-false at (length file.text) over in
      let byte = ap (take 1) (behind file.text (joined (next ∷ files)) at past) in
      ⊎_elim (λ same. inl (same ∙ sym byte)) (λ end. inr (end.0, byte ∙ end.1)) others

pub each : EachByteIsToldByItsFile
each [] at = inl refl
each (file ∷ []) at = inl refl
each (file ∷ next ∷ files) at =
    after file next files at
    (each (next ∷ files) (at - length file.text - 1))
    (nat_le at (length file.text)) refl
