-- Each byte is placed in its file: by the files in order.
use Rattle.std.proofs.Common.{◌≡◌, ◌≢◌, ℕ, ◌<◌, ◌≤◌, ◌-◌, Bool, true, false, List, [], ◌∷◌, ◌++◌, length, refl, ap, arith, length-append}
use Rattle.std.proofs.lemmas.Bool.{leb-true, leb-false}
use Rattle.std.specs.Prelude.{nat_le, if◌then◌else◌}
use Rattle.vhdl_source_files.specs.Files.{FileView, Spot, joined, line_feed, spot, spot_in}
use Rattle.vhdl_source_files.specs.Laws.{EachByteIsPlacedInItsFile, IsPlaced, text_before}

first : (file : FileView) (back : List FileView) (at : ℕ) → at ≤ length file.text → IsPlaced (file ∷ back) at (spot file at)
first file back at up = record { front = []; back = back; among = refl; far = omega arith; inside = up }

module _ (file next : FileView) (files : List FileView) (at : ℕ) where
  -- the place of the files behind the first is one of all
  later : (s : Spot) → length file.text < at → IsPlaced (next ∷ files) (at - length file.text - 1) s → IsPlaced (file ∷ next ∷ files) at s
  later s past p = record {
    front = file ∷ p.front;
    back = p.back;
    among = ap (λ all. file ∷ all) p.among;
    far =
        let far = p.far in
        omega (arith, far, past, length-append (file.text ++ line_feed ∷ []) (text_before p.front), length-append file.text (line_feed ∷ []));
    inside = p.inside;
  }

  after : (length file.text < at → IsPlaced (next ∷ files) (at - length file.text - 1) (spot_in (next ∷ files) (at - length file.text - 1)))
      → (is_up : Bool) → nat_le at (length file.text) ≡ is_up
      → IsPlaced (file ∷ next ∷ files) at (if is_up then spot file at else spot_in (next ∷ files) (at - length file.text - 1))
  after others true up = first file (next ∷ files) at (leb-true at (length file.text) up)
  after others false over =
      let past = leb-false at (length file.text) over in
      later (spot_in (next ∷ files) (at - length file.text - 1)) past (others past)

  within : length file.text < at → at ≤ length (joined (file ∷ next ∷ files)) → at - length file.text - 1 ≤ length (joined (next ∷ files))
  within past up = omega (arith, past, up, length-append file.text (line_feed ∷ joined (next ∷ files)))

pub each : EachByteIsPlacedInItsFile
each [] at some up = absurd (some refl)
each (file ∷ []) at some up = first file [] at up
each (file ∷ next ∷ files) at some up =
    after file next files at
    (λ past. each (next ∷ files) (at - length file.text - 1) is_some (within file next files at past up))
    (nat_le at (length file.text)) refl
  where
    is_some : next ∷ files ≢ []
    is_some none = omega (arith, ap length none)
