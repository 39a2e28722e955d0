-- Lines and columns, counted on from a mark.
use Rattle.std.proofs.Common.{◌≡◌, ℕ, suc, ◌+◌, ◌-◌, ◌*◌, ◌<◌, ◌≤◌, Bool, true, false, if◌then◌else◌, List, [], ◌∷◌, ◌++◌, length, get_or, take, drop, refl, sym, ap, subst, ◌∙◌, arith, ◌⊎◌, inl, inr}
use Rattle.std.proofs.lemmas.Bool.{cases_lt, le-leb, lt-leb}
use Rattle.std.proofs.lemmas.List.{length-append, length-drop, length-take, length-take-le}
use Rattle.std.proofs.Math.ListN.{get_or-append}
use Rattle.std.proofs.Math.Seq.{take-add, get_or-append_seam}
use Rattle.rtl_stim_lines.specs.Lines.{ends_line}
use Rattle.rtlsim_refusals.specs.Places.{position_from, position_behind}
use Rattle.rtlsim_refusals.specs.declared.place.Position.{Position}
use Rattle.vhdl_source_files.specs.Files.{FileView, spot, spot_in}
use Rattle.rtlsim_findings_text.specs.Marks.{step}

abbrev pub on : Position → List ℕ → Position
on p bytes = position_from p.line p.column bytes

-- a walk over two texts, one behind the other
pub on_append : (l c : ℕ) (xs ys : List ℕ) → position_from l c (xs ++ ys) ≡ on (position_from l c xs) ys
on_append l c [] ys = refl
on_append l c (x ∷ xs) ys = by (ends_line x) (on_append (l + 1) 1 xs ys) (on_append l (c + 1) xs ys)
  where
    by : (b : Bool) → position_from (l + 1) 1 (xs ++ ys) ≡ on (position_from (l + 1) 1 xs) ys → position_from l (c + 1) (xs ++ ys) ≡ on (position_from l (c + 1) xs) ys
        → (if b then position_from (l + 1) 1 (xs ++ ys) else position_from l (c + 1) (xs ++ ys)) ≡ on (if b then position_from (l + 1) 1 xs else position_from l (c + 1) xs) ys
    by true new same = new
    by false new same = same

-- neither goes further than the bytes
pub record Fits (l c count : ℕ) (p : Position) : Type 0 where
  pub line : p.line ≤ l + count
  pub column : p.column ≤ c + count

pub on_fits : (l c : ℕ) (xs : List ℕ) → Fits l c (length xs) (position_from l c xs)
on_fits l c [] = record { line = omega arith; column = omega arith }
on_fits l c (x ∷ xs) = by (ends_line x) (on_fits (l + 1) 1 xs) (on_fits l (c + 1) xs)
  where
    by : (b : Bool) → Fits (l + 1) 1 (length xs) (position_from (l + 1) 1 xs) → Fits l (c + 1) (length xs) (position_from l (c + 1) xs)
        → Fits l c (suc (length xs)) (if b then position_from (l + 1) 1 xs else position_from l (c + 1) xs)
    by true new same = record { line = omega (arith, new.line); column = omega (arith, new.column) }
    by false new same = record { line = omega (arith, same.line); column = omega (arith, same.column) }

-- ---- from marks

-- where the byte at a place stands is no further than the bytes before it
pub walked : (text : List ℕ) (at : ℕ) (here : Position) → here ≡ position_behind (take at text) → at ≤ length text → Fits 1 1 at here
walked text at here e l =
    subst (Fits 1 1 at) (sym e) (subst (λ n. Fits 1 1 n (position_behind (take at text))) (length-take-le at text l) (on_fits 1 1 (take at text)))

-- nor are the bytes from there up to another place
pub room : (text : List ℕ) (from at : ℕ) (here : Position) → here ≡ position_behind (take from text) → from ≤ at → at ≤ length text
    → (here.line + length (take (at - from) (drop from text)) ≤ 1 + at) × (here.column + length (take (at - from) (drop from text)) ≤ 1 + at)
room text from at here stands before within =
    let f = walked text from here stands (omega (arith, before, within)) in
    let m = length-take (at - from) (drop from text) in
    let d = length-drop from text in (omega (arith, f.line, m, d, before, within), omega (arith, f.column, m, d, before, within))

-- the next bytes are counted on from there
pub further : (text : List ℕ) (at n : ℕ) (here : Position) → here ≡ position_behind (take at text) → on here (take n (drop at text)) ≡ position_behind (take (at + n) text)
further text at n here e =
    ap (λ p. on p (take n (drop at text))) e ∙ sym (on_append 1 1 (take at text) (take n (drop at text))) ∙ ap position_behind (sym (take-add at n text))

-- one mark more
pub marked_on : (text : List ℕ) (old new : List Position) (p : Position) (at : ℕ) → new ≡ old ++ p ∷ [] → at ≡ length old * step → p ≡ position_behind (take at text)
    → ((k : ℕ) (d : Position) → k < length old → get_or old k d ≡ position_behind (take (k * step) text))
    → (k : ℕ) (d : Position) → k < length new → get_or new k d ≡ position_behind (take (k * step) text)
marked_on text old new p at e counted stands each k d l = ap (λ xs. get_or xs k d) e ∙ go (cases_lt k (length old))
  where
    go : (k < length old) ⊎ (length old ≤ k) → get_or (old ++ p ∷ []) k d ≡ position_behind (take (k * step) text)
    go (inl m) = get_or-append old (p ∷ []) d k m ∙ each k d m
    go (inr m) =
        let many : length new ≡ length old + 1 = ap length e ∙ length-append old (p ∷ []) in
        let last : k ≡ length old = omega (arith, many, m, l) in
        ap (λ n. get_or (old ++ p ∷ []) n d) last ∙ get_or-append_seam old p [] d ∙ stands ∙ ap (λ n. position_behind (take n text)) (counted ∙ ap (λ n. n * step) (sym last))

-- ---- from file to file

pub spot_last : (f : FileView) (fs : List FileView) (at : ℕ) → length fs ≡ 0 → spot f at ≡ spot_in (f ∷ fs) at
spot_last f [] at none = refl
spot_last f (g ∷ fs) at none = absurd (omega (arith, none))

pub spot_within : (f : FileView) (fs : List FileView) (at : ℕ) → at ≤ length f.text → spot f at ≡ spot_in (f ∷ fs) at
spot_within f [] at within = refl
spot_within f (g ∷ fs) at within = sym (ap (λ b. if b then spot f at else spot_in (g ∷ fs) (at - length f.text - 1)) (le-leb at (length f.text) within))

pub spot_next : (f : FileView) (fs : List FileView) (at left : ℕ) → 0 < length fs → length f.text < at → left ≡ at - length f.text - 1 → spot_in fs left ≡ spot_in (f ∷ fs) at
spot_next f [] at left some past e = absurd (omega arith)
spot_next f (g ∷ fs) at left some past e =
    ap (spot_in (g ∷ fs)) e ∙ sym (ap (λ b. if b then spot f at else spot_in (g ∷ fs) (at - length f.text - 1)) (lt-leb at (length f.text) past))
