-- What stands in a line before a byte, by the byte's column.
use Rattle.std.proofs.Common.{◌≡◌, ℕ, ◌+◌, ◌-◌, ◌≤◌, Bool, true, false, if◌then◌else◌, List, [], ◌∷◌, ◌++◌, length, drop, refl, sym, ap, subst, ◌∙◌, append_assoc, append-nil, arith}
use Rattle.std.proofs.lemmas.List.{length-append}
use Rattle.rtl_stim_lines.specs.Lines.{ends_line}
use Rattle.rtlsim_refusals.specs.Places.{position_from, position_behind, line_before, line_within}

-- the line ends the bytes, and a byte behind it has this column
pub record Ends (bytes line : List ℕ) (column : ℕ) : Type 0 where
  pub front : List ℕ
  pub apart : bytes ≡ front ++ line
  pub counted : column ≡ length line + 1

walk : (l : ℕ) (before ys : List ℕ) → Ends (before ++ ys) (line_within (before ++ ys) ys) (position_from l (length before + 1) ys).column
walk l before [] = record { front = []; apart = refl; counted = rw append-nil refl }
walk l before (y ∷ ys) = by (ends_line y) (walk (l + 1) [] ys) (walk l (before ++ y ∷ []) ys)
  where
    by : (b : Bool) → Ends ys (line_within ys ys) (position_from (l + 1) 1 ys).column
        → Ends ((before ++ y ∷ []) ++ ys) (line_within ((before ++ y ∷ []) ++ ys) ys) (position_from l (length (before ++ y ∷ []) + 1) ys).column
        → Ends (before ++ y ∷ ys) (if b then line_within ys ys else line_within (before ++ y ∷ ys) ys)
        (if b then position_from (l + 1) 1 ys else position_from l (length before + 1 + 1) ys).column
    by true new same =
        record { front = before ++ y ∷ new.front; apart = ap (λ t. before ++ y ∷ t) new.apart ∙ sym (append_assoc before (y ∷ new.front) _); counted = new.counted }
    by false new same =
        let all : (before ++ y ∷ []) ++ ys ≡ before ++ y ∷ ys = append_assoc before (y ∷ []) ys in
        let one : length (before ++ y ∷ []) + 1 ≡ length before + 1 + 1 = ap (λ n. n + 1) (length-append before (y ∷ [])) in
        subst (λ n. Ends (before ++ y ∷ ys) (line_within (before ++ y ∷ ys) ys) (position_from l n ys).column) one
        (subst (λ t. Ends t (line_within t ys) (position_from l (length (before ++ y ∷ []) + 1) ys).column) all same)

pub line_ends : (before : List ℕ) → Ends before (line_before before) (position_behind before).column
line_ends before = walk 1 [] before

behind : (front line : List ℕ) → drop (length front) (front ++ line) ≡ line
behind [] line = refl
behind (x ∷ front) line = behind front line

-- so it is what stands behind so many bytes
pub line_is : (bytes line : List ℕ) (column : ℕ) → Ends bytes line column → drop (length bytes - (column - 1)) bytes ≡ line
line_is bytes line column e =
    let n : length bytes ≡ length e.front + length line = ap length e.apart ∙ length-append e.front line in
    let k : length bytes - (column - 1) ≡ length e.front = omega (arith, e.counted, n) in
    ap (λ m. drop m bytes) k ∙ ap (drop (length e.front)) e.apart ∙ behind e.front line

pub column_fits : (bytes line : List ℕ) (column : ℕ) → Ends bytes line column → column - 1 ≤ length bytes
column_fits bytes line column e = omega (arith, e.counted, ap length e.apart, length-append e.front line)

pub column_counts : (bytes line : List ℕ) (column : ℕ) → Ends bytes line column → 1 ≤ column
column_counts bytes line column e = omega (arith, e.counted)
