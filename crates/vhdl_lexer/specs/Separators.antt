-- What stands between tokens: separators (IEEE 1076-2008, 15.3) and comments (15.9).
use Rattle.std.specs.Prelude.{◌≡◌, ℕ, ◌&&◌, ◌||◌, ◌==◌, not, Bool, true, false, List, [], ◌∷◌, ◌++◌, ◌⊎◌}
use Rattle.std.specs.List.{list_all}
use Rattle.vhdl_lexer.specs.Bytes.{star, dash, slash, ends_line, is_separator, begins}

-- no byte of the text ends a line
abbrev pub stays_on_line : List ℕ → Bool
stays_on_line text = list_all (λ b. not (ends_line b)) text

-- the line ends here, or the text does
abbrev pub LineEnds : List ℕ → Type 0
LineEnds [] = Unit {0}
LineEnds (b ∷ text) = ends_line b ≡ true

-- whether `*/` stands somewhere in the text
abbrev pub has_close : List ℕ → Bool
has_close [] = false
has_close (b ∷ text) = b == star && begins slash text || has_close text

-- a space, a tab or the end of a line
abbrev pub IsSpace : List ℕ → Type 0
IsSpace piece = (b : ℕ) × (piece ≡ b ∷ []) × (is_separator b ≡ true)

-- a single-line comment where rest follows: `--` and what is left of the line
abbrev pub IsLineComment : List ℕ → List ℕ → Type 0
IsLineComment piece rest = (body : List ℕ) × (piece ≡ dash ∷ dash ∷ body) × (stays_on_line body ≡ true) × LineEnds rest

-- a delimited comment: `/*` and all up to the next `*/`
abbrev pub IsDelimitedComment : List ℕ → Type 0
IsDelimitedComment piece =
    (body : List ℕ) × (piece ≡ slash ∷ star ∷ (body ++ star ∷ slash ∷ [])) × (has_close body ≡ false)

abbrev pub IsSeparation : List ℕ → List ℕ → Type 0
IsSeparation piece rest = IsSpace piece ⊎ (IsLineComment piece rest ⊎ IsDelimitedComment piece)

-- the text is these pieces, each a separator or a comment, and then ahead
abbrev pub LeadsTo : List (List ℕ) → List ℕ → List ℕ → Type 0
LeadsTo [] text ahead = text ≡ ahead
LeadsTo (piece ∷ pieces) text ahead =
    (after : List ℕ) × (text ≡ piece ++ after) × IsSeparation piece after × LeadsTo pieces after ahead

-- a comment opens here, be it closed or not
abbrev pub opens_comment : List ℕ → Bool
opens_comment [] = false
opens_comment (b ∷ text) = b == dash && begins dash text || b == slash && begins star text
