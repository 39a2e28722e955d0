-- Reading a text line by line, and a line word by word.
use Rattle.std.proofs.Common.{◌≡◌, ℕ, zero, suc, ◌+◌, ◌-◌, ◌<◌, ◌≤◌, Bool, true, false, cond, not, List, [], ◌∷◌, length, take, drop, filter, position, Option, Some, None, refl, ap, sym, ◌∙◌, subst, arith}
use Rattle.std.specs.Prelude.{unwrap_or, bytes_eq, codes, slice_index_or, ◌==◌, if◌then◌else◌}
use Rattle.std.specs.List.{slice_split, onto_first, position_or_len}
use Rattle.std.specs.Option.{option_or}
use Rattle.std.proofs.lemmas.List.Splits.{slice_split-cons_yes, slice_split-cons_no}
use Rattle.std.proofs.lemmas.List.{take_rest}
use Rattle.std.proofs.lemmas.List.Quantifiers.{position-Some}
use Rattle.std.proofs.lemmas.List.Sums.{prefix_len-le-length, position_or_len_is}
use Rattle.std.proofs.lemmas.Bool.Decides.{nat_tests}
use Rattle.rtl_stim_lines.specs.Lines.{Word, ends_line, without_return, lines_of, is_blank, is_word, words_of}
use Rattle.rtl_stim_lines.specs.Forms.{Clock, form_of, at_form, clock_form, number_of}
use Rattle.rtl_stim_lines.proofs.Parts.{lines_end, lines_more}
use Rattle.rtl_progress.specs.Stops.{stop_said, stop_in, first_stop, stop_of}

-- ---- parts of a text

found : (p : ℕ → Bool) (xs : List ℕ) (n : ℕ) → position p xs ≡ Some n → (position_or_len p xs ≡ n) × (n < length xs)
found p xs n h =
    let at = position-Some p xs n 0 h in
    (position_or_len_is p xs n 0 (omega (arith, at.0)) at.2 (λ _. at.1), at.0)

missing : (p : ℕ → Bool) (xs : List ℕ) → position p xs ≡ None → length xs ≤ position_or_len p xs
missing p xs h = grind (arith, nat_tests)

-- ---- when they say to stop

or_none : (o : Option ℕ) → option_or o None ≡ o
or_none None = refl
or_none (Some n) = refl

pub stop_last : (text : List ℕ) → position ends_line text ≡ None → stop_of text ≡ unwrap_or (stop_in text) 0
stop_last text none = ap (λ (lines : List (List ℕ)). unwrap_or (first_stop lines) 0) (lines_end text none) ∙ ap (λ (o : Option ℕ). unwrap_or o 0) (or_none (stop_in text))

pub stop_here : (text : List ℕ) (k stop : ℕ) → position ends_line text ≡ Some k → stop_in (without_return (take k text)) ≡ Some stop → stop_of text ≡ stop
stop_here text k stop here says =
    ap (λ (lines : List (List ℕ)). unwrap_or (first_stop lines) 0) (lines_more text k here)
    ∙ ap (λ (o : Option ℕ). unwrap_or (option_or o (first_stop (lines_of (drop (k + 1) text)))) 0) says

pub stop_behind : (text : List ℕ) (k : ℕ) → position ends_line text ≡ Some k → stop_in (without_return (take k text)) ≡ None
    → stop_of text ≡ stop_of (drop (k + 1) text)
stop_behind text k here says =
    ap (λ (lines : List (List ℕ)). unwrap_or (first_stop lines) 0) (lines_more text k here)
    ∙ ap (λ (o : Option ℕ). unwrap_or (option_or o (first_stop (lines_of (drop (k + 1) text)))) 0) says

-- ---- words

-- the parts of a line: its beginning without a blank, and others, whose words are those of what stands behind
abbrev CutAt : (n : ℕ) (line : List ℕ) → Type 0
CutAt n line = (parts : List (List ℕ)) × (slice_split is_blank line ≡ take n line ∷ parts) × (filter is_word parts ≡ words_of (drop n line))

pub cut : (line : List ℕ) → CutAt (position_or_len is_blank line) line
cut [] = ([], refl, refl)
cut (x ∷ xs) = go (is_blank x) refl (cut xs)
  where
    go : (b : Bool) → is_blank x ≡ b → CutAt (position_or_len is_blank xs) xs → CutAt (cond (not b) (1 + position_or_len is_blank xs) 0) (x ∷ xs)
    go true e more = (slice_split is_blank xs, slice_split-cons_yes is_blank x xs e, ap (filter is_word) (sym (slice_split-cons_yes is_blank x xs e)))
    go false e (parts, is, behind) =
        let one : suc (position_or_len is_blank xs) ≡ 1 + position_or_len is_blank xs = omega arith in
        let more : CutAt (suc (position_or_len is_blank xs)) (x ∷ xs) = (parts, slice_split-cons_no is_blank x xs e ∙ ap (onto_first x) is, behind) in
        subst (λ (n : ℕ). CutAt n (x ∷ xs)) one more

more_than_none : (b : Bool) (n : ℕ) → b ≡ false → 0 < cond (not b) (1 + n) 0
more_than_none true n e = cc
more_than_none false n e = omega arith

word_part : (x : ℕ) (xs : List ℕ) (n : ℕ) (parts : List (List ℕ)) → 0 < n → filter is_word (take n (x ∷ xs) ∷ parts) ≡ take n (x ∷ xs) ∷ filter is_word parts
word_part x xs zero parts h = absurd (omega arith)
word_part x xs (suc n) parts h =
    let some : is_word (x ∷ take n xs) ≡ true = grind (arith, nat_tests) in
    ap (λ (b : Bool). cond b ((x ∷ take n xs) ∷ filter is_word parts) (filter is_word parts)) some

word_first : (line : List ℕ) → 0 < length line → is_blank (slice_index_or line 0 0) ≡ false
    → words_of line ≡ take (position_or_len is_blank line) line ∷ words_of (drop (position_or_len is_blank line) line)
word_first [] h e = absurd (omega arith)
word_first (x ∷ xs) h e =
    let (parts, is, behind) = cut (x ∷ xs) in
    ap (filter is_word) is ∙ word_part x xs (position_or_len is_blank (x ∷ xs)) parts (more_than_none (is_blank x) (position_or_len is_blank xs) e)
    ∙ ap (λ (words : List Word). take (position_or_len is_blank (x ∷ xs)) (x ∷ xs) ∷ words) behind

pub first_cut : (line : List ℕ) (n : ℕ) → n ≡ position_or_len is_blank line → 0 < length line → is_blank (slice_index_or line 0 0) ≡ false
    → words_of line ≡ take n line ∷ words_of (take (length line - n) (drop n line))
first_cut line n is h e =
    word_first line h e ∙ ap (λ (k : ℕ). take k line ∷ words_of (drop k line)) (sym is)
    ∙ ap (λ (rest : List ℕ). take n line ∷ words_of rest) (sym (take_rest line n))

pub before_blank : (line : List ℕ) (n : ℕ) → position is_blank line ≡ Some n → (n ≡ position_or_len is_blank line) × (n ≤ length line)
before_blank line n h =
    let (same, less) = found is_blank line n h in
    (sym same, omega (arith, less))

pub before_end : (line : List ℕ) → position is_blank line ≡ None → length line ≡ position_or_len is_blank line
before_end line h =
    let over = missing is_blank line h in
    let within = prefix_len-le-length (λ x. not (is_blank x)) line in
    omega arith

-- ---- what they say

clocked : (b : Bool) (name : Word) (first half : ℕ) → stop_said (if b then None else Some (Clock name first half)) ≡ None
clocked true name first half = refl
clocked false name first half = refl

clock_says : (name : Word) (first half : Option ℕ) → stop_said (clock_form name first half) ≡ None
clock_says name None half = refl
clock_says name (Some first) None = refl
clock_says name (Some first) (Some half) = clocked (half == 0) name first half

at_says : (time : Option ℕ) (name value : Word) → stop_said (at_form time name value) ≡ None
at_says None name value = refl
at_says (Some time) name value = refl

four_words : (is_at is_clock : Bool) (second third fourth : Word)
    → stop_said (if is_at then at_form (number_of second) third fourth
    else (if is_clock then clock_form second (number_of third) (number_of fourth) else None)) ≡ None
four_words true is_clock second third fourth = at_says (number_of second) third fourth
four_words false true second third fourth = clock_says second (number_of third) (number_of fourth)
four_words false false second third fourth = refl

more_words : (first second third : Word) (words : List Word) → stop_said (form_of (first ∷ second ∷ third ∷ words)) ≡ None
more_words first second third [] = refl
more_words first second third (fourth ∷ []) = four_words (bytes_eq first (codes "at")) (bytes_eq first (codes "clock")) second third fourth
more_words first second third (fourth ∷ fifth ∷ words) = refl

pub none_of_more : (line first second third : Word) (words : List Word) → words_of line ≡ first ∷ second ∷ third ∷ words → stop_in line ≡ None
none_of_more line first second third words e = ap (λ (words : List Word). stop_said (form_of words)) e ∙ more_words first second third words

pub none_of_other : (line keyword time : Word) (words : List Word) → words_of line ≡ keyword ∷ time ∷ words → bytes_eq keyword (codes "stop") ≡ false
    → stop_in line ≡ None
none_of_other line keyword time [] e other = ap (λ (words : List Word). stop_said (form_of words)) e ∙ rw other refl
none_of_other line keyword time (third ∷ words) e other = none_of_more line keyword time third words e
