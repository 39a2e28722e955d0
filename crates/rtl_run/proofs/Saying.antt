-- What the text of NAME=VALUE words says.
use Rattle.std.proofs.Common.{◌≡◌, ℕ, zero, suc, ◌+◌, ◌-◌, ◌<◌, ◌==◌, ◌&&◌, ◌||◌, Bool, true, false, not, nat_le, cond, List, [], ◌∷◌, ◌++◌, length, map, take, drop, position, filter, Option, Some, None, option_map, Result, Ok, Err, refl, ap, ◌∙◌, append_assoc, arith}
use Rattle.std.specs.Prelude.{All, flat_map, codes, IfSome, IfOk, slice_index_or, if◌then◌else◌}
use Rattle.std.specs.List.{list_all, slice_split}
use Rattle.std.proofs.lemmas.Bool.{leb-true}
use Rattle.std.proofs.lemmas.Bool.Decides.{nat_tests}
use Rattle.std.proofs.lemmas.List.Elements.{All-take, All-drop, All-append, All-weaker}
use Rattle.std.proofs.lemmas.List.Splits.{slice_split_at, slice_split_none, length-slice_split}
use Rattle.rtl_stim_lines.specs.declared.faults.StimFault.{StimFault}
use Rattle.rtl_stim_lines.specs.Lines.{Word, ends_line, without_return, as_lines, lines_of, is_blank, is_word, words_of, says_nothing}
use Rattle.rtl_stim_lines.specs.Forms.{form_of}
use Rattle.rtl_stim_lines.proofs.Parts.{as_lines_more}
use Rattle.rtl_stim.proofs.Stops.{number_keeps, set_keeps}
use Rattle.rtl_stim_lines.specs.Inputs.{Input, input_named}
use Rattle.rtl_stim_lines.specs.Reading.{Said, nothing_said, set_input, after_form, after_line, in_line, one_more, after_lines, ended}
use Rattle.rtl_run.specs.Words as words
use Rattle.rtl_stim_lines.specs.Pairs.{Pair, after_pair, one_more_pair, after_pairs, stopped_at_zero}
use Rattle.rtl_run.specs.Words.{halves, filled, sides, set_line, word_line, EachWordSets}

-- ---- bytes

both : (a b : Bool) → (a && b) ≡ true → (a ≡ true) × (b ≡ true)
both true b e = (refl, e)
both false b e = cc

passing : (p : ℕ → Bool) (xs : List ℕ) → list_all p xs ≡ true → All (λ x. p x ≡ true) xs
passing p [] e k d less = absurd (omega (arith, less))
passing p (x ∷ xs) e zero d less = (both (p x) (list_all p xs) e).0
passing p (x ∷ xs) e (suc k) d less = passing p xs (both (p x) (list_all p xs) e).1 k d (omega (arith, less))

-- neither a line feed nor a return
abbrev is_plain : ℕ → Bool
is_plain b = not (b == 10) && not (b == 13)

visible : (b : ℕ) → nat_le 33 b ≡ true → is_plain b ≡ true
visible b e = let l = leb-true 33 b e in grind (arith, nat_tests)

no_blank : (b : ℕ) → nat_le 33 b ≡ true → is_blank b ≡ false
no_blank b e = let l = leb-true 33 b e in grind (arith, nat_tests)

no_feed : (b : ℕ) → is_plain b ≡ true → ends_line b ≡ false
no_feed b e = let p = both (not (b == 10)) (not (b == 13)) e in inverse (b == 10) p.0
  where
    inverse : (c : Bool) → not c ≡ true → c ≡ false
    inverse true e = cc
    inverse false e = refl

no_return : (b : ℕ) → is_plain b ≡ true → (b == 13) ≡ false
no_return b e = let p = both (not (b == 10)) (not (b == 13)) e in inverse (b == 13) p.1
  where
    inverse : (c : Bool) → not c ≡ true → c ≡ false
    inverse true e = cc
    inverse false e = refl

-- ---- the name and the value of a word

record IsFilled (sides : List ℕ × List ℕ) : Type 0 where
  name : All (λ b. nat_le 33 b ≡ true) sides.0
  value : All (λ b. nat_le 33 b ≡ true) sides.1
  named : (length sides.0 == 0) ≡ false
  valued : (length sides.1 == 0) ≡ false

filled_well : (name value : List ℕ) → All (λ b. nat_le 33 b ≡ true) name → All (λ b. nat_le 33 b ≡ true) value → IfSome (filled (Some (name, value))) IsFilled
filled_well name value n v = by (length name == 0) (length value == 0) refl refl
  where
    by : (a b : Bool) → (length name == 0) ≡ a → (length value == 0) ≡ b → IfSome (if a || b then None else Some (name, value)) IsFilled
    by true b ea eb = tt
    by false true ea eb = tt
    by false false ea eb = record { name = n; value = v; named = ea; valued = eb }

sides_filled : (word : List ℕ) → IfSome (sides word) IsFilled
sides_filled word = by (words.is_word word) refl
  where
    cut : (o : Option ℕ) → words.is_word word ≡ true → IfSome (filled (option_map {U = List ℕ × List ℕ} (λ at. (take at word, drop (at + 1) word)) o)) IsFilled
    cut None e = tt
    cut (Some at) e =
        let all = passing (λ b. nat_le 33 b) word e in
        filled_well (take at word) (drop (at + 1) word) (All-take (λ b. nat_le 33 b ≡ true) at word all) (All-drop (λ b. nat_le 33 b ≡ true) (at + 1) word all)

    by : (b : Bool) → words.is_word word ≡ b → IfSome (if b then filled (halves word) else None) IsFilled
    by true e = cut (position (λ b. b == 61) word) e
    by false e = tt

-- ---- the line of a word

record IsLineOf (o : Option (List ℕ × List ℕ)) : Type 0 where
  body : List ℕ
  some : 0 < length body
  line : set_line o ≡ body ++ 10 ∷ []
  plain : All (λ b. is_plain b ≡ true) body
  says : (inputs : List Input) (said : Said) → after_line inputs said body ≡ after_pair inputs said o

bad_line : IsLineOf None
bad_line = record { body = codes "="; some = omega arith; line = refl; plain = passing is_plain (codes "=") refl; says = λ inputs said. refl }

module _ (name value : List ℕ) (good : IsFilled (name, value)) where
  abbrev body_of : List ℕ
  body_of = codes "at 0 " ++ name ++ codes " " ++ value

  plain_name : All (λ b. is_plain b ≡ true) name
  plain_name = All-weaker (λ b. nat_le 33 b ≡ true) (λ b. is_plain b ≡ true) visible name good.name

  plain_value : All (λ b. is_plain b ≡ true) value
  plain_value = All-weaker (λ b. nat_le 33 b ≡ true) (λ b. is_plain b ≡ true) visible value good.value

  plain_body : All (λ b. is_plain b ≡ true) body_of
  plain_body =
      let P : ℕ → Type 0 = λ b. is_plain b ≡ true in
      All-append P ((codes "at 0 " ++ name) ++ codes " ") value
      (All-append P (codes "at 0 " ++ name) (codes " ") (All-append P (codes "at 0 ") name (passing is_plain (codes "at 0 ") refl) plain_name) (passing is_plain (codes " ") refl))
      plain_value

  -- behind `at` and 0 stand the name and the value
  behind_zero : slice_split is_blank ((name ++ codes " ") ++ value) ≡ name ∷ value ∷ []
  behind_zero =
      let names = All-weaker (λ b. nat_le 33 b ≡ true) (λ b. is_blank b ≡ false) no_blank name good.name in
      let values = All-weaker (λ b. nat_le 33 b ≡ true) (λ b. is_blank b ≡ false) no_blank value good.value in
      ap (slice_split is_blank) (append_assoc name (codes " ") value)
      ∙ slice_split_at is_blank name 32 value names refl
      ∙ ap (λ (parts : List (List ℕ)). name ∷ parts) (slice_split_none is_blank value values)

  parts_are : slice_split is_blank body_of ≡ codes "at" ∷ codes "0" ∷ name ∷ value ∷ []
  parts_are = ap (λ (parts : List (List ℕ)). codes "at" ∷ codes "0" ∷ parts) behind_zero

  kept : filter is_word (name ∷ value ∷ []) ≡ name ∷ value ∷ []
  kept =
      ap (λ (b : Bool). cond (not b) (name ∷ filter is_word (value ∷ [])) (filter is_word (value ∷ []))) good.named
      ∙ ap (λ (b : Bool). name ∷ cond (not b) (value ∷ []) []) good.valued

  words_are : words_of body_of ≡ codes "at" ∷ codes "0" ∷ name ∷ value ∷ []
  words_are = ap (filter is_word) parts_are ∙ ap (λ (ws : List Word). codes "at" ∷ codes "0" ∷ ws) kept

  body_says : (inputs : List Input) (said : Said) → after_line inputs said body_of ≡ after_pair inputs said (Some (name, value))
  body_says inputs said = ap (λ (ws : List Word). if says_nothing ws then Ok said else after_form inputs said (form_of ws)) words_are

  set_line_of : IsLineOf (Some (name, value))
  set_line_of = record { body = body_of; some = omega arith; line = refl; plain = plain_body; says = body_says }

line_of : (o : Option (List ℕ × List ℕ)) → IfSome o IsFilled → IsLineOf o
line_of None good = bad_line
line_of (Some sides) good = set_line_of sides.0 sides.1 good

-- ---- lines

keeps_return : (body : List ℕ) → 0 < length body → All (λ b. is_plain b ≡ true) body → without_return body ≡ body
keeps_return body some plain =
    let last = no_return (slice_index_or body (length body - 1) 0) (plain (length body - 1) 0 (omega (arith, some))) in
    ap (λ (b : Bool). if b then take (length body - 1) body else body) last

first_line : (body rest : List ℕ) → 0 < length body → All (λ b. is_plain b ≡ true) body → lines_of (body ++ 10 ∷ rest) ≡ body ∷ lines_of rest
first_line body rest some plain =
    let free = All-weaker (λ b. is_plain b ≡ true) (λ b. ends_line b ≡ false) no_feed body plain in
    let long = length-slice_split ends_line rest in
    ap as_lines (slice_split_at ends_line body 10 rest free refl)
    ∙ as_lines_more body (slice_split ends_line rest) (omega (arith, long))
    ∙ ap (λ (line : List ℕ). line ∷ lines_of rest) (keeps_return body some plain)

-- ---- no stop is said by words

abbrev is_unsaid : Option ℕ → Type 0
is_unsaid stop = stop ≡ None

abbrev HasNoStop : Said → Type 0
HasNoStop said = is_unsaid said.stop

word_keeps : (inputs : List Input) (number : ℕ) (o : Option (List ℕ × List ℕ)) (said : Said) → HasNoStop said → IfOk (in_line number (after_pair inputs said o)) HasNoStop
word_keeps inputs number None said h = tt
word_keeps inputs number (Some sides) said h =
    number_keeps is_unsaid number (set_input inputs said (input_named inputs sides.0) 0 sides.1) (set_keeps is_unsaid inputs said (input_named inputs sides.0) 0 sides.1 h)

next_keeps : (inputs : List Input) (number : ℕ) (pair : Pair) (r : Result Said StimFault) → IfOk r HasNoStop → IfOk (one_more_pair inputs number pair r) HasNoStop
next_keeps inputs number pair (Err fault) h = tt
next_keeps inputs number pair (Ok said) h = word_keeps inputs number pair said h

-- ---- the whole

stops : (inputs : List Input) (number : ℕ) (r : Result Said StimFault) → IfOk r HasNoStop
    → ended (after_lines inputs number (lines_of (codes "stop 0\n")) r) ≡ stopped_at_zero r
stops inputs number (Err fault) h = refl
stops inputs number (Ok said) h = rw h refl

next_line : (inputs : List Input) (number : ℕ) (word : List ℕ) (body : List ℕ) (r : Result Said StimFault)
    → ((said : Said) → after_line inputs said body ≡ after_pair inputs said (sides word)) → one_more inputs number body r ≡ one_more_pair inputs number (sides word) r
next_line inputs number word body (Err fault) says = refl
next_line inputs number word body (Ok said) says = ap (in_line number) (says said)

all_say : (inputs : List Input) (number : ℕ) (ws : List (List ℕ)) (r : Result Said StimFault) → IfOk r HasNoStop
    → ended (after_lines inputs number (lines_of (flat_map word_line ws ++ codes "stop 0\n")) r) ≡ stopped_at_zero (after_pairs inputs number (map sides ws) r)
all_say inputs number [] r h = stops inputs number r h
all_say inputs number (word ∷ ws) r h =
    let l = line_of (sides word) (sides_filled word) in
    let tail = flat_map word_line ws ++ codes "stop 0\n" in
    let cut : (set_line (sides word) ++ flat_map word_line ws) ++ codes "stop 0\n" ≡ l.body ++ 10 ∷ tail =
    append_assoc (set_line (sides word)) (flat_map word_line ws) (codes "stop 0\n") ∙ ap (λ (text : List ℕ). text ++ tail) l.line ∙ append_assoc l.body (10 ∷ []) tail in
    ap (λ (text : List ℕ). ended (after_lines inputs number (lines_of text) r)) cut
    ∙ ap (λ (lines : List (List ℕ)). ended (after_lines inputs number lines r)) (first_line l.body tail l.some l.plain)
    ∙ ap (λ (so_far : Result Said StimFault). ended (after_lines inputs (suc number) (lines_of tail) so_far)) (next_line inputs number word l.body r (l.says inputs))
    ∙ all_say inputs (suc number) ws (one_more_pair inputs number (sides word) r) (next_keeps inputs number (sides word) r h)

pub each_word_sets : EachWordSets
each_word_sets inputs ws = all_say inputs 1 ws (Ok (nothing_said inputs)) refl
