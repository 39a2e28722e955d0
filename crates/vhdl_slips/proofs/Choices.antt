-- Choices and literals, by the first token.
use Rattle.std.proofs.Common.{◌≡◌, ℕ, ◌+◌, ◌-◌, ◌<◌, ◌≤◌, Bool, true, false, List, [], ◌∷◌, ◌++◌, if◌then◌else◌, Option, Some, None, option_map, length, slice_index_or, refl, sym, ap, ◌∙◌, arith}
use Rattle.std.specs.List.{list_all}
use Rattle.vhdl_slips.specs.Choices.{choices_from, chooses, ends, is_among, is_left_out, left_out, missing_in, missing_of, open_behind, type_of}
use Rattle.vhdl_slips.specs.Words.{Read, text_of}
use Rattle.vhdl_slips.proofs.Rest.{rest, rest_is}
use Rattle.vhdl_slips.proofs.Rest as lists
use Rattle.vhdl_lexer.specs.declared.token.Token.{Token}
use Rattle.vhdl_lexer.specs.declared.token.TokenKind.{TokenKind}
use Rattle.vhdl_lexer.specs.declared.token.TokenKind.TheVariants as k
use Rattle.vhdl_tree.specs.Lexeme.{same_kind}

-- ---- choices

here : (end chosen : Bool) (t : Token) (ts : List Token) → end ≡ false → chosen ≡ true → (if end then [] else (if chosen then t ∷ [] else []) ++ ts) ≡ t ∷ ts
here false true t ts not_so so = refl
here true chosen t ts not_so so = cc
here false false t ts not_so so = cc

gone : (end chosen : Bool) (t : Token) (ts : List Token) → end ≡ false → chosen ≡ false → (if end then [] else (if chosen then t ∷ [] else []) ++ ts) ≡ ts
gone false false t ts not_so so = refl
gone true chosen t ts not_so so = cc
gone false true t ts not_so so = cc

pub choice_end : (opened : ℕ) (last : TokenKind) (d : Token) (ts : List Token) → 1 ≤ length ts → ends opened (slice_index_or ts 0 d).kind ≡ true
    → choices_from opened last ts ≡ []
choice_end opened last d [] some so = refl
choice_end opened last d (t ∷ ts) some so =
    ap (λ (end : Bool). if end then [] else (if chooses opened last then t ∷ [] else []) ++ choices_from (open_behind opened last t.kind) t.kind ts) so

pub choice_here : (opened : ℕ) (last : TokenKind) (d : Token) (ts : List Token) → 1 ≤ length ts → ends opened (slice_index_or ts 0 d).kind ≡ false
    → chooses opened last ≡ true
    → choices_from opened last ts
    ≡ slice_index_or ts 0 d ∷ choices_from (open_behind opened last (slice_index_or ts 0 d).kind) (slice_index_or ts 0 d).kind (rest ts)
choice_here opened last d [] some goes_on so = absurd (omega (arith, some))
choice_here opened last d (t ∷ ts) some goes_on so =
    here (ends opened t.kind) (chooses opened last) t (choices_from (open_behind opened last t.kind) t.kind ts) goes_on so
    ∙ ap (λ (left : List Token). t ∷ choices_from (open_behind opened last t.kind) t.kind left) (sym (rest_is t ts))

pub choice_more : (opened : ℕ) (last : TokenKind) (d : Token) (ts : List Token) → 1 ≤ length ts → ends opened (slice_index_or ts 0 d).kind ≡ false
    → chooses opened last ≡ false
    → choices_from (open_behind opened last (slice_index_or ts 0 d).kind) (slice_index_or ts 0 d).kind (rest ts) ≡ choices_from opened last ts
choice_more opened last d [] some goes_on so = absurd (omega (arith, some))
choice_more opened last d (t ∷ ts) some goes_on so =
    ap (choices_from (open_behind opened last t.kind) t.kind) (rest_is t ts)
    ∙ sym (gone (ends opened t.kind) (chooses opened last) t (choices_from (open_behind opened last t.kind) t.kind ts) goes_on so)

up : (case end : Bool) (n : ℕ) → (if case then (if end then n - 1 else n + 1) else n) ≤ n + 1
up true true n = omega arith
up true false n = omega arith
up false end n = omega arith

within : (n m bound : ℕ) (ts : List Token) → m ≤ n + 1 → 1 ≤ length ts → n + length ts < bound → m + length (rest ts) < bound
within n m bound [] below some room = absurd (omega (arith, some))
within n m bound (t ∷ ts) below some room = rw (rest_is t ts) (omega (arith, below, room))

pub room_behind : (opened bound : ℕ) (last kind : TokenKind) (ts : List Token) → 1 ≤ length ts → opened + length ts < bound
    → open_behind opened last kind + length (rest ts) < bound
room_behind opened bound last kind ts some room = within opened _ bound ts (up (same_kind kind k.Case) (same_kind last k.End) opened) some room

-- ---- what is missing

pub left_here : (text : List ℕ) (choices : List Token) (literals : List ℕ) (d : Token) (ts : List Token) → 1 ≤ length ts
    → is_left_out text choices literals (slice_index_or ts 0 d) ≡ true → left_out text choices literals ts ≡ Some (text_of literals (slice_index_or ts 0 d))
left_here text choices literals d [] some so = absurd (omega (arith, some))
left_here text choices literals d (t ∷ ts) some so =
    ap (λ (found : Option Token). option_map (text_of literals) found) (lists.find_here (is_left_out text choices literals) t ts so)

pub left_more : (text : List ℕ) (choices : List Token) (literals : List ℕ) (d : Token) (ts : List Token) → 1 ≤ length ts
    → is_left_out text choices literals (slice_index_or ts 0 d) ≡ false → left_out text choices literals (rest ts) ≡ left_out text choices literals ts
left_more text choices literals d [] some not_so = absurd (omega (arith, some))
left_more text choices literals d (t ∷ ts) some not_so =
    ap (left_out text choices literals) (rest_is t ts)
    ∙ ap (λ (found : Option Token). option_map (text_of literals) found) (sym (lists.find_behind (is_left_out text choices literals) t ts not_so))

module _ (before : Read) (text : List ℕ) (cs : List Token) (choice : Token) (further : List Token) (type : Read) (is : cs ≡ choice ∷ further)
    (type_is : type ≡ type_of before (text_of text choice)) where
  missing_is : missing_in text cs type ≡ missing_of before text cs
  missing_is = ap (λ (c : List Token). missing_in text c type) is ∙ ap (missing_in text (choice ∷ further)) type_is ∙ ap (missing_of before text) (sym is)

  pub missing_found : list_all (λ c. is_among type (text_of text c)) cs ≡ true → left_out text cs type.text type.tokens ≡ missing_of before text cs
  missing_found all = ap (λ (b : Bool). if b then left_out text cs type.text type.tokens else None) (sym all) ∙ missing_is

  pub missing_none : list_all (λ c. is_among type (text_of text c)) cs ≡ false → None ≡ missing_of before text cs
  missing_none all = ap (λ (b : Bool). if b then left_out text cs type.text type.tokens else None) (sym all) ∙ missing_is
