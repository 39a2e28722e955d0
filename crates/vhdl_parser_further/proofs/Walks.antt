-- One token more.
use Rattle.std.proofs.Common.{◌≡◌, ℕ, ◌+◌, ◌≤◌, Bool, true, false, List, [], ◌∷◌, if◌then◌else◌, nat_le, length, refl, slice_index_or, arith}
use Rattle.vhdl_lexer.proofs.Walks.{down_or_up, more_within, rest, rest_is, up_or_down}
use Rattle.vhdl_lexer.specs.Kinds.{is_end, is_left, is_right}
use Rattle.vhdl_lexer.specs.declared.token.Token.{Token}
use Rattle.vhdl_lexer.specs.declared.token.TokenKind.{TokenKind}
use Rattle.vhdl_parser_further.specs.Kinds.{is_left_paren, is_right_paren, opens}
use Rattle.vhdl_parser_further.specs.Statements.{behind, behind_statement, ends_before, ends_behind, first, open_behind, parens_behind, place_from, step}
use Rattle.vhdl_parser_further.specs.Units.{begins_architecture, begins_entity}
use Rattle.vhdl_parser_further.specs.declared.place.Place.{Place}
use Rattle.vhdl_parser_further.specs.declared.sequel.Sequel.{Sequel}

rest_fewer : {A : Type 0} (xs : List A) → 1 ≤ length xs → length (rest xs) + 1 ≤ length xs
rest_fewer [] some = absurd (omega arith)
rest_fewer (x ∷ xs) some = rw (rest_is x xs) (omega arith)

pub place_more : (at : ℕ) (p : Place) (d : Token) (ts : List Token) → 1 ≤ length ts → nat_le at (slice_index_or ts 0 d).start ≡ false
    → place_from at (behind p (slice_index_or ts 0 d).kind ts) (rest ts) ≡ place_from at p ts
place_more at p d [] some before = absurd (omega arith)
place_more at p d (t ∷ ts) some before = rw (rest_is t ts, before) refl

pub statement_more : (sequel : Sequel) (opened parens : ℕ) (last : TokenKind) (d : Token) (ts : List Token) → 1 ≤ length ts
    → ends_behind sequel opened parens last (slice_index_or ts 0 d).kind (rest ts) ≡ false → ends_before opened (slice_index_or ts 0 d).kind ≡ false
    → behind_statement sequel (open_behind opened last (slice_index_or ts 0 d).kind) (parens_behind parens (slice_index_or ts 0 d).kind)
    (slice_index_or ts 0 d).kind (rest ts)
    ≡ behind_statement sequel opened parens last ts
statement_more sequel opened parens last d [] some goes_on has_more = absurd (omega arith)
statement_more sequel opened parens last d (t ∷ ts) some goes_on has_more = rw (rest_is t ts, rw (rest_is t ts) at goes_on, has_more) refl

-- ---- how many are open

-- with so many tokens ahead no count is above the number of all tokens
pub record IsBounded (all : ℕ) (p : Place) (ahead : ℕ) : Type 0 where
  pub read : p.read + ahead ≤ all
  pub depth : p.depth + ahead ≤ all
  pub opened : p.opened + ahead ≤ all

open_up : (opened : ℕ) (last kind : TokenKind) → open_behind opened last kind ≤ opened + 1
open_up opened last kind = down_or_up (is_end kind) (opens last kind) opened

pub open_within : (opened all : ℕ) (last kind : TokenKind) (ts : List Token) → 1 ≤ length ts → opened + length ts ≤ all
    → open_behind opened last kind + length (rest ts) ≤ all
open_within opened all last kind ts some within = more_within opened _ all ts (open_up opened last kind) some within

pub parens_within : (parens all : ℕ) (kind : TokenKind) (ts : List Token) → 1 ≤ length ts → parens + length ts ≤ all
    → parens_behind parens kind + length (rest ts) ≤ all
parens_within parens all kind ts some within = more_within parens _ all ts (up_or_down (is_left_paren kind) (is_right_paren kind) parens) some within

bounded_step : (all ahead fewer : ℕ) (p : Place) (kind : TokenKind) → fewer + 1 ≤ ahead → IsBounded all p ahead → IsBounded all (step p kind) fewer
bounded_step all ahead fewer p kind less b = record {
  read = omega (arith, b.read);
  depth = omega (arith, b.depth, up_or_down (is_left p.last kind) (is_right kind) p.depth);
  opened = omega (arith, b.opened, open_up p.opened p.last kind);
}

bounded_first : (all ahead fewer : ℕ) (is : Bool) (p : Place) (kind : TokenKind) → fewer + 1 ≤ ahead → IsBounded all p ahead
    → IsBounded all (first is (p.read + 1) kind) fewer
bounded_first all ahead fewer is p kind less b = record { read = omega (arith, b.read); depth = omega (arith, b.read); opened = omega (arith, b.read) }

bounded_among : (all ahead fewer : ℕ) (architecture entity : Bool) (p : Place) (kind : TokenKind) → fewer + 1 ≤ ahead → IsBounded all p ahead
    → IsBounded all (if architecture then first true (p.read + 1) kind else (if entity then first false (p.read + 1) kind else step p kind)) fewer
bounded_among all ahead fewer true entity p kind less b = bounded_first all ahead fewer true p kind less b
bounded_among all ahead fewer false true p kind less b = bounded_first all ahead fewer false p kind less b
bounded_among all ahead fewer false false p kind less b = bounded_step all ahead fewer p kind less b

pub bounded_more : (all : ℕ) (p : Place) (kind : TokenKind) (ts : List Token) → 1 ≤ length ts → IsBounded all p (length ts)
    → IsBounded all (behind p kind ts) (length (rest ts))
bounded_more all p kind ts some b =
    bounded_among all (length ts) (length (rest ts)) (begins_architecture ts) (begins_entity ts) p kind (rest_fewer ts some) b
