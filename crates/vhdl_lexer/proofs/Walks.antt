-- One token more.
use Rattle.std.proofs.Common.{◌≡◌, ℕ, ◌+◌, ◌-◌, ◌≤◌, Bool, true, false, List, [], ◌∷◌, if◌then◌else◌, nat_le, length, take, drop, refl, slice_index_or, arith}
use Rattle.std.proofs.lemmas.List.{take_all}
use Rattle.vhdl_lexer.specs.Extents.{beginning, begins_behind, depth_behind, end_behind, ends_here, open_behind}
use Rattle.vhdl_lexer.specs.Kinds.{is_end, is_left, is_right, opens}
use Rattle.vhdl_lexer.specs.declared.token.Token.{Token}
use Rattle.vhdl_lexer.specs.declared.token.TokenKind.{TokenKind}

-- what is left behind the first of some
abbrev pub rest : {A : Type 0} → List A → List A
rest xs = take (length xs - 1) (drop 1 xs)

pub rest_is : {A : Type 0} (x : A) (xs : List A) → rest (x ∷ xs) ≡ xs
rest_is x xs = take_all (length (x ∷ xs) - 1) xs (omega arith)

-- ---- where a statement begins and ends

pub end_more : (opened : ℕ) (last : TokenKind) (d : Token) (ts : List Token) → 1 ≤ length ts → ends_here opened (slice_index_or ts 0 d).kind ≡ false
    → end_behind (open_behind opened last (slice_index_or ts 0 d).kind) (slice_index_or ts 0 d).kind (rest ts) ≡ end_behind opened last ts
end_more opened last d [] some goes_on = absurd (omega arith)
end_more opened last d (t ∷ ts) some goes_on = rw (rest_is t ts, goes_on) refl

pub begins_more : (at depth : ℕ) (last : TokenKind) (here : List Token) (d : Token) (ts : List Token) → 1 ≤ length ts
    → nat_le at (slice_index_or ts 0 d).start ≡ false
    → beginning at (depth_behind depth last (slice_index_or ts 0 d).kind) (slice_index_or ts 0 d).kind
    (if begins_behind (depth_behind depth last (slice_index_or ts 0 d).kind) last (slice_index_or ts 0 d).kind (rest ts) then rest ts else here) (rest ts)
    ≡ beginning at depth last here ts
begins_more at depth last here d [] some before = absurd (omega arith)
begins_more at depth last here d (t ∷ ts) some before = rw (rest_is t ts, before) refl

-- ---- how many are open

pub down_or_up : (a b : Bool) (n : ℕ) → (if a then n - 1 else (if b then n + 1 else n)) ≤ n + 1
down_or_up true b n = omega arith
down_or_up false true n = omega arith
down_or_up false false n = omega arith

pub up_or_down : (a b : Bool) (n : ℕ) → (if a then n + 1 else (if b then n - 1 else n)) ≤ n + 1
up_or_down true b n = omega arith
up_or_down false true n = omega arith
up_or_down false false n = omega arith

pub more_within : {A : Type 0} (n m all : ℕ) (xs : List A) → m ≤ n + 1 → 1 ≤ length xs → n + length xs ≤ all → m + length (rest xs) ≤ all
more_within n m all [] up some within = absurd (omega arith)
more_within n m all (x ∷ xs) up some within = rw (rest_is x xs) (omega (arith, up, within))

pub open_within : (opened all : ℕ) (last kind : TokenKind) (ts : List Token) → 1 ≤ length ts → opened + length ts ≤ all
    → open_behind opened last kind + length (rest ts) ≤ all
open_within opened all last kind ts some within = more_within opened _ all ts (down_or_up (is_end kind) (opens last kind) opened) some within

pub depth_within : (depth all : ℕ) (last kind : TokenKind) (ts : List Token) → 1 ≤ length ts → depth + length ts ≤ all
    → depth_behind depth last kind + length (rest ts) ≤ all
depth_within depth all last kind ts some within = more_within depth _ all ts (up_or_down (is_left last kind) (is_right kind) depth) some within
