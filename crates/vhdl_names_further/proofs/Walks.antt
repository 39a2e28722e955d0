-- One token more.
use Rattle.std.proofs.Common.{◌≡◌, ℕ, ◌<◌, ◌≤◌, ◌&&◌, not, nat_le, Bool, true, false, if◌then◌else◌, List, [], ◌∷◌, length, Option, Some, None, refl, sym, ap, ◌∙◌, slice_index_or, arith}
use Rattle.std.proofs.lemmas.Bool.{false≢true}
use Rattle.std.proofs.lemmas.Bool.Decides.{nat_tests}
use Rattle.vhdl_lexer.proofs.Reached.{next_found}
use Rattle.vhdl_lexer.proofs.Sound.{front_sound}
use Rattle.vhdl_lexer.proofs.Walks.{begins_more, rest, rest_is}
use Rattle.vhdl_lexer.specs.Cut.{AreWithin, Cuts, IsNext}
use Rattle.vhdl_lexer.specs.Extents.{beginning, begins_behind, depth_behind, statement_at, taken_from}
use Rattle.vhdl_lexer.specs.Scan.{skip}
use Rattle.vhdl_lexer.specs.declared.extent.Extent.{Extent}
use Rattle.vhdl_lexer.specs.declared.token.Token.{Token}
use Rattle.vhdl_lexer.specs.declared.token.TokenKind.{TokenKind}
use Rattle.vhdl_lexer.specs.declared.token.TokenKind.TheVariants as k
use Rattle.vhdl_names_further.specs.Known.{counts_behind, found_behind, is_found}
use Rattle.vhdl_names_further.specs.Naming.{around, is_around}
use Rattle.vhdl_names_further.specs.Taken.{and_those, ends_unit, is_named, statements_of, with_name, without}
use Rattle.vhdl_names_further.specs.Once.{IsOut, without_begun, without_this}

pub rest_within : (source : List ℕ) (ts : List Token) → 1 ≤ length ts → AreWithin source ts → AreWithin source (rest ts)
rest_within source [] some within = absurd (omega arith)
rest_within source (t ∷ ts) some within = rw (rest_is t ts) within.2

pub first_within : (source : List ℕ) (d : Token) (ts : List Token) → 1 ≤ length ts → AreWithin source ts
    → ((slice_index_or ts 0 d).start ≤ (slice_index_or ts 0 d).end) × ((slice_index_or ts 0 d).end ≤ length source)
first_within source d [] some within = absurd (omega arith)
first_within source d (t ∷ ts) some within = (within.0, within.1)

pub second_within : (source : List ℕ) (d : Token) (ts : List Token) → 2 ≤ length ts → AreWithin source ts
    → ((slice_index_or ts 1 d).start ≤ (slice_index_or ts 1 d).end) × ((slice_index_or ts 1 d).end ≤ length source)
second_within source d [] some within = absurd (omega arith)
second_within source d (t ∷ ts) some within = first_within source d ts (omega (arith, some)) within.2

pub around_more : (at : ℕ) (ts : List Token) → 1 ≤ length ts → is_around at ts ≡ false → around at (rest ts) ≡ around at ts
around_more at [] some other = absurd (omega arith)
around_more at (t ∷ ts) some other = rw (rest_is t ts, other) refl

pub around_here : (at : ℕ) (ts : List Token) → is_around at ts ≡ true → ts ≡ around at ts
around_here at [] this = refl
around_here at (t ∷ ts) this = rw this refl

pub around_within : (source : List ℕ) (at : ℕ) (ts : List Token) → AreWithin source ts → AreWithin source (around at ts)
around_within source at [] within = tt
around_within source at (t ∷ ts) within = by_test (is_around at (t ∷ ts)) (around_within source at ts within.2)
  where
    by_test : (b : Bool) → AreWithin source (around at ts) → AreWithin source (if b then t ∷ ts else around at ts)
    by_test true later = within
    by_test false later = later

module _ (source left name : List ℕ) (at : ℕ) (anywhere counts found : Bool) (d : Token) where
  pub found_more : (ts : List Token) → 1 ≤ length ts → nat_le at (slice_index_or ts 0 d).start ≡ false
      → is_found source left name at anywhere (counts_behind anywhere counts (slice_index_or ts 0 d).kind)
      (found_behind source left name counts found (slice_index_or ts 0 d)) (rest ts)
      ≡ is_found source left name at anywhere counts found ts
  found_more [] some before = absurd (omega arith)
  found_more (t ∷ ts) some before = rw (rest_is t ts, before) refl

  pub found_here : (ts : List Token) → 1 ≤ length ts → nat_le at (slice_index_or ts 0 d).start ≡ true
      → found ≡ is_found source left name at anywhere counts found ts
  found_here [] some behind = absurd (omega arith)
  found_here (t ∷ ts) some behind = rw behind refl

-- ---- tokens stand one behind the other, so that a walk which begins at the first comes to where each statement begins

-- each token has a byte, and begins at this one or where the one before ends, or behind that
abbrev pub AreInOrder : (from : ℕ) → List Token → Type 0
AreInOrder from [] = Unit {0}
AreInOrder from (t ∷ ts) = (from ≤ t.start) × (t.start < t.end) × AreInOrder t.end ts

has_byte : (before : Option TokenKind) (at : ℕ) (text : List ℕ) (t : Token) (left : List ℕ) (next : IsNext before at text t left) → 1 ≤ length next.slice
has_byte before at text t left next = (front_sound 0 before (skip text) t.kind (length next.slice) (next_found before at text t left next 0)).some

pub cut_in_order : (before : Option TokenKind) (at : ℕ) (text : List ℕ) (ts : List Token) → Cuts before at text ts → AreInOrder at ts
cut_in_order before at text [] cuts = tt
cut_in_order before at text (t ∷ ts) cuts =
    let some = has_byte before at text t cuts.0 cuts.1 in
    (omega (arith, cuts.1.starts), omega (arith, cuts.1.ends, some), cut_in_order (Some t.kind) t.end cuts.0 ts cuts.2)

-- The walk stands before these tokens, `here` begins what is being read: so what has a byte from there on begins where the walk will find it.
pub record Walked (tokens others here : List Token) (depth : ℕ) (last : TokenKind) : Type 0 where
  pub from : ℕ
  pub order : AreInOrder from others
  pub same : (at : ℕ) → from ≤ at → beginning at depth last here others ≡ beginning at 0 k.Semicolon tokens tokens

pub walked_none : (source : List ℕ) (tokens : List Token) → Cuts None 0 source tokens → Walked tokens tokens tokens 0 k.Semicolon
walked_none source tokens cuts = record { from = 0; order = cut_in_order None 0 source tokens cuts; same = λ at behind. refl }

before_it : (at start : ℕ) → start < at → nat_le at start ≡ false
before_it at start less = grind (arith, nat_tests)

at_it : (at : ℕ) → nat_le at at ≡ true
at_it at = grind (arith, nat_tests)

pub walked_more : (tokens here : List Token) (depth : ℕ) (last : TokenKind) (d : Token) (others : List Token) → 1 ≤ length others
    → Walked tokens others here depth last
    → Walked tokens (rest others) (if begins_behind (depth_behind depth last (slice_index_or others 0 d).kind) last (slice_index_or others 0 d).kind (rest others) then rest others else here)
    (depth_behind depth last (slice_index_or others 0 d).kind) (slice_index_or others 0 d).kind
walked_more tokens here depth last d [] some walked = absurd (omega arith)
walked_more tokens here depth last d (t ∷ ts) some walked = record {
  from = t.end;
  order = rw (rest_is t ts) walked.order.2;
  same = λ at behind.
      begins_more at depth last here d (t ∷ ts) some (before_it at t.start (omega (arith, walked.order.1, behind)))
      ∙ walked.same at (omega (arith, walked.order.0, walked.order.1, behind));
}

-- the statement with the next token is the one that was begun
pub statement_is : (tokens here : List Token) (depth : ℕ) (last : TokenKind) (t : Token) (others : List Token) → Walked tokens (t ∷ others) here depth last
    → statement_at tokens t.start ≡ taken_from here
unfolding statement_at
statement_is tokens here depth last t others walked =
    ap taken_from (sym (walked.same t.start walked.order.0) ∙ found (at_it t.start))
  where
    found : nat_le t.start t.start ≡ true → beginning t.start depth last here (t ∷ others) ≡ here
    found e = rw e refl

at_first : (at : ℕ) → nat_le 0 at ≡ true
at_first at = grind (arith, nat_tests)

-- what begins with these tokens is the statement with their first byte, or with any before it
pub statement_first : (here : List Token) → statement_at here 0 ≡ taken_from here
unfolding statement_at
statement_first [] = refl
statement_first (t ∷ ts) = rw (at_first t.start) refl

-- ---- the statements of a name

and_with : (one : Option Extent) (extents : List Extent) (left : List ℕ) → without (and_those one extents) left ≡ without extents (without_this one left)
and_with None extents left = refl
and_with (Some extent) extents left = refl

module _ (source name : List ℕ) (at : ℕ) (tokens here : List Token) (depth : ℕ) (last : TokenKind) (left next : List ℕ) where
  pub uses_more : (d : Token) (ts : List Token) → 1 ≤ length ts → Walked tokens ts here depth last
      → ends_unit at (slice_index_or ts 0 d) ≡ false
      → next ≡ (if is_named source name at ts then without_begun here left else left)
      → without (statements_of tokens (with_name source name at (rest ts))) next ≡ without (statements_of tokens (with_name source name at ts)) left
  uses_more d [] some walked goes_on is = absurd (omega arith)
  uses_more d (t ∷ ts) some walked goes_on is = rw (rest_is t ts, goes_on) (by_test (is_named source name at (t ∷ ts)) is)
    where
      by_test : (b : Bool) → next ≡ (if b then without_begun here left else left)
          → without (statements_of tokens (with_name source name at ts)) next
          ≡ without (statements_of tokens (if b then t ∷ with_name source name at ts else with_name source name at ts)) left
      by_test true e =
          ap (without (statements_of tokens (with_name source name at ts))) e
          ∙ sym (and_with (statement_at tokens t.start) (statements_of tokens (with_name source name at ts)) left
          ∙ ap (λ (one : Option Extent). without (statements_of tokens (with_name source name at ts)) (without_this one left)) (statement_is tokens here depth last t ts walked))
      by_test false e = ap (without (statements_of tokens (with_name source name at ts))) e

pub out_more : (is_out begins : Bool) (more here : List Token) (left : List ℕ) → IsOut is_out here left → IsOut (is_out && not begins) (if begins then more else here) left
out_more true true more here left out = λ e. absurd (false≢true e)
out_more true false more here left out = out
out_more false begins more here left out = λ e. absurd (false≢true e)
