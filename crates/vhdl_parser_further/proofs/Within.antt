-- What is left of tokens within a source is within it.
use Rattle.std.proofs.Common.{ℕ, zero, suc, Bool, true, false, List, [], ◌∷◌, ◌++◌, Option, Some, None, if◌then◌else◌, take, drop}
use Rattle.vhdl_lexer.specs.Cut.{AreWithin}
use Rattle.vhdl_lexer.specs.declared.token.Token.{Token}
use Rattle.vhdl_lexer.specs.declared.token.TokenKind.{TokenKind}
use Rattle.vhdl_lexer.specs.declared.token.TokenKind.TheVariants as k
use Rattle.vhdl_parser_further.specs.Early.{sequel_of}
use Rattle.vhdl_parser_further.specs.Left.{left, taken, without_or}
use Rattle.vhdl_parser_further.specs.Statements.{behind_statement, ends_before, ends_behind, open_behind, parens_behind, place_of}
use Rattle.vhdl_parser_further.specs.Units.{before_unit}
use Rattle.vhdl_parser_further.specs.declared.sequel.Sequel.{Sequel}

within_append : (source : List ℕ) (xs ys : List Token) → AreWithin source xs → AreWithin source ys → AreWithin source (xs ++ ys)
within_append source [] ys front back = back
within_append source (x ∷ xs) ys front back = (front.0, front.1, within_append source xs ys front.2 back)

within_take : (source : List ℕ) (n : ℕ) (xs : List Token) → AreWithin source xs → AreWithin source (take n xs)
within_take source zero xs w = tt
within_take source (suc n) [] w = tt
within_take source (suc n) (x ∷ xs) w = (w.0, w.1, within_take source n xs w.2)

within_drop : (source : List ℕ) (n : ℕ) (xs : List Token) → AreWithin source xs → AreWithin source (drop n xs)
within_drop source zero xs w = w
within_drop source (suc n) [] w = tt
within_drop source (suc n) (x ∷ xs) w = within_drop source n xs w.2

within_either : (source : List ℕ) (b : Bool) (xs ys : List Token) → AreWithin source xs → AreWithin source ys
    → AreWithin source (if b then xs else ys)
within_either source true xs ys one other = one
within_either source false xs ys one other = other

within_statement : (source : List ℕ) (sequel : Sequel) (opened parens : ℕ) (last : TokenKind) (ts : List Token) → AreWithin source ts
    → AreWithin source (behind_statement sequel opened parens last ts)
within_statement source sequel opened parens last [] w = tt
within_statement source sequel opened parens last (t ∷ ts) w =
    within_either source (ends_behind sequel opened parens last t.kind ts) ts _ w.2
    (within_either source (ends_before opened t.kind) (t ∷ ts) _ w
    (within_statement source sequel (open_behind opened last t.kind) (parens_behind parens t.kind) t.kind ts w.2))

within_without : (source : List ℕ) (sequel : Sequel) (tokens units : List Token) (begins : Option ℕ) → AreWithin source tokens
    → AreWithin source units → AreWithin source (without_or sequel tokens units begins)
within_without source sequel tokens units None w behind = behind
within_without source sequel tokens units (Some n) w behind =
    within_append source (take n tokens) _ (within_take source n tokens w)
    (within_statement source sequel 0 0 k.Semicolon (drop n tokens) (within_drop source n tokens w))

pub within_left : (source : List ℕ) (tokens : List Token) (at : ℕ) → AreWithin source tokens → AreWithin source (left tokens at)
unfolding left
within_left source tokens at w =
    let p = place_of at tokens in
    let ahead = drop p.read tokens in
    let n = before_unit ahead in
    within_without source (sequel_of p (take n ahead)) tokens (drop n ahead) (taken p tokens (take n ahead)) w (within_drop source n ahead (within_drop source p.read tokens w))
