-- One step of a walk over tokens.
use Rattle.std.proofs.Common.{◌≡◌, ℕ, suc, ◌+◌, ◌≤◌, ◌<◌, ◌&&◌, Bool, true, false, if◌then◌else◌, List, [], ◌∷◌, length, take, slice_index_or, min, flat_map, refl, sym, ap, ◌∙◌, arith}
use Rattle.std.specs.List.{prefix_len}
use Rattle.std.proofs.lemmas.List.{take_min}
use Rattle.vhdl_lexer.proofs.Walks.{rest, rest_is}
use Rattle.vhdl_expected.specs.Reading.{Reading, begins_unit, goes_on, statement, unit_from}
use Rattle.vhdl_expected.specs.Told.{is_identifier, respelt_first, respelt_in, stand, words}
use Rattle.vhdl_tree.specs.Lexeme.{same_kind}
use Rattle.vhdl_lexer.specs.declared.token.Token.{Token}
use Rattle.vhdl_lexer.specs.declared.token.TokenKind.{TokenKind}

-- ---- tokens

pub unit_more : (last : TokenKind) (here : List Token) (d : Token) (ts : List Token) → 1 ≤ length ts
    → unit_from (slice_index_or ts 0 d).kind (if begins_unit last (slice_index_or ts 0 d).kind then ts else here) (rest ts) ≡ unit_from last here ts
unit_more last here d [] some = absurd (omega (arith, some))
unit_more last here d (t ∷ ts) some = ap (unit_from t.kind (if begins_unit last t.kind then t ∷ ts else here)) (rest_is t ts)

pub statement_is : (n : ℕ) (ts : List Token) → 1 ≤ length ts → n ≡ prefix_len goes_on (rest ts) → take (min (n + 2) (length ts)) ts ≡ statement ts
statement_is n [] some is = absurd (omega (arith, some))
statement_is n (t ∷ ts) some is =
    let more : n + 2 ≡ suc (n + 1) = omega arith in
    take_min (n + 2) (t ∷ ts)
    ∙ ap (λ (m : ℕ). take m (t ∷ ts)) more
    ∙ ap (λ (m : ℕ). t ∷ take (m + 1) ts) (is ∙ ap (prefix_len goes_on) (rest_is t ts))

-- ---- kinds that stand there

pub kinds_end : (kinds : List TokenKind) (ts : List Token) → length kinds < 1 → true ≡ stand kinds ts
kinds_end [] ts none = refl
kinds_end (kind ∷ kinds) ts none = absurd (omega (arith, none))

pub tokens_end : (kinds : List TokenKind) (ts : List Token) → 1 ≤ length kinds → length ts < 1 → false ≡ stand kinds ts
tokens_end [] ts some none = absurd (omega (arith, some))
tokens_end (kind ∷ kinds) [] some none = refl
tokens_end (kind ∷ kinds) (t ∷ ts) some none = absurd (omega (arith, none))

pub kinds_differ : (k : TokenKind) (d : Token) (kinds : List TokenKind) (ts : List Token) → 1 ≤ length kinds → 1 ≤ length ts
    → same_kind (slice_index_or ts 0 d).kind (slice_index_or kinds 0 k) ≡ false → false ≡ stand kinds ts
kinds_differ k d [] ts some more not_so = absurd (omega (arith, some))
kinds_differ k d (kind ∷ kinds) [] some more not_so = absurd (omega (arith, more))
kinds_differ k d (kind ∷ kinds) (t ∷ ts) some more not_so = ap (λ (same : Bool). same && stand kinds ts) (sym not_so)

pub kinds_agree : (k : TokenKind) (d : Token) (kinds : List TokenKind) (ts : List Token) → 1 ≤ length kinds → 1 ≤ length ts
    → same_kind (slice_index_or ts 0 d).kind (slice_index_or kinds 0 k) ≡ true → stand (rest kinds) (rest ts) ≡ stand kinds ts
kinds_agree k d [] ts some more so = absurd (omega (arith, some))
kinds_agree k d (kind ∷ kinds) [] some more so = absurd (omega (arith, more))
kinds_agree k d (kind ∷ kinds) (t ∷ ts) some more so =
    ap (λ (ks : List TokenKind). stand ks (rest (t ∷ ts))) (rest_is kind kinds)
    ∙ ap (stand kinds) (rest_is t ts)
    ∙ ap (λ (same : Bool). same && stand kinds ts) (sym so)

-- ---- the first of some tokens

module _ (r : Reading) (place : ℕ) (ts : List Token) where
  pub no_token : length ts < 1 → respelt_first r place ts ≡ []
  no_token none = by_tokens ts none
    where
      by_tokens : (us : List Token) → length us < 1 → respelt_first r place us ≡ []
      by_tokens [] few = refl
      by_tokens (u ∷ us) few = absurd (omega (arith, few))

  pub no_identifier : (d : Token) → 1 ≤ length ts → is_identifier (slice_index_or ts 0 d).kind ≡ false → respelt_first r place ts ≡ []
  no_identifier d some not_so = by_tokens ts some not_so
    where
      by_tokens : (us : List Token) → 1 ≤ length us → is_identifier (slice_index_or us 0 d).kind ≡ false → respelt_first r place us ≡ []
      by_tokens [] few n = absurd (omega (arith, few))
      by_tokens (u ∷ us) few n = ap (λ (b : Bool). if b then flat_map (respelt_in r place u) words else []) n

  pub identifier : (d : Token) → 1 ≤ length ts → is_identifier (slice_index_or ts 0 d).kind ≡ true
      → respelt_first r place ts ≡ flat_map (respelt_in r place (slice_index_or ts 0 d)) words
  identifier d some so = by_tokens ts some so
    where
      by_tokens : (us : List Token) → 1 ≤ length us → is_identifier (slice_index_or us 0 d).kind ≡ true
          → respelt_first r place us ≡ flat_map (respelt_in r place (slice_index_or us 0 d)) words
      by_tokens [] few n = absurd (omega (arith, few))
      by_tokens (u ∷ us) few n = ap (λ (b : Bool). if b then flat_map (respelt_in r place u) words else []) n
