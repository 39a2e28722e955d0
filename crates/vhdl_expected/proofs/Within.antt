-- Tokens that are parts of a source, and what is made of them.
use Rattle.std.proofs.Common.{ℕ, zero, suc, ◌+◌, ◌≤◌, Bool, true, false, if◌then◌else◌, List, [], ◌∷◌, ◌++◌, length, map, take, drop, slice_index_or, arith}
use Rattle.std.specs.List.{prefix_len}
use Rattle.vhdl_lexer.specs.Cut.{AreWithin}
use Rattle.vhdl_lexer.specs.declared.token.Token.{Token}
use Rattle.vhdl_lexer.specs.declared.token.TokenKind.{TokenKind}
use Rattle.vhdl_lexer.specs.declared.token.TokenKind.TheVariants as k
use Rattle.vhdl_expected.specs.Changes.{Change, with_kind, change_first, changed}
use Rattle.vhdl_expected.specs.Reading.{IsPart, begins_unit, goes_on, unit_from, starts_before, statement, before, from}

module _ (source : List ℕ) where
  pub within_take : (n : ℕ) (ts : List Token) → AreWithin source ts → AreWithin source (take n ts)
  within_take zero [] w = tt
  within_take zero (t ∷ ts) w = tt
  within_take (suc n) [] w = tt
  within_take (suc n) (t ∷ ts) w = (w.0, w.1, within_take n ts w.2)

  pub within_drop : (n : ℕ) (ts : List Token) → AreWithin source ts → AreWithin source (drop n ts)
  within_drop zero [] w = w
  within_drop zero (t ∷ ts) w = w
  within_drop (suc n) [] w = w
  within_drop (suc n) (t ∷ ts) w = within_drop n ts w.2

  pub within_append : (ts us : List Token) → AreWithin source ts → AreWithin source us → AreWithin source (ts ++ us)
  within_append [] us w v = v
  within_append (t ∷ ts) us w v = (w.0, w.1, within_append ts us w.2 v)

  pub first_is_part : (d : Token) (ts : List Token) → 1 ≤ length ts → AreWithin source ts → IsPart source (slice_index_or ts 0 d)
  first_is_part d [] some w = absurd (omega (arith, some))
  first_is_part d (t ∷ ts) some w = (w.0, w.1)

  -- ---- the text that is read

  chosen : (begins : Bool) (left here : List Token) → AreWithin source left → AreWithin source here → AreWithin source (if begins then left else here)
  chosen true left here w v = w
  chosen false left here w v = v

  within_unit : (last : TokenKind) (here left : List Token) → AreWithin source here → AreWithin source left → AreWithin source (unit_from last here left)
  within_unit last here [] w v = w
  within_unit last here (t ∷ ts) w v = within_unit t.kind (if begins_unit last t.kind then t ∷ ts else here) ts (chosen (begins_unit last t.kind) (t ∷ ts) here v w) v.2

  within_statement : (ts : List Token) → AreWithin source ts → AreWithin source (statement ts)
  within_statement [] w = w
  within_statement (t ∷ ts) w = (w.0, w.1, within_take (prefix_len goes_on ts + 1) ts w.2)

  pub within_text : (at : ℕ) (ts : List Token) → AreWithin source ts → AreWithin source (before at ts ++ from at ts)
  within_text at ts w =
      let n = prefix_len (starts_before at) ts in
      let front = within_take n ts w in
      within_append (before at ts) (from at ts) (within_unit k.Semicolon (take n ts) (take n ts) front front) (within_statement (drop n ts) (within_drop n ts w))

  -- ---- a text that is changed

  within_kinds : (t : Token) (kinds : List TokenKind) → IsPart source t → AreWithin source (map (with_kind t) kinds)
  within_kinds t [] w = tt
  within_kinds t (kind ∷ kinds) w = (w.0, w.1, within_kinds t kinds w)

  within_first : (c : Change) (ts : List Token) → AreWithin source ts → AreWithin source (change_first c ts)
  within_first c [] w = tt
  within_first c (t ∷ ts) w = within_append (map (with_kind t) c.put) _ (within_kinds t c.put (w.0, w.1)) (within_drop c.taken (t ∷ ts) w)

  pub within_changed : (place : ℕ) (c : Change) (ts : List Token) → AreWithin source ts → AreWithin source (changed place c ts)
  within_changed place c ts w = within_append (take place ts) (change_first c (drop place ts)) (within_take place ts w) (within_first c (drop place ts) (within_drop place ts w))
