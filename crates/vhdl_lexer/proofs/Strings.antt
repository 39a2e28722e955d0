-- Strings and bit strings: where they are closed.
use Rattle.std.proofs.Common.{◌≡◌, ℕ, ◌+◌, ◌==◌, ◌&&◌, Bool, true, false, cond, not, List, [], ◌∷◌, ◌++◌, length, take, Ok, Err, Some, None, ◌⊎◌, inl, inr, ⊎_elim, refl, sym, ap, ◌∙◌, subst, true≢false, length-append, arith}
use Rattle.std.specs.List.{list_all}
use Rattle.std.proofs.lemmas.Bool.{eqb-true}
use Rattle.std.proofs.Math.Seq.{take-append_seam}
use Rattle.vhdl_lexer.specs.declared.byte.ByteClass.{ByteClass}
use Rattle.vhdl_lexer.specs.declared.fault.LexFault.TheVariants.{BadByte, OpenString, BadNumber}
use Rattle.vhdl_lexer.specs.declared.token.TokenKind.TheVariants as k
use Rattle.vhdl_lexer.specs.Bytes.{quote, ends_line, is_printable, begins}
use Rattle.vhdl_lexer.specs.Words.{is_joined}
use Rattle.vhdl_lexer.specs.Literals.{is_quoted, is_doubled, is_unquoted}
use Rattle.vhdl_lexer.specs.Scan.{from_quote, from_pair, from_first_quote, before, string_to, string, bit_string_to, bit_string}
use Rattle.vhdl_lexer.proofs.Choices.{chosen, both_true, not_true}

-- ---- strings

mutual
  pub quoted_end : (body rest : List ℕ) → is_quoted body ≡ true → begins quote rest ≡ false → from_quote (body ++ quote ∷ rest) ≡ Some (quote ∷ rest)
  quoted_end [] [] q s = refl
  quoted_end [] (c ∷ rest) q s = rw s refl
  quoted_end (b ∷ body) rest q s =
      ⊎_elim (λ t. let e : (b == quote) ≡ true = t.0 in rw e (doubled_end (b ∷ (body ++ quote ∷ rest)) body rest t.1 s))
      (λ f.
      let e = both_true (not (ends_line b)) (is_quoted body) f.1 in
      let plain : (b == quote) ≡ false = f.0 in
      let stays : ends_line b ≡ false = not_true (ends_line b) e.0 in
      rw (plain, stays) (quoted_end body rest e.1 s))
      (chosen (b == quote) (is_doubled body) (not (ends_line b) && is_quoted body) true q)

  doubled_end : (marks body rest : List ℕ) → is_doubled body ≡ true → begins quote rest ≡ false → from_pair marks (body ++ quote ∷ rest) ≡ Some (quote ∷ rest)
  doubled_end marks [] rest q s = absurd (true≢false (sym q))
  doubled_end marks (c ∷ body) rest q s =
      let e = both_true (c == quote) (is_quoted body) q in
      let pair : (c == quote) ≡ true = e.0 in
      rw pair (quoted_end body rest e.1 s)

-- the text is closed by a quotation mark
pub record Closed (text : List ℕ) : Type 0 where
  pub body : List ℕ
  pub rest : List ℕ
  pub whole : text ≡ body ++ quote ∷ rest
  pub quoted : is_quoted body ≡ true
  pub ended : begins quote rest ≡ false

-- one more pair, one more byte
pair_more : (c : ℕ) (text : List ℕ) → (c == quote) ≡ true → Closed text ⊎ (from_quote text ≡ None) → Closed (quote ∷ c ∷ text) ⊎ ((marks : List ℕ) → from_pair marks (c ∷ text) ≡ None)
pair_more c text t (inl closed) = inl (record {
  body = quote ∷ quote ∷ closed.body;
  rest = closed.rest;
  whole = ap (λ x. quote ∷ x ∷ text) (eqb-true c quote t) ∙ ap (λ x. quote ∷ quote ∷ x) closed.whole;
  quoted = closed.quoted;
  ended = closed.ended;
})
pair_more c text t (inr e) = inr (λ marks. rw t e)

byte_more : (b : ℕ) (text : List ℕ) → (b == quote) ≡ false → ends_line b ≡ false → Closed text ⊎ (from_quote text ≡ None) → Closed (b ∷ text) ⊎ (from_quote (b ∷ text) ≡ None)
byte_more b text t l (inl closed) = inl (record {
  body = b ∷ closed.body;
  rest = closed.rest;
  whole = ap (λ x. b ∷ x) closed.whole;
  quoted = rw (t, l) closed.quoted;
  ended = closed.ended;
})
byte_more b text t l (inr e) = inr (rw (t, l) e)

mark_more : (b : ℕ) (text : List ℕ) → (b == quote) ≡ true → Closed (quote ∷ text) ⊎ ((marks : List ℕ) → from_pair marks text ≡ None) → Closed (b ∷ text) ⊎ (from_quote (b ∷ text) ≡ None)
mark_more b text t (inl closed) = inl (subst (λ x. Closed (x ∷ text)) (sym (eqb-true b quote t)) closed)
mark_more b text t (inr e) = inr (rw t (e (b ∷ text)))

mutual
  -- a string is closed, or no quotation mark that closes it is on its line
  pub closed_or_open : (text : List ℕ) → Closed text ⊎ (from_quote text ≡ None)
  closed_or_open [] = inr refl
  closed_or_open (b ∷ text) = by_mark (b == quote) refl (ends_line b) refl (pair_cases text) (closed_or_open text)
    where
      by_mark : (t : Bool) → (b == quote) ≡ t → (l : Bool) → ends_line b ≡ l → Closed (quote ∷ text) ⊎ ((marks : List ℕ) → from_pair marks text ≡ None) → Closed text ⊎ (from_quote text ≡ None) → Closed (b ∷ text) ⊎ (from_quote (b ∷ text) ≡ None)
      by_mark true e l f pair later = mark_more b text e pair
      by_mark false e true f pair later = inr (rw (e, f) refl)
      by_mark false e false f pair later = byte_more b text e f later

  pair_cases : (text : List ℕ) → Closed (quote ∷ text) ⊎ ((marks : List ℕ) → from_pair marks text ≡ None)
  pair_cases [] = inl (record { body = []; rest = []; whole = refl; quoted = refl; ended = refl })
  pair_cases (c ∷ text) = by_mark (c == quote) refl (closed_or_open text)
    where
      by_mark : (t : Bool) → (c == quote) ≡ t → Closed text ⊎ (from_quote text ≡ None) → Closed (quote ∷ c ∷ text) ⊎ ((marks : List ℕ) → from_pair marks (c ∷ text) ≡ None)
      by_mark true e later = pair_more c text e later
      by_mark false e later = inl (record { body = []; rest = c ∷ text; whole = refl; quoted = refl; ended = e })

before_end : (text body rest : List ℕ) → text ≡ body ++ quote ∷ rest → before text (quote ∷ rest) ≡ length body
before_end text body rest e = omega (arith, ap (λ x. length x) e, length-append body (quote ∷ rest))

take_before : (text body rest : List ℕ) → text ≡ body ++ quote ∷ rest → take (before text (quote ∷ rest)) text ≡ body
take_before text body rest e = ap (λ n. take n text) (before_end text body rest e) ∙ ap (λ x. take (length body) x) e ∙ take-append_seam body (quote ∷ rest)

pub string_closed : (at : ℕ) → (text body rest : List ℕ) → text ≡ body ++ quote ∷ rest → is_quoted body ≡ true → begins quote rest ≡ false →
    string at text ≡ cond (list_all is_printable body) (Ok (k.String, length body + 2)) (Err (BadByte at))
unfolding string
string_closed at text body rest e q s =
    ap (string_to at text) (ap from_quote e ∙ quoted_end body rest q s)
    ∙ ap (λ x. cond (list_all is_printable x) (Ok (k.String, before text (quote ∷ rest) + 2)) (Err (BadByte at))) (take_before text body rest e)
    ∙ ap (λ n. cond (list_all is_printable body) (Ok (k.String, n + 2)) (Err (BadByte at))) (before_end text body rest e)

pub string_open : (at : ℕ) → (text : List ℕ) → from_quote text ≡ None → string at text ≡ Err (OpenString at)
unfolding string
string_open at text e = ap (string_to at text) e

-- ---- bit strings

pub first_end : (body rest : List ℕ) → is_unquoted body ≡ true → from_first_quote (body ++ quote ∷ rest) ≡ Some (quote ∷ rest)
first_end [] rest q = refl
first_end (b ∷ body) rest q =
    let e = both_true (not (ends_line b) && not (b == quote)) (is_unquoted body) q in
    let f = both_true (not (ends_line b)) (not (b == quote)) e.0 in
    let stays : ends_line b ≡ false = not_true (ends_line b) f.0 in
    let plain : (b == quote) ≡ false = not_true (b == quote) f.1 in
    rw (plain, stays) (first_end body rest e.1)

pub record ClosedBits (text : List ℕ) : Type 0 where
  pub body : List ℕ
  pub rest : List ℕ
  pub whole : text ≡ body ++ quote ∷ rest
  pub unquoted : is_unquoted body ≡ true

pub closed_or_open_bits : (text : List ℕ) → ClosedBits text ⊎ (from_first_quote text ≡ None)
closed_or_open_bits [] = inr refl
closed_or_open_bits (b ∷ text) = by_mark (b == quote) refl (ends_line b) refl (closed_or_open_bits text)
  where
    more : (b == quote) ≡ false → ends_line b ≡ false → ClosedBits text ⊎ (from_first_quote text ≡ None) → ClosedBits (b ∷ text) ⊎ (from_first_quote (b ∷ text) ≡ None)
    more e f (inl closed) = inl (record {
      body = b ∷ closed.body;
      rest = closed.rest;
      whole = ap (λ x. b ∷ x) closed.whole;
      unquoted = rw (e, f) closed.unquoted;
    })
    more e f (inr o) = inr (rw (e, f) o)

    by_mark : (t : Bool) → (b == quote) ≡ t → (l : Bool) → ends_line b ≡ l → ClosedBits text ⊎ (from_first_quote text ≡ None) → ClosedBits (b ∷ text) ⊎ (from_first_quote (b ∷ text) ≡ None)
    by_mark true e l f later = inl (record { body = []; rest = text; whole = ap (λ x. x ∷ text) (eqb-true b quote e); unquoted = refl })
    by_mark false e true f later = inr (rw (e, f) refl)
    by_mark false e false f later = more e f later

pub bit_string_closed : (at : ℕ) → (class : ByteClass) (text body rest : List ℕ) → text ≡ body ++ quote ∷ rest → is_unquoted body ≡ true →
    bit_string at class text ≡ cond (is_joined class body) (Ok (k.BitString, length body + 3)) (Err (BadNumber at))
unfolding bit_string
bit_string_closed at class text body rest e q =
    ap (bit_string_to at class text) (ap from_first_quote e ∙ first_end body rest q)
    ∙ ap (λ x. cond (is_joined class x) (Ok (k.BitString, before text (quote ∷ rest) + 3)) (Err (BadNumber at))) (take_before text body rest e)
    ∙ ap (λ n. cond (is_joined class body) (Ok (k.BitString, n + 3)) (Err (BadNumber at))) (before_end text body rest e)

pub bit_string_open : (at : ℕ) → (class : ByteClass) (text : List ℕ) → from_first_quote text ≡ None → bit_string at class text ≡ Err (OpenString at)
unfolding bit_string
bit_string_open at class text e = ap (bit_string_to at class text) e
