-- What the lexer finds at the front of a text stands there.
use Rattle.std.proofs.Common.{◌≡◌, ℕ, zero, suc, ◌+◌, ◌≤◌, ◌==◌, ◌&&◌, ◌||◌, nat_le, Bool, true, false, cond, not, List, [], ◌∷◌, ◌++◌, length, take, drop, Ok, Err, IfOk, Option, Some, None, inl, inr, ⊎_elim, refl, sym, ap, ◌∙◌, subst, true≢false, take-append-drop, length-take-le, length-append, append_assoc, arith}
use Rattle.std.specs.List.{list_all}
use Rattle.std.specs.Char.{is_ascii_digit}
use Rattle.std.proofs.lemmas.Bool.{eqb-true}
use Rattle.std.proofs.lemmas.Bool.Decides.{nat_tests}
use Rattle.std.proofs.Math.Seq.{take-append_seam, drop-append_seam}
use Rattle.vhdl_lexer.specs.declared.byte.ByteClass.{ByteClass}
use Rattle.vhdl_lexer.specs.declared.byte.ByteClass.TheVariants.{Decimal}
use Rattle.vhdl_lexer.specs.declared.fault.LexFault.{LexFault}
use Rattle.vhdl_lexer.specs.declared.fault.LexFault.TheVariants.{BadByte, OpenComment, OpenString, BadIdentifier, BadNumber}
use Rattle.vhdl_lexer.specs.declared.token.TokenKind.{TokenKind}
use Rattle.vhdl_lexer.specs.declared.token.TokenKind.TheVariants as k
use Rattle.vhdl_lexer.specs.Bytes.{quote, tick, slash, star, is_printable, begins_word, begins}
use Rattle.vhdl_lexer.specs.Separators.{opens_comment}
use Rattle.vhdl_lexer.specs.Words.{is_joined, is_identifier, word_kind, base_class, opened_class}
use Rattle.vhdl_lexer.specs.Literals.{greatest_integer, integer_of, goes_on_number, may_open, closes}
use Rattle.vhdl_lexer.specs.Delimiters.{single}
use Rattle.vhdl_lexer.specs.Cut.{IsElement}
use Rattle.vhdl_lexer.specs.Scan.{Found, run, word, fits, number, string, bit_string, word_or_bit_string, character, one, longer, mark, front, Stands, IsFront}
use Rattle.vhdl_lexer.proofs.Choices.{both_true, begins_with}
use Rattle.vhdl_lexer.proofs.Runs.{run_within, run_stops}
use Rattle.vhdl_lexer.proofs.Strings.{Closed, closed_or_open, string_closed, string_open, ClosedBits, closed_or_open_bits, bit_string_closed, bit_string_open}
use Rattle.vhdl_lexer.proofs.Marks.{mark_one, mark_two, mark_comment}

pub ok_pair : (a b : TokenKind) (m n : ℕ) → ◌≡◌ {A = Found} (Ok (a, m)) (Ok (b, n)) → (a ≡ b) × (m ≡ n)
ok_pair a b m n h =
    let e : ◌≡◌ {A = TokenKind × ℕ} (a, m) (b, n) = cc in
    (ap (λ (p : TokenKind × ℕ). p.0) e, ap (λ (p : TokenKind × ℕ). p.1) e)

pub err_ok : {A : Type 0} (p : LexFault) (x : TokenKind × ℕ) → ◌≡◌ {A = Found} (Err p) (Ok x) → A
err_ok p x h = absurd (cc)

-- an element of this kind and length is a slice at the front
pub record IsSliced (last : Option TokenKind) (kind : TokenKind) (n : ℕ) (text : List ℕ) : Type 0 where
  pub slice : List ℕ
  pub rest : List ℕ
  pub whole : text ≡ slice ++ rest
  pub count : n ≡ length slice
  pub some : 1 ≤ n
  pub form : IsElement last kind slice rest

sliced : (last : Option TokenKind) (kind other : TokenKind) (n m : ℕ) (text : List ℕ) → ◌≡◌ {A = Found} (Ok (kind, n)) (Ok (other, m)) → IsSliced last kind n text → IsSliced last other m text
sliced last kind other n m text h s =
    let e = ok_pair kind other n m h in
    subst (λ x. IsSliced last x m text) e.0 (subst (λ x. IsSliced last kind x text) e.1 s)

-- ---- words and integers

some_word : (n : ℕ) (text : List ℕ) → is_identifier (take n text) ≡ true → 1 ≤ n
some_word zero text e = absurd (true≢false (sym e))
some_word (suc n) text e = omega arith

some_joined : (class : ByteClass) (n : ℕ) (text : List ℕ) → is_joined class (take n text) ≡ true → 1 ≤ n
some_joined class zero text e = absurd (true≢false (sym e))
some_joined class (suc n) text e = omega arith

word_sound : (at : ℕ) → (last : Option TokenKind) (text : List ℕ) (kind : TokenKind) (n : ℕ) → opened_class text ≡ None → word at text ≡ Ok (kind, n) → IsSliced last kind n text
unfolding word
word_sound at last text kind n none h = by_test (is_identifier (take (run text) text)) refl h
  where
    by_test : (t : Bool) → is_identifier (take (run text) text) ≡ t → ◌≡◌ {A = Found} (cond t (Ok (word_kind (take (run text) text), run text)) (Err (BadIdentifier at))) (Ok (kind, n)) → IsSliced last kind n text
    by_test true e g = sliced last (word_kind (take (run text) text)) kind (run text) n text g (record {
      slice = take (run text) text;
      rest = drop (run text) text;
      whole = sym (take-append-drop (run text) text);
      count = sym (length-take-le (run text) text (run_within text));
      some = some_word (run text) text e;
      form = inl (e, run_stops text, ap opened_class (take-append-drop (run text) text) ∙ none, refl);
    })
    by_test false e g = err_ok (BadIdentifier at) (kind, n) g

pub fits_most : (text : List ℕ) → fits text ≡ true → integer_of text ≤ greatest_integer
fits_most text e = by_number (integer_of text) e
  where
    by_number : (n : ℕ) → nat_le n greatest_integer ≡ true → n ≤ greatest_integer
    by_number n e = grind (arith, nat_tests)

number_sound : (at : ℕ) → (last : Option TokenKind) (text : List ℕ) (kind : TokenKind) (n : ℕ) → number at text ≡ Ok (kind, n) → IsSliced last kind n text
unfolding number
number_sound at last text kind n h =
    by_test (is_joined Decimal (take (run text) text)) refl (goes_on_number (drop (run text) text)) refl (fits (take (run text) text)) refl h
  where
    by_test : (j : Bool) → is_joined Decimal (take (run text) text) ≡ j → (g : Bool) → goes_on_number (drop (run text) text) ≡ g → (f : Bool) → fits (take (run text) text) ≡ f →
        ◌≡◌ {A = Found} (cond (j && not g && f) (Ok (k.Integer, run text)) (Err (BadNumber at))) (Ok (kind, n)) → IsSliced last kind n text
    by_test true ej false eg true ef h = sliced last k.Integer kind (run text) n text h (record {
      slice = take (run text) text;
      rest = drop (run text) text;
      whole = sym (take-append-drop (run text) text);
      count = sym (length-take-le (run text) text (run_within text));
      some = some_joined Decimal (run text) text ej;
      form = inr (inl (ej, eg, fits_most (take (run text) text) ef, refl));
    })
    by_test true ej false eg false ef h = err_ok (BadNumber at) (kind, n) h
    by_test true ej true eg f ef h = err_ok (BadNumber at) (kind, n) h
    by_test false ej g eg f ef h = err_ok (BadNumber at) (kind, n) h

-- ---- characters, strings and bit strings

character_sound : (last : Option TokenKind) (after : List ℕ) (kind : TokenKind) (n : ℕ) → character last after ≡ Ok (kind, n) → IsSliced last kind n (tick ∷ after)
unfolding character
character_sound last after kind n h = by_test (may_open last && closes after) refl h
  where
    literal : (rest : List ℕ) → may_open last ≡ true → closes rest ≡ true → IsSliced last k.Character 3 (tick ∷ rest)
    literal [] m e = absurd (true≢false (sym e))
    literal (c ∷ rest) m e =
        let f = both_true (is_printable c) (begins tick rest) e in
        let w = begins_with tick rest f.1 in
        record {
          slice = tick ∷ c ∷ tick ∷ [];
          rest = w.0;
          whole = ap (λ x. tick ∷ c ∷ x) w.1;
          count = refl;
          some = omega arith;
          form = inr (inr (inl (c, refl, f.0, m, refl)));
        }

    by_test : (t : Bool) → (may_open last && closes after) ≡ t → ◌≡◌ {A = Found} (cond t (Ok (k.Character, 3)) (Ok (k.Tick, 1))) (Ok (kind, n)) → IsSliced last kind n (tick ∷ after)
    by_test true e g = let f = both_true (may_open last) (closes after) e in sliced last k.Character kind 3 n (tick ∷ after) g (literal after f.0 f.1)
    by_test false e g = sliced last k.Tick kind 1 n (tick ∷ after) g (record {
      slice = tick ∷ [];
      rest = after;
      whole = refl;
      count = refl;
      some = omega arith;
      form = inr (inr (inr (inr (inr (refl, (λ c rest is. refl), (λ is. e))))));
    })

string_sound : (at : ℕ) → (last : Option TokenKind) (after : List ℕ) (kind : TokenKind) (n : ℕ) → string at after ≡ Ok (kind, n) → IsSliced last kind n (quote ∷ after)
string_sound at last after kind n h = ⊎_elim closed (λ e. err_ok (OpenString at) (kind, n) (sym (string_open at after e) ∙ h)) (closed_or_open after)
  where
    by_test : (c : Closed after) (t : Bool) → list_all is_printable c.body ≡ t → ◌≡◌ {A = Found} (cond t (Ok (k.String, length c.body + 2)) (Err (BadByte at))) (Ok (kind, n)) → IsSliced last kind n (quote ∷ after)
    by_test c true e g = sliced last k.String kind (length c.body + 2) n (quote ∷ after) g (record {
      slice = quote ∷ (c.body ++ quote ∷ []);
      rest = c.rest;
      whole = ap (λ x. quote ∷ x) (c.whole ∙ sym (append_assoc c.body (quote ∷ []) c.rest));
      count = omega (arith, length-append c.body (quote ∷ []));
      some = omega arith;
      form = inr (inr (inr (inl (c.body, refl, c.quoted, c.ended, e, refl))));
    })
    by_test c false e g = err_ok (BadByte at) (kind, n) g

    closed : Closed after → IsSliced last kind n (quote ∷ after)
    closed c = by_test c (list_all is_printable c.body) refl (sym (string_closed at after c.body c.rest c.whole c.quoted c.ended) ∙ h)

bit_string_sound : (at : ℕ) → (last : Option TokenKind) (class : ByteClass) (base : ℕ) (after : List ℕ) (kind : TokenKind) (n : ℕ) → base_class base ≡ Some class → bit_string at class after ≡ Ok (kind, n) → IsSliced last kind n (base ∷ quote ∷ after)
bit_string_sound at last class base after kind n is h = ⊎_elim closed (λ e. err_ok (OpenString at) (kind, n) (sym (bit_string_open at class after e) ∙ h)) (closed_or_open_bits after)
  where
    by_test : (c : ClosedBits after) (t : Bool) → is_joined class c.body ≡ t → ◌≡◌ {A = Found} (cond t (Ok (k.BitString, length c.body + 3)) (Err (BadNumber at))) (Ok (kind, n)) → IsSliced last kind n (base ∷ quote ∷ after)
    by_test c true e g = sliced last k.BitString kind (length c.body + 3) n (base ∷ quote ∷ after) g (record {
      slice = base ∷ quote ∷ (c.body ++ quote ∷ []);
      rest = c.rest;
      whole = ap (λ x. base ∷ quote ∷ x) (c.whole ∙ sym (append_assoc c.body (quote ∷ []) c.rest));
      count = omega (arith, length-append c.body (quote ∷ []));
      some = omega arith;
      form = inr (inr (inr (inr (inl (base, class, c.body, refl, is, e, refl)))));
    })
    by_test c false e g = err_ok (BadNumber at) (kind, n) g

    closed : ClosedBits after → IsSliced last kind n (base ∷ quote ∷ after)
    closed c = by_test c (is_joined class c.body) refl (sym (bit_string_closed at class after c.body c.rest c.whole c.unquoted) ∙ h)

-- a bit string opens by its base and a quotation mark
pub opened_bits : (text : List ℕ) (class : ByteClass) → opened_class text ≡ Some class → (base : ℕ) × (after : List ℕ) × (text ≡ base ∷ quote ∷ after) × (base_class base ≡ Some class)
opened_bits [] class e = let never : ◌≡◌ {A = Option ByteClass} None (Some class) = e in absurd (cc)
opened_bits (b ∷ text) class e = by_test (begins quote text) refl e
  where
    by_test : (t : Bool) → begins quote text ≡ t → cond t (base_class b) None ≡ Some class → (base : ℕ) × (after : List ℕ) × (b ∷ text ≡ base ∷ quote ∷ after) × (base_class base ≡ Some class)
    by_test true f g = let w = begins_with quote text f in (b, w.0, ap (λ x. b ∷ x) w.1, g)
    by_test false f g = absurd (cc)

word_or_bit_string_sound : (at : ℕ) → (last : Option TokenKind) (text : List ℕ) (kind : TokenKind) (n : ℕ) → word_or_bit_string at (opened_class text) text ≡ Ok (kind, n) → IsSliced last kind n text
word_or_bit_string_sound at last text kind n h = by_class (opened_class text) refl h
  where
    bits : (class : ByteClass) → ((base : ℕ) × (after : List ℕ) × (text ≡ base ∷ quote ∷ after) × (base_class base ≡ Some class)) → bit_string at class (drop 2 text) ≡ Ok (kind, n) → IsSliced last kind n text
    bits class o g = subst (λ x. IsSliced last kind n x) (sym o.2) (bit_string_sound at last class o.0 o.1 kind n o.3 (sym (ap (λ x. bit_string at class (drop 2 x)) o.2) ∙ g))

    by_class : (class : Option ByteClass) → opened_class text ≡ class → word_or_bit_string at class text ≡ Ok (kind, n) → IsSliced last kind n text
    by_class None e g = word_sound at last text kind n e g
    by_class (Some class) e g = bits class (opened_bits text class e) g

-- ---- delimiters

mark_sound : (at : ℕ) → (last : Option TokenKind) (b : ℕ) (after : List ℕ) (kind : TokenKind) (n : ℕ) → (b == tick) ≡ false → mark at b after ≡ Ok (kind, n) → IsSliced last kind n (b ∷ after)
mark_sound at last b after kind n plain h = by_test (b == slash && begins star after) refl
  where
    no_tick : b ∷ [] ≡ tick ∷ [] → ⊥
    no_tick is = let e : b ≡ tick = cc in true≢false (ap (λ x. x == tick) (sym e) ∙ plain)

    both : (after : List ℕ) (found : TokenKind) → longer b after ≡ Some found → IsSliced last found 2 (b ∷ after)
    both [] found e = let never : ◌≡◌ {A = Option TokenKind} None (Some found) = e in absurd (cc)
    both (c ∷ rest) found e = record {
      slice = b ∷ c ∷ [];
      rest = rest;
      whole = refl;
      count = refl;
      some = omega arith;
      form = inr (inr (inr (inr (inr (e, (λ d more is. refl), (λ is. let l : ◌≡◌ {A = ℕ} 2 1 = ap (λ (x : List ℕ). length x) is in absurd (omega (arith, l))))))));
    }

    alone : (found : TokenKind) → longer b after ≡ None → single b ≡ Some found → IsSliced last found 1 (b ∷ after)
    alone found p e = record {
      slice = b ∷ [];
      rest = after;
      whole = refl;
      count = refl;
      some = omega arith;
      form = inr (inr (inr (inr (inr (e, (λ d more is. sym (ap (longer b) is) ∙ p), (λ is. absurd (no_tick is)))))));
    }

    by_single : (found : Option TokenKind) → single b ≡ found → longer b after ≡ None → one at found ≡ Ok (kind, n) → IsSliced last kind n (b ∷ after)
    by_single None e p g = err_ok (BadByte at) (kind, n) g
    by_single (Some other) e p g = sliced last other kind 1 n (b ∷ after) g (alone other p e)

    by_pair : (b == slash && begins star after) ≡ false → (found : Option TokenKind) → longer b after ≡ found → IsSliced last kind n (b ∷ after)
    by_pair t None e = by_single (single b) refl e (sym (mark_one at b after (single b) t e refl) ∙ h)
    by_pair t (Some other) e = sliced last other kind 2 n (b ∷ after) (sym (mark_two at b after other t e) ∙ h) (both after other e)

    by_test : (t : Bool) → (b == slash && begins star after) ≡ t → IsSliced last kind n (b ∷ after)
    by_test true e = err_ok (OpenComment at) (kind, n) (sym (mark_comment at b after e) ∙ h)
    by_test false e = by_pair e (longer b after) refl

-- ---- the front

pub front_sound : (at : ℕ) → (last : Option TokenKind) (text : List ℕ) (kind : TokenKind) (n : ℕ) → front at last text ≡ Ok (kind, n) → IsSliced last kind n text
unfolding front
front_sound at last [] kind n h = err_ok (BadByte at) (kind, n) h
front_sound at last (b ∷ after) kind n h = by_first (is_ascii_digit b) (begins_word b) (b == quote) refl (b == tick) refl h
  where
    by_first : (d w q : Bool) → (b == quote) ≡ q → (t : Bool) → (b == tick) ≡ t →
        cond d (number at (b ∷ after)) (cond w (word_or_bit_string at (opened_class (b ∷ after)) (b ∷ after)) (cond q (string at after) (cond t (character last after) (mark at b after)))) ≡ Ok (kind, n) →
        IsSliced last kind n (b ∷ after)
    by_first true w q eq t et g = number_sound at last (b ∷ after) kind n g
    by_first false true q eq t et g = word_or_bit_string_sound at last (b ∷ after) kind n g
    by_first false false true eq t et g = subst (λ x. IsSliced last kind n (x ∷ after)) (sym (eqb-true b quote eq)) (string_sound at last after kind n g)
    by_first false false false eq true et g = subst (λ x. IsSliced last kind n (x ∷ after)) (sym (eqb-true b tick et)) (character_sound last after kind n g)
    by_first false false false eq false et g = mark_sound at last b after kind n et g

-- where a token stands no comment opens
no_comment : (at : ℕ) → (last : Option TokenKind) (text : List ℕ) (x : TokenKind × ℕ) → Stands text → front at last text ≡ Ok x → opens_comment text ≡ false
unfolding front
no_comment at last [] x s h = refl
no_comment at last (b ∷ after) x s h = ap (λ t. t || b == slash && begins star after) s.1 ∙ by_test (b == slash) refl (begins star after) refl
  where
    comment : b ≡ slash → begins star after ≡ true → front at last (b ∷ after) ≡ Err (OpenComment at)
    comment e f = ap (λ x. front at last (x ∷ after)) e ∙ mark_comment at slash after f

    by_test : (t : Bool) → (b == slash) ≡ t → (u : Bool) → begins star after ≡ u → (t && u) ≡ false
    by_test true e true f = err_ok (OpenComment at) x (sym (comment (eqb-true b slash e) f) ∙ h)
    by_test _ e _ f = refl

pub front_stands : (at : ℕ) → (last : Option TokenKind) (text : List ℕ) (kind : TokenKind) (n : ℕ) → Stands text → front at last text ≡ Ok (kind, n) → IsFront last kind n text
front_stands at last text kind n s h =
    let f = front_sound at last text kind n h in
    let front_is : take n text ≡ f.slice = ap (λ m. take m text) f.count ∙ ap (λ x. take (length f.slice) x) f.whole ∙ take-append_seam f.slice f.rest in
    let rest_is : drop n text ≡ f.rest = ap (λ m. drop m text) f.count ∙ ap (λ x. drop (length f.slice) x) f.whole ∙ drop-append_seam f.slice f.rest in
    record {
      token = (
        subst (λ x. IsElement last kind x (drop n text)) (sym front_is) (subst (λ x. IsElement last kind f.slice x) (sym rest_is) f.form),
        ap opens_comment (take-append-drop n text) ∙ no_comment at last text (kind, n) s h,
      );
      some = f.some;
      within = omega (arith, f.count, ap (λ (x : List ℕ). length x) f.whole, length-append f.slice f.rest);
    }

pub found_stands : (at : ℕ) → (last : Option TokenKind) (text : List ℕ) (r : Found) → Stands text → r ≡ front at last text → IfOk r (λ t. IsFront last t.0 t.1 text)
found_stands at last text (Ok t) s e = front_stands at last text t.0 t.1 s (sym e)
found_stands at last text (Err p) s e = tt
