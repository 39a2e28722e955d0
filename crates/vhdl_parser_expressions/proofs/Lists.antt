-- What a list's loop gives is what `many` reads, if each of its calls reads an item.
use Rattle.std.proofs.Common.{◌≡◌, ℕ, Bool, List, [], ◌∷◌, map, Option, Result, refl, sym}
use Rattle.std.proofs.lemmas.List.{map-append}
use Rattle.vhdl_lexer.specs.declared.token.TokenKind.{TokenKind}
use Rattle.vhdl_parser_expressions.specs.declared.stop.Stop.{Stop}
use Rattle.vhdl_tree.specs.Lexeme.{Lexeme}
use Rattle.vhdl_parser_expressions.specs.reader.Input.{Parser, Reads, and_then, next_kind, is_kind, expect, many_from, separated}
use Rattle.vhdl_parser_expressions.specs.reader.Lists.{Collects, no_turn, none_begins, one_refused, one_more, no_memory, Follows, item_follows, none_follows, Separates, first_refused, first_read, no_memory_first}

-- each call of item reads an item
abbrev pub ReadsEach : {T A : Type 0} → (List Lexeme → Result T Stop → List Lexeme → Type 0) → (T → A) → Parser A → Type 0
ReadsEach item view p = (ts : List Lexeme) (r : _) (rest : List Lexeme) → item ts r rest → Reads view (p ts) r rest

pub reads_many : {T A : Type 0} {begins : List Lexeme → Bool → Type 0} {item : List Lexeme → Result T Stop → List Lexeme → Type 0} (view : T → A) (starts : Option TokenKind → Bool) (p : Parser A) →
    ((ts : List Lexeme) (b : Bool) → begins ts b → b ≡ starts (next_kind ts)) → ReadsEach item view p → {n : ℕ} {found : List T} {ts rest : List Lexeme} {r : _} →
    Collects begins item n found ts r rest → Reads (λ v. map view v.items) (many_from starts p n (map view found) ts) r rest
unfolding many_from
reads_many view starts p tests reads (no_turn e) = rw e refl
reads_many view starts p tests reads (none_begins {ts = ts} h e) = let t = sym (tests ts _ h) in rw (t, e) refl
reads_many view starts p tests reads (one_refused {ts = ts} h k) = let t = sym (tests ts _ h) in let q = reads ts _ _ k in λ n. let u = q n in rw (t, u) refl
reads_many view starts p tests reads (one_more {found = found} {ts = ts} {rest = rest} {x = x} h k more) =
    let t = sym (tests ts _ h) in
    let u = reads ts _ _ k in
    let all = reads_many view starts p tests reads more in
    let one = rw (map-append view found (x ∷ [])) at all in
    rw (t, u) one
reads_many view starts p tests reads no_memory = λ n. absurd (n refl)

reads_follows : {T A : Type 0} {item : List Lexeme → Result T Stop → List Lexeme → Type 0} (view : T → A) (separator : TokenKind) (p : Parser A) → ReadsEach item view p →
    ReadsEach (Follows separator item) view (λ ts. and_then (expect separator ts) (λ _. p))
reads_follows view separator p reads ts r rest (item_follows e h) = rw e (reads _ _ _ h)
reads_follows view separator p reads ts r rest (none_follows e) = λ n. rw (e n) refl

pub reads_separated : {T A : Type 0} {item : List Lexeme → Result T Stop → List Lexeme → Type 0} (view : T → A) (separator : TokenKind) (p : Parser A) → ReadsEach item view p → {ts rest : List Lexeme} {r : _} →
    Separates separator item ts r rest → Reads (λ v. map view v.items) (separated separator p ts) r rest
unfolding separated
reads_separated view separator p reads (first_refused h) = let q = reads _ _ _ h in λ n. let u = q n in rw u refl
reads_separated view separator p reads (first_read h all) =
    let u = reads _ _ _ h in
    rw u (reads_many view (is_kind separator) _ (λ ts b e. e) (reads_follows view separator p reads) all)
reads_separated view separator p reads no_memory_first = λ n. absurd (n refl)
