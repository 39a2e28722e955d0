-- What a loop gives that reads the items of a list.
use Rattle.std.specs.Prelude.{◌≡◌, ◌≢◌, ℕ, zero, suc, Bool, true, false, List, [], ◌∷◌, ◌++◌, length, Vec, Result, Ok, Err}
use Rattle.std.specs.Borrow.{MutBor}
use Rattle.std.specs.Fn.{Shared}
use Rattle.std.specs.Global.{Global}
use Rattle.vhdl_parser_expressions.specs.declared.stop.Stop.{Stop}
use Rattle.vhdl_parser_expressions.specs.declared.stop.Stop.TheVariants.{NoMemory}
use Rattle.vhdl_lexer.specs.declared.token.TokenKind.{TokenKind}
use Rattle.vhdl_tree.specs.Lexeme.{Lexeme}
use Rattle.vhdl_parser_expressions.specs.reader.Input.{expect, sees}

-- at a `&mut` to x, a call of f may give r and leave x' there
pub record FnReturnsAtMut {F X R : Type 0} (g : Shared F (MutBor X × Unit {0}) (R × (MutBor X × Unit {0})))
    (f : F) (x : X) (r : R) (x' : X) : Type 0 where
  pub shown : MutBor X
  pub left : MutBor X
  pub met : g.post f (shown, tt) (r, (left, tt))
  pub shows : shown.now ≡ x
  pub leaves : left.now ≡ x'

-- Items while one begins, after those found, in at most so many turns: by what the tests whether one begins may
-- answer, and by what the reads of an item may give and leave.
pub data Collects {T : Type 0} (begins : List Lexeme → Bool → Type 0)
    (item : List Lexeme → Result T Stop → List Lexeme → Type 0) : ℕ → List T →
    List Lexeme → Result (Vec T Global) Stop → List Lexeme → Type 0 where
  no_turn : {found : List T} {all : Vec T Global} {ts : List Lexeme}
      → all.items ≡ found → Collects begins item zero found ts (Ok all) ts
  none_begins : {n : ℕ} {found : List T} {all : Vec T Global} {ts : List Lexeme} → begins ts false → all.items ≡ found →
      Collects begins item (suc n) found ts (Ok all) ts
  one_refused : {n : ℕ} {found : List T} {ts rest : List Lexeme} {e : Stop} → begins ts true → item ts (Err e) rest →
      Collects begins item (suc n) found ts (Err e) rest
  one_more : {n : ℕ} {found : List T} {ts rest last : List Lexeme} {x : T} {r : Result (Vec T Global) Stop}
      → begins ts true → item ts (Ok x) rest →
      Collects begins item n (found ++ x ∷ []) rest r last → Collects begins item (suc n) found ts r last
  no_memory : {n : ℕ} {found : List T} {ts rest : List Lexeme} → Collects begins item n found ts (Err NoMemory) rest

-- What follows a separator, by what the reads of an item may give and leave.
pub data Follows {T : Type 0} (separator : TokenKind)
    (item : List Lexeme → Result T Stop → List Lexeme → Type 0) : List Lexeme → Result T Stop →
    List Lexeme → Type 0 where
  item_follows : {ts us rest : List Lexeme} {at : ℕ} {r : Result T Stop}
      → expect separator ts ≡ Ok (at, us) → item us r rest → Follows separator item ts r rest
  none_follows : {ts rest : List Lexeme} {e : Stop}
      → (e ≢ NoMemory → expect separator ts ≡ Err (e, rest)) → Follows separator item ts (Err e) rest

-- Items with separators between them, one at least.
pub data Separates {T : Type 0} (separator : TokenKind)
    (item : List Lexeme → Result T Stop → List Lexeme → Type 0) : List Lexeme →
    Result (Vec T Global) Stop → List Lexeme → Type 0 where
  first_refused : {ts rest : List Lexeme} {e : Stop} → item ts (Err e) rest → Separates separator item ts (Err e) rest
  first_read : {ts us rest : List Lexeme} {x : T} {r : Result (Vec T Global) Stop} → item ts (Ok x) us →
      Collects (λ vs b. b ≡ sees separator vs) (Follows separator item) (length us) (x ∷ []) us r rest
      → Separates separator item ts r rest
  no_memory_first : {ts rest : List Lexeme} → Separates separator item ts (Err NoMemory) rest
