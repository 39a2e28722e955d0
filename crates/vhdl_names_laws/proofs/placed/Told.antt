-- Where the pieces of a construct stand at bytes of which something holds, it holds of the byte at which is told that a rule is broken.
use Rattle.std.proofs.Common.{◌≡◌, ℕ, Bool, true, false, cond, List, [], ◌∷◌, ◌++◌, Option, Some, None, IfSome, refl}
use Rattle.std.specs.Prelude.{nat_le}
use Rattle.std.specs.List.{AllByRecursion}
use Rattle.vhdl_lexer.specs.declared.token.TokenKind.{TokenKind}
use Rattle.vhdl_tree.specs.Tree.{Ident}
use Rattle.vhdl_tree.specs.Pieces as p
use Rattle.vhdl_tree.specs.Pieces.{Piece, spell_ident, spell_option, spell_each, spell_list}
use Rattle.vhdl_names_rules.specs.declared.fault.NameProblem.{NameProblem}
pub use Rattle.vhdl_names_rules.proofs.laws.Edges.{all_of_both}
use Rattle.vhdl_names_rules.specs.problems.Broken.{Broken, nothing, refused, ◌▸◌, unless, lacking, where_given, of_any, any_of, earlier}

-- ---- pieces

abbrev pub PieceStands : (ℕ → Type 0) → Piece → Type 0
PieceStands P (p.some kind) = Unit {0}
PieceStands P (p.one_at kind at) = P at
PieceStands P (p.word_at at text) = P at
PieceStands P (p.literal_at at code) = P at
PieceStands P (p.text_at kind at text) = P at

abbrev pub Stand : (ℕ → Type 0) → List Piece → Type 0
Stand P = AllByRecursion (PieceStands P)

pub first : (P : ℕ → Type 0) (ps qs : List Piece) → Stand P (ps ++ qs) → Stand P ps
first P [] qs h = tt
first P (x ∷ ps) qs h = (h.0, first P ps qs h.1)

pub behind : (P : ℕ → Type 0) (ps qs : List Piece) → Stand P (ps ++ qs) → Stand P qs
behind P [] qs h = h
behind P (x ∷ ps) qs h = behind P ps qs h.1

-- ---- what is told

pub record Told (P : ℕ → Type 0) (b : Broken) : Type 0 where
  pub is : IfSome b (λ told. P told.1)

pub told_nothing : {P : ℕ → Type 0} → Told P nothing
told_nothing = record { is = tt }

pub told_refused : {P : ℕ → Type 0} (p : NameProblem) (at : ℕ) → P at → Told P (refused p at)
told_refused p at h = record { is = h }

pub told_unless : {P : ℕ → Type 0} (p : NameProblem) (at : ℕ) (holds : Bool) → P at → Told P (unless p at holds)
told_unless p at true h = told_nothing
told_unless p at false h = told_refused p at h

pub told_lacking : {P : ℕ → Type 0} {A : Type 0} (p : NameProblem) (at : ℕ) (o : Option A) → P at → Told P (lacking p at o)
told_lacking p at (Some x) h = told_nothing
told_lacking p at None h = told_refused p at h

pub told_given : {P : ℕ → Type 0} {A : Type 0} (o : Option A) (f : A → Broken) → ((x : A) → Told P (f x)) → Told P (where_given o f)
told_given None f one = told_nothing
told_given (Some x) f one = one x

-- of what is given so
pub told_from : {P : ℕ → Type 0} {A : Type 0} (o : Option A) (f : A → Broken) → ((x : A) → o ≡ Some x → Told P (f x)) → Told P (where_given o f)
told_from None f one = told_nothing
told_from (Some x) f one = one x refl

pub told_absent : {P : ℕ → Type 0} {A : Type 0} (f : A → Broken) (o : Option A) → ((x : A) → Told P (f x)) → Told P (of_any f o)
told_absent f None one = told_nothing
told_absent f (Some x) one = one x

pub told_behind : {P : ℕ → Type 0} {a b : Broken} → Told P a → Told P b → Told P (a ▸ b)
unfolding ◌▸◌
told_behind {a = None} h g = g
told_behind {a = Some x} h g = h

pub told_if : {P : ℕ → Type 0} {a b : Broken} (holds : Bool) → Told P a → Told P b → Told P (cond holds a b)
told_if true h g = h
told_if false h g = g

pub told_earlier : {P : ℕ → Type 0} {a b : Broken} → Told P a → Told P b → Told P (earlier a b)
unfolding earlier
told_earlier {a = None} h g = g
told_earlier {a = Some x} {b = None} h g = h
told_earlier {a = Some x} {b = Some y} h g = told_if (nat_le x.1 y.1) h g

-- of each of several things
pub told_any : {P : ℕ → Type 0} {A : Type 0} (Q : A → Type 0) (f : A → Broken) → ((x : A) → Q x → Told P (f x)) → (xs : List A) → AllByRecursion Q xs → Told P (any_of f xs)
told_any Q f one [] h = told_nothing
told_any Q f one (x ∷ xs) h = told_behind (one x h.0) (told_any Q f one xs h.1)

-- ---- what is spelled

-- a thing that may be absent
pub option_told : (P : ℕ → Type 0) {A : Type 0} (spell : A → List Piece) (f : A → Broken) → ((x : A) → Stand P (spell x) → Told P (f x)) → (o : Option A) → Stand P (spell_option spell o)
    → Told P (of_any f o)
option_told P spell f one None h = told_nothing
option_told P spell f one (Some x) h = one x h

abbrev pub EachStands : {A : Type 0} → (ℕ → Type 0) → (A → List Piece) → List A → Type 0
EachStands P spell = AllByRecursion (λ x. Stand P (spell x))

pub each_stands : (P : ℕ → Type 0) {A : Type 0} (spell : A → List Piece) (xs : List A) → Stand P (spell_each spell xs) → EachStands P spell xs
each_stands P spell [] h = tt
each_stands P spell (x ∷ xs) h = (first P (spell x) (spell_each spell xs) h, each_stands P spell xs (behind P (spell x) (spell_each spell xs) h))

separated : (P : ℕ → Type 0) {A : Type 0} (separator : TokenKind) (spell : A → List Piece) (xs : List A) → EachStands P (λ x. p.some separator ∷ spell x) xs → EachStands P spell xs
separated P separator spell [] h = tt
separated P separator spell (x ∷ xs) h = (h.0.1, separated P separator spell xs h.1)

pub list_stands : (P : ℕ → Type 0) {A : Type 0} (separator : TokenKind) (spell : A → List Piece) (xs : List A) → Stand P (spell_list separator spell xs) → EachStands P spell xs
list_stands P separator spell [] h = tt
list_stands P separator spell (x ∷ xs) h =
    let rest = spell_each (λ y. p.some separator ∷ spell y) xs in
    (first P (spell x) rest h, separated P separator spell xs (each_stands P (λ y. p.some separator ∷ spell y) xs (behind P (spell x) rest h)))

-- identifiers
abbrev pub NamesStand : (ℕ → Type 0) → List Ident → Type 0
NamesStand P = EachStands P spell_ident
