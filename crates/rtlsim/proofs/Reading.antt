-- Files that are read in order.
use Rattle.std.proofs.Common.{◌≡◌, ℕ, ◌<◌, ◌≤◌, ◌-◌, List, [], ◌∷◌, ◌++◌, Result, Ok, Err, append-nil, length, map, take, drop, slice_index_or, inl, inr, refl, ap, sym, subst, arith}
use Rattle.std.proofs.Math.Seq.{take-length}
use Rattle.std.proofs.lemmas.List.{append_assoc, map-append}
use Rattle.byte_streams.specs.Read.{ReaderState}
use Rattle.rtlsim.specs.Inputs.{Reading}
use Rattle.rtlsim.specs.Reads.{GivesAll, GivesOne}
use Rattle.rtlsim.specs.Texts.{read_view}
use Rattle.rtlsim.specs.Unread.{Unread}
use Rattle.rtlsim.specs.declared.texts.ReadFile.{ReadFile}
use Rattle.vhdl_source_files.specs.Files.{FileView}

-- all but the first
abbrev pub others_of : {X : Type 0} → List X → List X
others_of names = take (length names - 1) (drop 1 names)

-- a file before those that are given
abbrev pub behind : FileView → Result (List FileView) Unread → Result (List FileView) Unread
behind file (Ok files) = Ok (file ∷ files)
behind file (Err unread) = Err unread

-- files before those that are given
abbrev pub after_all : List FileView → Result (List FileView) Unread → Result (List FileView) Unread
after_all before (Ok files) = Ok (before ++ files)
after_all before (Err unread) = Err unread

others_are : {X : Type 0} (name : X) (names : List X) → others_of (name ∷ names) ≡ names
others_are name names = let one : length (name ∷ names) - 1 ≡ length names = omega arith in rw (one, take-length names) refl

module _ {X : Type 0} (name_of : X → List ℕ) (Gives : Reading) where
  step : (name : List ℕ) (names : List (List ℕ)) (old between new : ReaderState) (text : List ℕ) (given : Result (List FileView) Unread) → Gives old between name (Ok text)
      → GivesAll Gives names between new given → GivesAll Gives (name ∷ names) old new (behind (record { name = name; text = text }) given)
  step name names old between new text (Err unread) read others = inr (text, between, read, others)
  step name names old between new text (Ok files) read others = ((text, files), (between, read, others), refl)

  -- the first is read, and then the others
  pub first_read : (names : List X) (d : X) → 1 ≤ length names → (old between new : ReaderState) (text : List ℕ) (given : Result (List FileView) Unread)
      → Gives old between (name_of (slice_index_or names 0 d)) (Ok text) → GivesAll Gives (map name_of (others_of names)) between new given
      → GivesAll Gives (map name_of names) old new (behind (record { name = name_of (slice_index_or names 0 d); text = text }) given)
  first_read [] d some old between new text given read others = absurd (omega (arith, some))
  first_read (name ∷ names) d some old between new text given read others =
      step (name_of name) (map name_of names) old between new text given read (subst (λ (ns : List X). GivesAll Gives (map name_of ns) between new given) (others_are name names) others)

  -- the first isn't read
  pub first_fails : (names : List X) (d : X) → 1 ≤ length names → (old new : ReaderState) (unread : Unread)
      → GivesOne Gives (name_of (slice_index_or names 0 d)) old new (Err unread) → GivesAll Gives (map name_of names) old new (Err unread)
  first_fails [] d some old new unread read = absurd (omega (arith, some))
  first_fails (name ∷ names) d some old new unread read = inl read

  -- none are left
  pub all_read : (names : List X) → length names < 1 → (state : ReaderState) → GivesAll Gives (map name_of names) state state (Ok [])
  all_read [] none state = (refl, refl)
  all_read (name ∷ names) none state = absurd (omega (arith, none))

-- one more file before those that are given
pub one_more : (before : List FileView) (file : FileView) (given : Result (List FileView) Unread) → after_all before (behind file given) ≡ after_all (before ++ file ∷ []) given
one_more before file (Err unread) = refl
one_more before file (Ok files) = ap Ok (sym (append_assoc before (file ∷ []) files))

-- none before
pub none_before : (files : List FileView) → after_all files (Ok []) ≡ Ok files
none_before files = ap Ok (append-nil files)

-- one more file that was read
pub more_read : (before items : List ReadFile) (file : ReadFile) → items ≡ before ++ file ∷ [] → map read_view items ≡ map read_view before ++ read_view file ∷ []
more_read before items file is = rw is (map-append read_view before (file ∷ []))
