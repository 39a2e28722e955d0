-- Texts of what a view shows, and of parts one behind another.
use Rattle.std.proofs.Common.{◌≡◌, ℕ, ◌<◌, ◌≤◌, List, [], ◌++◌, append_assoc, length, map, take, Result, refl, sym, ap, subst, ◌∙◌}
use Rattle.std.proofs.lemmas.List.{take_all}
use Rattle.std.proofs.lemmas.List.Folds.{flat_map-map}
use Rattle.std.specs.Prelude.{IsErrAnd, flat_map}
use Rattle.byte_streams.specs.Written.{SinkState, Goes}
use Rattle.rtlsim_listing.specs.Printing.{GoesInPart, Prints}
use Rattle.rtlsim_listing.proofs.Printing.{none, part_of_text, refused}
use Rattle.vhdl_source_files.specs.Files.{FileView}
use Rattle.rtlsim_findings_text.specs.Marks.{view}
use Rattle.rtlsim_findings_text.specs.declared.places.MarkedFile.{MarkedFile}

-- these texts are written one after another, and the next isn't had
pub written_part : {A V T E : Type 0} (text : V → List ℕ) (seen : A → V) (r : Result T E) (Q : E → Type 0) (old new : SinkState) (xs : List A) (i : ℕ) (d : A) → IsErrAnd r Q
    → i < length xs → Goes old new (flat_map (λ x. text (seen x)) (take i xs)) → Prints r old new (flat_map text (map seen xs))
written_part text seen r Q old new xs i d failed lt goes =
    refused r Q old new _ failed (subst (GoesInPart old new) (sym (flat_map-map text seen xs)) (part_of_text old new new (λ x. text (seen x)) xs i d lt goes (none new _)))

-- they were written to the last
pub written_each : {A V : Type 0} (text : V → List ℕ) (seen : A → V) (old new : SinkState) (xs : List A) (i : ℕ) → length xs ≤ i
    → Goes old new (flat_map (λ x. text (seen x)) (take i xs)) → Goes old new (flat_map text (map seen xs))
written_each text seen old new xs i end goes = subst (Goes old new) (ap (flat_map (λ x. text (seen x))) (take_all i xs end) ∙ sym (flat_map-map text seen xs)) goes

-- what is written of what was found, with marks, is what the definition writes of it
pub told_of : {A V : Type 0} (write : List FileView → List V → List ℕ) (seen : A → V) (files : List FileView) (marked given : List MarkedFile) (told passed : List A) (found : List V)
    → given ≡ marked → map view marked ≡ files → passed ≡ told → map seen told ≡ found → write (map view given) (map seen passed) ≡ write files found
told_of write seen files marked given told passed found g m t f =
    ap (λ fs. write fs (map seen passed)) (ap (map view) g ∙ m) ∙ ap (write files) (ap (map seen) t ∙ f)

-- ---- parts of a text, one behind another

-- a part that is another
pub part : (old new x y : List ℕ) → new ≡ old ++ x → x ≡ y → new ≡ old ++ y
part old new x y pushed is = pushed ∙ ap (λ t. old ++ t) is

pub two : (t s a k b : List ℕ) → s ≡ t ++ a → s ++ (k ++ b) ≡ t ++ (a ++ k ++ b)
two t s a k b i = rw i (simp append_assoc)

pub four : (t s r q a b k x l y : List ℕ) → s ≡ t ++ a → r ≡ s ++ b → q ≡ r ++ (k ++ x) → q ++ (l ++ y) ≡ t ++ (a ++ b ++ k ++ x ++ l ++ y)
four t s r q a b k x l y i j e = rw (e, j, i) (simp append_assoc)

pub six : (t s r q p o a b c d e f : List ℕ) → s ≡ t ++ a → r ≡ s ++ b → q ≡ r ++ c → p ≡ q ++ d → o ≡ p ++ e → o ++ f ≡ t ++ (a ++ b ++ c ++ d ++ e ++ f)
six t s r q p o a b c d e f i j k l m = rw (m, l, k, j, i) (simp append_assoc)

-- two parts of one, two of another, and two of what stands below
pub eight : (t s r q p o n m a b c d k x y h : List ℕ) (wide : List ℕ → List ℕ) → s ≡ t ++ a → r ≡ s ++ b → q ≡ r ++ c → p ≡ q ++ d → o ≡ p ++ k → n ≡ o ++ wide a → m ≡ n ++ wide b
    → wide (a ++ b) ≡ wide a ++ wide b → a ++ b ≡ x → c ++ d ≡ y → m ++ h ≡ t ++ (x ++ y ++ k ++ (wide x ++ h))
eight t s r q p o n m a b c d k x y h wide e1 e2 e3 e4 e5 e6 e7 apart front back =
    rw (e7, e6, e5, e4, e3, e2, e1, ← front, ← back, apart) (simp append_assoc)

-- from the beginning of a text
pub all_three : (t s r a b c : List ℕ) → t ≡ a → s ≡ t ++ b → r ≡ s ++ c → r ≡ a ++ b ++ c
all_three t s r a b c i j k = rw (k, j, i) refl

pub all_four : (t s r q p a b c d : List ℕ) → t ≡ [] → s ≡ t ++ a → r ≡ s ++ b → q ≡ r ++ c → p ≡ q ++ d → p ≡ a ++ b ++ c ++ d
all_four t s r q p a b c d none i j k l = rw (l, k, j, i, none) refl

pub all_five : (t s r q p o a j b k c d e : List ℕ) → t ≡ [] → s ≡ t ++ a → r ≡ s ++ (j ++ b) → q ≡ r ++ (k ++ c) → p ≡ q ++ d → o ≡ p ++ e
    → o ≡ a ++ j ++ b ++ k ++ c ++ d ++ e
all_five t s r q p o a j b k c d e none e1 e2 e3 e4 e5 = rw (e5, e4, e3, e2, e1, none) (simp append_assoc)

pub all_eight : (t s r q p o n m l k a j b c d e f g h : List ℕ) → t ≡ [] → s ≡ t ++ (k ++ a) → r ≡ s ++ (j ++ b) → q ≡ r ++ c → p ≡ q ++ d → o ≡ p ++ e → n ≡ o ++ f
    → m ≡ n ++ g → l ≡ m ++ h → l ≡ k ++ a ++ j ++ b ++ c ++ d ++ e ++ f ++ g ++ h
all_eight t s r q p o n m l k a j b c d e f g h none e1 e2 e3 e4 e5 e6 e7 e8 = rw (e8, e7, e6, e5, e4, e3, e2, e1, none) (simp append_assoc)
