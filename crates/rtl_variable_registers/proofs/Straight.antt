-- Straight code that looks at what is known gives constants, and sets what it sets on every path.
use Rattle.std.proofs.Common.{◌≡◌, ℕ, Bool, true, false, not, ◌&&◌, ◌||◌, ◌==◌, List, [], ◌∷◌, refl, ap, ◌∙◌, Contains}
use Rattle.std.specs.List.{list_any, list_all}
use Rattle.std.proofs.lemmas.Bool.{and_parts, and_from}
use Rattle.std.proofs.lemmas.List.Elements.{Contains-append_left, Contains-append_right}
use Rattle.rtl_model.specs.basics.Lists.{is_empty}
use Rattle.rtl_model.specs.bodies.Body.{Value, null_of, assign, set, assign_at, set_at, if_of, case_of, Stmts, done, step}
use Rattle.rtl_model.specs.bodies.Kinds.{assigns_constants}
use Rattle.rtl_model.specs.bodies.Leaves.{Leaf, of_nets, of_event, of_elements, value_leaves, leaves, leaf_looks_at}
use Rattle.rtl_model.specs.bodies.Reads.{value_reads}
use Rattle.rtl_model.specs.bodies.Stored.{value_looks_at, stores_element}
use Rattle.rtl_model.proofs.basics.Lists.{Contains-first, contains_in}
use Rattle.rtl_model.proofs.bodies.Leaves.{leaves_tell}
use Rattle.rtl_model.specs.bodies.Assigns.{driver, element}
use Rattle.rtl_variable_registers.specs.Known.{leaf_is_known, is_known, gives_constants, never_set}
use Rattle.rtl_variable_registers.specs.Laws.{is_straight, LooksAtKnown, EachStraightSets}
use Rattle.rtl_variable_registers.proofs.Known.{knows_more}
use Rattle.rtl_variable_registers.proofs.Putting.{Contains-more}
use Rattle.rtl_variable_registers.proofs.Resetting.{or_left, or_right}

-- ---- what is straight

pub assigns_straight : (a : Stmts) → assigns_constants a ≡ true → is_straight a ≡ true
assigns_straight done h = refl
assigns_straight (step null_of rest) h = assigns_straight rest h
assigns_straight (step (assign ps v) rest) h = assigns_straight rest (and_parts (is_empty (value_reads v)) (assigns_constants rest) h).1
assigns_straight (step _ rest) h = absurd cc

pub gives_straight : (known : ℕ → Bool) (a : Stmts) → gives_constants known a ≡ true → is_straight a ≡ true
gives_straight known done h = refl
gives_straight known (step null_of rest) h = gives_straight known rest h
gives_straight known (step (assign ps v) rest) h = gives_straight known rest (and_parts (is_known known v) (gives_constants known rest) h).1
gives_straight known (step (set es v) rest) h =
    gives_straight (knows_more known es) rest (and_parts (is_known known v) (gives_constants (knows_more known es) rest) h).1
gives_straight known (step (assign_at index spacing ps v) rest) h = absurd cc
gives_straight known (step (set_at index spacing es v) rest) h = absurd cc
gives_straight known (step (if_of bs) rest) h = absurd cc
gives_straight known (step (case_of v alts) rest) h = absurd cc

pub straight_sets : EachStraightSets
straight_sets these done h = refl
straight_sets these (step null_of rest) h = straight_sets these rest h
straight_sets these (step (assign ps v) rest) h = ap (λ (b : Bool). list_any (λ q. these (driver q)) ps || b) (straight_sets these rest h)
straight_sets these (step (set es v) rest) h = ap (λ (b : Bool). list_any (λ e. these (element e)) es || b) (straight_sets these rest h)
straight_sets these (step (assign_at index spacing ps v) rest) h = absurd cc
straight_sets these (step (set_at index spacing es v) rest) h = absurd cc
straight_sets these (step (if_of bs) rest) h = absurd cc
straight_sets these (step (case_of v alts) rest) h = absurd cc

-- ---- what looks at what is known

abbrev OfElements : List Leaf → Type 0
OfElements ls = (leaf : Leaf) → Contains ls leaf → (es : List ℕ) × (leaf ≡ of_elements es)

all_known : (known : ℕ → Bool) (es : List ℕ) → ((e : ℕ) → Contains es e → known e ≡ true) → list_all known es ≡ true
all_known known [] h = refl
all_known known (e ∷ es) h = and_from (known e) (list_all known es) (h e (Contains-first e es)) (all_known known es (λ d c. h d (Contains-more e es d c)))

leaves_known : (known : ℕ → Bool) (ls : List Leaf) → OfElements ls → ((e : ℕ) → list_any (leaf_looks_at e) ls ≡ true → known e ≡ true) → list_all (leaf_is_known known) ls ≡ true
leaves_known known [] only k = refl
leaves_known known (of_elements es ∷ ls) only k =
    and_from (list_all known es) (list_all (leaf_is_known known) ls)
    (all_known known es (λ e c. k e (or_left (list_any (λ d. d == e) es) (list_any (leaf_looks_at e) ls) (contains_in es e c))))
    (leaves_known known ls (λ l c. only l (Contains-more (of_elements es) ls l c)) (λ e m. k e (or_right (list_any (λ d. d == e) es) (list_any (leaf_looks_at e) ls) m)))
leaves_known known (of_nets ns ∷ ls) only k = absurd (let (es, is) = only (of_nets ns) (Contains-first (of_nets ns) ls) in cc)
leaves_known known (of_event n ∷ ls) only k = absurd (let (es, is) = only (of_event n) (Contains-first (of_event n) ls) in cc)

value_gives : (known : ℕ → Bool) (v : Value) → OfElements (value_leaves v) → ((e : ℕ) → value_looks_at e v ≡ true → known e ≡ true) → is_known known v ≡ true
value_gives known v only k = leaves_known known (value_leaves v) only (λ e m. k e (leaves_tell.value_looks_are e v ∙ m))

-- an assignment to signals sets no element
pub none_of : (qs : List ℕ) → list_any (λ q. false) qs ≡ false
none_of [] = refl
none_of (q ∷ qs) = none_of qs

pub unmarked : (qs : List ℕ) (b : Bool) → b ≡ true → not (list_any (λ q. false) qs) && b ≡ true
unmarked [] b k = k
unmarked (q ∷ qs) b k = unmarked qs b k

straight_gives : (known : ℕ → Bool) (a : Stmts) → is_straight a ≡ true → OfElements (leaves a) → ((e : ℕ) → stores_element e a ≡ true → known e ≡ true) → gives_constants known a ≡ true
straight_gives known done s only k = refl
straight_gives known (step null_of rest) s only k = straight_gives known rest s only k
straight_gives known (step (assign ps v) rest) s only k =
    and_from (is_known known v) (gives_constants known rest)
    (value_gives known v (λ l c. only l (Contains-append_left (value_leaves v) (leaves rest) l c)) (λ e m. k e (or_left (value_looks_at e v) _ m)))
    (straight_gives known rest s (λ l c. only l (Contains-append_right (value_leaves v) (leaves rest) l c)) (λ e m. k e (or_right (value_looks_at e v) _ (unmarked ps (stores_element e rest) m))))
straight_gives known (step (set es v) rest) s only k =
    and_from (is_known known v) (gives_constants (knows_more known es) rest)
    (value_gives known v (λ l c. only l (Contains-append_left (value_leaves v) (leaves rest) l c)) (λ e m. k e (or_left (value_looks_at e v) _ m)))
    (straight_gives (knows_more known es) rest s (λ l c. only l (Contains-append_right (value_leaves v) (leaves rest) l c)) (λ e m. more e m (list_any (λ d. d == e) es) refl))
  where
    more : (e : ℕ) → stores_element e rest ≡ true → (b : Bool) → list_any (λ d. d == e) es ≡ b → knows_more known es e ≡ true
    more e m true h = or_right (known e) (list_any (λ d. d == e) es) h
    more e m false h = or_left (known e) (list_any (λ d. d == e) es) (k e (or_right (value_looks_at e v) _ (ap (λ (b : Bool). not b && stores_element e rest) h ∙ m)))
straight_gives known (step (assign_at index spacing ps v) rest) s only k = absurd cc
straight_gives known (step (set_at index spacing es v) rest) s only k = absurd cc
straight_gives known (step (if_of bs) rest) s only k = absurd cc
straight_gives known (step (case_of v alts) rest) s only k = absurd cc

pub known_gives : (body a : Stmts) → is_straight a ≡ true → LooksAtKnown body a → gives_constants (never_set body) a ≡ true
known_gives body a s k = straight_gives (never_set body) a s k.leaves_are (λ e m. ap not (k.stored_are e m))
