-- Names that are put to others, and lines one after another.
use Rattle.std.proofs.Common.{◌≡◌, ℕ, ◌+◌, ◌<◌, ◌≤◌, Bool, true, false, ◌||◌, ◌==◌, cond, List, [], ◌∷◌, ◌++◌, length, get_or, map, drop, refl, sym, ap, ◌∙◌, Vec, Global, Option, Some, None, Result, Ok, Err, ◌⊎◌, inl, inr, arith}
use Rattle.std.specs.Prelude.{bytes_eq, if◌then◌else◌, IfOk}
use Rattle.std.specs.Cmp.Lexicographic.{bytes_decides}
use Rattle.std.specs.List.{list_any}
use Rattle.std.proofs.lemmas.Bool.{cases_Bool, eq-eqb, ne_eqb}
use Rattle.std.proofs.lemmas.List.{at_drop_more, at_drop_all, length-drop, get_or_default}
use Rattle.std.proofs.lemmas.List.Folds.{list_any-append}
use Rattle.indexmap.specs.IndexSet.{insert_key}
use Rattle.rtl_model.proofs.basics.Lists.{get_or-map_within}
use Rattle.rtl_body_facts.proofs.Anys.{or_assoc, or_none}
use Rattle.rtl_stim_lines.specs.Bounded.{IsFormOf}
use Rattle.rtl_stim_lines.specs.Forms.{Form, At, Clock, Stop}
use Rattle.rtl_stim_lines.specs.Lines.{Word, without_return, as_lines}
use Rattle.rtl_stim_lines.specs.declared.forms.Form.{Form as KeptForm}
use Rattle.rtl_stim_lines.specs.declared.forms.Form.TheVariants as kept
use Rattle.rtl_undriven_inputs.specs.Naming.{name_in, line_names}

pub if_ok : {T E : Type 0} (P Q : T → Type 0) (r : Result T E) → ((v : T) → P v → Q v) → IfOk r P → IfOk r Q
if_ok P Q (Ok v) on h = on v h
if_ok P Q (Err e) on h = h

-- ---- a set of names

abbrev pub same_key : Vec ℕ Global → Vec ℕ Global → Bool
same_key a b = bytes_eq a.items b.items

abbrev pub has : Word → List (Vec ℕ Global) → Bool
has w ks = list_any (λ (k : Vec ℕ Global). bytes_eq w k.items) ks

absorbed : (a b : Bool) → (b ≡ true → a ≡ true) → a ≡ (a || b)
absorbed true b h = refl
absorbed false true h = h refl
absorbed false false h = refl

pub has_inserted : (w : Word) (k : Vec ℕ Global) (ks : List (Vec ℕ Global)) → has w (insert_key same_key ks k) ≡ (has w ks || bytes_eq w k.items)
has_inserted w k ks = go (cases_Bool (list_any (same_key k) ks))
  where
    go : (list_any (same_key k) ks ≡ true) ⊎ (list_any (same_key k) ks ≡ false) → has w (insert_key same_key ks k) ≡ (has w ks || bytes_eq w k.items)
    go (inl t) =
        ap (λ b. has w (cond b ks (ks ++ k ∷ []))) t
        ∙ absorbed (has w ks) (bytes_eq w k.items) (λ e. ap (λ v. has v ks) ((bytes_decides w k.items).0 e) ∙ t)
    go (inr f) =
        ap (λ b. has w (cond b ks (ks ++ k ∷ []))) f ∙ list_any-append (λ (x : Vec ℕ Global). bytes_eq w x.items) ks (k ∷ [])
        ∙ ap (λ b. has w ks || b) (sym (or_none (bytes_eq w k.items)))

-- ---- the name in a line

abbrev pub named : Option KeptForm → Option Word
named (Some (kept.At t n v)) = Some n.now
named (Some (kept.Clock n f d)) = Some n.now
named (Some (kept.Stop t)) = None
named None = None

pub same_named : (o : Option Form) (k : Option KeptForm) → IsFormOf o k → named k ≡ name_in o
same_named None None h = refl
same_named (Some (At t n v)) (Some (kept.At t' n' v')) h = ap Some h.1
same_named (Some (Clock n f d)) (Some (kept.Clock n' f' d')) h = ap Some h.0
same_named (Some (Stop t)) (Some (kept.Stop t')) h = refl
same_named _ _ h = absurd h

-- ---- lines

as_lines_at : (part : List ℕ) (others : List (List ℕ)) (left : ℕ) → left ≡ length others → as_lines (part ∷ others) ≡ (if left == 0 then part else without_return part) ∷ as_lines others
as_lines_at part [] left e = ap (λ b. (if b then part else without_return part) ∷ []) (sym (eq-eqb left 0 e))
as_lines_at part (x ∷ xs) left e =
    ap (λ b. (if b then part else without_return part) ∷ as_lines (x ∷ xs)) (sym (ne_eqb left 0 (λ same. omega (arith, e, same))))

pub mapped_at : {A B : Type 0} (f : A → B) (xs : List A) (i : ℕ) (d : A) → i < length xs → f (get_or xs i d) ≡ get_or (map f xs) i (f (get_or xs i d))
mapped_at f xs i d l = let x = get_or xs i d in ap f (get_or_default xs i d x l) ∙ sym (get_or-map_within f xs i x (f x) l)

-- one line more, behind which so many are left
pub line_next : (w : Word) (parts : List (List ℕ)) (i left : ℕ) (part line : List ℕ) (old new all : Bool) → i < length parts → left + (i + 1) ≡ length parts
    → part ≡ get_or parts i part → line ≡ (if left == 0 then part else without_return part) → new ≡ (old || line_names w line)
    → (old || list_any (line_names w) (as_lines (drop i parts))) ≡ all → (new || list_any (line_names w) (as_lines (drop (i + 1) parts))) ≡ all
line_next w parts i left part line old new all l many at is grown so_far =
    let others = drop (i + 1) parts in
    let long : left ≡ length others = omega (arith, length-drop (i + 1) parts, l, many) in
    ap (λ b. b || list_any (line_names w) (as_lines others)) (grown ∙ ap (λ x. old || line_names w x) is)
    ∙ or_assoc old (line_names w (if left == 0 then part else without_return part)) (list_any (line_names w) (as_lines others))
    ∙ ap (λ ls. old || list_any (line_names w) ls)
    (sym (at_drop_more as_lines parts i part l ∙ ap (λ p. as_lines (p ∷ others)) (sym at) ∙ as_lines_at part others left long))
    ∙ so_far

pub no_lines_left : (w : Word) (parts : List (List ℕ)) (i : ℕ) (now all : Bool) → length parts ≤ i → (now || list_any (line_names w) (as_lines (drop i parts))) ≡ all → now ≡ all
no_lines_left w parts i now all l h = or_none now ∙ ap (λ ls. now || list_any (line_names w) ls) (sym (at_drop_all as_lines parts i l)) ∙ h
