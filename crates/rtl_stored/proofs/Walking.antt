-- Walks over parts of a body, one after another.
use Rattle.std.proofs.Common.{◌≡◌, ℕ, ◌<◌, Bool, true, false, not, ◌&&◌, ◌||◌, List, [], ◌∷◌, length, get_or, map, replicate, refl, sym, ap, ◌∙◌, subst}
use Rattle.std.specs.List.{list_any, filter, range_with_len}
use Rattle.std.proofs.lemmas.List.{get_or-map, length-map, get_or-replicate, length-replicate}
use Rattle.std.proofs.lemmas.List.FromFn.{fill_by_all}
use Rattle.rtl_model.specs.bodies.Leaves.{Leaf, leaf_looks_at}
use Rattle.rtl_net.specs.Visits.{Tells}
use Rattle.rtl_body_facts.specs.Reading.{is_in}
use Rattle.rtl_body_facts.proofs.Anys.{or_none, or_assoc}
use Rattle.rtl_body_facts.proofs.EveryPath.{in_filter}
use Rattle.rtl_stored.specs.declared.marks.Mark.{Mark}
use Rattle.rtl_stored.specs.declared.marks.Marks.{Marks}
use Rattle.rtl_stored.specs.Walks.{unmarked, no_element, is_assigned, is_stored, never, Reads, Walked, Released, Narrows}
use Rattle.rtl_stored.proofs.Marking.{there, none_more}

-- ---- what is stored, assigned and listed by one part and then by another

pub one_more : (p a s a1 t : Bool) → ((p || (not a && s)) || (not (a || a1) && t)) ≡ (p || (not a && (s || (not a1 && t))))
one_more true a s a1 t = refl
one_more false true s a1 t = refl
one_more false false s a1 t = refl

stored_then : (p a q b r s t a1 : Bool) → q ≡ (p || (not a && s)) → b ≡ (a || a1) → r ≡ (q || (not b && t)) → r ≡ (p || (not a && (s || (not a1 && t))))
stored_then p a q b r s t a1 e f g =
    g ∙ (ap (λ (x : Bool). x || (not b && t)) e ∙ (ap (λ (x : Bool). (p || (not a && s)) || (not x && t)) f ∙ one_more p a s a1 t))

added_then : (p a q b r x y : Bool) → q ≡ (p || (not a && x)) → b ≡ (a || x) → r ≡ (q || (not b && y)) → r ≡ (p || (not a && (x || y)))
added_then p a q b r x y e f g =
    g ∙ (ap (λ (c : Bool). c || (not b && y)) e ∙ (ap (λ (c : Bool). (p || (not a && x)) || (not c && y)) f ∙ go p a x y))
  where
    go : (p a x y : Bool) → ((p || (not a && x)) || (not (a || x) && y)) ≡ (p || (not a && (x || y)))
    go true a x y = refl
    go false true x y = refl
    go false false true y = refl
    go false false false y = refl

pub then_walked : {s a t b : ℕ → Bool} {o m n : List Mark} {xs ys zs : List ℕ} → Walked s a o m xs ys → Walked t b m n ys zs
    → Walked (λ e. s e || (not (a e) && t e)) (λ e. a e || b e) o n xs zs
then_walked {s} {a} {t} {b} {o} {m} {n} {xs} {ys} {zs} h k = record {
  same_length = k.same_length ∙ h.same_length;
  stored = λ e. stored_then (is_stored o e) (is_assigned o e) (is_stored m e) (is_assigned m e) (is_stored n e) (s e) (t e) (a e) (h.stored e) (h.assigned e) (k.stored e);
  assigned = λ e. k.assigned e ∙ (ap (λ (c : Bool). c || b e) (h.assigned e) ∙ or_assoc (is_assigned o e) (a e) (b e));
  added = λ e. added_then (is_in e xs) (is_assigned o e) (is_in e ys) (is_assigned m e) (is_in e zs) (a e) (b e) (h.added e) (h.assigned e) (k.added e);
}

pub as_walked : {s a : ℕ → Bool} {o n : List Mark} {xs ys : List ℕ} (t b : ℕ → Bool) → ((e : ℕ) → s e ≡ t e) → ((e : ℕ) → a e ≡ b e)
    → Walked s a o n xs ys → Walked t b o n xs ys
as_walked {s} {a} {o} {n} {xs} {ys} t b same also h = record {
  same_length = h.same_length;
  stored = λ e. h.stored e ∙ ap (λ (c : Bool). is_stored o e || (not (is_assigned o e) && c)) (same e);
  assigned = λ e. h.assigned e ∙ ap (λ (c : Bool). is_assigned o e || c) (also e);
  added = λ e. h.added e ∙ ap (λ (c : Bool). is_in e xs || (not (is_assigned o e) && c)) (also e);
}

-- ---- reads alone

pub then_reads : {s t : ℕ → Bool} {o m n : List Mark} → Reads s o m → Reads t m n → Reads (λ e. s e || t e) o n
then_reads {s} {t} {o} {m} {n} h k = record {
  same_length = k.same_length ∙ h.same_length;
  stored = λ e. k.stored e ∙ (ap (λ (c : Bool). c || (not (is_assigned m e) && t e)) (h.stored e)
      ∙ (ap (λ (c : Bool). (is_stored o e || (not (is_assigned o e) && s e)) || (not c && t e)) (h.assigned e) ∙ go (is_stored o e) (is_assigned o e) (s e) (t e)));
  assigned = λ e. k.assigned e ∙ h.assigned e;
}
  where
    go : (p a s t : Bool) → ((p || (not a && s)) || (not a && t)) ≡ (p || (not a && (s || t)))
    go true a s t = refl
    go false true s t = refl
    go false false s t = refl

pub as_reads : {s : ℕ → Bool} {o n : List Mark} (t : ℕ → Bool) → ((e : ℕ) → s e ≡ t e) → Reads s o n → Reads t o n
as_reads {s} {o} {n} t same h = record {
  same_length = h.same_length;
  stored = λ e. h.stored e ∙ ap (λ (c : Bool). is_stored o e || (not (is_assigned o e) && c)) (same e);
  assigned = h.assigned;
}

pub no_reads : (marks : List Mark) → Reads never marks marks
no_reads marks = record { same_length = refl; stored = λ e. none_more (is_stored marks e) (is_assigned marks e); assigned = λ e. refl }

pub reads_walked : {s : ℕ → Bool} {o n : List Mark} (xs : List ℕ) → Reads s o n → Walked s never o n xs xs
reads_walked {s} {o} {n} xs h = record {
  same_length = h.same_length;
  stored = h.stored;
  assigned = λ e. h.assigned e ∙ or_none (is_assigned o e);
  added = λ e. none_more (is_in e xs) (is_assigned o e);
}

pub no_walk : (marks : List Mark) (xs : List ℕ) → Walked never never marks marks xs xs
no_walk marks xs = reads_walked xs (no_reads marks)

-- what a walk over leaves tells
pub told_reads : (old new : Marks) (ls : List Leaf) → Tells (λ (u : Marks) l (v : Marks). Reads (λ e. leaf_looks_at e l) u.marks.items v.marks.items) old ls new
    → Reads (λ e. list_any (leaf_looks_at e) ls) old.marks.items new.marks.items
told_reads old new [] h = subst (λ (ms : Marks). Reads never old.marks.items ms.marks.items) h (no_reads old.marks.items)
told_reads old new (x ∷ xs) (mid, one, rest) = then_reads one (told_reads mid new xs rest)

-- ---- a part of an if or a case

-- what is listed, where nothing was before
pub fresh : {s a : ℕ → Bool} {o m : List Mark} {before added : List ℕ} → before ≡ [] → Walked s a o m before added
    → (e : ℕ) → is_in e added ≡ (not (is_assigned o e) && a e)
fresh {s} {a} {o} none h e = h.added e ∙ ap (λ (xs : List ℕ). is_in e xs || (not (is_assigned o e) && a e)) none

-- it is there
pub fresh_there : {s a : ℕ → Bool} {o m : List Mark} {before added : List ℕ} (these : List ℕ) → before ≡ [] → Walked s a o m before added → these ≡ added
    → (e : ℕ) → is_in e these ≡ true → e < length m
fresh_there {s} {a} {o} {m} {before} {added} these none h same e has =
    subst (λ (l : ℕ). e < l) (sym h.same_length) (there o e (go (is_assigned o e) (a e) (sym (ap (is_in e) same ∙ fresh none h e) ∙ has)))
  where
    go : (b c : Bool) → (not b && c) ≡ true → b ≡ false
    go true c h = absurd cc
    go false c h = refl

pub part_reads : {s a : ℕ → Bool} {o m n : List Mark} {before added these : List ℕ} → before ≡ [] → Walked s a o m before added → these ≡ added
    → Released these m n → Reads s o n
part_reads {s} {a} {o} {m} {n} {before} {added} {these} none h same r = record {
  same_length = r.same_length ∙ h.same_length;
  stored = λ e. r.stored e ∙ h.stored e;
  assigned = λ e. r.assigned e
      ∙ (ap (λ (c : Bool). c && not (is_in e these)) (h.assigned e)
      ∙ (ap (λ (c : Bool). (is_assigned o e || a e) && not c) (ap (is_in e) same ∙ fresh none h e) ∙ go (is_assigned o e) (a e)));
}
  where
    go : (b c : Bool) → ((b || c) && not (not b && c)) ≡ b
    go true c = refl
    go false true = refl
    go false false = refl

pub part_narrows : {s a : ℕ → Bool} {o m : List Mark} {xs ys : List ℕ} (before after these : List ℕ) → Walked s a o m xs ys → these ≡ before
    → after ≡ filter (is_assigned m) these → Narrows a o before after
part_narrows {s} {a} {o} {m} before after these h same is = record {
  are = λ e. ap (is_in e) is ∙ (in_filter (is_assigned m) these e
      ∙ (ap (λ (zs : List ℕ). is_in e zs && is_assigned m e) same ∙ ap (λ (c : Bool). is_in e before && c) (h.assigned e)));
}

pub no_narrows : (marks : List Mark) (xs : List ℕ) → Narrows (λ e. true) marks xs xs
no_narrows marks xs = record { are = λ e. go (is_in e xs) (is_assigned marks e) }
  where
    go : (k a : Bool) → k ≡ (k && (a || true))
    go true true = refl
    go true false = refl
    go false a = refl

pub as_narrows : {a : ℕ → Bool} {o : List Mark} {xs ys : List ℕ} (b : ℕ → Bool) → ((e : ℕ) → a e ≡ b e) → Narrows a o xs ys → Narrows b o xs ys
as_narrows {a} {o} {xs} b same h = record { are = λ e. h.are e ∙ ap (λ (c : Bool). is_in e xs && (is_assigned o e || c)) (same e) }

pub then_narrows : {a b r : ℕ → Bool} {o m : List Mark} {xs ys zs : List ℕ} → Reads r o m → Narrows a o xs ys → Narrows b m ys zs → Narrows (λ e. a e && b e) o xs zs
then_narrows {a} {b} {r} {o} {m} {xs} {ys} {zs} same h k = record {
  are = λ e. k.are e ∙ (ap (λ (c : Bool). c && (is_assigned m e || b e)) (h.are e)
      ∙ (ap (λ (c : Bool). (is_in e xs && (is_assigned o e || a e)) && (c || b e)) (same.assigned e) ∙ go (is_in e xs) (is_assigned o e) (a e) (b e)));
}
  where
    go : (k c x y : Bool) → ((k && (c || x)) && (c || y)) ≡ (k && (c || (x && y)))
    go true true x y = refl
    go true false x y = refl
    go false c x y = refl

-- ---- a whole if or case: what all parts assign

pub whole_walked : {r q : ℕ → Bool} (a b : ℕ → Bool) {o m n p : List Mark} (last common : List ℕ) {xs ys : List ℕ} → Reads r o m
    → ((e : ℕ) → is_in e last ≡ (not (is_assigned o e) && a e)) → Reads q m n → Narrows b m last common → Walked never (λ e. is_in e common) n p xs ys
    → Walked (λ e. q e || r e) (λ e. b e && a e) o p xs ys
whole_walked {r} {q} a b {o} {m} {n} {p} last common {xs} {ys} h ends k narrows w = record {
  same_length = w.same_length ∙ (k.same_length ∙ h.same_length);
  stored = λ e. w.stored e ∙ (sym (none_more (is_stored n e) (is_assigned n e)) ∙ ((then_reads h k).stored e
      ∙ ap (λ (c : Bool). is_stored o e || (not (is_assigned o e) && c)) (swap (r e) (q e))));
  assigned = λ e. w.assigned e ∙ (ap (λ (c : Bool). c || is_in e common) (same e) ∙ (ap (λ (c : Bool). is_assigned o e || c) (is_common e) ∙ or_here (is_assigned o e) (b e && a e)));
  added = λ e. w.added e ∙ (ap (λ (c : Bool). is_in e xs || (not c && is_in e common)) (same e)
      ∙ (ap (λ (c : Bool). is_in e xs || (not (is_assigned o e) && c)) (is_common e) ∙ ap (λ (c : Bool). is_in e xs || c) (and_twice (is_assigned o e) (b e && a e))));
}
  where
    swap : (x y : Bool) → (x || y) ≡ (y || x)
    swap true true = refl
    swap true false = refl
    swap false true = refl
    swap false false = refl

    same : (e : ℕ) → is_assigned n e ≡ is_assigned o e
    same e = k.assigned e ∙ h.assigned e

    go : (c x y : Bool) → ((not c && x) && (c || y)) ≡ (not c && (y && x))
    go true x y = refl
    go false true true = refl
    go false true false = refl
    go false false true = refl
    go false false false = refl

    is_common : (e : ℕ) → is_in e common ≡ (not (is_assigned o e) && (b e && a e))
    is_common e =
        narrows.are e ∙ (ap (λ (c : Bool). c && (is_assigned m e || b e)) (ends e)
        ∙ (ap (λ (c : Bool). (not (is_assigned o e) && a e) && (c || b e)) (h.assigned e) ∙ go (is_assigned o e) (a e) (b e)))

    or_here : (c x : Bool) → (c || (not c && x)) ≡ (c || x)
    or_here true x = refl
    or_here false x = refl

    and_twice : (c x : Bool) → (not c && (not c && x)) ≡ (not c && x)
    and_twice true x = refl
    and_twice false x = refl

-- ---- the marks that a walk begins with, and what it ends with

pub stored_all : {s a : ℕ → Bool} {n : List Mark} {xs ys : List ℕ} (many : ℕ) → Walked s a (replicate many unmarked) n xs ys
    → map (λ (m : Mark). m.stored) n ≡ map s (range_with_len 0 many)
stored_all {s} {a} {n} many h =
    fill_by_all s (map (λ (m : Mark). m.stored) n) many false (length-map n (λ (m : Mark). m.stored) ∙ long) (λ k l. each k l)
  where
    long : length n ≡ many
    long = h.same_length ∙ length-replicate many unmarked

    each : (k : ℕ) → k < many → get_or (map (λ (m : Mark). m.stored) n) k false ≡ s k
    each k l =
        let first : get_or (replicate many unmarked) k no_element ≡ unmarked = get_or-replicate many k unmarked no_element l in
        get_or-map (λ (m : Mark). m.stored) n k no_element false (subst (λ (i : ℕ). k < i) (sym long) l)
        ∙ (h.stored k ∙ ap (λ (m : Mark). m.stored || (not m.assigned && s k)) first)

pub from_unmarked : {s a : ℕ → Bool} {first marks n : List Mark} {xs ys : List ℕ} → first ≡ marks → Walked s a first n xs ys → Walked s a marks n xs ys
from_unmarked {s} {a} {first} {marks} {n} {xs} {ys} is h = subst (λ (ms : List Mark). Walked s a ms n xs ys) is h
