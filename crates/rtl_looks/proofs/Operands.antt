-- What values and tests look at, by their operands.
use Rattle.std.proofs.Common.{◌≡◌, ℕ, ◌+◌, ◌<◌, ◌≤◌, List, [], ◌∷◌, ◌++◌, length, get_or, take, map, replicate, Option, Some, None, refl, sym, ap, ◌∙◌, subst}
use Rattle.std.proofs.lemmas.List.{take_more, take_all}
use Rattle.vhdl_values.specs.declared.scalar.Nine.{Nine}
use Rattle.vhdl_values.specs.declared.kinds.Counted.{Counted}
use Rattle.vhdl_values.specs.Shifts.{counted_of}
use Rattle.rtl_model.specs.bodies.Body as m
use Rattle.rtl_model.specs.bodies.Rows.{Spacing, all_rows}
use Rattle.rtl_model.specs.bodies.Fits.{operated_width}
use Rattle.rtl_model.specs.bodies.Looks.{Sight, net_now, net_before, Looks, whole, operation_looks, chosen_looks, expr_looks, test_looks}
use Rattle.rtl_net.specs.Bodies.{operator_view, expr_view, links_of, test_view, test_links_of}
use Rattle.rtl_net.specs.declared.body.Operator.{Operator}
use Rattle.rtl_net.specs.declared.body.Link.{Link}
use Rattle.rtl_net.specs.declared.body.TestLink.{TestLink}
use Rattle.rtl_looks.specs.declared.hubs.Look.{Look}
use Rattle.rtl_looks.specs.declared.hubs.Look.TheVariants as l
use Rattle.rtl_looks.specs.declared.hubs.Hub.{Hub}
use Rattle.rtl_looks.specs.Denoting.{AreInOrder, Grows, Denotes, DenoteEach, none, more, look_at}
use Rattle.rtl_looks.specs.Evaluating.{Joins, JoinsAll, Combines, Chooses, ElementsMean, Evaluates, Sums, Chains, ChainsTests}
use Rattle.rtl_looks.proofs.Joining.{later, grows_none, grows_then, nothing}
use Rattle.rtl_looks.proofs.Elements.{order_of, same_length, denotes_at, each_append, each_replicate, each_map, each_counted, each_later}

pub net_denotes : {hubs : List Hub} → AreInOrder hubs → (n : ℕ) → Denotes hubs (Some (l.Net n)) (net_now n ∷ [])
net_denotes order n = record { order = order; there = tt; nets = λ k. refl }

-- ---- operators

pub appended : (hubs : List Hub) (left right : List (Option Look)) → Combines (operation_looks m.joined) hubs hubs left right (left ++ right)
appended hubs left right = record { grows = grows_none hubs; each = λ ls rs a b. each_append a b }

pub all_in_each : {old mid most new : List Hub} {left right : List (Option Look)} {l r both : Option Look} (many : ℕ) → JoinsAll old mid left l → JoinsAll mid most right r → Joins most new l r both
    → Combines (λ ls rs. replicate many (whole ls ++ whole rs)) old new left right (replicate many both)
all_in_each {old} {mid} {most} {new} {left} {right} {l} {r} {both} many a b j = record {
  grows = grows_then a.grows (grows_then b.grows j.grows);
  each = λ ls rs dl dr.
      let first = a.denotes ls dl in
      let second = b.denotes rs (each_later a.grows first.order dr) in
      each_replicate many (j.denotes (whole ls) (whole rs) (later b.grows second.order first) second);
}

-- an arithmetic operator's result has so many elements
pub arithmetic : {old new : List Hub} {left right looks : List (Option Look)} (many : ℕ) (op : m.Operator)
    → ((ls rs : List (List Sight)) → operation_looks op ls rs ≡ replicate (operated_width op (length ls) (length rs)) (whole ls ++ whole rs))
    → many ≡ operated_width op (length left) (length right)
    → Combines (λ ls rs. replicate many (whole ls ++ whole rs)) old new left right looks → Combines (operation_looks op) old new left right looks
arithmetic {old} {new} {left} {right} {looks} many op means is c = record {
  grows = c.grows;
  each = λ ls rs dl dr.
      subst (λ (s : List (List Sight)). DenoteEach new looks s)
      (ap (λ (n : ℕ). replicate n (whole ls ++ whole rs)) (is ∙ (ap (λ (n : ℕ). operated_width op n (length right)) (same_length dl) ∙ ap (operated_width op (length ls)) (same_length dr))) ∙ sym (means ls rs))
      (c.each ls rs dl dr);
}

-- ---- values

pub of_nets : (elements : List (Option Look)) (hubs : List Hub) (nets : List ℕ) → Evaluates (λ so_far. expr_looks so_far (m.signal nets)) elements hubs hubs (map (λ n. Some (l.Net n)) nets)
of_nets elements hubs nets = record { grows = grows_none hubs; each = λ so_far known. each_map _ _ (known 0).order (net_denotes (known 0).order) nets }

pub of_elements : (elements : List (Option Look)) (hubs : List Hub) (es : List ℕ) → Evaluates (λ so_far. expr_looks so_far (m.variable es)) elements hubs hubs (map (look_at elements) es)
of_elements elements hubs es = record { grows = grows_none hubs; each = λ so_far known. each_map _ _ (known 0).order known es }

pub of_constants : (elements : List (Option Look)) (hubs : List Hub) (values : List Nine) → Evaluates (λ so_far. expr_looks so_far (m.constant values)) elements hubs hubs (replicate (length values) None)
of_constants elements hubs values = record { grows = grows_none hubs; each = λ so_far known. go (known 0).order values }
  where
    go : AreInOrder hubs → (vs : List Nine) → DenoteEach hubs (replicate (length vs) None) (map (λ v. []) vs)
    go order [] = none order
    go order (v ∷ vs) = more (nothing order) (go order vs)

-- the same, where what stands for a part is the same
pub as_evaluates : {elements : List (Option Look)} {old new : List Hub} {looks : List (Option Look)} {means : Looks → List (List Sight)} (others : Looks → List (List Sight))
    → ((so_far : Looks) → means so_far ≡ others so_far) → Evaluates means elements old new looks → Evaluates others elements old new looks
as_evaluates {elements} {old} {new} {looks} others same h = record {
  grows = h.grows;
  each = λ so_far known. subst (λ (s : List (List Sight)). DenoteEach new looks s) (same so_far) (h.each so_far known);
}

pub filled_with : {elements : List (Option Look)} {old new : List Hub} {looks : List (Option Look)} {means : Looks → List (List Sight)} (len : ℕ) → Evaluates means elements old new looks
    → Evaluates (λ so_far. replicate len (get_or (means so_far) 0 [])) elements old new (replicate len (look_at looks 0))
filled_with len h = record { grows = h.grows; each = λ so_far known. each_replicate len (denotes_at 0 (h.each so_far known)) }

-- ---- chains

known_later : {old new : List Hub} (elements : List (Option Look)) (so_far : Looks) → Grows old new → AreInOrder new → ElementsMean old elements so_far → ElementsMean new elements so_far
known_later elements so_far g order known = λ e. later g order (known e)

links_push : (left : m.Expr) (xs : List Link) (x : Link) → links_of left (xs ++ x ∷ []) ≡ m.binary (operator_view x.operator) (links_of left xs) (expr_view x.operand)
links_push left [] x = refl
links_push left (y ∷ ys) x = links_push (m.binary (operator_view y.operator) left (expr_view y.operand)) ys x

pub no_links : (hubs : List Hub) (elements first : List (Option Look)) → Chains [] elements hubs hubs first first
no_links hubs elements first = record { grows = grows_none hubs; each = λ left so_far known d. d }

pub links_more : {old mid most new : List Hub} {elements first looks operand result : List (Option Look)} (rest : List Link) (i : ℕ) (x : Link) → i < length rest → x ≡ get_or rest i x
    → Chains (take i rest) elements old mid first looks → Evaluates (λ so_far. expr_looks so_far (expr_view x.operand)) elements mid most operand
    → Combines (operation_looks (operator_view x.operator)) most new looks operand result → Chains (take (i + 1) rest) elements old new first result
links_more {old} {mid} {most} {new} {elements} {first} {looks} {operand} {result} rest i x l is h e c = record {
  grows = grows_then h.grows (grows_then e.grows c.grows);
  each = λ left so_far known d.
      let so = h.each left so_far known d in
      let right = e.each so_far (known_later elements so_far h.grows (order_of so) known) in
      subst (λ (ys : List Link). DenoteEach new result (expr_looks so_far (links_of left ys))) (sym (taken))
      (subst (λ (y : m.Expr). DenoteEach new result (expr_looks so_far y)) (sym (links_push left (take i rest) x))
      (c.each _ _ (each_later e.grows (order_of right) so) right));
}
  where
    taken : take (i + 1) rest ≡ take i rest ++ x ∷ []
    taken = take_more rest i x l ∙ ap (λ (y : Link). take i rest ++ y ∷ []) (sym is)

pub links_all : {old new : List Hub} {elements first looks : List (Option Look)} (rest : List Link) (i : ℕ) → length rest ≤ i → Chains (take i rest) elements old new first looks → Chains rest elements old new first looks
links_all {old} {new} {elements} {first} {looks} rest i l h = subst (λ (ys : List Link). Chains ys elements old new first looks) (take_all i rest l) h

pub chained : {old mid new : List Hub} {elements first looks : List (Option Look)} (left : m.Expr) (rest : List Link) → Evaluates (λ so_far. expr_looks so_far left) elements old mid first → Chains rest elements mid new first looks
    → Evaluates (λ so_far. expr_looks so_far (links_of left rest)) elements old new looks
chained {elements = elements} left rest e h = record {
  grows = grows_then e.grows h.grows;
  each = λ so_far known. let d = e.each so_far known in h.each left so_far (known_later elements so_far e.grows (order_of d) known) d;
}

-- ---- all in one

pub summed : {old mid new : List Hub} {elements looks : List (Option Look)} {look : Option Look} {means : Looks → List (List Sight)} → Evaluates means elements old mid looks → JoinsAll mid new looks look
    → Sums (λ so_far. whole (means so_far)) elements old new look
summed {means = means} e j = record { grows = grows_then e.grows j.grows; denotes = λ so_far known. j.denotes (means so_far) (e.each so_far known) }

pub sum_both : {old mid most new : List Hub} {elements : List (Option Look)} {l r look : Option Look} {lefts rights : Looks → List Sight} → Sums lefts elements old mid l → Sums rights elements mid most r → Joins most new l r look
    → Sums (λ so_far. lefts so_far ++ rights so_far) elements old new look
sum_both {elements = elements} {lefts = lefts} {rights = rights} a b j = record {
  grows = grows_then a.grows (grows_then b.grows j.grows);
  denotes = λ so_far known.
      let first = a.denotes so_far known in
      let second = b.denotes so_far (known_later elements so_far a.grows first.order known) in
      j.denotes (lefts so_far) (rights so_far) (later b.grows second.order first) second;
}

pub as_sums : {elements : List (Option Look)} {old new : List Hub} {look : Option Look} {means : Looks → List Sight} (others : Looks → List Sight)
    → ((so_far : Looks) → means so_far ≡ others so_far) → Sums means elements old new look → Sums others elements old new look
as_sums {elements} {old} {new} {look} others same h = record {
  grows = h.grows;
  denotes = λ so_far known. subst (λ (s : List Sight). Denotes new look s) (same so_far) (h.denotes so_far known);
}

test_links_push : (left : m.Test) (xs : List TestLink) (x : TestLink) → test_links_of left (xs ++ x ∷ []) ≡ m.combined x.operator (test_links_of left xs) (test_view x.operand)
test_links_push left [] x = refl
test_links_push left (y ∷ ys) x = test_links_push (m.combined y.operator left (test_view y.operand)) ys x

pub no_test_links : (hubs : List Hub) (elements : List (Option Look)) (first : Option Look) → ChainsTests [] elements hubs hubs first first
no_test_links hubs elements first = record { grows = grows_none hubs; denotes = λ left so_far known d. d }

pub test_links_more : {old mid most new : List Hub} {elements : List (Option Look)} {first look operand result : Option Look} (rest : List TestLink) (i : ℕ) (x : TestLink) → i < length rest → x ≡ get_or rest i x
    → ChainsTests (take i rest) elements old mid first look → Sums (λ so_far. test_looks so_far (test_view x.operand)) elements mid most operand
    → Joins most new look operand result → ChainsTests (take (i + 1) rest) elements old new first result
test_links_more {old} {mid} {most} {new} {elements} {first} {look} {operand} {result} rest i x l is h e j = record {
  grows = grows_then h.grows (grows_then e.grows j.grows);
  denotes = λ left so_far known d.
      let so = h.denotes left so_far known d in
      let right = e.denotes so_far (known_later elements so_far h.grows so.order known) in
      subst (λ (ys : List TestLink). Denotes new result (test_looks so_far (test_links_of left ys))) (sym taken)
      (subst (λ (y : m.Test). Denotes new result (test_looks so_far y)) (sym (test_links_push left (take i rest) x))
      (j.denotes _ _ (later e.grows right.order so) right));
}
  where
    taken : take (i + 1) rest ≡ take i rest ++ x ∷ []
    taken = take_more rest i x l ∙ ap (λ (y : TestLink). take i rest ++ y ∷ []) (sym is)

pub test_links_all : {old new : List Hub} {elements : List (Option Look)} {first look : Option Look} (rest : List TestLink) (i : ℕ) → length rest ≤ i → ChainsTests (take i rest) elements old new first look
    → ChainsTests rest elements old new first look
test_links_all {old} {new} {elements} {first} {look} rest i l h = subst (λ (ys : List TestLink). ChainsTests ys elements old new first look) (take_all i rest l) h

pub test_chained : {old mid new : List Hub} {elements : List (Option Look)} {first look : Option Look} (left : m.Test) (rest : List TestLink) → Sums (λ so_far. test_looks so_far left) elements old mid first
    → ChainsTests rest elements mid new first look → Sums (λ so_far. test_looks so_far (test_links_of left rest)) elements old new look
test_chained {elements = elements} left rest e h = record {
  grows = grows_then e.grows h.grows;
  denotes = λ so_far known. let d = e.denotes so_far known in h.denotes left so_far (known_later elements so_far e.grows d.order known) d;
}

pub of_nothing : (elements : List (Option Look)) (hubs : List Hub) → Sums (λ so_far. []) elements hubs hubs None
of_nothing elements hubs = record { grows = grows_none hubs; denotes = λ so_far known. nothing (known 0).order }

pub of_net : (elements : List (Option Look)) (hubs : List Hub) (n : ℕ) → Sums (λ so_far. net_now n ∷ []) elements hubs hubs (Some (l.Net n))
of_net elements hubs n = record { grows = grows_none hubs; denotes = λ so_far known. net_denotes (known 0).order n }

pub of_event : (elements : List (Option Look)) (hubs : List Hub) (n : ℕ) → Sums (λ so_far. net_before n ∷ net_now n ∷ []) elements hubs hubs (Some (l.Net n))
of_event elements hubs n = record { grows = grows_none hubs; denotes = λ so_far known. record { order = (known 0).order; there = tt; nets = λ k. refl } }

-- the same looks
pub with_looks : {elements : List (Option Look)} {old new : List Hub} {looks others : List (Option Look)} (means : Looks → List (List Sight)) → looks ≡ others
    → Evaluates means elements old new looks → Evaluates means elements old new others
with_looks {elements} {old} {new} means same e = subst (λ (xs : List (Option Look)). Evaluates means elements old new xs) same e

pub of_counted : {elements : List (Option Look)} {old new : List Hub} {looks : List (Option Look)} {means : Looks → List (List Sight)} (op : Counted) (count : ℕ) → Evaluates means elements old new looks
    → Evaluates (λ so_far. counted_of [] op count (means so_far)) elements old new (counted_of None op count looks)
of_counted op count e = record { grows = e.grows; each = λ so_far known. each_counted op count (e.each so_far known) }

-- one element that looks at a net, an element, or nothing
pub of_one : {elements : List (Option Look)} {hubs : List Hub} {look : Option Look} (sights : Looks → List Sight) → ((so_far : Looks) → ElementsMean hubs elements so_far → Denotes hubs look (sights so_far))
    → Evaluates (λ so_far. sights so_far ∷ []) elements hubs hubs (replicate 1 look)
of_one {hubs = hubs} sights d = record { grows = grows_none hubs; each = λ so_far known. more (d so_far known) (none (d so_far known).order) }

-- ---- shifts by a count that a run computes, functions of a number, and rows

pub of_shifted : {old mid most new : List Hub} {elements counts looks result : List (Option Look)} {lefts rights : Looks → List (List Sight)} → Evaluates lefts elements old mid counts → Evaluates rights elements mid most looks
    → Combines (λ ls rs. replicate (length looks) (whole ls ++ whole rs)) most new counts looks result
    → Evaluates (λ so_far. replicate (length (rights so_far)) (whole (lefts so_far) ++ whole (rights so_far))) elements old new result
of_shifted {new = new} {elements = elements} {result = result} {lefts = lefts} {rights = rights} a b c = record {
  grows = grows_then a.grows (grows_then b.grows c.grows);
  each = λ so_far known.
      let first = a.each so_far known in
      let second = b.each so_far (known_later elements so_far a.grows (order_of first) known) in
      subst (λ (n : ℕ). DenoteEach new result (replicate n (whole (lefts so_far) ++ whole (rights so_far)))) (same_length second)
      (c.each (lefts so_far) (rights so_far) (each_later b.grows (order_of second) first) second);
}

pub of_converted : {old mid new : List Hub} {elements looks : List (Option Look)} {look : Option Look} {means : Looks → List (List Sight)} → Evaluates means elements old mid looks → JoinsAll mid new looks look
    → Evaluates (λ so_far. replicate (length (means so_far)) (whole (means so_far))) elements old new (replicate (length looks) look)
of_converted {new = new} {looks = looks} {look = look} {means = means} e j = record {
  grows = grows_then e.grows j.grows;
  each = λ so_far known.
      let d = e.each so_far known in
      subst (λ (n : ℕ). DenoteEach new (replicate (length looks) look) (replicate n (whole (means so_far)))) (same_length d)
      (each_replicate (length looks) (j.denotes (means so_far) d));
}

pub of_chosen : {old mid most new : List Hub} {elements looks result : List (Option Look)} {index : Option Look} {means : Looks → List Sight} {rows : Looks → List (List Sight)} (spacing : Spacing) → Sums means elements old mid index
    → Evaluates rows elements mid most looks → Chooses spacing index looks most new result
    → Evaluates (λ so_far. chosen_looks (means so_far) spacing.len (all_rows spacing (rows so_far))) elements old new result
of_chosen {elements = elements} {means = means} {rows = rows} spacing s e h = record {
  grows = grows_then s.grows (grows_then e.grows h.grows);
  each = λ so_far known.
      let first = s.denotes so_far known in
      let second = e.each so_far (known_later elements so_far s.grows first.order known) in
      h.each (means so_far) (rows so_far) (later e.grows (order_of second) first) second;
}
