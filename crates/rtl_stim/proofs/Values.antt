-- The value of a net that an input has is that of the input's course.
use Rattle.std.proofs.Common.{◌≡◌, ℕ, suc, zero, ◌+◌, true, false, cond, List, [], ◌∷◌, ◌++◌, map, Some, None, refl, sym, ap, subst, ◌∙◌, arith}
use Rattle.std.specs.Prelude.{◌≢◌, ◌==◌, slice_get, Contains, AllPairs}
use Rattle.std.proofs.lemmas.Bool.Decides.{nat_tests}
use Rattle.std.proofs.lemmas.List.Elements.{Contains-append_left, Contains-append_right}
use Rattle.rtl_stim_lines.specs.Inputs.{Input, Element}
use Rattle.rtl_stim_lines.specs.Courses.{Course, course_value}
use Rattle.rtl_stim_lines.specs.Times.{nets_of, all_nets, element_value, value_of}
use Rattle.rtl_stim_lines.specs.Filling.{HaveOwnNets}

-- ---- numbers of their own

-- each number is none of those after it
abbrev pub Own : List ℕ → Type 0
Own [] = Unit {0}
Own (n ∷ ns) = (Contains ns n → ⊥) × Own ns

pub own_of : (ns : List ℕ) → AllPairs (λ n m. n ≢ m) ns → Own ns
own_of [] h = tt
own_of (n ∷ ns) h = (
  λ there. h 0 (suc there.0) n (omega arith) (omega (arith, there.1)) (sym there.2),
  own_of ns (λ i j d less within. h (suc i) (suc j) d (omega arith) (omega arith)),
)

pub own_left : (ns ms : List ℕ) → Own (ns ++ ms) → Own ns
own_left [] ms h = tt
own_left (n ∷ ns) ms h = (λ there. h.0 (Contains-append_left ns ms n there), own_left ns ms h.1)

pub own_right : (ns ms : List ℕ) → Own (ns ++ ms) → Own ms
own_right [] ms h = h
own_right (n ∷ ns) ms h = own_right ns ms h.1

-- what holds of an element: it is the first, or one of the others
pub first_or_later : {X : Type 0} (x y : X) (xs : List X) → Contains (x ∷ xs) y → (P : Type 0) → (x ≡ y → P) → (Contains xs y → P) → P
first_or_later x y xs (zero, within, is) P here later = here is
first_or_later x y xs (suc k, within, is) P here later = later (k, omega (arith, within), is)

pub own_apart : (ns ms : List ℕ) (n : ℕ) → Own (ns ++ ms) → Contains ns n → Contains ms n → ⊥
own_apart [] ms n h (k, within, is) right = omega (arith, within)
own_apart (m ∷ ns) ms n h left right =
    first_or_later m n ns left ⊥ (λ e. h.0 (subst (Contains (ns ++ ms)) (sym e) (Contains-append_right ns ms n right))) (λ there. own_apart ns ms n h.1 there right)

-- ---- elements

equal : (n m : ℕ) → n ≡ m → (n == m) ≡ true
equal n m e = grind (arith, nat_tests)

unequal : (n m : ℕ) → n ≢ m → (n == m) ≡ false
unequal n m e = grind (arith, nat_tests)

pub net_there : (es : List Element) (k : ℕ) (e : Element) → slice_get es k ≡ Some e → Contains (map (λ element. element.net) es) e.net
net_there [] k e is = cc
net_there (x ∷ es) zero e is = let same : x ≡ e = cc in (0, omega arith, ap (λ element. element.net) same)
net_there (x ∷ es) (suc k) e is = Contains-append_right (x.net ∷ []) (map (λ element. element.net) es) e.net (net_there es k e is)

element_there : (course : Course) (place : ℕ) (es : List Element) (k t : ℕ) (e : Element) → Own (map (λ element. element.net) es) → slice_get es k ≡ Some e
    → element_value course place es e.net t ≡ Some (course_value course (place + k) e.start t)
element_there course place [] k t e own is = cc
element_there course place (x ∷ es) zero t e own is =
    let same : x ≡ e = cc in
    ap (λ b. cond b (Some (course_value course place x.start t)) (element_value course (suc place) es e.net t)) (equal x.net e.net (ap (λ element. element.net) same))
    ∙ ap (λ element. Some (course_value course place element.start t)) same
    ∙ ap (λ p. Some (course_value course p e.start t)) (let same_place : place ≡ place + 0 = omega arith in same_place)
element_there course place (x ∷ es) (suc k) t e own is =
    let differ : x.net ≢ e.net = λ same. own.0 (subst (Contains (map (λ element. element.net) es)) (sym same) (net_there es k e is)) in
    let same_place : suc place + k ≡ place + suc k = omega arith in
    ap (λ b. cond b (Some (course_value course place x.start t)) (element_value course (suc place) es e.net t)) (unequal x.net e.net differ)
    ∙ element_there course (suc place) es k t e own.1 is
    ∙ ap (λ p. Some (course_value course p e.start t)) same_place

pub no_element : (course : Course) (place : ℕ) (es : List Element) (net t : ℕ) → (Contains (map (λ element. element.net) es) net → ⊥) → element_value course place es net t ≡ None
no_element course place [] net t none = refl
no_element course place (x ∷ es) net t none =
    ap (λ b. cond b (Some (course_value course place x.start t)) (element_value course (suc place) es net t))
    (unequal x.net net (λ same. none (0, omega arith, same)))
    ∙ no_element course (suc place) es net t (λ there. none (Contains-append_right (x.net ∷ []) (map (λ element. element.net) es) net there))

-- ---- inputs

pub net_among : (inputs : List Input) (i k : ℕ) (input : Input) (e : Element) → slice_get inputs i ≡ Some input → slice_get input.elements k ≡ Some e → Contains (all_nets inputs) e.net
net_among [] i k input e is at = cc
net_among (x ∷ inputs) zero k input e is at =
    let same : x ≡ input = cc in
    Contains-append_left (nets_of x) (all_nets inputs) e.net (subst (λ i. Contains (nets_of i) e.net) (sym same) (net_there input.elements k e at))
net_among (x ∷ inputs) (suc i) k input e is at = Contains-append_right (nets_of x) (all_nets inputs) e.net (net_among inputs i k input e is at)

there_of_own : (inputs : List Input) (courses : List Course) (i k t : ℕ) (input : Input) (course : Course) (e : Element) → Own (all_nets inputs)
    → slice_get inputs i ≡ Some input → slice_get courses i ≡ Some course → slice_get input.elements k ≡ Some e
    → value_of inputs courses e.net t ≡ course_value course k e.start t
there_of_own [] courses i k t input course e own is has at = cc
there_of_own (x ∷ inputs) [] i k t input course e own is has at = cc
there_of_own (x ∷ inputs) (c ∷ courses) zero k t input course e own is has at =
    let same : x ≡ input = cc in
    let same_course : c ≡ course = cc in
    let at' = subst (λ i. slice_get i.elements k ≡ Some e) (sym same) at in
    rw (element_there c 0 x.elements k t e (own_left (nets_of x) (all_nets inputs) own) at')
    (ap (λ d. course_value d (0 + k) e.start t) same_course ∙ ap (λ p. course_value course p e.start t) (let none : 0 + k ≡ k = omega arith in none))
there_of_own (x ∷ inputs) (c ∷ courses) (suc i) k t input course e own is has at =
    let none = no_element c 0 x.elements e.net t (λ there. own_apart (nets_of x) (all_nets inputs) e.net own there (net_among inputs i k input e is at)) in
    rw none (there_of_own inputs courses i k t input course e (own_right (nets_of x) (all_nets inputs) own) is has at)

-- the net of an element has the value of the element's course
pub value_there : (inputs : List Input) (courses : List Course) (i k t : ℕ) (input : Input) (course : Course) (e : Element) → HaveOwnNets inputs
    → slice_get inputs i ≡ Some input → slice_get courses i ≡ Some course → slice_get input.elements k ≡ Some e
    → value_of inputs courses e.net t ≡ course_value course k e.start t
value_there inputs courses i k t input course e own is has at = there_of_own inputs courses i k t input course e (own_of (all_nets inputs) own) is has at
