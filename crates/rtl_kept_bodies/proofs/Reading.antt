-- What a register's process reads whose variables are kept: what it read before, and their nets.
use Rattle.std.proofs.Common.{◌≡◌, ℕ, zero, suc, ◌+◌, ◌-◌, ◌<◌, ◌≤◌, Bool, true, false, ◌||◌, ◌⊎◌, inl, inr, List, [], ◌∷◌, ◌++◌, length, get_or, map, All, append-nil, append_assoc, length-append, refl, sym, ap, ◌∙◌, subst, arith}
use Rattle.std.specs.Prelude.{slice_index}
use Rattle.std.specs.List.{range_with_len}
use Rattle.std.specs.List.Sorted.{IsStrictlyIncreasing}
use Rattle.std.proofs.lemmas.Bool.{cases_lt}
use Rattle.std.proofs.lemmas.List.{get_or_append_left, get_or-append_right, get_or_default}
use Rattle.std.proofs.lemmas.List.Elements.{All-nil, All-cons}
use Rattle.std.proofs.lemmas.List.FromFn.{length-range_with_len, get_or-range_with_len}
use Rattle.rtl_model.specs.bodies.Body.{Test, null_of, assign, set, assign_at, set_at, if_of, case_of, Stmts, done, step, followed_by}
use Rattle.rtl_model.specs.bodies.Reads.{value_reads, stmt_reads, test_reads, reads}
use Rattle.rtl_model.specs.bodies.Types.{ElementType, nine_valued, enumeration}
use Rattle.rtl_model.specs.nets.FlatNetlist.{VariableInRange, ProcessInRange, scope_of}
use Rattle.rtl_model.proofs.bodies.There.{each_read_is_there}
use Rattle.rtl_net.specs.declared.process.Process.{Process}
use Rattle.rtl_net.specs.declared.process.Variable.{Variable}
use Rattle.rtl_net.specs.Elaborated.{ReadsOfBody}
use Rattle.rtl_net.specs.Nets.{element_type, variable_view, process_view, body_of}
use Rattle.rtl_body_facts.specs.Reading.{is_in}
use Rattle.rtl_body_facts.proofs.Members.{in_append, in_has, has_in, same_members}
use Rattle.rtl_variable_registers.specs.Bodies as spec
use Rattle.rtl_kept_bodies.specs.declared.forms.Form.{Form}
use Rattle.rtl_kept_bodies.specs.declared.forms.Form.TheVariants.{Alone, ResetFirst, ResetBehind, Other}
use Rattle.rtl_kept_bodies.specs.declared.kept.Kept.{Kept}
use Rattle.rtl_kept_bodies.specs.Steps.{kept_from, held_by, had_by, recall_all, remember_all, form_of, all_at_reset}
use Rattle.rtl_kept_bodies.proofs.Ranks.{Stand, nothing, more, elements_of, IsOne}
use Rattle.rtl_kept_bodies.proofs.Shapes.{Shape, alone, reset_first, reset_behind, shape}

pub reads_by : (s t : Stmts) → reads (followed_by s t) ≡ reads s ++ reads t
reads_by done t = refl
reads_by (step s rest) t = ap (λ (ns : List ℕ). stmt_reads s ++ ns) (reads_by rest t) ∙ sym (append_assoc (stmt_reads s) (reads rest) (reads t))

-- ---- what is recalled, remembered and reset

range_join : (a n m : ℕ) → range_with_len a n ++ range_with_len (a + n) m ≡ range_with_len a (n + m)
range_join a zero m = ap (λ b. range_with_len b m) (let e : a + 0 ≡ a = omega arith in e) ∙ ap (range_with_len a) (let e : m ≡ 0 + m = omega arith in e)
range_join a (suc n) m = ap (λ ns. a ∷ ns) (ap (λ b. range_with_len (a + 1) n ++ range_with_len b m) (let e : a + suc n ≡ (a + 1) + n = omega arith in e) ∙ range_join (a + 1) n m) ∙ ap (range_with_len a) (let e : suc (n + m) ≡ suc n + m = omega arith in e)

held_reads : (t : ElementType) (net len : ℕ) → ((literals : ℕ) → t ≡ enumeration literals → len ≡ 1) → value_reads (held_by t net len) ≡ range_with_len net len
held_reads nine_valued net len one = refl
held_reads (enumeration literals) net len one = sym (ap (range_with_len net) (one literals refl))

pub recall_reads : (lo net place : ℕ) (ks : List Kept) → Stand lo net place ks → All IsOne ks → reads (recall_all ks) ≡ range_with_len net (length (elements_of ks))
recall_reads lo net place [] (nothing _ _ _) one = refl
recall_reads lo net place (k ∷ ks) (more _ _ _ _ _ l n p rest) one =
    let behind = recall_reads (k.element + k.len) (net + k.len) (place + k.len) ks rest (λ i d m. one (suc i) d (omega arith)) in
    let long : k.len + length (elements_of ks) ≡ length (range_with_len k.element k.len ++ elements_of ks) =
    (let a = length-append (range_with_len k.element k.len) (elements_of ks) in let b = length-range_with_len k.element k.len in omega (arith, a, b)) in
    ap (λ ns. ns ++ reads (recall_all ks)) (held_reads (element_type k.kind) k.net k.len (one 0 k (omega arith)))
    ∙ ap (λ m. range_with_len m k.len ++ reads (recall_all ks)) n ∙ ap (λ ns. range_with_len net k.len ++ ns) behind
    ∙ range_join net k.len (length (elements_of ks)) ∙ ap (range_with_len net) long

pub remember_reads : (ks : List Kept) → reads (remember_all ks) ≡ []
remember_reads [] = refl
remember_reads (k ∷ ks) = ap (λ ns. ns ++ reads (remember_all ks)) (none (element_type k.kind)) ∙ remember_reads ks
  where
    none : (t : ElementType) → value_reads (had_by t k.element k.len) ≡ []
    none nine_valued = refl
    none (enumeration literals) = refl

pub reset_reads : (place : ℕ → ℕ) (s : Stmts) → reads (all_at_reset place s) ≡ reads s
reset_reads place done = refl
reset_reads place (step null_of rest) = reset_reads place rest
reset_reads place (step (assign ps v) rest) = ap (λ ns. value_reads v ++ ns) (reset_reads place rest)
reset_reads place (step (set es v) rest) = ap (λ ns. value_reads v ++ ns) (reset_reads place rest)
reset_reads place (step (assign_at index spacing places d) rest) = ap (λ ns. stmt_reads (assign_at index spacing places d) ++ ns) (reset_reads place rest)
reset_reads place (step (set_at index spacing es d) rest) = ap (λ ns. stmt_reads (set_at index spacing es d) ++ ns) (reset_reads place rest)
reset_reads place (step (if_of bs) rest) = ap (λ ns. stmt_reads (if_of bs) ++ ns) (reset_reads place rest)
reset_reads place (step (case_of v alts) rest) = ap (λ ns. stmt_reads (case_of v alts) ++ ns) (reset_reads place rest)

-- ---- the body

or_four : (r a t s n : Bool) → (r || (a || (t || (n || s)))) ≡ ((r || (a || (t || s))) || n)
or_four true a t s n = refl
or_four false true t s n = refl
or_four false false true s n = refl
or_four false false false true true = refl
or_four false false false true false = refl
or_four false false false false true = refl
or_four false false false false false = refl

or_two : (t s n : Bool) → (t || (n || s)) ≡ ((t || s) || n)
or_two true s n = refl
or_two false true true = refl
or_two false true false = refl
or_two false false true = refl
or_two false false false = refl

or_pairs : (t s r a n : Bool) → ((t || (n || s)) || (r || a)) ≡ (((t || s) || (r || a)) || n)
or_pairs true s r a n = refl
or_pairs false true r a true = refl
or_pairs false true r a false = refl
or_pairs false false true a true = refl
or_pairs false false true a false = refl
or_pairs false false false true true = refl
or_pairs false false false true false = refl
or_pairs false false false false true = refl
or_pairs false false false false false = refl

module _ (n : ℕ) where
  alone_parts : (t : Test) (xs : List ℕ) → is_in n ((test_reads t ++ (xs ++ [])) ++ []) ≡ (is_in n (test_reads t) || is_in n xs)
  alone_parts t xs =
      ap (is_in n) (append-nil (test_reads t ++ (xs ++ [])) ∙ ap (λ ns. test_reads t ++ ns) (append-nil xs)) ∙ in_append n (test_reads t) xs

  first_parts : (r : Test) (as' : List ℕ) (t : Test) (xs : List ℕ) → is_in n ((test_reads r ++ (as' ++ (test_reads t ++ (xs ++ [])))) ++ [])
      ≡ (is_in n (test_reads r) || (is_in n as' || (is_in n (test_reads t) || is_in n xs)))
  first_parts r as' t xs =
      ap (is_in n) (append-nil (test_reads r ++ (as' ++ (test_reads t ++ (xs ++ [])))) ∙ ap (λ ns. test_reads r ++ (as' ++ (test_reads t ++ ns))) (append-nil xs))
      ∙ in_append n (test_reads r) (as' ++ (test_reads t ++ xs))
      ∙ ap (λ b. is_in n (test_reads r) || b) (in_append n as' (test_reads t ++ xs) ∙ ap (λ b. is_in n as' || b) (in_append n (test_reads t) xs))

  behind_parts : (t : Test) (xs : List ℕ) (r : Test) (as' : List ℕ) → is_in n ((test_reads t ++ (xs ++ [])) ++ ((test_reads r ++ (as' ++ [])) ++ []))
      ≡ ((is_in n (test_reads t) || is_in n xs) || (is_in n (test_reads r) || is_in n as'))
  behind_parts t xs r as' =
      in_append n (test_reads t ++ (xs ++ [])) ((test_reads r ++ (as' ++ [])) ++ [])
      ∙ ap (λ b. b || is_in n ((test_reads r ++ (as' ++ [])) ++ [])) (ap (λ ns. is_in n (test_reads t ++ ns)) (append-nil xs) ∙ in_append n (test_reads t) xs)
      ∙ ap (λ b. (is_in n (test_reads t) || is_in n xs) || b) (alone_parts r as')

  module _ (f g : Stmts → Stmts) (nets : List ℕ) (besides : (s : Stmts) → reads (g s) ≡ nets ++ reads s) where
    -- the reset's branch reads the same
    abbrev ReadsSame : Stmts → Type 0
    ReadsSame a = reads (f a) ≡ reads a

    edge_parts : (s : Stmts) → is_in n (reads (g s)) ≡ (is_in n nets || is_in n (reads s))
    edge_parts s = ap (is_in n) (besides s) ∙ in_append n nets (reads s)

    of_shape : (b : Stmts) (k : Form) → ReadsSame (spec.reset_branch b) → Shape b k → (k ≡ Other → ⊥) → is_in n (reads (spec.with_branches f g b)) ≡ (is_in n (reads b) || is_in n nets)
    of_shape b Alone same (alone t s is) some =
        ap (λ x. is_in n (reads (spec.with_branches f g x))) is ∙ alone_parts t (reads (g s)) ∙ ap (λ c. is_in n (test_reads t) || c) (edge_parts s)
        ∙ or_two (is_in n (test_reads t)) (is_in n (reads s)) (is_in n nets)
        ∙ sym (ap (λ x. is_in n (reads x) || is_in n nets) is ∙ ap (λ c. c || is_in n nets) (alone_parts t (reads s)))
    of_shape b ResetFirst same (reset_first r a t s is) some =
        ap (λ x. is_in n (reads (spec.with_branches f g x))) is ∙ first_parts r (reads (f a)) t (reads (g s))
        ∙ ap (λ ns. is_in n (test_reads r) || (is_in n ns || (is_in n (test_reads t) || is_in n (reads (g s))))) (subst ReadsSame (ap spec.reset_branch is) same)
        ∙ ap (λ c. is_in n (test_reads r) || (is_in n (reads a) || (is_in n (test_reads t) || c))) (edge_parts s)
        ∙ or_four (is_in n (test_reads r)) (is_in n (reads a)) (is_in n (test_reads t)) (is_in n (reads s)) (is_in n nets)
        ∙ sym (ap (λ x. is_in n (reads x) || is_in n nets) is ∙ ap (λ c. c || is_in n nets) (first_parts r (reads a) t (reads s)))
    of_shape b ResetBehind same (reset_behind t s r a is) some =
        ap (λ x. is_in n (reads (spec.with_branches f g x))) is ∙ behind_parts t (reads (g s)) r (reads (f a))
        ∙ ap (λ ns. (is_in n (test_reads t) || is_in n (reads (g s))) || (is_in n (test_reads r) || is_in n ns)) (subst ReadsSame (ap spec.reset_branch is) same)
        ∙ ap (λ c. (is_in n (test_reads t) || c) || (is_in n (test_reads r) || is_in n (reads a))) (edge_parts s)
        ∙ or_pairs (is_in n (test_reads t)) (is_in n (reads s)) (is_in n (test_reads r)) (is_in n (reads a)) (is_in n nets)
        ∙ sym (ap (λ x. is_in n (reads x) || is_in n nets) is ∙ ap (λ c. c || is_in n nets) (behind_parts t (reads s) r (reads a)))
    of_shape b Other same s some = absurd (some refl)

    pub changed_reads : (b : Stmts) → ReadsSame (spec.reset_branch b) → (form_of b ≡ Other → ⊥) → is_in n (reads (spec.with_branches f g b)) ≡ (is_in n (reads b) || is_in n nets)
    changed_reads b same some = of_shape b (form_of b) same (shape b) some

-- ---- the list of nets

pub rises_on : (xs : List ℕ) (first many : ℕ) → IsStrictlyIncreasing xs → All (λ n. n < first) xs → IsStrictlyIncreasing (xs ++ range_with_len first many)
rises_on xs first many rise below k l = go (cases_lt (k + 1) (length xs)) (cases_lt k (length xs))
  where
    long : length (xs ++ range_with_len first many) ≡ length xs + many
    long = length-append xs (range_with_len first many) ∙ ap (λ m. length xs + m) (length-range_with_len first many)

    behind : (i : ℕ) → length xs ≤ i → i < length xs + many → get_or (xs ++ range_with_len first many) i 0 ≡ first + (i - length xs)
    behind i a b = get_or-append_right xs (range_with_len first many) (length xs) i 0 refl a ∙ get_or-range_with_len first many (i - length xs) 0 (omega arith)

    go : (k + 1 < length xs) ⊎ (length xs ≤ k + 1) → (k < length xs) ⊎ (length xs ≤ k) → slice_index (xs ++ range_with_len first many) k < slice_index (xs ++ range_with_len first many) (k + 1)
    go (inl a) (inr c) = absurd (omega arith)
    go (inl a) (inl c) =
        let u : get_or (xs ++ range_with_len first many) k 0 ≡ get_or xs k 0 = get_or_append_left xs (range_with_len first many) 0 k c in
        let v : get_or (xs ++ range_with_len first many) (k + 1) 0 ≡ get_or xs (k + 1) 0 = get_or_append_left xs (range_with_len first many) 0 (k + 1) a in
        let h : get_or xs k 0 < get_or xs (k + 1) 0 = rise k a in omega (arith, u, v, h)
    go (inr a) (inl c) =
        let u : get_or (xs ++ range_with_len first many) k 0 ≡ get_or xs k 0 = get_or_append_left xs (range_with_len first many) 0 k c in
        let v = behind (k + 1) a (omega (arith, l, long)) in
        let h : get_or xs k 0 < first = below k 0 c in omega (arith, u, v, h)
    go (inr a) (inr c) =
        let u = behind k c (omega (arith, l, long)) in
        let v = behind (k + 1) a (omega (arith, l, long)) in omega (arith, u, v)

pub reads_below : (p : Process) (types : List ElementType) (first : ℕ) → ReadsOfBody p → ProcessInRange types (process_view p) → length types ≤ first
    → All (λ n. n < first) p.reads.items
reads_below p types first r h l k d m =
    let n = get_or p.reads.items k d in
    let (i, j, at) = (r.all n).0 (k, m, get_or_default p.reads.items k n d m) in
    let b = (each_read_is_there (scope_of types (process_view p)) (body_of p) h.body).nets i n j in
    let c : n < length types = subst (λ (x : ℕ). x < length types) at b in omega (arith, c, l)

pub reads_follow : (old new : Process) (first many : ℕ) → ReadsOfBody old → All (λ n. n < first) old.reads.items
    → new.reads.items ≡ old.reads.items ++ range_with_len first many
    → ((n : ℕ) → is_in n (reads (body_of new)) ≡ (is_in n (reads (body_of old)) || is_in n (range_with_len first many)))
    → ReadsOfBody new
reads_follow old new first many r below is body = record {
  rise = subst (λ (xs : List ℕ). IsStrictlyIncreasing xs) (sym is) (rises_on old.reads.items first many r.rise below);
  all = λ n. (λ c. in_has (reads (body_of new)) n (sym (same n) ∙ has_in new.reads.items n c), λ c. in_has new.reads.items n (same n ∙ has_in (reads (body_of new)) n c));
}
  where
    same : (n : ℕ) → is_in n new.reads.items ≡ is_in n (reads (body_of new))
    same n =
        ap (is_in n) is ∙ in_append n old.reads.items (range_with_len first many)
        ∙ ap (λ (b : Bool). b || is_in n (range_with_len first many)) (same_members old.reads.items (reads (body_of old)) n (r.all n).0 (r.all n).1)
        ∙ sym (body n)

-- ---- variables of an enumeration

pub are_one : (e net place : ℕ) (flags : List Bool) (vs : List Variable) → All VariableInRange (map variable_view vs) → All IsOne (kept_from e net place flags vs)
are_one e net place (true ∷ flags) (v ∷ vs) h =
    All-cons IsOne _ _ ((h 0 (variable_view v) (omega arith)).one_literal)
    (are_one (e + length v.starts.items) (net + length v.starts.items) (place + length v.starts.items) flags vs (λ i d l. h (suc i) d (omega arith)))
are_one e net place (false ∷ flags) (v ∷ vs) h = are_one (e + length v.starts.items) net place flags vs (λ i d l. h (suc i) d (omega arith))
are_one e net place [] vs h = All-nil IsOne
are_one e net place (true ∷ flags) [] h = All-nil IsOne
are_one e net place (false ∷ flags) [] h = All-nil IsOne
