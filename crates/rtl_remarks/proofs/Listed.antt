-- How lists of remarks grow.
use Rattle.std.proofs.Common.{◌≡◌, ℕ, zero, suc, ◌+◌, ◌<◌, Bool, true, false, ◌||◌, List, [], ◌∷◌, ◌++◌, length, get_or, take, map, refl, sym, ap, ◌∙◌, arith, append_assoc, append-nil}
use Rattle.std.specs.Prelude.{flat_map}
use Rattle.std.specs.List.{list_any, range_with_len}
use Rattle.std.proofs.lemmas.Grind.{flat_map-append}
use Rattle.std.proofs.lemmas.List.{take_more, length-take, map-append}
use Rattle.rtl_net.specs.declared.process.Process.{Process}
use Rattle.rtl_remarks.specs.declared.remark.Remark.{Remark}
use Rattle.rtl_remarks.specs.Remarks.{of_nets, of_processes}

range_more : (a n : ℕ) → range_with_len a (suc n) ≡ range_with_len a n ++ (a + n) ∷ []
range_more a zero = let e : a ≡ a + 0 = omega arith in ap (λ k. k ∷ []) e
range_more a (suc n) =
    let e : a + 1 + n ≡ a + suc n = omega arith in
    ap (λ t. a ∷ t) (range_more (a + 1) n) ∙ ap (λ k. a ∷ range_with_len (a + 1) n ++ k ∷ []) e

of_nets_more : (f : ℕ → List Remark) (n : ℕ) → of_nets f (suc n) ≡ of_nets f n ++ f n
of_nets_more f n =
    let e : 0 + n ≡ n = omega arith in
    ap (flat_map f) (range_more 0 n ∙ ap (λ k. range_with_len 0 n ++ k ∷ []) e) ∙ flat_map-append f (range_with_len 0 n) (n ∷ [])
    ∙ ap (λ t. of_nets f n ++ t) (append-nil (f n))

-- the remarks on one net more
pub next_net : (f : ℕ → List Remark) (n m : ℕ) (old mid new : List Remark) → m ≡ suc n → mid ≡ old ++ of_nets f n → new ≡ mid ++ f n → new ≡ old ++ of_nets f m
next_net f n m old mid new e p q =
    q ∙ ap (λ xs. xs ++ f n) p ∙ append_assoc old (of_nets f n) (f n) ∙ ap (λ xs. old ++ xs) (sym (of_nets_more f n)) ∙ ap (λ k. old ++ of_nets f k) (sym e)

of_processes_more : (f : ℕ → Process → List Remark) (s : ℕ) (ps : List Process) (p : Process)
    → of_processes f s (ps ++ p ∷ []) ≡ of_processes f s ps ++ f (s + length ps) p
of_processes_more f s [] p = append-nil (f s p) ∙ ap (λ k. f k p) (let e : s ≡ s + 0 = omega arith in e)
of_processes_more f s (q ∷ qs) p =
    let e : suc s + length qs ≡ s + suc (length qs) = omega arith in
    ap (λ xs. f s q ++ xs) (of_processes_more f (suc s) qs p ∙ ap (λ k. of_processes f (suc s) qs ++ f k p) e)
    ∙ sym (append_assoc (f s q) (of_processes f (suc s) qs) (f (s + suc (length qs)) p))

-- the remarks on one process more
pub next_process : (f : ℕ → Process → List Remark) (ps : List Process) (i : ℕ) (p : Process) (old mid new : List Remark) → i < length ps → p ≡ get_or ps i p
    → mid ≡ old ++ of_processes f 0 (take i ps) → new ≡ mid ++ f i p → new ≡ old ++ of_processes f 0 (take (i + 1) ps)
next_process f ps i p old mid new l at before q =
    let many : 0 + length (take i ps) ≡ i = omega (arith, length-take i ps, l) in
    let grown : of_processes f 0 (take (i + 1) ps) ≡ of_processes f 0 (take i ps) ++ f i p =
    ap (of_processes f 0) (take_more ps i p l ∙ ap (λ x. take i ps ++ x ∷ []) (sym at)) ∙ of_processes_more f 0 (take i ps) p
    ∙ ap (λ k. of_processes f 0 (take i ps) ++ f k p) many in
    q ∙ ap (λ xs. xs ++ f i p) before ∙ append_assoc old (of_processes f 0 (take i ps)) (f i p) ∙ ap (λ xs. old ++ xs) (sym grown)

-- the remark on one number more of a list
pub next_number : (f : ℕ → Remark) (xs : List ℕ) (i : ℕ) (old mid new : List Remark) → i < length xs → mid ≡ old ++ map f (take i xs) → new ≡ mid ++ f (get_or xs i 0) ∷ []
    → new ≡ old ++ map f (take (i + 1) xs)
next_number f xs i old mid new l before q =
    let x = get_or xs i 0 in
    q ∙ ap (λ ys. ys ++ f x ∷ []) before ∙ append_assoc old (map f (take i xs)) (f x ∷ [])
    ∙ ap (λ ys. old ++ ys) (sym (ap (map f) (take_more xs i 0 l) ∙ map-append f (take i xs) (x ∷ [])))

-- ---- searches

pub any_mapped : {X Y : Type 0} (p : Y → Bool) (h : X → Y) (xs : List X) → list_any p (map h xs) ≡ list_any (λ x. p (h x)) xs
any_mapped p h [] = refl
any_mapped p h (x ∷ xs) = ap (λ b. p (h x) || b) (any_mapped p h xs)

pub any_here : {X : Type 0} (p : X → Bool) (xs : List X) (i : ℕ) (d : X) → i < length xs → p (get_or xs i d) ≡ true → list_any p xs ≡ true
any_here p [] i d l t = absurd (omega arith)
any_here p (x ∷ xs) zero d l t = ap (λ b. b || list_any p xs) t
any_here p (x ∷ xs) (suc i) d l t = ap (λ b. p x || b) (any_here p xs i d (omega arith) t) ∙ either (p x)
  where
    either : (b : Bool) → (b || true) ≡ true
    either true = refl
    either false = refl
