-- Which hubs have nets from outside alone behind them.
use Rattle.std.proofs.Common.{◌≡◌, ◌↔◌, ℕ, zero, suc, ◌+◌, ◌<◌, ◌≤◌, Bool, true, false, ◌&&◌, List, [], ◌∷◌, ◌++◌, length, get_or, map, drop, drop-cons, Option, Some, None, refl, sym, ap, ◌∙◌, arith, Contains}
use Rattle.std.specs.List.{list_all}
use Rattle.std.proofs.lemmas.List.Folds.{list_all-append}
use Rattle.rtl_model.specs.simulation.Netlist.{Netlist}
use Rattle.rtl_model.specs.simulation.Calm.{IsFromOutside}
use Rattle.rtl_body_facts.specs.Reading.{is_in}
use Rattle.rtl_body_facts.proofs.Members.{in_has, has_in}
use Rattle.rtl_looks.specs.declared.hubs.Look.{Look}
use Rattle.rtl_looks.specs.declared.hubs.Look.TheVariants as l
use Rattle.rtl_looks.specs.declared.hubs.Hub.{Hub}
use Rattle.rtl_looks.specs.Denoting.{nets_by, nets_behind, nets_of}
use Rattle.rtl_calm_nets.specs.NetOrigins.{AreOutside}
use Rattle.rtl_calm_nets.specs.OutsideLooks.{are_outside, looks_outside, place_outside}

and_true : (b : Bool) → (b && true) ≡ b
and_true true = refl
and_true false = refl

marked : (f : List ℕ → Bool) (xs : List (List ℕ)) (k : ℕ) → f [] ≡ true → get_or (map f xs) k true ≡ f (get_or xs k [])
marked f [] k e = sym e
marked f (x ∷ xs) zero e = refl
marked f (x ∷ xs) (suc k) e = marked f xs k e

pub look_is : (outside : List Bool) (known : List (List ℕ)) (look : Look) → looks_outside outside (map (are_outside outside) known) look ≡ are_outside outside (nets_by known look)
look_is outside known (l.Net n) = sym (and_true (get_or outside n false))
look_is outside known (l.Hub h) = marked (are_outside outside) known h refl

-- the marks of some hubs, where those behind them are left
pub record Marks (outside : List Bool) (hubs : List Hub) (i : ℕ) (marks : List Bool) : Type 0 where
  pub known : List (List ℕ)
  pub same : nets_behind known (drop i hubs) ≡ nets_behind [] hubs
  pub marks_are : marks ≡ map (are_outside outside) known

pub begins : (outside : List Bool) (hubs : List Hub) (marks : List Bool) → marks ≡ [] → Marks outside hubs 0 marks
begins outside hubs marks e = record { known = []; same = refl; marks_are = e }

map_push : {X Y : Type 0} (f : X → Y) (xs : List X) (x : X) → map f (xs ++ x ∷ []) ≡ map f xs ++ f x ∷ []
map_push f [] x = refl
map_push f (y ∷ ys) x = ap (λ zs. f y ∷ zs) (map_push f ys x)

pub goes_on : (outside : List Bool) (hubs : List Hub) (i : ℕ) (marks new seen : List Bool) (d : Hub) (mark : Bool) → Marks outside hubs i marks → i < length hubs → seen ≡ marks
    → mark ≡ (looks_outside outside seen (get_or hubs i d).left && looks_outside outside seen (get_or hubs i d).right) → new ≡ marks ++ mark ∷ [] → Marks outside hubs (i + 1) new
goes_on outside hubs i marks new seen d mark m l same e n = record {
  known = m.known ++ (nets_by m.known (get_or hubs i d).left ++ nets_by m.known (get_or hubs i d).right) ∷ [];
  same = sym (ap (nets_behind m.known) dropped) ∙ m.same;
  marks_are = n ∙ ((λ j. m.marks_are j ++ marked_so j ∷ []) ∙ sym (map_push (are_outside outside) m.known (nets_by m.known (get_or hubs i d).left ++ nets_by m.known (get_or hubs i d).right)));
}
  where
    dropped : drop i hubs ≡ get_or hubs i d ∷ drop (i + 1) hubs
    dropped = let next : i + 1 ≡ suc i = omega arith in drop-cons hubs i d l ∙ ap (λ (k : ℕ). get_or hubs i d ∷ drop k hubs) (sym next)

    side : (look : Look) → looks_outside outside seen look ≡ are_outside outside (nets_by m.known look)
    side look = ap (λ (ms : List Bool). looks_outside outside ms look) (same ∙ m.marks_are) ∙ look_is outside m.known look

    marked_so : mark ≡ are_outside outside (nets_by m.known (get_or hubs i d).left ++ nets_by m.known (get_or hubs i d).right)
    marked_so = e ∙ ((λ j. side (get_or hubs i d).left j && side (get_or hubs i d).right j) ∙ sym (list_all-append (λ n. get_or outside n false) (nets_by m.known (get_or hubs i d).left) (nets_by m.known (get_or hubs i d).right)))

drop_past : {X : Type 0} (xs : List X) (i : ℕ) → length xs ≤ i → drop i xs ≡ []
drop_past [] zero l = refl
drop_past [] (suc i) l = refl
drop_past (x ∷ xs) zero l = absurd (omega arith)
drop_past (x ∷ xs) (suc i) l = drop_past xs i (omega arith)

pub ends : (outside : List Bool) (hubs : List Hub) (i : ℕ) (marks : List Bool) → Marks outside hubs i marks → length hubs ≤ i → marks ≡ map (are_outside outside) (nets_behind [] hubs)
ends outside hubs i marks m l = m.marks_are ∙ ap (map (are_outside outside)) (sym (ap (nets_behind m.known) (drop_past hubs i l)) ∙ m.same)

-- what is behind a look
pub place_is : (outside : List Bool) (hubs : List Hub) (look : Option Look) → place_outside outside (map (are_outside outside) (nets_behind [] hubs)) look ≡ are_outside outside (nets_of hubs look)
place_is outside hubs None = refl
place_is outside hubs (Some look) = look_is outside (nets_behind [] hubs) look

all_here : (f : ℕ → Bool) (xs : List ℕ) (x : ℕ) → list_all f xs ≡ true → Contains xs x → f x ≡ true
all_here f [] x e (k, l, is) = absurd (omega arith)
all_here f (y ∷ ys) x e (k, l, is) = go (f y) refl k l is e (λ c t. all_here f ys x t c)
  where
    go : (b : Bool) → f y ≡ b → (k : ℕ) → k < length (y ∷ ys) → get_or (y ∷ ys) k x ≡ x → (b && list_all f ys) ≡ true → (Contains ys x → list_all f ys ≡ true → f x ≡ true) → f x ≡ true
    go true t zero l is e more = ap f (sym is) ∙ t
    go true t (suc k) l is e more = more (k, omega arith, is) e
    go false t k l is e more = absurd cc

all_by : (f : ℕ → Bool) (xs : List ℕ) → ((x : ℕ) → Contains xs x → f x ≡ true) → list_all f xs ≡ true
all_by f [] h = refl
all_by f (y ∷ ys) h = ap (λ (b : Bool). b && list_all f ys) (h y (0, omega arith, refl)) ∙ all_by f ys (λ x (k, l, e). h x (suc k, omega arith, e))

-- nets that are the same as those that a driver looks at
pub all_outside : (net : Netlist) (outside : List Bool) → AreOutside net outside → (behind looks : List ℕ) → ((n : ℕ) → is_in n behind ≡ is_in n looks)
    → ((m : ℕ) → Contains looks m → m < length net.start) → (are_outside outside behind ≡ true) ↔ ((m : ℕ) → Contains looks m → IsFromOutside net m)
all_outside net outside O behind looks same there = (to, from)
  where
    to : are_outside outside behind ≡ true → (m : ℕ) → Contains looks m → IsFromOutside net m
    to t m c = (O.each m (there m c)).0 (all_here (λ n. get_or outside n false) behind m t (in_has behind m (same m ∙ has_in looks m c)))

    from : ((m : ℕ) → Contains looks m → IsFromOutside net m) → are_outside outside behind ≡ true
    from h = all_by (λ n. get_or outside n false) behind (λ n c. let d = in_has looks n (sym (same n) ∙ has_in behind n c) in (O.each n (there n d)).1 (h n d))
