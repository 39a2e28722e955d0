-- Scopes stand in order of the text: going through the tree.
use Rattle.std.proofs.Common.{◌≡◌, ℕ, zero, suc, ◌+◌, ◌-◌, ◌<◌, ◌≤◌, List, [], ◌∷◌, ◌++◌, length, map, Option, Some, None, refl, sym, ap, ◌∙◌, subst, arith, ◌⊎◌, inl, inr}
use Rattle.std.specs.Prelude.{slice_index_or}
use Rattle.std.proofs.lemmas.Bool.{cases_lt}
use Rattle.std.proofs.lemmas.List.{length-append, length-map, map-append}
use Rattle.rtl_net.specs.Nets.{ScopeView, parent_of}
use Rattle.rtl_net.specs.Elaborated.{IsRound, itself, further_in, FollowsInText}
use Rattle.vhdl_expand_rules.specs.Tree.{Instance, instance, Parts, no_parts, process, inner}
use Rattle.vhdl_expand_rules.specs.Expansion.{expanded_design}
use Rattle.vhdl_expand_rules.proofs.Steps.{bound}
use Rattle.vhdl_elab_rules.specs.Numbering.{Placed, Numbered, nothing_numbered, above_top, above_parts, placed_instance, with_process, with_placed, with_instance, with_parts, numbered_design}
use Rattle.vhdl_elab_rules.specs.Names.{Scope, scope_of}
use Rattle.vhdl_elab_rules.specs.Elaboration.{Elaborated, elaborated_net}
use Rattle.vhdl_elab_rules.specs.laws.Scopes.{scope_views, StandInText, EachScopeFollows}
use Rattle.vhdl_elab_rules.proofs.laws.Growing.{parts_grow}
use Rattle.vhdl_elab_rules.proofs.laws.Sound.{accepted}

abbrev parents : List ScopeView → List (Option ℕ)
parents scopes = map (λ (s : ScopeView). s.parent) scopes

-- ---- more scopes behind

read-more : (xs ys : List (Option ℕ)) (k p : ℕ) → slice_index_or xs k None ≡ Some p → slice_index_or (xs ++ ys) k None ≡ Some p
read-more [] ys k p h = absurd cc
read-more (x ∷ xs) ys zero p h = h
read-more (x ∷ xs) ys (suc k) p h = read-more xs ys k p h

parent-more : (xs ys : List ScopeView) (k p : ℕ) → parent_of xs k ≡ Some p → parent_of (xs ++ ys) k ≡ Some p
parent-more xs ys k p h =
    ap (λ (os : List (Option ℕ)). slice_index_or os k None) (map-append (λ (s : ScopeView). s.parent) xs ys) ∙ read-more (parents xs) (parents ys) k p h

round-more : (xs ys : List ScopeView) (a b : ℕ) → IsRound xs a b → IsRound (xs ++ ys) a b
round-more xs ys a b itself = itself
round-more xs ys a b (further_in n p is r) = further_in n p (parent-more xs ys n p is) (round-more xs ys a p r)

round-on : (xs : List ScopeView) (a b c : ℕ) → IsRound xs a b → IsRound xs b c → IsRound xs a c
round-on xs a b c h itself = h
round-on xs a b c h (further_in n p is r) = further_in n p is (round-on xs a b p h r)

follows-more : (xs ys : List ScopeView) (k : ℕ) → FollowsInText xs k → FollowsInText (xs ++ ys) k
follows-more xs ys k h = record { parent = h.parent; is = parent-more xs ys (suc k) h.parent h.is; before = h.before; round = round-more xs ys h.parent k h.round }

read-last : (xs : List (Option ℕ)) (o : Option ℕ) (k : ℕ) → length xs ≡ k → slice_index_or (xs ++ o ∷ []) k None ≡ o
read-last [] o zero l = refl
read-last (x ∷ xs) o (suc k) l = read-last xs o k (omega (arith, l))
read-last _ o _ l = absurd (omega (arith, l))

parent-last : (xs : List ScopeView) (s : ScopeView) (k : ℕ) → length xs ≡ k → parent_of (xs ++ s ∷ []) k ≡ s.parent
parent-last xs s k l =
    ap (λ (os : List (Option ℕ)). slice_index_or os k None) (map-append (λ (x : ScopeView). x.parent) xs (s ∷ [])) ∙ read-last (parents xs) s.parent k (length-map xs (λ (x : ScopeView). x.parent) ∙ l)

-- ---- what holds so far

abbrev views : List Placed → List ScopeView
views ps = scope_views (map scope_of ps)

length-views : (ps : List Placed) → length (views ps) ≡ length ps
length-views ps = length-map (map scope_of ps) (λ (s : Scope). record { label = s.label; parent = s.parent }) ∙ length-map ps scope_of

views-append : (ps qs : List Placed) → views (ps ++ qs) ≡ views ps ++ views qs
views-append ps qs =
    ap scope_views (map-append scope_of ps qs) ∙ map-append (λ (s : Scope). record { label = s.label; parent = s.parent }) (map scope_of ps) (map scope_of qs)

views-more : (ps : List Placed) (p : Placed) → views (ps ++ p ∷ []) ≡ views ps ++ (record { label = p.label; parent = p.parent } ∷ [])
views-more ps p = views-append ps (p ∷ [])

record InText (number : ℕ) (scopes : List ScopeView) : Type 0 where
  top : parent_of scopes 0 ≡ None
  others : (k : ℕ) → suc k < length scopes → FollowsInText scopes k
  -- the last one is the instance of this number, or stands in it
  last : ℕ
  last_is : suc last ≡ length scopes
  round : IsRound scopes number last

read-first : (xs ys : List (Option ℕ)) → 0 < length xs → slice_index_or xs 0 None ≡ None → slice_index_or (xs ++ ys) 0 None ≡ None
read-first [] ys l h = absurd (omega (arith, l))
read-first (x ∷ xs) ys l h = h

-- an instance that stands in this one is placed
added : (number : ℕ) (scopes : List ScopeView) (s : ScopeView) → InText number scopes → number ≤ length scopes - 1 → s.parent ≡ Some number → InText (length scopes) (scopes ++ s ∷ [])
added number scopes s h low e = record {
  top = ap (λ (os : List (Option ℕ)). slice_index_or os 0 None) (map-append (λ (x : ScopeView). x.parent) scopes (s ∷ []))
      ∙ read-first (parents scopes) (parents (s ∷ [])) (subst (λ n. 0 < n) (sym (length-map scopes (λ (x : ScopeView). x.parent))) (omega (arith, last_is))) h.top;
  others = λ k l. by k (cases_lt (suc k) (length scopes)) l;
  last = length scopes;
  last_is = plus-one (length scopes) ∙ sym (length-append scopes (s ∷ []));
  round = itself;
}
  where
    last_is : suc h.last ≡ length scopes
    last_is = h.last_is

    plus-one : (n : ℕ) → suc n ≡ n + 1
    plus-one n = omega arith

    by : (k : ℕ) → (suc k < length scopes) ⊎ (length scopes ≤ suc k) → suc k < length (scopes ++ s ∷ []) → FollowsInText (scopes ++ s ∷ []) k
    by k (inl l) g = follows-more scopes (s ∷ []) k (h.others k l)
    by k (inr l) g =
        let len : length (scopes ++ s ∷ []) ≡ length scopes + 1 = length-append scopes (s ∷ []) in
        let at : length scopes ≡ suc k = omega (arith, l, g, len) in
        let same : h.last ≡ k = omega (arith, at, last_is) in
        record {
          parent = number;
          is = parent-last scopes s (suc k) at ∙ e;
          before = omega (arith, low, at);
          round = round-more scopes (s ∷ []) number k (subst (IsRound scopes number) same h.round);
        }

-- ---- the tree

-- the number of an instance, which is there, and whose parent this is
record Stood (number : ℕ) (scopes : List ScopeView) : Type 0 where
  there : number < length scopes
  text : InText number scopes

-- back from an instance to the one that it stands in
back : (number inside : ℕ) (scopes : List ScopeView) → parent_of scopes inside ≡ Some number → InText inside scopes → InText number scopes
back number inside scopes e h = record {
  top = h.top;
  others = h.others;
  last = h.last;
  last_is = h.last_is;
  round = round-on scopes number inside h.last (further_in inside number e itself) h.round;
}

mutual
  instance-stands : (i : Instance) (number : ℕ) (round : Placed) (label : List ℕ) (d : Numbered) → Stood number (views d.instances) → Stood number (views (with_instance (above_parts number round) label i d).instances)
  instance-stands (instance os turns parts) number round label d h =
      let p : Placed = placed_instance (above_parts number round) label d.nets (instance os turns parts) in
      let s : ScopeView = record { label = p.label; parent = p.parent } in
      let n : ℕ = length d.instances in
      let len : length (views d.instances) ≡ n = length-views d.instances in
      let there : number < length (views d.instances) = h.there in
      let text : InText n (views (d.instances ++ p ∷ [])) =
      subst (InText n) (sym (views-more d.instances p)) (subst (λ m. InText m (views d.instances ++ s ∷ [])) len (added number (views d.instances) s h.text (omega (arith, there)) refl)) in
      let parent : parent_of (views (d.instances ++ p ∷ [])) n ≡ Some number = ap (λ (ss : List ScopeView). parent_of ss n) (views-more d.instances p) ∙ parent-last (views d.instances) s n len in
      let inside = parts-stand parts n p (with_placed p d)
      (record { there = subst (λ m. n < m) (sym (length-views (d.instances ++ p ∷ []) ∙ length-append d.instances (p ∷ []))) (omega arith); text = text }) in
      let grown = parts_grow parts n p (with_placed p d) in
      let after : List ScopeView = views (with_parts n p parts (with_placed p d)).instances in
      let still : parent_of after n ≡ Some number = ap (λ (ps : List Placed). parent_of (views ps) n) grown.is ∙ ap (λ (ss : List ScopeView). parent_of ss n) (views-append (d.instances ++ p ∷ []) grown.more)
      ∙ parent-more (views (d.instances ++ p ∷ [])) (views grown.more) n number parent in
      let far : n < length after = inside.there in
      record { there = omega (arith, there, len, far); text = back number n after still inside.text }

  parts-stand : (ps : Parts) (number : ℕ) (round : Placed) (d : Numbered) → Stood number (views d.instances) → Stood number (views (with_parts number round ps d).instances)
  parts-stand no_parts number round d h = h
  parts-stand (process q rest) number round d h = parts-stand rest number round (with_process number round q d) h
  parts-stand (inner label i rest) number round d h = parts-stand rest number round (with_instance (above_parts number round) label i d) (instance-stands i number round label d h)

top-stands : (i : Instance) (name : List ℕ) → StandInText (views (with_instance above_top name i nothing_numbered).instances)
top-stands (instance os turns parts) name =
    let p : Placed = placed_instance above_top name 0 (instance os turns parts) in
    let s = parts-stand parts 0 p (with_placed p nothing_numbered) (record {
      there = omega arith;
      text = record { top = refl; others = λ k l. absurd (omega (arith, l)); last = 0; last_is = refl; round = itself };
    }) in
    record { some = s.there; top = s.text.top; others = s.text.others }

pub each-scope-follows : EachScopeFollows
unfolding elaborated_net numbered_design
each-scope-follows units top x e =
    let design = bound (expanded_design units top) _ x e in
    let w = accepted design.x x design.then_gave in
    subst (λ (y : Elaborated). StandInText (scope_views y.scopes)) w.is (top-stands design.x.top design.x.name)
