-- Hubs that grow, and what looks denote in them.
use Rattle.std.proofs.Common.{◌≡◌, ℕ, ◌+◌, Bool, true, false, ◌||◌, ◌==◌, List, [], ◌∷◌, ◌++◌, length, get_or, flat_map, Option, Some, None, refl, sym, ap, ◌∙◌, subst, arith}
use Rattle.std.proofs.lemmas.List.{length-append, get_or_append_left, get_or_at}
use Rattle.std.proofs.lemmas.List.Folds.{list_any-append}
use Rattle.std.proofs.lemmas.List.Concat.{flat_map-append}
use Rattle.rtl_model.specs.bodies.Looks.{Sight, now_of}
use Rattle.rtl_body_facts.specs.Reading.{is_in}
use Rattle.rtl_body_facts.proofs.Anys.{or_none}
use Rattle.rtl_looks.specs.declared.hubs.Look.{Look}
use Rattle.rtl_looks.specs.declared.hubs.Look.TheVariants as l
use Rattle.rtl_looks.specs.declared.hubs.Hub.{Hub}
use Rattle.rtl_looks.specs.Denoting.{nets_by, nets_behind, nets_of, IsBelow, InOrderFrom, AreInOrder, IsThere, Grows, sees, looks_at, Denotes}
use Rattle.rtl_looks.specs.Evaluating.{Joins}

-- ---- one hub more

nets_push : (known : List (List ℕ)) (hubs : List Hub) (h : Hub) → nets_behind known (hubs ++ h ∷ [])
    ≡ nets_behind known hubs ++ (nets_by (nets_behind known hubs) h.left ++ nets_by (nets_behind known hubs) h.right) ∷ []
nets_push known [] h = refl
nets_push known (x ∷ xs) h = nets_push (known ++ (nets_by known x.left ++ nets_by known x.right) ∷ []) xs h

length_behind : (known : List (List ℕ)) (hubs : List Hub) → length (nets_behind known hubs) ≡ length known + length hubs
length_behind known [] = omega arith
length_behind known (x ∷ xs) =
    let y = nets_by known x.left ++ nets_by known x.right in
    let long = length_behind (known ++ y ∷ []) xs in
    let one = length-append known (y ∷ []) in
    omega arith

order_push : (n m : ℕ) (hubs : List Hub) (h : Hub) → m ≡ n + length hubs → InOrderFrom n hubs → IsBelow m h.left → IsBelow m h.right
    → InOrderFrom n (hubs ++ h ∷ [])
order_push n m [] h e o a b =
    let same : m ≡ n = omega arith in
    (subst (λ (i : ℕ). IsBelow i h.left) same a, subst (λ (i : ℕ). IsBelow i h.right) same b, tt)
order_push n m (x ∷ xs) h e o a b = (o.0, o.1, order_push (n + 1) m xs h (omega arith) o.2 a b)

module _ (hubs : List Hub) (h : Hub) where
  kept_by : (look : Look) → IsBelow (length hubs) look → nets_by (nets_behind [] (hubs ++ h ∷ [])) look ≡ nets_by (nets_behind [] hubs) look
  kept_by (l.Net n) there = refl
  kept_by (l.Hub k) there =
      let long = length_behind [] hubs in
      ap (λ (b : List (List ℕ)). get_or b k []) (nets_push [] hubs h) ∙ get_or_append_left (nets_behind [] hubs) _ [] k (omega arith)

  kept : (look : Option Look) → IsThere hubs look → nets_of (hubs ++ h ∷ []) look ≡ nets_of hubs look
  kept None there = refl
  kept (Some look) there = kept_by look there

  grows_push : Grows hubs (hubs ++ h ∷ [])
  grows_push = let long = length-append hubs (h ∷ []) in record { longer = omega arith; kept = kept }

  nets_pushed : nets_of (hubs ++ h ∷ []) (Some (l.Hub (length hubs))) ≡ nets_of hubs (Some h.left) ++ nets_of hubs (Some h.right)
  nets_pushed =
      let long = length_behind [] hubs in
      ap (λ (b : List (List ℕ)). get_or b (length hubs) []) (nets_push [] hubs h) ∙ get_or_at (nets_behind [] hubs) _ [] [] (length hubs) (omega arith)

-- ---- hubs that grow

pub grows_none : (hubs : List Hub) → Grows hubs hubs
grows_none hubs = record { longer = omega arith; kept = λ look there. refl }

pub there_later : {old new : List Hub} → Grows old new → (look : Option Look) → IsThere old look → IsThere new look
there_later g None there = tt
there_later g (Some (l.Net n)) there = tt
there_later g (Some (l.Hub k)) there = let long = g.longer in omega arith

pub grows_then : {a b c : List Hub} → Grows a b → Grows b c → Grows a c
grows_then g k = record {
  longer = let x = g.longer in let y = k.longer in omega arith;
  kept = λ look there. k.kept look (there_later g look there) ∙ g.kept look there;
}

pub later : {old new : List Hub} {look : Option Look} {sights : List Sight} → Grows old new → AreInOrder new → Denotes old look sights → Denotes new look sights
later {look} g order d = record {
  order = order;
  there = there_later g look d.there;
  nets = λ n. ap (is_in n) (g.kept look d.there) ∙ d.nets n;
}

-- the same look, and sights with the same nets
pub alike : {hubs : List Hub} {look : Option Look} {sights : List Sight} (others : List Sight) → ((n : ℕ) → sees n sights ≡ sees n others)
    → Denotes hubs look sights → Denotes hubs look others
alike others same d = record { order = d.order; there = d.there; nets = λ n. d.nets n ∙ same n }

pub nothing : {hubs : List Hub} → AreInOrder hubs → Denotes hubs None []
nothing order = record { order = order; there = tt; nets = λ n. refl }

-- ---- looks joined

pub sees_append : (n : ℕ) (ls rs : List Sight) → sees n (ls ++ rs) ≡ (sees n ls || sees n rs)
sees_append n ls rs = ap (is_in n) (flat_map-append now_of ls rs) ∙ list_any-append (λ m. m == n) (flat_map now_of ls) (flat_map now_of rs)

pub no_left : (hubs : List Hub) (look : Option Look) → Joins hubs hubs None look look
no_left hubs look = record {
  grows = grows_none hubs;
  denotes = λ ls rs a b. record {
    order = b.order;
    there = b.there;
    nets = λ n. b.nets n ∙ (ap (λ (c : Bool). c || sees n rs) (a.nets n) ∙ sym (sees_append n ls rs));
  };
}

pub no_right : (hubs : List Hub) (look : Option Look) → Joins hubs hubs look None look
no_right hubs look = record {
  grows = grows_none hubs;
  denotes = λ ls rs a b. record {
    order = a.order;
    there = a.there;
    nets = λ n. or_none (looks_at hubs n look) ∙ (ap (λ (c : Bool). looks_at hubs n look || c) (b.nets n)
        ∙ (ap (λ (c : Bool). c || sees n rs) (a.nets n) ∙ sym (sees_append n ls rs)));
  };
}

pub alone : (hubs : List Hub) (look : Option Look) → Joins hubs hubs look look look
alone hubs look = record {
  grows = grows_none hubs;
  denotes = λ ls rs a b. record {
    order = a.order;
    there = a.there;
    nets = λ n. twice (looks_at hubs n look) ∙ (ap (λ (c : Bool). looks_at hubs n look || c) (b.nets n)
        ∙ (ap (λ (c : Bool). c || sees n rs) (a.nets n) ∙ sym (sees_append n ls rs)));
  };
}
  where
    twice : (c : Bool) → c ≡ (c || c)
    twice true = refl
    twice false = refl

pub both : (hubs new : List Hub) (left right : Look) → new ≡ hubs ++ (record { left = left; right = right }) ∷ []
    → Joins hubs new (Some left) (Some right) (Some (l.Hub (length hubs)))
both hubs new left right is = subst (λ (hs : List Hub). Joins hubs hs (Some left) (Some right) (Some (l.Hub (length hubs)))) (sym is) joined
  where
    h : Hub
    h = record { left = left; right = right }

    joined : Joins hubs (hubs ++ h ∷ []) (Some left) (Some right) (Some (l.Hub (length hubs)))
    joined = record {
      grows = grows_push hubs h;
      denotes = λ ls rs a b. record {
        order = order_push 0 (length hubs) hubs h (omega arith) a.order a.there b.there;
        there = let long = length-append hubs (h ∷ []) in omega arith;
        nets = λ n. ap (is_in n) (nets_pushed hubs h) ∙ (list_any-append (λ m. m == n) (nets_of hubs (Some left)) (nets_of hubs (Some right))
            ∙ (ap (λ (c : Bool). c || looks_at hubs n (Some right)) (a.nets n) ∙ (ap (λ (c : Bool). sees n ls || c) (b.nets n) ∙ sym (sees_append n ls rs))));
      };
    }
