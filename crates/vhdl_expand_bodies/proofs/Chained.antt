-- A chain of operators, one operator after another.
use Rattle.std.proofs.Common.{◌≡◌, ℕ, ◌<◌, List, [], ◌∷◌, length, get_or, drop, ◌+◌, Ok, Err, refl, sym, ap, ◌∙◌, subst}
use Rattle.vhdl_expand_rules.specs.Elab.{Elab, ◌>>=◌, Told}
use Rattle.vhdl_expand_rules.proofs.Chains.{bind-assoc, err_first}
use Rattle.vhdl_expand_rules.proofs.Items.{next_left}
use Rattle.vhdl_expand_bodies.specs.steps.Chains.{chained}

module _ {D K : Type 0} (linked : D → K → Elab D) where
  -- one more
  pub next_goes : (whole : Elab D) (now new : D) (ks : List K) (i : ℕ) (k : K) → i < length ks → k ≡ get_or ks i k
      → whole ≡ chained linked now (drop i ks) → linked now k ≡ Ok new → whole ≡ chained linked new (drop (i + 1) ks)
  next_goes whole now new ks i k below is so_far h =
      so_far ∙ ap (λ left. chained linked now left) (next_left ks i k below is) ∙ ap (λ r. r >>= λ d. chained linked d (drop (i + 1) ks)) h

  -- one that is refused
  pub next_stops : {told : Told} (whole : Elab D) (now : D) (ks : List K) (i : ℕ) (k : K) → i < length ks → k ≡ get_or ks i k
      → whole ≡ chained linked now (drop i ks) → linked now k ≡ Err told → whole ≡ Err told
  next_stops {told} whole now ks i k below is so_far h =
      subst (λ (r : Elab D). r ≡ Err told) (sym (so_far ∙ ap (λ left. chained linked now left) (next_left ks i k below is))) (err_first (linked now k) _ h)

  -- ---- what is grouped from the left, and means this

  pub last-ok : (r : Elab D) → r ≡ (r >>= λ d. Ok d)
  last-ok (Ok x) = refl
  last-ok (Err p) = refl

  module _ {X : Type 0} (meant : X → Elab D) (with_link : X → K → X) (grouped : X → List K → X) (none : (x : X) → grouped x [] ≡ x) (more : (x : X) (k : K) (ks : List K) → grouped x (k ∷ ks) ≡ grouped (with_link x k) ks)
      (one : (x : X) (k : K) → meant (with_link x k) ≡ (meant x >>= λ d. linked d k)) where
    grouped-is : (x : X) (ks : List K) → meant (grouped x ks) ≡ (meant x >>= λ d. chained linked d ks)
    grouped-is x [] = ap meant (none x) ∙ last-ok (meant x)
    grouped-is x (k ∷ ks) = ap meant (more x k ks) ∙ grouped-is (with_link x k) ks ∙ ap (λ r. r >>= λ d. chained linked d ks) (one x k)
        ∙ bind-assoc (meant x) (λ d. linked d k) (λ d. chained linked d ks)

    -- a first operand with its link, and further ones
    pub chain_of : {S : Type 0} (first : S → X) (link : S → K) (whole : Elab D) (begin start : S) (items ks : List K) → whole ≡ meant (grouped (with_link (first begin) (link begin)) items) → start ≡ begin → ks ≡ items
        → whole ≡ ((meant (first start) >>= λ d. linked d (link start)) >>= λ d. chained linked d ks)
    chain_of {S} first link whole begin start items ks is same all =
        is ∙ ap (λ (s : S). meant (grouped (with_link (first s) (link s)) items)) (sym same) ∙ ap (λ xs. meant (grouped (with_link (first start) (link start)) xs)) (sym all)
        ∙ grouped-is (with_link (first start) (link start)) ks ∙ ap (λ r. r >>= λ d. chained linked d ks) (one (first start) (link start))

  -- ---- where the start is given, or refused

  pub chain_goes : (whole started : Elab D) (ks : List K) (d : D) → whole ≡ (started >>= λ d. chained linked d ks) → started ≡ Ok d → whole ≡ chained linked d ks
  chain_goes whole started ks d is given = is ∙ ap (λ r. r >>= λ d. chained linked d ks) given

  pub chain_stops : {told : Told} (whole started : Elab D) (ks : List K) → whole ≡ (started >>= λ d. chained linked d ks) → started ≡ Err told → whole ≡ Err told
  chain_stops {told} whole started ks is given = subst (λ (r : Elab D). r ≡ Err told) (sym is) (err_first started _ given)

  pub more_stops : {told : Told} (whole started : Elab D) (ks : List K) (d : D) → whole ≡ (started >>= λ d. chained linked d ks) → started ≡ Ok d → chained linked d ks ≡ Err told → whole ≡ Err told
  more_stops whole started ks d is given stopped = chain_goes whole started ks d is given ∙ stopped
