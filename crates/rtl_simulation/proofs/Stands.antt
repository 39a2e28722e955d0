-- What a watch is told, moment by moment.
use Rattle.std.proofs.Common.{◌≡◌, ℕ, zero, suc, ◌+◌, ◌<◌, ◌≤◌, ◌⊎◌, List, [], ◌∷◌, ◌++◌, length, Some, inl, inr, refl, sym, ap, subst, ◌∙◌, ⊎_elim, arith}
use Rattle.std.specs.Prelude.{slice_get, slice_index_or}
use Rattle.rtl_net.specs.Nets.{NetlistView}
use Rattle.rtl_agenda.specs.Agenda.{Change}
use Rattle.rtl_stim.specs.Moments.{GivesNext}
use Rattle.rtl_stim.specs.Stimuli.{StimulusView, moments}
use Rattle.byte_streams.specs.Stands.{Stand}
use Rattle.rtl_simulation.specs.Engines.{CourseView, ComesTo}
use Rattle.rtl_simulation.specs.Watched.{until_of, StandsFrom, IsToldAll, IsToldFirst}

abbrev no_stand : List Stand
no_stand = []

-- what stands in a list with one more is of the list, or that one
pub at_end : {A : Type 0} (xs : List A) (y : A) (m : ℕ) (x : A) → slice_get (xs ++ y ∷ []) m ≡ Some x → (slice_get xs m ≡ Some x) ⊎ ((m ≡ length xs) × (x ≡ y))
at_end [] y zero x is = inr (refl, cc)
at_end [] y (suc m) x is = cc
at_end (z ∷ xs) y zero x is = inl is
at_end (z ∷ xs) y (suc m) x is = ⊎_elim (λ h. inl h) (λ h. inr (ap suc h.0, h.1)) (at_end xs y m x is)

pub one_more : {A : Type 0} (xs : List A) (y : A) → length (xs ++ y ∷ []) ≡ suc (length xs)
one_more [] y = refl
one_more (x ∷ xs) y = ap suc (one_more xs y)

-- ---- what was told so far

-- so it is at each place of the list
abbrev pub Each : (At : ℕ → Stand → Type 0) → List Stand → Type 0
Each At stands = (m : ℕ) (x : Stand) → slice_get stands m ≡ Some x → At m x

-- what stands at each of the first m moments was told, in order
pub record HasHeard (At : ℕ → Stand → Type 0) (Told : List Stand → Type 0) (m : ℕ) : Type 0 where
  pub stands : List Stand
  pub are : Each At stands
  pub many : length stands ≡ m
  pub told : Told stands

module _ (At : ℕ → Stand → Type 0) where
  pub each_none : Each At []
  each_none m x is = absurd (none m is)
    where
      none : (k : ℕ) → slice_get no_stand k ≡ Some x → ⊥
      none k there = cc

  pub hears_nothing : (Told : List Stand → Type 0) → Told [] → HasHeard At Told 0
  hears_nothing Told told = record { stands = []; are = each_none; many = refl; told = told }

  pub hears_more : (Told Then : List Stand → Type 0) (m : ℕ) (x : Stand) → HasHeard At Told m → At m x → ((stands : List Stand) → Told stands → Then (stands ++ x ∷ []))
      → HasHeard At Then (suc m)
  hears_more Told Then m x H here tells = record {
    stands = H.stands ++ x ∷ [];
    are = λ k y is. ⊎_elim (λ h. H.are k y h) (λ h. subst (λ (z : Stand). At k z) (sym h.1) (subst (λ (n : ℕ). At n x) (sym (h.0 ∙ H.many)) here)) (at_end H.stands x k y is);
    many = one_more H.stands x ∙ ap suc H.many;
    told = tells H.stands H.told;
  }

  -- while nothing more is told
  pub hears_on : (Told Then : List Stand → Type 0) (m : ℕ) → HasHeard At Told m → ((stands : List Stand) → Told stands → Then stands) → HasHeard At Then m
  hears_on Told Then m H still = record { stands = H.stands; are = H.are; many = H.many; told = still H.stands H.told }

-- ---- until when

any_default : (ts : List ℕ) (m d e : ℕ) → m < length ts → slice_index_or ts m d ≡ slice_index_or ts m e
any_default [] m d e there = absurd (omega (arith, there))
any_default (t ∷ ts) zero d e there = refl
any_default (t ∷ ts) (suc m) d e there = any_default ts m d e (omega (arith, there))

past_end : (ts : List ℕ) (m d : ℕ) → m ≡ length ts → slice_index_or ts m d ≡ d
past_end [] m d is = ap (λ (k : ℕ). slice_index_or [] k d) is
past_end (t ∷ ts) zero d is = absurd (omega (arith, is))
past_end (t ∷ ts) (suc m) d is = past_end ts m d (omega (arith, is))

one_behind : (stop : ℕ) → stop + 1 ≡ suc stop
one_behind stop = omega arith

pub until_next : (s : StimulusView) (m time : ℕ) (changes : List Change) → GivesNext s m time changes → time ≡ until_of s m
until_next s m time changes next = sym (any_default (moments s) (suc m) (suc s.schedule.stop) 0 next.there ∙ next.is)

pub until_end : (s : StimulusView) (m stop : ℕ) → stop ≡ s.schedule.stop → suc m ≡ length (moments s) → stop + 1 ≡ until_of s m
until_end s m stop is all =
    ap (λ (t : ℕ). t + 1) is ∙ one_behind s.schedule.stop ∙ sym (past_end (moments s) (suc m) (suc s.schedule.stop) all)

-- ---- of a simulation

pub stands_from : (r : CourseView) (m until : ℕ) (values : List ℕ) → ComesTo r m values → until ≡ until_of r.stimulus m
    → StandsFrom r.net r.stimulus m (record { values = values; until = until })
stands_from r m until values C is = record { deltas = C.deltas; state = C.settles.state; settled = C.settles.settled; values = C.settles.values; until = is }

module _ (net : NetlistView) (s : StimulusView) where
  pub heard_all : (Told : List Stand → Type 0) (m : ℕ) → HasHeard (StandsFrom net s) Told m → m ≡ length (moments s) → IsToldAll net s Told
  heard_all Told m H all = record { stands = H.stands; are = H.are; all = H.many ∙ all; told = H.told }

  pub heard_first : (Told : List Stand → Type 0) (m : ℕ) → HasHeard (StandsFrom net s) Told m → m ≤ length (moments s) → IsToldFirst net s Told
  heard_first Told m H there = record { stands = H.stands; are = H.are; there = let many = H.many in omega (arith, many, there); told = H.told }

  pub told_nothing : (Told : List Stand → Type 0) → Told [] → IsToldFirst net s Told
  told_nothing Told told = heard_first Told 0 (hears_nothing (StandsFrom net s) Told told) (omega arith)
