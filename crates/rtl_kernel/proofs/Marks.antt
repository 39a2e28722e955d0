-- Marks: a list without one, and what one more does.
use Rattle.std.proofs.Common.{◌≡◌, ℕ, suc, Bool, true, false, List, [], ◌∷◌, ◌++◌, length, get_or, replicate, refl, sym, ap, ◌⊎◌, inl, inr}
use Rattle.std.specs.Prelude.{Contains}
use Rattle.std.proofs.lemmas.Bool.{false_from_ne_true}
use Rattle.std.proofs.lemmas.List.Elements.{Contains-push, Contains-append_left, Contains-push_cases}
use Rattle.rtl_kernel.specs.worklists.Numbers.{Numbers, IsWith}

pub no_mark : (marks : List Bool) → ((place : ℕ) → get_or marks place false ≡ true → ⊥) → marks ≡ replicate (length marks) false
no_mark [] h = refl
no_mark (b ∷ marks) h = rw (false_from_ne_true b (h 0)) (ap (λ bs. false ∷ bs) (no_mark marks (λ place. h (suc place))))

-- a number that is pushed
pub with_pushed : (old new : Numbers) (number : ℕ) → new.bound ≡ old.bound → new.members ≡ old.members ++ number ∷ [] → IsWith number old new
with_pushed old new number bound members = record {
  bound_stays = bound;
  kept = λ n h. rw members (Contains-append_left old.members (number ∷ []) n h);
  added = rw members (Contains-push old.members number);
  no_other = λ n h. by n (Contains-push_cases old.members number n (rw members at h));
}
  where
    by : (n : ℕ) → Contains old.members n ⊎ (number ≡ n) → Contains old.members n ⊎ (n ≡ number)
    by n (inl h) = inl h
    by n (inr e) = inr (sym e)

-- a number that is there
pub with_member : (old : Numbers) (number : ℕ) → Contains old.members number → IsWith number old old
with_member old number there = record { bound_stays = refl; kept = λ n h. h; added = there; no_other = λ n h. inl h }
