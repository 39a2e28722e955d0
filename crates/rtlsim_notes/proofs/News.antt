-- Notes that are kept, by the first of those that are left.
use Rattle.std.proofs.Common.{◌≡◌, Bool, true, false, List, [], ◌∷◌, ◌++◌, append-nil, append_assoc, sym, ap}
use Rattle.std.specs.List.{list_any}
use Rattle.rtlsim_findings.specs.Once.{each_new}

module _ {A : Type 0} (alike : A → A → Bool) (kept : List A) (x : A) (xs : List A) where
  -- one like it is kept
  pub not_new : list_any (alike x) kept ≡ true → kept ++ each_new alike kept xs ≡ kept ++ each_new alike kept (x ∷ xs)
  not_new so = rw so (ap (λ before. kept ++ each_new alike before xs) (sym (append-nil kept)))

  pub is_new : list_any (alike x) kept ≡ false
      → (kept ++ x ∷ []) ++ each_new alike (kept ++ x ∷ []) xs ≡ kept ++ each_new alike kept (x ∷ xs)
  is_new not_so = rw not_so (append_assoc kept (x ∷ []) (each_new alike (kept ++ x ∷ []) xs))
