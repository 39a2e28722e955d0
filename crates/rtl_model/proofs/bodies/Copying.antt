-- A copying body passes on the element that it copies.
use Rattle.std.proofs.Common.{◌≡◌, ◌==◌, ℕ, true, false, [], ◌∷◌, Some, None, refl, subst, slice_index}
use Rattle.std.proofs.lemmas.Bool.{cond-true, eq-eqb}
use Rattle.rtl_model.specs.bodies.Body.{Value, signal, inverse, elements, assign, Stmts, done, step}
use Rattle.rtl_model.specs.bodies.Values.{Seen, value_of}
use Rattle.rtl_model.specs.bodies.Effect.{effect}
use Rattle.rtl_model.specs.bodies.Copies.{CopyPart, passed_on}
use Rattle.rtl_model.specs.bodies.Laws.{EachCopyPasses}

module _ (seen : Seen) where
  one_assigned : (place : ℕ) (v : Value) → effect seen (step (assign (place ∷ []) v) done) place ≡ Some (slice_index (value_of seen v) 0)
  one_assigned place v = cond-true (place == place) (Some (slice_index (value_of seen v) 0)) None (eq-eqb place place refl)

  passes : (body : Stmts) (part copy : CopyPart) → Some part ≡ Some copy → effect seen body part.place ≡ Some (passed_on part.inverted (slice_index seen.now part.net))
      → effect seen body copy.place ≡ Some (passed_on copy.inverted (slice_index seen.now copy.net))
  passes body part copy e h =
      let same : part ≡ copy = cc in
      subst (λ (c : CopyPart). effect seen body c.place ≡ Some (passed_on c.inverted (slice_index seen.now c.net))) same h

pub each_copy_passes : EachCopyPasses
each_copy_passes (step (assign (place ∷ []) (elements (signal (net ∷ [])))) done) copy seen h =
    passes seen (step (assign (place ∷ []) (elements (signal (net ∷ [])))) done) (record { place = place; net = net; inverted = false }) copy h (one_assigned seen place (elements (signal (net ∷ []))))
each_copy_passes (step (assign (place ∷ []) (elements (inverse (signal (net ∷ []))))) done) copy seen h =
    passes seen (step (assign (place ∷ []) (elements (inverse (signal (net ∷ []))))) done) (record { place = place; net = net; inverted = true }) copy h (one_assigned seen place (elements (inverse (signal (net ∷ [])))))
each_copy_passes body copy seen h = absurd cc
