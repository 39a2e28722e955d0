-- A new buffer before a writer.
use Rattle.std.proofs.Common.{◌≡◌, ℕ, Bool, false, List, [], Option, Some, None, append-nil, ap, refl, ◌∙◌}
use Rattle.std.specs.Io.KnownBytes.{append_known}
use Rattle.byte_streams.specs.Written.{SinkState}
use Rattle.rtlsim.specs.Streams.{fresh}

-- no bytes behind the known ones
pub append_none : (known : Option (List ℕ)) → append_known known [] ≡ known
append_none None = refl
append_none (Some xs) = ap Some (append-nil xs)

-- a sink over an empty buffer has what the writer holds
pub is_fresh : {W : Type 0} (contents : W → Option (List ℕ)) (inner writer : W) (buffer : List ℕ) (taken : Option (List ℕ)) (failed : Bool) →
    taken ≡ append_known (contents inner) buffer → inner ≡ writer → buffer ≡ [] → failed ≡ false →
    ◌≡◌ {A = SinkState} (record { taken = taken; failed = failed }) (fresh (contents writer))
is_fresh contents inner writer buffer taken failed bytes same empty intact =
    let holds : taken ≡ contents writer = bytes ∙ ap (λ w. append_known (contents w) buffer) same ∙ ap (append_known (contents writer)) empty ∙ append_none (contents writer) in
    rw (holds, intact) refl
