-- Bodies that copy: one assignment of one element of a net, as it is or by `not`.
use Rattle.std.specs.Prelude.{ℕ, Bool, true, false, [], ◌∷◌, Option, Some, None, if◌then◌else◌}
use Rattle.vhdl_values.specs.Scalar.{code_of, value_of_code}
use Rattle.vhdl_values.specs.Logic.{not_of}
use Rattle.rtl_model.specs.bodies.Body.{signal, inverse, elements, assign, Stmts, done, step}

pub record CopyPart : Type 0 where
  pub place : ℕ
  pub net : ℕ
  pub inverted : Bool

abbrev pub copying : Stmts → Option CopyPart
copying (step (assign (place ∷ []) (elements (signal (net ∷ [])))) done) =
    Some (record { place = place; net = net; inverted = false })
copying (step (assign (place ∷ []) (elements (inverse (signal (net ∷ []))))) done) =
    Some (record { place = place; net = net; inverted = true })
copying _ = None

-- what becomes of a value that is copied
abbrev pub passed_on : (inverted : Bool) → ℕ → ℕ
passed_on inverted value = code_of (if inverted then not_of (value_of_code value) else value_of_code value)
