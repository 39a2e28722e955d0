-- Files that aren't read.
use Rattle.std.proofs.Common.{◌≡◌, ◌⊎◌, ℕ, List, Option, Err, inl, inr, sym, subst, ◌∙◌}
use Rattle.byte_streams.specs.Read.{ReaderState}
use Rattle.rtlsim.specs.Inputs.{GivesFile, GivesWhole, IsEndless, IsTooLong}
use Rattle.rtlsim.specs.declared.inputs.InputFault.{InputFault}
use Rattle.rtlsim.specs.declared.inputs.InputFault.TheVariants.{Failed}
use Rattle.rtlsim.specs.declared.problem.InputProblem.{InputProblem}
use Rattle.rtlsim.specs.declared.problem.InputProblem.TheVariants.{Folder, TooLong, Endless}

module _ {File : Type 0} (remaining : File → Option (List ℕ)) (file : File) (old new : ReaderState) (left : old.left ≡ remaining file) where
  of_whole : (problem : InputProblem) → GivesWhole old new (Err problem) → GivesFile remaining (Err problem)
  of_whole TooLong h = (file, subst IsTooLong left h)
  of_whole Endless h = (file, subst IsEndless left h)
  of_whole _ h = tt

  -- a file that is opened fails as its reader does, or is a folder
  pub file_fails : (fault told : InputFault) → ((problem : InputProblem) → fault ≡ Failed problem → GivesWhole old new (Err problem))
      → (told ≡ fault) ⊎ (told ≡ Failed Folder) → (problem : InputProblem) → told ≡ Failed problem → GivesFile remaining (Err problem)
  file_fails fault told fails (inl same) problem is = of_whole problem (fails problem (sym same ∙ is))
  file_fails fault told fails (inr folder) problem is =
      let one : Folder ≡ problem = cc in subst (λ (p : InputProblem). GivesFile remaining (Err p)) one tt
