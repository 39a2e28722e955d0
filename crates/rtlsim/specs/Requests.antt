-- What is read for a call.
use Rattle.std.specs.Prelude.{◌≡◌, ℕ, List, [], ◌∷◌, ◌++◌, Option, Some, None, Ok, Err, codes}
use Rattle.rtlsim.specs.Inputs.{Reading}
use Rattle.rtlsim.specs.Reads.{Given, GivesAll, GivesMain, GivesMaybe, GivesOne, Made, Then, ThenBy, Without}
use Rattle.rtlsim.specs.declared.problem.InputProblem.TheVariants.{NoList}
use Rattle.vhdl_source_files.specs.Files.{FileView}
use Rattle.vhdl_source_files.specs.Listed.{IsList, listed}
use Rattle.rtlsim_command_line.specs.Words.{CallView}

-- what stands for the name of a stimulus where there is none
abbrev pub set_form : List ℕ
set_form = codes "NAME=VALUE"

-- what was read: the files of the source in order, the text of the stimulus, which is empty where there is none, and
-- that of what is expected
pub record TextsView : Type 0 where
  pub files : List FileView
  pub stimulus : List ℕ
  pub expected : Option (List ℕ)

-- of the files before the source's, of that with the stimulus, and of the file of what is expected
abbrev pub texts : (file : List ℕ) → List FileView × ((List ℕ × List ℕ) × Option (List ℕ)) → TextsView
texts file read = record {
  files = read.0 ++ record { name = file; text = read.1.0.0 } ∷ [];
  stimulus = read.1.0.1;
  expected = read.1.1;
}

-- the names of a source's files in order: those before the last, and the last
pub record Sources : Type 0 where
  pub before : List (List ℕ)
  pub last : List ℕ

-- the text of a list gives them, or it is no list
abbrev pub IsListed : (list text : List ℕ) → Given Sources
IsListed list text old new (Ok s) = (listed list text ≡ s.before ++ s.last ∷ []) × (new ≡ old)
IsListed list text old new (Err unread) =
    (¬ (IsList (listed list text))) × (unread ≡ record { name = list; problem = NoList }) × (new ≡ old)

module _ (Gives : Reading) where
  -- of a list, or else of a call
  abbrev pub GivesSources : CallView → (list : Option (List ℕ)) → Given Sources
  GivesSources call None = Without (record { before = call.with; last = call.file })
  GivesSources call (Some list) = ThenBy (GivesOne Gives list) (IsListed list)

  -- the files before the source's, that with the source, the stimulus, and the file of what is expected
  abbrev pub GivesFiles : CallView → Sources → Given TextsView
  GivesFiles call s =
      Made (texts s.last)
      (Then (GivesAll Gives s.before) (Then (GivesMain Gives s.last call.stimulus) (GivesMaybe Gives call.expected)))

-- The files of a call, in the order in which they are read: a list, if there is one, and then those that it names.
abbrev pub GivesTexts : Reading → CallView → Given TextsView
GivesTexts Gives call = ThenBy (GivesSources Gives call call.list) (GivesFiles Gives call)
