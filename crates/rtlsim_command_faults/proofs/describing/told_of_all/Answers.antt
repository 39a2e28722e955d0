use Rattle.std.proofs.Common.{List, [], ◌∷◌, ◌++◌, map, ap, ◌∙◌}
use Rattle.rtlsim_refusals.specs.Explained.{told_view}
use Rattle.rtlsim_refusals.specs.declared.told.Told.{Told}
use Rattle.rtlsim_command_faults.proofs.describing.told_of_all.Goals as goal

pub returns : goal.returns
returns g c =
    let adds = c.find_further.ensures in
    let one = c.in-Some.one in
    let pushed = c.in_ok-push.ensures.items ∙ ap (λ (ts : List Told). ts ++ one ∷ []) c.new-told.ensures.items in
    record {
      first = told_view one;
      is = rw c.in-Some.is at c.in_ok-one.ensures;
      found = adds.found;
      behind = adds.is;
      whole = λ none. c.in_default-find_further.not-NoMemory (adds.ends ∙ none);
      are = adds.grown ∙ ap (λ (ts : List Told). map told_view ts ++ adds.found.told) pushed;
    }
