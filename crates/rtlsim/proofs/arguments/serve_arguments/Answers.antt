use Rattle.std.proofs.Common.{Some, None, map, refl, string_bytes}
use Rattle.rtlsim.proofs.Refusing.{refuses_for}
use Rattle.rtlsim.proofs.arguments.serve_arguments.Goals as goal

pub returns-in-Ok : goal.returns-in-Ok
returns-in-Ok g c = (Some (map string_bytes c.deref.result.now), c.serve_words.ensures)

pub returns-in-Err : goal.returns-in-Err
returns-in-Err g c = (None, (refuses_for (λ _. tt) c.refuse_words.ensures, refl))
