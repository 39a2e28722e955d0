use Rattle.std.proofs.Common.{refl, ap, ◌∙◌}
use Rattle.std.proofs.lemmas.Str.Ascii.{trim_ascii_is}
use Rattle.vhdl_source_files.specs.Listed.{without_end, without_front}
use Rattle.vhdl_source_files.proofs.listing.name_in.Goals as goal

pub returns : goal.returns
returns c = trim_ascii_is c.before_comment.result.now _ _ refl c.trim_ascii.ensures.value ∙ ap (λ line. without_end (without_front line)) c.before_comment.ensures
