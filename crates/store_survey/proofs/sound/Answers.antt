use mathlib.Core.Path.{ap, ◌∙◌}
use Rattle.std.specs.Result.{is_ok}
use Rattle.file_codec.specs.File.{limit}
use Rattle.store_survey.proofs.Reader.{sound_same}
use Rattle.store_survey.specs.Inner.{sound_of}
use Rattle.store_survey.proofs.sound.Goals as goal

pub returns : goal.returns
unfolding sound_of
returns c = c.is_ok.ensures.value ∙ ap is_ok c.judge.ensures.result ∙ sound_same limit c.args.letter c.args.file.now
