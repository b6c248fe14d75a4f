use Rattle.std.proofs.Common.{refl}
use Rattle.std.specs.Fmt.{digits}
use Rattle.lama_model.specs.Journal.{reply_to_write, reply_at, after, standing}
use Rattle.lama_model.specs.Script.{lines, words, number, read_of, command_of, meaning}
use Rattle.lama_model.specs.Levels.{levels}
use Rattle.lama_model.specs.Labels.{labels}
use Rattle.lama_model.specs.Degrees.{out_degrees}
use Rattle.lama_model.specs.Ranks.{ranks}
use Rattle.lama_model.specs.Lines.{refusal_line, reply_line, degrees_line, levels_text, labels_text, ranks_text, last_line}
use Rattle.lama_model.specs.Text.{read_lines, text}
use Rattle.lama_model.proofs.examples.analyses.Goals as goal

pub returns : goal.returns
unfolding digits reply_to_write reply_at after standing lines words number read_of command_of meaning refusal_line reply_line levels labels out_degrees ranks degrees_line levels_text labels_text ranks_text last_line read_lines text
returns c = record { path = refl; ways = refl; shorter = refl; ranks = refl; thirds = refl; degrees = refl }
