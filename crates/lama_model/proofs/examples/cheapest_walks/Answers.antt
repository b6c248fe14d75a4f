use Rattle.std.proofs.Common.{refl}
use Rattle.std.specs.Fmt.{digits}
use Rattle.lama_model.specs.Journal.{reply_to_write, reply_at, after, standing}
use Rattle.lama_model.specs.Script.{lines, words, number, read_of, command_of, meaning}
use Rattle.lama_model.specs.Distances.{distances}
use Rattle.lama_model.specs.Lines.{refusal_line, reply_line, distances_text, last_line}
use Rattle.lama_model.specs.Text.{read_lines, text}
use Rattle.lama_model.proofs.examples.cheapest_walks.Goals as goal

pub returns : goal.returns
unfolding digits reply_to_write reply_at after standing lines words number read_of command_of meaning refusal_line reply_line distances distances_text last_line read_lines text
returns c = record { hours = refl; parents = refl; wide = refl }
