use Rattle.lama_script.proofs.Scripts.{parsed-whole}
use Rattle.lama_script.proofs.parser.parses_scripts.Goals as goal

pub returns : goal.returns
returns c = parsed-whole 0
