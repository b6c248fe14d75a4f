use Rattle.lama_script.proofs.Words.{words-tells}
use Rattle.lama_script.proofs.grammar.is_end.Goals as goal

pub returns : goal.returns
returns c = words-tells c.args.args.now c.word_start.result c.is_none.result c.word_start.ensures c.is_none.ensures
