use Rattle.llama_main.proofs.Feeds.{feed-found}
use Rattle.llama_main.proofs.session.line_end.Goals as goal

pub returns : goal.returns
returns c = feed-found c.args.bytes.now c.memchr.result c.memchr.ensures
