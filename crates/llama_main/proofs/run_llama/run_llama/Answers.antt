use Rattle.std.proofs.Common.{ap}
use Rattle.llama_main.specs.Words.{workers_of, bytes_of}
use Rattle.llama_main.proofs.Top.{text_clause, settled_clause, ended_clause, cut_clause, usage_clause, outside_status}
use Rattle.llama_main.proofs.run_llama.run_llama.Goals as goal

pub returns-clause-words_outside : goal.returns-clause-words_outside
returns-clause-words_outside g c = λ out. let known = c.run_words-status.ensures.outside out in (outside_status _ _ c.run_words-status.result.status known.0, known.1)

pub returns-clause-usage : goal.returns-clause-usage
returns-clause-usage g c = λ is. usage_clause (workers_of (bytes_of c.args.words.now)) _ (g.S.Source.left c.run_words-status.new.source) _ _ c.run_words-status.result.status c.run_words-status.ensures.inside (λ out. let known = c.run_words-status.ensures.outside out in (known.0, ap g.S.Source.left known.1)) is

pub returns-clause-text : goal.returns-clause-text
returns-clause-text g c = text_clause (workers_of (bytes_of c.args.words.now)) _ (g.S.Source.left c.run_words-status.new.source) _ _ c.run_words-status.result.status c.run_words-status.ensures.inside (λ out. let known = c.run_words-status.ensures.outside out in (known.0, ap g.S.Source.left known.1))

pub returns-clause-settled : goal.returns-clause-settled
returns-clause-settled g c = settled_clause (workers_of (bytes_of c.args.words.now)) _ (g.S.Source.left c.run_words-status.new.source) _ _ c.run_words-status.result.status c.run_words-status.ensures.inside (λ out. let known = c.run_words-status.ensures.outside out in (known.0, ap g.S.Source.left known.1))

pub returns-clause-end_of_source : goal.returns-clause-end_of_source
returns-clause-end_of_source g c = λ is. ended_clause (workers_of (bytes_of c.args.words.now)) _ (g.S.Source.left c.run_words-status.new.source) _ _ c.run_words-status.result.status c.run_words-status.ensures.inside (λ out. let known = c.run_words-status.ensures.outside out in (known.0, ap g.S.Source.left known.1)) is

pub returns-clause-cut_short : goal.returns-clause-cut_short
returns-clause-cut_short g c = λ cut. cut_clause (workers_of (bytes_of c.args.words.now)) _ (g.S.Source.left c.run_words-status.new.source) _ _ c.run_words-status.result.status c.run_words-status.ensures.inside (λ out. let known = c.run_words-status.ensures.outside out in (known.0, ap g.S.Source.left known.1)) cut
