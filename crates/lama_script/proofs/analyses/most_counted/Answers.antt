use Rattle.std.proofs.Common.{◌∙◌, ap, arith, get_or}
use Rattle.std.specs.Prelude.{slice_index}
use Rattle.lama_model.specs.Lines.{greatest, occurrences}
use Rattle.lama_script.proofs.Owning.{map-same}
use Rattle.lama_script.proofs.analyses.most_counted.Goals as goal

pub returns : goal.returns
returns c =
    let labels = c.args.labels.now in
    let counts = c.count_each.new.counts in
    let same_len = c.count_each.ensures.len in
    c.greatest_of.ensures ∙ ap greatest (map-same (slice_index counts) (occurrences labels) labels (λ k d lt.
    let below = c.requires.below k d lt in
    c.count_each.ensures.each (get_or labels k d) (omega (arith, below, same_len))))
