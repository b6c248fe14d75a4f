use Rattle.std.proofs.Common.{◌∙◌, ◌-◌, ap, sym, arith}
use Rattle.std.specs.Arc.{arc_value}
use Rattle.lama_snapshot.specs.Chains.{no_table}
use Rattle.lama_snapshot.specs.Levels.{table_of}
use Rattle.lama_snapshot.proofs.ChainLemmas.{get-map-map}
use Rattle.lama_snapshot.proofs.level.level_at.Goals as goal

pub returns : goal.returns
returns c =
    let within = c.requires.within in let above = c.requires.above in
    ap table_of (c.deref.ensures ∙ ap arc_value c.index-levels-level.is)
    ∙ sym (get-map-map arc_value table_of c.args.levels.now (c.args.level - c.args.floor - 1) c.index-levels-level.result no_table (omega (arith, within, above)))
