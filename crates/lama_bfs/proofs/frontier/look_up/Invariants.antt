use Rattle.std.proofs.Common.{◌≡◌, ◌∷◌, ◌++◌, drop, map}
use Rattle.std.specs.Prelude.{All}
use Rattle.std.specs.List.{flat_map}
use Rattle.lama_bfs.specs.Frontier.{targets_of}
use Rattle.lama_bfs.proofs.frontier.look_up.Given as goal

abbrev pub invariant-loop-u : goal.invariant-loop-u
invariant-loop-u g l = record {
  places : All (λ first. g.R.Rows.is_place l.rows first.1) l.firsts.items;
  targets : flat_map (λ first. first.0 ∷ map (λ p. p.0) (g.R.Rows.suffix l.rows first.1)) l.firsts.items ++ targets_of (g.R.Rows.rows l.rows) (drop l.u-index l.us)
      ≡ flat_map (λ first. first.0 ∷ map (λ p. p.0) (g.R.Rows.suffix l.rows first.1)) l.initial.firsts.items ++ targets_of (g.R.Rows.rows l.rows) l.us;
}
