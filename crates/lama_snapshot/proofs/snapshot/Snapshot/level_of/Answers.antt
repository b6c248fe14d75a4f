use Rattle.std.proofs.Common.{◌≡◌, ◌∙◌, ℕ, ◌-◌, ◌<◌, length, get_or, map, ap, sym, arith}
use Rattle.std.specs.Arc.{arc_value}
use Rattle.std.specs.declared.sync.Arc.{Arc}
use Rattle.std.proofs.Common.{List, Global}
use Rattle.lama_model.specs.Change.{Change}
use Rattle.lama_snapshot.specs.declared.level.Level.{Level}
use Rattle.std.proofs.lemmas.List.{length-map}
use Rattle.lama_model.specs.Opening.{no_change}
use Rattle.lama_snapshot.specs.Levels.{table_of, change_of}
use Rattle.lama_snapshot.specs.Snap.{Snap}
use Rattle.lama_snapshot.specs.BaseRows.{Numbered}
use Rattle.lama_snapshot.proofs.ChainLemmas.{get-map-map}
use Rattle.lama_snapshot.proofs.snapshot.Snapshot.level_of.Goals as goal

pub returns : goal.returns
returns c =
    let b : c.number.result ≡ c.args.self.now.base.number = c.number.ensures.is ∙ (ap (λ (x : Numbered). x.number) c.deref-base.ensures ∙ ap (λ (s : Snap). s.base.number) c.self.view_is) in
    let below = c.requires.above in
    let most = c.requires.within in
    let k = c.args.k in
    let a : ℕ = k - c.number.result - 1 in
    let base : Numbered = arc_value c.self.inside.base in
    let size : length (map table_of (map arc_value c.self.inside.levels.items)) ≡ length c.self.inside.levels.items = length-map (map arc_value c.self.inside.levels.items) table_of ∙ length-map c.self.inside.levels.items arc_value in
    let is = c.self.invariant.snap.number_is in
    let n = ap (λ (s : Snap). s.number) c.self.view_is in
    let m = ap (λ (s : Snap). s.base.number) c.self.view_is in
    let lt : a < length c.self.inside.levels.items = omega (arith, b, below, most, size, is, n, m) in
    let at : get_or (map change_of (map arc_value c.self.inside.levels.items)) a no_change ≡ change_of (arc_value (get_or c.self.inside.levels.items a c.index.result.now)) = get-map-map arc_value change_of c.self.inside.levels.items a c.index.result.now no_change lt in
    let i : ℕ = k - c.args.self.now.base.number - 1 in
    let place : a ≡ i = ap (λ x. k - x - 1) b in
    let all : List Change = map change_of (map arc_value c.self.inside.levels.items) in
    ap change_of c.deref.ensures ∙ (ap (λ (x : Arc Level Global). change_of (arc_value x)) c.index.ensures
    ∙ (sym at ∙ (ap (λ j. get_or all j no_change) place ∙ ap (λ (s : Snap). get_or s.changes i no_change) c.self.view_is)))
