use Rattle.std.proofs.Common.{◌≡◌, ◌∙◌, ◌<◌, List, length, set, ap, arith}
use Rattle.lama_pages.proofs.Records.{with-set}
use Rattle.lama_pages.proofs.page.Page.set.Goals as goal

pub returns-clause-records : goal.returns-clause-records
returns-clause-records g c =
    let block = c.self.inside.block in
    let full : length block.written ≡ 256 = c.self.invariant.0 in
    let within : c.args.i < length block.written = omega (arith, c.requires) in
    c.put.ensures.0 ∙ with-set block.written c.args.i c.args.x within
    ∙ ap (λ (l : List g.row.T.Denot). set l c.args.i c.args.x) c.self.view_is
