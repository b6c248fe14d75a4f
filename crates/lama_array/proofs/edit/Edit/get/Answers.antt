use Rattle.std.proofs.Common.{◌≡◌, ◌<◌, ap, arith, get_or, length, subst}
use Rattle.lama_array.specs.Held.{records_of}
use Rattle.lama_array.proofs.Paged.{length-kept, read-at}
use Rattle.lama_array.proofs.edit.Edit.get.Goals as goal

pub returns : goal.returns
returns g c =
    let within : c.args.i < c.self.inside.len = omega (arith, c.requires, length-kept _ _ c.self.invariant, ap (λ d. length d.items) c.self.view_is) in
    subst (λ d. c.get.result ≡ get_or d.items c.args.i c.get.result) c.self.view_is
    (read-at records_of _ _ c.args.i c.self.invariant within _ _ _ c.index.ensures c.page.ensures c.get.ensures.record_at)
