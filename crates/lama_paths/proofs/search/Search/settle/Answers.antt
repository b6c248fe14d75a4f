use Rattle.std.proofs.Common.{◌≡◌, ◌∙◌, ◌<◌, ◌≤◌, List, Bool, Option, true, false, None, Some, Result, Ok, Err, length, sym, subst, arith, heap_items}
use Rattle.std.specs.Prelude.{OnOk}
use Rattle.std.proofs.lemmas.List.{get_or_read}
use Rattle.std.proofs.lemmas.Result.{on_ok_weaker}
use Rattle.lama_model.specs.declared.reach.Reach.{Reach}
use Rattle.lama_model.specs.Distances.{reach_at}
use Rattle.lama_paths.specs.Search.{tell, told, bids, is_settled, work}
use Rattle.lama_paths.proofs.Settling.{skipped, taken-reached, settled-now}
use Rattle.lama_paths.proofs.Found.{worked}
use Rattle.lama_paths.proofs.Told.{length-told, told-at}
use Rattle.lama_paths.proofs.search.Search.settle.Goals as goal

on_ok_both : {T E P Q X : Type 0} (r : Result T E) → OnOk r P → OnOk r Q → (P → Q → X) → OnOk r X
on_ok_both (Ok x) p q f = f p q
on_ok_both (Err e) p q f = tt

pub index-requires : goal.index-requires
index-requires g c =
    let h = c.requires.taken.1 in
    let within = (taken-reached (g.R.Rows.rows c.args.rows.now) c.requires.taken.0 c.args.u (told g.S.Sum.value c.args.self.now.reach.items) c.args.self.now.settled.items (bids g.S.Sum.value (heap_items c.args.self.now.offers)) h).3 in
    let size = h.search.size in
    omega (arith, within, size, c.args.self.now.settled.ok.0)

pub returns-then-index-clause-between : goal.returns-then-index-clause-between
returns-then-index-clause-between g c = λ s h.
    let settled = c.args.self.now.settled.items in
    let within = (taken-reached (g.R.Rows.rows c.args.rows.now) s c.args.u (told g.S.Sum.value c.args.self.now.reach.items) settled (bids g.S.Sum.value (heap_items c.args.self.now.offers)) h).3 in
    let size = h.search.size in
    let done : is_settled settled c.args.u ≡ true = sym (get_or_read settled c.args.u c.index.result.now (omega (arith, within, size)) c.index.ensures false) ∙ c.if-index.true in
    skipped (g.R.Rows.rows c.args.rows.now) s c.args.u (told g.S.Sum.value c.args.self.now.reach.items) settled (bids g.S.Sum.value (heap_items c.args.self.now.offers)) h done

pub index-requires-2 : goal.index-requires-2
index-requires-2 g c =
    let h = c.requires.taken.1 in
    let within = (taken-reached (g.R.Rows.rows c.args.rows.now) c.requires.taken.0 c.args.u (told g.S.Sum.value c.args.self.now.reach.items) c.args.self.now.settled.items (bids g.S.Sum.value (heap_items c.args.self.now.offers)) h).3 in
    let size = h.search.len in
    let told_len = length-told g.S.Sum.value c.args.self.now.reach.items in
    omega (arith, within, size, told_len, c.args.self.now.reach.ok.0)

pub index_mut-requires : goal.index_mut-requires
index_mut-requires g c =
    let h = c.requires.taken.1 in
    let within = (taken-reached (g.R.Rows.rows c.args.rows.now) c.requires.taken.0 c.args.u (told g.S.Sum.value c.args.self.now.reach.items) c.args.self.now.settled.items (bids g.S.Sum.value (heap_items c.args.self.now.offers)) h).3 in
    let size = h.search.size in
    omega (arith, within, size, c.args.self.now.settled.ok.0)

pub relax_row-requires-clause-at : goal.relax_row-requires-clause-at
relax_row-requires-clause-at g c =
    let h = c.requires.taken.1 in
    let s = c.requires.taken.0 in
    let rows = g.R.Rows.rows c.args.rows.now in
    let reach : List (Option Reach) = told g.S.Sum.value c.args.self.now.reach.items in
    let settled = c.args.self.now.settled.items in
    let within = (taken-reached rows s c.args.u reach settled (bids g.S.Sum.value (heap_items c.args.self.now.offers)) h).3 in
    let size = h.search.size in
    let len = h.search.len in
    let inside : c.args.u < length settled = omega (arith, within, size) in
    let not : is_settled settled c.args.u ≡ false = sym (get_or_read settled c.args.u c.index.result.now inside c.index.ensures false) ∙ c.if-index.false in
    let told_len = length-told g.S.Sum.value c.args.self.now.reach.items in
    let is : reach_at reach c.args.u ≡ Some (tell g.S.Sum.value c.in-Some.from) = told-at g.S.Sum.value c.args.self.now.reach.items c.args.u c.index-2.result.now (Some c.in-Some.from) (omega (arith, within, len, told_len)) c.index-2.ensures c.in-Some.is in
    (s, settled-now rows s c.args.u reach settled (bids g.S.Sum.value (heap_items c.args.self.now.offers)) (tell g.S.Sum.value c.in-Some.from) h not is inside)

pub relax_row-requires-clause-inside : goal.relax_row-requires-clause-inside
relax_row-requires-clause-inside g c =
    (taken-reached (g.R.Rows.rows c.args.rows.now) c.requires.taken.0 c.args.u (told g.S.Sum.value c.args.self.now.reach.items) c.args.self.now.settled.items (bids g.S.Sum.value (heap_items c.args.self.now.offers)) c.requires.taken.1).3

pub returns-in-None-clause-between : goal.returns-in-None-clause-between
returns-in-None-clause-between g c = λ s h.
    let reach : List (Option Reach) = told g.S.Sum.value c.args.self.now.reach.items in
    let t = taken-reached (g.R.Rows.rows c.args.rows.now) s c.args.u reach c.args.self.now.settled.items (bids g.S.Sum.value (heap_items c.args.self.now.offers)) h in
    let within = t.3 in
    let len = h.search.len in
    let told_len = length-told g.S.Sum.value c.args.self.now.reach.items in
    let none : reach_at reach c.args.u ≡ None = told-at g.S.Sum.value c.args.self.now.reach.items c.args.u c.index-2.result.now None (omega (arith, within, len, told_len)) c.index-2.ensures c.in-None.is in
    absurd (let e : None ≡ Some t.0 = sym none ∙ t.1 in cc)

pub returns-in-Some-clause-between : goal.returns-in-Some-clause-between
returns-in-Some-clause-between g c =
    on_ok_weaker c.relax_row.result (λ f. λ s h.
    let rows = g.R.Rows.rows c.args.rows.now in
    let reach : List (Option Reach) = told g.S.Sum.value c.args.self.now.reach.items in
    let settled = c.args.self.now.settled.items in
    let within = (taken-reached rows s c.args.u reach settled (bids g.S.Sum.value (heap_items c.args.self.now.offers)) h).3 in
    let size = h.search.size in
    let len = h.search.len in
    let inside : c.args.u < length settled = omega (arith, within, size) in
    let not : is_settled settled c.args.u ≡ false = sym (get_or_read settled c.args.u c.index.result.now inside c.index.ensures false) ∙ c.if-index.false in
    let told_len = length-told g.S.Sum.value c.args.self.now.reach.items in
    let is : reach_at reach c.args.u ≡ Some (tell g.S.Sum.value c.in-Some.from) = told-at g.S.Sum.value c.args.self.now.reach.items c.args.u c.index-2.result.now (Some c.in-Some.from) (omega (arith, within, len, told_len)) c.index-2.ensures c.in-Some.is in
    f s (settled-now rows s c.args.u reach settled (bids g.S.Sum.value (heap_items c.args.self.now.offers)) (tell g.S.Sum.value c.in-Some.from) h not is inside)) c.relax_row.ensures.between

pub returns-in-Some-clause-less : goal.returns-in-Some-clause-less
returns-in-Some-clause-less g c =
    let rows = g.R.Rows.rows c.args.rows.now in
    let settled = c.args.self.now.settled.items in
    let h = c.requires.taken.1 in
    let within = (taken-reached rows c.requires.taken.0 c.args.u (told g.S.Sum.value c.args.self.now.reach.items) settled (bids g.S.Sum.value (heap_items c.args.self.now.offers)) h).3 in
    let size = h.search.size in
    let not : is_settled settled c.args.u ≡ false = sym (get_or_read settled c.args.u c.index.result.now (omega (arith, within, size)) c.index.ensures false) ∙ c.if-index.false in
    on_ok_both c.relax_row.result c.relax_row.ensures.same c.relax_row.ensures.few (λ same few.
    subst (λ (l : List Bool). work rows l (bids g.S.Sum.value (heap_items c.relax_row.new.self.offers)) ≤ work rows settled (bids g.S.Sum.value (heap_items c.args.self.now.offers))) (sym same)
    (worked rows settled (bids g.S.Sum.value (heap_items c.args.self.now.offers)) (bids g.S.Sum.value (heap_items c.relax_row.new.self.offers)) c.args.u size within not few))
