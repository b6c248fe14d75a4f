use Rattle.std.proofs.Common.{◌≡◌, ◌∙◌, ◌+◌, ◌<◌, ◌++◌, ◌∷◌, [], length, get_or, take, map, ap, sym, subst, arith}
use Rattle.std.proofs.lemmas.List.{take_more, take_all, length-map, append-nil}
use Rattle.lama_model.specs.Change.{RowChange}
use Rattle.lama_model.specs.Fits.{HasIndexes}
use Rattle.lama_delta.specs.Seen.{seen_row, seen_rows}
use Rattle.lama_snapshot.specs.Found.{killed_slot, set_slot, killed_slots, set_slots}
use Rattle.lama_snapshot.proofs.RowFrom.{flat_map-append}
use Rattle.lama_snapshot.proofs.ChainLemmas.{get-map}
use Rattle.lama_snapshot.proofs.snapshot.Snapshot.find_changed.Goals as goal

pub find_row-requires : goal.find_row-requires
find_row-requires c =
    let r = seen_row c.row-item.result in
    let rows = seen_rows c.args.rows.now in
    let i = c.loop-row.row-index in
    let lt : i < length rows = let n = length-map c.args.rows.now seen_row in let t = c.loop-row-test.true in omega (arith, n, t) in
    let is : get_or rows i r ≡ r = get-map seen_row c.args.rows.now i c.row-item.result r c.loop-row-test.true ∙ ap seen_row (sym c.row-item.is) in
    subst (HasIndexes c.args.self.now.rows) is (c.requires i r lt)

pub loop-row-preserved : goal.loop-row-preserved
loop-row-preserved c =
    let r = seen_row c.row-item.result in
    let rows = seen_rows c.args.rows.now in
    let i = c.loop-row.row-index in
    let lt : i < length rows = let n = length-map c.args.rows.now seen_row in let t = c.loop-row-test.true in omega (arith, n, t) in
    let is : get_or rows i r ≡ r = get-map seen_row c.args.rows.now i c.row-item.result r c.loop-row-test.true ∙ ap seen_row (sym c.row-item.is) in
    let s = c.args.self.now in
    let more : take (i + 1) rows ≡ take i rows ++ r ∷ [] = take_more rows i r lt ∙ ap (λ x. take i rows ++ x ∷ []) is in
    record {
      killed = c.in_ok-find_row.ensures.killed
          ∙ (ap (λ xs. xs ++ map (killed_slot s r.source) r.killed) c.loop-row.invariant.killed
          ∙ sym (ap (killed_slots s) more ∙ (flat_map-append (λ (x : RowChange). map (killed_slot s x.source) x.killed) (take i rows) (r ∷ [])
          ∙ ap (λ xs. killed_slots s (take i rows) ++ xs) (append-nil (map (killed_slot s r.source) r.killed)))));
      set = c.in_ok-find_row.ensures.set
          ∙ (ap (λ xs. xs ++ map (set_slot s r.source) r.set) c.loop-row.invariant.set
          ∙ sym (ap (set_slots s) more ∙ (flat_map-append (λ (x : RowChange). map (set_slot s x.source) x.set) (take i rows) (r ∷ [])
          ∙ ap (λ xs. set_slots s (take i rows) ++ xs) (append-nil (map (set_slot s r.source) r.set)))));
    }

pub returns : goal.returns
returns c =
    let rows = seen_rows c.args.rows.now in
    let n = length-map c.args.rows.now seen_row in
    let t = c.loop-row-test.false in
    let all = take_all c.loop-row.row-index rows (omega (arith, n, t)) in
    record { killed = c.loop-row.invariant.killed ∙ ap (killed_slots c.args.self.now) all; set = c.loop-row.invariant.set ∙ ap (set_slots c.args.self.now) all }
