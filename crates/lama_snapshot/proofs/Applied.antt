-- The cells of a snapshot's rows after a change.
use Rattle.std.proofs.Common.{◌≡◌, ◌≢◌, ◌∙◌, ℕ, zero, suc, ◌+◌, ◌-◌, ◌<◌, ◌≤◌, List, [], ◌∷◌, ◌++◌, length, get_or, refl, sym, ap, subst, arith, inl, inr, ◌⊎◌, true, false, cond, eqb, leb, Option, Some, None}
use Rattle.std.proofs.lemmas.Bool.{cases_eq}
use Rattle.std.proofs.lemmas.Bool.Decides.{nat_tests}
use Rattle.std.proofs.lemmas.List.{append_assoc, length-append, length_push, get_or_append_left, get_or_push}
use Rattle.lama_edges.specs.declared.records.Slot.{Slot}
use Rattle.lama_edges.specs.declared.records.VertexRec.{VertexRec}
use Rattle.lama_model.specs.Change.{RowChange}
use Rattle.lama_snapshot.specs.declared.level.Cell.{Cell}
use Rattle.lama_snapshot.specs.Fragments.{fragment_slots, fragment_weights}
use Rattle.lama_snapshot.specs.BaseRows.{Numbered}
use Rattle.lama_snapshot.specs.Cells.{Columns, mark_at, visible, cell_row, cells_from, AreApart}
use Rattle.lama_snapshot.specs.Chains.{Table, no_table, Layout, fragment_sources, after_fragment, chain, record_row, AreOwned}
use Rattle.lama_snapshot.specs.Snap.{no_record, layout_of}
use Rattle.lama_snapshot.specs.Written.{next_of, level_slots, level_weights, level_sources, record_with, record_after}
use Rattle.lama_snapshot.proofs.RowFrom.{length-fragment, length-fragment_weights}
use Rattle.lama_snapshot.proofs.CellsFrom.{cells_from-at, owned-row, owned-append, owned-old, apart-row, table-new, length-fragment_sources}
use Rattle.lama_snapshot.proofs.ChainLemmas.{chain-at, chain-levels}
use Rattle.lama_snapshot.specs.History.{targets_then}
use Rattle.lama_snapshot.proofs.Earlier.{then-new}
use Rattle.lama_snapshot.proofs.Surviving.{added_for, killed_for, fresh}

-- a level more, above those that a chain looks at
chain-more : (base : Numbered) (levels : List Table) (t : Table) (v m : ℕ) → m ≤ length levels → chain (layout_of base (levels ++ t ∷ [])) v m ≡ chain (layout_of base levels) v m
chain-more base levels t v zero le = refl
chain-more base levels t v (suc m) le = λ j r o len. by r o len (chain-more base levels t v m (omega arith)) j
  where
    by : (r o len : ℕ) → chain (layout_of base (levels ++ t ∷ [])) v m ≡ chain (layout_of base levels) v m → chain (layout_of base (levels ++ t ∷ [])) v (suc m) r o len ≡ chain (layout_of base levels) v (suc m) r o len
    by r o len rest =
        ap (λ (x : Table). cond (eqb r (suc m)) (cells_from (suc m) x.slots (after_fragment base.number m (chain (layout_of base (levels ++ t ∷ [])) v m)) o len) (chain (layout_of base (levels ++ t ∷ [])) v m r o len)) (get_or_append_left levels (t ∷ []) no_table m (omega arith))
        ∙ ap (λ (f : ℕ → ℕ → ℕ → Option (List (ℕ × Cell))). cond (eqb r (suc m)) (cells_from (suc m) (get_or levels m no_table).slots (after_fragment base.number m f) o len) (f r o len)) rest

-- an old record leads where it led
old-record : (base : Numbered) (levels : List Table) (t : Table) (v : ℕ) (rec : VertexRec) → rec.level ≤ base.number + length levels → record_row (layout_of base (levels ++ t ∷ [])) v rec ≡ record_row (layout_of base levels) v rec
old-record base levels t v rec le =
    let n = length levels in
    let m : length (levels ++ t ∷ []) ≡ n + 1 = length_push levels t in
    ap (λ k. chain (layout_of base (levels ++ t ∷ [])) v k (rec.level - base.number) rec.offset rec.len) m
    ∙ (chain-levels (layout_of base (levels ++ t ∷ [])) v n (n + 1) (rec.level - base.number) rec.offset rec.len (omega arith) (omega arith)
    ∙ ap (λ (f : ℕ → ℕ → ℕ → Option (List (ℕ × Cell))). f (rec.level - base.number) rec.offset rec.len) (chain-more base levels t v n (omega arith)))

-- a new record leads to the new edges and then to the old row
new-record : (base : Numbered) (levels : List Table) (t : Table) (v n : ℕ) (c : RowChange) (old : VertexRec) (row : List (ℕ × Cell)) (pre post : List Slot) →
    n ≡ base.number + length levels + 1 → t.slots ≡ pre ++ (fragment_slots c.added (next_of old) ++ post) →
    old.level ≤ base.number + length levels → record_row (layout_of base levels) v old ≡ Some row →
    record_row (layout_of base (levels ++ t ∷ [])) v (record_with n (length pre) (length c.added) (length c.killed) old) ≡ Some (cell_row (length levels + 1) (length pre) c.added ++ row)
new-record base levels t v n c old row pre post is slots le leads =
    let k = length levels in
    let l = layout_of base (levels ++ t ∷ []) in
    let m : length (levels ++ t ∷ []) ≡ k + 1 = length_push levels t in
    let r : n - base.number ≡ k + 1 = omega (arith, is) in
    let at : get_or (levels ++ t ∷ []) k no_table ≡ t = get_or_push levels t no_table k refl in
    let test : leb old.level (base.number + k) ≡ true = grind (arith, nat_tests) in
    let goes_on : after_fragment base.number k (chain l v k) (Some (next_of old)) ≡ Some row =
    ap (λ b. cond b (chain l v k (old.level - base.number) old.offset old.len) None) test
    ∙ (ap (λ (f : ℕ → ℕ → ℕ → Option (List (ℕ × Cell))). f (old.level - base.number) old.offset old.len) (chain-more base levels t v k (omega arith)) ∙ leads) in
    ap (λ x. chain l v x (n - base.number) (length pre) (length c.added)) m
    ∙ (ap (λ x. chain l v (k + 1) x (length pre) (length c.added)) r
    ∙ (chain-at l v (k + 1) k (length pre) (length c.added) (omega arith)
    ∙ (ap (λ (x : Table). cells_from (k + 1) x.slots (after_fragment base.number k (chain l v k)) (length pre) (length c.added)) at
    ∙ (ap (λ xs. cells_from (k + 1) xs (after_fragment base.number k (chain l v k)) (length pre) (length c.added)) slots
    ∙ cells_from-at (k + 1) pre c.added (next_of old) post (after_fragment base.number k (chain l v k)) row goes_on))))

-- what a record of v leads to before the change, and its degree and level
pub record Leads (l : Layout) (cols : Columns) (v n : ℕ) (rec : VertexRec) (row : List (ℕ × Cell)) : Type 0 where
  pub leads : record_row l v rec ≡ Some row
  pub degree : rec.degree ≡ length (visible cols row)
  pub level : rec.level ≤ n
  pub own : AreOwned l v row
  pub apart : AreApart row

-- and afterwards: the new edges come before those of the old row
pub record LeadsNew (l : Layout) (cols : Columns) (v n : ℕ) (old rec : VertexRec) (before : List (ℕ × Cell)) (rows : List RowChange) : Type 0 where
  pub row : List (ℕ × Cell)
  pub leads : record_row l v rec ≡ Some row
  pub degree : rec.degree ≡ old.degree + length (added_for rows v) - length (killed_for rows v)
  pub level : rec.level ≤ n
  pub own : AreOwned l v row
  pub apart : AreApart row
  pub seen : visible cols row ≡ added_for rows v ++ visible cols before
  pub older : (k : ℕ) → k - l.floor < length l.levels → targets_then l.floor cols k row ≡ targets_then l.floor cols k before

pub leads-after : (base : Numbered) (levels : List Table) (t : Table) (cols cols' : Columns) (v n : ℕ) (before : List VertexRec) (row : List (ℕ × Cell)) (rows : List RowChange) (pre : List Slot) (pre' pre'' : List ℕ) →
    n ≡ base.number + length levels + 1 → t.slots ≡ pre ++ level_slots before rows → t.sources ≡ pre' ++ level_sources rows → get_or cols'.weights (length levels + 1) [] ≡ pre'' ++ level_weights rows → length pre' ≡ length pre → length pre'' ≡ length pre →
    ((k : ℕ) → mark_at cols' (record { table = length levels + 1; place = k }) ≡ 0) →
    Leads (layout_of base levels) cols v (base.number + length levels) (get_or before v no_record) row →
    LeadsNew (layout_of base (levels ++ t ∷ [])) cols' v n (get_or before v no_record) (record_after n before (length pre) rows v) row rows
leads-after base levels t cols cols' v n before row [] pre pre' pre'' is slots sources weights same same' stand h = record {
  row = row;
  leads = old-record base levels t v (get_or before v no_record) h.level ∙ h.leads;
  degree = omega arith;
  level = let a = h.level in omega (arith, a, is);
  own = owned-old base levels t v row h.own;
  apart = h.apart;
  seen = refl;
  older = λ k lt. refl;
}
leads-after base levels t cols cols' v n before row (c ∷ rows) pre pre' pre'' is slots sources weights same same' stand h =
    by (cases_eq c.source v)
    (let f = fragment_slots c.added (next_of (get_or before c.source no_record)) in
    let g = fragment_sources c.source c.added in
    let w = fragment_weights c.added in
    let a = length-append pre f in let a' = length-append pre' g in let a'' = length-append pre'' w in
    let b = length-fragment c.added (next_of (get_or before c.source no_record)) in let b' = length-fragment_sources c.source c.added in let b'' = length-fragment_weights c.added in
    let size : length (pre ++ f) ≡ length pre + length c.added + 1 = omega (arith, a, b) in
    subst (λ k. LeadsNew (layout_of base (levels ++ t ∷ [])) cols' v n (get_or before v no_record) (record_after n before k rows v) row rows) size
    (leads-after base levels t cols cols' v n before row rows (pre ++ f) (pre' ++ g) (pre'' ++ w) is (slots ∙ sym (append_assoc pre f (level_slots before rows))) (sources ∙ sym (append_assoc pre' g (level_sources rows))) (weights ∙ sym (append_assoc pre'' w (level_weights rows)))
    (omega (arith, a, a', b, b', same)) (omega (arith, a, a'', b, b'', same')) stand h))
  where
    by : (c.source ≡ v) ⊎ (c.source ≢ v) → LeadsNew (layout_of base (levels ++ t ∷ [])) cols' v n (get_or before v no_record) (record_after n before (length pre + length c.added + 1) rows v) row rows →
        LeadsNew (layout_of base (levels ++ t ∷ [])) cols' v n (get_or before v no_record) (record_after n before (length pre) (c ∷ rows) v) row (c ∷ rows)
    by (inl e) rest =
        let here : eqb c.source v ≡ true = grind (arith, nat_tests, e) in
        let l' = layout_of base (levels ++ t ∷ []) in
        let r = length levels + 1 in
        let old = get_or before v no_record in
        let rec : record_after n before (length pre) (c ∷ rows) v ≡ record_with n (length pre) (length c.added) (length c.killed) old = ap (λ b. cond b (record_with n (length pre) (length c.added) (length c.killed) old) (record_after n before (length pre + length c.added + 1) rows v)) here in
        let slots' : t.slots ≡ pre ++ (fragment_slots c.added (next_of old) ++ level_slots before rows) = slots ∙ ap (λ k. pre ++ (fragment_slots c.added (next_of (get_or before k no_record)) ++ level_slots before rows)) e in
        let sources' : t.sources ≡ pre' ++ (fragment_sources v c.added ++ level_sources rows) = sources ∙ ap (λ k. pre' ++ (fragment_sources k c.added ++ level_sources rows)) e in
        let made = new-record base levels t v n c old row pre (level_slots before rows) is slots' h.level h.leads in
        let table = ap (λ (x : Table). x.sources) (table-new base levels t) in
        let added : added_for (c ∷ rows) v ≡ c.added = ap (λ b. cond b c.added (added_for rows v)) here in
        let killed : killed_for (c ∷ rows) v ≡ c.killed = ap (λ b. cond b c.killed (killed_for rows v)) here in
        let n-added = ap length added in
        let n-killed = ap length killed in
        let d = ap (λ (x : VertexRec). x.degree) rec in
        record {
          row = cell_row r (length pre) c.added ++ row;
          leads = ap (record_row l' v) rec ∙ made;
          degree = omega (arith, d, n-added, n-killed);
          level = let q = ap (λ (x : VertexRec). x.level) rec in omega (arith, q);
          own = owned-append l' v (cell_row r (length pre) c.added) row (owned-row l' r v (length pre) c.added pre' (level_sources rows) (table ∙ sources') same) (owned-old base levels t v row h.own);
          apart = apart-row (layout_of base levels) v r (length pre) c.added row h.own h.apart (omega arith);
          seen = fresh cols' r (length pre) c.added pre'' (level_weights rows) same' weights stand row ∙ ap (λ xs. xs ++ visible cols' row) (sym added);
          older = λ k lt. let many = length_push levels t in then-new base.number cols' k r (length pre) c.added row (omega (arith, lt, many));
        }
    by (inr ne) rest =
        let other : eqb c.source v ≡ false = grind (arith, nat_tests, ne) in
        let rec : record_after n before (length pre + length c.added + 1) rows v ≡ record_after n before (length pre) (c ∷ rows) v = sym (ap (λ b. cond b (record_with n (length pre) (length c.added) (length c.killed) (get_or before v no_record)) (record_after n before (length pre + length c.added + 1) rows v)) other) in
        let added : added_for (c ∷ rows) v ≡ added_for rows v = ap (λ b. cond b c.added (added_for rows v)) other in
        let killed : killed_for (c ∷ rows) v ≡ killed_for rows v = ap (λ b. cond b c.killed (killed_for rows v)) other in
        let n-added = ap length added in
        let n-killed = ap length killed in
        let d = ap (λ (x : VertexRec). x.degree) rec in
        let q = ap (λ (x : VertexRec). x.level) rec in
        let d' = rest.degree in let q' = rest.level in
        record {
          row = rest.row;
          leads = ap (record_row (layout_of base (levels ++ t ∷ [])) v) (sym rec) ∙ rest.leads;
          degree = omega (arith, d, d', n-added, n-killed);
          level = omega (arith, q, q');
          own = rest.own;
          apart = rest.apart;
          seen = rest.seen ∙ ap (λ xs. xs ++ visible cols' row) (sym added);
          older = rest.older;
        }
