-- Steps inside a fragment, by a snapshot's fields.
use Rattle.std.proofs.Common.{◌≡◌, ◌∙◌, ℕ, zero, suc, ◌+◌, ◌-◌, ◌<◌, ◌≤◌, List, [], ◌∷◌, ◌++◌, length, map, ap, sym, subst, true, false, arith, inl, inr, ◌⊎◌}
use Rattle.std.specs.Prelude.{All, IsSome, slice_get, Some}
use Rattle.std.proofs.lemmas.Bool.{cases_lt}
use Rattle.std.proofs.lemmas.List.{append_assoc}
use Rattle.std.proofs.lemmas.Option.{slice_get_within}
use Rattle.lama_edges.specs.declared.records.Slot.TheVariants.{Edge}
use Rattle.lama_snapshot.specs.declared.level.Cell.{Cell}
use Rattle.lama_snapshot.specs.declared.level.SnapshotAt.{SnapshotAt}
use Rattle.lama_snapshot.specs.BaseRows.{base_slots}
use Rattle.lama_snapshot.specs.Cells.{Columns, standing, stands}
use Rattle.lama_snapshot.specs.Chains.{no_table, Layout, place_row, place_cells, IsPlace, AreColumns, slot_at, IsAtCell}
use Rattle.lama_snapshot.specs.Snap.{Snap, IsTable, IsCell}
use Rattle.lama_snapshot.specs.Shown.{shown, HasRows}
use Rattle.lama_snapshot.specs.declared.snapshot.Snapshot.TheInside.{Inside}
use Rattle.lama_snapshot.proofs.StepLemmas.{level_table, edge-step, base-step}
use Rattle.lama_snapshot.proofs.NextLemmas.{cell-above, cell-below, slots-above}
use Rattle.lama_snapshot.proofs.Walks.{first-stands, first-hidden}

-- the next edge of a fragment, and the place behind it
pub record FragmentStep (l : Layout) (cols : Columns) (count v level o left : ℕ) : Type 0 where
  pub target : ℕ
  pub few : o < 67108864
  pub slot_is : slot_at l (record { table = level - l.floor; place = o }) ≡ Some (Edge target)
  pub rest : IsPlace l count v level (o + 1) (left - 1)
  pub cell : IsCell cols (record { table = level - l.floor; place = o })
  pub reads : place_cells l v level o left ≡ (target, record { table = level - l.floor; place = o }) ∷ place_cells l v level (o + 1) (left - 1)

pub fragment-step : (l : Layout) (cols : Columns) (count v level o left : ℕ) → AreColumns l cols → All IsTable l.levels → length (base_slots l.base) ≤ 67108864 → IsPlace l count v level o left → 0 < left → FragmentStep l cols count v level o left
fragment-step l cols count v level o left columns tables few place some = by (cases_lt l.floor level)
  where
    by : (l.floor < level) ⊎ (level ≤ l.floor) → FragmentStep l cols count v level o left
    by (inl above) =
        let s = edge-step l v level o left above place.within some place.some in
        let ok = tables (level - l.floor - 1) no_table (let w = place.within in omega (arith, above, w)) in
        let lt = slice_get_within (level_table l level).slots o (Edge s.target) s.slot_is in
        let n = ok.few in
        record {
          target = s.target;
          few = omega (arith, lt, n);
          slot_is = ap (λ xs. slice_get xs o) (sym (slots-above l level above)) ∙ s.slot_is;
          rest = record { vertex = place.vertex; within = place.within; some = s.some };
          cell = cell-above l cols level o s.target columns ok above place.within s.slot_is;
          reads = s.reads;
        }
    by (inr low) =
        let s = base-step l v level o left low some place.some in
        let lt = slice_get_within (base_slots l.base) o (Edge s.target) s.slot_is in
        let is : 0 ≡ level - l.floor = omega (arith, low) in
        record {
          target = s.target;
          few = omega (arith, lt, few);
          slot_is = ap (λ k. slot_at l (record { table = k; place = o })) (sym is) ∙ s.slot_is;
          rest = record { vertex = place.vertex; within = place.within; some = s.some };
          cell = subst (λ k. IsCell cols (record { table = k; place = o })) is (cell-below l cols o s.target columns s.slot_is);
          reads = s.reads ∙ ap (λ k. (s.target, record { table = k; place = o }) ∷ place_cells l v level (o + 1) (left - 1)) is;
        }

-- the place behind what is left of a fragment
pub place-behind : (l : Layout) (count v level o left : ℕ) → IsPlace l count v level o left → IsPlace l count v level (o + left) 0
place-behind l count v level o zero place = subst (λ k. IsPlace l count v level k 0) (omega arith) place
place-behind l count v level o (suc left) place =
    subst (λ k. IsPlace l count v level k 0) (omega arith) (place-behind l count v level (o + 1) left (record { vertex = place.vertex; within = place.within; some = by (cases_lt l.floor level) }))
  where
    by : (l.floor < level) ⊎ (level ≤ l.floor) → IsSome (place_row l v level (o + 1) left)
    by (inl above) = subst (λ k. IsSome (place_row l v level (o + 1) k)) (omega arith) (edge-step l v level o (suc left) above place.within (omega arith) place.some).some
    by (inr low) = subst (λ k. IsSome (place_row l v level (o + 1) k)) (omega arith) (base-step l v level o (suc left) low (omega arith) place.some).some

-- what stands at a place of a snapshot that has an edge left in its fragment
pub place-step : (s : Inside) (snap : Snap) → shown s ≡ snap → HasRows s → (v level offset left : ℕ) → IsPlace snap.layout (length snap.rows) v level offset left → 0 < left
    → FragmentStep snap.layout snap.columns (length snap.rows) v level offset left
place-step s snap is inv v level offset left place some = fragment-step snap.layout snap.columns (length snap.rows) v level offset left
    (subst (λ (x : Snap). AreColumns x.layout x.columns) is inv.columns)
    (subst (λ (x : Snap). All IsTable x.layout.levels) is inv.tables)
    (subst (λ (x : Snap). length (base_slots x.layout.base) ≤ 67108864) is inv.base_slots)
    place some

-- the cell of an edge that stands is put behind the others
pub take-step : (cols : Columns) (so so' whole : List Cell) (xs : List (ℕ × Cell)) (p : ℕ × Cell) (rest : List (ℕ × Cell)) → xs ≡ p ∷ rest → so ++ map (λ p. p.1) (standing cols xs) ≡ whole → stands cols p ≡ true → so' ≡ so ++ p.1 ∷ [] →
    so' ++ map (λ p. p.1) (standing cols rest) ≡ whole
take-step cols so so' whole xs p rest are is up now =
    ap (λ s. s ++ map (λ p. p.1) (standing cols rest)) now
    ∙ (append_assoc so (p.1 ∷ []) (map (λ p. p.1) (standing cols rest))
    ∙ (sym (ap (λ row. so ++ map (λ p. p.1) row) (ap (standing cols) are ∙ first-stands cols p rest up)) ∙ is))

-- and that of a hidden one is passed
pub pass-step : (cols : Columns) (so so' whole : List Cell) (xs : List (ℕ × Cell)) (p : ℕ × Cell) (rest : List (ℕ × Cell)) → xs ≡ p ∷ rest → so ++ map (λ p. p.1) (standing cols xs) ≡ whole → stands cols p ≡ false → so' ≡ so →
    so' ++ map (λ p. p.1) (standing cols rest) ≡ whole
pass-step cols so so' whole xs p rest are is down now =
    ap (λ s. s ++ map (λ p. p.1) (standing cols rest)) now ∙ (sym (ap (λ row. so ++ map (λ p. p.1) row) (ap (standing cols) are ∙ first-hidden cols p rest down)) ∙ is)

-- a walk that stood at start stands at an edge now
pub record StandsAt (l : Layout) (count : ℕ) (start at : SnapshotAt) : Type 0 where
  pub place : IsPlace l count at.v at.level at.offset at.left
  pub some : 0 < at.left
  pub from : at.v ≡ start.v
  pub same : place_cells l at.v at.level at.offset at.left ≡ place_cells l start.v start.level start.offset start.left

-- that edge, and the place behind it
pub fragment-returns : (l : Layout) (cols : Columns) (count : ℕ) (start at : SnapshotAt) → StandsAt l count start at → FragmentStep l cols count at.v at.level at.offset at.left →
    (c : Cell) (v' level' o' left' : ℕ) → c.table ≡ at.level - l.floor → c.place ≡ at.offset → v' ≡ at.v → level' ≡ at.level → o' ≡ at.offset + 1 → left' ≡ at.left - 1 →
    IsPlace l count v' level' o' left' × IsCell cols c × (v' ≡ start.v) × IsAtCell l c (place_cells l start.v start.level start.offset start.left) (place_cells l v' level' o' left')
fragment-returns l cols count start at h s c v' level' o' left' et ep ev el eo er =
    let P : Cell × ℕ × ℕ × ℕ × ℕ → Type 0 = λ p. IsPlace l count p.1 p.2 p.3 p.4 × IsCell cols p.0 × (p.1 ≡ start.v) × IsAtCell l p.0 (place_cells l start.v start.level start.offset start.left) (place_cells l p.1 p.2 p.3 p.4) in
    let here : P (record { table = at.level - l.floor; place = at.offset }, at.v, at.level, at.offset + 1, at.left - 1) = (
      s.rest,
      s.cell,
      h.from,
      record { target = s.target; slot_is = s.slot_is; first = sym h.same ∙ s.reads },
    ) in
    let whole : record { table = at.level - l.floor; place = at.offset } ≡ c = λ j. record { table = sym et j; place = sym ep j } in
    subst P (λ j. (whole j, sym ev j, sym el j, sym eo j, sym er j)) here
