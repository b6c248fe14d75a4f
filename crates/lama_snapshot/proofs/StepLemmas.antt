-- One step along a chain.
use Rattle.std.proofs.Common.{◌≡◌, ◌∙◌, ℕ, ◌+◌, ◌-◌, ◌<◌, ◌≤◌, List, [], ◌∷◌, length, get_or, refl, sym, ap, subst, arith, Bool, true, false, cond, leb, Option, Some, None}
use Rattle.std.specs.Prelude.{slice_get, unwrap_or, IsSome}
use Rattle.std.proofs.lemmas.Bool.{false≢true}
use Rattle.std.proofs.lemmas.Bool.Decides.{nat_tests}
use Rattle.std.proofs.lemmas.Option.{slice_get_within}
use Rattle.lama_edges.specs.declared.records.Slot.{Slot}
use Rattle.lama_edges.specs.declared.records.Slot.TheVariants.{Edge, Next, End}
use Rattle.lama_edges.specs.declared.records.VertexRec.{VertexRec}
use Rattle.lama_model.specs.Row.{row_at}
use Rattle.lama_snapshot.specs.BaseRows.{base_slots}
use Rattle.lama_snapshot.specs.Cells.{Columns, visible}
use Rattle.lama_snapshot.specs.Chains.{Table, no_table, Layout, after_fragment, chain, record_row, place_row, place_cells, IsRecord, cells_of, rows_from}
use Rattle.lama_snapshot.specs.Snap.{no_record}
use Rattle.lama_snapshot.proofs.CellsFrom.{cells_from-step}
use Rattle.lama_snapshot.proofs.ChainLemmas.{chain-levels, place-at, place-low, cells_of-at, row-visible}

-- the table that a place above the floor is in
abbrev pub level_table : Layout → ℕ → Table
level_table l level = get_or l.levels (level - l.floor - 1) no_table

-- an edge at a place in table r, and what is left behind it
pub record EdgeStep (l : Layout) (slots : List Slot) (v level r o left : ℕ) : Type 0 where
  pub target : ℕ
  pub slot_is : slice_get slots o ≡ Some (Edge target)
  pub some : IsSome (place_row l v level (o + 1) (left - 1))
  pub reads : place_cells l v level o left ≡ (target, record { table = r; place = o }) ∷ place_cells l v level (o + 1) (left - 1)

pub edge-step : (l : Layout) (v level o left : ℕ) → l.floor < level → level ≤ l.floor + length l.levels → 0 < left → IsSome (place_row l v level o left) → EdgeStep l (level_table l level).slots v level (level - l.floor) o left
edge-step l v level o left above within some h =
    let r = level - l.floor - 1 in
    let t = level_table l level in
    let now = place-at l v level o left above within in
    let next = place-at l v level (o + 1) (left - 1) above within in
    let s = cells_from-step (r + 1) t.slots (after_fragment l.floor r (chain l v r)) o left some (subst IsSome now h) in
    let is : r + 1 ≡ level - l.floor = omega arith in
    record {
      target = s.target;
      slot_is = s.slot_is;
      some = subst IsSome (sym next) s.some;
      reads = ap (λ x. unwrap_or x []) (now ∙ s.reads)
          ∙ (ap (λ x. (s.target, record { table = r + 1; place = o }) ∷ unwrap_or x []) (sym next)
          ∙ ap (λ k. (s.target, record { table = k; place = o }) ∷ place_cells l v level (o + 1) (left - 1)) is);
    }

-- and in the base
pub base-step : (l : Layout) (v level o left : ℕ) → level ≤ l.floor → 0 < left → IsSome (place_row l v level o left) → EdgeStep l (base_slots l.base) v level 0 o left
base-step l v level o left low some h =
    let now = place-low l v level o left low in
    let next = place-low l v level (o + 1) (left - 1) low in
    let s = cells_from-step 0 (base_slots l.base) (λ s. Some []) o left some (subst IsSome now h) in
    record {
      target = s.target;
      slot_is = s.slot_is;
      some = subst IsSome (sym next) s.some;
      reads = ap (λ x. unwrap_or x []) (now ∙ s.reads) ∙ ap (λ x. (s.target, record { table = 0; place = o }) ∷ unwrap_or x []) (sym next);
    }

-- behind a fragment above the floor
after-at : (l : Layout) (v level o : ℕ) → l.floor < level → level ≤ l.floor + length l.levels → (let r = level - l.floor - 1 in place_row l v level o 0 ≡ after_fragment l.floor r (chain l v r) (slice_get (level_table l level).slots o))
after-at l v level o above within = place-at l v level o 0 above within

pub tail-within : (l : Layout) (v level o : ℕ) → l.floor < level → level ≤ l.floor + length l.levels → IsSome (place_row l v level o 0) → o < length (level_table l level).slots
tail-within l v level o above within h = by (slice_get (level_table l level).slots o) refl (subst IsSome (after-at l v level o above within) h)
  where
    by : (s : Option Slot) → slice_get (level_table l level).slots o ≡ s → IsSome (after_fragment l.floor (level - l.floor - 1) (chain l v (level - l.floor - 1)) s) → o < length (level_table l level).slots
    by None is h = absurd (false≢true h)
    by (Some s) is h = slice_get_within (level_table l level).slots o s is

-- a continuation leads to an older level, or to the base
pub record NextStep (l : Layout) (v level o level' o' len' : ℕ) : Type 0 where
  pub older : level' < level
  pub leads : place_row l v level o 0 ≡ chain l v (length l.levels) (level' - l.floor) o' len'

pub next-step : (l : Layout) (v level o level' o' len' : ℕ) → l.floor < level → level ≤ l.floor + length l.levels → IsSome (place_row l v level o 0) → slice_get (level_table l level).slots o ≡ Some (Next level' o' len') → NextStep l v level o level' o' len'
next-step l v level o level' o' len' above within h is =
    let r = level - l.floor - 1 in
    let now = after-at l v level o above within ∙ ap (after_fragment l.floor r (chain l v r)) is in
    by (leb level' (l.floor + r)) refl (subst IsSome now h) now
  where
    by : (b : Bool) → leb level' (l.floor + (level - l.floor - 1)) ≡ b → IsSome (cond b (chain l v (level - l.floor - 1) (level' - l.floor) o' len') None) →
        place_row l v level o 0 ≡ cond b (chain l v (level - l.floor - 1) (level' - l.floor) o' len') None → NextStep l v level o level' o' len'
    by false t h now = absurd (false≢true h)
    by true t h now =
        let le : level' ≤ l.floor + (level - l.floor - 1) = grind (arith, nat_tests, t) in
        record {
          older = omega (arith, le);
          leads = now ∙ sym (chain-levels l v (level - l.floor - 1) (length l.levels) (level' - l.floor) o' len' (omega (arith, le)) (omega arith));
        }

-- and what is no continuation ends the row
pub end-step : (l : Layout) (v level o : ℕ) (s : Slot) → l.floor < level → level ≤ l.floor + length l.levels → IsSome (place_row l v level o 0) → slice_get (level_table l level).slots o ≡ Some s → ((a b c : ℕ) → s ≡ Next a b c → ⊥) → place_cells l v level o 0 ≡ []
end-step l v level o s above within h is other =
    let now = after-at l v level o above within ∙ ap (after_fragment l.floor (level - l.floor - 1) (chain l v (level - l.floor - 1))) is in
    ap (λ x. unwrap_or x []) now ∙ by s other (subst IsSome now h)
  where
    by : (s : Slot) → ((a b c : ℕ) → s ≡ Next a b c → ⊥) → IsSome (after_fragment l.floor (level - l.floor - 1) (chain l v (level - l.floor - 1)) (Some s)) → unwrap_or (after_fragment l.floor (level - l.floor - 1) (chain l v (level - l.floor - 1)) (Some s)) [] ≡ []
    by End other h = refl
    by (Edge t) other h = absurd (false≢true h)
    by (Next a b c) other h = absurd (other a b c refl)

-- the row that a record leads to
pub record RecordRow (l : Layout) (cols : Columns) (records : List VertexRec) (v : ℕ) (x : VertexRec) : Type 0 where
  pub leads : record_row l v x ≡ Some (get_or (cells_of l records) v [])
  pub degree : x.degree ≡ length (row_at (rows_from l cols records) v)
  pub level : x.level ≤ l.floor + length l.levels

pub record-row : (l : Layout) (cols : Columns) (records : List VertexRec) (v : ℕ) (x : VertexRec) → v < length records → x ≡ get_or records v no_record → IsRecord l cols v (get_or records v no_record) → RecordRow l cols records v x
record-row l cols records v x lt is h =
    let rec = get_or records v no_record in
    let row : get_or (cells_of l records) v [] ≡ h.row = cells_of-at l records v lt ∙ ap (λ o. unwrap_or o []) h.leads in
    let lev = h.level in let same = ap (λ (r : VertexRec). r.level) is in
    record {
      leads = ap (record_row l v) is ∙ (h.leads ∙ ap (λ r. Some r) (sym row));
      degree = ap (λ (r : VertexRec). r.degree) is ∙ (h.degree ∙ (ap (λ r. length (visible cols r)) (sym row) ∙ sym (ap length (row-visible cols (cells_of l records) v))));
      level = omega (arith, lev, same);
    }
