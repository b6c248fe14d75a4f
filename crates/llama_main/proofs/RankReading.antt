-- Ranks and degree totals of a snapshot's rows are those of its graph.
use Rattle.std.proofs.Common.{◌≡◌, ◌∙◌, ℕ, suc, ◌+◌, ◌<◌, ◌≤◌, List, [], ◌∷◌, length, map, reverse, Bool, refl, sym, ap, arith}
use Rattle.std.specs.Prelude.{◌==◌, All, count_by}
use Rattle.std.proofs.lemmas.List.Elements.{All-nil, All-append, All-map}
use Rattle.std.proofs.lemmas.List.Sums.{sum_by-cons}
use Rattle.std.proofs.lemmas.List.FromFn.{length-map-range_with_len}
use Rattle.lama_base.specs.declared.Edge.{Edge}
use Rattle.lama_model.specs.Graph.{Graph, IsGraph}
use Rattle.lama_model.specs.Row.{row_at, edges_in, edges_of_rows, graph_of_rows, AreRowsOf}
use Rattle.lama_model.specs.Degrees.{out_degrees, count_sinks}
use Rattle.lama_model.specs.Ranks.{rank, ranks}
use Rattle.lama_model.specs.Lines.{greatest, degrees_line, ranks_text}
use Rattle.lama_model.specs.Text.{read_lines}
use Rattle.lama_model.specs.declared.commands.Read.TheVariants.{Degrees, Rank}
use Rattle.lama_model.proofs.Counting.{edges-counted}
use Rattle.lama_model.proofs.RowsOfGraph.{row-of-rows}
use Rattle.lama_model.proofs.RankLaw.{AreAlike, sources, out-degrees-alike, edges-alike, ranks-alike}
use Rattle.lama_snapshot.specs.Targets.{targets_of, all_targets}
use Rattle.lama_snapshot.proofs.TargetRows.{row-targets, count-targets, degree-targets}
use Rattle.lama_model.proofs.GraphSteps.{row-everywhere}
use Rattle.lama_rank.specs.declared.degree_totals.Totals.{Totals}
use Rattle.llama_main.proofs.Reading.{firsts}

-- each edge of rows leaves one of their vertices
sources-within : (n v : ℕ) (rows : List (List (ℕ × ℕ))) → v + length rows ≤ n → All (λ (e : Edge). e.source < n) (edges_of_rows v rows)
sources-within n v [] le = All-nil (λ (e : Edge). e.source < n)
sources-within n v (r ∷ rows) le =
    All-append (λ (e : Edge). e.source < n) (map (λ p. record { source = v; target = p.0; weight = p.1 }) (reverse r)) (edges_of_rows (suc v) rows)
    (All-map (λ (e : Edge). e.source < n) (λ (p : ℕ × ℕ). record { source = v; target = p.0; weight = p.1 }) (reverse r) (λ k d lt. omega (arith, le)))
    (sources-within n (suc v) rows (omega (arith, le)))

rows-sources : (rows : List (List (ℕ × ℕ))) → All (λ (e : Edge). e.source < length rows) (graph_of_rows rows).edges
rows-sources rows = sources-within (length rows) 0 rows (omega arith)

-- the rows of a graph within the limits have no more edges than it
pub edges-of-graph : (g : Graph) (rows : List (List (ℕ × ℕ))) → AreRowsOf rows g → IsGraph g → edges_in rows ≡ length g.edges
edges-of-graph g rows of is = edges-counted rows g of (sources g is)

pub edges-of-targets : (rows : List (List (ℕ × ℕ))) → edges_in (all_targets rows) ≡ edges_in rows
edges-of-targets [] = refl
edges-of-targets (r ∷ rows) =
    sum_by-cons (λ (r : List (ℕ × ℕ)). length r) (targets_of r) (all_targets rows)
    ∙ ((λ j. degree-targets r j + edges-of-targets rows j)
    ∙ sym (sum_by-cons (λ (r : List (ℕ × ℕ)). length r) r rows))

module _ (gs : ℕ → Graph) (f k : ℕ) (rows : List (List (ℕ × ℕ))) (of : AreRowsOf rows (gs k)) (is : IsGraph (gs k)) where
  abbrev g : Graph
  g = gs k

  rows-alike : AreAlike (graph_of_rows rows) g
  rows-alike = record { count = of.count; rows = λ v. ap (map (λ (p : ℕ × ℕ). p.0)) (row-of-rows rows v ∙ row-everywhere rows g v of is) }

  targets-alike : AreAlike (graph_of_rows (all_targets rows)) g
  targets-alike = record {
    count = count-targets rows ∙ of.count;
    rows = λ v.
        ap (map (λ (p : ℕ × ℕ). p.0)) (row-of-rows (all_targets rows) v ∙ row-targets rows v)
        ∙ (firsts (row_at rows v) ∙ ap (map (λ (p : ℕ × ℕ). p.0)) (row-everywhere rows g v of is));
  }

  -- all ranks
  pub ranks-read : (rounds : ℕ) (sum : Bool) → ranks_text k rounds (ranks (graph_of_rows (all_targets rows)) rounds) sum ≡ read_lines gs f k (Rank rounds sum)
  unfolding read_lines
  ranks-read rounds sum = ap (λ rs. ranks_text k rounds rs sum) (ranks-alike (graph_of_rows (all_targets rows)) g targets-alike (rows-sources (all_targets rows)) (sources g is) rounds)

  -- all totals
  pub degrees-read : (t : Totals) → t.vertices ≡ length rows → t.edges ≡ length (graph_of_rows rows).edges
      → t.greatest ≡ greatest (out_degrees (graph_of_rows rows)) → t.sinks ≡ count_sinks (graph_of_rows rows)
      → degrees_line k t.vertices t.edges t.greatest t.sinks ≡ read_lines gs f k Degrees
  unfolding read_lines
  degrees-read t vertices edges most sinks =
      let all = edges ∙ edges-alike (graph_of_rows rows) g rows-alike (rows-sources rows) (sources g is) in
      let same = out-degrees-alike (graph_of_rows rows) g rows-alike in
      λ j. degrees_line k ((vertices ∙ of.count) j) (all j) ((most ∙ ap greatest same) j) ((sinks ∙ ap (count_by (λ d. d == 0)) same) j)

pub ranks-count : (g : Graph) (i : ℕ) → length (ranks g i) ≡ g.count
unfolding ranks
ranks-count g i = length-map-range_with_len (rank g i) 0 g.count
