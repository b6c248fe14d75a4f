-- Totals of out-degrees, counted in parts.
use Rattle.std.specs.Prelude.{ℕ, ◌+◌, ◌%◌, ◌^◌, ◌==◌, max, if◌then◌else◌}
use Rattle.lama_rank.specs.declared.degree_totals.Totals.{Totals}

-- the totals of one vertex of this out-degree
abbrev pub of_one : ℕ → Totals
of_one degree = record { vertices = 1; edges = degree; greatest = degree; sinks = if degree == 0 then 1 else 0 }

-- the totals of no vertices
abbrev pub of_none : Totals
of_none = record { vertices = 0; edges = 0; greatest = 0; sinks = 0 }

-- the totals of both, of which each number has 32 bits
abbrev pub of_both : Totals → Totals → Totals
of_both a b = record {
  vertices = (a.vertices + b.vertices) % 2 ^ 32;
  edges = (a.edges + b.edges) % 2 ^ 32;
  greatest = max a.greatest b.greatest;
  sinks = (a.sinks + b.sinks) % 2 ^ 32;
}
