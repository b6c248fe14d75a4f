use Rattle.std.proofs.lemmas.List.Sorted.{IsPermutation-map}
use Rattle.lama_paths.specs.Search.{bid}
use Rattle.lama_paths.proofs.search.Search.offer.Goals as goal

pub returns-clause-offers : goal.returns-clause-offers
returns-clause-offers g c = IsPermutation-map (bid g.S.Sum.value) _ _ (c.in_ok-push.ensures {u = tt}).permutation
