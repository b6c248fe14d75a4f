-- One more record at the end of an array whose pages stand behind the entries of a table, f of each.
use Rattle.std.proofs.Common.{◌≡◌, ℕ, ◌+◌, ◌/◌, ◌%◌, ◌<◌, List, [], ◌∷◌, ◌++◌, length, get_or, map, replicate, set, take, sym, ◌∙◌, ap, subst, arith}
use Rattle.std.proofs.lemmas.List.{map_push, take_more_set}
use Rattle.std.proofs.Math.Seq.{take-set-lt}
use Rattle.lama_array.specs.Paged.{joined, IsPaged}
use Rattle.lama_array.proofs.Grown.{grown-at-edge, grown-paged}
use Rattle.lama_array.proofs.Paged.{length-joined, write-at, write-paged}

-- the table has len + 1 records, which are the len before and x
pub record Pushed {H A : Type 0} (f : H → List A) (len : ℕ) (x : A) (table new : List H) : Type 0 where
  pub paged : IsPaged (len + 1) (map f new)
  pub items : take (len + 1) (joined (map f new)) ≡ take len (joined (map f table)) ++ x ∷ []

module _ {H A : Type 0} (f : H → List A) (len : ℕ) (x : A) (table new : List H) (paged : IsPaged len (map f table)) where
  pub pushed-page : (h : H) → len % 256 ≡ 0 → new ≡ table ++ h ∷ [] → f h ≡ replicate 256 x → Pushed f len x table new
  pushed-page h edge is filled =
      let pages : map f new ≡ map f table ++ replicate 256 x ∷ [] = ap (λ hs. map f hs) is ∙ map_push f table h ∙ ap (λ p. map f table ++ p ∷ []) filled in
      let count : length (map f table) + 1 ≡ (len + 1 + 255) / 256 = omega (arith, edge, paged.covered, paged.tight) in
      record {
        paged = subst (λ ps. IsPaged (len + 1) ps) (sym pages) (grown-paged len 1 1 x (map f table) paged count);
        items = ap (λ ps. take (len + 1) (joined ps)) pages ∙ grown-at-edge len 1 1 x (map f table) paged count edge;
      }

  pub pushed-in-page : (h h' : H) → 0 < len % 256 → h ≡ get_or table (len / 256) h → f h' ≡ set (f h) (len % 256) x → new ≡ set table (len / 256) h' → Pushed f len x table new
  pushed-in-page h h' inside at is new-is =
      let more : IsPaged (len + 1) (map f table) = record { whole = paged.whole; covered = omega (arith, paged.covered); tight = omega (arith, paged.tight) } in
      let within : len < len + 1 = omega arith in
      let room : len < length (joined (map f table)) = omega (arith, length-joined 256 (map f table) paged.whole, more.covered) in
      record {
        paged = subst (λ hs. IsPaged (len + 1) (map f hs)) (sym new-is) (write-paged f table (len + 1) len more within h h' x at is);
        items = ap (λ hs. take (len + 1) (joined (map f hs))) new-is
            ∙ write-at f table (len + 1) len more within h h' x at is
            ∙ sym (take-set-lt (len + 1) (joined (map f table)) len x within)
            ∙ take_more_set (joined (map f table)) len x room;
      }
