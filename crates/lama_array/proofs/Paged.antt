-- Lists in pages of w records: what a read, a write and more pages mean for the list.
use Rattle.std.proofs.Common.{◌≡◌, ℕ, zero, suc, ◌+◌, ◌-◌, ◌*◌, ◌/◌, ◌%◌, ◌<◌, ◌≤◌, List, [], ◌∷◌, ◌++◌, length, get_or, take, set, map, replicate, refl, sym, ◌∙◌, ap, arith, length-append, append_assoc}
use Rattle.std.specs.Prelude.{All}
use Rattle.std.proofs.lemmas.List.{get_or-map, get_or-take, map-set, length-map, length-set, get_or_append_left, get_or-append-add, set-append_left, set-append_right, length-take, replicate-append-replicate}
use Rattle.std.proofs.lemmas.List.Elements.{All-set}
use Rattle.std.proofs.Math.Seq.{take-set-lt}
use Rattle.lama_array.specs.Paged.{joined, IsPaged}

-- each page has w records
abbrev pub AreWhole : {A : Type 0} → ℕ → List (List A) → Type 0
AreWhole w ps = All (λ p. length p ≡ w) ps

pub whole-tail : {A : Type 0} (w : ℕ) (p : List A) (ps : List (List A)) → AreWhole w (p ∷ ps) → AreWhole w ps
whole-tail w p ps h = λ k d l. h (suc k) d (omega arith)

pub whole-head : {A : Type 0} (w : ℕ) (p : List A) (ps : List (List A)) → AreWhole w (p ∷ ps) → length p ≡ w
whole-head w p ps h = h 0 [] (omega arith)

pub joined-append : {A : Type 0} (ps qs : List (List A)) → joined (ps ++ qs) ≡ joined ps ++ joined qs
joined-append [] qs = refl
joined-append (p ∷ ps) qs = ap (λ t. p ++ t) (joined-append ps qs) ∙ sym (append_assoc p (joined ps) (joined qs))

pub joined-replicate : {A : Type 0} (w n : ℕ) (x : A) → joined (replicate n (replicate w x)) ≡ replicate (w * n) x
joined-replicate w zero x =
    let none : 0 ≡ w * 0 = omega arith in
    ap (λ k. replicate k x) none
joined-replicate w (suc n) x =
    ap (λ t. replicate w x ++ t) (joined-replicate w n x) ∙ replicate-append-replicate w (w * n) x ∙ ap (λ k. replicate k x) (omega arith)

pub length-joined : {A : Type 0} (w : ℕ) (ps : List (List A)) → AreWhole w ps → length (joined ps) ≡ w * length ps
length-joined w [] h = omega arith
length-joined w (p ∷ ps) h = omega (arith, length-append p (joined ps), whole-head w p ps h, length-joined w ps (whole-tail w p ps h))

pub get_or-joined : {A : Type 0} (w : ℕ) (ps : List (List A)) (q r : ℕ) (e : List A) (d : A) → AreWhole w ps → q < length ps → r < w → get_or (joined ps) (w * q + r) d ≡ get_or (get_or ps q e) r d
get_or-joined w [] q r e d h l m = absurd (omega arith)
get_or-joined w (p ∷ ps) zero r e d h l m =
    let at : w * 0 + r ≡ r = omega arith in
    ap (λ k. get_or (p ++ joined ps) k d) at ∙ get_or_append_left p (joined ps) d r (omega (arith, whole-head w p ps h))
get_or-joined w (p ∷ ps) (suc q) r e d h l m =
    let at : w * suc q + r ≡ length p + (w * q + r) = omega (arith, whole-head w p ps h) in
    ap (λ k. get_or (p ++ joined ps) k d) at ∙ get_or-append-add p (joined ps) (w * q + r) d
    ∙ get_or-joined w ps q r e d (whole-tail w p ps h) (omega arith) m

pub set-joined : {A : Type 0} (w : ℕ) (ps : List (List A)) (q r : ℕ) (e : List A) (x : A) → AreWhole w ps → q < length ps → r < w → set (joined ps) (w * q + r) x ≡ joined (set ps q (set (get_or ps q e) r x))
set-joined w [] q r e x h l m = absurd (omega arith)
set-joined w (p ∷ ps) zero r e x h l m =
    let at : w * 0 + r ≡ r = omega arith in
    ap (λ k. set (p ++ joined ps) k x) at ∙ set-append_left p (joined ps) r x (omega (arith, whole-head w p ps h))
set-joined w (p ∷ ps) (suc q) r e x h l m =
    let past : length p ≤ w * suc q + r = omega (arith, whole-head w p ps h) in
    let at : w * suc q + r - length p ≡ w * q + r = omega (arith, whole-head w p ps h) in
    set-append_right p (joined ps) (length p) (w * suc q + r) x refl past
    ∙ ap (λ k. p ++ set (joined ps) k x) at
    ∙ ap (λ t. p ++ t) (set-joined w ps q r e x (whole-tail w p ps h) (omega arith) m)

pub take_past : {A : Type 0} (xs ys : List A) (n : ℕ) → take (length xs + n) (xs ++ ys) ≡ xs ++ take n ys
take_past [] ys n =
    let at : 0 + n ≡ n = omega arith in
    ap (λ k. take k ys) at
take_past (x ∷ xs) ys n =
    let at : suc (length xs) + n ≡ suc (length xs + n) = omega arith in
    ap (λ k. take k (x ∷ (xs ++ ys))) at ∙ ap (λ t. x ∷ t) (take_past xs ys n)

-- the list has len records
pub length-kept : {A : Type 0} (len : ℕ) (ps : List (List A)) → IsPaged len ps → length (take len (joined ps)) ≡ len
length-kept len ps h = omega (arith, length-take len (joined ps), length-joined 256 ps h.whole, h.covered)

-- the record at i of a list in pages, from its page
pub read-in : {A : Type 0} (ps : List (List A)) (len i : ℕ) → IsPaged len ps → i < len → (page : List A) (r : A) → page ≡ get_or ps (i / 256) page → r ≡ get_or page (i % 256) r → r ≡ get_or (take len (joined ps)) i r
read-in ps len i paged within page r at read =
    let place : 256 * (i / 256) + i % 256 ≡ i = omega arith in
    let whole : get_or (joined ps) (256 * (i / 256) + i % 256) r ≡ get_or (get_or ps (i / 256) page) (i % 256) r =
    get_or-joined 256 ps (i / 256) (i % 256) page r paged.whole (omega (arith, paged.covered)) (omega arith) in
    read ∙ ap (λ p. get_or p (i % 256) r) at ∙ sym whole ∙ ap (λ k. get_or (joined ps) k r) place ∙ sym (get_or-take len (joined ps) i r within)

-- The places of an array whose pages stand behind the entries of a table, f of each.

module _ {H A : Type 0} (f : H → List A) (table : List H) (len i : ℕ) (paged : IsPaged len (map f table)) (within : i < len) where
  place : 256 * (i / 256) + i % 256 ≡ i
  place = omega arith

  pub in_table : i / 256 < length table
  in_table = omega (arith, paged.covered, length-map table f)

  in_page : i % 256 < 256
  in_page = omega arith

  pub read-at : (h : H) (page : List A) (r : A) → h ≡ get_or table (i / 256) h → page ≡ f h → r ≡ get_or page (i % 256) r → r ≡ get_or (take len (joined (map f table))) i r
  read-at h page r at is read =
      read-in (map f table) len i paged within page r (is ∙ ap f at ∙ sym (get_or-map f table (i / 256) h page in_table)) read

  page-at : (h : H) → h ≡ get_or table (i / 256) h → get_or (map f table) (i / 256) (f h) ≡ f h
  page-at h at = get_or-map f table (i / 256) h (f h) in_table ∙ ap f (sym at)

  whole-at : (h : H) → h ≡ get_or table (i / 256) h → length (f h) ≡ 256
  whole-at h at =
      let whole : length (get_or (map f table) (i / 256) (f h)) ≡ 256 = paged.whole (i / 256) (f h) (omega (arith, in_table, length-map table f)) in
      ap length (sym (page-at h at)) ∙ whole

  pub kept-paged : (h : H) → length (f h) ≡ 256 → IsPaged len (map f (set table (i / 256) h))
  kept-paged h whole =
      rw (map-set f table (i / 256) h) (record {
        whole = All-set (λ p. length p ≡ 256) (map f table) (i / 256) (f h) whole paged.whole;
        covered = omega (arith, paged.covered, length-set (map f table) (i / 256) (f h));
        tight = omega (arith, paged.tight, length-set (map f table) (i / 256) (f h));
      })

  pub write-paged : (h h' : H) (x : A) → h ≡ get_or table (i / 256) h → f h' ≡ set (f h) (i % 256) x → IsPaged len (map f (set table (i / 256) h'))
  write-paged h h' x at is = kept-paged h' (ap length is ∙ length-set (f h) (i % 256) x ∙ whole-at h at)

  pub write-at : (h h' : H) (x : A) → h ≡ get_or table (i / 256) h → f h' ≡ set (f h) (i % 256) x → take len (joined (map f (set table (i / 256) h'))) ≡ set (take len (joined (map f table))) i x
  write-at h h' x at is =
      let page : f h' ≡ set (get_or (map f table) (i / 256) (f h)) (i % 256) x = is ∙ ap (λ p. set p (i % 256) x) (sym (page-at h at)) in
      let whole : set (joined (map f table)) (256 * (i / 256) + i % 256) x ≡ joined (set (map f table) (i / 256) (set (get_or (map f table) (i / 256) (f h)) (i % 256) x)) =
      set-joined 256 (map f table) (i / 256) (i % 256) (f h) x paged.whole (omega (arith, in_table, length-map table f)) in_page in
      ap (λ ps. take len (joined ps)) (map-set f table (i / 256) h' ∙ ap (λ p. set (map f table) (i / 256) p) page)
      ∙ ap (λ t. take len t) (sym whole ∙ ap (λ k. set (joined (map f table)) k x) place)
      ∙ take-set-lt len (joined (map f table)) i x within
