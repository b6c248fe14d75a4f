use Rattle.std.proofs.Common.{◌≡◌, ◌+◌, ◌-◌, ◌/◌, ◌%◌, ◌<◌, ◌++◌, [], ◌∙◌, ap, arith, get_or, length, map, replicate, set, take}
use Rattle.std.proofs.lemmas.List.{length-map}
use Rattle.lama_array.specs.Held.{records_of}
use Rattle.lama_array.specs.Paged.{joined}
use Rattle.lama_array.proofs.Grown.{grown-at-edge, grown-in-page}
use Rattle.lama_array.proofs.grow.grow.Goals as goal

pub returns-then-filled-eq0-clause-items : goal.returns-then-filled-eq0-clause-items
returns-then-filled-eq0-clause-items g c =
    let before = map records_of c.args.held.now.items in
    let count : length before + (c.pages_for.result - c.len-old_pages.result) ≡ (c.args.len + c.args.n + 255) / 256 =
    omega (arith, c.pages_for.ensures, c.len-old_pages.ensures, c.args.held.now.ok.0, length-map c.args.held.now.items records_of, c.requires.paged.covered, c.requires.paged.tight) in
    ap (λ ps. take (c.args.len + c.args.n) (joined ps)) c.in_ok-push_filled.ensures.records
    ∙ grown-at-edge c.args.len c.args.n (c.pages_for.result - c.len-old_pages.result) c.args.x before c.requires.paged count c.if-filled-eq0.true

pub returns-in-Ok-clause-items : goal.returns-in-Ok-clause-items
returns-in-Ok-clause-items g c =
    let before = map records_of c.args.held.now.items in
    let more = c.pages_for.result - c.len-old_pages.result in
    let old_pages : c.len-old_pages.result ≡ length before = omega (arith, c.len-old_pages.ensures, c.args.held.now.ok.0, length-map c.args.held.now.items records_of) in
    let count : length before + more ≡ (c.args.len + c.args.n + 255) / 256 =
    omega (arith, c.pages_for.ensures, old_pages, c.requires.paged.covered, c.requires.paged.tight) in
    let inside : 0 < c.args.len % 256 = omega (arith, c.if-filled-eq0.false) in
    let rest = replicate (256 - c.args.len % 256) c.args.x in
    ap (λ ps. take (c.args.len + c.args.n) (joined ps)) c.in-Ok.ensures.records
    ∙ ap (λ ps. take (c.args.len + c.args.n) (joined (set ps (c.len-old_pages.result - 1) (take (c.args.len % 256) (get_or ps (c.len-old_pages.result - 1) []) ++ rest)))) c.in_ok-push_filled.ensures.records
    ∙ ap (λ k. let ps = before ++ replicate more (replicate 256 c.args.x) in take (c.args.len + c.args.n) (joined (set ps (k - 1) (take (c.args.len % 256) (get_or ps (k - 1) []) ++ rest)))) old_pages
    ∙ grown-in-page c.args.len c.args.n more c.args.x before c.requires.paged count inside
