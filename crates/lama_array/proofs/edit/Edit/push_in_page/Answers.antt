use Rattle.std.proofs.Common.{◌≡◌, ◌+◌, ◌/◌, ◌%◌, ◌<◌, ◌++◌, [], ◌∷◌, ◌∙◌, true, false, ap, arith, length, map, not, refl, set, sym}
use Rattle.std.specs.Prelude.{if◌then◌else◌}
use Rattle.std.proofs.lemmas.List.{get_or-map, length-map, map-set}
use Rattle.lama_array.specs.Draft.{owns}
use Rattle.lama_array.specs.Held.{is_own, records_of}
use Rattle.lama_array.proofs.Paged.{length-kept}
use Rattle.lama_array.proofs.Pushed.{pushed-in-page}
use Rattle.lama_array.proofs.edit.Edit.push_in_page.Goals as goal

pub index_mut-tail-requires : goal.index_mut-tail-requires
index_mut-tail-requires g c =
    omega (arith, c.requires.inside, length-kept _ _ c.self.invariant, ap (λ d. length d.items) c.self.view_is, c.self.invariant.covered, c.self.inside.held.ok.0, length-map c.self.inside.held.items records_of)

pub overflow_add-self : goal.overflow_add-self
overflow_add-self g c = omega (arith, c.requires.room, length-kept _ _ c.self.invariant, ap (λ d. length d.items) c.self.view_is)

pub invariant_of-self-2 : goal.invariant_of-self-2
invariant_of-self-2 g c =
    let inside : 0 < c.self.inside.len % 256 = omega (arith, c.requires.inside, length-kept _ _ c.self.invariant, ap (λ d. length d.items) c.self.view_is) in
    (pushed-in-page records_of c.self.inside.len c.args.x c.self.inside.held.items _ c.self.invariant _ _ inside c.index_mut-tail.ensures.value
    (c.set.ensures.records ∙ ap (λ p. set p (c.self.inside.len % 256) c.args.x) c.in_ok-own.ensures.records) refl).paged

pub returns-clause-items : goal.returns-clause-items
returns-clause-items g c =
    let inside : 0 < c.self.inside.len % 256 = omega (arith, c.requires.inside, length-kept _ _ c.self.invariant, ap (λ d. length d.items) c.self.view_is) in
    (pushed-in-page records_of c.self.inside.len c.args.x c.self.inside.held.items _ c.self.invariant _ _ inside c.index_mut-tail.ensures.value
    (c.set.ensures.records ∙ ap (λ p. set p (c.self.inside.len % 256) c.args.x) c.in_ok-own.ensures.records) refl).items
    ∙ ap (λ d. d.items ++ c.args.x ∷ []) c.self.view_is

pub returns-clause-owned : goal.returns-clause-owned
returns-clause-owned g c =
    let size : c.self.inside.len ≡ length c.args.self.now.items = sym (length-kept _ _ c.self.invariant) ∙ ap (λ d. length d.items) c.self.view_is in
    map-set is_own c.self.inside.held.items (c.self.inside.len / 256) c.set.new.self
    ∙ ap (λ b. set (map is_own c.self.inside.held.items) (c.self.inside.len / 256) b) c.set.ensures.own
    ∙ ap (λ d. set d.owned (c.self.inside.len / 256) true) c.self.view_is
    ∙ ap (λ k. set c.args.self.now.owned (k / 256) true) size

pub returns-clause-made : goal.returns-clause-made
returns-clause-made g c =
    let items = c.self.inside.held.items in
    let size : c.self.inside.len ≡ length c.args.self.now.items = sym (length-kept _ _ c.self.invariant) ∙ ap (λ d. length d.items) c.self.view_is in
    let at : c.self.inside.len / 256 < length items = omega (arith, c.requires.inside, size, c.self.invariant.covered, length-map items records_of) in
    let before : is_own c.index_mut-tail.result.now ≡ owns c.args.self.now (length c.args.self.now.items / 256) =
    ap is_own c.index_mut-tail.ensures.value
    ∙ sym (get_or-map is_own items (c.self.inside.len / 256) c.index_mut-tail.result.now false at)
    ∙ ap (λ d. owns d (c.self.inside.len / 256)) c.self.view_is
    ∙ ap (λ k. owns c.args.self.now (k / 256)) size in
    c.in_ok-own.ensures.made ∙ ap (λ b. c.args.pages.now + (if not b then 1 else 0)) before
