use Rattle.std.proofs.Common.{◌≡◌, ℕ, ◌+◌, ◌<◌, List, ◌∷◌, drop, Ok, Err, sym, ap, ◌∙◌, subst, arith}
use Rattle.arena.specs.declared.nodes.Node.{Node}
use Rattle.arena.specs.Tables.{arena_nodes}
use Rattle.arena.specs.Trees.{Phrase, phrase}
use Rattle.grammar.specs.Tree.{Token, at}
use Rattle.std.proofs.lemmas.Result.{err_from_is_err_and}
use Rattle.grammar.specs.Reader.{of_item, typed, typing}
use Rattle.grammar.specs.Limits.{limited}
use Rattle.grammar.specs.Verdict.{judged}
use Rattle.reader.specs.Feeds.{NextTold, coming, feed_source}
use Rattle.reader.specs.Kinds.{kind_model, next_token}
use Rattle.reader.specs.Types.{SlotAt, TypeTells}
use Rattle.reader.specs.declared.kinds.Kind.TheVariants.{LeftSquare}
use Rattle.reader.specs.declared.kinds.Next.{Next}
use Rattle.reader.proofs.Storing.{stored}
use Rattle.reader.proofs.TypeMoves.{no_item_end, opens_item}
use Rattle.reader.proofs.parsers.Parser.+annotation_list_type.Goals as goal

pub annotation-returns-in-Name-clause-tells : goal.annotation-returns-in-Name-clause-tells
annotation-returns-in-Name-clause-tells t c =
    let f = c.args.self.now.feed in
    let src = feed_source f in
    let n = c.in_ok-next.next in
    let told = subst (NextTold src (coming f)) c.in_ok-next.ensures.ok_part c.next.ensures in
    let adv = c.advance.ensures in
    let st = c.store.ensures in
    let k = stored src (arena_nodes c.args.self.now.arena) (arena_nodes c.store.new.arena) _ c.store.result st.index st.nodes in (
      k.here,
      (λ x.
          ap (λ ts. limited 64 ts (typing x.slot)) (told ∙ (λ i. at (kind_model src n.place (c.in-Name.is i)) n.place ∷ sym adv.coming i))
          ∙ ap (λ (p : Phrase). limited 64 (coming c.advance.new.self) (typed p.ann x.slot)) (sym k.stands)),
    )

pub annotation-returns-in-Text-clause-tells : goal.annotation-returns-in-Text-clause-tells
annotation-returns-in-Text-clause-tells t c =
    let f = c.args.self.now.feed in
    let src = feed_source f in
    let n = c.in_ok-next.next in
    let told = subst (NextTold src (coming f)) c.in_ok-next.ensures.ok_part c.next.ensures in
    let adv = c.advance-in-Text.ensures in
    let st = c.store-in-Text.ensures in
    let k = stored src (arena_nodes c.args.self.now.arena) (arena_nodes c.store-in-Text.new.arena) _ c.store-in-Text.result st.index st.nodes in (
      k.here,
      (λ x.
          ap (λ ts. limited 64 ts (typing x.slot)) (told ∙ (λ i. at (kind_model src n.place (c.in-Text.is i)) n.place ∷ sym adv.coming i))
          ∙ ap (λ (p : Phrase). limited 64 (coming c.advance-in-Text.new.self) (typed p.ann x.slot)) (sym k.stands)),
    )

-- past the bracket, with one level more
inner : (src : List ℕ) (n : Next) (d : ℕ) (ts us : List Token) → ts ≡ next_token src n ∷ drop 1 ts → n.kind ≡ LeftSquare → us ≡ drop 1 ts → d < 64 → (x : SlotAt d) → limited 64 ts (typing x.slot) ≡ limited 64 us (typing (of_item n.place x.slot))
inner src n d ts us e k f l x =
    let deep = x.deep in
    ap (λ z. limited 64 z (typing x.slot)) (e ∙ (λ i. at (kind_model src n.place (k i)) n.place ∷ sym f i))
    ∙ opens_item n.place x.slot us (omega arith)

abbrev item_slot : (p : ℕ) {d e : ℕ} → e ≡ d + 1 → SlotAt d → SlotAt e
item_slot p l x = record { slot = of_item p x.slot; deep = omega (arith, x.deep, l) }

pub list_type-returns-in_err-element-clause-tells : goal.list_type-returns-in_err-element-clause-tells
list_type-returns-in_err-element-clause-tells t c =
    let f = c.args.self.now.feed in
    let g = c.advance.new.self in
    let n = c.args.next in
    let src = feed_source f in
    let d = c.args.depth.levels in
    let deeper = c.in_ok-inner.ensures in
    let most = c.in_ok-inner.inner.most in
    let adv = c.advance.ensures in
    let told = c.in_err-element.ensures in
    let p = err_from_is_err_and c.from_residual-in_err-element.result c.from_residual-in_err-element.ensures.1 in
    subst (TypeTells src (arena_nodes c.annotation.new.self.arena) d (coming f) (coming c.annotation.new.self.feed)) (sym (p.1 ∙ ap Err p.2))
    (λ x. ap judged (inner src n d (coming f) (coming g) c.requires.facing c.requires.bracket adv.coming (omega (arith, deeper, most)) x) ∙ told.tells (item_slot n.place deeper x))

-- an element that was read, in the terms of the source at the start
element_read : (src src' : List ℕ) (ns : List Node) (i p : ℕ) {d e : ℕ} (ts us : List Token) → src' ≡ src → e ≡ d + 1 → TypeTells src' ns e ts us (Ok i) → (x : SlotAt d) → limited 64 ts (typing (of_item p x.slot)) ≡ limited 64 us (typed (phrase src ns i).ann (of_item p x.slot))
element_read src src' ns i p ts us e l told x = told.1 (item_slot p l x) ∙ ap (λ s. limited 64 us (typed (phrase s ns i).ann (of_item p x.slot))) e

pub list_type-returns-in_err-take_mark-clause-tells : goal.list_type-returns-in_err-take_mark-clause-tells
list_type-returns-in_err-take_mark-clause-tells t c =
    let f = c.args.self.now.feed in
    let g = c.advance.new.self in
    let h = c.annotation.new.self.feed in
    let ns = arena_nodes c.annotation.new.self.arena in
    let n = c.args.next in
    let src = feed_source f in
    let d = c.args.depth.levels in
    let i = c.in_ok-element.element in
    let deeper = c.in_ok-inner.ensures in
    let most = c.in_ok-inner.inner.most in
    let adv = c.advance.ensures in
    let ok = c.in_ok-element.ensures in
    let bad = c.in_err-take_mark.ensures in
    let p = err_from_is_err_and c.from_residual-in_err-take_mark.result c.from_residual-in_err-take_mark.ensures.1 in
    subst (TypeTells src ns d (coming f) (coming c.take_mark.new.self)) (sym (p.1 ∙ ap Err p.2))
    (λ x.
    ap judged (inner src n d (coming f) (coming g) c.requires.facing c.requires.bracket adv.coming (omega (arith, deeper, most)) x
    ∙ element_read src (feed_source g) ns i n.place (coming g) (coming h) adv.source deeper ok.tells x)
    ∙ no_item_end (phrase src ns i).ann n.place x.slot (coming h) c.in_err-take_mark.field-0.0 bad.told.0)

pub list_type-returns-clause-tells : goal.list_type-returns-clause-tells
list_type-returns-clause-tells t c =
    let f = c.args.self.now.feed in
    let g = c.advance.new.self in
    let h = c.annotation.new.self.feed in
    let ns = arena_nodes c.annotation.new.self.arena in
    let n = c.args.next in
    let src = feed_source f in
    let d = c.args.depth.levels in
    let i = c.in_ok-element.element in
    let deeper = c.in_ok-inner.ensures in
    let most = c.in_ok-inner.inner.most in
    let adv = c.advance.ensures in
    let ok = c.in_ok-element.ensures in
    let closed = c.in_ok-take_mark.ensures in
    let st = c.store.ensures in
    let k = stored src ns (arena_nodes c.store.new.arena) _ c.store.result st.index st.nodes in (
      k.here,
      (λ x.
          inner src n d (coming f) (coming g) c.requires.facing c.requires.bracket adv.coming (omega (arith, deeper, most)) x
          ∙ element_read src (feed_source g) ns i n.place (coming g) (coming h) adv.source deeper ok.tells x
          ∙ ap (λ ts. limited 64 ts (typed (phrase src ns i).ann (of_item n.place x.slot))) closed.told.1
          ∙ ap (λ (q : Phrase). limited 64 (coming c.take_mark.new.self) (typed q.ann x.slot)) (sym k.stands)),
    )
