use Rattle.std.proofs.Common.{◌≡◌, ℕ, List, ◌∷◌, refl, ap}
use Rattle.arena.specs.Tables.{arena_nodes}
use Rattle.arena.specs.Trees.{phrase}
use Rattle.grammar.specs.Tree as tree
use Rattle.grammar.specs.Tree.{Decls, Token, at}
use Rattle.grammar.specs.Reader.{base, for_global, inside, naming, start}
use Rattle.grammar.specs.Limits.{limited}
use Rattle.reader.specs.Feeds.{coming, feed_source}
use Rattle.reader.specs.Owners.{IsFunction, Owner, frame_of, function, program}
use Rattle.reader.specs.declared.kinds.Mark.{Mark}
use Rattle.reader.proofs.BodySteps.{Undeclared, declaration_stop, declaration_told, joined, outer_at, word_here, word_stop, word_told}
use Rattle.reader.proofs.Steps.{Passed, passed}
use Rattle.reader.proofs.locals.LocalScope.marked_item.Goals as goal

global_comes : (x : Owner) → IsFunction x → (ds : Decls) (p : ℕ) (us : List Token) → limited 64 (at (tree.mark tree.global) p ∷ us) (start (base (frame_of x ds) tree.empty)) ≡ limited 64 us (naming (for_global p (inside (frame_of x ds))))
global_comes program y ds p us = absurd y
global_comes (function i n ps a o) y ds p us = refl

-- Other words begin no declaration of a function.
others : (m : Mark) → (m ≡ Mark.Def → ⊥) → (m ≡ Mark.Nonlocal → ⊥) → (m ≡ Mark.Global → ⊥) → Undeclared IsFunction m
others Mark.Def no_def no_nonlocal no_global x y ds p = absurd (no_def refl)
others Mark.Nonlocal no_def no_nonlocal no_global x y ds p = absurd (no_nonlocal refl)
others Mark.Global no_def no_nonlocal no_global x y ds p = absurd (no_global refl)
others _ no_def no_nonlocal no_global program y ds p = absurd y
others _ no_def no_nonlocal no_global (function i n ps a o) y ds p = refl

pub returns-in_err-global-in-Global : goal.returns-in_err-global-in-Global
returns-in_err-global-in-Global c =
    let f = c.args.parser.now.feed in
    let g = c.advance.new.self in
    let next = c.args.next in
    let begun : Passed (at (tree.mark tree.global) next.place) f g = passed (word_here f next Mark.Global c.args.mark c.in-Global.is c.requires.facing c.requires.kind) c.advance.ensures.coming c.advance.ensures.source in
    declaration_stop {P = IsFunction} {d = c.args.depth.levels} outer_at begun (λ x. global_comes x.owner x.owned x.declared next.place (coming g)) c.from_residual.result _ c.from_residual.ensures.1 c.in_err-global-in-Global.ensures

pub returns-in_err-worded-in_default : goal.returns-in_err-worded-in_default
returns-in_err-worded-in_default c =
    let f = c.args.parser.now.feed in
    let m = c.args.mark in
    word_stop {P = IsFunction} m (others m c.in_default.not-Def c.in_default.not-Nonlocal c.in_default.not-Global) (word_here f c.args.next m m refl c.requires.facing c.requires.kind) c.from_residual-in_err-worded-in_default.result _
    c.from_residual-in_err-worded-in_default.ensures.1 c.in_err-worded-in_default.ensures

pub returns-in_ok-global-in-Global : goal.returns-in_ok-global-in-Global
returns-in_ok-global-in-Global c =
    let f = c.args.parser.now.feed in
    let g = c.advance.new.self in
    let next = c.args.next in
    let i = c.in_ok-global-in-Global.field-0 in
    let begun : Passed (at (tree.mark tree.global) next.place) f g = passed (word_here f next Mark.Global c.args.mark c.in-Global.is c.requires.facing c.requires.kind) c.advance.ensures.coming c.advance.ensures.source in
    declaration_told {P = IsFunction} {d = c.args.depth.levels} outer_at begun (λ x. global_comes x.owner x.owned x.declared next.place (coming g)) i c.in_ok-global-in-Global.ensures
    (λ x. ap (limited 64 (coming c.global.new.self.feed)) (joined x.owner x.declared (phrase (feed_source g) (arena_nodes c.global.new.self.arena) i).decl))

pub returns-in_ok-worded-in_default : goal.returns-in_ok-worded-in_default
returns-in_ok-worded-in_default c =
    let f = c.args.parser.now.feed in
    let m = c.args.mark in
    word_told {P = IsFunction} m (others m c.in_default.not-Def c.in_default.not-Nonlocal c.in_default.not-Global) (word_here f c.args.next m m refl c.requires.facing c.requires.kind) c.in_ok-worded-in_default.field-0 c.in_ok-worded-in_default.ensures
