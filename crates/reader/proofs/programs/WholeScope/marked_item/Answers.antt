use Rattle.std.proofs.Common.{◌≡◌, ℕ, List, ◌∷◌, refl, ap}
use Rattle.arena.specs.Tables.{arena_nodes}
use Rattle.arena.specs.Trees.{phrase}
use Rattle.grammar.specs.Tree as tree
use Rattle.grammar.specs.Tree.{Decls, Token, at}
use Rattle.grammar.specs.Reader.{base, for_def, inside, naming, start}
use Rattle.grammar.specs.Limits.{limited}
use Rattle.reader.specs.Feeds.{coming, feed_source}
use Rattle.reader.specs.Owners.{IsProgram, Owner, frame_of, function, program}
use Rattle.reader.specs.declared.kinds.Mark.{Mark}
use Rattle.reader.proofs.BodySteps.{Undeclared, declaration_stop, declaration_told, joined, outer_at, word_here, word_stop, word_told}
use Rattle.reader.proofs.Steps.{Passed, passed}
use Rattle.reader.proofs.programs.WholeScope.marked_item.Goals as goal

def_comes : (x : Owner) → IsProgram x → (ds : Decls) (p : ℕ) (us : List Token) → limited 64 (at (tree.mark tree.def) p ∷ us) (start (base (frame_of x ds) tree.empty)) ≡ limited 64 us (naming (for_def p (inside (frame_of x ds))))
def_comes program y ds p us = refl
def_comes (function i n ps a o) y ds p us = absurd y

-- Other words begin no declaration of a program.
others : (m : Mark) → (m ≡ Mark.Def → ⊥) → (m ≡ Mark.Class → ⊥) → Undeclared IsProgram m
others Mark.Def no_def no_class x y ds p = absurd (no_def refl)
others Mark.Class no_def no_class x y ds p = absurd (no_class refl)
others _ no_def no_class program y ds p = refl
others _ no_def no_class (function i n ps a o) y ds p = absurd y

pub returns-in_err-function-in-Def : goal.returns-in_err-function-in-Def
returns-in_err-function-in-Def c =
    let f = c.args.parser.now.feed in
    let g = c.advance.new.self in
    let next = c.args.next in
    let begun : Passed (at (tree.mark tree.def) next.place) f g = passed (word_here f next Mark.Def c.args.mark c.in-Def.is c.requires.facing c.requires.kind) c.advance.ensures.coming c.advance.ensures.source in
    declaration_stop {P = IsProgram} {d = c.args.depth.levels} outer_at begun (λ x. def_comes x.owner x.owned x.declared next.place (coming g)) c.from_residual.result _ c.from_residual.ensures.1 c.in_err-function-in-Def.ensures

pub returns-in_err-worded-in_default : goal.returns-in_err-worded-in_default
returns-in_err-worded-in_default c =
    let f = c.args.parser.now.feed in
    let m = c.args.mark in
    word_stop {P = IsProgram} m (others m c.in_default.not-Def c.in_default.not-Class) (word_here f c.args.next m m refl c.requires.facing c.requires.kind) c.from_residual-in_err-worded-in_default.result _
    c.from_residual-in_err-worded-in_default.ensures.1 c.in_err-worded-in_default.ensures

pub returns-in_ok-function-in-Def : goal.returns-in_ok-function-in-Def
returns-in_ok-function-in-Def c =
    let f = c.args.parser.now.feed in
    let g = c.advance.new.self in
    let next = c.args.next in
    let i = c.in_ok-function-in-Def.field-0 in
    let begun : Passed (at (tree.mark tree.def) next.place) f g = passed (word_here f next Mark.Def c.args.mark c.in-Def.is c.requires.facing c.requires.kind) c.advance.ensures.coming c.advance.ensures.source in
    declaration_told {P = IsProgram} {d = c.args.depth.levels} outer_at begun (λ x. def_comes x.owner x.owned x.declared next.place (coming g)) i c.in_ok-function-in-Def.ensures
    (λ x. ap (limited 64 (coming c.function.new.self.feed)) (joined x.owner x.declared (phrase (feed_source g) (arena_nodes c.function.new.self.arena) i).decl))

pub returns-in_ok-worded-in_default : goal.returns-in_ok-worded-in_default
returns-in_ok-worded-in_default c =
    let f = c.args.parser.now.feed in
    let m = c.args.mark in
    word_told {P = IsProgram} m (others m c.in_default.not-Def c.in_default.not-Class) (word_here f c.args.next m m refl c.requires.facing c.requires.kind) c.in_ok-worded-in_default.field-0 c.in_ok-worded-in_default.ensures
