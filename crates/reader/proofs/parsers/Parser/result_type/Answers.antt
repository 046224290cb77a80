use Rattle.std.proofs.Common.{◌≡◌, ℕ, List, [], refl, ap, arith}
use mathlib.Core.Option.{none}
use Rattle.arena.specs.Tables.{arena_nodes}
use Rattle.arena.specs.Trees.{phrase}
use Rattle.grammar.specs.Tree as tree
use Rattle.grammar.specs.Tree.{Ann, Token, at}
use Rattle.grammar.specs.Reader.{State, base, block_of, either, locals, of_result, seq, typed, typing}
use Rattle.grammar.specs.Limits.{limited}
use Rattle.grammar.specs.Verdict.{judged}
use Rattle.reader.specs.Feeds.{coming, feed_source}
use Rattle.reader.specs.Functions.{SignedAt}
use Rattle.reader.specs.Stops.{stop_of}
use Rattle.reader.specs.Taking.{NoMark}
use Rattle.reader.specs.Types.{SlotAt}
use Rattle.reader.specs.declared.kinds.Mark.{Mark}
use Rattle.reader.specs.declared.refusals.Stop.{Stop}
use Rattle.reader.proofs.Leading.{Along, along, stepped, stopped_behind, told_ok}
use Rattle.reader.proofs.Refusing.{no_mark_here}
use Rattle.reader.proofs.Steps.{Passed, kept_still, passed_long}
use Rattle.reader.proofs.parsers.Parser.result_type.Goals as goal

-- a place for the result
abbrev slot_of : {d : ℕ} → SignedAt d → SlotAt d
slot_of x = record { slot = of_result x.place x.name x.list x.outer; deep = x.deep }

pub returns-in_err-result : goal.returns-in_err-result
returns-in_err-result c =
    let f = c.args.self.now.feed in
    let g = c.take_mark.new.self in
    let ok = c.in_ok-take_mark.ensures in
    let bad = c.in_err-result.ensures in
    let begun : Passed (at (tree.mark tree.arrow) ok.told.0) f g = record { first = ok.told.1; source = ok.source } in
    let next : SignedAt c.args.depth.levels → State = λ x. typing (slot_of x).slot in
    stopped_behind c.from_residual-in_err-result.result _ c.from_residual-in_err-result.ensures.1
    (stepped c.args.self.now.arena (λ x. seq tree.arrow [] (next x)) next begun (λ x. refl)) bad.kept
    (λ x. bad.tells (slot_of x))

-- no colon comes after the result
no_end : {d : ℕ} (x : SignedAt d) (a : Ann) (ts : List Token) (e : Stop) → NoMark Mark.Colon ts e → judged (limited 64 ts (typed a (slot_of x).slot)) ≡ stop_of e
no_end x a ts e = no_mark_here Mark.Colon (λ q. block_of (base (locals x.place x.name x.list a tree.no_decls x.outer) tree.empty)) (typed a (slot_of x).slot) ts e refl (λ t h. ap (λ y. either y none) h)

pub returns-in_err-take_mark-2 : goal.returns-in_err-take_mark-2
returns-in_err-take_mark-2 c =
    let f = c.args.self.now.feed in
    let g = c.take_mark.new.self in
    let h = c.annotation.new.self.feed in
    let m = c.annotation.new.self.arena in
    let ok = c.in_ok-take_mark.ensures in
    let read = c.in_ok-result.ensures in
    let bad = c.in_err-take_mark-2.ensures in
    let begun : Passed (at (tree.mark tree.arrow) ok.told.0) f g = record { first = ok.told.1; source = ok.source } in
    let next : SignedAt c.args.depth.levels → State = λ x. typing (slot_of x).slot in
    let a = (phrase (feed_source g) (arena_nodes m) c.in_ok-result.result).ann in
    let typed_on : Along (λ x. limited 64 (coming g) (next x)) (λ x. limited 64 (coming h) (typed a (slot_of x).slot)) g c.args.self.now.arena h m = record { kept = read.kept; goes = λ x. read.tells.1 (slot_of x) } in
    stopped_behind c.from_residual-in_err-take_mark-2.result _ c.from_residual-in_err-take_mark-2.ensures.1
    (along (stepped c.args.self.now.arena (λ x. seq tree.arrow [] (next x)) next begun (λ x. refl)) typed_on)
    (kept_still m bad.told.1 bad.source)
    (λ x. no_end x a (coming h) _ bad.told.0)

pub returns : goal.returns
returns c =
    let f = c.args.self.now.feed in
    let g = c.take_mark.new.self in
    let h = c.annotation.new.self.feed in
    let k = c.take_mark-2.new.self in
    let m = c.annotation.new.self.arena in
    let i = c.in_ok-result.result in
    let ok = c.in_ok-take_mark.ensures in
    let read = c.in_ok-result.ensures in
    let end = c.in_ok-take_mark-2.ensures in
    let begun : Passed (at (tree.mark tree.arrow) ok.told.0) f g = record { first = ok.told.1; source = ok.source } in
    let ended : Passed (at (tree.mark tree.colon) end.told.0) h k = record { first = end.told.1; source = end.source } in
    let next : SignedAt c.args.depth.levels → State = λ x. typing (slot_of x).slot in
    let a = (phrase (feed_source g) (arena_nodes m) i).ann in
    let body : Ann → SignedAt c.args.depth.levels → State = λ b x. block_of (base (locals x.place x.name x.list b tree.no_decls x.outer) tree.empty) in
    let typed_on : Along (λ x. limited 64 (coming g) (next x)) (λ x. limited 64 (coming h) (typed a (slot_of x).slot)) g c.args.self.now.arena h m = record { kept = read.kept; goes = λ x. read.tells.1 (slot_of x) } in
    let long = passed_long begun in
    let more = passed_long ended in
    told_ok (along (along (stepped c.args.self.now.arena (λ x. seq tree.arrow [] (next x)) next begun (λ x. refl)) typed_on) (stepped m (λ x. typed a (slot_of x).slot) (body a) ended (λ x. refl)))
    read.tells.0 (omega (arith, long, more, read.kept.cost))
    (λ x. ap (λ s. limited 64 (coming k) (body (phrase s (arena_nodes m) i).ann x)) ok.source)
