use Rattle.std.proofs.Common.{◌≡◌, ℕ, ◌+◌, ◌≤◌, List, [], ◌∷◌, length, Ok, refl, ap, ◌∙◌, arith}
use Rattle.arena.specs.Trees.{named, spelled}
use Rattle.arena.specs.declared.nodes.Stretch.{Stretch}
use Rattle.grammar.specs.Tree as tree
use Rattle.grammar.specs.Tree.{Decls, Id, at}
use Rattle.grammar.specs.Reader.{State, for_class, for_super, inner, naming, seq}
use Rattle.grammar.specs.Limits.{limited}
use Rattle.grammar.specs.Verdict.{judged}
use Rattle.reader.specs.Feeds.{coming, feed_source}
use Rattle.reader.specs.Levels.{RoundTold}
use Rattle.reader.specs.Places.{Inward}
use Rattle.reader.specs.declared.depths.Depth.{Depth}
use Rattle.reader.specs.declared.feeds.Feed.{Feed}
use Rattle.reader.specs.declared.kinds.Mark.{Mark}
use Rattle.reader.proofs.DefinitionSteps.{no_name, no_seq}
use Rattle.reader.proofs.Leading.{ungot}
use Rattle.reader.proofs.Steps.{Passed, passed_long}
use Rattle.reader.proofs.feeds.Feed.class_names.Goals as goal

-- past the parenthesis, the superclass's name
abbrev above : ℕ → Id → Decls → Inward 0
above p n ds = record { state = naming (for_super p n ds); deep = refl }

-- the name and the parenthesis were read
record Opened (p : ℕ) (n : Id) (f h : Feed) : Type 0 where
  source : feed_source h ≡ feed_source f
  count : length (coming h) + 2 ≤ length (coming f)
  goes : (ds : Decls) → limited 64 (coming f) (naming (for_class p ds)) ≡ limited 64 (coming h) (naming (for_super p n ds))

opened : {f g h : Feed} {r : Depth} (p : ℕ) (name : Stretch) → Passed (at (tree.name (spelled (feed_source f) name)) name.at) f g → RoundTold 0 g h (Ok r) → Opened p (named (feed_source f) name) f h
opened {f = f} p name a b =
    let long = passed_long a in
    record {
      source = b.source ∙ a.source;
      count = omega (arith, long, b.gets.count);
      goes = λ ds. ap (λ ts. limited 64 ts (naming (for_class p ds))) a.first ∙ b.gets.goes (above p (named (feed_source f) name) ds);
    }

pub returns-in_err-take_round : goal.returns-in_err-take_round
returns-in_err-take_round c =
    let f = c.args.self.now in
    let g = c.take_name.new.self in
    let p = c.args.place in
    let name = c.in_ok-name.name in
    let ok = c.in_ok-name.ensures in
    let bad = c.in_err-take_round.ensures.told in
    let begun : Passed (at (tree.name (spelled (feed_source f) name)) name.at) f g = record { first = ok.told; source = ok.source } in
    let long = passed_long begun in
    ungot c.from_residual-in_err-take_round.result _ c.from_residual-in_err-take_round.ensures.1 (bad.source ∙ ok.source) (omega (arith, long, bad.fewer))
    (λ ds. ap (λ ts. judged (limited 64 ts (naming (for_class p ds)))) ok.told ∙ bad.gets (above p (named (feed_source f) name) ds))

pub returns-in_err-superclass : goal.returns-in_err-superclass
returns-in_err-superclass c =
    let f = c.args.self.now in
    let g = c.take_name.new.self in
    let h = c.take_round.new.self in
    let p = c.args.place in
    let name = c.in_ok-name.name in
    let ok = c.in_ok-name.ensures in
    let bad = c.in_err-superclass.ensures in
    let begun : Passed (at (tree.name (spelled (feed_source f) name)) name.at) f g = record { first = ok.told; source = ok.source } in
    let past = opened p name begun c.in_ok-take_round.ensures.told in
    let same = ap length bad.told.1 in
    ungot c.from_residual-in_err-superclass.result _ c.from_residual-in_err-superclass.ensures.1 (bad.source ∙ past.source) (omega (arith, same, past.count))
    (λ ds. ap judged (past.goes ds) ∙ no_name (for_super p (named (feed_source f) name) ds) (coming h) _ bad.told.0)

-- the marks after the names, and the members
abbrev marks : List tree.Mark
marks = tree.colon ∷ tree.newline ∷ tree.indent ∷ []

pub returns-in_err-take_mark : goal.returns-in_err-take_mark
returns-in_err-take_mark c =
    let f = c.args.self.now in
    let g = c.take_name.new.self in
    let h = c.take_round.new.self in
    let k = c.take_name-2.new.self in
    let p = c.args.place in
    let name = c.in_ok-name.name in
    let super = c.in_ok-superclass.superclass in
    let ok = c.in_ok-name.ensures in
    let also = c.in_ok-superclass.ensures in
    let bad = c.in_err-take_mark.ensures in
    let begun : Passed (at (tree.name (spelled (feed_source f) name)) name.at) f g = record { first = ok.told; source = ok.source } in
    let past = opened p name begun c.in_ok-take_round.ensures.told in
    let long = ap length also.told in
    let same = ap length bad.told.1 in
    ungot c.from_residual-in_err-take_mark.result _ c.from_residual-in_err-take_mark.ensures.1 (bad.source ∙ also.source ∙ past.source) (omega (arith, same, long, past.count))
    (λ ds.
    ap judged (past.goes ds ∙ ap (λ ts. limited 64 ts (naming (for_super p (named (feed_source f) name) ds))) also.told)
    ∙ no_seq Mark.RightRound marks (inner p (named (feed_source f) name) (named (feed_source h) super) tree.no_decls ds) (coming k) _ bad.told.0)

pub returns : goal.returns
returns c =
    let f = c.args.self.now in
    let g = c.take_name.new.self in
    let h = c.take_round.new.self in
    let k = c.take_name-2.new.self in
    let l = c.take_mark.new.self in
    let p = c.args.place in
    let name = c.in_ok-name.name in
    let super = c.in_ok-superclass.superclass in
    let ok = c.in_ok-name.ensures in
    let also = c.in_ok-superclass.ensures in
    let end = c.in_ok-take_mark.ensures in
    let begun : Passed (at (tree.name (spelled (feed_source f) name)) name.at) f g = record { first = ok.told; source = ok.source } in
    let past = opened p name begun c.in_ok-take_round.ensures.told in
    let long = ap length also.told in
    let more = ap length end.told.1 in
    let rest : List ℕ → Decls → State = λ s ds. inner p (named (feed_source f) name) (named s super) tree.no_decls ds in
    record {
      source = end.source ∙ also.source ∙ past.source;
      fewer = omega (arith, long, more, past.count);
      gets = record {
        count = omega (arith, long, more, past.count);
        goes = λ ds.
            past.goes ds ∙ ap (λ ts. limited 64 ts (naming (for_super p (named (feed_source f) name) ds))) also.told
            ∙ ap (λ ts. limited 64 ts (seq tree.rparen marks (rest (feed_source h) ds))) end.told.1
            ∙ ap (λ s. limited 64 (coming l) (seq tree.colon (tree.newline ∷ tree.indent ∷ []) (rest s ds))) past.source;
      };
    }
