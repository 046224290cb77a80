use Rattle.std.proofs.Common.{◌≡◌, ℕ, ◌≤◌, List, length, take, IsErrAnd, MatchResult, Ok, Err, Result, sym, ap, ◌∙◌, arith}
use Rattle.std.proofs.lemmas.List.{take_all}
use Rattle.arena.specs.Tables.{arena_nodes}
use Rattle.arena.specs.declared.nodes.Node.{Node}
use Rattle.lexer.specs.Left.{bytes_of, left}
use Rattle.lexer.specs.declared.state.Lexer.{Lexer}
use Rattle.lexis.specs.Lines.{tokens}
use Rattle.syntax.specs.Reading.{source_tokens}
use Rattle.reader.specs.Answers.{answer_verdict}
use Rattle.reader.specs.Bodies.{verdict_of}
use Rattle.reader.specs.Feeds.{coming, feed_of, feed_source}
use Rattle.reader.specs.Stops.{refusal_verdict, stop_of}
use Rattle.reader.specs.declared.answers.Refusal.{Refusal}
use Rattle.reader.specs.declared.answers.Routine.{Routine}
use Rattle.reader.specs.declared.feeds.Feed.{Feed}
use Rattle.reader.specs.declared.refusals.Stop.{Stop}
use Rattle.reader.proofs.Sources.{judged_so, never_short, tokens_fit}
use Rattle.reader.proofs.reading.read_short.Goals as goal

-- the feed gives all tokens of the source
all_coming : (s : List ℕ) (n : ℕ) (x : Lexer) (f : Feed) → length s ≤ 4096 → n ≡ 4096 → (length s ≤ 4096 → length s ≤ n → left x ≡ tokens s) → coming f ≡ feed_of (left x) → coming f ≡ source_tokens s
all_coming s n x f l m enough e = e ∙ ap feed_of (enough l (omega (arith, l, m)))

-- of just this source
same_source : (s : List ℕ) (x : Lexer) (f : Feed) → length s ≤ 4096 → bytes_of x ≡ take 4096 s → feed_source f ≡ bytes_of x → feed_source f ≡ s
same_source s x f l b e = e ∙ b ∙ take_all 4096 s l

-- the refusal of a stop tells the same
mapped : (src : List ℕ) (ns : List Node) (p : Result Routine Stop) (r : Result Routine Refusal) → MatchResult p (λ a. r ≡ Ok a) (λ e. IsErrAnd r (λ y. refusal_verdict y ≡ stop_of e)) → answer_verdict src ns r ≡ verdict_of src ns p
mapped src ns (Ok a) r e = ap (answer_verdict src ns) e
mapped src ns (Err e) (Ok a) h = absurd h
mapped src ns (Err e) (Err y) h = h

pub invariant_of-parser : goal.invariant_of-parser
invariant_of-parser c =
    let s = c.args.source.now in
    let all = all_coming s (length c.args.slots.now) c.new.result c.new-feed.result c.requires.short c.requires.levels c.new.ensures.enough c.new-feed.ensures.coming in
    let few = tokens_fit s (coming c.new-feed.result) c.requires.short all in
    let none = ap length (c.take.ensures.nodes ∙ c.requires.empty) in
    record { room = omega (arith, few, none, c.take.ensures.limit, c.requires.room) }

pub map_err-requires : goal.map_err-requires
map_err-requires c e is ends =
    let s = c.args.source.now in
    let f = c.new-feed.result in
    let all = all_coming s (length c.args.slots.now) c.new.result f c.requires.short c.requires.levels c.new.ensures.enough c.new-feed.ensures.coming in
    let told : stop_of e ≡ verdict_of (feed_source f) (arena_nodes c.program-read.new.self.arena) c.program-read.result = ap (verdict_of (feed_source f) (arena_nodes c.program-read.new.self.arena)) (sym is) in
    never_short s (coming f) c.requires.short all (sym ends ∙ told ∙ c.program-read.ensures.verdict)

pub returns-clause-verdict : goal.returns-clause-verdict
returns-clause-verdict c =
    let s = c.args.source.now in
    let f = c.new-feed.result in
    let ns = arena_nodes c.program-read.new.self.arena in
    let all = all_coming s (length c.args.slots.now) c.new.result f c.requires.short c.requires.levels c.new.ensures.enough c.new-feed.ensures.coming in
    let same = same_source s c.new.result f c.requires.short c.new.ensures.bytes c.new-feed.ensures.source in
    ap (λ src. answer_verdict src ns c.map_err.result) (sym same) ∙ mapped (feed_source f) ns c.program-read.result c.map_err.result c.map_err.ensures.cases ∙ c.program-read.ensures.verdict ∙ judged_so s (coming f) c.requires.short all
