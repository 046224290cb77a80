use Rattle.std.proofs.Common.{ℕ, ◌+◌, ◌*◌, ◌<◌, ◌≤◌, List, [], length, IfOk, Ok, Err, Result, sym, refl, ap, ◌∙◌, arith}
use Rattle.arena.specs.Tables.{arena_nodes}
use Rattle.arena.specs.Trees.{named, phrase, spelled}
use Rattle.arena.specs.declared.arenas.Arena.{Arena}
use Rattle.arena.specs.declared.nodes.Stretch.{Stretch}
use Rattle.grammar.specs.Tree as tree
use Rattle.grammar.specs.Tree.{at}
use Rattle.grammar.specs.Reader.{State, for_def, inner, members, naming, of_var, seq, typing}
use Rattle.grammar.specs.Limits.{limited}
use Rattle.reader.specs.Classes.{MemberAt}
use Rattle.reader.specs.Definitions.{OuterAt, VariableTells}
use Rattle.reader.specs.Feeds.{coming, feed_source}
use Rattle.reader.specs.Keeping.{Kept}
use Rattle.reader.specs.Leading.{Tells}
use Rattle.reader.specs.declared.feeds.Feed.{Feed}
use Rattle.reader.specs.declared.refusals.Stop.{Stop}
use Rattle.reader.proofs.Leading.{along, along_as, stepped, told_behind}
use Rattle.reader.proofs.Steps.{Passed, passed_long}
use Rattle.reader.proofs.parsers.Parser.class_member.Goals as goal

-- where a member stands
abbrev in_class : MemberAt → OuterAt 1
in_class x = record { outer = members x.place x.name x.super x.members x.others; deep = refl }

-- where a member must begin, and past one
abbrev before : MemberAt → State
before x = inner x.place x.name x.super x.members x.others

abbrev past : List ℕ → Arena → ℕ → MemberAt → State
past src m i x = inner x.place x.name x.super (tree.decl x.members (phrase src (arena_nodes m) i).decl) x.others

pub returns-in-Some : goal.returns-in-Some
returns-in-Some c =
    let f = c.args.self.now.feed in
    let g = c.take_if.new.self in
    let h = c.function.new.self.feed in
    let came = c.in-Some.ensures in
    let p = c.in-Some.place in
    let begun : Passed (at (tree.mark tree.def) p) f g = record { first = came.told; source = came.source } in
    let long = passed_long begun in
    told_behind c.function.result in_class
    (stepped c.args.self.now.arena before (λ x. naming (for_def p (in_class x).outer)) begun (λ x. refl))
    c.function.ensures (omega (arith, long))
    (λ i x. ap (λ s. limited 64 (coming h) (past s c.function.new.self.arena i x)) came.source)

-- what reading a variable told, of a member
variable_told : {g h : Feed} {n m : Arena} (name : Stretch) (r : Result ℕ Stop) → Kept g n h m → VariableTells (feed_source g) (arena_nodes m) name 1 (coming g) (coming h) r
    → IfOk r (λ _. length (arena_nodes m) + 8 + 4 * length (coming h) ≤ length (arena_nodes n) + 4 * length (coming g))
    → Tells {X = MemberAt} 8 (λ i. i < length (arena_nodes m)) (λ x. limited 64 (coming g) (typing (of_var (named (feed_source g) name) (in_class x).outer))) (λ i x. limited 64 (coming h) (past (feed_source g) m i x)) g n h m r
variable_told name (Ok i) k t s = record { kept = k; leads = record { stored = t.0; spare = s; goes = λ x. t.1 (in_class x) } }
variable_told name (Err y) k t s = record { kept = k; leads = λ x. t (in_class x) }

pub returns : goal.returns
returns c =
    let f = c.args.self.now.feed in
    let g = c.take_if.new.self in
    let h = c.take_name.new.self in
    let k = c.take_mark.new.self in
    let l = c.variable.new.self.feed in
    let n = c.args.self.now.arena in
    let name = c.in_ok-name.name in
    let still = c.in_default.ensures in
    let ok = c.in_ok-name.ensures in
    let colon = c.in_ok-take_mark.ensures in
    let told = c.variable.ensures in
    let begun : Passed (at (tree.name (spelled (feed_source g) name)) name.at) f h = record { first = sym still.told.0 ∙ ok.told; source = ok.source ∙ still.source } in
    let on : Passed (at (tree.mark tree.colon) colon.told.0) h k = record { first = colon.told.1; source = colon.source } in
    let next : List ℕ → MemberAt → State = λ s x. typing (of_var (named s name) (in_class x).outer) in
    let long = passed_long begun in
    let more = passed_long on in
    told_behind c.variable.result (λ x. x)
    (along_as (along (stepped n before (λ x. seq tree.colon [] (next (feed_source g) x)) begun (λ x. refl)) (stepped n (λ x. seq tree.colon [] (next (feed_source g) x)) (next (feed_source g)) on (λ x. refl)))
    (λ x. ap (λ s. limited 64 (coming k) (next s x)) (sym (colon.source ∙ ok.source))))
    (variable_told name c.variable.result told.kept told.tells told.spare) (omega (arith, long, more))
    (λ i x. ap (λ s. limited 64 (coming l) (past s c.variable.new.self.arena i x)) (colon.source ∙ ok.source ∙ still.source))
