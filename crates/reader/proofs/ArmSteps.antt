-- How the arms of an `if` and the tests and blocks of loops are put together.
use Rattle.std.proofs.Common.{◌≡◌, ℕ, List, [], ◌∷◌, ◌++◌, length, drop, Some, Ok, sym, refl, ap, ◌∙◌, arith, length-append}
use mathlib.Core.Option.{none}
use Rattle.arena.specs.Tables.{arena_limit, arena_nodes}
use Rattle.arena.specs.Trees.{Phrase, phrase, spelled}
use Rattle.arena.specs.declared.arenas.Arena.{Arena}
use Rattle.arena.specs.declared.nodes.Node.{Node}
use Rattle.arena.specs.declared.nodes.Stretch.{Stretch}
use Rattle.grammar.specs.Tree as tree
use Rattle.grammar.specs.Tree.{Arms, Stmt, Text, Token, at, mark_discrete}
use Rattle.grammar.specs.Reader.{Body, State, add, arm_test, arms, base, each_of, eachs, either, expect, for_each, loop_test, loops, more, naming, other, seq, start, starts, want}
use Rattle.grammar.specs.Profile.{Label, opening, plain}
use Rattle.grammar.specs.Limits.{Reading, body_depth, declaring, exceeds, heads, is_it, label, limited, operand, proceeds}
use Rattle.reader.specs.Feeds.{NextTold, coming, feed_source}
use Rattle.reader.specs.Kinds.{mark_of}
use Rattle.reader.specs.Places.{AroundAt, ArmsAt, BodyAt, NestAt, TestAt, an_else, in_for, in_if, in_while, nest_end, nest_of, test_hole}
use Rattle.reader.specs.Statements.{ArmTold, ArmsTold, GuardedTold}
use Rattle.reader.specs.Taking.{Another}
use Rattle.reader.specs.declared.feeds.Feed.{Feed}
use Rattle.reader.specs.declared.kinds.Kind.{Kind}
use Rattle.reader.specs.declared.kinds.Mark.{Mark}
use Rattle.reader.specs.declared.kinds.Next.{Next}
use Rattle.reader.specs.declared.statements.Guarded.{Guarded}
use Rattle.reader.proofs.Leading.{Along, along, along_as, along_stored, led_on, stepped}
use Rattle.reader.proofs.ListSteps.{stored_phrase}
use Rattle.reader.proofs.Steps.{Passed, faced, passed, passed_long}

-- Where an `if` stands, its tests, and the block after its `else`.
abbrev pub around : {d : ℕ} {ts : List Token} → BodyAt d ts → AroundAt d
around x = record { body = x.body; deep = x.deep }

abbrev pub if_test : {d : ℕ} → Arms → ℕ → AroundAt d → TestAt d
if_test aa p x = record { test = in_if aa p; body = x.body; deep = x.deep }

abbrev pub if_ways : {d : ℕ} {ts : List Token} → Arms → BodyAt d ts → ArmsAt d
if_ways aa x = record { ways = aa; body = x.body; deep = x.deep }

abbrev pub else_block : {d : ℕ} → ArmsAt d → NestAt d
else_block x = record { nest = an_else x.ways; body = x.body; deep = x.deep }

-- Where the tests of loops stand.
abbrev pub while_test : {d : ℕ} {ts : List Token} → ℕ → BodyAt d ts → TestAt d
while_test p x = record { test = in_while p; body = x.body; deep = x.deep }

abbrev pub for_test : {d : ℕ} {ts : List Token} → ℕ → Text → BodyAt d ts → TestAt d
for_test p v x = record { test = in_for p v; body = x.body; deep = x.deep }

-- What the machine reads: from a test on, and from the end of the block after it; from an arm's test on, and from the end
-- of some arms.
abbrev pub from_test : {d : ℕ} → Feed → TestAt d → Reading
from_test f x = limited 64 (coming f) (want (test_hole x.test x.body))

abbrev pub past_block : {d : ℕ} → Feed → Arena → List ℕ → Guarded → TestAt d → Reading
past_block f n src a x = limited 64 (coming f) (nest_end (nest_of x.test (phrase src (arena_nodes n) a.condition).expr) (phrase src (arena_nodes n) a.body).stmts x.body)

abbrev pub from_arm : {d : ℕ} → Feed → Arena → ℕ → ℕ → List ℕ → AroundAt d → Reading
from_arm f n before p src x = limited 64 (coming f) (want (arm_test (phrase src (arena_nodes n) before).arms p x.body))

abbrev pub past_arms : {d : ℕ} → Feed → Arena → List ℕ → ℕ → AroundAt d → Reading
past_arms f n src i x = limited 64 (coming f) (more (phrase src (arena_nodes n) i).arms x.body)

-- a test and its block were read
pub block_on : {X : Type 0} {d : ℕ} {o : X → Reading} {f g h : Feed} {n m l : Arena} (a : Guarded) (place : X → TestAt d) → Along o (λ x. from_test g (place x)) f n g m → GuardedTold d g m h l (Ok a)
    → Along o (λ x. past_block h l (feed_source f) a (place x)) f n h l
block_on {d = d} {g = g} {h = h} {l = l} a place b t = led_on place (λ s (x : TestAt d). from_test g x) (λ s e x. past_block h l s e x) b t

-- one arm was read, past its word; and those that begin with `elif`
pub arm_on : {X : Type 0} {d : ℕ} {o : X → Reading} {f g h : Feed} {n m l : Arena} (before p i : ℕ) (place : X → AroundAt d) → Along o (λ x. from_arm g m before p (feed_source f) (place x)) f n g m
    → ArmTold d before p g m h l (Ok i) → Along o (λ x. past_arms h l (feed_source f) i (place x)) f n h l
arm_on {d = d} {g = g} {h = h} {m = m} {l = l} before p i place b t = led_on place (λ s (x : AroundAt d). from_arm g m before p s x) (λ s j x. past_arms h l s j x) b t

pub arms_on : {X : Type 0} {d : ℕ} {o : X → Reading} {f g h : Feed} {n m l : Arena} (before i : ℕ) (place : X → AroundAt d) → Along o (λ x. past_arms g m (feed_source f) before (place x)) f n g m
    → ArmsTold d before g m h l (Ok i) → Along o (λ x. past_arms h l (feed_source f) i (place x)) f n h l
arms_on {d = d} {g = g} {h = h} {m = m} {l = l} before i place b t = led_on place (λ s (x : AroundAt d). past_arms g m s before x) (λ s j x. past_arms h l s j x) b t

-- the word that begins a statement was passed
pub word_passed : {f g : Feed} (m : Mark) (next : Next) → NextTold (feed_source f) (coming f) (Some next) → next.kind ≡ Kind.Mark m → coming g ≡ drop 1 (coming f) → feed_source g ≡ feed_source f
    → Passed (at (tree.mark (mark_of m)) next.place) f g
word_passed {f = f} m next facing kind = passed (faced (feed_source f) next (coming f) (Kind.Mark m) facing kind)

-- an `if` was passed, and two nodes were stored for what may not come
pub if_begun : {p i : ℕ} {f g : Feed} (d : ℕ) (n m l : Arena) → Passed (at (tree.mark tree.if) p) f g → arena_nodes m ≡ arena_nodes n ++ (Node.NoStatements ∷ []) → arena_limit m ≡ arena_limit n
    → i ≡ length (arena_nodes m) → arena_nodes l ≡ arena_nodes m ++ (Node.NoArms ∷ []) → arena_limit l ≡ arena_limit m
    → Along (λ (x : BodyAt d (coming f)). limited 64 (coming f) (start x.body)) (λ x. from_arm g l i p (feed_source f) (around x)) f n g l
if_begun {p = p} {i = i} {f = f} {g = g} d n m l word nodes limit index nodes' limit' =
    let long = passed_long word in
    let one = ap length nodes ∙ length-append (arena_nodes n) (Node.NoStatements ∷ []) in
    along_as (along_stored Node.NoArms (along_stored {m' = m} Node.NoStatements
    (stepped n (λ (x : BodyAt d (coming f)). start x.body) (λ x. want (arm_test tree.no_arms p x.body)) word (λ x. refl))
    nodes limit (omega (arith, long))) nodes' limit' (omega (arith, long, one)))
    (λ x. ap (λ (q : Phrase). limited 64 (coming g) (want (arm_test q.arms p x.body))) (sym (stored_phrase m l Node.NoArms i (feed_source f) index nodes')))

-- a `while` was passed
pub while_begun : {p : ℕ} {f g : Feed} (d : ℕ) (n : Arena) → Passed (at (tree.mark tree.while) p) f g
    → Along (λ (x : BodyAt d (coming f)). limited 64 (coming f) (start x.body)) (λ x. from_test g (while_test p x)) f n g n
while_begun {p = p} {f = f} d n word = stepped n (λ (x : BodyAt d (coming f)). start x.body) (λ x. want (loop_test p x.body)) word (λ x. refl)

-- a `for` was passed, its variable and `in`
pub for_begun : {p q : ℕ} {f g h k : Feed} (d : ℕ) (n : Arena) (v : Stretch) → Passed (at (tree.mark tree.for) p) f g → Passed (at (tree.name (spelled (feed_source g) v)) v.at) g h → Passed (at (tree.mark tree.within) q) h k
    → Along (λ (x : BodyAt d (coming f)). limited 64 (coming f) (start x.body)) (λ x. from_test k (for_test p (spelled (feed_source f) v) x)) f n k n
for_begun {p = p} {f = f} {g = g} {h = h} d n v word name within =
    let variable : BodyAt d (coming f) → State = λ x. naming (for_each p x.body) in
    let test : List ℕ → BodyAt d (coming f) → State = λ s x. want (each_of p (spelled s v) x.body) in
    along (stepped n (λ x. start x.body) variable word (λ x. refl))
    (along (stepped n variable (λ x. seq tree.within [] (test (feed_source f) x)) name (λ x. ap (λ s. limited 64 (coming h) (seq tree.within [] (test s x))) word.source))
    (stepped n (λ x. seq tree.within [] (test (feed_source f) x)) (test (feed_source f)) within (λ x. refl)))

-- No arm comes any more: the statement is complete, and the next one begins.
same_it : {X : Type 0} (d : Dec X) (l : Label) → is_it d l l ≡ l
same_it (yes a) l = refl
same_it (no a) l = refl

no_head : (m : tree.Mark) → heads plain m ≡ plain
no_head m = ap (is_it (mark_discrete tree.def m) plain) (same_it (mark_discrete tree.nonlocal m) plain) ∙ same_it (mark_discrete tree.def m) plain

no_heads : (d : ℕ) (t : Token) → operand d t ≡ label d (opening d) (heads plain) t
no_heads d (at (tree.name v) p) = refl
no_heads d (at (tree.lit v) p) = refl
no_heads d (at tree.dot p) = refl
no_heads d (at tree.lparen p) = refl
no_heads d (at tree.lbracket p) = refl
no_heads d (at tree.not_word p) = refl
no_heads d (at (tree.op o) p) = refl
no_heads d (at (tree.mark m) p) = sym (no_head m)
no_heads d (at (tree.wrong v) p) = refl

-- the labels of a body with one statement more are those of where an operand may begin
added_label : (s : Stmt) (b : Body) (t : Token) → operand (body_depth b) t ≡ label (body_depth (add s b)) (opening (body_depth (add s b))) (heads (declaring (add s b))) t
added_label s (base fr ss) t = no_heads (body_depth (base fr ss)) t
added_label s (arms aa p e ss b) t = no_heads (body_depth (arms aa p e ss b)) t
added_label s (other aa ss b) t = no_heads (body_depth (other aa ss b)) t
added_label s (loops p e ss b) t = no_heads (body_depth (loops p e ss b)) t
added_label s (eachs p v e ss b) t = no_heads (body_depth (eachs p v e ss b)) t

pub no_else : (aa : Arms) (b : Body) (ts : List Token) → Another Mark.Elif ts → Another Mark.Else ts → limited 64 ts (more aa b) ≡ limited 64 ts (start (add (tree.choose aa tree.empty) b))
no_else aa b [] u v = refl
no_else aa b (t ∷ ts) u v =
    let whole = add (tree.choose aa tree.empty) b in
    let arm : ℕ → State = λ p. want (arm_test aa p b) in
    let last : ℕ → State = λ p. seq tree.colon (tree.newline ∷ tree.indent ∷ []) (start (other aa tree.empty b)) in
    ap (λ x. proceeds (limited 64 ts) (exceeds 64 (operand (body_depth b) t)) t ts (either (either x (either (expect tree.else last t) none)) (starts whole t))) (u arm)
    ∙ ap (λ x. proceeds (limited 64 ts) (exceeds 64 (operand (body_depth b) t)) t ts (either (either x none) (starts whole t))) (v last)
    ∙ ap (λ x. proceeds (limited 64 ts) (exceeds 64 x) t ts (starts whole t)) (added_label (tree.choose aa tree.empty) b t)
