-- How blocks and the statements in them are read: the steps of the limited machine, and how what is told is put together.
use Rattle.std.proofs.Common.{◌≡◌, ℕ, suc, ◌+◌, ◌*◌, ◌<◌, ◌≤◌, List, [], ◌∷◌, ◌++◌, length, Ok, Err, Result, sym, refl, ap, ◌∙◌, subst, arith, length-append}
use mathlib.Core.Option.{none}
use Rattle.arena.specs.Tables.{arena_limit, arena_nodes}
use Rattle.arena.specs.Trees.{Phrase, phrase}
use Rattle.arena.specs.declared.arenas.Arena.{Arena}
use Rattle.arena.specs.declared.nodes.Node.TheVariants.{MoreStatements, NoStatements}
use Rattle.grammar.specs.Tree as tree
use Rattle.grammar.specs.Tree.{Expr, Form, Stmt, Stmts, Token, at}
use Rattle.grammar.specs.Reader.{Body, Offer, State, add, arms, base, block_of, decls, eachs, either, ends, have, locals, loops, main, on, other, pick, start, vars, want, when}
use Rattle.grammar.specs.Limits.{Reading, body_depth, limited, proceeds}
use Rattle.grammar.specs.Verdict.{judged}
use Rattle.reader.specs.Feeds.{coming, feed_source}
use Rattle.reader.specs.Kinds.{mark_of}
use Rattle.reader.specs.Levels.{IndentedTold}
use Rattle.reader.specs.Places.{BodyAt, Inward, Nest, NestAt, Sequel, SettledAt, Test, TestAt, Unclaimed, a_loop, an_arm, an_each, an_else, in_for, in_if, in_while, nest_body, nest_end, nest_of, test_hole}
use Rattle.reader.specs.Statements.{BlockTold, Filled, GuardedTold, StatementTold, StatementsTold, WordedTold}
use Rattle.reader.specs.Taking.{Another}
use Rattle.reader.specs.Told.{Spot, Told, having, read_expr}
use Rattle.reader.specs.declared.depths.Depth.{Depth}
use Rattle.reader.specs.declared.feeds.Feed.{Feed}
use Rattle.reader.specs.declared.forms.Read.{Read}
use Rattle.reader.specs.declared.kinds.Mark.{Mark}
use Rattle.reader.specs.declared.refusals.Stop.{Stop}
use Rattle.reader.proofs.Leading.{Along, along, along_as, along_stored, got, led, stepped}
use Rattle.reader.proofs.Steps.{Passed, kept_long, kept_phrase, kept_still, passed_long}
use Rattle.reader.proofs.Storing.{Stored, kept_then, stored}

-- An expression before a block.
spot_of : {d : ℕ} (k : Test) (b : Body) → body_depth b ≡ d → Spot 0 d (test_hole k b)
spot_of (in_if aa p) b e = record { asked = refl; deep = e }
spot_of (in_while p) b e = record { asked = refl; deep = e }
spot_of (in_for p n) b e = record { asked = refl; deep = e }

test_spot : {d : ℕ} (x : TestAt d) → Spot 0 d (test_hole x.test x.body)
test_spot x = spot_of x.test x.body x.deep

test_colon : (k : Test) (b : Body) (i : ℕ) (f : Form) (e : Expr) (q : ℕ) (us : List Token)
    → limited 64 (at (tree.mark tree.colon) q ∷ us) (have i f e (test_hole k b)) ≡ limited 64 us (block_of (nest_body (nest_of k e) tree.empty b))
test_colon (in_if aa p) b i f e q us = refl
test_colon (in_while p) b i f e q us = refl
test_colon (in_for p n) b i f e q us = refl

-- the expression was read
tested : {d : ℕ} {f g : Feed} {n m : Arena} (r : Read) → Told (Spot 0 d) want f n g m (Ok r)
    → Along (λ (x : TestAt d). limited 64 (coming f) (want (test_hole x.test x.body))) (λ x. limited 64 (coming g) (having (feed_source f) (arena_nodes m) r (test_hole x.test x.body))) f n g m
tested r told = record { kept = told.kept; goes = λ x. told.goes.goes (test_hole x.test x.body) (test_spot x) }

-- and the colon
pub tested_colon : {d q : ℕ} {f g h : Feed} {n m : Arena} (r : Read) → Told (Spot 0 d) want f n g m (Ok r) → Passed (at (tree.mark tree.colon) q) g h
    → Along (λ (x : TestAt d). limited 64 (coming f) (want (test_hole x.test x.body)))
    (λ x. limited 64 (coming h) (block_of (nest_body (nest_of x.test (read_expr (feed_source f) (arena_nodes m) r)) tree.empty x.body))) f n h m
tested_colon {d} {q} {f} {g} {h} {n} {m} r told p =
    let e = read_expr (feed_source f) (arena_nodes m) r in
    along (tested r told)
    (stepped m (λ (x : TestAt d). having (feed_source f) (arena_nodes m) r (test_hole x.test x.body)) (λ x. block_of (nest_body (nest_of x.test e) tree.empty x.body)) p
    (λ x. test_colon x.test x.body r.place _ e q (coming h)))

-- the block after it
abbrev pub nested : {d : ℕ} → Expr → TestAt d → NestAt d
nested e x = record { nest = nest_of x.test e; body = x.body; deep = x.deep }

pub guarded : {d q : ℕ} {f g h k : Feed} {n m l : Arena} (r : Read) (i : ℕ) → Told (Spot 0 d) want f n g m (Ok r) → Passed (at (tree.mark tree.colon) q) g h → BlockTold d h m k l (Ok i)
    → GuardedTold d f n k l (Ok (record { condition = r.node; body = i }))
guarded {d} {q} {f} {g} {h} {k} {n} {m} {l} r i told p b =
    let src = feed_source f in
    let e = read_expr src (arena_nodes m) r in
    let a = tested_colon r told p in
    let long = passed_long p in
    let more = kept_long b.kept in
    let same : feed_source h ≡ src = a.kept.source in
    let still : (phrase src (arena_nodes l) r.node).expr ≡ e = ap (λ (x : Phrase). x.expr) (kept_phrase src r.node b.kept told.goes.stored) in
    record {
      kept = kept_then a.kept b.kept;
      leads = record {
        stored = (omega (arith, told.goes.stored, more), b.leads.stored);
        spare = omega (arith, told.goes.spare, long, b.leads.spare);
        goes = λ x. a.goes x ∙ b.leads.goes (nested e x)
            ∙ ap (λ s. limited 64 (coming k) (nest_end (nest_of x.test e) (phrase s (arena_nodes l) i).stmts x.body)) same
            ∙ ap (λ y. limited 64 (coming k) (nest_end (nest_of x.test y) (phrase src (arena_nodes l) i).stmts x.body)) (sym still);
      };
    }

-- A block is one level further in than what it stands in.
pub nest_deep : (k : Nest) (ss : Stmts) (b : Body) → body_depth (nest_body k ss b) ≡ suc (body_depth b)
nest_deep (an_arm aa p e) ss b = refl
nest_deep (an_else aa) ss b = refl
nest_deep (a_loop p e) ss b = refl
nest_deep (an_each p n e) ss b = refl

abbrev pub block_inward : {d : ℕ} → NestAt d → Inward d
block_inward x = record { state = start (nest_body x.nest tree.empty x.body); deep = nest_deep x.nest tree.empty x.body ∙ ap suc x.deep }

-- No variable is defined in it, and nothing is declared.
pub nest_settled : (k : Nest) (ss : Stmts) (b : Body) (p : ℕ) (f : Form) → vars tree.nil (nest_body k ss b) p f ≡ []
nest_settled (an_arm aa q e) ss b p f = refl
nest_settled (an_else aa) ss b p f = refl
nest_settled (a_loop q e) ss b p f = refl
nest_settled (an_each q n e) ss b p f = refl

pub nest_undeclared : (k : Nest) (ss : Stmts) (b : Body) → decls (nest_body k ss b) ≡ []
nest_undeclared (an_arm aa p e) ss b = refl
nest_undeclared (an_else aa) ss b = refl
nest_undeclared (a_loop p e) ss b = refl
nest_undeclared (an_each p n e) ss b = refl

-- It does not end before its first statement.
pub nest_unended : (k : Nest) (b : Body) → ends (nest_body k tree.empty b) ≡ []
nest_unended (an_arm aa p e) b = refl
nest_unended (an_else aa) b = refl
nest_unended (a_loop p e) b = refl
nest_unended (an_each p n e) b = refl

pub nest_closes : (k : Nest) (ss : Stmts) (s : Stmt) (b : Body) → ends (nest_body k (tree.then ss s) b) ≡ on tree.dedent (λ q. nest_end k (tree.then ss s) b) ∷ []
nest_closes (an_arm aa p e) ss s b = refl
nest_closes (an_else aa) ss s b = refl
nest_closes (a_loop p e) ss s b = refl
nest_closes (an_each p n e) ss s b = refl

pub nest_grows : (k : Nest) (ss : Stmts) (s : Stmt) (b : Body) → add s (nest_body k ss b) ≡ nest_body k (tree.then ss s) b
nest_grows (an_arm aa p e) ss s b = refl
nest_grows (an_else aa) ss s b = refl
nest_grows (a_loop p e) ss s b = refl
nest_grows (an_each p n e) ss s b = refl

pub unclaimed_by : (b : Body) (ts : List Token) → decls b ≡ [] → ends b ≡ [] → Unclaimed b ts
unclaimed_by b [] e f = tt
unclaimed_by b (t ∷ ts) e f = (ap (λ os. pick os t) e, ap (λ os. pick os t) f)

-- where its first statement stands
abbrev pub block_first : {d e : ℕ} → e ≡ d + 1 → (ts : List Token) → NestAt d → SettledAt e ts
block_first l ts x = record {
  body = nest_body x.nest tree.empty x.body;
  deep = omega (arith, nest_deep x.nest tree.empty x.body, x.deep, l);
  unclaimed = unclaimed_by (nest_body x.nest tree.empty x.body) ts (nest_undeclared x.nest tree.empty x.body) (nest_unended x.nest x.body);
  settled = nest_settled x.nest tree.empty x.body;
}

-- and those after it
abbrev pub block_sequel : {d e : ℕ} → e ≡ d + 1 → NestAt d → Sequel Mark.Dedent e
block_sequel l x = record {
  body = λ ss. nest_body x.nest ss x.body;
  end = λ ss. nest_end x.nest ss x.body;
  deep = λ ss. omega (arith, nest_deep x.nest ss x.body, x.deep, l);
  grows = λ ss s. nest_grows x.nest ss s x.body;
  closes = λ ss s. nest_closes x.nest ss s x.body;
  undeclared = λ ss s. nest_undeclared x.nest (tree.then ss s) x.body;
  settled = λ ss s. nest_settled x.nest (tree.then ss s) x.body;
}

-- The line's end and the INDENT were taken, and a node stored for no statements.
pub block_opened : {d : ℕ} {e : Depth} {f g : Feed} {n m : Arena} → IndentedTold d f g (Ok e) → arena_nodes m ≡ arena_nodes n ++ (NoStatements ∷ []) → arena_limit m ≡ arena_limit n
    → Along (λ (x : NestAt d). limited 64 (coming f) (block_of (nest_body x.nest tree.empty x.body))) (λ x. limited 64 (coming g) (start (nest_body x.nest tree.empty x.body))) f n g m
block_opened {n = n} told nodes limit = along_stored NoStatements (got n told block_inward) nodes limit (omega (arith, told.gets.count))

-- Its first statement was read, and a node stored for the list of it.
pub record Begun (d : ℕ) (f : Feed) (n : Arena) (g : Feed) (m : Arena) (list : ℕ) : Type 0 where
  pub stored : list < length (arena_nodes m)
  pub filled : Filled (phrase (feed_source g) (arena_nodes m) list).stmts
  pub spare : length (arena_nodes m) + 4 + 4 * length (coming g) ≤ length (arena_nodes n) + 4 * length (coming f)
  pub reads : Along (λ (x : NestAt d). limited 64 (coming f) (block_of (nest_body x.nest tree.empty x.body)))
      (λ x. limited 64 (coming g) (start (nest_body x.nest (phrase (feed_source g) (arena_nodes m) list).stmts x.body))) f n g m

pub block_begun : {d nothing last list : ℕ} {e : Depth} {f g h : Feed} {n k m l : Arena} → IndentedTold d f g (Ok e) → e.levels ≡ d + 1
    → nothing ≡ length (arena_nodes n) → arena_nodes k ≡ arena_nodes n ++ (NoStatements ∷ []) → arena_limit k ≡ arena_limit n → StatementTold e.levels g k h m (Ok last)
    → list ≡ length (arena_nodes m) → arena_nodes l ≡ arena_nodes m ++ (MoreStatements nothing last ∷ []) → arena_limit l ≡ arena_limit m → Begun d f n h l list
block_begun {d} {nothing} {last} {list} {e} {f} {g} {h} {n} {k} {m} {l} told deeper index nodes limit first index' nodes' limit' =
    let node = MoreStatements nothing last in
    let src = feed_source h in
    let s = (phrase (feed_source g) (arena_nodes m) last).stmt in
    let none : Stored src (arena_nodes n) (arena_nodes k) NoStatements nothing = stored src (arena_nodes n) (arena_nodes k) NoStatements nothing index nodes in
    let some : Stored src (arena_nodes m) (arena_nodes l) node list = stored src (arena_nodes m) (arena_nodes l) node list index' nodes' in
    let one = ap length nodes ∙ length-append (arena_nodes n) (NoStatements ∷ []) in
    let two = ap length nodes' ∙ length-append (arena_nodes m) (node ∷ []) in
    let count = told.gets.count in
    let cost = first.leads.spare in
    let empty : (phrase src (arena_nodes m) nothing).stmts ≡ tree.empty = ap (λ (x : Phrase). x.stmts) (kept_phrase src nothing first.kept none.here ∙ none.stands) in
    let list_of : (phrase src (arena_nodes l) list).stmts ≡ tree.then tree.empty s =
    ap (λ (x : Phrase). x.stmts) some.stands ∙ ap (λ ss. tree.then ss (phrase src (arena_nodes m) last).stmt) empty
    ∙ ap (λ y. tree.then tree.empty (phrase y (arena_nodes m) last).stmt) first.kept.source in
    record {
      stored = some.here;
      filled = subst Filled (sym list_of) tt;
      spare = omega (arith, one, two, count, cost);
      reads = along_as (along_stored node (along (block_opened {n = n} told nodes limit) (led first (λ (x : NestAt d). block_first deeper (coming g) x))) nodes' limit' (omega (arith, one, count, cost)))
          (λ x. ap (λ b. limited 64 (coming h) (start b)) (nest_grows x.nest tree.empty s x.body ∙ ap (λ ss. nest_body x.nest ss x.body) (sym list_of)));
    }

-- and the others
pub block_told : {d e list : ℕ} {f g h : Feed} {n m k : Arena} (r : Result ℕ Stop) → e ≡ d + 1 → Begun d f n g m list → StatementsTold Mark.Dedent e list g m h k r → BlockTold d f n h k r
block_told {h = h} {k = k} (Ok i) l b told = record {
  kept = kept_then b.reads.kept told.kept;
  leads = record {
    stored = told.leads.stored;
    spare = omega (arith, b.spare, told.leads.spare);
    goes = λ x. b.reads.goes x ∙ told.leads.goes (block_sequel l x) ∙ ap (λ s. limited 64 (coming h) (nest_end x.nest (phrase s (arena_nodes k) i).stmts x.body)) b.reads.kept.source;
  };
}
block_told (Err y) l b told = record { kept = kept_then b.reads.kept told.kept; leads = λ x. ap judged (b.reads.goes x) ∙ told.leads (block_sequel l x) }

-- The marks that end a body.
data Closing : tree.Mark → Type 0 where
  at_end : Closing tree.end
  at_dedent : Closing tree.dedent

abbrev Offered : List Offer → Type 0
Offered [] = Unit {0}
Offered (on m s ∷ os) = Closing m
Offered (when b m s ∷ os) = Unit {0}

offered : (b : Body) → Offered (ends b)
offered (base (main ds) tree.empty) = tt
offered (base (main ds) (tree.then ss s)) = at_end
offered (base (locals p n ps a ds o) tree.empty) = tt
offered (base (locals p n ps a ds o) (tree.then ss s)) = at_dedent
offered (arms aa p e tree.empty b) = tt
offered (arms aa p e (tree.then ss s) b) = at_dedent
offered (other aa tree.empty b) = tt
offered (other aa (tree.then ss s) b) = at_dedent
offered (loops p e tree.empty b) = tt
offered (loops p e (tree.then ss s) b) = at_dedent
offered (eachs p n e tree.empty b) = tt
offered (eachs p n e (tree.then ss s) b) = at_dedent

closes_body : (m : tree.Mark) → Closing m → (b : Body) (s : ℕ → State) → decls b ≡ [] → ends b ≡ on m s ∷ [] → (q : ℕ) (us : List Token) → limited 64 (at (tree.mark m) q ∷ us) (start b) ≡ limited 64 us (s q)
closes_body _ at_end b s e f q us =
    let t = at (tree.mark tree.end) q in
    ap (λ os. proceeds (limited 64 us) none t us (either (pick os t) (either (pick (ends b) t) none))) e ∙ ap (λ os. proceeds (limited 64 us) none t us (either (pick os t) none)) f
closes_body _ at_dedent b s e f q us =
    let t = at (tree.mark tree.dedent) q in
    ap (λ os. proceeds (limited 64 us) none t us (either (pick os t) (either (pick (ends b) t) none))) e ∙ ap (λ os. proceeds (limited 64 us) none t us (either (pick os t) none)) f

-- The mark that ends a list of statements comes.
pub sequel_ends : {close : Mark} {d : ℕ} (x : Sequel close d) (ss : Stmts) → Filled ss → (q : ℕ) (us : List Token) → limited 64 (at (tree.mark (mark_of close)) q ∷ us) (start (x.body ss)) ≡ limited 64 us (x.end ss)
sequel_ends x tree.empty h q us = absurd h
sequel_ends {close} x (tree.then ss s) h q us =
    closes_body (mark_of close) (subst Offered (x.closes ss s) (offered (x.body (tree.then ss s)))) (x.body (tree.then ss s)) (λ i. x.end (tree.then ss s)) (x.undeclared ss s) (x.closes ss s) q us

-- Another token comes: where the next statement stands.
pub sequel_unclaimed : {close : Mark} {d : ℕ} (x : Sequel close d) (ss : Stmts) → Filled ss → (ts : List Token) → Another close ts → Unclaimed (x.body ss) ts
sequel_unclaimed x tree.empty h ts a = absurd h
sequel_unclaimed x (tree.then ss s) h [] a = tt
sequel_unclaimed x (tree.then ss s) h (t ∷ ts) a =
    (ap (λ os. pick os t) (x.undeclared ss s), ap (λ os. pick os t) (x.closes ss s) ∙ ap (λ y. either y none) (a (λ i. x.end (tree.then ss s))))

pub sequel_settled : {close : Mark} {d : ℕ} (x : Sequel close d) (ss : Stmts) → Filled ss → (p : ℕ) (f : Form) → vars tree.nil (x.body ss) p f ≡ []
sequel_settled x tree.empty h = absurd h
sequel_settled x (tree.then ss s) h = x.settled ss s

abbrev pub sequel_next : {close : Mark} {d : ℕ} (ss : Stmts) → Filled ss → (ts : List Token) → Another close ts → Sequel close d → SettledAt d ts
sequel_next ss h ts a x = record { body = x.body ss; deep = x.deep ss; unclaimed = sequel_unclaimed x ss h ts a; settled = sequel_settled x ss h }

-- the statements so far, from where the list was
abbrev pub Listing : {close : Mark} {d : ℕ} → (Sequel close d → Reading) → Feed → Arena → Feed → Arena → ℕ → Type 0
Listing o e l f n list =
    (list < length (arena_nodes n)) × Filled (phrase (feed_source e) (arena_nodes n) list).stmts
    × Along o (λ x. limited 64 (coming f) (start (x.body (phrase (feed_source e) (arena_nodes n) list).stmts))) e l f n

-- the mark is not there, and nothing was taken
pub still_there : {X : Type 0} {o : X → Reading} {e f g : Feed} {l n : Arena} (s : X → State) → Along o (λ x. limited 64 (coming f) (s x)) e l f n → coming g ≡ coming f → feed_source g ≡ feed_source f
    → Along o (λ x. limited 64 (coming g) (s x)) e l g n
still_there {n = n} s a c w = record { kept = kept_then a.kept (kept_still n c w); goes = λ x. a.goes x ∙ ap (λ ts. limited 64 ts (s x)) (sym c) }

-- one statement more
pub one_more : {close : Mark} {d before last list : ℕ} {o : Sequel close d → Reading} {e f g h : Feed} {l n m k : Arena} → Listing o e l f n before
    → coming g ≡ coming f → feed_source g ≡ feed_source f → Another close (coming f) → StatementTold d g n h m (Ok last)
    → list ≡ length (arena_nodes m) → arena_nodes k ≡ arena_nodes m ++ (MoreStatements before last ∷ []) → arena_limit k ≡ arena_limit m → Listing o e l h k list
one_more {close} {d} {before} {last} {list} {o} {e} {f} {g} {h} {l} {n} {m} {k} so_far c w another told index nodes limit =
    let node = MoreStatements before last in
    let src = feed_source e in
    let ss = (phrase src (arena_nodes n) before).stmts in
    let s = (phrase (feed_source g) (arena_nodes m) last).stmt in
    let a : Along o (λ x. limited 64 (coming g) (start (x.body ss))) e l g n = still_there (λ x. start (x.body ss)) so_far.2 c w in
    let new : Stored src (arena_nodes m) (arena_nodes k) node list = stored src (arena_nodes m) (arena_nodes k) node list index nodes in
    let cost = told.leads.spare in
    let before_cost = a.kept.cost in
    let next : Sequel close d → SettledAt d (coming g) = sequel_next ss so_far.1 (coming g) (subst (Another close) (sym c) another) in
    let list_of : (phrase src (arena_nodes k) list).stmts ≡ tree.then ss s =
    ap (λ (x : Phrase). x.stmts) new.stands
    ∙ ap (λ (x : Phrase). tree.then x.stmts (phrase src (arena_nodes m) last).stmt) (kept_phrase src before told.kept so_far.0)
    ∙ ap (λ y. tree.then ss (phrase y (arena_nodes m) last).stmt) (sym a.kept.source) in (
      new.here,
      subst Filled (sym list_of) tt,
      along_as (along_stored node (along a (led told next)) nodes limit (omega (arith, cost, before_cost)))
          (λ x. ap (λ b. limited 64 (coming h) (start b)) (x.grows ss s ∙ ap x.body (sym list_of))),
    )

-- A statement that begins with a word, where no variable may be defined any more.
abbrev of_settled : {d : ℕ} {ts : List Token} → SettledAt d ts → BodyAt d ts
of_settled x = record { body = x.body; deep = x.deep; unclaimed = x.unclaimed }

pub settled_told : {d : ℕ} {f g : Feed} {n m : Arena} (r : Result ℕ Stop) → WordedTold d f n g m r → StatementTold d f n g m r
settled_told (Ok i) t = record { kept = t.kept; leads = record { stored = t.leads.stored; spare = t.leads.spare; goes = λ x. t.leads.goes (of_settled x) } }
settled_told (Err y) t = record { kept = t.kept; leads = λ x. t.leads (of_settled x) }
