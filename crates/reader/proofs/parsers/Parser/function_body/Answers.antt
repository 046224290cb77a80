use Rattle.std.proofs.Common.{◌≡◌, ℕ, suc, ◌+◌, ◌*◌, ◌≤◌, [], ◌∷◌, length, Ok, Err, Result, ap, ◌∙◌, arith, length-append}
use Rattle.arena.specs.Tables.{arena_nodes}
use Rattle.arena.specs.Trees.{phrase}
use Rattle.arena.specs.declared.arenas.Arena.{Arena}
use Rattle.arena.specs.declared.nodes.Node.{Node}
use Rattle.grammar.specs.Tree as tree
use Rattle.grammar.specs.Reader.{awaits, base, join, locals, start}
use Rattle.grammar.specs.Limits.{limited}
use Rattle.grammar.specs.Verdict.{judged}
use Rattle.reader.specs.Bodies.{BodyTold, Emptied, FunctionBodyTold, FunctionOf, OwnerAt}
use Rattle.reader.specs.Feeds.{coming}
use Rattle.reader.specs.Keeping.{Kept}
use Rattle.reader.specs.Levels.{IndentedTold}
use Rattle.reader.specs.Owners.{IsFunction, function}
use Rattle.reader.specs.Places.{Inward}
use Rattle.reader.specs.declared.answers.Routine.{Routine}
use Rattle.reader.specs.declared.depths.Depth.{Depth}
use Rattle.reader.specs.declared.feeds.Feed.{Feed}
use Rattle.reader.specs.declared.refusals.Stop.{Stop}
use Rattle.reader.proofs.Leading.{stopped}
use Rattle.reader.proofs.Storing.{kept_taken, kept_then}
use Rattle.reader.proofs.parsers.Parser.function_body.Goals as goal

-- the body's own place, and what it is a body of
abbrev inward : {d : ℕ} → FunctionOf d → Inward d
inward x = record { state = start (base (locals x.place x.name x.list x.result tree.no_decls x.outer) tree.empty); deep = ap suc x.deep }

abbrev owner_at : {d e : ℕ} → e ≡ d + 1 → FunctionOf d → OwnerAt IsFunction e
owner_at l x = record { owner = function x.place x.name x.list x.result x.outer; owned = tt; deep = omega (arith, x.deep, l) }

module _ {d : ℕ} {f g : Feed} {n m : Arena} {e : Routine} {u : Depth} (told : IndentedTold d f g (Ok u)) (deeper : u.levels ≡ d + 1) (emptied : Emptied n m e) where
  -- the line's end and the INDENT pay for the two empty lists
  two : length (arena_nodes m) + 6 + 4 * length (coming g) ≤ length (arena_nodes n) + 4 * length (coming f)
  two =
      let more = ap length emptied.nodes ∙ length-append (arena_nodes n) (Node.NoDeclarations ∷ Node.NoStatements ∷ []) in
      let count = told.gets.count in
      omega (arith, more, count)

  begun : Kept f n g m
  begun =
      let cost = two in
      let fewer = told.fewer in
      record { source = told.source; more = Node.NoDeclarations ∷ Node.NoStatements ∷ []; nodes = emptied.nodes; limit = emptied.limit; fewer = fewer; cost = omega (arith, cost) }

  handed : {h : Feed} {k : Arena} (r : Result Routine Stop) → BodyTold IsFunction u.levels g m h k r → FunctionBodyTold d f n h k r
  handed {h} {k} (Ok a) body =
      let cost = two in
      let spare = body.leads.spare in
      record {
        kept = kept_then begun body.kept;
        leads = record {
          stored = body.leads.stored;
          spare = omega (arith, cost, spare);
          goes = λ x. told.gets.goes (inward x) ∙ body.leads.goes (owner_at deeper x)
              ∙ ap (λ s. limited 64 (coming h) (awaits (join (tree.a_func x.place x.name x.list x.result (phrase s (arena_nodes k) a.declarations).decls (phrase s (arena_nodes k) a.statements).stmts) x.outer))) told.source;
        };
      }
  handed (Err y) body = record { kept = kept_then begun body.kept; leads = λ x. ap judged (told.gets.goes (inward x)) ∙ body.leads (owner_at deeper x) }

pub returns-in_err-inner : goal.returns-in_err-inner
returns-in_err-inner c =
    let bad = c.in_err-inner.ensures.told in
    stopped c.from_residual.result _ c.from_residual.ensures.1 (kept_taken c.args.self.now.arena bad.source bad.fewer) (λ x. bad.gets (inward x))

pub returns : goal.returns
returns c = handed c.in_ok-inner.ensures.told c.in_ok-inner.ensures.deeper c.empty_body-empty.ensures c.whole_body.result c.whole_body.ensures
