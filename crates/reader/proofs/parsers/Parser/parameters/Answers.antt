use Rattle.std.proofs.Common.{◌≡◌, ℕ, suc, ◌+◌, List, [], ◌∷◌, length, sym, refl, ap, ◌∙◌, arith, length-append}
use mathlib.Core.Option.{none, some}
use Rattle.arena.specs.Tables.{arena_nodes}
use Rattle.arena.specs.Trees.{Phrase, phrase}
use Rattle.arena.specs.declared.nodes.Node.{Node}
use Rattle.grammar.specs.Tree as tree
use Rattle.grammar.specs.Tree.{Id, Params, Token, at}
use Rattle.grammar.specs.Reader.{Next, Outer, State, calls, either, for_param, names, naming, of_result, params, seq, typing}
use Rattle.grammar.specs.Limits.{limited, proceeds}
use Rattle.reader.specs.Feeds.{coming, feed_source}
use Rattle.reader.specs.Functions.{FunctionAt}
use Rattle.reader.specs.Parameters.{Header}
use Rattle.reader.specs.Places.{Inward}
use Rattle.reader.specs.Taking.{Another}
use Rattle.reader.specs.declared.kinds.Mark.{Mark}
use Rattle.reader.proofs.Leading.{Along, along, along_stored, got, stepped, stopped, told_behind, told_ok}
use Rattle.reader.proofs.Steps.{Passed, kept_still, passed_long}
use Rattle.reader.proofs.Storing.{kept_taken, stored}
use Rattle.reader.proofs.parsers.Parser.parameters.Goals as goal

-- past the parenthesis
abbrev inward : {d : ℕ} → FunctionAt d → Inward d
inward x = record { state = params x.place x.name x.outer; deep = ap suc x.deep }

pub returns-in_err-inner : goal.returns-in_err-inner
returns-in_err-inner c =
    let bad = c.in_err-inner.ensures in
    stopped c.from_residual.result _ c.from_residual.ensures.1 (kept_taken c.args.self.now.arena bad.told.source bad.told.fewer) (λ x. bad.told.gets (inward x))

pub returns-then-passes : goal.returns-then-passes
returns-then-passes c =
    let f = c.args.self.now.feed in
    let g = c.take_round.new.self in
    let h = c.passes.new.self in
    let n = c.args.self.now.arena in
    let m = c.store-empty.new.arena in
    let i = c.store-empty.result in
    let ok = c.in_ok-inner.ensures.told in
    let st = c.store-empty.ensures in
    let came = c.if-passes.ensures in
    let count = ok.gets.count in
    let new = stored (feed_source f) (arena_nodes n) (arena_nodes m) Node.NoParameters i st.index st.nodes in
    let ended : Passed (at (tree.mark tree.rparen) came.told.0) g h = record { first = came.told.1; source = came.source } in
    let next : Params → FunctionAt c.args.depth.levels → State = λ ps x. seq tree.arrow [] (typing (of_result x.place x.name ps x.outer)) in
    let long = passed_long ended in
    let one = ap length st.nodes ∙ length-append (arena_nodes n) (Node.NoParameters ∷ []) in
    told_ok (along (along_stored Node.NoParameters (got n ok inward) st.nodes st.limit (omega (arith, count))) (stepped m (λ x. (inward x).state) (next tree.no_params) ended (λ x. refl)))
    new.here (omega (arith, count, one, long))
    (λ x. ap (λ (q : Phrase). limited 64 (coming h) (next q.params x)) (sym new.stands))

either_none : (x : Next) → either x none ≡ x
either_none none = refl
either_none (some s) = refl

-- no parenthesis closes the list at once: a parameter is to come
begins : (p : ℕ) (n : Id) (o : Outer) (ts : List Token) → Another Mark.RightRound ts → limited 64 ts (params p n o) ≡ limited 64 ts (naming (for_param p n tree.no_params o))
begins p n o [] u = refl
begins p n o (t ∷ ts) u =
    let named = names (calls (for_param p n tree.no_params o)) t in
    ap (λ z. proceeds (limited 64 ts) none t ts (either named (either z none))) (u (λ q. seq tree.arrow [] (typing (of_result p n tree.no_params o))))
    ∙ ap (λ z. proceeds (limited 64 ts) none t ts z) (either_none named)

-- one level further in
abbrev header : {d e : ℕ} → e ≡ d + 1 → FunctionAt d → Header e
header l x = record { place = x.place; name = x.name; outer = x.outer; deep = omega (arith, x.deep, l) }

pub returns : goal.returns
returns c =
    let f = c.args.self.now.feed in
    let g = c.take_round.new.self in
    let h = c.passes.new.self in
    let k = c.some_parameters.new.self.feed in
    let n = c.args.self.now.arena in
    let m = c.store-empty.new.arena in
    let l = c.some_parameters.new.self.arena in
    let i = c.store-empty.result in
    let ok = c.in_ok-inner.ensures.told in
    let st = c.store-empty.ensures in
    let still = c.if-passes.ensures in
    let count = ok.gets.count in
    let same = ap length still.told.0 in
    let one = ap length st.nodes ∙ length-append (arena_nodes n) (Node.NoParameters ∷ []) in
    let new = stored (feed_source h) (arena_nodes n) (arena_nodes m) Node.NoParameters i st.index st.nodes in
    let wanted : Params → FunctionAt c.args.depth.levels → State = λ ps x. naming (for_param x.place x.name ps x.outer) in
    let begun : Along (λ x. limited 64 (coming g) (inward x).state) (λ x. limited 64 (coming h) (wanted (phrase (feed_source h) (arena_nodes m) i).params x)) g m h m = record {
      kept = kept_still m still.told.0 still.source;
      goes = λ x. begins x.place x.name x.outer (coming g) still.told.1 ∙ ap (λ ts. limited 64 ts (wanted tree.no_params x)) (sym still.told.0)
          ∙ ap (λ (q : Phrase). limited 64 (coming h) (wanted q.params x)) (sym new.stands);
    } in
    told_behind c.some_parameters.result (header c.in_ok-inner.ensures.deeper)
    (along (along_stored Node.NoParameters (got n ok inward) st.nodes st.limit (omega (arith, count))) begun)
    c.some_parameters.ensures (omega (arith, count, one, same))
    (λ j x. ap (λ s. limited 64 (coming k) (seq tree.arrow [] (typing (of_result x.place x.name (phrase s (arena_nodes l) j).params x.outer)))) (still.source ∙ ok.source))
