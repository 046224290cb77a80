use Rattle.std.proofs.Common.{◌≡◌, ℕ, true, ◌&&◌, ltb, List, length, sym, ap, ◌∙◌, arith}
use Rattle.std.proofs.lemmas.Bool.{lt-ltb}
use Rattle.arena.specs.Tables.{arena_nodes}
use Rattle.arena.specs.Trees.{Phrase, named, phrase}
use Rattle.arena.specs.declared.arenas.Arena.{Arena}
use Rattle.arena.specs.declared.nodes.Node.{Node}
use Rattle.grammar.specs.Tree as tree
use Rattle.grammar.specs.Tree.{Ann}
use Rattle.grammar.specs.Reader.{awaits, join}
use Rattle.grammar.specs.Limits.{limited}
use Rattle.reader.specs.Bodies.{FunctionOf}
use Rattle.reader.specs.Definitions.{OuterAt}
use Rattle.reader.specs.Feeds.{coming, feed_source}
use Rattle.reader.specs.Functions.{SignedAt}
use Rattle.reader.specs.declared.functions.Heading.{Heading}
use Rattle.reader.proofs.Leading.{along, led, stopped_behind, told_stored}
use Rattle.reader.proofs.Steps.{both_before, kept_long, kept_phrase}
use Rattle.reader.proofs.Storing.{kept_then}
use Rattle.reader.proofs.parsers.Parser.function.Goals as goal

-- the function with its parameters, and then with its result
abbrev signed : {d : ℕ} → List ℕ → ℕ → Arena → Heading → OuterAt d → SignedAt d
signed src p m a x = record { place = p; name = named src a.name; list = (phrase src (arena_nodes m) a.parameters).params; outer = x.outer; deep = x.deep }

abbrev headed : {d : ℕ} → Ann → SignedAt d → FunctionOf d
headed a x = record { place = x.place; name = x.name; list = x.list; result = a; outer = x.outer; deep = x.deep }

pub returns-in_err-result : goal.returns-in_err-result
returns-in_err-result c =
    let src = feed_source c.args.self.now.feed in
    let ok = c.in_ok-name.ensures in
    let bad = c.in_err-result.ensures in
    stopped_behind c.from_residual-in_err-result.result _ c.from_residual-in_err-result.ensures.1
    (led ok (λ (x : OuterAt c.args.depth.levels). x)) bad.kept
    (λ x. bad.leads (signed src c.args.place c.name_and_parameters.new.self.arena c.in_ok-name.field-0 x))

pub returns-in_err-declarations : goal.returns-in_err-declarations
returns-in_err-declarations c =
    let src = feed_source c.args.self.now.feed in
    let g = c.name_and_parameters.new.self.feed in
    let m = c.name_and_parameters.new.self.arena in
    let l = c.result_type.new.self.arena in
    let ok = c.in_ok-name.ensures in
    let typed = c.in_ok-result.ensures in
    let bad = c.in_err-declarations.ensures in
    let here : OuterAt c.args.depth.levels → SignedAt c.args.depth.levels = signed src c.args.place m c.in_ok-name.field-0 in
    stopped_behind c.from_residual-in_err-declarations.result _ c.from_residual-in_err-declarations.ensures.1
    (along (led ok (λ (x : OuterAt c.args.depth.levels). x)) (led typed here)) bad.kept
    (λ x. bad.leads (headed (phrase (feed_source g) (arena_nodes l) c.in_ok-result.result).ann (here x)))

pub store-requires-clause-placed : goal.store-requires-clause-placed
store-requires-clause-placed c =
    let ok = c.in_ok-name.ensures in
    let typed = c.in_ok-result.ensures in
    let read = c.in_ok-declarations.ensures in
    let first = ok.leads.stored in
    let second = typed.leads.stored in
    let third = read.leads.stored in
    let long = kept_long typed.kept in
    let more = kept_long read.kept in
    let k = length (arena_nodes c.function_body.new.self.arena) in
    let i = c.in_ok-name.field-0.parameters in
    let j = c.in_ok-result.result in
    let a = c.in_ok-declarations.field-0 in
    let last : (ltb a.declarations k && ltb a.statements k) ≡ true = both_before third.0 third.1 in
    let three : (ltb j k && (ltb a.declarations k && ltb a.statements k)) ≡ true = ap (λ z. z && (ltb a.declarations k && ltb a.statements k)) (lt-ltb j k (omega (arith, second, more))) ∙ last in
    ap (λ z. z && (ltb j k && (ltb a.declarations k && ltb a.statements k))) (lt-ltb i k (omega (arith, first, long, more))) ∙ three

pub returns : goal.returns
returns c =
    let src = feed_source c.args.self.now.feed in
    let p = c.args.place in
    let g = c.name_and_parameters.new.self.feed in
    let h = c.result_type.new.self.feed in
    let k = c.function_body.new.self.feed in
    let n = c.args.self.now.arena in
    let m = c.name_and_parameters.new.self.arena in
    let l = c.result_type.new.self.arena in
    let q = c.function_body.new.self.arena in
    let a = c.in_ok-name.field-0 in
    let j = c.in_ok-result.result in
    let b = c.in_ok-declarations.field-0 in
    let ok = c.in_ok-name.ensures in
    let typed = c.in_ok-result.ensures in
    let read = c.in_ok-declarations.ensures in
    let here : OuterAt c.args.depth.levels → SignedAt c.args.depth.levels = signed src p m a in
    let result = (phrase (feed_source g) (arena_nodes l) j).ann in
    let from_g : feed_source g ≡ src = ok.kept.source in
    let from_h : feed_source h ≡ src = typed.kept.source ∙ from_g in
    let list : (phrase src (arena_nodes m) a.parameters).params ≡ (phrase src (arena_nodes q) a.parameters).params =
    ap (λ (z : Phrase). z.params) (sym (kept_phrase src a.parameters (kept_then typed.kept read.kept) ok.leads.stored)) in
    let ann : result ≡ (phrase src (arena_nodes q) j).ann = ap (λ s. (phrase s (arena_nodes l) j).ann) from_g ∙ ap (λ (z : Phrase). z.ann) (sym (kept_phrase src j read.kept typed.leads.stored)) in
    told_stored (Node.FunctionDefinition p a.name a.parameters j b.declarations b.statements)
    (along (along (led ok (λ (x : OuterAt c.args.depth.levels). x)) (led typed here)) (led read (λ x. headed result (here x))))
    c.store.ensures.index c.store.ensures.nodes c.store.ensures.limit (omega (arith, ok.leads.spare, typed.leads.spare, read.leads.spare))
    (λ new x.
    (λ i. limited 64 (coming k) (awaits (join (tree.a_func p (named src a.name) (list i) (ann i) (phrase (from_h i) (arena_nodes q) b.declarations).decls (phrase (from_h i) (arena_nodes q) b.statements).stmts) x.outer)))
    ∙ ap (λ (z : Phrase). limited 64 (coming k) (awaits (join z.decl x.outer))) (sym new))
