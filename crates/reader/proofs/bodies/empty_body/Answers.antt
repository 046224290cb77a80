use Rattle.std.proofs.Common.{[], ◌∷◌, ◌++◌, length, ap, ◌∙◌, append_assoc, arith, length-append}
use Rattle.arena.specs.Tables.{arena_nodes}
use Rattle.arena.specs.declared.nodes.Node.{Node}
use Rattle.arena.specs.Trees.{Phrase}
use Rattle.reader.proofs.ListSteps.{stored_phrase}
use Rattle.reader.proofs.Storing.{stays}
use Rattle.reader.proofs.bodies.empty_body.Goals as goal

pub returns : goal.returns
returns c =
    let n = c.args.arena.now in
    let m = c.store-declarations.new.arena in
    let k = c.store-statements.new.arena in
    let a = c.store-declarations.ensures in
    let b = c.store-statements.ensures in
    let i = c.store-declarations.result in
    let j = c.store-statements.result in
    let one = ap length a.nodes ∙ length-append (arena_nodes n) (Node.NoDeclarations ∷ []) in
    let two = ap length b.nodes ∙ length-append (arena_nodes m) (Node.NoStatements ∷ []) in
    record {
      empty = record {
        declarations = omega (arith, one, two, a.index);
        statements = omega (arith, two, b.index);
        none = λ src. ap (λ (q : Phrase). q.decls) (stays src (arena_nodes m) (arena_nodes k) (Node.NoStatements ∷ []) i (omega (arith, one, a.index)) b.nodes ∙ stored_phrase n m Node.NoDeclarations i src a.index a.nodes);
        nothing = λ src. ap (λ (q : Phrase). q.stmts) (stored_phrase m k Node.NoStatements j src b.index b.nodes);
      };
      nodes = b.nodes ∙ ap (λ ns. ns ++ (Node.NoStatements ∷ [])) a.nodes ∙ append_assoc (arena_nodes n) (Node.NoDeclarations ∷ []) (Node.NoStatements ∷ []);
      limit = b.limit ∙ a.limit;
    }
