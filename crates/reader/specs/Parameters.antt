-- What reading a parameter tells, whatever function it is of: the limited machine of the grammar goes on alike, or
-- comes to the same refusal.
use Rattle.std.specs.Prelude.{◌≡◌, ℕ, suc, ◌<◌, List, length, Ok, Err, Result}
use Rattle.arena.specs.declared.nodes.Node.{Node}
use Rattle.arena.specs.Trees.{named, phrase}
use Rattle.grammar.specs.Tree.{Id, Params, Token}
use Rattle.grammar.specs.Reader.{Outer, for_param, naming, of_param, typed}
use Rattle.grammar.specs.Limits.{limited, outer_depth}
use Rattle.grammar.specs.Verdict.{judged}
use Rattle.reader.specs.Stops.{stop_of}
use Rattle.reader.specs.declared.parameters.Parameter.{Parameter}
use Rattle.reader.specs.declared.refusals.Stop.{Stop}

-- a function's parameters: the function's place and name, and where it stands; the parenthesis is one level more
pub record Header (d : ℕ) : Type 0 where
  pub place : ℕ
  pub name : Id
  pub outer : Outer
  pub deep : suc (outer_depth outer) ≡ d

abbrev pub ParameterTells : List ℕ → List Node → ℕ → List Token → List Token → Result Parameter Stop → Type 0
ParameterTells src ns d ts us (Ok r) =
    (r.annotation < length ns) × ((x : Header d) (ps : Params) → limited 64 ts (naming (for_param x.place x.name ps x.outer)) ≡ limited 64 us (typed (phrase src ns r.annotation).ann (of_param x.place x.name ps (named src r.name) x.outer)))
ParameterTells src ns d ts us (Err e) = (x : Header d) (ps : Params) → judged (limited 64 ts (naming (for_param x.place x.name ps x.outer))) ≡ stop_of e
