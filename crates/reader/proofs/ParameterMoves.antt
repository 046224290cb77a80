-- How the limited machine takes parameters.
use Rattle.std.proofs.Common.{◌≡◌, ℕ, List, [], ◌∷◌, refl, ap}
use Rattle.grammar.specs.Tree as tree
use Rattle.grammar.specs.Tree.{Id, Params, Text, Token, at, id}
use Rattle.grammar.specs.Reader.{State, for_param, naming, of_param, seq, typing}
use Rattle.grammar.specs.Limits.{limited}
use Rattle.grammar.specs.Verdict.{judged}
use Rattle.reader.specs.Parameters.{Header}
use Rattle.reader.specs.Stops.{stop_of}
use Rattle.reader.specs.Taking.{NoMark}
use Rattle.reader.specs.Types.{SlotAt}
use Rattle.reader.specs.declared.kinds.Mark.{Mark}
use Rattle.reader.specs.declared.refusals.Stop.{Stop}
use Rattle.reader.proofs.Refusing.{no_mark_here}

abbrev pub param_slot : (d : ℕ) (x : Header d) (ps : Params) (m : Id) → SlotAt d
param_slot d x ps m = record { slot = of_param x.place x.name ps m x.outer; deep = x.deep }

-- the name of a parameter
pub param_named : (d : ℕ) (x : Header d) (ps : Params) (q : ℕ) (w : Text) (ts us : List Token) → ts ≡ at (tree.name w) q ∷ us → limited 64 ts (naming (for_param x.place x.name ps x.outer)) ≡ limited 64 us (seq tree.colon [] (typing (of_param x.place x.name ps (id q w) x.outer)))
param_named d x ps q w ts us e = ap (λ z. limited 64 z (naming (for_param x.place x.name ps x.outer))) e

-- a colon
pub colon_comes : (s : State) (q : ℕ) (ts us : List Token) → ts ≡ at (tree.mark tree.colon) q ∷ us → limited 64 ts (seq tree.colon [] s) ≡ limited 64 us s
colon_comes s q ts us e = ap (λ x. limited 64 x (seq tree.colon [] s)) e

pub no_colon : (s : State) (ts : List Token) (e : Stop) → NoMark Mark.Colon ts e → judged (limited 64 ts (seq tree.colon [] s)) ≡ stop_of e
no_colon s ts e = no_mark_here Mark.Colon (λ q. s) (seq tree.colon [] s) ts e refl (λ t h. h)
