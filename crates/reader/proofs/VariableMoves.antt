-- How the limited machine takes a variable's definition, past its name and colon.
use Rattle.std.proofs.Common.{◌≡◌, ℕ, List, [], ◌∷◌, sym, refl, ap}
use mathlib.Core.Option.{none}
use Rattle.grammar.specs.Tree as tree
use Rattle.grammar.specs.Tree.{Ann, Id, Token, at}
use Rattle.grammar.specs.Reader.{Outer, State, awaits, either, join, of_var, seq, typed, value_of}
use Rattle.grammar.specs.Limits.{limited}
use Rattle.grammar.specs.Verdict.{judged}
use Rattle.reader.specs.Definitions.{NoLiteral, OuterAt}
use Rattle.reader.specs.Stops.{stop_of}
use Rattle.reader.specs.Taking.{NoMark}
use Rattle.reader.specs.Types.{SlotAt}
use Rattle.reader.specs.declared.kinds.Mark.{Mark}
use Rattle.reader.specs.declared.refusals.Stop.{Stop}
use Rattle.reader.proofs.Refusing.{no_mark_here, refused_here}

abbrev pub var_slot : (n : Id) (d : ℕ) → OuterAt d → SlotAt d
var_slot n d x = record { slot = of_var n x.outer; deep = x.deep }

module _ (n : Id) (a : Ann) (o : Outer) where
  pub assigned : (q : ℕ) (ts us : List Token) → ts ≡ at (tree.mark tree.assign) q ∷ us → limited 64 ts (typed a (of_var n o)) ≡ limited 64 us (value_of n a o)
  assigned q ts us e = ap (λ x. limited 64 x (typed a (of_var n o))) e

  pub unassigned : (ts : List Token) (e : Stop) → NoMark Mark.Assign ts e → judged (limited 64 ts (typed a (of_var n o))) ≡ stop_of e
  unassigned ts e = no_mark_here Mark.Assign (λ q. value_of n a o) (typed a (of_var n o)) ts e refl (λ t h. ap (λ x. either x none) h)

  pub valued : (l : tree.Literal) (q : ℕ) (ts us : List Token) → ts ≡ at (tree.lit l) q ∷ us → limited 64 ts (value_of n a o) ≡ limited 64 us (seq tree.newline [] (awaits (join (tree.a_var n a q l) o)))
  valued l q ts us e = ap (λ x. limited 64 x (value_of n a o)) e

  pub unvalued : (ts : List Token) (e : Stop) → NoLiteral ts e → judged (limited 64 ts (value_of n a o)) ≡ stop_of e
  unvalued [] e h = sym h
  unvalued (t ∷ ts) e h = refused_here t ts (t ∷ ts) (value_of n a o) e refl (h.0 (λ q l. seq tree.newline [] (awaits (join (tree.a_var n a q l) o)))) h.1

-- the end of a line
pub line_ends : (s : State) (q : ℕ) (ts us : List Token) → ts ≡ at (tree.mark tree.newline) q ∷ us → limited 64 ts (seq tree.newline [] s) ≡ limited 64 us s
line_ends s q ts us e = ap (λ x. limited 64 x (seq tree.newline [] s)) e

pub no_line_end : (s : State) (ts : List Token) (e : Stop) → NoMark Mark.Newline ts e → judged (limited 64 ts (seq tree.newline [] s)) ≡ stop_of e
no_line_end s ts e = no_mark_here Mark.Newline (λ q. s) (seq tree.newline [] s) ts e refl (λ t h. h)
