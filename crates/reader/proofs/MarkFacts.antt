-- Which mark comes.
use Rattle.std.proofs.Common.{◌≡◌, ℕ, List, sym, refl, ap, ◌∙◌}
use mathlib.Core.Option.{none, some}
use Rattle.grammar.specs.Tree as tree
use Rattle.grammar.specs.Tree.{at, mark_discrete}
use Rattle.grammar.specs.Reader.{State, expect, given}
use Rattle.reader.specs.Kinds.{kind_model, mark_of}
use Rattle.reader.specs.declared.kinds.Kind.{Kind}
use Rattle.reader.specs.declared.kinds.Mark.{Mark}

abbrev back : tree.Mark → Mark
back tree.rparen = Mark.RightRound
back tree.rbracket = Mark.RightSquare
back tree.comma = Mark.Comma
back tree.assign = Mark.Assign
back tree.colon = Mark.Colon
back tree.arrow = Mark.Arrow
back tree.newline = Mark.Newline
back tree.indent = Mark.Indent
back tree.dedent = Mark.Dedent
back tree.end = Mark.End
back tree.class = Mark.Class
back tree.def = Mark.Def
back tree.global = Mark.Global
back tree.nonlocal = Mark.Nonlocal
back tree.pass = Mark.Pass
back tree.return = Mark.Return
back tree.if = Mark.If
back tree.elif = Mark.Elif
back tree.else = Mark.Else
back tree.while = Mark.While
back tree.for = Mark.For
back tree.within = Mark.In
back tree.unused = Mark.Unused

back_of : (m : Mark) → back (mark_of m) ≡ m
back_of Mark.RightRound = refl
back_of _ = refl

same_mark : (m k : Mark) → mark_of m ≡ mark_of k → m ≡ k
same_mark m k e = sym (back_of m) ∙ ap back e ∙ back_of k

given_yes : {A : Type 0} (d : Dec A) (s : State) → A → given d s ≡ some s
given_yes (yes p) s a = refl
given_yes (no p) s a = absurd (p a)

given_no : {A : Type 0} (d : Dec A) (s : State) → (A → ⊥) → given d s ≡ none
given_no (yes p) s n = absurd (n p)
given_no (no p) s n = refl

-- the mark that was to come
pub taken : (m : Mark) (s : ℕ → State) (q : ℕ) → expect (mark_of m) s (at (tree.mark (mark_of m)) q) ≡ some (s q)
taken m s q = given_yes (mark_discrete (mark_of m) (mark_of m)) (s q) refl

-- a token that is another
pub unmarked : (src : List ℕ) (p : ℕ) (k : Kind) (m : Mark) → (k ≡ Kind.Mark m → ⊥) → (s : ℕ → State) → expect (mark_of m) s (at (kind_model src p k) p) ≡ none
unmarked src p (Kind.Mark k) m other s = given_no (mark_discrete (mark_of m) (mark_of k)) (s p) (λ e. other (ap Kind.Mark (sym (same_mark m k e))))
unmarked src p _ m other s = refl
