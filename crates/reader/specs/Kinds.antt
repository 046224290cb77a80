-- What the kinds of tokens in the code stand for.
use Rattle.std.specs.Prelude.{ℕ, List}
use Rattle.arena.specs.Trees.{binary_of, spelled, string_of}
use Rattle.grammar.specs.Tree as tree
use Rattle.grammar.specs.Tree.{Token}
use Rattle.lexis.specs.Faults.{fault_number}
use Rattle.reader.specs.declared.kinds.Constant.{Constant}
use Rattle.reader.specs.declared.kinds.Kind.{Kind}
use Rattle.reader.specs.declared.kinds.Mark.{Mark}
use Rattle.reader.specs.declared.kinds.Next.{Next}

abbrev pub mark_of : Mark → tree.Mark
mark_of Mark.RightRound = tree.rparen
mark_of Mark.RightSquare = tree.rbracket
mark_of Mark.Comma = tree.comma
mark_of Mark.Assign = tree.assign
mark_of Mark.Colon = tree.colon
mark_of Mark.Arrow = tree.arrow
mark_of Mark.Newline = tree.newline
mark_of Mark.Indent = tree.indent
mark_of Mark.Dedent = tree.dedent
mark_of Mark.End = tree.end
mark_of Mark.Class = tree.class
mark_of Mark.Def = tree.def
mark_of Mark.Global = tree.global
mark_of Mark.Nonlocal = tree.nonlocal
mark_of Mark.Pass = tree.pass
mark_of Mark.Return = tree.return
mark_of Mark.If = tree.if
mark_of Mark.Elif = tree.elif
mark_of Mark.Else = tree.else
mark_of Mark.While = tree.while
mark_of Mark.For = tree.for
mark_of Mark.In = tree.within
mark_of Mark.Unused = tree.unused

abbrev pub constant_of : Constant → tree.Literal
constant_of Constant.None = tree.lit_none
constant_of Constant.True = tree.lit_true
constant_of Constant.False = tree.lit_false
constant_of (Constant.Integer n) = tree.int n

-- of a token at the place p
abbrev pub kind_model : List ℕ → ℕ → Kind → tree.Kind
kind_model src p (Kind.Name n) = tree.name (spelled src (record { at = p; len = n }))
kind_model src p (Kind.Text n) = tree.lit (tree.text (string_of src (record { at = p; len = n })))
kind_model src p (Kind.Constant l) = tree.lit (constant_of l)
kind_model src p Kind.Dot = tree.dot
kind_model src p Kind.LeftRound = tree.lparen
kind_model src p Kind.LeftSquare = tree.lbracket
kind_model src p Kind.Not = tree.not_word
kind_model src p (Kind.Operator o) = tree.op (binary_of o)
kind_model src p (Kind.Mark m) = tree.mark (mark_of m)
kind_model src p (Kind.Fault f) = tree.wrong (fault_number f)

abbrev pub next_token : List ℕ → Next → Token
next_token src t = tree.at (kind_model src t.place t.kind) t.place
