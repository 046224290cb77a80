-- How the limited machine takes the tokens of an annotation.
use Rattle.std.proofs.Common.{◌≡◌, ℕ, ◌<◌, false, leb, List, [], ◌∷◌, sym, ap, ◌∙◌, arith}
use mathlib.Core.Option.{none}
use Rattle.grammar.specs.Tree as tree
use Rattle.grammar.specs.Tree.{Ann, Token, at}
use Rattle.grammar.specs.Reader.{Slot, either, of_item, typed, typing}
use Rattle.grammar.specs.Limits.{levels, limited, proceeds, slot_depth, unless, when_true}
use Rattle.grammar.specs.Verdict.{judged}
use Rattle.reader.specs.Stops.{stop_of}
use Rattle.reader.specs.Taking.{NoMark}
use Rattle.reader.specs.declared.kinds.Mark.{Mark}
use Rattle.reader.specs.declared.refusals.Stop.{Stop}

below : (n : ℕ) → n < 64 → leb 64 n ≡ false
below n h = grind arith

-- a bracket opens a level, where one more may be open
pub opens_item : (p : ℕ) (s : Slot) (ts : List Token) → slot_depth s < 64 → limited 64 (at tree.lbracket p ∷ ts) (typing s) ≡ limited 64 ts (typing (of_item p s))
opens_item p s ts h = ap (λ b. unless (when_true b levels) (at tree.lbracket p) ts (limited 64 ts (typing (of_item p s)))) (below (slot_depth s) h)

-- what was looked for is not there
pub no_item_end : (a : Ann) (p : ℕ) (s : Slot) (ts : List Token) (e : Stop) → NoMark Mark.RightSquare ts e → judged (limited 64 ts (typed a (of_item p s))) ≡ stop_of e
no_item_end a p s [] e h = sym h
no_item_end a p s (t ∷ ts) e h =
    ap (λ x. judged (proceeds (limited 64 ts) none t ts (either x none))) (h.0 (λ q. typed (tree.list_of p a) s)) ∙ sym h.1
