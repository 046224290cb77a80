-- What a lexer has yet to give.
use Rattle.std.specs.Prelude.{◌≡◌, ℕ, ◌-◌, List, [], ◌∷◌, length, Some, None, Option, IfSome}
use Rattle.stack.specs.Held.{held, room}
use Rattle.stack.specs.declared.Stack.{Stack}
use Rattle.lexis.specs.Tokens.{Tok, model, placed}
use Rattle.lexis.specs.declared.lines.Spot.{Spot}
use Rattle.lexis.specs.declared.tokens.Placed.{Placed}
use Rattle.lexer.specs.Gaps.{Narrow, ahead}
use Rattle.lexer.specs.Room.{within}
use Rattle.lexer.specs.Standing.{Stands}
use Rattle.lexer.specs.declared.state.Lexer.{Lexer}
use Rattle.lexer.specs.declared.state.Step.{Step}

abbrev pub bytes_of : Lexer → List ℕ
bytes_of x = x.source.bytes.now

-- how many levels more can be open
abbrev pub free : Stack ℕ → ℕ
free l = room l - length (held l)

-- the tokens from a spot of the source on, with the levels that are open
abbrev pub coming : List ℕ → Stack ℕ → Spot → List (ℕ × Tok)
coming s l x = within (free l) (ahead s (held l) x)

-- the tokens that are left
abbrev pub left : Lexer → List (ℕ × Tok)
left x = coming (bytes_of x) x.levels x.spot

-- a step from spot x, with levels l before and m after it, finds the first of the tokens that were to come, and leads to the others
pub record Stepped (s : List ℕ) (l : Stack ℕ) (x : Spot) (t : Step) (m : Stack ℕ) : Type 0 where
  pub given : coming s l x ≡ (x.pos, model t.token) ∷ coming s m t.next
  pub stands : Stands s x.pos (model t.token)
  pub narrow : Narrow t.next

-- a call gives the first of the tokens that were left, and leaves the others
abbrev pub Steps : List (ℕ × Tok) → Option Placed → List (ℕ × Tok) → Type 0
Steps xs None ys = (xs ≡ []) × (ys ≡ [])
Steps xs (Some t) ys = xs ≡ placed t ∷ ys

-- that, from the same source, whose bytes a name or a string borrows
pub record Gives (x : Lexer) (r : Option Placed) (y : Lexer) : Type 0 where
  pub given : Steps (left x) r (left y)
  pub bytes : bytes_of y ≡ bytes_of x
  pub stands : IfSome r (λ t. Stands (bytes_of x) t.at (model t.token))
