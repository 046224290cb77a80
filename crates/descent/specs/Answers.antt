-- What a function that reads answers: a thing and the tokens after it, or why there is none.
use Rattle.std.specs.Prelude.{List, [], ◌∷◌, ◌≡◌, Bool, true, false, ℕ, leb}
use Rattle.grammar.specs.Tree.{Text, Literal, Mark, Token, mark_discrete}
use Rattle.grammar.specs.Tree.{indent}
use Rattle.grammar.specs.Tree.{name, lit, dot, lparen, lbracket, not_word, op, mark, wrong, at}
use Rattle.grammar.specs.Reader.{State}
use Rattle.grammar.specs.Limits.{Limit, levels, Reading, barred, beyond, unfinished, limited}

pub data Answer (A : Type 0) : Type 0 where
  -- what was read, and the rest
  ok : A → List Token → Answer A
  -- no program has the token here; the tokens after it
  bar : Token → List Token → Answer A
  -- the token is over a limit
  over : Limit → Token → List Token → Answer A
  -- the tokens end too soon
  cut : Answer A
  -- the calls were too deep for the number given
  tired : Answer A

abbrev pub bind : {A B : Type 0} → Answer A → (A → List Token → Answer B) → Answer B
bind (ok x us) k = k x us
bind (bar t ts) k = bar t ts
bind (over l t ts) k = over l t ts
bind cut k = cut
bind tired k = tired

abbrev pub decide : {A X : Type 0} → Dec X → A → A → A
decide (yes p) x y = x
decide (no p) x y = y

abbrev pub test : {A : Type 0} → Bool → A → A → A
test true x y = x
test false x y = y

-- nothing goes on with what was read
abbrev pub refuse : {A : Type 0} → List Token → Answer A
refuse [] = cut
refuse (t ∷ ts) = bar t ts

-- the token opens a level, and d are open
abbrev pub fits : {A : Type 0} → ℕ → ℕ → Token → List Token → Answer A → Answer A
fits lim d t ts x = test (leb lim d) (over levels t ts) x

-- this mark may come, or else
abbrev pub may : {A : Type 0} → Mark → List Token → (ℕ → List Token → Answer A) → Answer A → Answer A
may m [] k z = z
may m (at (name n) p ∷ ts) k z = z
may m (at (lit l) p ∷ ts) k z = z
may m (at dot p ∷ ts) k z = z
may m (at lparen p ∷ ts) k z = z
may m (at lbracket p ∷ ts) k z = z
may m (at not_word p ∷ ts) k z = z
may m (at (op o) p ∷ ts) k z = z
may m (at (mark j) p ∷ ts) k z = decide (mark_discrete m j) (k p ts) z
may m (at (wrong j) p ∷ ts) k z = z

-- this mark must come
abbrev pub need : {A : Type 0} → Mark → List Token → (ℕ → List Token → Answer A) → Answer A
need m ts k = may m ts k (refuse ts)

-- a name must come
abbrev pub need_name : {A : Type 0} → List Token → (ℕ → Text → List Token → Answer A) → Answer A
need_name [] k = cut
need_name (at (name n) p ∷ ts) k = k p n ts
need_name (at (lit l) p ∷ ts) k = bar (at (lit l) p) ts
need_name (at dot p ∷ ts) k = bar (at dot p) ts
need_name (at lparen p ∷ ts) k = bar (at lparen p) ts
need_name (at lbracket p ∷ ts) k = bar (at lbracket p) ts
need_name (at not_word p ∷ ts) k = bar (at not_word p) ts
need_name (at (op o) p ∷ ts) k = bar (at (op o) p) ts
need_name (at (mark j) p ∷ ts) k = bar (at (mark j) p) ts
need_name (at (wrong j) p ∷ ts) k = bar (at (wrong j) p) ts

-- a literal must come
abbrev pub need_lit : {A : Type 0} → List Token → (ℕ → Literal → List Token → Answer A) → Answer A
need_lit [] k = cut
need_lit (at (name n) p ∷ ts) k = bar (at (name n) p) ts
need_lit (at (lit l) p ∷ ts) k = k p l ts
need_lit (at dot p ∷ ts) k = bar (at dot p) ts
need_lit (at lparen p ∷ ts) k = bar (at lparen p) ts
need_lit (at lbracket p ∷ ts) k = bar (at lbracket p) ts
need_lit (at not_word p ∷ ts) k = bar (at not_word p) ts
need_lit (at (op o) p ∷ ts) k = bar (at (op o) p) ts
need_lit (at (mark j) p ∷ ts) k = bar (at (mark j) p) ts
need_lit (at (wrong j) p ∷ ts) k = bar (at (wrong j) p) ts

-- a `(` must come, which opens a level
abbrev pub need_paren : {A : Type 0} → ℕ → ℕ → List Token → (List Token → Answer A) → Answer A
need_paren lim d [] k = cut
need_paren lim d (at (name n) p ∷ ts) k = bar (at (name n) p) ts
need_paren lim d (at (lit l) p ∷ ts) k = bar (at (lit l) p) ts
need_paren lim d (at dot p ∷ ts) k = bar (at dot p) ts
need_paren lim d (at lparen p ∷ ts) k = fits lim d (at lparen p) ts (k ts)
need_paren lim d (at lbracket p ∷ ts) k = bar (at lbracket p) ts
need_paren lim d (at not_word p ∷ ts) k = bar (at not_word p) ts
need_paren lim d (at (op o) p ∷ ts) k = bar (at (op o) p) ts
need_paren lim d (at (mark j) p ∷ ts) k = bar (at (mark j) p) ts
need_paren lim d (at (wrong j) p ∷ ts) k = bar (at (wrong j) p) ts

-- an INDENT must come, which opens a level
abbrev pub need_indent : {A : Type 0} → ℕ → ℕ → List Token → (List Token → Answer A) → Answer A
need_indent lim d ts k = need indent ts (λ p us. fits lim d (at (mark indent) p) us (k us))

-- this mark may come where the test passes, or else
abbrev pub may_when : {A : Type 0} → Bool → Mark → List Token → (ℕ → List Token → Answer A) → Answer A → Answer A
may_when b m ts k z = test b (may m ts k z) z

-- The contract of a function that reads: P is what it says of a thing that was read, and the limited reader's reading is the last.
abbrev pub Told : {A : Type 0} → (A → List Token → Reading → Type 0) → Answer A → Reading → Type 0
Told P (ok x us) o = P x us o
Told P (bar t ts) o = o ≡ barred t ts
Told P (over l t ts) o = o ≡ beyond l t ts
Told P cut o = o ≡ unfinished
Told P tired o = Unit {0}

pub record Tells {A : Type 0} (P : A → List Token → Reading → Type 0) (a : Answer A) (o : Reading) : Type 0 where
  pub told : Told P a o

-- the limited reader goes on in this state
abbrev pub To : {A : Type 0} → ℕ → (A → State) → A → List Token → Reading → Type 0
To lim s x us o = o ≡ limited lim us (s x)
