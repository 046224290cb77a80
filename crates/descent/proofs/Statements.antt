-- The functions that read statements do what the limited reader does.
use mathlib.Core.List.{List, [], ◌∷◌}
use mathlib.Core.Option.{Option, none, some}
use mathlib.Core.Path.{◌≡◌, refl, ap, ◌∙◌, sym, subst}
use Prim.Native.Nat.{ℕ, suc, zero}
use Rattle.grammar.specs.Tree.{Text, Mark, Token, Expr, Exprs, Stmt, Stmts, Arms, Form, place, target, mark_discrete}
use Rattle.grammar.specs.Tree.{assign, colon, newline, indent, dedent, def, nonlocal, pass, return, if, elif, else, while, for, within}
use Rattle.grammar.specs.Tree.{name, lit, dot, lparen, lbracket, not_word, op, mark, wrong, at, nil, snoc, skip, ret₀, ret, assigns, choose, loop, each, empty, then, no_arms, arm}
use Rattle.grammar.specs.Reader.{Body, State, Next, Offer, base, arms, other, loops, eachs, line, value, arm_test, loop_test, each_of, for_each}
use Rattle.grammar.specs.Reader.{want, naming, seq, returns, more, start, add, either, only, expect, on, pick, begins, vars, block_of, ends, stmts, starts}
use Rattle.grammar.specs.Profile.{Label, plain, opening}
use Rattle.grammar.specs.Limits.{body_depth, label, operand, is_it, declaring, heads, sees, exceeds, Reading, proceeds, limited}
use Rattle.descent.specs.Answers.{Answer, ok, bar, over, cut, tired, bind, Tells, To}
use Rattle.descent.specs.Expressions.{tree, form, begun_at, has}
use Rattle.descent.specs.Statements.{next_place, on_some, chain, returned, command, stmt, branch, ways, suite, lines, Begun}
use Rattle.descent.specs.Theorems.{Quiet, Stays, Ordinary, Closes, DescendsStmt, DescendsCommand}
use Rattle.descent.proofs.Answers.{moved, bind_to, bind_term, offered, unroll, may_tells, refuse_tells, need_tells, leave, may_pick, may_front, when_tells, seq_tells, naming_tells, indent_tells, bars, cuts, tires, goes_to}
use Rattle.descent.proofs.Expressions.{expr_tells}

same_it : {X : Type 0} (d : Dec X) (l : Label) → is_it d l l ≡ l
same_it (yes a) l = refl
same_it (no a) l = refl

no_head : (j : Mark) → heads plain j ≡ plain
no_head j = ap (is_it (mark_discrete def j) plain) (same_it (mark_discrete nonlocal j) plain) ∙ same_it (mark_discrete def j) plain

no_heads : (d : ℕ) (t : Token) → label d (opening d) (heads plain) t ≡ operand d t
no_heads d (at (name v) p) = refl
no_heads d (at (lit v) p) = refl
no_heads d (at dot p) = refl
no_heads d (at lparen p) = refl
no_heads d (at lbracket p) = refl
no_heads d (at not_word p) = refl
no_heads d (at (op o) p) = refl
no_heads d (at (mark j) p) = no_head j
no_heads d (at (wrong v) p) = refl

-- a line, after the marks
abbrev pub lined : Body → Token → Next
lined b t = begins (line (place t) nil b) t

-- what a statement may begin with
abbrev pub stated : Body → Token → Next
stated b t = either (pick (stmts b) t) (lined b t)

pub starting : (lim : ℕ) (b : Body) (ts : List Token) → declaring b ≡ plain
    → limited lim ts (start b) ≡ offered lim (operand (body_depth b)) (starts b) ts
starting lim b [] e = refl
starting lim b (t ∷ ts) e =
    ap (λ l. proceeds (limited lim ts) (exceeds lim l) t ts (starts b t)) (ap (λ l. label (body_depth b) (opening (body_depth b)) (heads l) t) e ∙ no_heads (body_depth b) t)

-- without declarations
quietly : (lim : ℕ) (b : Body) (os : List Offer) (ts : List Token) → Quiet b → ends b ≡ os
    → limited lim ts (start b) ≡ offered lim (operand (body_depth b)) (λ t. either (pick (stmts b) t) (either (pick os t) (lined b t))) ts
quietly lim b os ts q e =
    starting lim b ts q.unlabelled
    ∙ ap (λ ds. offered lim (operand (body_depth b)) (λ t. either (pick (stmts b) t) (either (pick ds t) (either (pick (ends b) t) (lined b t)))) ts) q.undeclared
    ∙ ap (λ es. offered lim (operand (body_depth b)) (λ t. either (pick (stmts b) t) (either (pick es t) (lined b t))) ts) e

in_arms : (aa : Arms) (p : ℕ) (e : Expr) (b : Body) → Closes (λ ss. arms aa p e ss b) (suc (body_depth b)) dedent (λ ss. more (arm aa p e ss) b)
in_arms aa p e b =
    record { grown = λ ss s. refl; deep = λ ss. refl; quiet = λ ss s. record { undeclared = refl; unlabelled = refl; no_vars = λ i f. refl }; closing = λ ss s. refl; apart = λ c i. refl }

in_other : (aa : Arms) (b : Body) → Closes (λ ss. other aa ss b) (suc (body_depth b)) dedent (λ ss. start (add (choose aa ss) b))
in_other aa b =
    record { grown = λ ss s. refl; deep = λ ss. refl; quiet = λ ss s. record { undeclared = refl; unlabelled = refl; no_vars = λ i f. refl }; closing = λ ss s. refl; apart = λ c i. refl }

in_loop : (p : ℕ) (e : Expr) (b : Body) → Closes (λ ss. loops p e ss b) (suc (body_depth b)) dedent (λ ss. start (add (loop p e ss) b))
in_loop p e b =
    record { grown = λ ss s. refl; deep = λ ss. refl; quiet = λ ss s. record { undeclared = refl; unlabelled = refl; no_vars = λ i f. refl }; closing = λ ss s. refl; apart = λ c i. refl }

in_each : (p : ℕ) (n : Text) (e : Expr) (b : Body) → Closes (λ ss. eachs p n e ss b) (suc (body_depth b)) dedent (λ ss. start (add (each p n e ss) b))
in_each p n e b =
    record { grown = λ ss s. refl; deep = λ ss. refl; quiet = λ ss s. record { undeclared = refl; unlabelled = refl; no_vars = λ i f. refl }; closing = λ ss s. refl; apart = λ c i. refl }

-- a function that may read nothing
pub bind_begun : {B : Type 0} {Q : B → List Token → Reading → Type 0} {r : Answer (Option Stmt)} {f : List Token → Stmt → Answer B} {g : List Token → Answer B} {o : Reading}
    (lim : ℕ) (b : Body) → Tells (Begun lim b) r o
    → ((us : List Token) (s : Stmt) → Tells Q (f us s) (limited lim us (start (add s b))))
    → ((us : List Token) → Tells Q (g us) (limited lim us (want (line (next_place us) nil b))))
    → Tells Q (bind r (λ x us. on_some x (f us) (g us))) o
bind_begun {r = ok (some s) us} lim b t x y = moved t.told (x us s)
bind_begun {r = ok none us} lim b t x y = moved t.told (y us)
bind_begun {r = bar t ts} lim b e x y = bars e.told
bind_begun {r = over l t ts} lim b e x y = record { told = e.told }
bind_begun {r = cut} lim b e x y = cuts e.told
bind_begun {r = tired} lim b e x y = tires

begun : (lim : ℕ) (b : Body) (s : Stmt) (us : List Token) → Tells (Begun lim b) (ok (some s) us) (limited lim us (start (add s b)))
begun lim b s us = record { told = refl }

unbegun : (lim : ℕ) (b : Body) (ts : List Token) → Tells (Begun lim b) (ok none ts) (offered lim (operand (body_depth b)) (lined b) ts)
unbegun lim b [] = record { told = refl }
unbegun lim b (t ∷ ts) = record { told = refl }

added_depth : (s : Stmt) (b : Body) → body_depth (add s b) ≡ body_depth b
added_depth s (base fr ss) = refl
added_depth s (arms aa p e ss b) = refl
added_depth s (other aa ss b) = refl
added_depth s (loops p e ss b) = refl
added_depth s (eachs p n e ss b) = refl

added_plain : (s : Stmt) (b : Body) → declaring (add s b) ≡ plain
added_plain s (base fr ss) = refl
added_plain s (arms aa p e ss b) = refl
added_plain s (other aa ss b) = refl
added_plain s (loops p e ss b) = refl
added_plain s (eachs p n e ss b) = refl

-- no arm comes any more
chosen : (lim : ℕ) (aa : Arms) (b : Body) (ts : List Token)
    → Tells (To lim (λ s. start (add s b))) (ok (choose aa empty) ts) (offered lim (operand (body_depth b)) (starts (add (choose aa empty) b)) ts)
chosen lim aa b ts =
    record {
      told =
          ap (λ d. offered lim (operand d) (starts (add (choose aa empty) b)) ts) (sym (added_depth (choose aa empty) b))
          ∙ sym (starting lim (add (choose aa empty) b) ts (added_plain (choose aa empty) b));
    }

pub chain_tells : (lim n i : ℕ) (es : Exprs) (b : Body) (ts : List Token) → ((p : ℕ) (f : Form) → vars es b p f ≡ [])
    → Tells (To lim (λ s. start (add s b))) (chain lim n (body_depth b) i es ts) (limited lim ts (want (line i es b)))
chain_tells lim zero i es b ts v = tires
chain_tells lim (suc n) i es b ts v =
    bind_term lim (line i es b) (expr_tells lim n (line i es b) ts)
    (λ x us z.
    let l : Token → Label = sees (has (line i es b) x) in
    let next : ℕ → State = λ q. want (line i (snoc es (tree x)) b) in
    let rest : Token → Next = pick (vars es b (begun_at x) (form x)) in
    moved (leave lim x (line i es b) us z)
    (may_tells lim newline us l (λ q. start (add (assigns i es (tree x)) b)) (λ t. either (only (target (form x)) (expect assign next t)) (rest t)) (λ j q. refl)
    (λ q vs. goes_to lim (λ s. start (add s b)) (assigns i es (tree x)) vs)
    (when_tells lim (target (form x)) assign us l next rest (λ j q. refl) (λ q vs. chain_tells lim n i (snoc es (tree x)) b vs (λ p f. refl))
    (moved (ap (λ os. offered lim l (pick os) us) (v (begun_at x) (form x))) (refuse_tells lim us l)))))

pub returned_tells : (lim n p : ℕ) (b : Body) (ts : List Token)
    → Tells (To lim (λ s. start (add s b))) (returned lim n (body_depth b) p ts) (limited lim ts (returns p b))
returned_tells lim n p b ts =
    moved (unroll lim (returns p b) ts refl)
    (may_pick lim newline ts (operand (body_depth b)) (λ q. start (add (ret₀ p) b)) [] (begins (value p b)) (λ j q. refl)
    (λ q us. goes_to lim (λ s. start (add s b)) (ret₀ p) us)
    (moved (sym (unroll lim (want (value p b)) ts refl))
    (bind_term lim (value p b) (expr_tells lim n (value p b) ts)
    (λ x us z. moved (leave lim x (value p b) us z)
    (need_tells lim newline us (sees (has (value p b) x)) (λ q. start (add (ret p (tree x)) b)) (λ j q. refl)
    (λ q vs. goes_to lim (λ s. start (add s b)) (ret p (tree x)) vs))))))

-- The marks that a statement begins with.
abbrev on_for : Body → List Offer
on_for b = on for (λ p. naming (for_each p b)) ∷ []

abbrev on_while : Body → List Offer
on_while b = on while (λ p. want (loop_test p b)) ∷ on_for b

abbrev on_if : Body → List Offer
on_if b = on if (λ p. want (arm_test no_arms p b)) ∷ on_while b

abbrev on_return : Body → List Offer
on_return b = on return (λ p. returns p b) ∷ on_if b

mutual
  pub command_tells : (lim n : ℕ) (b : Body) (ts : List Token)
      → Tells (Begun lim b) (command lim n (body_depth b) ts) (offered lim (operand (body_depth b)) (stated b) ts)
  command_tells lim zero b ts = tires
  command_tells lim (suc n) b ts =
      let l : Token → Label = operand (body_depth b) in
      may_pick lim pass ts l (λ p. seq newline [] (start (add (skip p) b))) (on_return b) (lined b) (λ j q. refl)
      (λ p us. seq_tells lim newline [] (start (add (skip p) b)) us refl (λ q vs. begun lim b (skip p) vs))
      (may_pick lim return ts l (λ p. returns p b) (on_if b) (lined b) (λ j q. refl)
      (λ p us. bind_to lim (λ s. start (add s b)) (returned_tells lim n p b us) (λ s vs. begun lim b s vs))
      (may_pick lim if ts l (λ p. want (arm_test no_arms p b)) (on_while b) (lined b) (λ j q. refl)
      (λ p us. bind_to lim (λ s. start (add s b)) (branch_tells lim n no_arms p b us) (λ s vs. begun lim b s vs))
      (may_pick lim while ts l (λ p. want (loop_test p b)) (on_for b) (lined b) (λ j q. refl)
      (λ p us. bind_term lim (loop_test p b) (expr_tells lim n (loop_test p b) us)
      (λ x vs z. moved (leave lim x (loop_test p b) vs z)
      (need_tells lim colon vs (sees (has (loop_test p b) x)) (λ q. block_of (loops p (tree x) empty b)) (λ j q. refl)
      (λ q ws. bind_to lim (λ ss. start (add (loop p (tree x) ss) b))
      (suite_tells lim n (body_depth b) (λ ss. loops p (tree x) ss b) (λ ss. start (add (loop p (tree x) ss) b)) ws (in_loop p (tree x) b)
      (record { undeclared = refl; unlabelled = refl; no_vars = λ i f. refl }) refl)
      (λ ss xs. begun lim b (loop p (tree x) ss) xs)))))
      (may_pick lim for ts l (λ p. naming (for_each p b)) [] (lined b) (λ j q. refl)
      (λ p us. naming_tells lim (for_each p b) us
      (λ q m vs. seq_tells lim within [] (want (each_of p m b)) vs refl
      (λ r ws. bind_term lim (each_of p m b) (expr_tells lim n (each_of p m b) ws)
      (λ x xs z. moved (leave lim x (each_of p m b) xs z)
      (need_tells lim colon xs (sees (has (each_of p m b) x)) (λ c. block_of (eachs p m (tree x) empty b)) (λ j c. refl)
      (λ c ys. bind_to lim (λ ss. start (add (each p m (tree x) ss) b))
      (suite_tells lim n (body_depth b) (λ ss. eachs p m (tree x) ss b) (λ ss. start (add (each p m (tree x) ss) b)) ys (in_each p m (tree x) b)
      (record { undeclared = refl; unlabelled = refl; no_vars = λ i f. refl }) refl)
      (λ ss zs. begun lim b (each p m (tree x) ss) zs)))))))
      (unbegun lim b ts)))))

  pub stmt_tells : (lim n : ℕ) (b : Body) (ts : List Token) → Quiet b
      → Tells (To lim (λ s. start (add s b))) (stmt lim n (body_depth b) ts) (offered lim (operand (body_depth b)) (stated b) ts)
  stmt_tells lim zero b ts q = tires
  stmt_tells lim (suc n) b ts q =
      bind_begun lim b (command_tells lim n b ts) (λ us s. goes_to lim (λ x. start (add x b)) s us)
      (λ us. chain_tells lim n (next_place us) nil b us q.no_vars)

  pub branch_tells : (lim n : ℕ) (aa : Arms) (p : ℕ) (b : Body) (ts : List Token)
      → Tells (To lim (λ s. start (add s b))) (branch lim n (body_depth b) aa p ts) (limited lim ts (want (arm_test aa p b)))
  branch_tells lim zero aa p b ts = tires
  branch_tells lim (suc n) aa p b ts =
      bind_term lim (arm_test aa p b) (expr_tells lim n (arm_test aa p b) ts)
      (λ x us z. moved (leave lim x (arm_test aa p b) us z)
      (need_tells lim colon us (sees (has (arm_test aa p b) x)) (λ q. block_of (arms aa p (tree x) empty b)) (λ j q. refl)
      (λ q vs. bind_to lim (λ ss. more (arm aa p (tree x) ss) b)
      (suite_tells lim n (body_depth b) (λ ss. arms aa p (tree x) ss b) (λ ss. more (arm aa p (tree x) ss) b) vs (in_arms aa p (tree x) b)
      (record { undeclared = refl; unlabelled = refl; no_vars = λ i f. refl }) refl)
      (λ ss ws. ways_tells lim n (arm aa p (tree x) ss) b ws))))

  pub ways_tells : (lim n : ℕ) (aa : Arms) (b : Body) (ts : List Token)
      → Tells (To lim (λ s. start (add s b))) (ways lim n (body_depth b) aa ts) (limited lim ts (more aa b))
  ways_tells lim zero aa b ts = tires
  ways_tells lim (suc n) aa b ts =
      let l : Token → Label = operand (body_depth b) in
      let go : ℕ → State = λ p. seq colon (newline ∷ indent ∷ []) (start (other aa empty b)) in
      moved (unroll lim (more aa b) ts refl)
      (may_pick lim elif ts l (λ p. want (arm_test aa p b)) (on else go ∷ []) (starts (add (choose aa empty) b)) (λ j q. refl)
      (λ p us. branch_tells lim n aa p b us)
      (may_pick lim else ts l go [] (starts (add (choose aa empty) b)) (λ j q. refl)
      (λ p us. seq_tells lim colon (newline ∷ indent ∷ []) (start (other aa empty b)) us refl
      (λ q vs. bind_to lim (λ ss. start (add (choose aa ss) b))
      (suite_tells lim n (body_depth b) (λ ss. other aa ss b) (λ ss. start (add (choose aa ss) b)) vs (in_other aa b)
      (record { undeclared = refl; unlabelled = refl; no_vars = λ i f. refl }) refl)
      (λ ss ws. goes_to lim (λ s. start (add s b)) (choose aa ss) ws)))
      (chosen lim aa b ts)))

  pub suite_tells : (lim n d : ℕ) (k : Stmts → Body) (z : Stmts → State) (ts : List Token) → Closes k (suc d) dedent z → Quiet (k empty) → ends (k empty) ≡ []
      → Tells (To lim z) (suite lim n d ts) (limited lim ts (block_of (k empty)))
  suite_tells lim zero d k z ts c q e = tires
  suite_tells lim (suc n) d k z ts c q e =
      let b : Body = k empty in
      seq_tells lim newline (indent ∷ []) (start b) ts refl
      (λ p us. indent_tells lim d (start b) us (c.deep empty)
      (λ vs. moved (quietly lim b [] vs q e)
      (bind_to lim (λ s. start (add s b))
      (subst (λ c. Tells (To lim (λ s. start (add s b))) (stmt lim n c vs) (offered lim (operand (body_depth b)) (stated b) vs)) (c.deep empty) (stmt_tells lim n b vs q))
      (λ s ws. moved (ap (λ x. limited lim ws (start x)) (c.grown empty s)) (lines_tells lim n (suc d) k dedent z empty s ws c)))))

  pub lines_tells : (lim n d : ℕ) (k : Stmts → Body) (m : Mark) (z : Stmts → State) (ss : Stmts) (s : Stmt) (ts : List Token) → Closes k d m z
      → Tells (To lim z) (lines lim n d m (then ss s) ts) (limited lim ts (start (k (then ss s))))
  lines_tells lim zero d k m z ss s ts c = tires
  lines_tells lim (suc n) d k m z ss s ts c =
      let b : Body = k (then ss s) in
      moved (quietly lim b (on m (λ q. z (then ss s)) ∷ []) ts (c.quiet ss s) (c.closing ss s))
      (may_front lim m ts (operand (body_depth b)) (λ q. z (then ss s)) (stmts b) [] (lined b) (λ j q. refl) (λ q. c.apart b q)
      (λ q us. goes_to lim z (then ss s) us)
      (bind_to lim (λ x. start (add x b))
      (subst (λ c. Tells (To lim (λ x. start (add x b))) (stmt lim n c ts) (offered lim (operand (body_depth b)) (stated b) ts)) (c.deep (then ss s))
      (stmt_tells lim n b ts (c.quiet ss s)))
      (λ x us. moved (ap (λ y. limited lim us (start y)) (c.grown (then ss s) x)) (lines_tells lim n d k m z (then ss s) x us c))))

-- where the block does not end, it is as if it could not
staying : (lim : ℕ) (b : Body) (ts : List Token) → Stays b ts
    → offered lim (operand (body_depth b)) (λ t. either (pick (stmts b) t) (either (pick (ends b) t) (lined b t))) ts ≡ offered lim (operand (body_depth b)) (stated b) ts
staying lim b [] e = refl
staying lim b (t ∷ ts) e = ap (λ x. proceeds (limited lim ts) (exceeds lim (operand (body_depth b) t)) t ts (either (pick (stmts b) t) (either x (lined b t)))) e

pub stmt_stands : DescendsStmt
stmt_stands lim n b ts q e = moved (quietly lim b (ends b) ts q refl ∙ staying lim b ts e) (stmt_tells lim n b ts q)

-- a token that neither declares nor ends the block
pub ordinarily : (lim : ℕ) (b : Body) (ts : List Token) → Ordinary b ts → limited lim ts (start b) ≡ offered lim (operand (body_depth b)) (stated b) ts
ordinarily lim b [] e = refl
ordinarily lim b (t ∷ ts) e =
    ap (λ l. proceeds (limited lim ts) (exceeds lim l) t ts (starts b t)) e.0
    ∙ (λ j. proceeds (limited lim ts) (exceeds lim (operand (body_depth b) t)) t ts (either (pick (stmts b) t) (either (e.1 j) (either (e.2 j) (lined b t)))))

pub command_stands : DescendsCommand
command_stands lim n b ts e = moved (ordinarily lim b ts e) (command_tells lim n b ts)
