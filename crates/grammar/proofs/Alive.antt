-- Every state of the machine can still come to the end of a program.
use Rattle.std.proofs.Common.{◌≡◌, ℕ, List, [], ◌∷◌, ◌++◌, refl, ap, ◌∙◌}
use mathlib.Core.Option.{some}
use Rattle.grammar.specs.Tree.{Text, Mark, Token, Id, Expr, Ann, Params, Stmt, Stmts, Arms, Decl, Decls, Form, rank, mark_discrete, rparen, rbracket, assign, colon, arrow, newline, indent, dedent, end}
use Rattle.grammar.specs.Tree.{pass, within, name, lit, lparen, mark, at, id, var, bin, pre, mem, idx, call, list, nil, snoc, cls, list_of, no_params, param, skip, ret₀, ret, assigns, choose, loop, each}
use Rattle.grammar.specs.Tree.{empty, then, arm, a_var, a_func, a_class, a_global, a_nonlocal, no_decls, decl, lit_none, named, member, indexed, closed, binary, prefix}
use Rattle.grammar.specs.Reader.{Frame, Outer, Body, Hole, Slot, Naming, State, main, locals, inside, members, base, arms, other, loops, eachs, of_call, of_list, line, value, arm_test, loop_test, each_of}
use Rattle.grammar.specs.Reader.{rhs, under, paren, index, group, of_var, of_param, of_result, of_item, field, for_def, for_class, for_super, for_param, for_global, for_nonlocal, for_each, want, first}
use Rattle.grammar.specs.Reader.{have, naming, seq, opens, params, typing, typed, value_of, returns, more, start, inner, done, add, join, awaits, given, due, block_of, accepted, goes, run, begin}
use Rattle.grammar.specs.Theorems.{Begins}
use Rattle.grammar.proofs.Complete.{Calm, chosen}
use Rattle.grammar.proofs.Sound.{sound}

abbrev Ends : State → Type 0
Ends s = (more : List Token) × (ds : Decls) × (ss : Stmts) × (run more s ≡ accepted ds ss)

-- the same, by no `elif` or `else`
abbrev Calmly : State → Type 0
Calmly s = (more : List Token) × (ds : Decls) × (ss : Stmts) × (run more s ≡ accepted ds ss) × Calm more

-- the same, by a mark
record Leaves (s : State) : Type 0 where
  way : Mark
  rest : List Token
  defs : Decls
  body : Stmts
  ok : run (at (mark way) 0 ∷ rest) s ≡ accepted defs body

-- these tokens first
ahead_of : (ts : List Token) {s k : State} → ((us : List Token) → run (ts ++ us) s ≡ run us k) → Ends k → Ends s
ahead_of ts f r = (ts ++ r.0, r.1, r.2, f r.0 ∙ r.3)

calms : {s : State} → Calmly s → Ends s
calms r = (r.0, r.1, r.2, r.3)

marked : {s : State} → Leaves s → Ends s
marked r = (at (mark r.way) 0 ∷ r.rest, r.defs, r.body, r.ok)

-- by this mark and then as k
by : (m : Mark) {s k : State} → ((us : List Token) → run (at (mark m) 0 ∷ us) s ≡ run us k) → Ends k → Leaves s
by m f r = record { way = m; rest = r.0; defs = r.1; body = r.2; ok = f r.0 ∙ r.3 }

abbrev passes : List Token
passes = at (mark pass) 0 ∷ at (mark newline) 0 ∷ []

mutual
  frame_ends : (fr : Frame) (ss : Stmts) (s : Stmt) → Calmly (start (base fr (then ss s)))
  frame_ends (main ds) ss s = (at (mark end) 0 ∷ [], ds, then ss s, refl, λ s. (refl, refl))
  frame_ends (locals p n ps a ds o) ss s =
      let r : Ends (awaits (join (a_func p n ps a ds (then ss s)) o)) = outer_ends o (a_func p n ps a ds (then ss s)) in
      (at (mark dedent) 0 ∷ r.0, r.1, r.2, r.3, λ s. (refl, refl))

  frame_joins : (fr : Frame) (d : Decl) → Ends (awaits (join d (inside fr)))
  frame_joins (main ds) d = (at (mark pass) 0 ∷ at (mark newline) 0 ∷ at (mark end) 0 ∷ [], decl ds d, then empty (skip 0), refl)
  frame_joins (locals p n ps a ds o) d =
      let f : Decl = a_func p n ps a (decl ds d) (then empty (skip 0)) in
      let r : Ends (awaits (join f o)) = outer_ends o f in
      (at (mark pass) 0 ∷ at (mark newline) 0 ∷ at (mark dedent) 0 ∷ r.0, r.1, r.2, r.3)

  outer_ends : (o : Outer) (d : Decl) → Ends (awaits (join d o))
  outer_ends (inside fr) d = frame_joins fr d
  outer_ends (members p n m ds os) d =
      (at (mark dedent) 0 ∷ at (mark pass) 0 ∷ at (mark newline) 0 ∷ at (mark end) 0 ∷ [], decl os (a_class p n m (decl ds d)), then empty (skip 0), refl)

ended : (b : Body) (s : Stmt) → Calmly (start (add s b))
ended (base fr ss) s = frame_ends fr ss s
ended (arms aa p e ss b) s =
    let x : Arms = arm aa p e (then ss s) in
    let r : Calmly (start (add (choose x empty) b)) = ended b (choose x empty) in
    (at (mark dedent) 0 ∷ r.0, r.1, r.2, chosen x b r.0 r.4 ∙ r.3, λ s. (refl, refl))
ended (other aa ss b) s =
    let r : Calmly (start (add (choose aa (then ss s)) b)) = ended b (choose aa (then ss s)) in (at (mark dedent) 0 ∷ r.0, r.1, r.2, r.3, λ s. (refl, refl))
ended (loops p e ss b) s =
    let r : Calmly (start (add (loop p e (then ss s)) b)) = ended b (loop p e (then ss s)) in (at (mark dedent) 0 ∷ r.0, r.1, r.2, r.3, λ s. (refl, refl))
ended (eachs p n e ss b) s =
    let r : Calmly (start (add (each p n e (then ss s)) b)) = ended b (each p n e (then ss s)) in (at (mark dedent) 0 ∷ r.0, r.1, r.2, r.3, λ s. (refl, refl))

started : (b : Body) → Ends (start b)
started b = ahead_of passes (λ us. refl) (calms (ended b (skip 0)))

blocked : (b : Body) → Ends (block_of b)
blocked b = ahead_of (at (mark newline) 0 ∷ at (mark indent) 0 ∷ []) (λ us. refl) (started b)

left_by : (h : Hole) (p : ℕ) (f : Form) (e : Expr) → Leaves (have p f e h)
left_by (line i es b) p f e = by newline (λ us. refl) (calms (ended b (assigns i es e)))
left_by (value i b) p f e = by newline (λ us. refl) (calms (ended b (ret i e)))
left_by (arm_test aa i b) p f e = by colon (λ us. refl) (blocked (arms aa i e empty b))
left_by (loop_test i b) p f e = by colon (λ us. refl) (blocked (loops i e empty b))
left_by (each_of i n b) p f e = by colon (λ us. refl) (blocked (eachs i n e empty b))
left_by (rhs i o a h) p f e =
    let r : Leaves (have i (binary (rank o)) (bin i o a e) h) = left_by h i (binary (rank o)) (bin i o a e) in
    record { way = r.way; rest = r.rest; defs = r.defs; body = r.body; ok = r.ok }
left_by (under i u h) p f e =
    let r : Leaves (have i (prefix u) (pre i u e) h) = left_by h i (prefix u) (pre i u e) in
    record { way = r.way; rest = r.rest; defs = r.defs; body = r.body; ok = r.ok }
left_by (paren i h) p f e = by rparen (λ us. refl) (marked (left_by h i closed e))
left_by (index i a h) p f e = by rbracket (λ us. refl) (marked (left_by h i indexed (idx i a e)))
left_by (group (of_call i a) es h) p f e = by rparen (λ us. refl) (marked (left_by h i closed (call i a (snoc es e))))
left_by (group (of_list i) es h) p f e = by rbracket (λ us. refl) (marked (left_by h i closed (list i (snoc es e))))

-- a name, as good as any
abbrev some_name : Text
some_name = []

abbrev a_name : Token
a_name = at (name some_name) 0

abbrev an_id : Id
an_id = id 0 some_name

wanted : (h : Hole) → Ends (want h)
wanted h = ahead_of (a_name ∷ []) (λ us. refl) (marked (left_by h 0 (named some_name) (var 0 some_name)))

resulted : (p : ℕ) (n : Id) (ps : Params) (o : Outer) (a : Ann) → Ends (typed a (of_result p n ps o))
resulted p n ps o a = ahead_of (at (mark colon) 0 ∷ []) (λ us. refl) (blocked (base (locals p n ps a no_decls o) empty))

arrowed : (p : ℕ) (n : Id) (ps : Params) (o : Outer) → Ends (seq arrow [] (typing (of_result p n ps o)))
arrowed p n ps o = ahead_of (at (mark arrow) 0 ∷ a_name ∷ []) (λ us. refl) (resulted p n ps o (cls 0 some_name))

slot_ends : (s : Slot) (a : Ann) → Ends (typed a s)
slot_ends (of_var n o) a =
    ahead_of (at (mark assign) 0 ∷ at (lit lit_none) 0 ∷ at (mark newline) 0 ∷ []) (λ us. refl) (outer_ends o (a_var n a 0 lit_none))
slot_ends (of_param p n ps m o) a = ahead_of (at (mark rparen) 0 ∷ []) (λ us. refl) (arrowed p n (param ps m a) o)
slot_ends (of_result p n ps o) a = resulted p n ps o a
slot_ends (of_item p s) a = ahead_of (at (mark rbracket) 0 ∷ []) (λ us. refl) (slot_ends s (list_of p a))

slotted : (s : Slot) → Ends (typing s)
slotted s = ahead_of (a_name ∷ []) (λ us. refl) (slot_ends s (cls 0 some_name))

params_end : (p : ℕ) (n : Id) (o : Outer) → Ends (params p n o)
params_end p n o = ahead_of (at (mark rparen) 0 ∷ []) (λ us. refl) (arrowed p n no_params o)

supers : (p : ℕ) (n : Id) (ds : Decls) → Ends (naming (for_super p n ds))
supers p n ds =
    ahead_of (a_name ∷ at (mark rparen) 0 ∷ at (mark colon) 0 ∷ at (mark newline) 0 ∷ at (mark indent) 0 ∷ at (mark dedent) 0 ∷ []) (λ us. refl)
    (started (base (main (decl ds (a_class p n an_id no_decls))) empty))

name_ends : (k : Naming) → Ends (naming k)
name_ends (field p e h) = ahead_of (a_name ∷ []) (λ us. refl) (marked (left_by h p member (mem p e some_name)))
name_ends (for_def p o) = ahead_of (a_name ∷ at lparen 0 ∷ []) (λ us. refl) (params_end p an_id o)
name_ends (for_class p ds) = ahead_of (a_name ∷ at lparen 0 ∷ []) (λ us. refl) (supers p an_id ds)
name_ends (for_super p n ds) = supers p n ds
name_ends (for_param p n ps o) = ahead_of (a_name ∷ at (mark colon) 0 ∷ []) (λ us. refl) (slotted (of_param p n ps an_id o))
name_ends (for_global p o) = ahead_of (a_name ∷ at (mark newline) 0 ∷ []) (λ us. refl) (outer_ends o (a_global p an_id))
name_ends (for_nonlocal p o) = ahead_of (a_name ∷ at (mark newline) 0 ∷ []) (λ us. refl) (outer_ends o (a_nonlocal p an_id))
name_ends (for_each p b) = ahead_of (a_name ∷ at (mark within) 0 ∷ []) (λ us. refl) (wanted (each_of p some_name b))

same : {A : Type 0} (a : A) (d : Dec A) (s : State) → given d s ≡ some s
same a (yes b) s = refl
same a (no b) s = absurd (b a)

seq_ends : (ms : List Mark) (s : State) → Ends s → Ends (due ms s)
seq_ends [] s r = r
seq_ends (m ∷ ms) s r =
    ahead_of (at (mark m) 0 ∷ []) (λ us. ap (goes (run us) (at (mark m) 0) us) (same refl (mark_discrete m m) (due ms s))) (seq_ends ms s r)

alive : (s : State) → Ends s
alive (want h) = wanted h
alive (first g h) = ahead_of (a_name ∷ []) (λ us. refl) (marked (left_by (group g nil h) 0 (named some_name) (var 0 some_name)))
alive (have p f e h) = marked (left_by h p f e)
alive (naming k) = name_ends k
alive (seq m ms s) = seq_ends (m ∷ ms) s (alive s)
alive (opens s) = ahead_of (at lparen 0 ∷ []) (λ us. refl) (alive s)
alive (params p n o) = params_end p n o
alive (typing s) = slotted s
alive (typed a s) = slot_ends s a
alive (value_of n a o) = ahead_of (at (lit lit_none) 0 ∷ at (mark newline) 0 ∷ []) (λ us. refl) (outer_ends o (a_var n a 0 lit_none))
alive (returns p b) = ahead_of (at (mark newline) 0 ∷ []) (λ us. refl) (calms (ended b (ret₀ p)))
alive (more aa b) = ahead_of passes (λ us. refl) (calms (ended (add (choose aa empty) b) (skip 0)))
alive (start b) = started b
alive (inner p n m ds os) = ahead_of (at (mark dedent) 0 ∷ []) (λ us. refl) (started (base (main (decl os (a_class p n m ds))) empty))
alive (done ds ss) = ([], ds, ss, refl)

-- a list that leads to a state begins a program
pub goes_on : (ts : List Token) (k : State) → ((more : List Token) → run (ts ++ more) begin ≡ run more k) → Begins ts
goes_on ts k f = let r : Ends k = alive k in (r.0, r.1, r.2, sound (ts ++ r.0) r.1 r.2 (f r.0 ∙ r.3))
