-- The functions that read types, declarations and programs do what the limited reader does.
use mathlib.Core.List.{List, [], ◌∷◌}
use mathlib.Core.Option.{none, some}
use mathlib.Core.Path.{◌≡◌, refl, ap, ◌∙◌, sym, subst}
use Prim.Native.Nat.{ℕ, suc, zero}
use Rattle.grammar.specs.Tree.{Text, Literal, Mark, Token, Id, Ann, Params, Stmt, Decls, Form, target, mark_discrete}
use Rattle.grammar.specs.Tree.{text, rparen, rbracket, comma, assign, colon, arrow, newline, indent, dedent, end, class, def, global, nonlocal}
use Rattle.grammar.specs.Tree.{name, lit, dot, lparen, lbracket, not_word, op, mark, wrong, at, id, nil, snoc, cls, quoted, list_of, no_params, param, assigns, empty, then, a_var, a_func, a_class, a_global, no_decls, decl}
use Rattle.grammar.specs.Tree.{lit_none, lit_true, lit_false, int, named, member, indexed, closed, binary, prefix}
use Rattle.grammar.specs.Reader.{Frame, Outer, Body, Slot, State, Next, main, locals, inside, members, base, line, of_var, of_param, of_result, of_item, for_def, for_class, for_super, for_param, for_global, for_nonlocal}
use Rattle.grammar.specs.Reader.{want, naming, seq, params, typing, typed, value_of, start, inner, done, add, join, awaits, either, only, given, expect, on, pick, declared, calls, names, stmts}
use Rattle.grammar.specs.Profile.{Label, plain, nested}
use Rattle.grammar.specs.Limits.{frame_depth, outer_depth, slot_depth, operand, is_it, sees, nests, exceeds, Reading, beyond, proceeds, limited}
use Rattle.descent.specs.Answers.{Answer, ok, bar, over, cut, tired, bind, decide, may, Tells, To}
use Rattle.descent.specs.Expressions.{tree, form, begun_at, has}
use Rattle.descent.specs.Statements.{next_place}
use Rattle.descent.specs.Declarations.{quote_of, ann, parameter, parameters, variable, Lead, says, defines, on_lead, definition, headline, lead, Parts, parts, decls_of, stmts_of, func_body, func, class_body, class_of, program, LeadTo}
use Rattle.descent.proofs.Answers.{moved, bind_to, bind_term, fits_tells, offered, unroll, Calm, may_tells, refuse_tells, need_tells, leave, name_tells, may_pick, may_front, when_tells, seq_tells, naming_tells, lit_tells, paren_tells, indent_tells, same_offers, bars, cuts, tires, overs, goes_to}
use Rattle.descent.proofs.Expressions.{expr_tells}
use Rattle.descent.specs.Theorems.{Closes, DescendsLead}
use Rattle.descent.proofs.Statements.{lined, stated, starting, ordinarily, bind_begun, chain_tells, command_tells, lines_tells}

quote_tells : (lim : ℕ) (l : Literal) (p : ℕ) (s : Slot) (ts : List Token) → Tells (To lim (λ a. typed a s)) (quote_of l p ts) (limited lim (at (lit l) p ∷ ts) (typing s))
quote_tells lim lit_none p s ts = bars refl
quote_tells lim lit_true p s ts = bars refl
quote_tells lim lit_false p s ts = bars refl
quote_tells lim (int n) p s ts = bars refl
quote_tells lim (text n) p s ts = goes_to lim (λ a. typed a s) (quoted p n) ts

pub ann_tells : (lim n : ℕ) (s : Slot) (ts : List Token) → Tells (To lim (λ a. typed a s)) (ann lim n (slot_depth s) ts) (limited lim ts (typing s))
ann_tells lim zero s ts = tires
ann_tells lim (suc n) s [] = cuts refl
ann_tells lim (suc n) s (at (name m) p ∷ ts) = goes_to lim (λ a. typed a s) (cls p m) ts
ann_tells lim (suc n) s (at (lit l) p ∷ ts) = quote_tells lim l p s ts
ann_tells lim (suc n) s (at dot p ∷ ts) = bars refl
ann_tells lim (suc n) s (at lparen p ∷ ts) = bars refl
ann_tells lim (suc n) s (at lbracket p ∷ ts) =
    fits_tells lim (slot_depth s) (at lbracket p) ts (limited lim ts (typing (of_item p s)))
    (bind_to lim (λ a. typed a (of_item p s)) (ann_tells lim n (of_item p s) ts)
    (λ a us. moved (unroll lim (typed a (of_item p s)) us refl)
    (need_tells lim rbracket us (λ t. plain) (λ q. typed (list_of p a) s) (λ j q. refl) (λ q vs. goes_to lim (λ a. typed a s) (list_of p a) vs))))
ann_tells lim (suc n) s (at not_word p ∷ ts) = bars refl
ann_tells lim (suc n) s (at (op o) p ∷ ts) = bars refl
ann_tells lim (suc n) s (at (mark k) p ∷ ts) = bars refl
ann_tells lim (suc n) s (at (wrong k) p ∷ ts) = bars refl

-- the result's type comes after the parameters
abbrev pub signed : ℕ → Id → Outer → Params → State
signed p m o ps = seq arrow [] (typing (of_result p m ps o))

parameter_tells : (lim n p : ℕ) (m : Id) (o : Outer) (ps : Params) (v : Id) (ts : List Token)
    → Tells (To lim (signed p m o)) (parameter lim n (suc (outer_depth o)) ps v ts) (limited lim ts (seq colon [] (typing (of_param p m ps v o))))
parameter_tells lim zero p m o ps v ts = tires
parameter_tells lim (suc n) p m o ps v ts =
    seq_tells lim colon [] (typing (of_param p m ps v o)) ts refl
    (λ q us. bind_to lim (λ a. typed a (of_param p m ps v o)) (ann_tells lim n (of_param p m ps v o) us)
    (λ a vs. moved (unroll lim (typed a (of_param p m ps v o)) vs refl)
    (may_tells lim comma vs (λ t. plain) (λ i. naming (for_param p m (param ps v a) o)) (pick (on rparen (λ i. signed p m o (param ps v a)) ∷ [])) (λ j i. refl)
    (λ r ws. naming_tells lim (for_param p m (param ps v a) o) ws (λ i x xs. parameter_tells lim n p m o (param ps v a) (id i x) xs))
    (need_tells lim rparen vs (λ t. plain) (λ i. signed p m o (param ps v a)) (λ j i. refl) (λ r ws. goes_to lim (signed p m o) (param ps v a) ws)))))

-- a name and a mark may be looked for in either order
names_last : (f : ℕ → Text → State) (m : Mark) (s : ℕ → State) (t : Token) → either (names f t) (pick (on m s ∷ []) t) ≡ either (expect m s t) (names f t)
names_last f m s (at (name n) p) = refl
names_last f m s (at (lit l) p) = refl
names_last f m s (at dot p) = refl
names_last f m s (at lparen p) = refl
names_last f m s (at lbracket p) = refl
names_last f m s (at not_word p) = refl
names_last f m s (at (op o) p) = refl
names_last f m s (at (mark k) p) = refl
names_last f m s (at (wrong k) p) = refl

pub parameters_tells : (lim n p : ℕ) (m : Id) (o : Outer) (ts : List Token)
    → Tells (To lim (signed p m o)) (parameters lim n (suc (outer_depth o)) ts) (limited lim ts (params p m o))
parameters_tells lim n p m o ts =
    let f : ℕ → Text → State = calls (for_param p m no_params o) in
    let s : ℕ → State = λ q. signed p m o no_params in
    moved (unroll lim (params p m o) ts refl
    ∙ same_offers lim (λ t. plain) (λ t. either (names f t) (pick (on rparen s ∷ []) t)) (λ t. either (expect rparen s t) (names f t)) ts (names_last f rparen s))
    (may_tells lim rparen ts (λ t. plain) s (names f) (λ j q. refl) (λ q us. goes_to lim (signed p m o) no_params us)
    (name_tells lim ts (λ t. plain) f (λ q x. refl) (λ q x us. parameter_tells lim n p m o no_params (id q x) us)))

pub variable_tells : (lim n : ℕ) (v : Id) (o : Outer) (ts : List Token)
    → Tells (To lim (λ c. awaits (join c o))) (variable lim n (outer_depth o) v ts) (limited lim ts (typing (of_var v o)))
variable_tells lim n v o ts =
    bind_to lim (λ a. typed a (of_var v o)) (ann_tells lim n (of_var v o) ts)
    (λ a us. moved (unroll lim (typed a (of_var v o)) us refl)
    (need_tells lim assign us (λ t. plain) (λ q. value_of v a o) (λ j q. refl)
    (λ q vs. lit_tells lim v a o vs
    (λ r l ws. seq_tells lim newline [] (awaits (join (a_var v a r l) o)) ws refl (λ i xs. goes_to lim (λ c. awaits (join c o)) (a_var v a r l) xs)))))

-- Lines where definitions are allowed.
pub bind_lead : {B : Type 0} {Q : B → List Token → Reading → Type 0} {r : Answer Lead} {f : List Token → Stmt → Answer B} {g : List Token → Id → Answer B} {o : Reading}
    (lim : ℕ) (fr : Frame) → Tells (LeadTo lim fr) r o
    → ((us : List Token) (s : Stmt) → Tells Q (f us s) (limited lim us (start (base fr (then empty s)))))
    → ((us : List Token) (v : Id) → Tells Q (g us v) (limited lim us (typing (of_var v (inside fr)))))
    → Tells Q (bind r (λ x us. on_lead x (f us) (g us))) o
bind_lead {r = ok (says s) us} lim fr t x y = moved t.told (x us s)
bind_lead {r = ok (defines v) us} lim fr t x y = moved t.told (y us v)
bind_lead {r = bar t ts} lim fr e x y = bars e.told
bind_lead {r = over l t ts} lim fr e x y = overs e.told
bind_lead {r = cut} lim fr e x y = cuts e.told
bind_lead {r = tired} lim fr e x y = tires

said : (lim : ℕ) (fr : Frame) (s : Stmt) (us : List Token) → Tells (LeadTo lim fr) (ok (says s) us) (limited lim us (start (base fr (then empty s))))
said lim fr s us = record { told = refl }

definition_tells : (lim : ℕ) (fr : Frame) (f : Form) (p : ℕ) (us : List Token) (l : Token → Label) → Calm l
    → Tells (LeadTo lim fr) (definition f p us) (offered lim l (pick (declared fr p f)) us)
definition_tells lim fr (named m) p us l c = need_tells lim colon us l (λ q. typing (of_var (id p m) (inside fr))) c (λ q vs. record { told = refl })
definition_tells lim fr member p us l c = refuse_tells lim us l
definition_tells lim fr indexed p us l c = refuse_tells lim us l
definition_tells lim fr closed p us l c = refuse_tells lim us l
definition_tells lim fr (binary r) p us l c = refuse_tells lim us l
definition_tells lim fr (prefix u) p us l c = refuse_tells lim us l

pub headline_tells : (lim n i : ℕ) (fr : Frame) (ts : List Token)
    → Tells (LeadTo lim fr) (headline lim n (frame_depth fr) i ts) (limited lim ts (want (line i nil (base fr empty))))
headline_tells lim n i fr ts =
    let b : Body = base fr empty in
    bind_term lim (line i nil b) (expr_tells lim n (line i nil b) ts)
    (λ x us z.
    let l : Token → Label = sees (has (line i nil b) x) in
    let next : ℕ → State = λ q. want (line i (snoc nil (tree x)) b) in
    let rest : Token → Next = pick (declared fr (begun_at x) (form x)) in
    moved (leave lim x (line i nil b) us z)
    (may_tells lim newline us l (λ q. start (add (assigns i nil (tree x)) b)) (λ t. either (only (target (form x)) (expect assign next t)) (rest t)) (λ j q. refl)
    (λ q vs. said lim fr (assigns i nil (tree x)) vs)
    (when_tells lim (target (form x)) assign us l next rest (λ j q. refl)
    (λ q vs. bind_to lim (λ s. start (add s b)) (chain_tells lim n i (snoc nil (tree x)) b vs (λ p f. refl)) (λ s ws. said lim fr s ws))
    (definition_tells lim fr (form x) (begun_at x) us l (λ j q. refl)))))

pub lead_tells : (lim n : ℕ) (fr : Frame) (ts : List Token)
    → Tells (LeadTo lim fr) (lead lim n (frame_depth fr) ts) (offered lim (operand (frame_depth fr)) (stated (base fr empty)) ts)
lead_tells lim n fr ts =
    bind_begun lim (base fr empty) (command_tells lim n (base fr empty) ts) (λ us s. said lim fr s us) (λ us. headline_tells lim n (next_place us) fr us)

pub lead_stands : DescendsLead
lead_stands lim n fr ts e = moved (ordinarily lim (base fr empty) ts e) (lead_tells lim n fr ts)

-- Bodies, once their statements come.
in_main : (ds : Decls) → Closes (λ ss. base (main ds) ss) 0 end (λ ss. done ds ss)
in_main ds =
    record { grown = λ ss s. refl; deep = λ ss. refl; quiet = λ ss s. record { undeclared = refl; unlabelled = refl; no_vars = λ i f. refl }; closing = λ ss s. refl; apart = λ c i. refl }

in_func : (p : ℕ) (m : Id) (ps : Params) (a : Ann) (ds : Decls) (o : Outer)
    → Closes (λ ss. base (locals p m ps a ds o) ss) (suc (outer_depth o)) dedent (λ ss. awaits (join (a_func p m ps a ds ss) o))
in_func p m ps a ds o =
    record { grown = λ ss s. refl; deep = λ ss. refl; quiet = λ ss s. record { undeclared = refl; unlabelled = refl; no_vars = λ i f. refl }; closing = λ ss s. refl; apart = λ c i. refl }

-- A declaration within a function is over the limit, but for `global`.
nests_given : {A : Type 0} {P : A → List Token → Reading → Type 0} {g z : Answer A} (lim : ℕ) (j : Mark) (p : ℕ) (ts : List Token)
    (c : Dec (def ≡ j)) (d : Dec (nonlocal ≡ j)) (e : Dec (global ≡ j)) (x : Next) (r s t : State) → (def ≡ j → x ≡ none) → (nonlocal ≡ j → x ≡ none) → (global ≡ j → x ≡ none)
    → Tells P g (limited lim ts s) → Tells P z (proceeds (limited lim ts) none (at (mark j) p) ts (either x none))
    → Tells P (decide c (over nests (at (mark def) p) ts) (decide d (over nests (at (mark nonlocal) p) ts) (decide e g z)))
    (proceeds (limited lim ts) (exceeds lim (is_it c nested (is_it d nested plain))) (at (mark j) p) ts
    (either x (either (either (given c r) (either (given e s) (either (given d t) none))) none)))
nests_given lim j p ts (yes c) d e x r s t xc xd xe y z =
    overs (ap (λ n. proceeds (limited lim ts) (some nests) (at (mark j) p) ts (either n (some r))) (xc c) ∙ ap (λ i. beyond nests (at (mark i) p) ts) (sym c))
nests_given lim j p ts (no c) (yes d) (yes e) x r s t xc xd xe y z =
    overs (ap (λ n. proceeds (limited lim ts) (some nests) (at (mark j) p) ts (either n (some s))) (xd d) ∙ ap (λ i. beyond nests (at (mark i) p) ts) (sym d))
nests_given lim j p ts (no c) (yes d) (no e) x r s t xc xd xe y z =
    overs (ap (λ n. proceeds (limited lim ts) (some nests) (at (mark j) p) ts (either n (some t))) (xd d) ∙ ap (λ i. beyond nests (at (mark i) p) ts) (sym d))
nests_given lim j p ts (no c) (no d) (yes e) x r s t xc xd xe y z =
    moved (ap (λ n. proceeds (limited lim ts) none (at (mark j) p) ts (either n (some s))) (xe e)) y
nests_given lim j p ts (no c) (no d) (no e) x r s t xc xd xe y z = z

nests_tells : {A : Type 0} {P : A → List Token → Reading → Type 0} {g : ℕ → List Token → Answer A} {z : Answer A} (lim i : ℕ) (m : Id) (ps : Params) (a : Ann) (ds : Decls) (o : Outer) (ts : List Token)
    → ((q : ℕ) (vs : List Token) → Tells P (g q vs) (limited lim vs (naming (for_global q (inside (locals i m ps a ds o))))))
    → Tells P z (offered lim (operand (suc (outer_depth o))) (stated (base (locals i m ps a ds o) empty)) ts)
    → Tells P (may def ts (λ p us. over nests (at (mark def) p) us) (may nonlocal ts (λ p us. over nests (at (mark nonlocal) p) us) (may global ts g z)))
    (limited lim ts (start (base (locals i m ps a ds o) empty)))
nests_tells lim i m ps a ds o [] y z = z
nests_tells lim i m ps a ds o (at (name n) p ∷ ts) y z = z
nests_tells lim i m ps a ds o (at (lit l) p ∷ ts) y z = z
nests_tells lim i m ps a ds o (at dot p ∷ ts) y z = z
nests_tells lim i m ps a ds o (at lparen p ∷ ts) y z = z
nests_tells lim i m ps a ds o (at lbracket p ∷ ts) y z = z
nests_tells lim i m ps a ds o (at not_word p ∷ ts) y z = z
nests_tells lim i m ps a ds o (at (op c) p ∷ ts) y z = z
nests_tells lim i m ps a ds o (at (mark j) p ∷ ts) y z =
    let fr : Frame = locals i m ps a ds o in
    let b : Body = base fr empty in
    nests_given lim j p ts (mark_discrete def j) (mark_discrete nonlocal j) (mark_discrete global j) (pick (stmts b) (at (mark j) p))
    (naming (for_def p (inside fr))) (naming (for_global p (inside fr))) (naming (for_nonlocal p (inside fr)))
    (λ e. subst (λ k. pick (stmts b) (at (mark k) p) ≡ none) e refl) (λ e. subst (λ k. pick (stmts b) (at (mark k) p) ≡ none) e refl)
    (λ e. subst (λ k. pick (stmts b) (at (mark k) p) ≡ none) e refl) (y p ts) z
nests_tells lim i m ps a ds o (at (wrong k) p ∷ ts) y z = z

-- a function is complete
abbrev pub func_done : ℕ → Id → Params → Ann → Outer → Parts → State
func_done p m ps a o x = awaits (join (a_func p m ps a (decls_of x) (stmts_of x)) o)

pub func_body_tells : (lim n p : ℕ) (m : Id) (ps : Params) (a : Ann) (o : Outer) (ds : Decls) (ts : List Token)
    → Tells (To lim (func_done p m ps a o)) (func_body lim n (suc (outer_depth o)) ds ts) (limited lim ts (start (base (locals p m ps a ds o) empty)))
func_body_tells lim zero p m ps a o ds ts = tires
func_body_tells lim (suc n) p m ps a o ds ts =
    let fr : Frame = locals p m ps a ds o in
    nests_tells lim p m ps a ds o ts
    (λ i us. naming_tells lim (for_global i (inside fr)) us
    (λ q x vs. seq_tells lim newline [] (awaits (join (a_global i (id q x)) (inside fr))) vs refl (λ j ws. func_body_tells lim n p m ps a o (decl ds (a_global i (id q x))) ws)))
    (bind_lead lim fr (lead_tells lim n fr ts)
    (λ us s. bind_to lim (λ ss. awaits (join (a_func p m ps a ds ss) o))
    (lines_tells lim n (suc (outer_depth o)) (λ ss. base fr ss) dedent (λ ss. awaits (join (a_func p m ps a ds ss) o)) empty s us (in_func p m ps a ds o))
    (λ ss vs. goes_to lim (func_done p m ps a o) (parts ds ss) vs))
    (λ us v. bind_to lim (λ c. awaits (join c (inside fr))) (variable_tells lim n v (inside fr) us) (λ c vs. func_body_tells lim n p m ps a o (decl ds c) vs)))

pub func_tells : (lim n p : ℕ) (o : Outer) (ts : List Token)
    → Tells (To lim (λ c. awaits (join c o))) (func lim n (outer_depth o) p ts) (limited lim ts (naming (for_def p o)))
func_tells lim n p o ts =
    naming_tells lim (for_def p o) ts
    (λ q m us. paren_tells lim (outer_depth o) (params p (id q m) o) us refl
    (λ vs. bind_to lim (signed p (id q m) o) (parameters_tells lim n p (id q m) o vs)
    (λ ps ws. seq_tells lim arrow [] (typing (of_result p (id q m) ps o)) ws refl
    (λ i xs. bind_to lim (λ a. typed a (of_result p (id q m) ps o)) (ann_tells lim n (of_result p (id q m) ps o) xs)
    (λ a ys.
    let s : State = start (base (locals p (id q m) ps a no_decls o) empty) in
    moved (unroll lim (typed a (of_result p (id q m) ps o)) ys refl)
    (need_tells lim colon ys (λ t. plain) (λ j. seq newline (indent ∷ []) s) (λ j k. refl)
    (λ j zs. seq_tells lim newline (indent ∷ []) s zs refl
    (λ k rs. indent_tells lim (outer_depth o) s rs refl
    (λ bs. bind_to lim (func_done p (id q m) ps a o) (func_body_tells lim n p (id q m) ps a o no_decls bs)
    (λ x cs. goes_to lim (λ c. awaits (join c o)) (a_func p (id q m) ps a (decls_of x) (stmts_of x)) cs))))))))))

pub class_body_tells : (lim n p : ℕ) (m s : Id) (os ds : Decls) (ts : List Token)
    → Tells (To lim (λ x. start (base (main (decl os (a_class p m s x))) empty))) (class_body lim n 1 ds ts) (limited lim ts (inner p m s ds os))
class_body_tells lim zero p m s os ds ts = tires
class_body_tells lim (suc n) p m s os ds ts =
    let o : Outer = members p m s ds os in
    let z : Decls → State = λ x. start (base (main (decl os (a_class p m s x))) empty) in
    let f : ℕ → Text → State = λ i x. seq colon [] (typing (of_var (id i x) o)) in
    moved (unroll lim (inner p m s ds os) ts refl)
    (may_pick lim def ts (λ t. plain) (λ i. naming (for_def i o)) (on dedent (λ i. z ds) ∷ []) (names f) (λ j q. refl)
    (λ i us. bind_to lim (λ c. awaits (join c o)) (func_tells lim n i o us) (λ c vs. class_body_tells lim n p m s os (decl ds c) vs))
    (may_pick lim dedent ts (λ t. plain) (λ i. z ds) [] (names f) (λ j q. refl) (λ i us. goes_to lim z ds us)
    (name_tells lim ts (λ t. plain) f (λ q x. refl)
    (λ i x us. seq_tells lim colon [] (typing (of_var (id i x) o)) us refl
    (λ q vs. bind_to lim (λ c. awaits (join c o)) (variable_tells lim n (id i x) o vs) (λ c ws. class_body_tells lim n p m s os (decl ds c) ws))))))

pub class_tells : (lim n p : ℕ) (ds : Decls) (ts : List Token)
    → Tells (To lim (λ c. start (base (main (decl ds c)) empty))) (class_of lim n 0 p ts) (limited lim ts (naming (for_class p ds)))
class_tells lim n p ds ts =
    naming_tells lim (for_class p ds) ts
    (λ q m us. paren_tells lim 0 (naming (for_super p (id q m) ds)) us refl
    (λ vs. naming_tells lim (for_super p (id q m) ds) vs
    (λ r s ws.
    let k : State = inner p (id q m) (id r s) no_decls ds in
    seq_tells lim rparen (colon ∷ newline ∷ indent ∷ []) k ws refl
    (λ i xs. seq_tells lim colon (newline ∷ indent ∷ []) k xs refl
    (λ j ys. seq_tells lim newline (indent ∷ []) k ys refl
    (λ h zs. indent_tells lim 0 k zs refl
    (λ rs. bind_to lim (λ x. start (base (main (decl ds (a_class p (id q m) (id r s) x))) empty)) (class_body_tells lim n p (id q m) (id r s) ds no_decls rs)
    (λ x bs. goes_to lim (λ c. start (base (main (decl ds c)) empty)) (a_class p (id q m) (id r s) x) bs))))))))

pub program_tells : (lim n : ℕ) (ds : Decls) (ts : List Token)
    → Tells (To lim (λ x. done (decls_of x) (stmts_of x))) (program lim n ds ts) (limited lim ts (start (base (main ds) empty)))
program_tells lim zero ds ts = tires
program_tells lim (suc n) ds ts =
    let fr : Frame = main ds in
    let b : Body = base fr empty in
    moved (starting lim b ts refl)
    (may_front lim def ts (operand 0) (λ p. naming (for_def p (inside fr))) (stmts b) (on class (λ p. naming (for_class p ds)) ∷ []) (lined b) (λ j q. refl) (λ q. refl)
    (λ p us. bind_to lim (λ c. awaits (join c (inside fr))) (func_tells lim n p (inside fr) us) (λ c vs. program_tells lim n (decl ds c) vs))
    (may_front lim class ts (operand 0) (λ p. naming (for_class p ds)) (stmts b) [] (lined b) (λ j q. refl) (λ q. refl)
    (λ p us. bind_to lim (λ c. start (base (main (decl ds c)) empty)) (class_tells lim n p ds us) (λ c vs. program_tells lim n (decl ds c) vs))
    (bind_lead lim fr (lead_tells lim n fr ts)
    (λ us s. bind_to lim (λ ss. done ds ss) (lines_tells lim n 0 (λ ss. base fr ss) end (λ ss. done ds ss) empty s us (in_main ds))
    (λ ss vs. goes_to lim (λ x. done (decls_of x) (stmts_of x)) (parts ds ss) vs))
    (λ us v. bind_to lim (λ c. awaits (join c (inside fr))) (variable_tells lim n v (inside fr) us) (λ c vs. program_tells lim n (decl ds c) vs)))))
