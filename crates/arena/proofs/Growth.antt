-- How the trees of a table grow.
use Rattle.std.proofs.Common.{◌≡◌, ℕ, suc, ◌+◌, ◌<◌, true, List, [], ◌∷◌, ◌++◌, length, take, drop, slice_get, Some, sym, refl, ap, ◌∙◌, subst, append_assoc, add-zero, zero-add, arith, length-append, length-take}
use lib.ListN.{get_or-append}
use Rattle.std.proofs.Math.Seq.{get_or-append_seam, split_at}
use Rattle.std.proofs.lemmas.Option.{get_or_from_slice_get, slice_get_within}
use Rattle.arena.specs.declared.nodes.Node.{Node}
use Rattle.arena.specs.declared.nodes.Node.TheVariants.{Variable, Constant, Binary, Prefix, Member, Index, Call, Display, NoExpressions, MoreExpressions, ClassType, QuotedType, ListType, NoParameters, MoreParameters, Pass, BareReturn, Return, Assign, If, While, For, NoStatements, MoreStatements, NoArms, MoreArms, VariableDefinition, FunctionDefinition, ClassDefinition, Global, Nonlocal, NoDeclarations, MoreDeclarations}
use Rattle.arena.specs.Laws.{TreesStand}
use Rattle.arena.specs.Order.{before, ordered}
use Rattle.arena.specs.Trees.{Phrase, blank, grown, over, phrase, pick}

module _ (src : List ℕ) where
  length_grown : (es : List Phrase) (ns : List Node) → length (grown src es ns) ≡ length es + length ns
  unfolding grown
  length_grown es [] = sym (add-zero _)
  length_grown es (n ∷ ns) = length_grown (es ++ (over src (pick es) n ∷ [])) ns ∙ simp length-append (omega arith)

  grown_more : (es : List Phrase) (ns ms : List Node) → grown src es (ns ++ ms) ≡ grown src (grown src es ns) ms
  unfolding grown
  grown_more es [] ms = refl
  grown_more es (n ∷ ns) ms = grown_more (es ++ (over src (pick es) n ∷ [])) ns ms

  grown_keeps : (es : List Phrase) (ns : List Node) (i : ℕ) → i < length es → pick (grown src es ns) i ≡ pick es i
  unfolding grown
  grown_keeps es [] i h = refl
  grown_keeps es (n ∷ ns) i h =
      grown_keeps (es ++ (over src (pick es) n ∷ [])) ns i (simp length-append (omega arith))
      ∙ get_or-append es (over src (pick es) n ∷ []) blank i h

  stays : (ns ms : List Node) (i : ℕ) → i < length ns → phrase src (ns ++ ms) i ≡ phrase src ns i
  unfolding phrase
  stays ns ms i h =
      ap (λ es. pick es i) (grown_more [] ns ms) ∙ grown_keeps (grown src [] ns) ms i (rw length_grown (rw zero-add h))

  new : (ns : List Node) (n : Node) → phrase src (ns ++ (n ∷ [])) (length ns) ≡ over src (phrase src ns) n
  unfolding phrase grown
  new ns n =
      let es = grown src [] ns in
      let long : length es ≡ length ns = length_grown [] ns ∙ zero-add _ in
      ap (λ x. pick x (length ns)) (grown_more [] ns (n ∷ []))
      ∙ ap (λ k. pick (es ++ (over src (pick es) n ∷ [])) k) (sym long)
      ∙ get_or-append_seam es (over src (pick es) n) [] blank

  -- what a node stands for rests on its children alone
  over_same : (k : ℕ) (f g : ℕ → Phrase) (n : Node) → before k n ≡ true → ((c : ℕ) → c < k → f c ≡ g c) → over src f n ≡ over src g n
  over_same k f g (Variable name) b h = refl
  over_same k f g (Constant place literal) b h = refl
  over_same k f g (Binary place operator left right) b h = grind (arith, h)
  over_same k f g (Prefix place operator operand) b h = grind (arith, h)
  over_same k f g (Member place object name) b h = grind (arith, h)
  over_same k f g (Index place object index) b h = grind (arith, h)
  over_same k f g (Call place callee arguments) b h = grind (arith, h)
  over_same k f g (Display place elements) b h = grind (arith, h)
  over_same k f g NoExpressions b h = refl
  over_same k f g (MoreExpressions first last) b h = grind (arith, h)
  over_same k f g (ClassType name) b h = refl
  over_same k f g (QuotedType name) b h = refl
  over_same k f g (ListType place element) b h = grind (arith, h)
  over_same k f g NoParameters b h = refl
  over_same k f g (MoreParameters first name annotation) b h = grind (arith, h)
  over_same k f g (Pass place) b h = refl
  over_same k f g (BareReturn place) b h = refl
  over_same k f g (Return place value) b h = grind (arith, h)
  over_same k f g (Assign place targets value) b h = grind (arith, h)
  over_same k f g (If arms otherwise) b h = grind (arith, h)
  over_same k f g (While place condition body) b h = grind (arith, h)
  over_same k f g (For place variable sequence body) b h = grind (arith, h)
  over_same k f g NoStatements b h = refl
  over_same k f g (MoreStatements first last) b h = grind (arith, h)
  over_same k f g NoArms b h = refl
  over_same k f g (MoreArms first place condition body) b h = grind (arith, h)
  over_same k f g (VariableDefinition name annotation place literal) b h = grind (arith, h)
  over_same k f g (FunctionDefinition place name parameters result declarations body) b h = grind (arith, h)
  over_same k f g (ClassDefinition place name superclass members) b h = grind (arith, h)
  over_same k f g (Global place name) b h = refl
  over_same k f g (Nonlocal place name) b h = refl
  over_same k f g NoDeclarations b h = refl
  over_same k f g (MoreDeclarations first last) b h = grind (arith, h)

-- a node stands after its children
after_children : (k : ℕ) (front back : List Node) (n : Node) → ordered k (front ++ (n ∷ back)) ≡ true → before (k + length front) n ≡ true
after_children k [] back n h = rw add-zero (grind arith)
after_children k (x ∷ front) back n h =
    let rest : ordered (k + 1) (front ++ (n ∷ back)) ≡ true = grind arith in
    let e : k + 1 + length front ≡ k + length (x ∷ front) = omega arith in
    subst (λ j. before j n ≡ true) e (after_children (k + 1) front back n rest)

unfolds : (src : List ℕ) (ns : List Node) (i : ℕ) (n : Node) → ordered 0 ns ≡ true → slice_get ns i ≡ Some n → phrase src ns i ≡ over src (phrase src ns) n
unfolds src ns i n sorted e =
    let front = take i ns in
    let back = drop (suc i) ns in
    let inside : i < length ns = slice_get_within ns i n e in
    let whole : ns ≡ front ++ (n ∷ back) = subst (λ x. ns ≡ front ++ (x ∷ back)) (get_or_from_slice_get ns i n n e) (split_at ns i n inside) in
    let part : ns ≡ (front ++ (n ∷ [])) ++ back = whole ∙ sym (append_assoc front (n ∷ []) back) in
    let one : length (front ++ (n ∷ [])) ≡ length front + 1 = length-append front (n ∷ []) in
    let long : length front ≡ i = simp length-take (omega arith) in
    let same : phrase src ns i ≡ phrase src (front ++ (n ∷ [])) i = ap (λ x. phrase src x i) part ∙ stays src (front ++ (n ∷ [])) back i (omega arith) in
    let fresh : phrase src (front ++ (n ∷ [])) i ≡ over src (phrase src front) n = ap (phrase src (front ++ (n ∷ []))) (sym long) ∙ new src front n in
    let children : before (length front) n ≡ true = subst (λ j. before j n ≡ true) (zero-add _) (after_children 0 front back n (subst (λ x. ordered 0 x ≡ true) whole sorted)) in
    same ∙ fresh ∙ over_same src (length front) (phrase src front) (phrase src ns) n children (λ d less. sym (ap (λ x. phrase src x d) whole ∙ stays src front (n ∷ back) d less))

pub trees_stand : TreesStand
trees_stand = record { stays = stays; new = new; unfolds = unfolds }
