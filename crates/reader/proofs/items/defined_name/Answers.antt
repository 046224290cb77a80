use Rattle.std.proofs.Common.{◌≡◌, ℕ, Bool, true, false, List, [], ◌∷◌, slice_get, Some, sym, subst, ◌∙◌, refl, ap}
use Rattle.std.specs.Bool.{then_some}
use mathlib.Core.Option.{none}
use Rattle.arena.proofs.Growth.{trees_stand}
use Rattle.arena.specs.Order.{ordered}
use Rattle.arena.specs.Tables.{arena_nodes}
use Rattle.arena.specs.Trees.{Phrase, phrase, spelled}
use Rattle.arena.specs.declared.nodes.Node.{Node}
use Rattle.arena.specs.declared.nodes.Stretch.{Stretch}
use Rattle.grammar.specs.Tree as tree
use Rattle.grammar.specs.Tree.{Expr, Token, id}
use Rattle.grammar.specs.Reader.{Body, Frame, arms, base, declared, eachs, either, inside, loops, of_var, other, pick, typing, vars}
use Rattle.reader.specs.Feeds.{coming}
use Rattle.reader.specs.Forms.{form_of}
use Rattle.reader.specs.Places.{Unsaid}
use Rattle.reader.specs.Defining.{DefinedTold}
use Rattle.reader.specs.Taking.{Another, PassTold}
use Rattle.reader.specs.Told.{NamedAt, NamedBy}
use Rattle.reader.specs.declared.forms.Form.{Form}
use Rattle.reader.specs.declared.forms.Read.{Read}
use Rattle.reader.specs.declared.kinds.Mark.{Mark}
use Rattle.reader.proofs.items.defined_name.Goals as goal

-- only before any statement might a variable be defined
undefined : (b : Body) (p : ℕ) (f : tree.Form) (t : Token) → ((fr : Frame) → pick (declared fr p f) t ≡ none) → pick (vars tree.nil b p f) t ≡ none
undefined (base fr tree.empty) p f t h = h fr
undefined (base fr (tree.then ss s)) p f t h = refl
undefined (arms aa q e ss b) p f t h = refl
undefined (other aa ss b) p f t h = refl
undefined (loops q e ss b) p f t h = refl
undefined (eachs q n e ss b) p f t h = refl

-- no colon comes
no_colon : (fr : Frame) (p : ℕ) (f : tree.Form) (t : Token) (ts : List Token) → Another Mark.Colon (t ∷ ts) → pick (declared fr p f) t ≡ none
no_colon fr p (tree.named n) t ts h = ap (λ x. either x none) (h (λ q. typing (of_var (id p n) (inside fr))))
no_colon fr p tree.member t ts h = refl
no_colon fr p tree.indexed t ts h = refl
no_colon fr p tree.closed t ts h = refl
no_colon fr p (tree.binary r) t ts h = refl
no_colon fr p (tree.prefix q) t ts h = refl

uncoloned : (b : Body) (p : ℕ) (f : tree.Form) (ts : List Token) → Another Mark.Colon ts → Unsaid b p f ts
uncoloned b p f [] h = tt
uncoloned b p f (t ∷ ts) h = undefined b p f t (λ fr. no_colon fr p f t ts h)

-- the name's node stands for a variable at its place
named_here : (ns : List Node) (r : Read) (name : Stretch) → ordered 0 ns ≡ true → r.form ≡ Form.Named → NamedBy ns r → slice_get ns r.node ≡ Some (Node.Variable name)
    → (name.at ≡ r.place) × ((src : List ℕ) → (phrase src ns r.node).expr ≡ tree.var r.place (spelled src name))
named_here ns r name sorted is named here =
    let k : NamedAt ns Form.Named r.place r.node = subst (λ f. NamedAt ns f r.place r.node) is named in
    let two : Some (Node.Variable k.0) ≡ Some (Node.Variable name) = sym k.1.1 ∙ here in
    let same : k.0 ≡ name = cc in
    let place : name.at ≡ r.place = sym (ap (λ (s : Stretch). s.at) same) ∙ k.1.0 in
    (place, (λ src. ap (λ (x : Phrase). x.expr) (trees_stand.unfolds src ns r.node (Node.Variable name) sorted here) ∙ ap (λ i. tree.var i (spelled src name)) place))

-- a name is told if a colon comes after it
told_if : (ns : List Node) (r : Read) (ts us : List Token) (b : Bool) (s : Stretch) → r.form ≡ Form.Named → s.at ≡ r.place → ((src : List ℕ) → (phrase src ns r.node).expr ≡ tree.var r.place (spelled src s)) → PassTold Mark.Colon ts us b
    → DefinedTold ns r.place r.form r.node ts us (then_some b s)
told_if ns r ts us true s is place stands told = (is, place, stands, told)
told_if ns r ts us false s is place stands told = (told.0, (λ e b. uncoloned b r.place (form_of r.form e) ts told.1))

pub returns-in-Some-Variable-clause-told : goal.returns-in-Some-Variable-clause-told
returns-in-Some-Variable-clause-told c =
    let r = c.args.read in
    let ns = arena_nodes c.args.arena.now in
    let s = c.in-Some-Variable.name in
    let here = named_here ns r s c.args.arena.now.sorted c.in-Named.is c.requires.named (sym c.node.ensures ∙ c.in-Some-Variable.is ∙ ap Some c.in-Some-Variable.field-0-is) in
    let ts = coming c.args.feed.now in
    let us = coming c.passes.new.self in
    subst (DefinedTold ns r.place r.form r.node ts us) (sym c.then_some.ensures) (told_if ns r ts us c.passes.result s c.in-Named.is here.0 here.1 c.passes.ensures.told)
