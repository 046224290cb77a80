-- A token that no program has here.
use Rattle.std.proofs.Common.{◌≡◌, ℕ, List, [], ◌∷◌, sym, refl, ap, ◌∙◌}
use mathlib.Core.Option.{none}
use Rattle.grammar.specs.Tree.{Token}
use Rattle.grammar.specs.Reader.{State, expect, step}
use Rattle.grammar.specs.Limits.{exceeds, limited, proceeds, sees}
use Rattle.grammar.specs.Verdict.{incomplete, judged}
use Rattle.reader.specs.Kinds.{mark_of}
use Rattle.reader.specs.Stops.{stop_of}
use Rattle.reader.specs.Taking.{Bars, NoMark}
use Rattle.reader.specs.declared.kinds.Mark.{Mark}
use Rattle.reader.specs.declared.refusals.Stop.{Stop}

pub refused_here : (t : Token) (rest ts : List Token) (s : State) (e : Stop) → ts ≡ t ∷ rest → step s t ≡ none → Bars t e → judged (limited 64 ts s) ≡ stop_of e
refused_here t rest ts s e is bar b =
    ap (λ x. judged (limited 64 x s)) is ∙ ap (λ x. judged (proceeds (limited 64 rest) (exceeds 64 (sees s t)) t rest x)) bar ∙ sym b

-- the mark that must come is not there
pub no_mark_here : (m : Mark) (k : ℕ → State) (s : State) (ts : List Token) (e : Stop) → judged (limited 64 [] s) ≡ incomplete → ((t : Token) → expect (mark_of m) k t ≡ none → step s t ≡ none) → NoMark m ts e → judged (limited 64 ts s) ≡ stop_of e
no_mark_here m k s [] e short bar h = short ∙ sym h
no_mark_here m k s (t ∷ ts) e short bar h = refused_here t ts (t ∷ ts) s e refl (bar t (h.0 k)) h.1
