-- Where a refusal can lie.
use mathlib.Core.Bool.{Bool, true}
use mathlib.Core.List.{List, [], ◌∷◌, ◌++◌, map}
use mathlib.Core.Logic.{inl, inr}
use mathlib.Core.Path.{◌≡◌, ap}
use Prim.Native.Nat.{ℕ, ◌+◌, ◌≤◌}
use native.Mathlib.Omega.{arith}
use lib.ListN.{drop, length}
use Rattle.grammar.specs.Tree.{Token, place}
use Rattle.grammar.specs.Verdict.{Why, in_function_body, no_program, too_deep}
use Rattle.lexis.proofs.Stands.{laws}
use Rattle.lexis.specs.Lines.{tokens}
use Rattle.lexis.specs.Reading.{Reads, begins_line}
use Rattle.lexis.specs.Tokens.{Tok}
use Rattle.syntax.specs.Laws.{RefusedFor}
use Rattle.syntax.specs.Reading.{source_tokens, token_of}

-- the place of the first of some tokens
abbrev front : List Token → ℕ
front [] = 0
front (t ∷ ts) = place t

none_there : (before rest : List Token) (t : Token) → [] ≡ before ++ (t ∷ rest) → ⊥
none_there [] rest t e = let l = ap length e in omega (arith, l)
none_there (b ∷ before) rest t e = let l = ap length e in omega (arith, l)

-- each token that stands in the bytes has its place there, or at their end
standing : (s : List ℕ) (first : Bool) (p : ℕ) (ts : List (ℕ × Tok)) → Reads s first p ts → (before rest : List Token) (t : Token) → map token_of ts ≡ before ++ (t ∷ rest) → place t ≤ length s
standing s first p [] r before rest t e = absurd (none_there before rest t e)
standing s first p (x ∷ xs) r [] rest t e = let h = ap front e in omega (arith, h, r.within)
standing s first p (x ∷ xs) r (b ∷ before) rest t e = standing s (begins_line x.1 first) (x.0 + r.size) xs r.then before rest t (ap (drop 1) e)

in_source : (s : List ℕ) (before rest : List Token) (t : Token) → source_tokens s ≡ before ++ (t ∷ rest) → place t ≤ length s
in_source s = standing s true 0 (tokens s) (laws s).reads

by_reason : (s : List ℕ) (t : Token) (rest : List Token) (n : ℕ) → Why (source_tokens s) t rest n → place t ≤ length s
by_reason s t rest n (no_program b) = in_source s b.0 rest t b.2
by_reason s t rest n (too_deep o) = in_source s o.0 rest t o.2
by_reason s t rest n (in_function_body o) = in_source s o.0 rest t o.2

pub refused_within : (s : List ℕ) (n p : ℕ) → RefusedFor s n p → (p ≤ length s) × (p ≤ 4096)
refused_within s n p (inl h) = let e = h.2 in (omega (arith, e), omega (arith, e))
refused_within s n p (inr h) =
    let t = h.1.0 in
    let l = by_reason s t h.1.1 n h.1.3 in
    let e = h.1.2 in
    (omega (arith, l, e), omega (arith, l, e, h.0))
