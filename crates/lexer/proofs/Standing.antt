-- What is scanned at a place stands there.
use Rattle.std.proofs.Common.{◌≡◌, ℕ, zero, suc, ◌-◌, List, [], ◌∷◌, length, get_or, take, drop, Some, None, Option, sym, refl, ap, subst}
use Rattle.std.proofs.lemmas.List.{drop-drop}
use Rattle.lexis.specs.Scans.{named, numbered, scan_by, scan_of, texted, marked}
use Rattle.lexis.specs.Bytes.{class_of}
use Rattle.lexis.specs.Tokens.{Tok, model, sized}
use Rattle.lexis.specs.declared.bytes.Class.{Class}
use Rattle.lexis.specs.declared.bytes.Class.TheVariants.{Blank, LineEnd, Hash, Letter, Digit, Quote, Mark, Other}
use Rattle.lexis.specs.declared.scans.Sized.{Sized}
use Rattle.lexis.specs.declared.tokens.Keyword.{Keyword}
use Rattle.lexis.specs.declared.tokens.Symbol.{Symbol}
use Rattle.lexer.specs.Standing.{Stands}

take_of_take : (k : ℕ) (xs : List ℕ) → take (length (take k xs)) xs ≡ take k xs
take_of_take zero xs = refl
take_of_take (suc k) [] = refl
take_of_take (suc k) (x ∷ xs) = ap (λ l. x ∷ l) (take_of_take k xs)

module _ (s : List ℕ) (p : ℕ) where
  word : (o : Option Keyword) (n : ℕ) → Stands s p (named o (take n (drop p s)))
  word (Some k) n = tt
  word None n = take_of_take n (drop p s)

  number : (o : Option ℕ) → Stands s p (numbered o)
  number (Some n) = tt
  number None = tt

  quoted : (o : Option ℕ) → Stands s p (texted (drop p s) o).0
  quoted (Some e) =
      subst (λ xs. take (length (take (e - 1) (drop 1 (drop p s)))) xs ≡ take (e - 1) (drop 1 (drop p s))) (drop-drop 1 p s) (take_of_take (e - 1) (drop 1 (drop p s)))
  quoted None = tt

  symbol : (o : Option (Symbol × ℕ)) → Stands s p (marked o).0
  symbol (Some x) = tt
  symbol None = tt

  by_class : (c : Class) → Stands s p (scan_by c (drop p s)).0
  by_class Blank = tt
  by_class LineEnd = tt
  by_class Hash = tt
  by_class Letter = word _ _
  by_class Digit = number _
  by_class Quote = quoted _
  by_class Mark = symbol _
  by_class Other = tt

  pub stands : (x : Sized) → sized x ≡ scan_of (drop p s) → Stands s p (model x.token)
  stands x e = subst (λ (t : Tok × ℕ). Stands s p t.0) (sym e) (by_class (class_of (get_or (drop p s) 0 0)))
