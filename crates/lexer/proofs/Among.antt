-- Open levels.
use Rattle.std.proofs.Common.{◌≡◌, ℕ, false, ◌||◌, eqb, List, [], ◌∷◌, ◌++◌, reverse, sym, refl, ap, ◌∙◌}
use Rattle.std.proofs.Math.Bool.{or_assoc, or_comm, or-false}
use Rattle.std.proofs.lemmas.List.{reverse-append}
use Rattle.std.proofs.lemmas.Bool.Decides.{Decides-eqb}
use Rattle.std.specs.Bool.{one_answer}
use Rattle.std.specs.List.{list_any}
use Rattle.lexis.specs.Bytes.{among}

eqb_sym : (a b : ℕ) → eqb a b ≡ eqb b a
eqb_sym a b = one_answer (eqb a b) (eqb b a) (Decides-eqb a b) (λ e. sym ((Decides-eqb b a).0 e), λ e. (Decides-eqb b a).1 (sym e))

among_append : (xs ys : List ℕ) (c : ℕ) → among (xs ++ ys) c ≡ (among xs c || among ys c)
among_append [] ys c = refl
among_append (x ∷ xs) ys c = ap (λ t. eqb c x || t) (among_append xs ys c) ∙ sym (or_assoc (eqb c x) (among xs c) (among ys c))

-- the innermost level is the last item
pub among_reverse : (xs : List ℕ) (c : ℕ) → among (reverse xs) c ≡ list_any (λ y. eqb y c) xs
among_reverse [] c = refl
among_reverse (x ∷ xs) c =
    ap (λ l. among l c) (reverse-append (x ∷ []) xs) ∙ among_append (reverse xs) (x ∷ []) c
    ∙ or_comm (among (reverse xs) c) (eqb c x || false) ∙ ap (λ t. t || among (reverse xs) c) (or-false (eqb c x) ∙ eqb_sym c x)
    ∙ ap (λ t. eqb x c || t) (among_reverse xs c)
