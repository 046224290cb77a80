-- The verdict in terms of programs.
use Rattle.std.proofs.Common.{◌≡◌, ℕ, List, [], ◌∷◌, ◌++◌, refl, ap, ◌∙◌, subst}
use Rattle.grammar.specs.Tree.{Token, Stmts, Decls, place}
use Rattle.grammar.specs.Reader.{begin}
use Rattle.grammar.specs.Limits.{Limit, levels, nests, Reading, limited, complete, barred, beyond, unfinished}
use Rattle.grammar.specs.Verdict.{Verdict, accepted, refused, incomplete, number, most_levels, judged, reads, Accepts, Why, no_program, too_deep, in_function_body, Refuses, Judges}
use Rattle.grammar.proofs.Limited.{accepted_exactly, six_exactly, seven_exactly, eight_exactly}
use Rattle.grammar.proofs.Last.{decided}

-- the parts of a verdict
abbrev decls_of : Decls → Verdict → Decls
decls_of z (accepted ds ss) = ds
decls_of z (refused n p) = z
decls_of z incomplete = z

abbrev stmts_of : Stmts → Verdict → Stmts
stmts_of z (accepted ds ss) = ss
stmts_of z (refused n p) = z
stmts_of z incomplete = z

abbrev number_of : Verdict → ℕ
number_of (accepted ds ss) = 0
number_of (refused n p) = n
number_of incomplete = 0

abbrev place_of : Verdict → ℕ
place_of (accepted ds ss) = 0
place_of (refused n p) = p
place_of incomplete = 0

-- which verdict it is
abbrev IsAccepted : Verdict → Type 0
IsAccepted (accepted ds ss) = Unit {0}
IsAccepted (refused n p) = ⊥
IsAccepted incomplete = ⊥

abbrev IsRefused : Verdict → Type 0
IsRefused (accepted ds ss) = ⊥
IsRefused (refused n p) = Unit {0}
IsRefused incomplete = ⊥

abbrev IsIncomplete : Verdict → Type 0
IsIncomplete (accepted ds ss) = ⊥
IsIncomplete (refused n p) = ⊥
IsIncomplete incomplete = Unit {0}

complete_from : (r : Reading) (ds : Decls) (ss : Stmts) → judged r ≡ accepted ds ss → r ≡ complete ds ss
complete_from (complete es us) ds ss e = λ i. complete (ap (decls_of es) e i) (ap (stmts_of us) e i)
complete_from (barred t rest) ds ss e = absurd (subst IsRefused e tt)
complete_from (beyond l t rest) ds ss e = absurd (subst IsRefused e tt)
complete_from unfinished ds ss e = absurd (subst IsIncomplete e tt)

pub accepts : Accepts
accepts ts ds ss = (
  (λ e. (accepted_exactly most_levels ts ds ss).0 (complete_from (limited most_levels ts begin) ds ss e)),
  (λ d. ap judged ((accepted_exactly most_levels ts ds ss).1 d)),
)

over_limit : (ts rest : List Token) (t : Token) (l : Limit) → limited most_levels ts begin ≡ beyond l t rest → Why ts t rest (number l)
over_limit ts rest t levels e = too_deep ((seven_exactly most_levels ts rest t).0 e)
over_limit ts rest t nests e = in_function_body ((eight_exactly most_levels ts rest t).0 e)

refused_so : (ts : List Token) (n p : ℕ) (r : Reading) → limited most_levels ts begin ≡ r → judged r ≡ refused n p
    → (t : Token) × (rest : List Token) × (place t ≡ p) × Why ts t rest n
refused_so ts n p (complete ds ss) e f = absurd (subst IsAccepted f tt)
refused_so ts n p (barred t rest) e f = (t, rest, ap place_of f, subst (Why ts t rest) (ap number_of f) (no_program ((six_exactly most_levels ts rest t).0 e)))
refused_so ts n p (beyond l t rest) e f = (t, rest, ap place_of f, subst (Why ts t rest) (ap number_of f) (over_limit ts rest t l e))
refused_so ts n p unfinished e f = absurd (subst IsIncomplete f tt)

so_refused : {ts rest : List Token} {t : Token} {n : ℕ} → Why ts t rest n → reads ts ≡ refused n (place t)
so_refused {ts} {rest} {t} (no_program x) = ap judged ((six_exactly most_levels ts rest t).1 x)
so_refused {ts} {rest} {t} (too_deep x) = ap judged ((seven_exactly most_levels ts rest t).1 x)
so_refused {ts} {rest} {t} (in_function_body x) = ap judged ((eight_exactly most_levels ts rest t).1 x)

pub refuses : Refuses
refuses ts n p = (
  (λ e. refused_so ts n p (limited most_levels ts begin) refl e),
  (λ d. so_refused d.3 ∙ ap (refused n) d.2),
)

incomplete_from : (r : Reading) → judged r ≡ incomplete → r ≡ unfinished
incomplete_from (complete ds ss) e = absurd (subst IsAccepted e tt)
incomplete_from (barred t rest) e = absurd (subst IsRefused e tt)
incomplete_from (beyond l t rest) e = absurd (subst IsRefused e tt)
incomplete_from unfinished e = refl

pub judges : Judges
judges before t l e = decided most_levels before t l (incomplete_from (limited most_levels (before ++ (t ∷ [])) begin) e)
