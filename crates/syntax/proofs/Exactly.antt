-- The verdict on a source is the verdict on its tokens, unless it is too long.
use mathlib.Core.Bool.{Bool, true, false, cond}
use mathlib.Core.List.{List, [], ◌∷◌, ◌++◌, map}
use mathlib.Core.Logic.{inl, inr}
use mathlib.Core.Path.{◌≡◌, refl, sym, ap, ◌∙◌}
use Prim.Native.Nat.{ℕ, ◌+◌, ◌-◌, ◌≤◌, ◌<◌}
use native.Mathlib.Omega.{arith}
use borrow.Author.Tests.{ltb-true, ltb-false}
use lib.Dec.{T, ltb}
use lib.ListN.{length}
use Rattle.grammar.specs.Tree.{Decls, Stmts, Token}
use Rattle.grammar.specs.Verdict.{accepted, incomplete, reads, refused}
use Rattle.grammar.proofs.Refused.{unique}
use Rattle.grammar.proofs.Verdict.{accepts, judges, refuses}
use Rattle.grammar.specs.Last.{last}
use Rattle.lexis.specs.Balance.{Balanced, Opens}
use Rattle.lexis.specs.Lines.{tokens}
use Rattle.lexis.specs.Tokens.{Tok}
use Rattle.lexis.proofs.Stands.{laws}
use Rattle.syntax.specs.Laws.{ReadsAs, ReadsExactly, RefusedFor}
use Rattle.syntax.specs.Reading.{reading, source_tokens, token_of}
use Rattle.syntax.proofs.Places.{refused_within}

-- a source is judged by its tokens, or it is too long
data Judged (s : List ℕ) : Type 0 where
  long : 4096 < length s → reading s ≡ refused 1 0 → Judged s
  by_tokens : length s ≤ 4096 → reading s ≡ reads (source_tokens s) → Judged s

by_length : (s : List ℕ) (t : Bool) → ltb 4096 (length s) ≡ t → Judged s
by_length s true e = long (ltb-true 4096 (length s) e) (ap (λ b. cond b (refused 1 0) (reads (source_tokens s))) e)
by_length s false e = by_tokens (ltb-false 4096 (length s) e) (ap (λ b. cond b (refused 1 0) (reads (source_tokens s))) e)

judged : (s : List ℕ) → Judged s
judged s = by_length s (ltb 4096 (length s)) refl

accepted_so : (s : List ℕ) (ds : Decls) (ss : Stmts) → Judged s → reading s ≡ accepted ds ss → ReadsAs s ds ss
accepted_so s ds ss (long l e) h = let z : ◌≡◌ {A = ℕ} 0 1 = cc in absurd (omega arith)
accepted_so s ds ss (by_tokens l e) h = (l, (accepts (source_tokens s) ds ss).0 (sym e ∙ h))

accepted_if : (s : List ℕ) (ds : Decls) (ss : Stmts) → Judged s → ReadsAs s ds ss → reading s ≡ accepted ds ss
accepted_if s ds ss (long l e) r = let k = r.0 in absurd (omega arith)
accepted_if s ds ss (by_tokens l e) r = e ∙ (accepts (source_tokens s) ds ss).1 r.1

refused_so : (s : List ℕ) (n p : ℕ) → Judged s → reading s ≡ refused n p → RefusedFor s n p
refused_so s n p (long l e) h = inl (l, cc, cc)
refused_so s n p (by_tokens l e) h = inr (l, (refuses (source_tokens s) n p).0 (sym e ∙ h))

refused_if : (s : List ℕ) (n p : ℕ) → Judged s → RefusedFor s n p → reading s ≡ refused n p
refused_if s n p (long l e) (inl r) = let a = r.1 in let b = r.2 in cc
refused_if s n p (long l e) (inr r) = let k = r.0 in absurd (omega arith)
refused_if s n p (by_tokens l e) (inl r) = let k = r.0 in absurd (omega arith)
refused_if s n p (by_tokens l e) (inr r) = e ∙ (refuses (source_tokens s) n p).1 r.1

-- the tokens of a source end with END or a fault
record Ended (ts : List (ℕ × Tok)) : Type 0 where
  before : List Token
  end : Token
  whole : map token_of ts ≡ before ++ (end ∷ [])
  final : T (last end)

one_before : (x : ℕ × Tok) (xs : List (ℕ × Tok)) → Ended xs → Ended (x ∷ xs)
one_before x xs e = record { before = token_of x ∷ e.before; end = e.end; whole = ap (λ ts. token_of x ∷ ts) e.whole; final = e.final }

final_one : (x : ℕ × Tok) (xs : List (ℕ × Tok)) → xs ≡ [] → T (last (token_of x)) → Ended (x ∷ xs)
final_one x xs e l = record { before = []; end = token_of x; whole = ap (λ ts. token_of x ∷ map token_of ts) e; final = l }

-- what comes after a token, by induction; its own part is by its kind
by_token : (n : ℕ) (p : ℕ) (t : Tok) (xs : List (ℕ × Tok)) → ((k : ℕ) → Balanced k xs → Ended xs) → Opens t n xs (λ k. Balanced k xs) → Ended ((p, t) ∷ xs)
by_token n p (Tok.name w) xs later b = one_before (p, Tok.name w) xs (later n b)
by_token n p (Tok.str w) xs later b = one_before (p, Tok.str w) xs (later n b)
by_token n p (Tok.int v) xs later b = one_before (p, Tok.int v) xs (later n b)
by_token n p (Tok.keyword k) xs later b = one_before (p, Tok.keyword k) xs (later n b)
by_token n p (Tok.symbol o) xs later b = one_before (p, Tok.symbol o) xs (later n b)
by_token n p Tok.newline xs later b = one_before (p, Tok.newline) xs (later n b)
by_token n p Tok.indent xs later b = one_before (p, Tok.indent) xs (later (n + 1) b)
by_token n p Tok.dedent xs later b = one_before (p, Tok.dedent) xs (later (n - 1) b.1)
by_token n p Tok.done xs later b = final_one (p, Tok.done) xs b.1 tt
by_token n p (Tok.fault f) xs later b = final_one (p, Tok.fault f) xs b tt

ended : (n : ℕ) (ts : List (ℕ × Tok)) → Balanced n ts → Ended ts
ended n [] b = absurd b
ended n (x ∷ xs) b = by_token n x.0 x.1 xs (λ k. ended k xs) b

never_incomplete : (s : List ℕ) → Judged s → reading s ≡ incomplete → ⊥
never_incomplete s (long l e) h = let z : ◌≡◌ {A = ℕ} 0 1 = cc in omega arith
never_incomplete s (by_tokens l e) h =
    let x = ended 0 (tokens s) (laws s).balanced in
    judges x.before x.end x.final (ap reads (sym x.whole) ∙ sym e ∙ h)

pub reads_exactly : ReadsExactly
reads_exactly = record {
  accepts = λ s ds ss. (accepted_so s ds ss (judged s), accepted_if s ds ss (judged s));
  refuses = λ s n p. (refused_so s n p (judged s), refused_if s n p (judged s));
  unique = λ s ds es ss us a b. unique (source_tokens s) ds es ss us a.1.0 b.1.0;
  judges = λ s. never_incomplete s (judged s);
  places = λ s n p e. refused_within s n p (refused_so s n p (judged s) e);
}
