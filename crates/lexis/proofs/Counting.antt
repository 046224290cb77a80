-- A byte gives at most three tokens, counting the DEDENTs that it leads to.
use Rattle.std.proofs.Common.{ℕ, zero, suc, ◌+◌, ◌*◌, ◌≤◌, Bool, true, false, cond, List, [], ◌∷◌, length, get_or, arith, length-append}
use Rattle.lexis.specs.Bytes.{class_of}
use Rattle.lexis.specs.Count.{TokensFew}
use Rattle.lexis.specs.Lines.{Move, choose, closing, ending, fresh_by, in_line, inside_by, level_of, lex, move, settle}
use Rattle.lexis.specs.Tokens.{Tok}
use Rattle.lexis.specs.declared.bytes.Class.{Class}
use Rattle.lexis.specs.declared.bytes.Class.TheVariants.{Blank, LineEnd, Hash, Letter, Digit, Quote, Mark, Other}
use Rattle.lexis.specs.declared.lines.Level.{Level}
use Rattle.lexis.specs.declared.lines.Mode.{Mode}

-- the tokens of a move and the levels that it leaves, against the levels before
abbrev Cheap : List ℕ → Move → Type 0
Cheap ls v = length v.out + length v.levels ≤ 3 + length ls

chosen : (v : Level) (p c : ℕ) (s : Tok × ℕ) (ls : List ℕ) (later : Move) → length later.out + length later.levels ≤ 2 + length ls → Cheap ls (choose v p c s ls later)
chosen Level.Same p c s ls later h = omega arith
chosen Level.Deeper p c s ls later h = omega arith
chosen Level.Shallower p c s ls later h = omega arith
chosen Level.Nowhere p c s ls later h = omega arith

settled : (p c : ℕ) (s : Tok × ℕ) (ls : List ℕ) → Cheap ls (settle p c s ls)
settled p c s [] = chosen (level_of c []) p c s [] (in_line p [] s) (omega arith)
settled p c s (l ∷ ls) = let h = settled p c s ls in chosen (level_of c (l ∷ ls)) p c s (l ∷ ls) (settle p c s ls) (omega arith)

by_fault : (b : Bool) (p c : ℕ) (s : Tok × ℕ) (ls : List ℕ) → Cheap ls (cond b (in_line p ls s) (settle p c s ls))
by_fault true p c s ls = omega arith
by_fault false p c s ls = settled p c s ls

fresh : (k : Class) (p c : ℕ) (ls r : List ℕ) → Cheap ls (fresh_by k p c ls r)
fresh Blank p c ls r = omega arith
fresh LineEnd p c ls r = omega arith
fresh Hash p c ls r = omega arith
fresh Letter p c ls r = by_fault _ p c _ ls
fresh Digit p c ls r = by_fault _ p c _ ls
fresh Quote p c ls r = by_fault _ p c _ ls
fresh Mark p c ls r = by_fault _ p c _ ls
fresh Other p c ls r = by_fault _ p c _ ls

inside : (k : Class) (p : ℕ) (ls r : List ℕ) → Cheap ls (inside_by k p ls r)
inside Blank p ls r = omega arith
inside LineEnd p ls r = omega arith
inside Hash p ls r = omega arith
inside Letter p ls r = omega arith
inside Digit p ls r = omega arith
inside Quote p ls r = omega arith
inside Mark p ls r = omega arith
inside Other p ls r = omega arith

moved : (m : Mode) (ls : List ℕ) (p : ℕ) (r : List ℕ) → Cheap ls (move m ls p r)
moved (Mode.Fresh c) ls p r = fresh (class_of (get_or r 0 0)) p c ls r
moved Mode.Inside ls p r = inside (class_of (get_or r 0 0)) p ls r
moved Mode.Over ls p r = omega arith

closed : (p : ℕ) (ls : List ℕ) → length (closing p ls) ≤ length ls + 1
closed p [] = omega arith
closed p (l ∷ ls) = let h = closed p ls in omega arith

ended : (m : Mode) (p : ℕ) (ls : List ℕ) → length (ending m p ls) ≤ length ls + 2
ended (Mode.Fresh c) p ls = let h = closed p ls in omega arith
ended Mode.Inside p ls = let h = closed p ls in omega arith
ended Mode.Over p ls = omega arith

lexed : (m : Mode) (ls : List ℕ) (k p : ℕ) (bs : List ℕ) → length (lex m ls k p bs) ≤ 3 * length bs + length ls + 2
unfolding lex
lexed m ls k p [] = let h = ended m p ls in omega arith
lexed m ls (suc k) p (b ∷ bs) = let h = lexed m ls k (p + 1) bs in omega arith
lexed m ls zero p (b ∷ bs) =
    let v = move m ls p (b ∷ bs) in
    let c = moved m ls p (b ∷ bs) in
    let h = lexed v.mode v.levels v.skip (p + 1) bs in
    let l = length-append v.out (lex v.mode v.levels v.skip (p + 1) bs) in
    omega arith

pub few : TokensFew
few s = let h = lexed (Mode.Fresh 0) [] 0 0 s in omega arith
