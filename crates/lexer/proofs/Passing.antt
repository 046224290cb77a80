-- What gives no token is passed over: a blank, a line end, a comment.
use Rattle.std.proofs.Common.{◌≡◌, ℕ, ◌+◌, ◌-◌, ◌*◌, ◌<◌, ◌≤◌, List, ◌∷◌, length, get_or, take, drop, sym, subst, ap, ◌∙◌, arith}
use Rattle.std.specs.List.{prefix_len}
use Rattle.std.proofs.lemmas.List.{take_rest}
use Rattle.lexis.proofs.Going.{fresh_move, inside_move, past_comment, comment_some}
use Rattle.lexis.specs.Bytes.{class_of}
use Rattle.lexis.specs.Lines.{lex, comment, widened}
use Rattle.lexis.specs.Runs.{in_run}
use Rattle.lexis.specs.declared.bytes.Class.TheVariants.{Blank, LineEnd, Hash}
use Rattle.lexis.specs.declared.lines.Mode.{Mode}
use Rattle.lexis.specs.declared.scans.Run.{Run}
use Rattle.lexer.specs.Gaps.{Passes, width}

-- from one spot by a size and a mode
abbrev pub Along : List ℕ → ℕ → Mode → ℕ × Mode → Type 0
Along s p m v = Passes s (record { pos = p; mode = m }) (record { pos = p + v.0; mode = v.1 })

pub along : (s : List ℕ) (p : ℕ) {m k : Mode} {v u : ℕ × Mode} → m ≡ k → v ≡ u → Along s p k u → Along s p m v
along s p {m = m} {u = u} e f h = subst (λ (w : ℕ × Mode). Along s p m w) (sym f) (subst (λ (w : Mode). Along s p w u) (sym e) h)

module _ (s : List ℕ) (p : ℕ) (h : p < length s) where
  pub widens : (c v : ℕ) → Blank ≡ class_of (get_or s p 0) → c ≤ 8 * p → v ≡ widened (get_or s p 0) c → v ≤ c + 8 → Along s p (Mode.Fresh c) (1, Mode.Fresh v)
  widens c v k n e l = record {
    leads = λ ls. fresh_move s p c ls Blank h k ∙ ap (λ w. lex (Mode.Fresh w) ls 0 (p + 1) (drop (p + 1) s)) (sym e);
    narrow = omega arith;
    on = omega arith;
    within = omega arith;
  }

  pub begins : (c : ℕ) → LineEnd ≡ class_of (get_or s p 0) → Along s p (Mode.Fresh c) (1, Mode.Fresh 0)
  begins c k = record { leads = λ ls. fresh_move s p c ls LineEnd h k; narrow = omega arith; on = omega arith; within = omega arith }

  pub goes_on : Blank ≡ class_of (get_or s p 0) → Along s p Mode.Inside (1, Mode.Inside)
  goes_on k = record { leads = λ ls. inside_move s p ls Blank h k; narrow = omega arith; on = omega arith; within = omega arith }

  module _ (n : ℕ) (k : Hash ≡ class_of (get_or s p 0)) (e : n ≡ prefix_len (in_run Run.Comment) (take (length s - p) (drop p s))) where
    comments : (m : Mode) → width m ≤ 8 * p → ((ls : List ℕ) → lex m ls 0 p (drop p s) ≡ lex m ls (comment (get_or s p 0 ∷ drop (p + 1) s)) (p + 1) (drop (p + 1) s)) → Along s p m (n, m)
    comments m w goes =
        let past = comment_some s p n h k (e ∙ ap (prefix_len (in_run Run.Comment)) (take_rest s p)) in
        record {
          leads = λ ls. goes ls ∙ past_comment s p n m ls past;
          narrow = omega (arith, past);
          on = omega (arith, past);
          within = past.1;
        }

    pub comments_fresh : (c : ℕ) → c ≤ 8 * p → Along s p (Mode.Fresh c) (n, Mode.Fresh c)
    comments_fresh c l = comments (Mode.Fresh c) l (λ ls. fresh_move s p c ls Hash h k)

    pub comments_inside : Along s p Mode.Inside (n, Mode.Inside)
    comments_inside = comments Mode.Inside (omega arith) (λ ls. inside_move s p ls Hash h k)
