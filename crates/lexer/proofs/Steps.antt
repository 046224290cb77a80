-- What each step of the lexer finds and leads to.
use Rattle.std.proofs.Common.{◌≡◌, ℕ, ◌+◌, ◌-◌, ◌*◌, ◌<◌, ◌≤◌, Bool, true, false, cond, nat_lt, List, [], ◌∷◌, ◌++◌, length, get_or, drop, None, refl, sym, ap, ◌∙◌, subst, arith}
use Rattle.std.specs.Option.{option_to_list}
use Rattle.std.proofs.lemmas.Bool.{ltb-true, ltb-false}
use Rattle.stack.specs.Held.{held, room, top_of}
use Rattle.stack.specs.declared.Stack.{Stack}
use Rattle.lexis.proofs.Going.{ended}
use Rattle.lexis.specs.Bytes.{class_of}
use Rattle.lexis.specs.Lines.{closing, is_fault, after, level_of, lex}
use Rattle.lexis.specs.Runs.{ends_line}
use Rattle.lexis.specs.Scans.{scan_of}
use Rattle.lexis.specs.Tokens.{Tok, model, sized}
use Rattle.lexis.specs.declared.faults.Fault.{Fault}
use Rattle.lexis.specs.declared.lines.Level.{Level}
use Rattle.lexis.specs.declared.lines.Mode.{Mode}
use Rattle.lexis.specs.declared.lines.Spot.{Spot}
use Rattle.lexis.specs.declared.scans.Sized.{Sized}
use Rattle.lexis.specs.declared.tokens.Token.{Token}
use Rattle.lexer.specs.Gaps.{is_gap, width}
use Rattle.lexer.specs.Left.{free, coming, Stepped}
use Rattle.lexer.specs.Room.{within}
use Rattle.lexer.specs.declared.state.Step.{Step}
use Rattle.lexer.proofs.Moves.{lex_over, newline_inside, token_inside, wrong_first, same_first, nowhere_first, deeper_first, full_first, shallower_first, one_fewer}
use Rattle.lexer.proofs.Rooms.{held_fits}
use Rattle.lexer.proofs.Standing.{stands}

abbrev pub at : ℕ → Mode → Spot
at p m = record { pos = p; mode = m }

abbrev pub to : Token → ℕ → Mode → Step
to t p m = record { token = t; next = at p m }

pub along : (s : List ℕ) (l : Stack ℕ) (x : Spot) (m : Stack ℕ) {t u : Step} → t ≡ u → Stepped s l x u m → Stepped s l x t m
along s l x m e h = subst (λ (v : Step). Stepped s l x v m) (sym e) h

none_top : (ls : List ℕ) → None ≡ top_of ls → ls ≡ []
none_top [] e = refl
none_top (l ∷ ls) e = cc

no_width : (b : Bool) (m : Mode) → m ≡ cond b Mode.Over Mode.Inside → width m ≡ 0
no_width true m e = ap width e
no_width false m e = ap width e

-- past the end of the source
module _ (s : List ℕ) (l : Stack ℕ) (p : ℕ) where
  pub over : coming s l (at p Mode.Over) ≡ []
  over = ap (within (free l)) (lex_over (held l) 0 p (drop p s))

  module _ (h : length s ≤ p) where
    pub line_ended : Stepped s l (at p Mode.Inside) (to Token.Newline p (Mode.Fresh 0)) l
    line_ended = record {
      given =
          ap (within (free l)) (ended s p Mode.Inside (held l) h)
          ∙ ap (λ (k : List (ℕ × Tok)). (p, Tok.newline) ∷ within (free l) k) (sym (ended s p (Mode.Fresh 0) (held l) h));
      stands = tt;
      narrow = omega arith;
    }

    pub level_closed : (m : Stack ℕ) (c v : ℕ) → held l ≡ v ∷ held m → room m ≡ room l → Stepped s l (at p (Mode.Fresh c)) (to Token.Dedent p (Mode.Fresh 0)) m
    level_closed m c v e r =
        let f : free l + 1 ≡ free m = omega (arith, ap length e, r, held_fits l) in
        record {
          given =
              ap (within (free l)) (ended s p (Mode.Fresh c) (held l) h ∙ ap (closing p) e)
              ∙ (λ i. (p, Tok.dedent) ∷ within (f i) (sym (ended s p (Mode.Fresh 0) (held m) h) i));
          stands = tt;
          narrow = omega arith;
        }

    pub all_closed : (m : Stack ℕ) (c : ℕ) → None ≡ top_of (held l) → Stepped s l (at p (Mode.Fresh c)) (to Token.End p Mode.Over) m
    all_closed m c e = record {
      given =
          ap (within (free l)) (ended s p (Mode.Fresh c) (held l) h ∙ ap (closing p) (none_top (held l) e))
          ∙ ap (λ (k : List (ℕ × Tok)). (p, Tok.done) ∷ within (free m) k) (sym (lex_over (held m) 0 p (drop p s)));
      stands = tt;
      narrow = omega arith;
    }

-- the token r stands at place p
module _ (s : List ℕ) (l : Stack ℕ) (p : ℕ) (r : Sized) (h : p < length s) (q : sized r ≡ scan_of (drop p s)) where
  pub in_line : (m : Mode) → is_gap Mode.Inside (class_of (get_or s p 0)) ≡ false → ends_line (class_of (get_or s p 0)) ≡ false → m ≡ after (model r.token) → Stepped s l (at p Mode.Inside) (to r.token (p + r.size) m) l
  in_line m e f g = record {
    given = token_inside s p (model r.token) r.size h q (free l) (held l) m e f g;
    stands = stands s p r q;
    narrow = omega (arith, no_width (is_fault (model r.token)) m g);
  }

  module _ (c : ℕ) (e : is_gap (Mode.Fresh c) (class_of (get_or s p 0)) ≡ false) where
    pub wrong : is_fault (model r.token) ≡ true → Stepped s l (at p (Mode.Fresh c)) (to r.token p Mode.Over) l
    wrong w = record {
      given = wrong_first s p (model r.token) r.size h q (free l) c (held l) e w;
      stands = stands s p r q;
      narrow = omega arith;
    }

    module _ (w : is_fault (model r.token) ≡ false) where
      pub same : Level.Same ≡ level_of c (held l) → Stepped s l (at p (Mode.Fresh c)) (to r.token (p + r.size) Mode.Inside) l
      same g = record {
        given = same_first s p (model r.token) r.size h q c e w (free l) (held l) g;
        stands = stands s p r q;
        narrow = omega arith;
      }

      pub misfit : Level.Nowhere ≡ level_of c (held l) → Stepped s l (at p (Mode.Fresh c)) (to (Token.Fault Fault.Indentation) p Mode.Over) l
      misfit g = record {
        given = nowhere_first s p (model r.token) r.size h q c e w (free l) (held l) g;
        stands = tt;
        narrow = omega arith;
      }

      pub deeper : (m : Stack ℕ) → Level.Deeper ≡ level_of c (held l) → true ≡ nat_lt (length (held l)) (room l) → held m ≡ c ∷ held l → room m ≡ room l → Stepped s l (at p (Mode.Fresh c)) (to Token.Indent p Mode.Inside) m
      deeper m g t i k =
          let some : length (held l) < room l = ltb-true (length (held l)) (room l) (sym t) in
          let f : free l - 1 ≡ free m = omega (arith, ap length i, k) in
          record {
            given =
                deeper_first s p (model r.token) r.size h q c e w (free l) (held l) g (omega (arith, some))
                ∙ (λ j. (p, Tok.indent) ∷ within (f j) (lex Mode.Inside (sym i j) 0 p (drop p s)));
            stands = tt;
            narrow = omega arith;
          }

      pub full : (m : Stack ℕ) → Level.Deeper ≡ level_of c (held l) → false ≡ nat_lt (length (held l)) (room l) → Stepped s l (at p (Mode.Fresh c)) (to (Token.Fault Fault.Indentation) p Mode.Over) m
      full m g t =
          let none : free l ≡ 0 = omega (arith, ltb-false (length (held l)) (room l) (sym t)) in
          record {
            given =
                full_first s p (model r.token) r.size h q c e w (free l) (held l) g none
                ∙ ap (λ (k : List (ℕ × Tok)). (p, Tok.fault Fault.Indentation) ∷ within (free m) k) (sym (lex_over (held m) 0 p (drop p s)));
            stands = tt;
            narrow = omega arith;
          }

      pub shallower : (m : Stack ℕ) → c ≤ 8 * p → Level.Shallower ≡ level_of c (held l) → held l ≡ option_to_list (top_of (held l)) ++ held m → room m ≡ room l → Stepped s l (at p (Mode.Fresh c)) (to Token.Dedent p (Mode.Fresh c)) m
      shallower m n g i k =
          let fewer = one_fewer c (held l) (held m) (top_of (held l)) i refl g in
          let f : free l + 1 ≡ free m = omega (arith, fewer, k, held_fits l) in
          record {
            given =
                shallower_first s p (model r.token) r.size h q c e w (free l) (held l) (held m) (top_of (held l)) i refl g
                ∙ (λ j. (p, Tok.dedent) ∷ within (f j) (lex (Mode.Fresh c) (held m) 0 p (drop p s)));
            stands = tt;
            narrow = n;
          }

pub line_end : (s : List ℕ) (l : Stack ℕ) (p : ℕ) → p < length s → ends_line (class_of (get_or s p 0)) ≡ true → Stepped s l (at p Mode.Inside) (to Token.Newline (p + 1) (Mode.Fresh 0)) l
line_end s l p h f = record {
  given = newline_inside (free l) s p (held l) h f;
  stands = tt;
  narrow = omega arith;
}
