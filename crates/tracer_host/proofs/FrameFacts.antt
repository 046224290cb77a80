-- A frame that is added to whole frames.
use Rattle.std.proofs.Common.{◌≡◌, ℕ, zero, suc, List, [], ◌∷◌, ◌++◌, length, refl, ap, ◌∙◌, arith}
use Rattle.host.specs.Calls.{fed}
use Rattle.tracer_host.specs.Files.{FramesReadBack, frames_of}
use Rattle.tracer_host.specs.Frames.{closed, pending, unframed}

closed_append : (n : ℕ) (xs ys : List ℕ) → closed n (xs ++ ys) ≡ closed n xs ++ ys
closed_append n xs ys = grind arith

pub unframed_append : (n : ℕ) (xs ys : List ℕ) → unframed n (xs ++ ys) ≡ unframed n xs ++ unframed (pending n xs) ys
unframed_append n [] ys = refl
unframed_append zero (b ∷ bs) ys = ap (closed b) (unframed_append b bs ys) ∙ closed_append b (unframed b bs) (unframed (pending b bs) ys)
unframed_append (suc n) (b ∷ bs) ys = ap (λ x. b ∷ x) (ap (closed n) (unframed_append n bs ys) ∙ closed_append n (unframed n bs) (unframed (pending n bs) ys))

pub pending_append : (n : ℕ) (xs ys : List ℕ) → pending n (xs ++ ys) ≡ pending (pending n xs) ys
pending_append n [] ys = refl
pending_append zero (b ∷ bs) ys = pending_append b bs ys
pending_append (suc n) (b ∷ bs) ys = pending_append n bs ys

line_unframed : (l : List ℕ) → closed (length l) (unframed (length l) l) ≡ l ++ (10 ∷ [])
line_unframed [] = refl
line_unframed (b ∷ bs) = let h = line_unframed bs in grind arith

line_pending : (l : List ℕ) → pending (length l) l ≡ 0
line_pending [] = refl
line_pending (b ∷ bs) = line_pending bs

module _ (xs l : List ℕ) (whole : pending 0 xs ≡ 0) where
  pub frame_unframed : unframed 0 (xs ++ (length l ∷ l)) ≡ unframed 0 xs ++ (l ++ (10 ∷ []))
  frame_unframed =
      unframed_append 0 xs (length l ∷ l)
      ∙ ap (λ n. unframed 0 xs ++ unframed n (length l ∷ l)) whole
      ∙ ap (λ x. unframed 0 xs ++ x) (line_unframed l)

  pub frame_pending : pending 0 (xs ++ (length l ∷ l)) ≡ 0
  frame_pending = pending_append 0 xs (length l ∷ l) ∙ ap (λ n. pending n (length l ∷ l)) whole ∙ line_pending l

-- frames read back as the lines that they hold
pub frames_read_back : FramesReadBack
frames_read_back [] = refl
frames_read_back (l ∷ ls) =
    unframed_append 0 (length l ∷ l) (frames_of ls)
    ∙ ap (λ n. unframed 0 (length l ∷ l) ++ unframed n (frames_of ls)) (line_pending l)
    ∙ ap (λ x. x ++ unframed 0 (frames_of ls)) (line_unframed l)
    ∙ ap (λ x. fed l ++ x) (frames_read_back ls)
