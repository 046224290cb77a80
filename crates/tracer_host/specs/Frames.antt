-- Frames: lines in a buffer, each as a byte that is its length and then its text.
use Rattle.std.specs.Prelude.{ℕ, zero, suc, cond, List, [], ◌∷◌, length, ◌==◌}

-- a line as a frame
abbrev pub framed : List ℕ → List ℕ
framed line = length line ∷ line

-- a line with n bytes to come ends here if that is none
abbrev pub closed : ℕ → List ℕ → List ℕ
closed n rest = cond (n == 0) (10 ∷ rest) rest

-- the lines of some frames, each with a line feed, where n bytes of the first line are to come
abbrev pub unframed : ℕ → List ℕ → List ℕ
unframed n [] = []
unframed zero (b ∷ bs) = closed b (unframed b bs)
unframed (suc n) (b ∷ bs) = b ∷ closed n (unframed n bs)

-- how many bytes of a line are to come at the end
abbrev pub pending : ℕ → List ℕ → ℕ
pending n [] = n
pending zero (b ∷ bs) = pending b bs
pending (suc n) (b ∷ bs) = pending n bs
