-- What is left of a Vec, once its front is overwritten and all behind that is cut off. Assumes nothing.
use Rattle.std.proofs.Common.{◌≡◌, ℕ, ◌≤◌, List, ◌++◌, length, take, append_assoc}
use Rattle.std.proofs.lemmas.List.{take-take, take_at}

pub front : (n m : ℕ) (f b d : List ℕ) → length f ≡ n → n ≤ m → take n (take m ((f ++ b) ++ d)) ≡ f
front n m f b d l h = rw (take-take n m ((f ++ b) ++ d) h, append_assoc f b d) (take_at f (b ++ d) n l)
