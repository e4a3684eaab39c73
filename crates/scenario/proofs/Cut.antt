-- A word cut off the front of a text is the first of its words. Assumes nothing.
use Rattle.std.proofs.Common.{◌≡◌, ℕ, suc, ◌<◌, ◌≤◌, true, false, List, [], ◌∷◌, ◌++◌, length, get_or, None, Some, Option, MatchOption, refl, sym, ap, ◌∙◌, ⊎_elim, arith}
use Rattle.std.specs.Char.{is_ascii_whitespace}
use Rattle.std.specs.List.{All, AllPass}
use Rattle.std.specs.Str.{NoCharPasses}
use Rattle.std.specs.Str.Iter.{CutsAsciiWord, IsAsciiSeparator}
use Rattle.std.specs.Borrow.{Bor}
use Rattle.std.proofs.lemmas.Bool.{cases_lt, lt-ltb}
use Rattle.std.proofs.lemmas.Bool.Decides.{nat_tests}
use Rattle.std.proofs.lemmas.List.{append-nil, get_or_default}
use Rattle.std.proofs.lemmas.List.Splits.{slice_split-cons_yes, slice_split_at, slice_split_none}
use Rattle.std.proofs.lemmas.Str.{NoCharPasses-byte}
use Rattle.scenario.specs.Parsing.{words}

-- white space in front
words-gap : (gap bs : List ℕ) → AllPass is_ascii_whitespace gap → words (gap ++ bs) ≡ words bs
unfolding words
words-gap [] bs h = refl
words-gap (c ∷ gap) bs h =
    let here : is_ascii_whitespace c ≡ true = h 0 0 (omega arith) in
    rw (slice_split-cons_yes is_ascii_whitespace c (gap ++ bs) here) (words-gap gap bs (λ k d l. h (suc k) d (omega arith)))

-- the bytes of a word are no white space
no_space : (w : List ℕ) → NoCharPasses is_ascii_whitespace w → All (λ c. is_ascii_whitespace c ≡ false) w
no_space w h = λ k d l.
    rw (get_or_default w k d 0 l) (⊎_elim (λ (low : get_or w k 0 < 128). NoCharPasses-byte is_ascii_whitespace w k h l low) (λ (high : 128 ≤ get_or w k 0). grind (arith, nat_tests)) (cases_lt (get_or w k 0) 128))

-- a word, then a byte of white space
words-word : (w : List ℕ) (c : ℕ) (bs : List ℕ) → 0 < length w → All (λ d. is_ascii_whitespace d ≡ false) w → is_ascii_whitespace c ≡ true → words (w ++ c ∷ bs) ≡ w ∷ words bs
unfolding words
words-word w c bs some none space = rw (slice_split_at is_ascii_whitespace w c bs none space, lt-ltb 0 (length w) some)

-- a word alone
words-last : (w : List ℕ) → 0 < length w → All (λ d. is_ascii_whitespace d ≡ false) w → words w ≡ w ∷ []
unfolding words
words-last w some none = rw (slice_split_none is_ascii_whitespace w none, lt-ltb 0 (length w) some)

words-nil : words [] ≡ []
unfolding words
words-nil = refl

-- what stands behind a word
words-behind : (w sep rest : List ℕ) → 0 < length w → All (λ d. is_ascii_whitespace d ≡ false) w → IsAsciiSeparator sep rest → words (w ++ (sep ++ rest)) ≡ w ∷ words rest
words-behind w [] [] some none at_end = rw (append-nil w, words-last w some none, words-nil)
words-behind w [] (c ∷ rest) some none at_end = let none_left : length (c ∷ rest) ≡ 0 = at_end.2 refl in absurd (omega arith)
words-behind w (c ∷ []) rest some none at_end = words-word w c rest some none (at_end.0 0 0 (omega arith))
words-behind w (c ∷ d ∷ sep) rest some none at_end = absurd (omega (arith, at_end.1))

words_none : (bs : List ℕ) → length bs ≡ 0 → words bs ≡ []
words_none [] h = words-nil
words_none (c ∷ bs) h = absurd (omega arith)

-- what `next` makes of bs: it is cut to rest
pub words-cut : (bs rest : List ℕ) (r : Option (Bor (List ℕ))) → CutsAsciiWord bs r rest (λ gap x sep. gap ++ (x ++ (sep ++ rest))) → MatchOption r ((words bs ≡ []) × (words rest ≡ [])) (λ w. words bs ≡ w.now ∷ words rest)
words-cut bs rest None h = (ap words (sym (append-nil bs)) ∙ words-gap bs [] h.0 ∙ words-nil, words_none rest h.1)
words-cut bs rest (Some w) h =
    let g = h.3 in
    rw g.2 (words-gap g.0 (w.now ++ (g.1 ++ rest)) g.3 ∙ words-behind w.now g.1 rest h.0 (no_space w.now h.1) g.4)
