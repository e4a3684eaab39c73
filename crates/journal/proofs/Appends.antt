-- What an append leaves. Assumes nothing.
use Rattle.std.proofs.Common.{◌≡◌, ℕ, ◌+◌, ◌-◌, List, ◌++◌, length, take, drop, sym, ap, ◌∙◌, arith}
use borrow.Rule.Slice.PartMut.{put_mid}
use Rattle.std.proofs.lemmas.List.{append-nil, drop_all, drop_at, length-drop, take_at, take_rest}
use Rattle.formats.specs.Entries.{Entry, entry_field}
use Rattle.journal.specs.Journals.{appended, closed}

-- a write to all from a place on
pub rest_put : (xs ys : List ℕ) (a : ℕ) → put_mid a (length xs - a) xs ys ≡ take a xs ++ ys
rest_put xs ys a =
    let d = drop_all (length xs - a) (drop a xs) (omega (arith, length-drop a xs)) in
    ap (λ z. take a xs ++ (ys ++ z)) d ∙ ap (λ z. take a xs ++ z) (append-nil ys)

-- the end is written behind the entry
pub closing : (out ws rest zs : List ℕ) (n : ℕ) → out ≡ ws ++ rest → n ≡ length ws → zs ≡ closed (take (length out - n) (drop n out)) → put_mid n (length out - n) out zs ≡ ws ++ closed rest
closing out ws rest zs n is e close =
    let t : take n out ≡ ws = ap (take n) is ∙ take_at ws rest n (sym e) in
    let d : drop n out ≡ rest = ap (drop n) is ∙ drop_at ws rest n (sym e) in
    rest_put out zs n ∙ ap (λ z. z ++ zs) t ∙ ap (λ z. ws ++ z) (close ∙ ap closed (take_rest out n ∙ d))

-- into the bytes from the end of the entries on
pub put-appended : (bs out : List ℕ) (end : ℕ) (e : Entry) → out ≡ entry_field e ++ closed (drop (length e.frame + 4) (take (length bs - end) (drop end bs))) → put_mid end (length bs - end) bs out ≡ appended bs end e
put-appended bs out end e is = rest_put bs out end ∙ ap (λ z. take end bs ++ z) (is ∙ ap (λ z. entry_field e ++ closed (drop (length e.frame + 4) z)) (take_rest bs end))
