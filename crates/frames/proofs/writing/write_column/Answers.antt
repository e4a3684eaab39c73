use Rattle.std.proofs.Common.{◌≡◌, ℕ, ◌+◌, ◌-◌, ◌*◌, ◌∷◌, ◌++◌, length, take, drop, sym, refl, ap, ◌∙◌, arith, rules}
use Rattle.std.proofs.lemmas.List.{length-drop}
use Rattle.std.specs.List.{flat_map}
use Rattle.values.specs.BigEndian.{to_bytes}
use Rattle.formats.proofs.Codes.{Code, length-joined}
use Rattle.frames.proofs.Writes.{length_mid, wrote_more}
use Rattle.frames.proofs.writing.write_column.Goals as goal

pub returns-clause-after : goal.returns-clause-after
returns-clause-after g c =
    let v = g.V.Value in
    let met = g.met.V.Value in
    let code : Code v.width v.bytes_of v.value_of v.valid = record { most = met.small.1; fills = met.fills; back = met.back; forth = met.forth; fits = met.fits } in
    let xs = c.args.values.now in
    let col = c.args.c in
    let a = c.args.a in
    let out = c.args.out.now in
    let o = c.copy_from_slice.new.self ++ drop 9 out in
    let n : ℕ = a.count in
    let body : ℕ = 6 + c.width.result * c.from.result in
    let k : ℕ = (3 + body) - 9 in
    let J = flat_map v.bytes_of xs in
    let H = 2 ∷ (to_bytes 2 body ++ (col ∷ n ∷ to_bytes 4 a.top)) in
    let w_is : c.width.result * c.from.result ≡ v.width * n = ap (λ m. m * c.from.result) c.width.ensures ∙ ap (λ m. v.width * m) c.from.ensures in
    let k_is : k ≡ v.width * n = omega arith in
    let long : length J ≡ v.width * length xs = length-joined code xs c.write_values.ensures.valid in
    let n_is : v.width * length xs ≡ v.width * n = ap (λ m. v.width * m) c.requires.values in
    let head : c.copy_from_slice.new.self ≡ H = search rules in
    let o_is : o ≡ H ++ drop 9 out = ap (λ h. h ++ drop 9 out) head in
    let lm = length_mid o 9 k (v.width * n) k_is (omega (arith, ap length o_is, length-drop 9 out, c.requires.out)) in
    let wrote = c.write_values.ensures.after ∙ ap (λ m. J ++ drop m (take k (drop 9 o))) n_is in
    let wm = wrote_more H o out c.write_values.new.out J (take k (drop 9 o)) 9 k (v.width * n) refl o_is k_is wrote lm in
    let size : body ≡ length (col ∷ length xs ∷ (to_bytes 4 a.top ++ J)) = omega arith in
    wm ∙ ap (λ m. ((2 ∷ (to_bytes 2 m ++ (col ∷ n ∷ to_bytes 4 a.top))) ++ J) ++ drop (9 + v.width * n) out) size ∙ ap (λ m. ((2 ∷ (to_bytes 2 (length (col ∷ length xs ∷ (to_bytes 4 a.top ++ J))) ++ (col ∷ m ∷ to_bytes 4 a.top))) ++ J) ++ drop (9 + v.width * n) out) (sym c.requires.values)
