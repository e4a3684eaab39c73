use Rattle.std.proofs.Common.{◌≡◌, ℕ, ◌≤◌, ◌&&◌, leb, List, length, Ok, sym, ap, ◌∙◌, subst, replicate, arith, rules}
use Rattle.std.proofs.lemmas.Bool.{and_from, cond-true, le-leb}
use Rattle.formats.specs.Entries.{opening}
use Rattle.media.specs.Media.{Fresh}
use Rattle.journal.specs.Journals.{left_of, newest_of}
use Rattle.journal.proofs.Saves.{fresh_zeros}
use Rattle.journal.proofs.opening.fresh.Goals as goal

pub returns : goal.returns
returns c =
    let n = length c.args.bytes.now in
    let some : 1760 ≤ n = omega arith in
    let few : n ≤ 65536 = omega arith in
    let P : List ℕ → Type 0 = λ cs. Fresh (newest_of (opening cs)) (left_of (length cs) (opening cs)) in
    let zeros : c.fill.new.self ≡ replicate n 0 = search rules in
    record {
      value = ap Ok zeros ∙ sym (cond-true (leb 1760 n && leb n 65536) _ _ (and_from _ _ (le-leb 1760 n some) (le-leb n 65536 few)));
      fresh = subst P (sym zeros) (fresh_zeros n some few);
    }
